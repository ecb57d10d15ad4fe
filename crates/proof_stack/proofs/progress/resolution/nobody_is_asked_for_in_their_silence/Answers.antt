use Rattle.proof_stack.proofs.Polls.OwnSilence.{stays_asked}
use Rattle.proof_stack.proofs.progress.resolution.nobody_is_asked_for_in_their_silence.Goals as goal

pub returns : goal.returns
returns g c t s s' answer hop search many found early step = stays_asked hop search g.D.Device.moves t s s' answer many found early step
