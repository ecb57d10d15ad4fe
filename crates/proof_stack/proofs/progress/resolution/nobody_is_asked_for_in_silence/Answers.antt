use Rattle.proof_stack.proofs.Polls.InSilence.{silence_keeps}
use Rattle.proof_stack.proofs.progress.resolution.nobody_is_asked_for_in_silence.Goals as goal

pub returns : goal.returns
returns g c = silence_keeps g.D.Device.moves
