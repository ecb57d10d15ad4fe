use Rattle.proof_stack.proofs.Polls.AskedAtOnce.{step_asks}
use Rattle.proof_stack.proofs.progress.resolution.neighbors_are_asked_for_at_once.Goals as goal

pub returns : goal.returns
returns g c = step_asks g.D.Device.moves
