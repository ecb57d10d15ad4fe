use Rattle.proof_stack.proofs.Polls.Asking.{step_asks}
use Rattle.proof_stack.proofs.progress.neighbors.unknown_neighbors_are_asked_for.Goals as goal

pub returns : goal.returns
returns g c = step_asks g.D.Device.moves
