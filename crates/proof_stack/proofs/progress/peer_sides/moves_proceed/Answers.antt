use Rattle.proof_stack.proofs.MovedOn.{proceed}
use Rattle.proof_stack.proofs.progress.peer_sides.moves_proceed.Goals as goal

pub returns : goal.returns
returns c = proceed
