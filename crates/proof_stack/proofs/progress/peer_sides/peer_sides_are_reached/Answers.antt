use Rattle.proof_stack.proofs.Partnered.{reached}
use Rattle.proof_stack.proofs.progress.peer_sides.peer_sides_are_reached.Goals as goal

pub returns : goal.returns
returns c = reached
