use Rattle.proof_stack.proofs.StillPeerSides.{proceed}
use Rattle.proof_stack.proofs.progress.peer_sides.peer_sides_in_a_still_world_proceed.Goals as goal

pub returns : goal.returns
returns c = proceed
