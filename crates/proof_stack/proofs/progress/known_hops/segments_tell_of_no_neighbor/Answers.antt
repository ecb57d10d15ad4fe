use Rattle.proof_stack.proofs.EventTold.{segment_tells}
use Rattle.proof_stack.proofs.progress.known_hops.segments_tell_of_no_neighbor.Goals as goal

pub returns : goal.returns
returns c = segment_tells
