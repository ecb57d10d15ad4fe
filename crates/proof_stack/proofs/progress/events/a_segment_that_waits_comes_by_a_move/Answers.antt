use Rattle.proof_stack.proofs.EventSlots.{comes_in_a_world}
use Rattle.proof_stack.proofs.progress.events.a_segment_that_waits_comes_by_a_move.Goals as goal

pub returns : goal.returns
returns c = comes_in_a_world
