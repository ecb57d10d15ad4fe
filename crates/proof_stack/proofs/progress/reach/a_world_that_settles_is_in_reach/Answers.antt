use Rattle.proof_stack.proofs.Polls.SomeLinked.{are_in_reach}
use Rattle.proof_stack.proofs.progress.reach.a_world_that_settles_is_in_reach.Goals as goal

pub returns : goal.returns
returns c = are_in_reach
