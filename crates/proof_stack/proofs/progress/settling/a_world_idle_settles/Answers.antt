use Rattle.proof_stack.proofs.Polls.SomeRests.{in_the_end, settles}
use Rattle.proof_stack.proofs.progress.settling.a_world_idle_settles.Goals as goal

pub returns : goal.returns
returns c = (in_the_end, settles)
