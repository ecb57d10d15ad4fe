use Rattle.proof_stack.proofs.EventReach.{linked}
use Rattle.proof_stack.proofs.progress.reach.what_stays_in_reach_is_linked.Goals as goal

pub returns : goal.returns
returns c = linked
