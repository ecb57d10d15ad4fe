use Rattle.tcp_invariants.proofs.TimeWaitRules.{stays_in_wait, ends_by_instant}
use Rattle.tcp_invariants.proofs.time_wait.time_wait_ends_by_its_own_instant_alone.Goals as goal

pub returns-clause-stays : goal.returns-clause-stays
returns-clause-stays c = stays_in_wait

pub returns-clause-ends : goal.returns-clause-ends
returns-clause-ends c = ends_by_instant
