use Rattle.tcp_invariants.proofs.BeginRules.{not_begun, not_again, not_waited}
use Rattle.tcp_invariants.proofs.early.a_recovery_that_ended_is_not_begun_again.Goals as goal

pub returns : goal.returns
returns c = record { begins = not_begun; again = not_again; waits = not_waited }
