use Rattle.tcp_invariants.proofs.UndoRules.{recovery_undone, timeout_undone, undone_over}
use Rattle.tcp_invariants.proofs.recovery.a_loss_that_was_none_is_undone.Goals as goal

pub returns : goal.returns
returns c = record { recovery = recovery_undone; timeout = timeout_undone; over = undone_over }
