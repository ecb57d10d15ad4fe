use Rattle.tcp_invariants.proofs.RecoveryRules.{again_was_sent}
use Rattle.tcp_invariants.proofs.recovery.what_goes_again_was_sent.Goals as goal

pub returns : goal.returns
returns c = record { again = again_was_sent }
