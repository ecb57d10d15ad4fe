use Rattle.std.proofs.Common.{refl}
use Rattle.tcp_invariants.proofs.LateRules.{never_longer, recovery_then}
use Rattle.tcp_invariants.proofs.reordering.the_wait_ends_in_a_recovery.Goals as goal

pub returns : goal.returns
returns c = record { never_longer = never_longer; quarter = refl; three = refl; most = refl; ends = recovery_then }
