use Rattle.tcp_invariants.proofs.RescueEnds.{rescue_ends}
use Rattle.tcp_invariants.proofs.RescueRules.{rescues_once, rescue_passed, rescue_waits, rescue_leaves}
use Rattle.tcp_invariants.proofs.early.a_rescue_goes_once_in_a_recovery.Goals as goal

pub returns : goal.returns
returns c = record { once = rescues_once; passed = rescue_passed; waits = rescue_waits; leaves = rescue_leaves; ends = rescue_ends }
