-- A verdict of the code as the check that it stands for.
use Rattle.tcp_block.specs.Checks.{Check, Passes, Old, Drops, Draws, Resets}
use Rattle.tcp_block.specs.declared.tcb.checks.Verdict.{Verdict}
use Rattle.tcp_block.specs.declared.tcb.checks.Verdict.TheVariants as Is

abbrev pub check_of : Verdict → Check
check_of (Is.Passes by) = Passes by
check_of Is.Old = Old
check_of Is.Drops = Drops
check_of Is.Draws = Draws
check_of Is.Resets = Resets
