use Rattle.std.proofs.Common.{◌≡◌, ◌++◌, take, drop}
use Rattle.std.specs.Prelude.{map}
use Rattle.iface_reports.specs.Reports.{left_row}
use Rattle.iface_reports.proofs.rows.leave_strays.Given as goal

abbrev pub invariant-loop-row : goal.invariant-loop-row
invariant-loop-row l = l.rows ≡ map (left_row l.inner l.igmp l.mld l.word) (take l.row-index l.initial.rows) ++ drop l.row-index l.initial.rows
