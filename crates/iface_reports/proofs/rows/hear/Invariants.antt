use Rattle.std.proofs.Common.{◌≡◌, ◌++◌, take, drop}
use Rattle.std.specs.Prelude.{map}
use Rattle.iface_reports.specs.Reports.{heard_row}
use Rattle.iface_reports.proofs.rows.hear.Given as goal

abbrev pub invariant-loop-row : goal.invariant-loop-row
invariant-loop-row l = l.rows ≡ map (heard_row l.group) (take l.row-index l.initial.rows) ++ drop l.row-index l.initial.rows
