use Rattle.std.proofs.Common.{◌≡◌, ◌++◌, take, drop}
use Rattle.std.specs.Prelude.{map}
use Rattle.iface_reports.specs.Told.{told_row}
use Rattle.iface_reports.proofs.rows.tell_all.Given as goal

abbrev pub invariant-loop-row : goal.invariant-loop-row
invariant-loop-row l = l.rows ≡ map (told_row l.family l.now) (take l.row-index l.initial.rows) ++ drop l.row-index l.initial.rows
