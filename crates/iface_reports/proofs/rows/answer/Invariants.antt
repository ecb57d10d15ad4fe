use Rattle.std.proofs.Common.{◌≡◌, ◌++◌, take, drop}
use Rattle.std.specs.Prelude.{map}
use Rattle.iface_reports.specs.Reports.{answered_row}
use Rattle.iface_reports.proofs.rows.answer.Given as goal

abbrev pub invariant-loop-row : goal.invariant-loop-row
invariant-loop-row l = l.rows ≡ map (answered_row l.mode l.now l.max_micros l.word l.group) (take l.row-index l.initial.rows) ++ drop l.row-index l.initial.rows
