use Rattle.std.proofs.Common.{◌≡◌, ◌++◌, take, drop}
use Rattle.std.specs.Prelude.{map}
use Rattle.iface_groups.specs.Table.{unqueried_row}
use Rattle.iface_groups.proofs.table.forget_all.Given as goal

abbrev pub invariant-loop-row : goal.invariant-loop-row
invariant-loop-row l = l.rows ≡ map (unqueried_row l.family) (take l.row-index l.initial.rows) ++ drop l.row-index l.initial.rows
