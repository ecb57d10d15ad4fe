use Rattle.std.proofs.Common.{◌≡◌, take}
use Rattle.std.specs.Prelude.{fold, None}
use Rattle.iface_groups.specs.Table.{sooner_of}
use Rattle.iface_groups.proofs.table.soonest.Given as goal

abbrev pub invariant-loop-i : goal.invariant-loop-i
invariant-loop-i l = l.due ≡ fold sooner_of None (take l.i l.rows)
