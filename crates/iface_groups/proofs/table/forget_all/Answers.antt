use Rattle.std.proofs.Common.{rules}
use Rattle.std.proofs.lemmas.List.Edits.{map_over_more}
use Rattle.iface_groups.specs.Table.{unqueried_row}
use Rattle.iface_groups.proofs.table.forget_all.Goals as goal

pub loop-row-preserved : goal.loop-row-preserved
loop-row-preserved c = rw c.forget.ensures (search (rules, map_over_more (unqueried_row c.args.family.now)))
