use Rattle.std.proofs.Common.{rules}
use Rattle.std.proofs.lemmas.List.Edits.{map_over_more}
use Rattle.iface_reports.specs.Told.{told_row}
use Rattle.iface_reports.proofs.rows.tell_all.Goals as goal

pub loop-row-preserved : goal.loop-row-preserved
loop-row-preserved c = rw c.tell_row.ensures (search (rules, map_over_more (told_row c.args.family.now c.args.now)))
