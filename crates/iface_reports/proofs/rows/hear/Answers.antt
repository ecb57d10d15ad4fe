use Rattle.std.proofs.Common.{rules}
use Rattle.std.proofs.lemmas.List.Edits.{map_over_more}
use Rattle.iface_reports.specs.Reports.{heard_row}
use Rattle.iface_reports.proofs.rows.hear.Goals as goal

pub loop-row-preserved : goal.loop-row-preserved
loop-row-preserved c = rw c.hear_row.ensures (search (rules, map_over_more (heard_row c.args.group.now)))
