use Rattle.std.proofs.Common.{rules}
use Rattle.std.proofs.lemmas.List.Edits.{map_over_more}
use Rattle.iface_reports.specs.Reports.{told_anew_row}
use Rattle.iface_reports.proofs.rows.tell_anew.Goals as goal

pub loop-row-preserved : goal.loop-row-preserved
loop-row-preserved c = rw c.tell_row_anew.ensures (search (rules, map_over_more (told_anew_row c.args.now)))
