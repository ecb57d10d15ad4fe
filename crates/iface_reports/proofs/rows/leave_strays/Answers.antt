use Rattle.std.proofs.Common.{rules}
use Rattle.std.proofs.lemmas.List.Edits.{map_over_more}
use Rattle.iface_reports.specs.Reports.{left_row}
use Rattle.iface_reports.proofs.rows.leave_strays.Goals as goal

pub loop-row-preserved : goal.loop-row-preserved
loop-row-preserved c = rw c.leave_stray.ensures (search (rules, map_over_more (left_row c.args.inner.now c.args.igmp c.args.mld c.args.word)))
