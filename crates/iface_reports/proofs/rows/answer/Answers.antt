use Rattle.std.proofs.Common.{rules}
use Rattle.std.proofs.lemmas.List.Edits.{map_over_more}
use Rattle.iface_reports.specs.Reports.{answered_row}
use Rattle.iface_reports.proofs.rows.answer.Goals as goal

pub loop-row-preserved : goal.loop-row-preserved
loop-row-preserved c = rw c.answer_row.ensures (search (rules, map_over_more (answered_row c.args.mode c.args.now c.args.max_micros c.args.word c.args.group.now)))
