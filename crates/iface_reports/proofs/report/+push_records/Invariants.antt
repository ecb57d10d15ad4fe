use Rattle.std.proofs.Common.{length}
use Rattle.iface_reports.proofs.report.+push_records.Given as goal

abbrev pub decreases-push_records : goal.decreases-push_records
decreases-push_records l = length l.rows.now
