use Rattle.std.proofs.Common.{length}
use Rattle.iface_reports.proofs.reporter.Reporter.+join_for_all.Given as goal

abbrev pub decreases-join_for_all : goal.decreases-join_for_all
decreases-join_for_all l = length l.blocks.now
