use Rattle.std.proofs.Common.{length}
use Rattle.iface_reports.proofs.frame.+first_v4.Given as goal

abbrev pub decreases-first_v4 : goal.decreases-first_v4
decreases-first_v4 l = length l.blocks.now
