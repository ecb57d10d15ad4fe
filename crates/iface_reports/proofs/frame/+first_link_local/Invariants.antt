use Rattle.std.proofs.Common.{length}
use Rattle.iface_reports.proofs.frame.+first_link_local.Given as goal

abbrev pub decreases-first_link_local : goal.decreases-first_link_local
decreases-first_link_local l = length l.blocks.now
