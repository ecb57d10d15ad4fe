use Rattle.std.proofs.Common.{length}
use Rattle.iface_tables.proofs.ByPrefix.{IsSought, left_to_go}
use Rattle.iface_tables.proofs.prefixes.last_by.Given as goal

abbrev pub invariant-loop-link : goal.invariant-loop-link
invariant-loop-link l = IsSought l.routes l.keys l.len l.address l.timestamp l.link l.found

abbrev pub decreases-loop-link : goal.decreases-loop-link
decreases-loop-link l = left_to_go (length l.keys) l.link
