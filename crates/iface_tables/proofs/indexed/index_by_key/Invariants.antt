use Rattle.std.proofs.Common.{length}
use Rattle.iface_tables.proofs.Places.{IsSought, left_to_go}
use Rattle.iface_tables.proofs.indexed.index_by_key.Given as goal

abbrev pub invariant-loop-link : goal.invariant-loop-link
invariant-loop-link l = IsSought l.entries l.keys l.address l.link

abbrev pub decreases-loop-link : goal.decreases-loop-link
decreases-loop-link l = left_to_go (length l.keys) l.link
