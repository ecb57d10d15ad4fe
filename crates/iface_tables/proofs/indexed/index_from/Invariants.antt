use Rattle.std.proofs.Common.{◌≡◌, length}
use Rattle.iface_tables.specs.Indexed.{AreIndexedBefore}
use Rattle.iface_tables.proofs.indexed.index_from.Given as goal

abbrev pub invariant-loop-at : goal.invariant-loop-at
invariant-loop-at l = AreIndexedBefore l.at l.entries l.keys × (length l.keys ≡ length l.initial.keys)
