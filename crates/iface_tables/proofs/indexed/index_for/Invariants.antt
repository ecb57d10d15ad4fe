use Rattle.std.proofs.Common.{◌≡◌, length}
use Rattle.iface_tables.proofs.indexed.index_for.Given as goal

abbrev pub invariant-loop-at : goal.invariant-loop-at
invariant-loop-at l = length l.keys ≡ l.at
