use Rattle.std.proofs.Common.{◌≡◌, length}
use Rattle.iface_tables.specs.Prefixes.{AreKeyedBefore}
use Rattle.iface_tables.proofs.prefixes.key_routes.Given as goal

abbrev pub invariant-loop-at : goal.invariant-loop-at
invariant-loop-at l = AreKeyedBefore l.at l.routes l.keys × (length l.keys ≡ length l.initial.keys)
