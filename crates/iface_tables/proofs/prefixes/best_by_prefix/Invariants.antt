use Rattle.iface_tables.proofs.ByPrefix.{NoneBy}
use Rattle.iface_tables.proofs.prefixes.best_by_prefix.Given as goal

abbrev pub invariant-loop-i : goal.invariant-loop-i
invariant-loop-i l = NoneBy l.routes l.lengths l.address l.timestamp l.i
