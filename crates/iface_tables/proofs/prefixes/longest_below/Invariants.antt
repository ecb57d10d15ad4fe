use Rattle.iface_tables.specs.Prefixes.{IsLongestBelow}
use Rattle.iface_tables.proofs.prefixes.longest_below.Given as goal

abbrev pub invariant-loop-at : goal.invariant-loop-at
invariant-loop-at l = IsLongestBelow l.bound l.at l.routes l.longest
