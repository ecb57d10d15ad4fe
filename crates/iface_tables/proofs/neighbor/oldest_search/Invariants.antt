use Rattle.std.specs.List.{IsFirstBest}
use Rattle.iface_tables.specs.Neighbor.{asked_before}
use Rattle.iface_tables.proofs.neighbor.oldest_search.Given as goal

abbrev pub invariant-loop-i : goal.invariant-loop-i
invariant-loop-i l = IsFirstBest asked_before l.searches l.i l.at
