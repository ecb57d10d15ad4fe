use Rattle.std.specs.List.{IsFirstBest}
use Rattle.iface_tables.specs.Neighbor.{expires_before}
use Rattle.iface_tables.proofs.neighbor.victim.Given as goal

abbrev pub invariant-loop-i : goal.invariant-loop-i
invariant-loop-i l = IsFirstBest expires_before l.entries l.i l.at
