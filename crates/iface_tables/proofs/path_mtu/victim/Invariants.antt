use Rattle.std.specs.List.{IsFirstBest}
use Rattle.iface_tables.specs.PathMtu.{ends_before}
use Rattle.iface_tables.proofs.path_mtu.victim.Given as goal

abbrev pub invariant-loop-i : goal.invariant-loop-i
invariant-loop-i l = IsFirstBest ends_before l.paths l.i l.at
