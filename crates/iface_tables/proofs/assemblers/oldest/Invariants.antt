use Rattle.std.specs.List.{IsFirstBest}
use Rattle.iface_tables.specs.Room.{any_slot, goes_before}
use Rattle.iface_tables.proofs.assemblers.oldest.Given as goal

abbrev pub invariant-loop-i : goal.invariant-loop-i
invariant-loop-i l = IsFirstBest (goes_before any_slot) l.assemblers l.i l.at
