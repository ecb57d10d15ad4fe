use Rattle.std.specs.List.{IsFirstBest}
use Rattle.iface_tables.specs.Reassembly.{is_of}
use Rattle.iface_tables.specs.Room.{goes_before, is_same_source}
use Rattle.iface_tables.proofs.assemblers.oldest_from.Given as goal

abbrev pub invariant-loop-i : goal.invariant-loop-i
invariant-loop-i l = IsFirstBest (goes_before (is_of is_same_source l.key)) l.assemblers l.i l.at
