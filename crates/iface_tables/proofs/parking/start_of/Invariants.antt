use Rattle.std.proofs.Common.{◌≡◌, take}
use Rattle.iface_tables.specs.Parking.{total_len}
use Rattle.iface_tables.proofs.parking.start_of.Given as goal

abbrev pub invariant-loop-i : goal.invariant-loop-i
invariant-loop-i l = l.start ≡ total_len (take l.i l.headers)
