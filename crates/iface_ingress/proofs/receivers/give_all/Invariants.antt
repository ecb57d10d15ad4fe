use Rattle.std.proofs.Common.{◌≡◌, ◌++◌, take, drop}
use Rattle.std.specs.Prelude.{map}
use Rattle.iface_ingress.specs.Delivered.{given, with_change}
use Rattle.iface_ingress.proofs.receivers.give_all.Given as goal

abbrev pub invariant-loop-slot : goal.invariant-loop-slot
invariant-loop-slot g l =
    l.slots ≡ map (with_change (given (g.A.Arrival.accepted l.arrival) (g.A.Arrival.taken l.arrival))) (take l.slot-index l.initial.slots) ++
    drop l.slot-index l.initial.slots
