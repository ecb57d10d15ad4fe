use Rattle.std.proofs.Common.{rules}
use Rattle.std.proofs.lemmas.List.Edits.{map_over_more}
use Rattle.iface_ingress.specs.Delivered.{given, with_change}
use Rattle.iface_ingress.proofs.receivers.give_all.Goals as goal

pub loop-slot-preserved : goal.loop-slot-preserved
loop-slot-preserved g c =
    rw c.give_slot_if.ensures
    (search (rules, map_over_more (with_change (given (g.A.Arrival.accepted c.args.arrival.now) (g.A.Arrival.taken c.args.arrival.now)))))
