use Rattle.std.proofs.Common.{refl, sym}
use Rattle.iface_egress.proofs.Lent.{same_slot, no_socket}
use Rattle.iface_egress.proofs.socket_set.socket_mut.Goals as goal

pub returns-in-None : goal.returns-in-None
returns-in-None g c = (
  (refl, λ w. tt, same_slot c.args.slots.now c.args.at c.slot_mut.result.now c.slot_mut.ensures.value),
  record { lends = tt; value = sym (no_socket c.args.slots.now c.args.at c.slot_mut.result.now c.slot_mut.ensures.value c.in-None.is) },
)
