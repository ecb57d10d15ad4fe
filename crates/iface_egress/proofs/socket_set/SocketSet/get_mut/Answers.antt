use Rattle.std.proofs.Common.{refl}
use Rattle.iface_egress.proofs.Lent.{on_more}
use Rattle.iface_egress.proofs.socket_set.SocketSet.get_mut.Goals as goal

pub returns : goal.returns
returns g c = (
  (refl, λ w. on_more _ _ c.socket_mut.result refl (c.socket_mut.follows.holds w), (c.socket_mut.follows.holds-at-none, refl)),
  record { lends = tt; value = c.socket_mut.ensures.value },
)
