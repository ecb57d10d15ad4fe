use Rattle.std.proofs.Common.{◌+◌, List, sym, subst}
use Rattle.interface.specs.SocketStorage.{SocketStorage}
use Rattle.sockets.specs.declared.socket.Socket.{Socket}
use Rattle.app_tun_services.specs.Begins.{IsInitialSlot}
use Rattle.app_tun_services.specs.declared.slot.Service.{Service}
use Rattle.app_tun_services.proofs.Initial.{InitialTo, initial_more}
use Rattle.app_tun_services.proofs.sockets_of.sockets.Goals as goal

-- one place more
pub loop-i-preserved : goal.loop-i-preserved
loop-i-preserved c =
    let slot = c.in_ok-slot.field-0 in
    let is_fresh = subst (λ (s : Service). IsInitialSlot s slot) c.service_at.ensures c.in_ok-slot.ensures in
    subst (λ (ps : List (SocketStorage Socket)). InitialTo (c.loop-i.i + 1) ps) (sym c.in_ok-push.ensures.items)
    (initial_more c.loop-i.i c.loop-i.all.items slot c.loop-i.invariant is_fresh)
