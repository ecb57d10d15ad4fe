use Rattle.std.proofs.Common.{Bool, ap, ◌∙◌}
use Rattle.iface_ingress.specs.Socket.{Socket}
use Rattle.iface_ingress.specs.Sockets.{offered_by, settled}
use Rattle.iface_egress.specs.declared.socket_set.Item.{Item}
use Rattle.interface.specs.Host.{sender}
use Rattle.interface.proofs.Sourced.{sends_offer}
use Rattle.interface.proofs.serve.send_offered.Goals as goal

pub returns-clause-sends : goal.returns-clause-sends
returns-clause-sends g c =
    let s = sender c.args.device.now c.args.inner.now c.args.fragmenter.now in
    let s' = sender c.transmit_offered-sent.new.device c.transmit_offered-sent.new.inner c.transmit_offered-sent.new.fragmenter in
    let item = c.args.item.now in
    let marked : Socket → Item Socket = λ k. record { meta = c.transmit_offered-sent.new.meta; socket = k } in
    let told = c.settle.ensures ∙ ap (λ (done : Bool). settled done item.socket) c.is_done.ensures in
    sends_offer g.D.Device.moves c.args.turn.now s s' (offered_by item.socket) item (marked c.settle.new.self) c.args.changed c.turned_by.result
    c.transmit_offered-sent.result c.transmit_offered-sent.new.meta c.transmit_offered-sent.ensures.left (ap marked told) c.turned_by.ensures
