use Rattle.std.proofs.Common.{rules, ◌≡◌, Bool, refl, sym, subst, inl}
use Rattle.iface_ingress.specs.Packet.{PacketValue, packet_value}
use Rattle.iface_ingress.specs.WellFormed.{IsWellFormed}
use Rattle.iface_egress.specs.Plan.{GoesDirect}
use Rattle.iface_egress.specs.FastPath.{datagram_in, direct_packet}
use Rattle.interface.specs.SendTo.{LeavesIfKnown}
use Rattle.interface.specs.Serve.{is_done}
use Rattle.interface.proofs.AtOnce.{leaves_if_known, direct_same}
use Rattle.interface.proofs.send_to.transmit_if_known.Goals as goal

pub returns-in-Some-clause-leaves : goal.returns-in-Some-clause-leaves
returns-in-Some-clause-leaves g c =
    let i = c.args.inner.now in
    let p = packet_value c.args.packet.now in
    let lent = c.in-Some.direct in
    let q = direct_packet datagram_in lent in
    let is : q ≡ p = search rules in
    let goes : GoesDirect i q.header lent.to = search rules in
    let formed : IsWellFormed p = search rules in
    subst (λ (b : Bool). LeavesIfKnown g.D.Device.moves p c.args.device.now i c.args.meta.now b c.transmit_direct_segment.new.device c.transmit_direct_segment.new.inner
    c.transmit_direct_segment.new.meta) (sym c.is_done.ensures)
    (subst (λ (x : PacketValue). LeavesIfKnown g.D.Device.moves x c.args.device.now i c.args.meta.now (is_done c.transmit_direct_segment.result)
    c.transmit_direct_segment.new.device c.transmit_direct_segment.new.inner c.transmit_direct_segment.new.meta) is
    (leaves_if_known g.D.Device.moves lent.to q c.args.device.now c.transmit_direct_segment.new.device i c.transmit_direct_segment.new.inner c.args.meta.now
    c.transmit_direct_segment.new.meta c.transmit_direct_segment.result (subst IsWellFormed (sym is) formed) goes c.transmit_direct_segment.ensures.left))

pub returns-in-Some-clause-host : goal.returns-in-Some-clause-host
returns-in-Some-clause-host g c =
    direct_same g.D.Device.moves c.in-Some.direct.to (direct_packet datagram_in c.in-Some.direct) c.args.device.now c.transmit_direct_segment.new.device
    c.args.inner.now c.transmit_direct_segment.new.inner c.args.meta.now c.transmit_direct_segment.new.meta c.transmit_direct_segment.result c.transmit_direct_segment.ensures.left

pub returns-in-None-clause-leaves : goal.returns-in-None-clause-leaves
returns-in-None-clause-leaves g c = (refl, refl, inl refl)
