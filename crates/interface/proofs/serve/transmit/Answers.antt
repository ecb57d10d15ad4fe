use Rattle.std.proofs.Common.{rules, ◌≡◌, sym, subst}
use Rattle.ip_wire.specs.IpRepr.TheVariants as Ip
use Rattle.iface_ingress.specs.Packet.{PacketValue, packet_of, packet_value, payload_value}
use Rattle.iface_ingress.specs.WellFormed.{IsWellFormed}
use Rattle.iface_egress.specs.Plan.{GoesDirect}
use Rattle.interface.specs.Host.{sender}
use Rattle.interface.specs.Serve.{HasLeft}
use Rattle.interface.proofs.Direct.{direct_left}
use Rattle.interface.proofs.serve.transmit.Goals as goal

pub returns-in-Some-clause-left : goal.returns-in-Some-clause-left
returns-in-Some-clause-left g c =
    let i = c.args.inner.now in
    let p = packet_value c.args.packet.now in
    let s = sender c.args.device.now i c.args.fragmenter.now in
    let s' = sender c.transmit_direct_segment.new.device c.transmit_direct_segment.new.inner c.args.fragmenter.now in
    let lent = c.in-Some.direct in
    let q = packet_of (Ip.Ipv4 lent.header.now) (payload_value lent.carried.now) in
    let is : q ≡ p = search rules in
    let goes : GoesDirect i q.header lent.to = search rules in
    subst (λ (x : PacketValue). HasLeft g.D.Device.moves c.args.turn.now s c.args.meta.now x c.transmit_direct_segment.result s' c.transmit_direct_segment.new.meta) is
    (direct_left g.D.Device.moves c.args.turn.now s c.args.meta.now c.transmit_direct_segment.new.meta q lent.to c.transmit_direct_segment.result
    c.transmit_direct_segment.new.device c.transmit_direct_segment.new.inner goes (subst IsWellFormed (sym is) c.requires.formed) c.transmit_direct_segment.ensures.left)
