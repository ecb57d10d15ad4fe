use Rattle.std.proofs.Common.{rules, ◌≡◌, Option, Some, sym, subst}
use Rattle.iface_ingress.specs.Packet.{PacketValue}
use Rattle.iface_ingress.specs.Sockets.{offered_by}
use Rattle.iface_ingress.specs.WellFormed.{IsWellFormed}
use Rattle.iface_egress.specs.Plan.{GoesDirect}
use Rattle.iface_egress.specs.FastPath.{segment_in, datagram_in, direct_packet}
use Rattle.interface.specs.Host.{sender}
use Rattle.interface.specs.Serve.{OfferLeaves}
use Rattle.interface.proofs.Direct.{direct_left}
use Rattle.interface.proofs.serve.transmit_offered.Goals as goal

pub returns-in-Some-clause-left : goal.returns-in-Some-clause-left
returns-in-Some-clause-left g c =
    let packet = c.in-Some.packet in
    let p = direct_packet segment_in packet in
    let s = sender c.args.device.now c.args.inner.now c.args.fragmenter.now in
    let s' = sender c.transmit_direct_segment.new.device c.transmit_direct_segment.new.inner c.args.fragmenter.now in
    let is : offered_by c.args.socket.now ≡ Some p = search rules in
    let goes : GoesDirect c.args.inner.now p.header packet.to = search rules in
    let formed : IsWellFormed p = search rules in
    subst (λ (o : Option PacketValue). OfferLeaves g.D.Device.moves c.args.turn.now o s c.args.meta.now c.transmit_direct_segment.result s' c.transmit_direct_segment.new.meta)
    (sym is) (
      formed,
      direct_left g.D.Device.moves c.args.turn.now s c.args.meta.now c.transmit_direct_segment.new.meta p packet.to c.transmit_direct_segment.result
          c.transmit_direct_segment.new.device c.transmit_direct_segment.new.inner goes formed c.transmit_direct_segment.ensures.left,
    )

pub returns-in-Some-direct_datagram-clause-left : goal.returns-in-Some-direct_datagram-clause-left
returns-in-Some-direct_datagram-clause-left g c =
    let packet = c.in-Some-direct_datagram.packet in
    let p = direct_packet datagram_in packet in
    let s = sender c.args.device.now c.args.inner.now c.args.fragmenter.now in
    let s' = sender c.transmit_direct_segment-in-Udp.new.device c.transmit_direct_segment-in-Udp.new.inner c.args.fragmenter.now in
    let is : offered_by c.args.socket.now ≡ Some p = search rules in
    let goes : GoesDirect c.args.inner.now p.header packet.to = search rules in
    let formed : IsWellFormed p = search rules in
    subst (λ (o : Option PacketValue). OfferLeaves g.D.Device.moves c.args.turn.now o s c.args.meta.now c.transmit_direct_segment-in-Udp.result s' c.transmit_direct_segment-in-Udp.new.meta)
    (sym is) (
      formed,
      direct_left g.D.Device.moves c.args.turn.now s c.args.meta.now c.transmit_direct_segment-in-Udp.new.meta p packet.to c.transmit_direct_segment-in-Udp.result
          c.transmit_direct_segment-in-Udp.new.device c.transmit_direct_segment-in-Udp.new.inner goes formed c.transmit_direct_segment-in-Udp.ensures.left,
    )
