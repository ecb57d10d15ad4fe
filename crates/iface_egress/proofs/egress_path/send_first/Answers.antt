use Rattle.std.proofs.Common.{◌≡◌, ap, ◌∙◌}
use Rattle.ip_wire.specs.Ip.{destination_of}
use Rattle.ip_wire.specs.IpAddress.{IpAddress}
use Rattle.ip_wire.specs.IpRepr.{IpRepr}
use Rattle.socket_context.specs.Packet.{packet_value}
use Rattle.iface_egress.specs.IsTransmitted.{cut_header}
use Rattle.iface_egress.proofs.FirstOut.{first_out}
use Rattle.iface_egress.proofs.FragmentOut.{cut_of_host}
use Rattle.iface_egress.proofs.egress_path.send_first.Goals as goal

pub returns-clause-out : goal.returns-clause-out
returns-clause-out g c =
    let i = c.args.inner.now in
    let p = packet_value c.args.packet.now in
    let header : c.ip_repr-header.result ≡ p.header = c.ip_repr-header.ensures in
    let destination : c.dst_addr.result ≡ destination_of p.header = c.dst_addr.ensures ∙ ap (λ (h : IpRepr). destination_of h) header in
    let out =
    first_out g.D.Device.moves c.args.device.now c.send_first.new.device i c.args.to c.cut_header-header.result p (packet_value c.numbered-packet.result)
    c.cut_from-cut.result c.send_first.new.self (c.cut_from-cut.ensures.value ∙ ap (λ (a : IpAddress). cut_of_host i a) destination)
    (c.cut_header-header.ensures ∙ ap (λ (h : IpRepr). cut_header i h) header) c.numbered-packet.ensures.value c.if-not-send_first.ensures.emits
    c.if-not-send_first.ensures.left in
    (out.0, c.take_ident.ensures.after, out.1)
