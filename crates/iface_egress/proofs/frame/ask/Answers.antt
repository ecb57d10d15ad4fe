use Rattle.std.proofs.Common.{◌≡◌, sym, ap, ◌∙◌}
use Rattle.ip_wire.specs.EthernetAddress.{EthernetAddress}
use Rattle.ip_wire.specs.HardwareAddress.TheVariants as Hardware
use Rattle.ip_wire.specs.IpRepr.{IpRepr}
use Rattle.socket_context.specs.Packet.{PacketValue, packet_value, packet_of, payload_value}
use Rattle.iface_egress.specs.Departure.{packet_frame, packet_frame_len, solicited_hardware_addr, solicitation_frame, solicitation_len}
use Rattle.iface_egress.proofs.EmitsAt.{emits_at}
use Rattle.iface_egress.proofs.frame.ask.Goals as goal

pub returns-in-Neighbor-clause-emits : goal.returns-in-Neighbor-clause-emits
returns-in-Neighbor-clause-emits g c =
    let caps = c.args.checksums.now in
    let local = Hardware.Ethernet c.in-Neighbor.local in
    let sent = packet_value c.solicitation-packet.result in
    let lent : PacketValue = packet_of c.ip_repr-header.result (payload_value c.payload.result.now) in
    let whole : lent ≡ sent =
    ap (λ (h : IpRepr). packet_of h (payload_value c.payload.result.now)) c.ip_repr-header.ensures
    ∙ ap (packet_of sent.header) c.payload.ensures in
    let hardware_addr = c.solicited_hardware_addr.result in
    emits_at g.D.Device.moves c.args.device.now c.send-in-Neighbor.new.device
    (packet_frame caps local (Hardware.Ethernet hardware_addr) lent) (solicitation_frame caps c.args.neighbor_query.now)
    (packet_frame_len local (Hardware.Ethernet hardware_addr) lent) (solicitation_len c.args.neighbor_query.now) c.send-in-Neighbor.result
    (ap (packet_frame caps local (Hardware.Ethernet hardware_addr)) whole
    ∙ ap (λ (a : EthernetAddress). packet_frame caps local (Hardware.Ethernet a) sent) c.solicited_hardware_addr.ensures
    ∙ ap (λ (p : PacketValue). packet_frame caps local (Hardware.Ethernet (solicited_hardware_addr c.in-Neighbor.target)) p) c.solicitation-packet.ensures.value
    ∙ ap (solicitation_frame caps) (sym c.in-Neighbor.is))
    (ap (packet_frame_len local (Hardware.Ethernet hardware_addr)) whole
    ∙ ap (λ (p : PacketValue). packet_frame_len local (Hardware.Ethernet hardware_addr) p) c.solicitation-packet.ensures.value
    ∙ ap solicitation_len (sym c.in-Neighbor.is))
    c.send-in-Neighbor.ensures.emits
