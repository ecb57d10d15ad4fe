-- What a control message's packet carries, and that its data can be sent back.
use Rattle.std.proofs.Common.{◌≡◌, ◌≢◌, ℕ, ◌-◌, ◌≤◌, List, length, drop, ap, arith, length-drop}
use Rattle.std.specs.Prelude.{Option, Some, None}
use Rattle.net_base.specs.ChecksumCapabilities.{ChecksumCapabilities}
use Rattle.wire_icmpv4.specs.Icmpv4 as Icmpv4
use Rattle.wire_icmpv4.specs.declared.header.Icmpv4Header.{Icmpv4Header}
use Rattle.wire_icmpv4.specs.declared.header.Icmpv4Header.TheVariants as V4
use Rattle.wire_icmpv6.specs.Icmpv6 as Icmpv6
use Rattle.ip_wire.specs.Ip.{Fits, payload_len_of, carried_in}
use Rattle.ip_wire.specs.IpProtocol.TheVariants as Protocol
use Rattle.ip_wire.specs.IpRepr.{IpRepr}
use Rattle.ip_wire.specs.IpRepr.TheVariants as Ip
use Rattle.socket_context.specs.Packet.{PayloadValue, ControlV4, ControlV6, Bytes, Datagram, Segment}
use Rattle.iface_ingress.specs.UpperLayer.{IsCarriedContent}
use Rattle.iface_ingress.specs.Processed.{FitsBack}
use Rattle.iface_ingress.specs.Read.{IsControl}

-- MESSAGES

data_of_says : (payload bytes : List ℕ) (m : Icmpv4Header) → Icmpv4.Says payload m bytes → length bytes ≤ length payload - 8
data_of_says payload bytes (V4.EchoRequest ident seq_no) says = omega (arith, ap length says.payload_is, length-drop 8 payload)
data_of_says payload bytes (V4.EchoReply ident seq_no) says = omega (arith, ap length says.payload_is, length-drop 8 payload)
data_of_says payload bytes (V4.DstUnreachable reason header) says =
    omega (arith, ap length says.1.payload_is, length-drop (Icmpv4.quoted_len payload) (drop 8 payload), length-drop 8 payload)
data_of_says payload bytes (V4.TimeExceeded reason header) says =
    omega (arith, ap length says.1.payload_is, length-drop (Icmpv4.quoted_len payload) (drop 8 payload), length-drop 8 payload)

data_of_v6 : (payload bytes : List ℕ) (m : Icmpv6.MessageValue) → bytes ≡ Icmpv6.carried_in payload m → length bytes ≤ length payload - 8
data_of_v6 payload bytes (Icmpv6.DstUnreachable reason header) is = omega (arith, ap length is, length-drop 48 payload)
data_of_v6 payload bytes (Icmpv6.PktTooBig mtu header) is = omega (arith, ap length is, length-drop 48 payload)
data_of_v6 payload bytes (Icmpv6.TimeExceeded reason header) is = omega (arith, ap length is, length-drop 48 payload)
data_of_v6 payload bytes (Icmpv6.ParamProblem reason pointer header) is = omega (arith, ap length is, length-drop 48 payload)
data_of_v6 payload bytes (Icmpv6.EchoRequest ident seq_no) is = omega (arith, ap length is, length-drop 8 payload)
data_of_v6 payload bytes (Icmpv6.EchoReply ident seq_no) is = omega (arith, ap length is, length-drop 8 payload)
data_of_v6 payload bytes (Icmpv6.Ndisc message) is = omega (arith, ap length is)

pub fits_back : (caps : ChecksumCapabilities) (ip : IpRepr) (payload : List ℕ) (carried : Option PayloadValue) → IsCarriedContent caps ip payload carried →
    Fits ip → length payload ≤ payload_len_of ip → FitsBack carried
fits_back caps (Ip.Ipv4 header) payload (Some (ControlV4 m bytes)) is fits len =
    let short = data_of_says payload bytes m is.format.says in omega (arith, is.format.whole, fits, len)
fits_back caps (Ip.Ipv6 header) payload (Some (ControlV4 m bytes)) is fits len = absurd is
fits_back caps (Ip.Ipv4 header) payload (Some (ControlV6 m bytes)) is fits len = absurd is
fits_back caps (Ip.Ipv6 header) payload (Some (ControlV6 m bytes)) is fits len =
    let short = data_of_v6 payload bytes m is.bytes_are in omega (arith, fits, len)
fits_back caps ip payload (Some (Bytes bytes)) is fits len = tt
fits_back caps ip payload (Some (Datagram udp bytes)) is fits len = tt
fits_back caps ip payload (Some (Segment header bytes)) is fits len = tt
fits_back caps ip payload None is fits len = tt

-- a header that names neither UDP nor TCP has no datagram and no segment after it
pub only_control : (caps : ChecksumCapabilities) (ip : IpRepr) (payload : List ℕ) (carried : Option PayloadValue) → IsCarriedContent caps ip payload carried →
    carried_in ip ≢ Protocol.Udp → carried_in ip ≢ Protocol.Tcp → IsControl carried
only_control caps ip payload (Some (ControlV4 m bytes)) is udp tcp = tt
only_control caps ip payload (Some (ControlV6 m bytes)) is udp tcp = tt
only_control caps ip payload (Some (Bytes bytes)) is udp tcp = tt
only_control caps ip payload (Some (Datagram header bytes)) is udp tcp = udp is.protocol
only_control caps ip payload (Some (Segment header bytes)) is udp tcp = tcp is.protocol
only_control caps ip payload None is udp tcp = tt
