-- Packets as values, wherever their bytes lie.
use Rattle.std.specs.Prelude.{◌≡◌, ℕ, ◌+◌, ◌<◌, ◌^◌, List, length, Option, None, Some}
use Rattle.net_base.specs.Capabilities.{computes}
use Rattle.net_base.specs.ChecksumCapabilities.{ChecksumCapabilities}
use Rattle.ip_wire.specs.IpRepr.{IpRepr}
use Rattle.ip_wire.specs.IpRepr.TheVariants as Ip
use Rattle.ip_wire.specs.Ip as Ips
use Rattle.ip_wire.specs.Ip.{source_of, destination_of}
use Rattle.ip_wire.specs.Udp as Udp
use Rattle.ip_wire.specs.UdpRepr.{UdpRepr}
use Rattle.ip_wire.specs.Tcp as Tcp
use Rattle.ip_wire.specs.TcpHeader.{TcpHeader}
use Rattle.control_wire.specs.Icmpv4 as Icmpv4
use Rattle.control_wire.specs.Icmpv4Header.{Icmpv4Header}
use Rattle.control_wire.specs.Icmpv6 as Icmpv6
use Rattle.socket_context.specs.declared.packet.IpPayload.{IpPayload}
use Rattle.socket_context.specs.declared.packet.IpPayload.TheVariants as Payload
use Rattle.socket_context.specs.declared.packet.Packet.{Packet}
use Rattle.socket_context.specs.SegmentPayload.{payload_bytes}

-- what a packet carries: a header or a message, and bytes
pub data PayloadValue : Type 0 where
  ControlV4 : Icmpv4Header → List ℕ → PayloadValue
  ControlV6 : Icmpv6.MessageValue → List ℕ → PayloadValue
  Bytes : List ℕ → PayloadValue
  Datagram : UdpRepr → List ℕ → PayloadValue
  Segment : TcpHeader → List ℕ → PayloadValue

-- a header and what is carried
pub record PacketValue : Type 0 where
  pub header : IpRepr
  pub payload : PayloadValue

abbrev pub packet_of : IpRepr → PayloadValue → PacketValue
packet_of header payload = record { header = header; payload = payload }

abbrev pub payload_value : IpPayload → PayloadValue
payload_value (Payload.Icmpv4 message) = ControlV4 (Icmpv4.header_of message) (Icmpv4.payload_of message)
payload_value (Payload.Icmpv6 message) = ControlV6 (Icmpv6.value_of (Icmpv6.header_of message)) (Icmpv6.carried_by message)
payload_value (Payload.Raw bytes) = Bytes bytes.now
payload_value (Payload.Udp header bytes) = Datagram header bytes.now
payload_value (Payload.Tcp header text) = Segment header (payload_bytes text)

abbrev pub packet_value : Packet → PacketValue
packet_value p = packet_of p.header (payload_value p.payload)

-- a lent packet, wherever its bytes lie
abbrev pub option_value : Option Packet → Option PacketValue
option_value None = None
option_value (Some p) = Some (packet_value p)

-- how many bytes it takes after the IP header
abbrev pub payload_len : PayloadValue → ℕ
payload_len (ControlV4 message bytes) = Icmpv4.header_len message + length bytes
payload_len (ControlV6 message bytes) = Icmpv6.header_len message + length bytes
payload_len (Bytes bytes) = length bytes
payload_len (Datagram header bytes) = 8 + length bytes
payload_len (Segment header bytes) = Tcp.header_len header + length bytes

-- an ICMPv6 message can be sent after an IPv6 header alone
abbrev pub ControlV6Fits : IpRepr → Icmpv6.MessageValue → List ℕ → Type 0
ControlV6Fits (Ip.Ipv4 header) message bytes = ⊥
ControlV6Fits (Ip.Ipv6 header) message bytes = Icmpv6.Fits message × (Icmpv6.header_len message + length bytes < 2 ^ 32)

-- what can be sent after this IP header: the lengths fit their fields
abbrev pub PayloadFits : IpRepr → PayloadValue → Type 0
PayloadFits ip (ControlV4 message bytes) = Icmpv4.Fits message
PayloadFits ip (ControlV6 message bytes) = ControlV6Fits ip message bytes
PayloadFits ip (Bytes bytes) = Unit {0}
PayloadFits ip (Datagram header bytes) = Udp.Fits (source_of ip) (destination_of ip) bytes
PayloadFits ip (Segment header bytes) = Tcp.Fits (source_of ip) (destination_of ip) header bytes

abbrev pub control_v6_written : ChecksumCapabilities → IpRepr → Icmpv6.MessageValue → List ℕ → List ℕ
control_v6_written caps (Ip.Ipv4 header) message bytes = bytes
control_v6_written caps (Ip.Ipv6 header) message bytes =
    Icmpv6.written header.src_addr header.dst_addr (computes caps.icmpv6) message bytes

-- the bytes that are sent after this IP header
abbrev pub payload_written : ChecksumCapabilities → IpRepr → PayloadValue → List ℕ
payload_written caps ip (ControlV4 message bytes) = Icmpv4.written (computes caps.ipv4) (computes caps.icmpv4) message bytes
payload_written caps ip (ControlV6 message bytes) = control_v6_written caps ip message bytes
payload_written caps ip (Bytes bytes) = bytes
payload_written caps ip (Datagram header bytes) = Udp.written (source_of ip) (destination_of ip) (computes caps.udp) header bytes
payload_written caps ip (Segment header bytes) = Tcp.written (source_of ip) (destination_of ip) (computes caps.tcp) header bytes

-- a packet that can be sent: its lengths fit their fields, its header can stand before what it carries, and says the
-- length of that
pub record IsSendable (p : PacketValue) : Type 0 where
  pub header : Ips.Fits p.header
  pub payload : PayloadFits p.header p.payload
  pub len : Ips.payload_len_of p.header ≡ payload_len p.payload
