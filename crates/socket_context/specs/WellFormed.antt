-- Packets that can be sent, and whose fields are numbers of their widths.
use Rattle.std.specs.Prelude.{ℕ, ◌<◌, ◌^◌, List}
use Rattle.control_wire.specs.Icmpv4 as Icmpv4
use Rattle.control_wire.specs.Icmpv6 as Icmpv6
use Rattle.ip_wire.specs.Ip as Ips
use Rattle.ip_wire.specs.Options.{AreOptions}
use Rattle.ip_wire.specs.Tcp.{IsAck}
use Rattle.ip_wire.specs.TcpHeader.{TcpHeader}
use Rattle.ip_wire.specs.UdpRepr.{UdpRepr}
use Rattle.socket_context.specs.Packet.{PacketValue, PayloadValue, ControlV4, ControlV6, Bytes, Datagram, Segment, IsSendable}

-- both ports are numbers of 16 bits
pub record ArePorts (v : UdpRepr) : Type 0 where
  pub source_port : v.src_port < 2 ^ 16
  pub destination_port : v.dst_port < 2 ^ 16

-- each field is a number of its width
pub record AreFields (v : TcpHeader) : Type 0 where
  pub source_port : v.src_port < 2 ^ 16
  pub destination_port : v.dst_port < 2 ^ 16
  pub sequence : v.seq_number.0 < 2 ^ 32
  pub acknowledgement : IsAck v.ack_number
  pub window : v.window_len < 2 ^ 16
  pub options : AreOptions v.options

-- a payload whose fields are numbers of their widths; a neighbour message carries no bytes
abbrev pub HasWidths : PayloadValue → Type 0
HasWidths (ControlV4 message bytes) = Icmpv4.IsValue message
HasWidths (ControlV6 message bytes) = Icmpv6.IsValue message × Icmpv6.CanCarry message bytes
HasWidths (Bytes bytes) = Unit {0}
HasWidths (Datagram header bytes) = ArePorts header
HasWidths (Segment header bytes) = AreFields header

-- a packet whose lengths fit their fields, and whose fields are numbers of their widths
pub record IsWellFormed (p : PacketValue) : Type 0 where
  pub sendable : IsSendable p
  pub header : Ips.IsValue p.header
  pub payload : HasWidths p.payload
