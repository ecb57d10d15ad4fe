-- The answer to a segment as a value.
use Rattle.std.specs.Prelude.{[], Option, Some, None}
use Rattle.ip_wire.specs.IpRepr.{IpRepr}
use Rattle.ip_wire.specs.Tcp.{header_of}
use Rattle.ip_wire.specs.TcpRepr.{TcpRepr}
use Rattle.socket_context.specs.Packet.{PacketValue, packet_of}
use Rattle.socket_context.specs.Packet as Carried
use Rattle.tcp_block.specs.Reply.{Reply}

-- a header and a segment without payload
abbrev pub replies_in : Option (IpRepr × TcpRepr) → Option Reply
replies_in None = None
replies_in (Some r) = Some (record { header = r.0; segment = header_of r.1 })

-- its packet
abbrev pub packet_in : Reply → PacketValue
packet_in r = packet_of r.header (Carried.Segment r.segment [])

-- the packet of an answer as it is handed out
abbrev pub packet_with : IpRepr × TcpRepr → PacketValue
packet_with r = packet_of r.0 (Carried.Segment (header_of r.1) r.1.payload.now)
