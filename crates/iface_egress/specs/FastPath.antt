-- Packets that go straight to a hardware address, whose header and payload are lent.
use Rattle.ip_wire.specs.IpRepr.TheVariants as Ip
use Rattle.ip_wire.specs.Ipv4Repr.{Ipv4Repr}
use Rattle.socket_context.specs.Packet.{PacketValue, PayloadValue, Datagram, Segment, packet_of}
use Rattle.socket_context.specs.SegmentPayload.{payload_bytes}
use Rattle.iface_egress.specs.declared.payload.LentDatagram.{LentDatagram}
use Rattle.iface_egress.specs.declared.payload.LentSegment.{LentSegment}
use Rattle.iface_egress.specs.declared.payload.Direct.{Direct}

-- a lent segment, and a lent datagram, as values
abbrev pub segment_in : LentSegment → PayloadValue
segment_in s = Segment s.header.now (payload_bytes s.payload)

abbrev pub datagram_in : LentDatagram → PayloadValue
datagram_in d = Datagram d.header d.bytes.now

-- `value` says which payload is lent.
module _ {P : Type 0} (value : P → PayloadValue) where
  -- the packet, after its header or another one
  abbrev pub direct_following : Ipv4Repr → Direct P → PacketValue
  direct_following header s = packet_of (Ip.Ipv4 header) (value s.carried)

  abbrev pub direct_packet : Direct P → PacketValue
  direct_packet s = direct_following s.header.now s
