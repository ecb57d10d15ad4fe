-- The packet of an open offer, lent from where it lies.
use Rattle.std.specs.Prelude.{Option, None, Some}
use Rattle.socket_context.specs.Packet.{PacketValue, Segment, packet_of}
use Rattle.socket_context.specs.SegmentPayload.{payload_bytes}
use Rattle.tcp_socket.specs.declared.offer.OfferedSegment.{OfferedSegment}

-- its headers and its payload as one value
abbrev pub segment_value : OfferedSegment → PacketValue
segment_value s = packet_of s.header.now (Segment s.segment.now (payload_bytes s.payload))

-- the packet, if there is one
abbrev pub lent_value : Option OfferedSegment → Option PacketValue
lent_value None = None
lent_value (Some s) = Some (segment_value s)
