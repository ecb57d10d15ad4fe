-- What was read of a protocol, as what a packet carries.
use Rattle.std.specs.Prelude.{ℕ, List, Option, None, Some}
use denote.Ref.{Bor}
use Rattle.ip_wire.specs.TcpHeader.{TcpHeader}
use Rattle.socket_context.specs.Packet.{PayloadValue, Datagram, Segment}
use Rattle.iface_ingress.specs.declared.upper_layer.ReadDatagram.{ReadDatagram}

abbrev pub datagram_of : Option ReadDatagram → Option PayloadValue
datagram_of None = None
datagram_of (Some datagram) = Some (Datagram datagram.header datagram.bytes.now)

-- a segment of this header with these bytes
abbrev pub segment_of : TcpHeader → Option (Bor (List ℕ)) → Option PayloadValue
segment_of header None = None
segment_of header (Some bytes) = Some (Segment header bytes.now)

-- neither a datagram nor a segment
abbrev pub IsControl : Option PayloadValue → Type 0
IsControl (Some (Datagram header bytes)) = ⊥
IsControl (Some (Segment header bytes)) = ⊥
IsControl carried = Unit {0}
