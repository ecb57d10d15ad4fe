-- The packet of an open offer of a UDP socket, lent from where it lies.
use Rattle.std.specs.Prelude.{Option, None, Some}
use Rattle.socket_context.specs.Packet.{PacketValue, Datagram, packet_of}
use Rattle.socket_datagram.specs.declared.udp.OfferedDatagram.{OfferedDatagram}

-- its header, its ports and its bytes as one value
abbrev pub datagram_value : OfferedDatagram → PacketValue
datagram_value d = packet_of d.header.now (Datagram d.ports d.bytes.now)

-- the packet, if there is one
abbrev pub lent_value : Option OfferedDatagram → Option PacketValue
lent_value None = None
lent_value (Some d) = Some (datagram_value d)
