-- A packet whose header names what it carries.
use Rattle.std.specs.Prelude.{◌≡◌}
use Rattle.interface.specs.Ip.{carried_in}
use Rattle.iface_ingress.specs.IpProtocol.TheVariants as Protocol
use Rattle.interface.specs.IpRepr.{IpRepr}
use Rattle.iface_ingress.specs.Sent.{IsV4}
use Rattle.sockets.specs.Packet.{PacketValue, PayloadValue, ControlV4, ControlV6, Bytes, Datagram, Segment}

-- each family has control messages of its own; bytes may be of any protocol
abbrev pub NamesFollowing : IpRepr → PayloadValue → Type 0
NamesFollowing header (ControlV4 message bytes) = (carried_in header ≡ Protocol.Icmp) × IsV4 header
NamesFollowing header (ControlV6 message bytes) = carried_in header ≡ Protocol.Icmpv6
NamesFollowing header (Bytes bytes) = Unit {0}
NamesFollowing header (Datagram udp bytes) = carried_in header ≡ Protocol.Udp
NamesFollowing header (Segment header' bytes) = carried_in header ≡ Protocol.Tcp

abbrev pub NamesItsPayload : PacketValue → Type 0
NamesItsPayload p = NamesFollowing p.header p.payload
