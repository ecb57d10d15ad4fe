-- What a packet has of TCP or UDP, and who made it.
use Rattle.std.specs.Prelude.{ℕ, List, Option, None, Some}
use Rattle.sim_link.specs.ChecksumCapabilities.{ChecksumCapabilities}
use Rattle.interface.specs.Ip as Ips
use Rattle.interface.specs.Ip.{source_of, destination_of}
use Rattle.interface.specs.IpRepr.{IpRepr}
use Rattle.interface.specs.IpRepr.TheVariants as Ip
use Rattle.wire_tcp.specs.declared.header.TcpHeader.{TcpHeader}
use Rattle.interface.specs.UdpRepr.{UdpRepr}
use Rattle.iface_ingress.specs.IpAddress.{IpAddress}
use Rattle.sockets.specs.Packet.{PacketValue, PayloadValue, ControlV4, ControlV6, Bytes, Datagram, Segment}
use Rattle.tcp_refinement.specs.Host.{Made, IsAmong, MayCome}
use Rattle.lan.specs.Worlds.Link.Made.{CarriesNone}
use Rattle.interface.specs.TransmittedFrame.{IsOffered}
use Rattle.iface_ingress.specs.UpperLayer.{IsDatagram, IsSegment}
use Rattle.iface_ingress.specs.Sent.{CanBeRead, normal_payload}
use Rattle.iface_ingress.specs.Incoming.{IncomingValue, Arp, Ip4, Ip6}
use Rattle.iface_ingress.specs.Upper.{upper_header, upper_payload}
use Rattle.lan.specs.Worlds.AtLink.Parties as Parties
use Rattle.lan.specs.Worlds.AtLink.Parties.{Party, WasMade}

-- more was made
pub record Grows (p p' : Party) : Type 0 where
  pub segments : (x : Made) → IsAmong p.segments x → IsAmong p'.segments x
  pub datagrams : (x : Parties.Datagram) → WasMade p x → WasMade p' x

abbrev pub datagram_of : UdpRepr → List ℕ → Parties.Datagram
datagram_of udp bytes = record { source = udp.src_port; destination = udp.dst_port; bytes = bytes }

-- WHAT GOES

-- a segment that this host made between these addresses, as a reader has it, and a datagram that it made; what else a packet carries is
-- nobody's
abbrev pub MadeBy : Party → IpAddress → IpAddress → PayloadValue → Type 0
MadeBy p source destination (ControlV4 message bytes) = Unit {0}
MadeBy p source destination (ControlV6 message bytes) = Unit {0}
MadeBy p source destination (Bytes bytes) = Unit {0}
MadeBy p source destination (Datagram udp bytes) = WasMade p (datagram_of udp bytes)
MadeBy p source destination (Segment header bytes) = MayCome p.segments source destination header bytes

-- what a reader has of the packet was made
abbrev pub IsMade : Party → PacketValue → Type 0
IsMade p x = MadeBy p (source_of x.header) (destination_of x.header) (normal_payload x.payload)

-- FORM

-- the header names what is carried, whose fields are numbers of their widths; bytes carry neither TCP nor UDP, after extension headers
-- either, and are no fragment of IPv6
abbrev pub FitsFollowing : IpRepr → PayloadValue → Type 0
FitsFollowing header (Bytes bytes) = CarriesNone (Ips.normal header) bytes
FitsFollowing header payload = CanBeRead header payload

-- a packet that can be sent, and read by another host
pub record IsWide (x : PacketValue) : Type 0 where
  pub offered : IsOffered x
  pub fits : FitsFollowing x.header x.payload

-- WHAT COMES

-- each segment that this payload is read as was made by this host, between these addresses, and so was each datagram
pub record HandsMade (q : Party) (caps : ChecksumCapabilities) (ip : IpRepr) (payload : List ℕ) : Type 0 where
  pub segments : (header : TcpHeader) (bytes : List ℕ) → IsSegment caps (upper_header ip payload) (upper_payload ip payload) header bytes
      → MayCome q.segments (source_of ip) (destination_of ip) header bytes
  pub datagrams : (udp : UdpRepr) (bytes : List ℕ) → IsDatagram caps (upper_header ip payload) (upper_payload ip payload) udp bytes
      → WasMade q (datagram_of udp bytes)

-- so of a content that arrived whole, or was reassembled
abbrev pub BringsMade : Party → ChecksumCapabilities → Option IncomingValue → Type 0
BringsMade q caps None = Unit {0}
BringsMade q caps (Some (Arp link packet)) = Unit {0}
BringsMade q caps (Some (Ip4 link header fragment payload)) = HandsMade q caps (Ip.Ipv4 header) payload
BringsMade q caps (Some (Ip6 link header payload)) = HandsMade q caps (Ip.Ipv6 header) payload
