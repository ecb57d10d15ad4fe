-- What is reassembled from fragments is what the other host made.
use Rattle.std.specs.Prelude.{◌≡◌, ◌⊎◌, ℕ, ℤ, List, [], slice_get, slice_index, Option, Some}
use Rattle.sim_link.specs.Medium.TheVariants as Medium
use Rattle.wire_address.specs.Protocol.{protocol_of}
use Rattle.wire_address.specs.declared.ipv4.Ipv4FragKey.{Ipv4FragKey}
use Rattle.iface_ingress.specs.IpProtocol.{IpProtocol}
use Rattle.iface_ingress.specs.IpProtocol.TheVariants as Protocol
use Rattle.interface.specs.Ip.{carried_in, source_of, destination_of}
use Rattle.interface.specs.IpRepr.{IpRepr}
use Rattle.interface.specs.IpRepr.TheVariants as Ip
use Rattle.interface.specs.Ipv4 as Ipv4
use Rattle.interface.specs.Ipv4Repr.{Ipv4Repr}
use Rattle.interface.specs.Ipv6Repr.{Ipv6Repr}
use Rattle.iface_tables.specs.declared.key.FragKey.{FragKey}
use Rattle.iface_tables.specs.declared.key.FragKey.TheVariants as Keys
use Rattle.iface_tables.specs.declared.key.Ipv6FragKey.{Ipv6FragKey}
use Rattle.sockets.specs.Packet.{PacketValue, PayloadValue, Datagram, Segment}
use Rattle.tcp_refinement.specs.Host.{MayCome}
use Rattle.iface_ingress.specs.Arrives.{whole_after}
use Rattle.iface_ingress.specs.Incoming.{IncomingValue, Arp, Ip4, Ip6, IsContent}
use Rattle.iface_ingress.specs.Reassembled.{FragmentValue, part_in}
use Rattle.iface_ingress.specs.Sent.{CanBeRead, normal_payload}
use Rattle.iface_ingress.specs.Upper.{upper_header}
use Rattle.sim_link.specs.PacketInFrame.{names_tcp_or_udp}
use Rattle.sim_link.specs.Port.{PortMove, PortValue}
use Rattle.lan.specs.Worlds.AtLink.Kinds.{other}
use Rattle.lan.specs.Worlds.AtLink.Side.{Side}
use Rattle.lan.specs.Worlds.AtLink.Moves.{Step, IsRun, run}
use Rattle.lan.specs.Worlds.AtLink.Parties.{Party, Net, WasMade, party}
use Rattle.lan.specs.Worlds.AtLink.Runs.{WorldValue}
use Rattle.lan.specs.Worlds.AtLink.Node.{NodeValue, at_port, node}
use Rattle.lan.specs.Worlds.Moves.Follows.{IsNetOf}
use Rattle.lan.specs.Worlds.Moves.Joined.{first_net}
use Rattle.lan.specs.Worlds.Moves.Made.{datagram_of}
use Rattle.lan.specs.Worlds.Link.Frames.{following_fragment}
use Rattle.lan.specs.Worlds.Link.Made.{bytes_of}
use Rattle.lan.specs.Worlds.PollSteps.{Reaches}

-- what a content is to a host that takes it next: itself, the whole datagram that it completes, or nothing yet
abbrev pub taken_next : NodeValue → Option IncomingValue → Option IncomingValue
taken_next s = whole_after s.host.inner s.host.timeout s.host.assemblers

abbrev pub IsTcpOrUdp : IpProtocol → Type 0
IsTcpOrUdp protocol = (protocol ≡ Protocol.Tcp) ⊎ (protocol ≡ Protocol.Udp)

-- a whole datagram of TCP or UDP, in IPv6 after its extension headers
abbrev pub NamesPorts : IncomingValue → Type 0
NamesPorts (Arp link packet) = ⊥
NamesPorts (Ip4 link header fragment payload) = IsTcpOrUdp header.next_header
NamesPorts (Ip6 link header payload) = IsTcpOrUdp (carried_in (upper_header (Ip.Ipv6 header) payload))

-- what stands after its IP header
abbrev pub following_header : IncomingValue → List ℕ
following_header (Arp link packet) = []
following_header (Ip4 link header fragment payload) = payload
following_header (Ip6 link header payload) = payload

-- A poll that began at a host, at some moment, has come so far: as far as its first step, or any later one.
pub record IsPolled (s now : NodeValue) : Type 0 where
  pub instant : ℤ
  pub port : PortValue
  pub port_now : PortValue
  pub before : port.link ≡ s.link
  pub after : port_now.link ≡ now.link
  pub reached : Reaches PortMove instant (at_port port s) (at_port port_now now)

-- Wherever in a poll a host has come, a frame that waits for it brings a fragment of a datagram with this key; and if the host takes it next, the
-- datagram, of TCP or UDP, is whole, with these bytes after its IP header: in IPv4 the payload, and in IPv6 that after a fragment header.
pub record Rebuilds (s : NodeValue) (key : FragKey) (bytes : List ℕ) : Type 0 where
  pub now : NodeValue
  pub polled : IsPolled s now
  pub slot : ℕ
  pub frame : List ℕ
  pub waits : slice_get now.link.waiting slot ≡ Some frame
  pub content : IncomingValue
  pub read : IsContent now.host.inner.hardware now.host.inner.checksums frame (Some content)
  pub fragment : FragmentValue
  pub cut : part_in content ≡ Some fragment
  pub key_is : fragment.key ≡ key
  pub datagram : IncomingValue
  pub whole : taken_next now (Some content) ≡ Some datagram
  pub ports : NamesPorts datagram
  pub bytes_are : bytes ≡ following_header datagram

-- what a datagram as slots hold it carries: the key says it in IPv4, and in IPv6 the fragment header that stands before it
abbrev pub protocol_in : FragKey → List ℕ → IpProtocol
protocol_in (Keys.Ipv4 key) bytes = key.protocol
protocol_in (Keys.Ipv6 key) bytes = protocol_of (slice_index bytes 0)

-- how many bytes stand there before the packet's payload
abbrev pub room_before : FragKey → ℕ
room_before (Keys.Ipv4 key) = 0
room_before (Keys.Ipv6 key) = 8

-- a segment or a datagram, and this host made it, a segment between the addresses of its packet
abbrev pub HasMade : Party → IpRepr → PayloadValue → Type 0
HasMade p ip (Datagram udp bytes) = WasMade p (datagram_of udp bytes)
HasMade p ip (Segment header bytes) = MayCome p.segments (source_of ip) (destination_of ip) header bytes
HasMade p ip payload = ⊥

-- It is the payload of one packet, with the same identification, addresses and protocol, whose header names what it carries: a segment or
-- a datagram that this host made.
pub record IsOfMadeV4 (q : Party) (key : Ipv4FragKey) (bytes : List ℕ) : Type 0 where
  pub packet : PacketValue
  pub header : Ipv4Repr
  pub header_is : packet.header ≡ Ip.Ipv4 header
  pub key_is : key ≡ Ipv4.key_of (Ipv4.normal header)
  pub bytes_are : bytes ≡ bytes_of packet
  pub named : CanBeRead packet.header packet.payload
  pub made : HasMade q packet.header (normal_payload packet.payload)

-- The same of IPv6: the payload of one packet with these addresses, after a fragment header with that identification, which names what
-- the packet carries.
pub record IsOfMadeV6 (q : Party) (key : Ipv6FragKey) (bytes : List ℕ) : Type 0 where
  pub packet : PacketValue
  pub header : Ipv6Repr
  pub header_is : packet.header ≡ Ip.Ipv6 header
  pub source : key.src_addr ≡ header.src_addr
  pub destination : key.dst_addr ≡ header.dst_addr
  pub bytes_are : bytes ≡ following_fragment header.next_header key.id (bytes_of packet)
  pub named : CanBeRead packet.header packet.payload
  pub made : HasMade q packet.header (normal_payload packet.payload)

abbrev pub IsOfMade : Party → FragKey → List ℕ → Type 0
IsOfMade q (Keys.Ipv4 key) bytes = IsOfMadeV4 q key bytes
IsOfMade q (Keys.Ipv6 key) bytes = IsOfMadeV6 q key bytes

-- Moves over packets lead from new hosts to these sockets by this history, and say what each host made on the way. Whatever a host
-- reassembles in a poll, when it takes a frame next there, the other one made.
pub record ReassembledWasMade (w : WorldValue) : Type 0 where
  pub net : Net
  pub steps : List Step
  pub may : IsRun (names_tcp_or_udp Medium.Ip) (first_net w.starts) steps
  pub ends : run (first_net w.starts) steps ≡ net
  pub of : IsNetOf net w.hosts w.history
  pub reassembled : (side : Side) (key : FragKey) (bytes : List ℕ) → Rebuilds (node w.hosts side) key bytes → IsOfMade (party net (other side)) key bytes
