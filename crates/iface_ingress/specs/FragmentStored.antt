-- What an arrival leaves as it was: words of the laws.
use Rattle.std.specs.Prelude.{◌≡◌, ◌⊎◌, ℕ, false, List, map, Option, None, Some}
use Rattle.ip_wire.specs.Ip.{carried_in}
use Rattle.ip_wire.specs.IpProtocol.{IpProtocol}
use Rattle.ip_wire.specs.IpProtocol.TheVariants as Protocol
use Rattle.ip_wire.specs.HardwareAddress.TheVariants as Hardware
use Rattle.ip_wire.specs.IpAddress.{IpAddress}
use Rattle.ip_wire.specs.IpRepr.{IpRepr}
use Rattle.ip_wire.specs.IpRepr.TheVariants as Ip
use Rattle.ip_wire.specs.TcpHeader.{TcpHeader}
use Rattle.ip_wire.specs.declared.arp.repr.ArpRepr.{ArpRepr}
use Rattle.ip_wire.specs.declared.ethernet.repr.EthernetRepr.{EthernetRepr}
use Rattle.net_base.specs.ChecksumCapabilities.{ChecksumCapabilities}
use Rattle.sockets.specs.declared.socket.Socket.{Socket}
use Rattle.sockets.specs.declared.socket.Socket.TheVariants as Kind
use Rattle.iface_ingress.specs.UpperLayer.{IsSegment}
use Rattle.iface_ingress.specs.Incoming.{IncomingValue, Arp, Ip4, Ip6}
use Rattle.iface_ingress.specs.Upper.{upper_header}
use Rattle.iface_egress.specs.declared.socket_set.Item.{Item}
use Rattle.iface_egress.specs.declared.socket_set.SocketStorage.{SocketStorage}
use Rattle.iface_ingress.specs.Arp.{learned}
use Rattle.iface_tables.specs.Inner.{InnerValue}
use Rattle.iface_tables.specs.Neighbor.{CacheValue, renewed}
use Rattle.iface_ingress.specs.Delivered.{Slots}
use Rattle.iface_ingress.specs.Reassembled.{is_fragment_v6}

-- SOCKETS

abbrev pub kept_by_kind : Socket → Item Socket → Option (Item Socket)
kept_by_kind (Kind.Raw v) item = None
kept_by_kind (Kind.Icmp v) item = None
kept_by_kind (Kind.Udp v) item = Some item
kept_by_kind (Kind.Tcp v) item = Some item
kept_by_kind (Kind.Dhcpv4 v) item = Some item
kept_by_kind (Kind.Dns v) item = Some item

abbrev pub ports_item : Option (Item Socket) → Option (Item Socket)
ports_item None = None
ports_item (Some item) = kept_by_kind item.socket item

-- the socket of a slot with its mark, where it is a TCP or a UDP socket or a client
abbrev pub ports_in : SocketStorage Socket → Option (Item Socket)
ports_in slot = ports_item slot.inner

-- the TCP and UDP sockets and the clients at their slots
abbrev pub with_ports : Slots → List (Option (Item Socket))
with_ports slots = map ports_in slots

-- WHAT ARRIVES

-- a packet of this header that carries neither TCP nor UDP
abbrev pub NamesNoPorts : IpProtocol → Type 0
NamesNoPorts protocol = (protocol ≡ Protocol.Tcp → ⊥) × (protocol ≡ Protocol.Udp → ⊥)

-- an ARP packet, or an IP packet, or a fragment of one, that carries neither TCP nor UDP, after extension headers either
abbrev pub HasNoPorts : IncomingValue → Type 0
HasNoPorts (Arp link packet) = Unit {0}
HasNoPorts (Ip4 link header fragment payload) = NamesNoPorts header.next_header
HasNoPorts (Ip6 link header payload) = NamesNoPorts (carried_in (upper_header (Ip.Ipv6 header) payload))

abbrev pub HaveNoPorts : Option IncomingValue → Type 0
HaveNoPorts None = Unit {0}
HaveNoPorts (Some v) = HasNoPorts v

-- no fragment of an IPv6 datagram: what that carries another fragment may say (RFC 8200, section 4.5)
abbrev pub IsNoFragmentV6 : Option IncomingValue → Type 0
IsNoFragmentV6 (Some (Ip6 link header payload)) = is_fragment_v6 header payload ≡ false
IsNoFragmentV6 content = Unit {0}

-- a packet of protocol TCP whose payload is no segment
abbrev pub IsDamaged : ChecksumCapabilities → IpRepr → List ℕ → Type 0
IsDamaged caps ip payload =
    (carried_in ip ≡ Protocol.Tcp) × ((header : TcpHeader) (bytes : List ℕ) → IsSegment caps ip payload header bytes → ⊥)

-- HOSTS

-- everything of the host is the same but its neighbours, its random words, the errors that it counts, and what it was told of paths
pub record HasSameSettings (i i' : InnerValue) : Type 0 where
  pub instant : i'.instant ≡ i.instant
  pub hardware : i'.hardware ≡ i.hardware
  pub mtu : i'.mtu ≡ i.mtu
  pub checksums : i'.checksums ≡ i.checksums
  pub addresses : i'.addresses ≡ i.addresses
  pub isn_key : i'.isn_key ≡ i.isn_key
  pub any_ip : i'.any_ip ≡ i.any_ip
  pub groups : i'.groups ≡ i.groups
  pub host_requirements : i'.host_requirements ≡ i.host_requirements
  pub routes : i'.routes ≡ i.routes
  pub route_room : i'.route_room ≡ i.route_room
  pub silent : i'.neighbors.silent ≡ i.neighbors.silent
  pub ident : i'.ident ≡ i.ident
  pub initial : i'.initial ≡ i.initial
  pub parking : i'.parking ≡ i.parking

-- NEIGHBOURS

-- the neighbours are as before, or the entry of a packet's sender is believed again, if it has the hardware address that the frame
-- came from
abbrev pub RenewsOnly : InnerValue → Option EthernetRepr → IpAddress → CacheValue → Type 0
RenewsOnly i None sender neighbors = neighbors ≡ i.neighbors
RenewsOnly i (Some link) sender neighbors =
    (neighbors ≡ i.neighbors) ⊎ (neighbors ≡ renewed i.neighbors sender (Hardware.Ethernet link.src_addr) i.instant)

-- the host is as before, or keeps the sender of an ARP packet
abbrev pub LearnsOnly : InnerValue → ArpRepr → InnerValue → Type 0
LearnsOnly i packet i' = (i' ≡ i) ⊎ (i' ≡ learned i packet)
