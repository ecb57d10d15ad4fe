-- What a host answers at once, and whom: words of the laws.
use Rattle.std.specs.Prelude.{◌≡◌, ℕ, IsTrue, List}
use Rattle.wire_icmpv4.specs.declared.header.Icmpv4Header.{Icmpv4Header}
use Rattle.wire_icmpv4.specs.declared.header.Icmpv4Header.TheVariants as V4
use Rattle.wire_icmpv6.specs.Icmpv6 as Icmpv6
use Rattle.ip_wire.specs.AddressTests.{is_unicast_v6}
use Rattle.ip_wire.specs.declared.arp.repr.ArpRepr.{ArpRepr}
use Rattle.ip_wire.specs.declared.arp.repr.ArpRepr.TheVariants as Arp
use Rattle.ip_wire.specs.Ip.{destination_of}
use Rattle.ip_wire.specs.IpAddress.TheVariants as Address
use Rattle.ip_wire.specs.Ipv4Address.{Ipv4Address}
use Rattle.ip_wire.specs.Ipv4Repr.{Ipv4Repr}
use Rattle.ip_wire.specs.Ipv6Repr.{Ipv6Repr}
use Rattle.wire_ipv6_headers.specs.declared.headers.Problem.{Problem}
use Rattle.wire_ipv6_headers.specs.declared.headers.Problem.TheVariants as Told
use Rattle.socket_context.specs.Packet.{PacketValue, ControlV4, ControlV6}
use Rattle.iface_ingress.specs.Replies.{is_one_host}
use Rattle.iface_tables.specs.Inner.{InnerValue}

-- whose hardware address an ARP packet tells
abbrev pub sender_in : ArpRepr → Ipv4Address
sender_in (Arp.EthernetIpv4 operation source_hardware source target_hardware target) = source

-- the message in a packet with this header is an echo request, and this packet sends its data back to who asked
pub record IsEchoV4 (header : Ipv4Repr) (message : Icmpv4Header) (bytes : List ℕ) (p : PacketValue) : Type 0 where
  pub ident : ℕ
  pub number : ℕ
  pub asked : message ≡ V4.EchoRequest ident number
  pub reply : p.payload ≡ ControlV4 (V4.EchoReply ident number) bytes
  pub to : destination_of p.header ≡ Address.Ipv4 header.src_addr

pub record IsEchoV6 (header : Ipv6Repr) (message : Icmpv6.MessageValue) (bytes : List ℕ) (p : PacketValue) : Type 0 where
  pub ident : ℕ
  pub number : ℕ
  pub asked : message ≡ Icmpv6.EchoRequest ident number
  pub reply : p.payload ≡ ControlV6 (Icmpv6.EchoReply ident number) bytes
  pub to : destination_of p.header ≡ Address.Ipv6 header.src_addr

-- a packet with this header goes from one host to one
abbrev pub IsBetweenV4 : InnerValue → Ipv4Repr → Type 0
IsBetweenV4 i header = IsTrue (is_one_host i header.src_addr) × IsTrue (is_one_host i header.dst_addr)

abbrev pub IsBetweenV6 : Ipv6Repr → Type 0
IsBetweenV6 header = IsTrue (is_unicast_v6 header.src_addr) × IsTrue (is_unicast_v6 header.dst_addr)

-- of this problem of a packet with this header may be told: the packet goes from one host to one, or an option asks that any is told
abbrev pub IsToldOf : Problem → Ipv6Repr → Type 0
IsToldOf Told.OptionToAny header = IsTrue (is_unicast_v6 header.src_addr)
IsToldOf problem header = IsBetweenV6 header
