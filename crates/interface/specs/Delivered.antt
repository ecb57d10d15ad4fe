-- What another host of the same medium reads in the frame of a departure.
use Rattle.std.specs.Prelude.{◌≡◌, ◌+◌, ◌%◌, ◌^◌, ◌<◌, ◌++◌, length, Option, None, Some}
use Rattle.net_base.specs.ChecksumCapabilities.{ChecksumCapabilities}
use Rattle.iface_ingress.specs.Address.{IsEthernetAddress, IsIpv4Address, IsIpv6Address}
use Rattle.iface_egress.specs.Arp as Arps
use Rattle.iface_ingress.specs.EthernetProtocol.{EthernetProtocol}
use Rattle.iface_ingress.specs.EthernetProtocol.TheVariants as Ether
use Rattle.iface_ingress.specs.EthernetRepr.{EthernetRepr}
use Rattle.iface_ingress.specs.HardwareAddress.{HardwareAddress}
use Rattle.iface_ingress.specs.HardwareAddress.TheVariants as Hardware
use Rattle.wire_ip.specs.Ip as Ips
use Rattle.wire_ip.specs.Ip.{carried_in}
use Rattle.iface_ingress.specs.IpProtocol.{IpProtocol}
use Rattle.iface_ingress.specs.IpProtocol.TheVariants as Protocol
use Rattle.wire_ip.specs.declared.ip.repr.IpRepr.TheVariants as Ip
use Rattle.wire_ip.specs.Ipv4 as Ipv4
use Rattle.wire_ip.specs.Ipv6 as Ipv6
use Rattle.socket_context.specs.Packet.{PacketValue, IsSendable, payload_written}
use Rattle.socket_context.specs.Widths.{IsPayload}
use Rattle.iface_egress.specs.Inner.{InnerValue}
use Rattle.iface_ingress.specs.FragmentList as FragmentList
use Rattle.iface_ingress.specs.Incoming.{IncomingValue, Arp, Ip4, Ip6}
use Rattle.iface_ingress.specs.Sent.{ether_for, uncut}
use Rattle.iface_ingress.specs.Upper.{upper_header}
use Rattle.iface_egress.specs.Departure.{Departure, Asks, Tells, Whole, Part, arp_link, arp_request, solicited_hardware_addr, solicitation}
use Rattle.iface_egress.specs.Departure.{fragment_header_len, fragment_v6, fragment_header}
use Rattle.iface_egress.specs.declared.frame.CutHeader.{CutHeader}
use Rattle.iface_egress.specs.declared.frame.CutHeader.TheVariants as Cut
use Rattle.iface_egress.specs.declared.frame.NeighborQuery.{NeighborQuery}
use Rattle.iface_egress.specs.declared.frame.NeighborQuery.TheVariants as Query

-- ONE MEDIUM

-- an address of the medium that has addresses like this one: of Ethernet, with its bytes, or none
abbrev pub IsOfMedium : HardwareAddress → HardwareAddress → Type 0
IsOfMedium (Hardware.Ethernet local) (Hardware.Ethernet address) = IsEthernetAddress address
IsOfMedium (Hardware.Ethernet local) Hardware.Ip = ⊥
IsOfMedium Hardware.Ip (Hardware.Ethernet address) = ⊥
IsOfMedium Hardware.Ip Hardware.Ip = Unit {0}

-- the link header between two addresses of a medium, where it has one
abbrev pub link_of : HardwareAddress → HardwareAddress → EthernetProtocol → Option EthernetRepr
link_of (Hardware.Ethernet from) (Hardware.Ethernet to) carried = Some (record { src_addr = from; dst_addr = to; ethertype = carried })
link_of from to carried = None

-- WHAT IS READ

-- a packet in its canonical form, with its payload as it was written: whole, of offset 0 with no fragment after it
abbrev pub packet_read : ChecksumCapabilities → HardwareAddress → HardwareAddress → PacketValue → IncomingValue
packet_read caps local to p = uncut (link_of local to (ether_for p.header)) (Ips.normal p.header) (payload_written caps p.header p.payload)

-- A fragment of IPv4 has the datagram's header but for the length, which is its own, and says its slot and whether more follow. One of
-- IPv6 says them in its fragment header, before its bytes.
abbrev pub fragment_read : HardwareAddress → HardwareAddress → CutHeader → FragmentList.FragmentPart → IncomingValue
fragment_read local to (Cut.Ipv4 header) p = Ip4
    (link_of local to Ether.Ipv4)
    (Ipv4.normal (record header { payload_len = length p.bytes }))
    (record { offset = p.offset; more = p.more })
    p.bytes
fragment_read local to (Cut.Ipv6 header number) p = Ip6
    (link_of local to Ether.Ipv6)
    (Ipv6.normal (fragment_v6 header p))
    (fragment_header header.next_header number p ++ p.bytes)

abbrev pub neighbor_query_read : ChecksumCapabilities → NeighborQuery → IncomingValue
neighbor_query_read caps (Query.Arp local source target) =
    Arp (arp_link (arp_request local source target)) (Arps.normal (arp_request local source target))
neighbor_query_read caps (Query.Neighbor local source target) =
    packet_read caps (Hardware.Ethernet local) (Hardware.Ethernet (solicited_hardware_addr target)) (solicitation local source target)

-- what a departure from a host with this hardware address and these checksums is read as
abbrev pub read_from : HardwareAddress → ChecksumCapabilities → Departure → IncomingValue
read_from local caps (Asks neighbor_query) = neighbor_query_read caps neighbor_query
read_from local caps (Tells packet) = Arp (arp_link packet) (Arps.normal packet)
read_from local caps (Whole to p) = packet_read caps local to p
read_from local caps (Part to header p) = fragment_read local to header p

abbrev pub read_of : InnerValue → Departure → IncomingValue
read_of i d = read_from i.hardware i.checksums d

-- WHAT CAN BE READ

abbrev pub IsOnEthernet : HardwareAddress → Type 0
IsOnEthernet (Hardware.Ethernet local) = Unit {0}
IsOnEthernet Hardware.Ip = ⊥

-- the sender, the frame's receiver and the host that reads it have addresses of one medium
pub record AreOfOneMedium (local to other : HardwareAddress) : Type 0 where
  pub from : IsOfMedium other local
  pub receiver : IsOfMedium other to

-- its lengths fit their fields, and its fields are numbers of their widths
pub record IsWritable (p : PacketValue) : Type 0 where
  pub sendable : IsSendable p
  pub header : Ips.IsValue p.header
  pub payload : IsPayload p.payload

-- each field is a number of its width
abbrev pub IsCutValue : CutHeader → Type 0
IsCutValue (Cut.Ipv4 header) = Ipv4.IsValue header
IsCutValue (Cut.Ipv6 header number) = Ipv6.IsValue header × (number < 2 ^ 32)

-- a fragment of a datagram with this header, in units of 8 bytes
pub record IsWritableFragment (header : CutHeader) (p : FragmentList.FragmentPart) : Type 0 where
  pub header_is : IsCutValue header
  pub short : fragment_header_len header + length p.bytes < 2 ^ 16
  pub within : p.offset < 2 ^ 16
  pub unit : p.offset % 8 ≡ 0

abbrev pub IsNeighborQuery : NeighborQuery → Type 0
IsNeighborQuery (Query.Arp local source target) = IsEthernetAddress local × IsIpv4Address source × IsIpv4Address target
IsNeighborQuery (Query.Neighbor local source target) = IsEthernetAddress local × IsIpv6Address source × IsIpv6Address target

-- a departure from a host with this hardware address that a host with the other one can read: each field is a number of its
-- width, and each length fits its field
abbrev pub CanArrive : HardwareAddress → HardwareAddress → Departure → Type 0
CanArrive local other (Asks neighbor_query) = IsOnEthernet other × IsNeighborQuery neighbor_query
CanArrive local other (Tells packet) = IsOnEthernet other × Arps.IsValue packet
CanArrive local other (Whole to p) = AreOfOneMedium local to other × IsWritable p
CanArrive local other (Part to header p) = AreOfOneMedium local to other × IsWritableFragment header p

-- PROTOCOLS

-- what an IP packet in a frame carries, by its header; an ARP packet is none
abbrev pub protocol_read : IncomingValue → Option IpProtocol
protocol_read (Arp link packet) = None
protocol_read (Ip4 link header fragment payload) = Some header.next_header
protocol_read (Ip6 link header payload) = Some header.next_header

-- what the packet of a fragment carries: of IPv6 a fragment header
abbrev pub fragment_protocol : CutHeader → IpProtocol
fragment_protocol (Cut.Ipv4 header) = (Ipv4.normal header).next_header
fragment_protocol (Cut.Ipv6 header number) = Protocol.Ipv6Frag

-- what the packet of a departure carries
abbrev pub protocol_sent : Departure → Option IpProtocol
protocol_sent (Asks (Query.Arp local source target)) = None
protocol_sent (Asks (Query.Neighbor local source target)) = Some Protocol.Icmpv6
protocol_sent (Tells packet) = None
protocol_sent (Whole to p) = Some (carried_in (Ips.normal p.header))
protocol_sent (Part to header p) = Some (fragment_protocol header)

-- neither TCP nor UDP
abbrev pub NamesNoPorts : IpProtocol → Type 0
NamesNoPorts protocol = (protocol ≡ Protocol.Tcp → ⊥) × (protocol ≡ Protocol.Udp → ⊥)

-- an ARP packet, or an IP packet, or a fragment of one, that carries neither TCP nor UDP, after extension headers either
abbrev pub HasNoPorts : IncomingValue → Type 0
HasNoPorts (Arp link packet) = Unit {0}
HasNoPorts (Ip4 link header fragment payload) = NamesNoPorts header.next_header
HasNoPorts (Ip6 link header payload) = NamesNoPorts (carried_in (upper_header (Ip.Ipv6 header) payload))

-- the packet of a fragment names neither, after its extension headers either
abbrev pub FragmentHasNoPorts : CutHeader → FragmentList.FragmentPart → Type 0
FragmentHasNoPorts (Cut.Ipv4 header) p = NamesNoPorts (Ipv4.normal header).next_header
FragmentHasNoPorts (Cut.Ipv6 header number) p =
    NamesNoPorts (carried_in (upper_header (Ip.Ipv6 (Ipv6.normal (fragment_v6 header p))) (fragment_header header.next_header number p ++ p.bytes)))

-- a question, an answer to one, or a packet, or a fragment of one, that carries neither
abbrev pub SendsNoPorts : ChecksumCapabilities → Departure → Type 0
SendsNoPorts caps (Asks neighbor_query) = Unit {0}
SendsNoPorts caps (Tells packet) = Unit {0}
SendsNoPorts caps (Whole to p) = NamesNoPorts (carried_in (upper_header (Ips.normal p.header) (payload_written caps p.header p.payload)))
SendsNoPorts caps (Part to header p) = FragmentHasNoPorts header p
