-- The frames that leave a host, as bytes.
use Rattle.std.specs.Prelude.{ℕ, ◌+◌, ◌/◌, List, [], ◌∷◌, ◌++◌, length, drop, replicate, Some}
use Rattle.net_base.specs.Capabilities.{computes}
use Rattle.net_base.specs.ChecksumCapabilities.{ChecksumCapabilities}
use Rattle.control_wire.specs.Icmpv6 as Icmpv6
use Rattle.control_wire.specs.Ndisc as Neighbor
use Rattle.ip_wire.specs.Address.{solicited_of}
use Rattle.ip_wire.specs.Arp as Arps
use Rattle.ip_wire.specs.declared.arp.kinds.ArpOperation.TheVariants as Operation
use Rattle.ip_wire.specs.declared.arp.repr.ArpRepr.{ArpRepr}
use Rattle.ip_wire.specs.declared.arp.repr.ArpRepr.TheVariants as Arp
use Rattle.ip_wire.specs.Ethernet as Ethernet
use Rattle.ip_wire.specs.EthernetAddress.{EthernetAddress}
use Rattle.ip_wire.specs.EthernetProtocol.{EthernetProtocol}
use Rattle.ip_wire.specs.EthernetProtocol.TheVariants as Ether
use Rattle.ip_wire.specs.declared.ethernet.repr.EthernetRepr.{EthernetRepr}
use Rattle.ip_wire.specs.HardwareAddress.{HardwareAddress}
use Rattle.ip_wire.specs.HardwareAddress.TheVariants as Hardware
use Rattle.ip_wire.specs.Ip as Ips
use Rattle.ip_wire.specs.Ip.{header_len_in}
use Rattle.ip_wire.specs.IpAddress.{IpAddress}
use Rattle.ip_wire.specs.Fragment as Fragment
use Rattle.ip_wire.specs.IpAddress.TheVariants as Address
use Rattle.ip_wire.specs.IpProtocol.{IpProtocol}
use Rattle.ip_wire.specs.IpProtocol.TheVariants as Protocol
use Rattle.ip_wire.specs.IpRepr.{IpRepr}
use Rattle.ip_wire.specs.IpRepr.TheVariants as Ip
use Rattle.ip_wire.specs.Ipv4.{written_fragment}
use Rattle.ip_wire.specs.Ipv4Address.{Ipv4Address}
use Rattle.ip_wire.specs.Ipv4Repr.{Ipv4Repr}
use Rattle.ip_wire.specs.Ipv6 as Ipv6
use Rattle.ip_wire.specs.Ipv6Address.{Ipv6Address}
use Rattle.ip_wire.specs.Ipv6Repr.{Ipv6Repr}
use Rattle.ip_wire.specs.Protocol.{protocol_number}
use Rattle.socket_context.specs.Packet.{PacketValue, ControlV6, packet_of, payload_len, payload_written}
use Rattle.iface_tables.specs.FragmentList as FragmentList
use Rattle.iface_egress.specs.declared.frame.CutHeader.{CutHeader}
use Rattle.iface_egress.specs.declared.frame.CutHeader.TheVariants as Cut
use Rattle.iface_egress.specs.declared.frame.NeighborQuery.{NeighborQuery}
use Rattle.iface_egress.specs.declared.frame.NeighborQuery.TheVariants as Query

-- What leaves in one frame: a question for a neighbour, an ARP packet that answers one, a packet, or a fragment of a datagram
-- with this header. The hardware address is that of the frame's receiver.
pub data Departure : Type 0 where
  Asks : NeighborQuery → Departure
  Tells : ArpRepr → Departure
  Whole : HardwareAddress → PacketValue → Departure
  Part : HardwareAddress → CutHeader → FragmentList.FragmentPart → Departure

-- THE LINK HEADER

-- from one hardware address to another (RFC 894; RFC 2464); a medium of bare packets has none
abbrev pub link_header : HardwareAddress → HardwareAddress → EthernetProtocol → List ℕ
link_header (Hardware.Ethernet from) (Hardware.Ethernet to) carried =
    Ethernet.written (record { src_addr = from; dst_addr = to; ethertype = carried })
link_header from to carried = []

abbrev pub link_len : HardwareAddress → HardwareAddress → ℕ
link_len (Hardware.Ethernet from) (Hardware.Ethernet to) = 14
link_len from to = 0

-- what a frame of this packet is said to carry
abbrev pub ether_for : IpRepr → EthernetProtocol
ether_for (Ip.Ipv4 v) = Ether.Ipv4
ether_for (Ip.Ipv6 v) = Ether.Ipv6

-- PACKETS

-- a packet after the link header
abbrev pub packet_frame : ChecksumCapabilities → HardwareAddress → HardwareAddress → PacketValue → List ℕ
packet_frame caps from to p =
    link_header from to (ether_for p.header) ++ (Ips.written (computes caps.ipv4) p.header ++ payload_written caps p.header p.payload)

abbrev pub packet_frame_len : HardwareAddress → HardwareAddress → PacketValue → ℕ
packet_frame_len from to p = link_len from to + (header_len_in p.header + payload_len p.payload)

-- PIECES

-- the family, and the destination, of a datagram that goes in fragments
abbrev pub ether_in : CutHeader → EthernetProtocol
ether_in (Cut.Ipv4 v) = Ether.Ipv4
ether_in (Cut.Ipv6 v number) = Ether.Ipv6

abbrev pub destination_in : CutHeader → IpAddress
destination_in (Cut.Ipv4 v) = Address.Ipv4 v.dst_addr
destination_in (Cut.Ipv6 v number) = Address.Ipv6 v.dst_addr

-- its identification
abbrev pub number_of : CutHeader → ℕ
number_of (Cut.Ipv4 v) = v.ident
number_of (Cut.Ipv6 v number) = number

-- how many bytes stand before a fragment's bytes
abbrev pub fragment_header_len : CutHeader → ℕ
fragment_header_len (Cut.Ipv4 v) = 20
fragment_header_len (Cut.Ipv6 v number) = 48

-- the IPv6 header of a fragment: it has the fragment's length, and names the fragment header
abbrev pub fragment_v6 : Ipv6Repr → FragmentList.FragmentPart → Ipv6Repr
fragment_v6 header p = record header { next_header = Protocol.Ipv6Frag; payload_len = 8 + length p.bytes }

-- the fragment header of a fragment (RFC 8200, section 4.5): what the datagram carries, a reserved byte, offset, more-fragments and
-- identification
abbrev pub fragment_header : IpProtocol → (number : ℕ) → FragmentList.FragmentPart → List ℕ
fragment_header carried number p =
    protocol_number carried ∷ 0 ∷ Fragment.written (record { frag_offset = p.offset / 8; more_frags = p.more; ident = number })

-- The headers of a fragment. That of IPv4 has length, offset and more-fragments of the fragment (RFC 791, section 3.2); after that of
-- IPv6 stands the fragment header.
abbrev pub fragment_packet_header : ChecksumCapabilities → CutHeader → FragmentList.FragmentPart → List ℕ
fragment_packet_header caps (Cut.Ipv4 v) p = written_fragment (computes caps.ipv4) (record v { payload_len = length p.bytes }) p.offset p.more
fragment_packet_header caps (Cut.Ipv6 v number) p = Ipv6.written (fragment_v6 v p) ++ fragment_header v.next_header number p

-- a fragment of a datagram with this header
abbrev pub fragment_frame : ChecksumCapabilities → HardwareAddress → HardwareAddress → CutHeader → FragmentList.FragmentPart → List ℕ
fragment_frame caps from to header p = link_header from to (ether_in header) ++ (fragment_packet_header caps header p ++ p.bytes)

abbrev pub fragment_frame_len : HardwareAddress → HardwareAddress → CutHeader → FragmentList.FragmentPart → ℕ
fragment_frame_len from to header p = link_len from to + (fragment_header_len header + length p.bytes)

-- QUESTIONS AND ANSWERS FOR NEIGHBOURS

-- an ARP packet goes from its sender's hardware address to its target's
abbrev pub arp_link : ArpRepr → EthernetRepr
arp_link (Arp.EthernetIpv4 operation source source_protocol target target_protocol) =
    record { src_addr = source; dst_addr = target; ethertype = Ether.Arp }

abbrev pub arp_frame : ArpRepr → List ℕ
arp_frame packet = Ethernet.written (arp_link packet) ++ Arps.written packet

-- ff-ff-ff-ff-ff-ff
abbrev pub every_hardware_addr : EthernetAddress
every_hardware_addr = record { 0 = replicate 6 0xff }

-- the ARP request for a neighbour (RFC 826), whose target's hardware address is that of all hardware addresses
abbrev pub arp_request : EthernetAddress → Ipv4Address → Ipv4Address → ArpRepr
arp_request local source target = Arp.EthernetIpv4 Operation.Request local source every_hardware_addr target

-- the group to which solicitations for this address go (RFC 4291, section 2.7.1)
abbrev pub solicited_node : Ipv6Address → Ipv6Address
solicited_node target = record { 0 = solicited_of target }

-- the Ethernet address of an IPv6 group (RFC 2464, section 7): the group's last 32 bits
abbrev pub solicited_hardware_addr : Ipv6Address → EthernetAddress
solicited_hardware_addr target = record { 0 = 0x33 ∷ 0x33 ∷ drop 12 (solicited_of target) }

-- the neighbour solicitation (RFC 4861, sections 4.3 and 7.2.2)
abbrev pub solicitation_header : Ipv6Address → Ipv6Address → Ipv6Repr
solicitation_header source target =
    record { src_addr = source; dst_addr = solicited_node target; next_header = Protocol.Icmpv6; payload_len = 32; hop_limit = 255 }

abbrev pub solicitation : EthernetAddress → Ipv6Address → Ipv6Address → PacketValue
solicitation local source target =
    packet_of (Ip.Ipv6 (solicitation_header source target)) (ControlV6 (Icmpv6.Ndisc (Neighbor.Solicitation target (Some local.0))) [])

abbrev pub solicitation_frame : ChecksumCapabilities → NeighborQuery → List ℕ
solicitation_frame caps (Query.Arp local source target) = arp_frame (arp_request local source target)
solicitation_frame caps (Query.Neighbor local source target) =
    packet_frame caps (Hardware.Ethernet local) (Hardware.Ethernet (solicited_hardware_addr target)) (solicitation local source target)

-- the neighbour that is asked for
abbrev pub target_of : NeighborQuery → IpAddress
target_of (Query.Arp local source target) = Address.Ipv4 target
target_of (Query.Neighbor local source target) = Address.Ipv6 target

abbrev pub solicitation_len : NeighborQuery → ℕ
solicitation_len (Query.Arp local source target) = 42
solicitation_len (Query.Neighbor local source target) = 86

-- ALL FRAMES

-- the frame of a departure from a host with this hardware address and these checksums
abbrev pub frame_from : HardwareAddress → ChecksumCapabilities → Departure → List ℕ
frame_from local caps (Asks neighbor_query) = solicitation_frame caps neighbor_query
frame_from local caps (Tells packet) = arp_frame packet
frame_from local caps (Whole to p) = packet_frame caps local to p
frame_from local caps (Part to header p) = fragment_frame caps local to header p

abbrev pub len_from : HardwareAddress → Departure → ℕ
len_from local (Asks neighbor_query) = solicitation_len neighbor_query
len_from local (Tells packet) = 42
len_from local (Whole to p) = packet_frame_len local to p
len_from local (Part to header p) = fragment_frame_len local to header p
