-- What tells all neighbours the hardware address of a local address, though nobody asked.
use Rattle.std.specs.Prelude.{true, false, [], ◌∷◌, ◌++◌, replicate, Some}
use Rattle.control_wire.specs.Icmpv6 as Icmpv6
use Rattle.control_wire.specs.Ndisc as Neighbor
use Rattle.ip_wire.specs.EthernetAddress.{EthernetAddress}
use Rattle.ip_wire.specs.HardwareAddress.TheVariants as Hardware
use Rattle.ip_wire.specs.IpAddress.{IpAddress}
use Rattle.ip_wire.specs.IpAddress.TheVariants as Address
use Rattle.ip_wire.specs.IpProtocol.TheVariants as Protocol
use Rattle.ip_wire.specs.IpRepr.TheVariants as Ip
use Rattle.ip_wire.specs.Ipv6Address.{Ipv6Address}
use Rattle.ip_wire.specs.Ipv6Repr.{Ipv6Repr}
use Rattle.socket_context.specs.Packet.{PacketValue, ControlV6, packet_of}
use Rattle.iface_egress.specs.Departure.{Departure, Tells, Whole, arp_request}

-- ff02::1, the group of all nodes, and its Ethernet address (RFC 2464, section 7)
abbrev pub all_nodes : Ipv6Address
all_nodes = record { 0 = 0xff ∷ 2 ∷ replicate 13 0 ++ 1 ∷ [] }

abbrev pub all_nodes_hardware_addr : EthernetAddress
all_nodes_hardware_addr = record { 0 = 0x33 ∷ 0x33 ∷ 0 ∷ 0 ∷ 0 ∷ 1 ∷ [] }

abbrev pub unsolicited_header : Ipv6Address → Ipv6Repr
unsolicited_header address =
    record { src_addr = address; dst_addr = all_nodes; next_header = Protocol.Icmpv6; payload_len = 32; hop_limit = 255 }

-- the unsolicited advertisement, which overrides what is known (RFC 4861, section 7.2.6)
abbrev pub unsolicited_message : EthernetAddress → Ipv6Address → Neighbor.NeighborMessage
unsolicited_message local address =
    Neighbor.Advertisement (record { router = false; solicited = false; overrides = true }) address (Some local.0)

abbrev pub unsolicited : EthernetAddress → Ipv6Address → PacketValue
unsolicited local address =
    packet_of (Ip.Ipv6 (unsolicited_header address)) (ControlV6 (Icmpv6.Ndisc (unsolicited_message local address)) [])

-- An IPv4 address is told of by an ARP request of it for itself (RFC 5227, section 2.3), an IPv6 address by an advertisement.
abbrev pub announcement : EthernetAddress → IpAddress → Departure
announcement local (Address.Ipv4 address) = Tells (arp_request local address address)
announcement local (Address.Ipv6 address) = Whole (Hardware.Ethernet all_nodes_hardware_addr) (unsolicited local address)
