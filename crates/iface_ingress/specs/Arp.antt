-- ARP packets that arrive (RFC 826, "Packet Reception"; RFC 5227): whose hardware address the host learns from them, and what it
-- answers.
use Rattle.std.specs.Prelude.{Bool, true, false, ◌&&◌, ◌||◌, if◌then◌else◌, Option, None, Some}
use Rattle.std.specs.List.{list_any}
use Rattle.ip_wire.specs.AddressTests.{is_ethernet_unicast, is_unicast_v4, is_unspecified_v4}
use Rattle.ip_wire.specs.declared.arp.kinds.ArpOperation.{ArpOperation}
use Rattle.ip_wire.specs.declared.arp.kinds.ArpOperation.TheVariants as Operation
use Rattle.ip_wire.specs.declared.arp.repr.ArpRepr.{ArpRepr}
use Rattle.ip_wire.specs.declared.arp.repr.ArpRepr.TheVariants as Arp
use Rattle.ip_wire.specs.HardwareAddress.{HardwareAddress}
use Rattle.ip_wire.specs.HardwareAddress.TheVariants as Hardware
use Rattle.ip_wire.specs.IpAddress.TheVariants as Address
use Rattle.iface_tables.specs.Inner.{InnerValue, is_address_of, is_local, is_on_local_network, with_neighbor}
use Rattle.iface_ingress.specs.Acquaintance.{knows, seeks}

-- a request or a reply
abbrev pub is_known : ArpOperation → Bool
is_known Operation.Request = true
is_known Operation.Reply = true
is_known (Operation.Unknown n) = false

-- it is from one hardware address of a local network
abbrev pub is_sound : InnerValue → ArpRepr → Bool
is_sound i (Arp.EthernetIpv4 operation source_hardware source target_hardware target) =
    is_known operation && (is_unicast_v4 source && is_ethernet_unicast source_hardware) && is_on_local_network i (Address.Ipv4 source)

-- it asks or answers a local address
abbrev pub is_for_local : InnerValue → ArpRepr → Bool
is_for_local i (Arp.EthernetIpv4 operation source_hardware source target_hardware target) = is_local i (Address.Ipv4 target)

-- its sender is one that the host knows or asks for
abbrev pub is_from_known : InnerValue → ArpRepr → Bool
is_from_known i (Arp.EthernetIpv4 operation source_hardware source target_hardware target) =
    knows i (Address.Ipv4 source) || seeks i (Address.Ipv4 source)

-- The packet counts: it asks or answers a local address, and it is from one hardware address of a local network.
abbrev pub counts : InnerValue → ArpRepr → Bool
counts i packet = is_for_local i packet && is_sound i packet

-- It teaches of its sender: it counts, or it tells all hardware addresses the address of one that the host knows or asks for, as where that
-- takes another hardware address.
abbrev pub teaches : InnerValue → ArpRepr → Bool
teaches i packet = (is_for_local i packet || is_from_known i packet) && is_sound i packet

-- A hardware address that has no address yet looks whether an own one is in use (RFC 5227, section 2.1.1). What is own by `any_ip` alone is
-- nobody's.
abbrev pub probes : InnerValue → ArpRepr → Bool
probes i (Arp.EthernetIpv4 Operation.Request source_hardware source target_hardware target) =
    is_unspecified_v4 source && is_ethernet_unicast source_hardware && list_any (is_address_of (Address.Ipv4 target)) i.addresses
probes i packet = false

-- the sender's addresses are kept
abbrev pub learned : InnerValue → ArpRepr → InnerValue
learned i (Arp.EthernetIpv4 operation source_hardware source target_hardware target) =
    with_neighbor i (Address.Ipv4 source) (Hardware.Ethernet source_hardware)

-- what is answered at this hardware address: a request, with sender and target exchanged
abbrev pub answer_at : HardwareAddress → ArpRepr → Option ArpRepr
answer_at (Hardware.Ethernet local) (Arp.EthernetIpv4 Operation.Request source_hardware source target_hardware target) =
    Some (Arp.EthernetIpv4 Operation.Reply local target source_hardware source)
answer_at hardware packet = None

-- the host after the packet, and the answer
abbrev pub arp_arrived : InnerValue → ArpRepr → InnerValue
arp_arrived i packet = if teaches i packet then learned i packet else i

abbrev pub arp_answer : InnerValue → ArpRepr → Option ArpRepr
arp_answer i packet = if counts i packet || probes i packet then answer_at i.hardware packet else None
