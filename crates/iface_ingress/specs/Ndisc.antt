-- Neighbour messages that arrive (RFC 4861, sections 7.1 and 7.2): what the host learns from them, and what it answers.
use Rattle.std.specs.Prelude.{ℕ, ◌==◌, ◌&&◌, ◌||◌, not, Bool, true, false, if◌then◌else◌, List, [], ◌∷◌, ◌++◌, replicate, length, Option, None, Some}
use Rattle.wire_icmpv6.specs.Icmpv6 as Icmpv6
use Rattle.wire_icmpv6.specs.Ndisc.{NeighborMessage, Solicitation, Advertisement}
use Rattle.wire_icmpv6.specs.declared.ndisc_flags.NdiscNeighborFlags.{NdiscNeighborFlags}
use Rattle.ip_wire.specs.AddressTests.{is_ethernet_unicast, is_unicast_v6, is_multicast_v6, is_unspecified_v6}
use Rattle.ip_wire.specs.EthernetAddress.{EthernetAddress}
use Rattle.ip_wire.specs.HardwareAddress.{HardwareAddress}
use Rattle.ip_wire.specs.HardwareAddress.TheVariants as Hardware
use Rattle.ip_wire.specs.IpAddress.TheVariants as Address
use Rattle.ip_wire.specs.IpProtocol.TheVariants as Protocol
use Rattle.ip_wire.specs.IpRepr.TheVariants as Ip
use Rattle.ip_wire.specs.Ipv6Address.{Ipv6Address}
use Rattle.ip_wire.specs.Ipv6Repr.{Ipv6Repr}
use Rattle.socket_context.specs.Packet.{PacketValue, ControlV6, packet_of}
use Rattle.iface_tables.specs.Inner.{InnerValue, is_local, is_local_solicited_node, is_probed, with_neighbor}
use Rattle.iface_ingress.specs.Acquaintance.{knows, seeks}

-- the host after a message, and what it answers
pub record Heard : Type 0 where
  pub inner : InnerValue
  pub reply : Option PacketValue

abbrev pub heard : InnerValue → Option PacketValue → Heard
heard i reply = record { inner = i; reply = reply }

-- WHICH MESSAGES COUNT

-- the Ethernet address with these bytes
abbrev pub hardware_addr : List ℕ → EthernetAddress
hardware_addr link = record { 0 = link }

-- the link address, if the message gives one, is that of one Ethernet hardware address
abbrev pub is_one_hardware_addr : Option (List ℕ) → Bool
is_one_hardware_addr None = true
is_one_hardware_addr (Some link) = length link == 6 && is_ethernet_unicast (hardware_addr link)

-- who has no address yet gives no link address for it
abbrev pub is_sender_of : Ipv6Address → Option (List ℕ) → Bool
is_sender_of source None = true
is_sender_of source (Some link) = not (is_unspecified_v6 source)

-- no router passed the packet on, so that its sender is a neighbour (RFC 4861, section 3.1), its target is one host's, and link
-- address and sender are sound
abbrev pub counts : Ipv6Repr → Ipv6Address → Option (List ℕ) → Bool
counts header target link =
    header.hop_limit == 255 && is_one_hardware_addr link && is_unicast_v6 target && is_sender_of header.src_addr link

-- a solicitation counts where it asks for a local address: of another's the host learns nothing (RFC 4861, section 7.2.3)
abbrev pub asks_host : InnerValue → Ipv6Repr → Ipv6Address → Option (List ℕ) → Bool
asks_host i header target link = counts header target link && is_local i (Address.Ipv6 target)

-- an advertisement counts, which answers a solicitation only where it went to one host
abbrev pub tells : Ipv6Repr → NdiscNeighborFlags → Ipv6Address → Option (List ℕ) → Bool
tells header flags target link = counts header target link && not (flags.solicited && is_multicast_v6 header.dst_addr)

-- WHAT IS LEARNED: a neighbour's link address, if the message gives it: of a solicitation's sender, of an advertisement's target

abbrev pub learned : InnerValue → Ipv6Address → Option (List ℕ) → InnerValue
learned i source None = i
learned i source (Some link) = with_neighbor i (Address.Ipv6 source) (Hardware.Ethernet (hardware_addr link))

-- an advertisement replaces a known address where it says so, and gives an unknown one only where the host asks for it
abbrev pub replaces : InnerValue → NdiscNeighborFlags → Ipv6Address → Bool
replaces i flags target = if knows i (Address.Ipv6 target) then flags.overrides else seeks i (Address.Ipv6 target)

abbrev pub advertised : InnerValue → NdiscNeighborFlags → Ipv6Address → Option (List ℕ) → InnerValue
advertised i flags target link = if replaces i flags target then learned i target link else i

-- WHAT IS ANSWERED: a solicitation for a local address, sent to that or to a local address's solicited-node group; and one from
-- who looks whether a local address is in use, sent to the address's solicited-node group

abbrev pub is_asked : InnerValue → Ipv6Repr → Ipv6Address → Bool
is_asked i header target =
    if is_unspecified_v6 header.src_addr then is_probed i header.dst_addr target
    else (is_local_solicited_node i header.dst_addr || is_local i (Address.Ipv6 header.dst_addr)) && is_local i (Address.Ipv6 target)

-- the group of all nodes, ff02::1
abbrev pub all_nodes : Ipv6Address
all_nodes = record { 0 = 0xff ∷ 2 ∷ replicate 13 0 ++ 1 ∷ [] }

-- The advertisement goes to who asked. Who has no address yet hears it as all nodes do, and then it isn't said to be solicited
-- (RFC 4861, section 7.2.4).
abbrev pub told_at : Ipv6Address → Ipv6Address
told_at asker = if is_unspecified_v6 asker then all_nodes else asker

abbrev pub flags_for : Bool → Ipv6Address → NdiscNeighborFlags
flags_for overrides asker = record { router = false; solicited = not (is_unspecified_v6 asker); overrides = overrides }

-- the own link address, from the target
abbrev pub advertisement_header : Ipv6Address → Ipv6Address → Ipv6Repr
advertisement_header target to =
    record { src_addr = target; dst_addr = to; next_header = Protocol.Icmpv6; payload_len = 32; hop_limit = 255 }

abbrev pub advertisement : Bool → EthernetAddress → Ipv6Address → Ipv6Address → PacketValue
advertisement overrides local target asker =
    packet_of (Ip.Ipv6 (advertisement_header target (told_at asker)))
    (ControlV6 (Icmpv6.Ndisc (Advertisement (flags_for overrides asker) target (Some local.0))) [])

-- with host requirements it replaces what who asked knew: an own address is one host's alone (RFC 4861, section 7.2.4)
abbrev pub answer : EthernetAddress → InnerValue → Ipv6Repr → Ipv6Address → Option PacketValue
answer local i header target =
    if is_asked i header target then Some (advertisement i.host_requirements local target header.src_addr) else None

-- ARRIVAL of a message in a packet with this header, at this Ethernet address; a medium without hardware addresses has no
-- neighbour messages

abbrev pub heard_at : EthernetAddress → InnerValue → Ipv6Repr → NeighborMessage → Heard
heard_at local i header (Solicitation target link) =
    if asks_host i header target link then heard (learned i header.src_addr link) (answer local i header target) else heard i None
heard_at local i header (Advertisement flags target link) =
    if tells header flags target link then heard (advertised i flags target link) None else heard i None

abbrev pub heard_on : HardwareAddress → InnerValue → Ipv6Repr → NeighborMessage → Heard
heard_on Hardware.Ip i header message = heard i None
heard_on (Hardware.Ethernet local) i header message = heard_at local i header message

abbrev pub neighbor_learned : InnerValue → Ipv6Repr → NeighborMessage → Heard
neighbor_learned i header message = heard_on i.hardware i header message

-- a host with the neighbours' entries, and the searches for neighbours, of another
abbrev pub with_entries_of : InnerValue → InnerValue → InnerValue
with_entries_of other i = record i { neighbors = record i.neighbors { entries = other.neighbors.entries; searches = other.neighbors.searches } }
