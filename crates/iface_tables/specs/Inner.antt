-- A host alongside its sockets and its slots, as a value: its addresses and tables, and where its packets go (RFC 1122, sections
-- 3.2.1.3 and 3.3.1; RFC 4291, section 2.8).
use Rattle.std.specs.Prelude.{ℕ, ◌+◌, ◌/◌, ◌%◌, ◌^◌, ◌==◌, ◌&&◌, ◌||◌, not, nat_lt, Bool, true, false, if◌then◌else◌, ℤ, pos, ◌+ℤ◌, int_lt, List, [], ◌∷◌, ◌++◌}
use Rattle.std.specs.Prelude.{length, take, drop, replicate, slice_index, Option, None, Some}
use Rattle.std.specs.List.{list_any}
use Rattle.std.specs.Str.{bytes_eq}
use Rattle.net_base.specs.ChecksumCapabilities.{ChecksumCapabilities}
use Rattle.net_base.specs.RandomWords.{next_state}
use Rattle.ip_wire.specs.AddressTests.{is_same_address, is_in_cidr, is_broadcast_v4, is_multicast, is_unicast, is_unspecified, is_loopback, are_of_one_family}
use Rattle.ip_wire.specs.AddressTests.{is_unicast_v6, is_loopback_v6, is_solicited_node, broadcast_in}
use Rattle.ip_wire.specs.Cidr.{cidr_address}
use Rattle.ip_wire.specs.EthernetAddress.{EthernetAddress}
use Rattle.ip_wire.specs.HardwareAddress.{HardwareAddress}
use Rattle.ip_wire.specs.HardwareAddress.TheVariants as Hardware
use Rattle.ip_wire.specs.IpAddress.{IpAddress}
use Rattle.ip_wire.specs.IpAddress.TheVariants as Ip
use Rattle.ip_wire.specs.IpCidr.{IpCidr}
use Rattle.ip_wire.specs.IpCidr.TheVariants as Cidr
use Rattle.ip_wire.specs.Ipv4Address.{Ipv4Address}
use Rattle.ip_wire.specs.Ipv6Address.{Ipv6Address}
use Rattle.ip_wire.specs.Ip.{destination_of}
use Rattle.socket_context.specs.Context.{ContextValue}
use Rattle.socket_context.specs.Packet.{PacketValue}
use Rattle.iface_tables.specs.ErrorLimit.{may_answer, answered_at}
pub use Rattle.iface_tables.specs.Groups.{is_all_systems, is_all_nodes}
use Rattle.iface_tables.specs.Groups.{GroupsValue, is_joined}
use Rattle.iface_tables.specs.Neighbor.{CacheValue, last_request, own_silence, lookup, is_found, filled, renewed, requested, silent_time, entry_lifetime}
use Rattle.iface_tables.specs.Parking.{ParkingValue, parked_as, with_parked}
use Rattle.iface_tables.specs.PathMtu.{mtu_towards, end_towards, lowered}
use Rattle.iface_tables.specs.Route.{best_route, router_of}
use Rattle.iface_tables.specs.Source.{source_for}
use Rattle.iface_tables.specs.declared.link.LinkAddress.{LinkAddress}
use Rattle.iface_tables.specs.declared.link.LinkAddress.TheVariants as Link
use Rattle.iface_tables.specs.declared.neighbor.Answer.{Answer}
use Rattle.iface_tables.specs.declared.neighbor.Answer.TheVariants as Known
use Rattle.iface_tables.specs.declared.parking.ParkedHeader.{ParkedHeader}
use Rattle.iface_tables.specs.declared.path_mtu.Path.{Path}
use Rattle.iface_tables.specs.declared.route.Route.{Route}

-- The instant of the call that runs, or of the last one; the state of the random words; the hardware address, `Ip` on a medium
-- that has none; the longest IP packet of a frame; the checksums that the stack handles itself; the key of 16 bytes by which first
-- numbers of connections are told, if there is one; the local addresses, and whether every address is one; the multicast groups that were
-- joined, and how many may be; the routes, how many there can be, and the neighbours;
-- the identification of the next IPv4 datagram; the instant up to which errors that went are counted; what was told of paths;
-- whether nothing ran yet; whether it does what RFC 1122 and the standards after it ask of a host on a network of many, where smoltcp
-- does otherwise; and then the packets that wait for their next hops.
pub record InnerValue : Type 0 where
  pub instant : ℤ
  pub random : ℕ
  pub hardware : HardwareAddress
  pub mtu : ℕ
  pub checksums : ChecksumCapabilities
  pub isn_key : Option (List ℕ)
  pub addresses : List IpCidr
  pub any_ip : Bool
  pub groups : GroupsValue
  pub routes : List Route
  pub route_room : ℕ
  pub neighbors : CacheValue
  pub ident : ℕ
  pub errors_until : ℤ
  pub paths : List Path
  pub initial : Bool
  pub host_requirements : Bool
  pub parking : ParkingValue

-- OWN ADDRESSES

abbrev pub is_address_of : IpAddress → IpCidr → Bool
is_address_of address cidr = is_same_address (cidr_address cidr) address

abbrev pub is_local : InnerValue → IpAddress → Bool
is_local i address = i.any_ip || list_any (is_address_of address) i.addresses

-- the address is in the network of an own one
abbrev pub is_on_local_network : InnerValue → IpAddress → Bool
is_on_local_network i address = list_any (λ b. is_in_cidr b address) i.addresses

abbrev pub is_this : Option Ipv4Address → Ipv4Address → Bool
is_this None address = false
is_this (Some other) address = bytes_eq address.0 other.0

abbrev pub is_broadcast_of : Ipv4Address → IpCidr → Bool
is_broadcast_of address (Cidr.Ipv4 b) = is_this (broadcast_in b) address
is_broadcast_of address (Cidr.Ipv6 b) = false

-- 255.255.255.255, or the broadcast address of a local network
abbrev pub is_local_broadcast : InnerValue → IpAddress → Bool
is_local_broadcast i (Ip.Ipv4 address) = is_broadcast_v4 address || list_any (is_broadcast_of address) i.addresses
is_local_broadcast i (Ip.Ipv6 address) = false

-- GROUPS

-- the group's last 24 bits are the address's, after the solicited-node prefix (RFC 4291, section 2.7.1)
abbrev pub solicits : Ipv6Address → Ipv6Address → Bool
solicits group address = is_solicited_node group && bytes_eq (drop 13 group.0) (drop 13 address.0)

abbrev pub solicits_cidr : Ipv6Address → IpCidr → Bool
solicits_cidr group (Cidr.Ipv4 b) = false
solicits_cidr group (Cidr.Ipv6 b) = not (is_loopback_v6 b.address) && solicits group b.address

-- the group of an own IPv6 address but ::1
abbrev pub is_local_solicited_node : InnerValue → Ipv6Address → Bool
is_local_solicited_node i group = list_any (solicits_cidr group) i.addresses

abbrev pub is_member_of : InnerValue → IpAddress → Bool
is_member_of i (Ip.Ipv4 group) = is_all_systems group || is_joined i.groups (Ip.Ipv4 group)
is_member_of i (Ip.Ipv6 group) =
    is_all_nodes group || is_local_solicited_node i group || is_joined i.groups (Ip.Ipv6 group)

-- Who looks for an address in use asks by this group for this address, which is an own one (RFC 4862, section 5.4.3). What is
-- own by `any_ip` alone is nobody's.
abbrev pub is_probed : InnerValue → Ipv6Address → Ipv6Address → Bool
is_probed i group address =
    is_unicast_v6 address && not (is_loopback_v6 address) && solicits group address
    && list_any (is_address_of (Ip.Ipv6 address)) i.addresses

-- ARRIVAL: a packet for this destination is for the host

abbrev pub is_loopback_in : IpAddress → Bool
is_loopback_in (Ip.Ipv4 a) = false
is_loopback_in (Ip.Ipv6 a) = is_loopback_v6 a

abbrev pub is_for_us : InnerValue → IpAddress → Bool
is_for_us i address =
    is_local i address || is_member_of i address || is_local_broadcast i address || is_loopback_in address

-- a local address: nobody else sends from it
abbrev pub is_local_source : InnerValue → IpAddress → Bool
is_local_source i source = not (is_unspecified source) && list_any (is_address_of source) i.addresses

-- ::ffff:0:0/96, whose addresses stand for IPv4 ones within a host (RFC 4291, section 2.5.5.2)
abbrev pub is_mapped : IpAddress → Bool
is_mapped (Ip.Ipv4 a) = false
is_mapped (Ip.Ipv6 a) = bytes_eq (take 12 a.0) (replicate 10 0 ++ 0xff ∷ 0xff ∷ [])

-- With host requirements no packet comes over a device from a local address, and none from or to an IPv4-mapped one (RFC 1122, section
-- 3.2.1.3; RFC 4942, section 2.2).
abbrev pub never_comes : InnerValue → IpAddress → IpAddress → Bool
never_comes i source destination = i.host_requirements && (is_local_source i source || (is_mapped source || is_mapped destination))

-- ADDRESSES THAT STAY IN A HOST, AND SOURCES (RFC 1122, section 3.2.1.3; RFC 4291, sections 2.5.3 and 2.7)

abbrev pub is_loopback_of : IpAddress → IpCidr → Bool
is_loopback_of address cidr = is_loopback (cidr_address cidr) && are_of_one_family address (cidr_address cidr)

-- a loopback address of a family of which the host has none
abbrev pub is_foreign_loopback : InnerValue → IpAddress → Bool
is_foreign_loopback i address = is_loopback address && not (list_any (is_loopback_of address) i.addresses)

-- 255.255.255.255
abbrev pub is_limited_broadcast : IpAddress → Bool
is_limited_broadcast (Ip.Ipv4 a) = is_broadcast_v4 a
is_limited_broadcast (Ip.Ipv6 a) = false

-- With host requirements nothing comes from the unspecified address, but what goes to all hosts of the network, as a client of DHCP asks
-- for an address (RFC 1122, section 3.2.1.3; RFC 2131, section 4.1; RFC 4291, section 2.5.2).
abbrev pub is_nameless : InnerValue → IpAddress → IpAddress → Bool
is_nameless i source destination = is_unspecified source && (i.host_requirements && not (is_limited_broadcast destination))

-- A packet for this destination may come from this address: it is that of all hosts or of a group never, and a loopback address
-- only where the destination is one, too.
abbrev pub may_be_source : InnerValue → IpAddress → IpAddress → Bool
may_be_source i source destination =
    not (is_local_broadcast i source || (is_multicast source || is_nameless i source destination))
    && (not (is_loopback source) || is_loopback destination)

-- WAY OUT

-- fe80::/64, the form of the link-local addresses (RFC 4291, section 2.5.6)
abbrev pub is_in_link_prefix : IpAddress → Bool
is_in_link_prefix (Ip.Ipv4 a) = false
is_in_link_prefix (Ip.Ipv6 a) = bytes_eq (take 8 a.0) (0xfe ∷ 0x80 ∷ replicate 6 0)

-- The address is a neighbour's: it is in a local network, or a link-local one, which no router passes on (RFC 4861, section 5.1).
abbrev pub is_on_link : InnerValue → IpAddress → Bool
is_on_link i address = is_on_local_network i address || is_in_link_prefix address

-- the destination itself on the link, else the router of the best route
abbrev pub next_hop : InnerValue → IpAddress → Option IpAddress
next_hop i address =
    if is_on_link i address then Some address else router_of (best_route i.routes address i.instant)

-- the Ethernet address of all hardware addresses
abbrev pub all_stations : EthernetAddress
all_stations = record { 0 = replicate 6 0xff }

-- the Ethernet address of a group (RFC 1112, section 6.4: the group's low 23 bits; RFC 2464, section 7: its last 32 bits)
abbrev pub group_hardware_addr : IpAddress → EthernetAddress
group_hardware_addr (Ip.Ipv4 group) =
    record { 0 = 0x01 ∷ 0x00 ∷ 0x5e ∷ (slice_index group.0 1 % 128) ∷ slice_index group.0 2 ∷ slice_index group.0 3 ∷ [] }
group_hardware_addr (Ip.Ipv6 group) = record { 0 = 0x33 ∷ 0x33 ∷ drop 12 group.0 }

abbrev pub link_by : Answer → IpAddress → LinkAddress
link_by (Known.Found hardware) hop = Link.Known hardware
link_by Known.RateLimited hop = Link.Silent
link_by Known.Unanswered hop = Link.Unanswered
link_by Known.NotFound hop = Link.Unknown hop

-- Until when no request for an address goes: with host requirements each has a silence of its own (RFC 1122, section 2.3.2.1; RFC 4861,
-- section 7.2.2), else one silence is for all.
abbrev pub silence_of : InnerValue → IpAddress → ℤ
silence_of i address = if i.host_requirements then own_silence (last_request i.neighbors address) i.neighbors else i.neighbors.silent

-- the neighbours, with the silence that counts for this address
abbrev pub asked_of : InnerValue → IpAddress → CacheValue
asked_of i address = record i.neighbors { silent = silence_of i address }

abbrev pub link_of_hop : InnerValue → Option IpAddress → LinkAddress
link_of_hop i None = Link.NoRoute
link_of_hop i (Some hop) = link_by (lookup (asked_of i hop) hop i.instant) hop

abbrev pub link_on : HardwareAddress → InnerValue → IpAddress → LinkAddress
link_on Hardware.Ip i address = Link.Known Hardware.Ip
link_on (Hardware.Ethernet local) i address =
    if is_local_broadcast i address then Link.Known (Hardware.Ethernet all_stations)
    else if is_multicast address then Link.Known (Hardware.Ethernet (group_hardware_addr address))
    else link_of_hop i (next_hop i address)

-- where the frame of a packet for this destination goes: to all hardware addresses for a broadcast, to a group's, else to the next hop's
abbrev pub link_address : InnerValue → IpAddress → LinkAddress
link_address i address = link_on i.hardware i address

abbrev pub is_known_on : HardwareAddress → InnerValue → IpAddress → Bool
is_known_on Hardware.Ip i hop = true
is_known_on (Hardware.Ethernet local) i hop = is_found (lookup i.neighbors hop i.instant)

abbrev pub is_known_hop : InnerValue → Option IpAddress → Bool
is_known_hop i None = false
is_known_hop i (Some hop) = is_known_on i.hardware i hop

-- there is a next hop for the destination, and its hardware address is known
abbrev pub has_neighbor : InnerValue → IpAddress → Bool
has_neighbor i address = is_known_hop i (next_hop i address)

-- WAITING

abbrev pub is_awaited : Answer → Bool
is_awaited (Known.Found hardware) = false
is_awaited Known.NotFound = true
is_awaited Known.RateLimited = true
is_awaited Known.Unanswered = false

abbrev pub awaited_by : Option IpAddress → InnerValue → Option IpAddress
awaited_by None i = None
awaited_by (Some hop) i = if is_awaited (lookup i.neighbors hop i.instant) then Some hop else None

-- the next hop that a packet for a destination waits for: one that isn't known, and doesn't count as without answer
abbrev pub awaited_hop : InnerValue → IpAddress → Option IpAddress
awaited_hop i address = awaited_by (next_hop i address) i

-- PACKETS THAT WAIT FOR THEIR NEXT HOPS

-- one without a route is dropped
abbrev pub parked_by : Option IpAddress → InnerValue → PacketValue → ParkingValue
parked_by None i p = i.parking
parked_by (Some hop) i p = with_parked (parked_as i.checksums hop p) i.parking

abbrev pub with_packet_parked : InnerValue → PacketValue → InnerValue
with_packet_parked i p = record i { parking = parked_by (next_hop i (destination_of p.header)) i p }

-- when something is to be done about one: when its next hop may be asked for again, else at once
abbrev pub due_by : LinkAddress → InnerValue → IpAddress → ℤ
due_by Link.Silent i hop = silence_of i hop
due_by link i hop = pos 0

abbrev pub parked_instant : InnerValue → ParkedHeader → ℤ
parked_instant i h = due_by (link_address i (destination_of h.header)) i h.hop

-- NEIGHBOURS THAT ARE ASKED FOR

-- The host asks for as many neighbours as it keeps count of, and others wait for their turn; with host requirements the oldest search gives way.
abbrev pub is_crowded : InnerValue → Bool
is_crowded i = not i.host_requirements && not (nat_lt (length i.neighbors.searches) i.neighbors.search_room)

-- when a neighbour may be asked for again: at the end of the silence, else in a second
abbrev pub next_request : InnerValue → ℤ
next_request i = if int_lt i.instant i.neighbors.silent then i.neighbors.silent else i.instant +ℤ pos silent_time

-- PATHS

-- how long a packet to a destination may be: as long as a frame carries, or as the path there was told to carry
abbrev pub mtu_to : InnerValue → IpAddress → ℕ
mtu_to i address = mtu_towards i.paths address i.instant i.mtu

-- when what is known of the path to a destination ends, if something is
abbrev pub path_end : InnerValue → IpAddress → Option ℤ
path_end i address = end_towards i.paths address i.instant

-- a message told now that the path to a destination carries so many bytes
abbrev pub with_path : InnerValue → IpAddress → ℕ → InnerValue
with_path i address told = record i { paths = lowered i.paths address told i.instant i.mtu }

-- WHAT SOCKETS SEE

abbrev pub context_of : InnerValue → ContextValue
context_of i = record {
  instant = i.instant;
  has_ip_addr = is_local i;
  source_for = source_for i.addresses;
  is_broadcast = is_local_broadcast i;
  ip_mtu = i.mtu;
  checksums = i.checksums;
  isn_key = i.isn_key;
  random = i.random;
}

-- how long a packet may be of a socket that sends to this destination alone, or to several
abbrev pub mtu_by_destination : InnerValue → Option IpAddress → ℕ
mtu_by_destination i None = i.mtu
mtu_by_destination i (Some address) = mtu_to i address

-- What such a socket sees when it is asked for a packet, or when it wants to be polled. It draws no random word of the host's then: those
-- that it sees begin at 0.
abbrev pub context_towards : InnerValue → Option IpAddress → ContextValue
context_towards i destination = record (context_of i) { ip_mtu = mtu_by_destination i destination; random = 0 }

-- a random word was drawn
abbrev pub drawn : InnerValue → InnerValue
drawn i = record i { random = next_state i.random }

-- STEPS

-- a call that polls begins at an instant
abbrev pub at_instant : ℤ → InnerValue → InnerValue
at_instant instant i = record i { instant = instant; initial = false }

-- a datagram took the identification
abbrev pub with_next_ident : InnerValue → InnerValue
with_next_ident i = record i { ident = (i.ident + 1) % 2 ^ 16 }

-- a neighbour was heard
abbrev pub with_neighbor : InnerValue → IpAddress → HardwareAddress → InnerValue
with_neighbor i address hardware = record i {
  neighbors = filled i.neighbors (record { protocol_addr = address; hardware_addr = hardware; expires_at = i.instant +ℤ pos entry_lifetime });
}

-- a packet came from a neighbour
abbrev pub with_renewal : InnerValue → IpAddress → HardwareAddress → InnerValue
with_renewal i address hardware = record i { neighbors = renewed i.neighbors address hardware i.instant }

-- a neighbour was asked for
abbrev pub with_request : InnerValue → IpAddress → InnerValue
with_request i address = record i { neighbors = requested i.neighbors address i.instant }

-- ERRORS AND RESETS that answer what nobody takes

-- one may go now
abbrev pub may_tell : InnerValue → Bool
may_tell i = may_answer i.errors_until i.instant

-- one goes now
abbrev pub with_error : InnerValue → InnerValue
with_error i = record i { errors_until = answered_at i.errors_until i.instant }
