-- What a frame says of groups: a query that counts, or another's report of version 1 or 2.
use Rattle.std.specs.Prelude.{ℕ, zero, suc, ◌+◌, ◌*◌, ◌/◌, ◌%◌, ◌≤◌, ◌==◌, ◌&&◌, ◌||◌, not, nat_le, nat_lt, Bool, true, false, if◌then◌else◌, List, [], ◌∷◌, length, take, drop, slice_index, slice_range, Option, None, Some}
use Rattle.std.specs.List.{list_any}
use Rattle.std.specs.Str.{bytes_eq}
use Rattle.net_base.specs.Capabilities.{verifies}
use Rattle.ip_wire.specs.AddressTests.{is_multicast_v4, is_multicast_v6, is_link_local}
use Rattle.ip_wire.specs.EthernetAddress.{EthernetAddress}
use Rattle.ip_wire.specs.Fields.{be16}
use Rattle.ip_wire.specs.HardwareAddress.{HardwareAddress}
use Rattle.ip_wire.specs.HardwareAddress.TheVariants as Hardware
use Rattle.ip_wire.specs.IpAddress.{IpAddress}
use Rattle.ip_wire.specs.IpAddress.TheVariants as Ip
use Rattle.ip_wire.specs.Ipv4Address.{Ipv4Address}
use Rattle.ip_wire.specs.Ipv6Address.{Ipv6Address}
use Rattle.ip_wire.specs.Pseudo.{pseudo_v6}
use Rattle.ip_wire.specs.Sum.{word_sum, folded}
use Rattle.iface_groups.specs.Counts.{counts_v4, counts_v6}
use Rattle.iface_groups.specs.Query.{igmp_max_micros, mld_max_micros}
use Rattle.iface_groups.specs.declared.mode.CompatibilityMode.{CompatibilityMode}
use Rattle.iface_groups.specs.declared.mode.CompatibilityMode.TheVariants as Mode
use Rattle.iface_tables.specs.Inner.{InnerValue, is_address_of}
use Rattle.iface_reports.specs.declared.heard.Heard.{Heard}
use Rattle.iface_reports.specs.declared.heard.Heard.TheVariants as Came
use Rattle.iface_reports.specs.declared.mld_in.OptionAhead.{OptionAhead}
use Rattle.iface_reports.specs.declared.mld_in.OptionAhead.TheVariants as Ahead

abbrev pub is_own : InnerValue → IpAddress → Bool
is_own i address = list_any (is_address_of address) i.addresses

abbrev pub v4_at : List ℕ → ℕ → Ipv4Address
v4_at bytes at = record { 0 = slice_range bytes at (at + 4) }

abbrev pub v6_at : List ℕ → ℕ → Ipv6Address
v6_at bytes at = record { 0 = slice_range bytes at (at + 16) }

-- FRAMES

-- a frame of an IP packet to this hardware address or to a group of them
abbrev pub is_for : EthernetAddress → List ℕ → Bool
is_for local frame =
    nat_le 14 (length frame)
    && ((slice_index frame 0 % 2 == 1) || bytes_eq (take 6 frame) local.0)
    && ((be16 frame 12 == 0x0800) || (be16 frame 12 == 0x86dd))

-- the IP packet of a frame, if it has one
abbrev pub packet_in : HardwareAddress → List ℕ → List ℕ
packet_in Hardware.Ip frame = frame
packet_in (Hardware.Ethernet local) frame = if is_for local frame then drop 14 frame else []

-- what may be IGMP: a packet of IPv4 that names protocol 2
abbrev pub is_igmp : List ℕ → Bool
is_igmp packet = nat_le 20 (length packet) && (slice_index packet 0 / 16 == 4) && (slice_index packet 9 == 2)

-- what may be MLD: a packet of IPv6 whose first header is of hop-by-hop options
abbrev pub is_mld : List ℕ → Bool
is_mld packet = nat_le 48 (length packet) && (slice_index packet 0 / 16 == 6) && (slice_index packet 6 == 0)

-- IGMP

abbrev pub header_len_v4 : List ℕ → ℕ
header_len_v4 packet = slice_index packet 0 % 16 * 4

-- the header of a whole datagram (RFC 791, section 3.1), with its options
abbrev pub is_whole_v4 : Bool → List ℕ → Bool
is_whole_v4 tested packet =
    nat_le 20 (header_len_v4 packet)
    && nat_le (header_len_v4 packet) (be16 packet 2)
    && nat_le (be16 packet 2) (length packet)
    && (be16 packet 6 % 0x4000 == 0)
    && (not tested || (folded (word_sum (take (header_len_v4 packet) packet)) == 65535))

-- which version a query is of (RFC 3376, section 7.1): a length of its own is of none
abbrev pub igmp_version : List ℕ → Option CompatibilityMode
igmp_version message =
    if length message == 8 then Some (if slice_index message 1 == 0 then Mode.Igmpv1 else Mode.Igmpv2)
    else (if nat_le 12 (length message) && nat_le (12 + 4 * be16 message 10) (length message) then Some Mode.Igmpv3
    else None)

abbrev pub igmp_query : InnerValue → Ipv4Address → Ipv4Address → List ℕ → Option CompatibilityMode → Option Heard
igmp_query i source destination message None = None
igmp_query i source destination message (Some version) =
    if counts_v4 source destination (v4_at message 4) (is_own i (Ip.Ipv4 source)) (is_own i (Ip.Ipv4 destination))
    then Some (Came.Query version (Ip.Ipv4 (v4_at message 4)) (igmp_max_micros version (slice_index message 1)))
    else None

-- another host's report goes to the group that it names (RFC 2236, section 9)
abbrev pub igmp_report : InnerValue → Ipv4Address → Ipv4Address → Ipv4Address → Option Heard
igmp_report i source destination group =
    if not (is_own i (Ip.Ipv4 source)) && bytes_eq destination.0 group.0 && is_multicast_v4 group then Some (Came.Report (Ip.Ipv4 group)) else None

abbrev pub igmp_said : InnerValue → Ipv4Address → Ipv4Address → List ℕ → Option Heard
igmp_said i source destination message =
    if slice_index message 0 == 17 then igmp_query i source destination message (igmp_version message)
    else (if (slice_index message 0 == 18) || (slice_index message 0 == 22) then igmp_report i source destination (v4_at message 4)
    else None)

-- a message whose checksum holds
abbrev pub igmp_heard : InnerValue → Ipv4Address → Ipv4Address → List ℕ → Option Heard
igmp_heard i source destination message =
    if nat_le 8 (length message) && (folded (word_sum message) == 65535) then igmp_said i source destination message else None

abbrev pub heard_v4 : InnerValue → List ℕ → Option Heard
heard_v4 i packet =
    if is_whole_v4 (verifies i.checksums.ipv4) packet
    then igmp_heard i (v4_at packet 12) (v4_at packet 16) (slice_range packet (header_len_v4 packet) (be16 packet 2))
    else None

-- MLD

-- a router alert of value 0 (RFC 2711, section 2.1)
abbrev pub is_alert : (kind len : ℕ) → List ℕ → Bool
is_alert kind len inside = (kind == 5) && (len == 2) && (be16 inside 0 == 0)

-- what stands first among options (RFC 8200, section 4.2); one that runs past its header ends them
abbrev pub option_at_front : List ℕ → OptionAhead
option_at_front [] = Ahead.End
option_at_front (kind ∷ []) = if kind == 0 then Ahead.Other 1 else Ahead.End
option_at_front (kind ∷ len ∷ inside) =
    if kind == 0 then Ahead.Other 1
    else (if nat_lt (length inside) len then Ahead.End
    else (if is_alert kind len inside then Ahead.Alert else Ahead.Other (2 + len)))

-- an option ends within so many bytes
abbrev pub EndsWithin : ℕ → OptionAhead → Type 0
EndsWithin size (Ahead.Other len) = len ≤ size
EndsWithin size _ = Unit {0}

-- Whether one of these options is a router alert of value 0. `most` is a bound of how many there are.
unfoldable pub alerts_among : (most : ℕ) → List ℕ → Bool
alerts_among zero bytes = false
alerts_among (suc most) bytes =
    elim (option_at_front bytes) as (λ _. Bool) [
      | Ahead.End ↦ false
      | Ahead.Alert ↦ true
      | Ahead.Other len ↦ alerts_among most (drop len bytes)
    ]

abbrev pub has_alert : List ℕ → Bool
has_alert bytes = alerts_among (length bytes) bytes

abbrev pub payload_len_v6 : List ℕ → ℕ
payload_len_v6 packet = be16 packet 4

-- how long the hop-by-hop header is
abbrev pub options_len : List ℕ → ℕ
options_len packet = 8 + slice_index packet 41 * 8

-- a header of hop-by-hop options that is there, and ICMPv6 after it
abbrev pub is_whole_v6 : List ℕ → Bool
is_whole_v6 packet =
    nat_le (40 + payload_len_v6 packet) (length packet)
    && nat_le (options_len packet) (payload_len_v6 packet)
    && (slice_index packet 40 == 58)

-- the checksum holds
abbrev pub is_summed : Ipv6Address → Ipv6Address → List ℕ → Bool
is_summed source destination message =
    folded (folded (word_sum (pseudo_v6 source.0 destination.0 58 (length message))) + folded (word_sum message)) == 65535

-- which version a query is of (RFC 3810, section 8.1)
abbrev pub mld_version : List ℕ → Option CompatibilityMode
mld_version message =
    if length message == 24 then Some Mode.Igmpv2
    else (if nat_le 28 (length message) && nat_le (28 + 16 * be16 message 26) (length message) then Some Mode.Igmpv3
    else None)

abbrev pub mld_query : InnerValue → Ipv6Address → Ipv6Address → ℕ → Bool → List ℕ → Option CompatibilityMode → Option Heard
mld_query i source destination hop_limit alert message None = None
mld_query i source destination hop_limit alert message (Some version) =
    if counts_v6 source destination (v6_at message 8) hop_limit alert (is_own i (Ip.Ipv6 source)) (is_own i (Ip.Ipv6 destination))
    then Some (Came.Query version (Ip.Ipv6 (v6_at message 8)) (mld_max_micros version (be16 message 4)))
    else None

-- another node's report goes to the group that it names, from its link-local address with hop limit 1 (RFC 2710, section 3)
abbrev pub mld_report : InnerValue → Ipv6Address → Ipv6Address → ℕ → Bool → Ipv6Address → Option Heard
mld_report i source destination hop_limit alert group =
    if (not (is_own i (Ip.Ipv6 source)) && is_link_local source) && (hop_limit == 1 && alert) && (bytes_eq destination.0 group.0 && is_multicast_v6 group)
    then Some (Came.Report (Ip.Ipv6 group))
    else None

abbrev pub mld_said : InnerValue → Ipv6Address → Ipv6Address → ℕ → Bool → List ℕ → Option Heard
mld_said i source destination hop_limit alert message =
    if slice_index message 0 == 130 then mld_query i source destination hop_limit alert message (mld_version message)
    else (if slice_index message 0 == 131 then mld_report i source destination hop_limit alert (v6_at message 8)
    else None)

-- a message that has a group, and whose checksum holds
abbrev pub mld_heard : InnerValue → Ipv6Address → Ipv6Address → ℕ → Bool → List ℕ → Option Heard
mld_heard i source destination hop_limit alert message =
    if nat_le 24 (length message) && (not (verifies i.checksums.icmpv6) || is_summed source destination message)
    then mld_said i source destination hop_limit alert message
    else None

abbrev pub heard_v6 : InnerValue → List ℕ → Option Heard
heard_v6 i packet =
    if is_whole_v6 packet
    then mld_heard i (v6_at packet 8) (v6_at packet 24) (slice_index packet 7)
    (has_alert (slice_range packet 42 (40 + options_len packet)))
    (slice_range packet (40 + options_len packet) (40 + payload_len_v6 packet))
    else None

abbrev pub heard_in_packet : InnerValue → List ℕ → Option Heard
heard_in_packet i packet =
    if is_igmp packet then heard_v4 i packet
    else (if is_mld packet then heard_v6 i packet
    else None)

-- what a frame says
abbrev pub heard_in : InnerValue → List ℕ → Option Heard
heard_in i frame = heard_in_packet i (packet_in i.hardware frame)
