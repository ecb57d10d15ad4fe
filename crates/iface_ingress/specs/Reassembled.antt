-- A frame's content, of which a fragment of a datagram goes to a slot until the datagram is whole (RFC 791, section 3.2; RFC 8200,
-- section 4.5).
use Rattle.std.specs.Prelude.{ℕ, ◌==◌, ◌&&◌, ◌||◌, not, ◌+◌, ◌-◌, ◌^◌, nat_le, nat_lt, min, Bool, true, false, if◌then◌else◌, ℤ, pos, ◌+ℤ◌}
use Rattle.std.specs.Prelude.{List, [], ◌∷◌, ◌++◌, length, drop, slice_index, slice_range, Option, None, Some, is_some}
use Rattle.net_base.specs.Time.{last_instant}
use Rattle.ip_wire.specs.AddressTests.{is_ethernet_broadcast, is_ethernet_multicast, is_same_hardware, is_unicast_v6, is_unspecified_v4, is_unspecified_v6}
use Rattle.ip_wire.specs.declared.ethernet.repr.EthernetRepr.{EthernetRepr}
use Rattle.ip_wire.specs.EthernetAddress.{EthernetAddress}
use Rattle.ip_wire.specs.HardwareAddress.TheVariants as Hardware
use Rattle.ip_wire.specs.IpAddress.{IpAddress}
use Rattle.ip_wire.specs.IpAddress.TheVariants as Address
use Rattle.ip_wire.specs.IpProtocol.{IpProtocol}
use Rattle.ip_wire.specs.IpProtocol.TheVariants as Protocol
use Rattle.ip_wire.specs.Ipv4.{key_of}
use Rattle.ip_wire.specs.Fields.{be32}
use Rattle.ip_wire.specs.Ipv4Address.{Ipv4Address}
use Rattle.ip_wire.specs.Ipv4Fragment.{Ipv4Fragment}
use Rattle.ip_wire.specs.Ipv4Repr.{Ipv4Repr}
use Rattle.ip_wire.specs.Ipv6Repr.{Ipv6Repr}
use Rattle.iface_ingress.specs.Incoming.{IncomingValue, Arp, Ip4, Ip6}
use Rattle.iface_ingress.specs.Replies.{is_one_host}
use Rattle.wire_ipv6_headers.specs.Headers as Headers
use Rattle.wire_ipv6_headers.specs.Headers.{go_through, fragment_offset, has_more}
use Rattle.wire_ipv6_headers.specs.declared.headers.Following.{Following}
use Rattle.wire_ipv6_headers.specs.declared.headers.Following.TheVariants as End
use Rattle.iface_tables.specs.contracts.key.FragKeyPartialEq.TheImpl as Key
use Rattle.iface_tables.specs.declared.key.FragKey.{FragKey}
use Rattle.iface_tables.specs.declared.key.FragKey.TheVariants as Keys
use Rattle.iface_tables.specs.Inner.{InnerValue, is_local_solicited_node, is_foreign_loopback, never_comes}
use Rattle.iface_tables.specs.Reassembly.{AssemblerValue, freed, assembler_index_for}
use Rattle.iface_tables.specs.Assemblers.{changed_at, completed_at, with_fragment_of, overlaps_datagram, without_datagram}
use Rattle.iface_tables.specs.Room.{is_same_source, with_room_for}

abbrev pub Assemblers : Type 0
Assemblers = List (AssemblerValue FragKey)

-- WHAT IS LISTENED TO

-- the frame is for this hardware address, for all hardware addresses, or for a group; without a link header it is for the host
abbrev pub passes_filter : InnerValue → Option EthernetRepr → Bool
passes_filter i None = true
passes_filter i (Some link) =
    is_same_hardware i.hardware (Hardware.Ethernet link.dst_addr)
    || (is_ethernet_broadcast link.dst_addr || is_ethernet_multicast link.dst_addr)

-- an IPv4 packet comes from one host, or from one that has no address yet
abbrev pub is_sender : InnerValue → Ipv4Address → Bool
is_sender i address = is_one_host i address || is_unspecified_v4 address

abbrev pub is_control_v6 : IpProtocol → Bool
is_control_v6 Protocol.Icmpv6 = true
is_control_v6 protocol = false

-- a packet that may look whether a local address is in use: a control message from the unspecified address, passed on by no
-- router, for the group of a local address (RFC 4861, section 7.1.1; RFC 4862, section 5.4.3)
abbrev pub is_probe : InnerValue → Ipv6Repr → Bool
is_probe i header =
    is_unspecified_v6 header.src_addr && is_local_solicited_node i header.dst_addr && is_control_v6 header.next_header
    && header.hop_limit == 255

-- an IPv6 packet comes from one host, or is such a probe
abbrev pub is_sender_v6 : InnerValue → Ipv6Repr → Bool
is_sender_v6 i header = is_unicast_v6 header.src_addr || is_probe i header

-- a packet from or to a loopback address comes to a host alone that has one of its family (RFC 1122, section 3.2.1.3; RFC 4291,
-- section 2.5.3), and one between addresses that are never seen on a link to none
abbrev pub is_astray : InnerValue → IpAddress → IpAddress → Bool
is_astray i source destination =
    is_foreign_loopback i source || (is_foreign_loopback i destination || never_comes i source destination)

-- with host requirements a packet to one host comes in a frame to that host alone, and in none to a group or to all (RFC 1122, section 3.3.6)
abbrev pub is_group_frame : InnerValue → EthernetAddress → Bool
is_group_frame i to = i.host_requirements && (is_ethernet_broadcast to || is_ethernet_multicast to)

abbrev pub is_misframed : InnerValue → Option EthernetRepr → Ipv4Address → Bool
is_misframed i None destination = false
is_misframed i (Some link) destination = is_group_frame i link.dst_addr && is_one_host i destination

abbrev pub is_ipv4_taken_in : InnerValue → Option EthernetRepr → Ipv4Repr → Bool
is_ipv4_taken_in i link header =
    passes_filter i link && is_sender i header.src_addr && not (is_astray i (Address.Ipv4 header.src_addr) (Address.Ipv4 header.dst_addr))
    && not (is_misframed i link header.dst_addr)

abbrev pub is_ipv6_taken_in : InnerValue → Option EthernetRepr → Ipv6Repr → Bool
is_ipv6_taken_in i link header =
    passes_filter i link && is_sender_v6 i header && not (is_astray i (Address.Ipv6 header.src_addr) (Address.Ipv6 header.dst_addr))

-- what the host takes in of a frame's content
abbrev pub is_taken_in : InnerValue → IncomingValue → Bool
is_taken_in i (Arp link packet) = passes_filter i (Some link)
is_taken_in i (Ip4 link header fragment payload) = is_ipv4_taken_in i link header
is_taken_in i (Ip6 link header payload) = is_ipv6_taken_in i link header

abbrev pub taken_in : InnerValue → Option IncomingValue → Option IncomingValue
taken_in i None = None
taken_in i (Some v) = if is_taken_in i v then Some v else None

-- PIECES

-- A fragment of a datagram: of which, where its bytes stand in a slot, whether more come after them, and the bytes.
pub record FragmentValue : Type 0 where
  pub key : FragKey
  pub offset : ℕ
  pub more : Bool
  pub bytes : List ℕ

-- IPV4: more of the datagram follows, or some of it comes before

abbrev pub is_fragment : Ipv4Fragment → Bool
is_fragment fragment = fragment.more || not (fragment.offset == 0)

abbrev pub part_v4 : Ipv4Repr → Ipv4Fragment → List ℕ → FragmentValue
part_v4 header fragment payload = record { key = Keys.Ipv4 (key_of header); offset = fragment.offset; more = fragment.more; bytes = payload }

-- IPV6 (RFC 8200, section 4.5): `rest` is the packet's payload from its fragment header on. A slot holds a fragment header before the
-- datagram's bytes, as of one that is whole, with the first fragment's next header: that of no other fragment counts.

abbrev pub key_v6 : Ipv6Repr → List ℕ → FragKey
key_v6 header rest = Keys.Ipv6 (record { id = be32 rest 4; src_addr = header.src_addr; dst_addr = header.dst_addr })

abbrev pub whole_header : List ℕ → List ℕ
whole_header rest = slice_index rest 0 ∷ 0 ∷ 0 ∷ 0 ∷ slice_range rest 4 8

abbrev pub is_first : List ℕ → Bool
is_first rest = fragment_offset rest == 0

abbrev pub front_of : List ℕ → List ℕ
front_of rest = if is_first rest then whole_header rest else []

abbrev pub offset_of : List ℕ → ℕ
offset_of rest = if is_first rest then 0 else 8 + fragment_offset rest

abbrev pub part_v6 : Ipv6Repr → List ℕ → FragmentValue
part_v6 header rest = record { key = key_v6 header rest; offset = offset_of rest; more = has_more rest; bytes = front_of rest ++ drop 8 rest }

abbrev pub part_following : Ipv6Repr → List ℕ → Following → Option FragmentValue
part_following header payload (End.FragmentPart at) = Some (part_v6 header (drop at payload))
part_following header payload end = None

abbrev pub following_headers : Ipv6Repr → List ℕ → Following
following_headers header payload = go_through header.next_header payload

-- which fragment a packet is, if it is one

abbrev pub part_in : IncomingValue → Option FragmentValue
part_in (Arp link packet) = None
part_in (Ip4 link header fragment payload) = if is_fragment fragment then Some (part_v4 header fragment payload) else None
part_in (Ip6 link header payload) = part_following header payload (following_headers header payload)

abbrev pub part_of : Option IncomingValue → Option FragmentValue
part_of None = None
part_of (Some v) = part_in v

-- SLOTS

-- a fragment lies within the bytes of a slot
abbrev pub is_within : FragmentValue → Bool
is_within p = nat_le (p.offset + length p.bytes) 4096

-- two fragments are of one datagram: identification and addresses are the same, in IPv4 also the protocol
abbrev pub is_same_datagram : FragKey → FragKey → Bool
is_same_datagram = Key.ghosts.eq

-- fragments of an IPv6 datagram don't overlap (RFC 5722, section 4; RFC 8200, section 4.5)
abbrev pub is_strict : FragKey → Bool
is_strict (Keys.Ipv4 key) = false
is_strict (Keys.Ipv6 key) = true

-- no slot's bytes hold the fragment, or it overlaps others though it may not: the datagram is given up
abbrev pub is_unfit : Assemblers → FragmentValue → Bool
is_unfit assemblers p = not (is_within p) || (is_strict p.key && overlaps_datagram is_same_datagram assemblers p.key p.bytes p.offset)

-- when a slot is given up that is taken now, after a time that counts as at most 2^61 microseconds
abbrev pub given_up_at : InnerValue → ℕ → ℤ
given_up_at i timeout = i.instant +ℤ pos (min timeout last_instant)

-- how many runs of bytes a slot keeps
abbrev pub runs_kept : ℕ
runs_kept = 4

-- the place of the slot that a fragment goes to, if it fits, and there is a slot
abbrev pub slot_of : Assemblers → Option FragmentValue → Option ℕ
slot_of assemblers None = None
slot_of assemblers (Some p) = if is_unfit assemblers p then None else assembler_index_for is_same_datagram assemblers p.key

abbrev pub slot_in : Assemblers → Option IncomingValue → Option ℕ
slot_in assemblers content = slot_of assemblers (part_of content)

-- the slots with a fragment, or without its datagram
abbrev pub with_part : InnerValue → ℕ → Assemblers → FragmentValue → Assemblers
with_part i timeout assemblers p = with_fragment_of runs_kept is_same_datagram assemblers p.key (given_up_at i timeout) p.bytes p.offset p.more

abbrev pub with_fragment : InnerValue → ℕ → Assemblers → Option FragmentValue → Assemblers
with_fragment i timeout assemblers None = assemblers
with_fragment i timeout assemblers (Some p) = if is_unfit assemblers p then without_datagram is_same_datagram assemblers p.key else with_part i timeout assemblers p

abbrev pub kept : InnerValue → ℕ → Assemblers → Option IncomingValue → Assemblers
kept i timeout assemblers content = with_fragment i timeout assemblers (part_of content)

-- with host requirements there is room for a fragment that fits a slot, whoever has the slots (RFC 1122, section 3.3.2)
abbrev pub finds_room : InnerValue → FragmentValue → Bool
finds_room i p = i.host_requirements && is_within p

abbrev pub room_for : InnerValue → Assemblers → Option FragmentValue → Assemblers
room_for i assemblers None = assemblers
room_for i assemblers (Some p) = if finds_room i p then with_room_for is_same_datagram is_same_source assemblers p.key else assemblers

-- the slots in which a content finds its own
abbrev pub with_room : InnerValue → Assemblers → Option IncomingValue → Assemblers
with_room i assemblers content = room_for i assemblers (part_of content)

abbrev pub bytes_at : Option ℕ → Assemblers → Option (List ℕ)
bytes_at None assemblers = None
bytes_at (Some at) assemblers = completed_at at assemblers

-- WHOLE DATAGRAMS

abbrev pub uncut : Ipv4Fragment
uncut = record { offset = 0; more = false }

-- it is none where the header's length field can't say its length
abbrev pub reassembled : Option EthernetRepr → Ipv4Repr → Option (List ℕ) → Option IncomingValue
reassembled link header None = None
reassembled link header (Some bytes) =
    if nat_lt (length bytes) (2 ^ 16 - 20) then Some (Ip4 link (record header { payload_len = length bytes }) uncut bytes) else None

-- after a fragment header
abbrev pub reassembled_v6 : Option EthernetRepr → Ipv6Repr → Option (List ℕ) → Option IncomingValue
reassembled_v6 link header None = None
reassembled_v6 link header (Some bytes) =
    if nat_lt (length bytes) (2 ^ 16) then Some (Ip6 link (record header { next_header = Protocol.Ipv6Frag; payload_len = length bytes }) bytes) else None

-- an IPv6 packet is a fragment
abbrev pub is_fragment_v6 : Ipv6Repr → List ℕ → Bool
is_fragment_v6 header payload = Headers.is_fragment (following_headers header payload)

-- The content, where it is no fragment. A fragment brings the datagram that it completes, with the header of that fragment, or nothing.
abbrev pub whole_of : Assemblers → Option ℕ → Option IncomingValue → Option IncomingValue
whole_of assemblers at (Some (Ip4 link header fragment payload)) =
    if is_fragment fragment then reassembled link header (bytes_at at assemblers) else Some (Ip4 link header fragment payload)
whole_of assemblers at (Some (Ip6 link header payload)) =
    if is_fragment_v6 header payload then reassembled_v6 link header (bytes_at at assemblers) else Some (Ip6 link header payload)
whole_of assemblers at content = content

-- the slots where a datagram that was completed at this slot has been taken in
abbrev pub released : Option ℕ → Assemblers → Assemblers
released at assemblers = if is_some (bytes_at at assemblers) then changed_at freed at assemblers else assemblers
