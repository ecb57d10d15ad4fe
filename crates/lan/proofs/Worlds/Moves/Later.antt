-- What an arrival makes of the paths that a host knows, and of the errors that it counts: neither is forgotten.
use Rattle.std.proofs.Common.{◌≡◌, ℕ, ℤ, ◌≤ℤ◌, ◌^◌, ◌<◌, ◌-◌, Bool, true, false, not, ◌&&◌, if◌then◌else◌, List, [], ◌∷◌, ◌++◌, length}
use Rattle.std.proofs.Common.{Option, Some, None, refl, sym, ap, ◌∙◌, subst, arith, zero, suc}
use Rattle.std.specs.Prelude.{◌||◌, ◌==◌, nat_lt, slice_set, remove}
use Rattle.std.proofs.lemmas.Int.{ints, clamps}
use Rattle.iface_ingress.specs.Icmpv6 as Icmpv6
use Rattle.lan.specs.Worlds.AtLink.Ndisc.{NeighborMessage}
use Rattle.iface_ingress.specs.AddressTests.{is_broadcast_v4, is_multicast_v4, is_multicast_v6, is_unspecified, is_unspecified_v4, is_unspecified_v6}
use Rattle.iface_ingress.specs.IpAddress.{IpAddress}
use Rattle.iface_ingress.specs.IpAddress.TheVariants as Address
use Rattle.iface_ingress.specs.IpProtocol.TheVariants as Protocol
use Rattle.iface_ingress.specs.EthernetRepr.{EthernetRepr}
use Rattle.iface_ingress.specs.ArpRepr.{ArpRepr}
use Rattle.iface_ingress.specs.ArpRepr.TheVariants as Arps
use Rattle.interface.specs.IpRepr.{IpRepr}
use Rattle.interface.specs.IpRepr.TheVariants as Ip
use Rattle.iface_ingress.specs.Ipv4Address.{Ipv4Address}
use Rattle.interface.specs.Ipv4Repr.{Ipv4Repr}
use Rattle.iface_ingress.specs.Ipv6Address.{Ipv6Address}
use Rattle.interface.specs.Ipv6Repr.{Ipv6Repr}
use Rattle.interface.specs.SameHost.{IsSameHost}
use Rattle.wire_tcp.specs.declared.header.TcpHeader.{TcpHeader}
use Rattle.sockets.specs.Packet.{PayloadValue, ControlV4, ControlV6, Bytes, Datagram, Segment}
use Rattle.iface_egress.specs.Departing.{HasSettingsOf}
use Rattle.iface_tables.specs.ErrorLimit.{answered_at}
use Rattle.iface_tables.specs.Inner.{InnerValue, at_instant, context_of, is_local_broadcast, is_local_solicited_node, with_error, with_path}
use Rattle.iface_tables.specs.PathMtu.{entered, entered_at, heard_of, is_news, lowered, path_room, path_index_of, victim}
use Rattle.iface_tables.specs.declared.path_mtu.Path.{Path}
use Rattle.iface_ingress.specs.Arp.{teaches, learned, arp_arrived}
use Rattle.iface_ingress.specs.Arrives.{Arrived, ArrivesV4, ArrivesV6, Brings, Hands, is_direct, sender_of, renewed, renewed_by, whole_arrived}
use Rattle.iface_ingress.specs.Delivered.{Slots, drawn_if, is_taken_raw, packet_delivered, segment_draws}
use Rattle.iface_ingress.specs.Processed.{handed_host, handed_reply, is_for_many, is_unclaimed, limited_host, message_host, names_no_endpoint, segment_host}
use Rattle.iface_ingress.specs.Ndisc.{neighbor_learned}
use Rattle.iface_ingress.specs.Incoming.{IncomingValue, Arp, Ip4, Ip6}
use Rattle.iface_ingress.specs.FragmentStored.{HasSameSettings}
use Rattle.iface_ingress.specs.Reassembled.{Assemblers, bytes_at, is_astray, is_control_v6, passes_filter, is_fragment, is_fragment_v6, is_misframed, is_sender, is_sender_v6}
use Rattle.iface_ingress.specs.Reassembled.{is_taken_in, kept, slot_in, reassembled, reassembled_v6, taken_in, uncut, whole_of, with_room}
use Rattle.iface_ingress.proofs.Hearing.{entries-alone}
use Rattle.iface_ingress.proofs.Limit.{counted_so}
use Rattle.iface_ingress.proofs.PathTold.{path_v4_so, path_v6_so}
use Rattle.lan.proofs.Worlds.Moves.Held.{IsAsAt, Stays}

-- ERRORS

pub past_it : (first until now : ℤ) → first ≤ℤ until → answered_at until now ≡ first → ⊥
past_it first until now low is = omega (arith, ints, clamps, low, is)

-- a segment may draw a word, no more
drawn_errors : (draws : Bool) (i : InnerValue) → (drawn_if draws i).errors_until ≡ i.errors_until
drawn_errors true i = refl
drawn_errors false i = refl

by_errors : (nobody draws : Bool) (i : InnerValue) → (if nobody then i else drawn_if draws i).errors_until ≡ i.errors_until
by_errors true draws i = refl
by_errors false draws i = drawn_errors draws i

pub segment_errors : (i : InnerValue) (slots : Slots) (ip : IpRepr) (header : TcpHeader) (bytes : List ℕ) →
    (segment_host i slots ip header bytes).errors_until ≡ i.errors_until
segment_errors i slots ip header bytes = by_errors (names_no_endpoint i ip) (segment_draws (context_of i) ip header bytes slots) i

-- WHAT COMES TO THIS HOST

-- It comes from one host, or from the unspecified address; and no loopback address is in it but one of a family of which the host has one.
pub record IsFromOne (i : InnerValue) (source destination : IpAddress) : Type 0 where
  pub here : is_astray i source destination ≡ false
  pub one : is_unspecified source ≡ false → is_for_many i source ≡ false

abbrev pub IsHome : InnerValue → Option IncomingValue → Type 0
IsHome i None = Unit {0}
IsHome i (Some (Arp link packet)) = Unit {0}
IsHome i (Some (Ip4 link header fragment payload)) = IsFromOne i (Address.Ipv4 header.src_addr) (Address.Ipv4 header.dst_addr)
IsHome i (Some (Ip6 link header payload)) = IsFromOne i (Address.Ipv6 header.src_addr) (Address.Ipv6 header.dst_addr)

-- what the host takes in of a content
clash : {X : Type 0} → true ≡ false → X
clash {X} e = absurd cc

taken_cut : (heard sender astray : Bool) → (heard && sender && not astray) ≡ true → (sender ≡ true) × (astray ≡ false)
taken_cut true true false is = (refl, refl)
taken_cut true true true is = clash (sym is)
taken_cut true false astray is = clash (sym is)
taken_cut false sender astray is = clash (sym is)

framed_cut : (heard sender astray misframed : Bool) → (heard && sender && not astray && not misframed) ≡ true → (sender ≡ true) × (astray ≡ false)
framed_cut true true false misframed is = (refl, refl)
framed_cut true true true misframed is = clash (sym is)
framed_cut true false astray misframed is = clash (sym is)
framed_cut false sender astray misframed is = clash (sym is)

one_v4 : (nowhere group every here : Bool) → ((not (nowhere || group || every) && not here) || nowhere) ≡ true → nowhere ≡ false → (here || group) ≡ false
one_v4 false false false false is named = refl
one_v4 false true every here is named = clash (sym is)
one_v4 false false true here is named = clash (sym is)
one_v4 false false false true is named = clash (sym is)
one_v4 true group every here is named = clash named

one_v6 : (nowhere group own control near : Bool) → (not (nowhere || group) || (nowhere && own && control && near)) ≡ true → nowhere ≡ false → group ≡ false
one_v6 false false own control near is named = refl
one_v6 false true own control near is named = clash (sym is)
one_v6 true group own control near is named = clash named

home_taken : (i : InnerValue) (v : IncomingValue) → is_taken_in i v ≡ true → IsHome i (Some v)
home_taken i (Arp link packet) is = tt
home_taken i (Ip4 link h fragment payload) is =
    let a : Ipv4Address = h.src_addr in
    let cut = framed_cut (passes_filter i link) (is_sender i a) (is_astray i (Address.Ipv4 a) (Address.Ipv4 h.dst_addr)) (is_misframed i link h.dst_addr) is in
    record {
      here = cut.1;
      one = one_v4 (is_unspecified_v4 a) (is_multicast_v4 a) (is_broadcast_v4 a) (is_local_broadcast i (Address.Ipv4 a)) cut.0;
    }
home_taken i (Ip6 link h payload) is =
    let a : Ipv6Address = h.src_addr in
    let cut = taken_cut (passes_filter i link) (is_sender_v6 i h) (is_astray i (Address.Ipv6 a) (Address.Ipv6 h.dst_addr)) is in
    record {
      here = cut.1;
      one = one_v6 (is_unspecified_v6 a) (is_multicast_v6 a) (is_local_solicited_node i h.dst_addr) (is_control_v6 h.next_header) (h.hop_limit == 255) cut.0;
    }

taken_if : (i : InnerValue) (v : IncomingValue) (taken : Bool) → is_taken_in i v ≡ taken → IsHome i (if taken then Some v else None)
taken_if i v true is = home_taken i v is
taken_if i v false is = tt

taken_home : (i : InnerValue) (content : Option IncomingValue) → IsHome i (taken_in i content)
taken_home i None = tt
taken_home i (Some v) = taken_if i v (is_taken_in i v) refl

-- a datagram that is reassembled has the addresses of its last fragment
reassembled_v4_home : (i : InnerValue) (link : Option EthernetRepr) (h : Ipv4Repr) (bytes : Option (List ℕ)) →
    IsFromOne i (Address.Ipv4 h.src_addr) (Address.Ipv4 h.dst_addr) → IsHome i (reassembled link h bytes)
reassembled_v4_home i link h None home = tt
reassembled_v4_home i link h (Some bytes) home = by (nat_lt (length bytes) (2 ^ 16 - 20)) where
  by : (fits : Bool) → IsHome i (if fits then Some (Ip4 link (record h { payload_len = length bytes }) uncut bytes) else None)
  by true = home
  by false = tt

reassembled_v6_home : (i : InnerValue) (link : Option EthernetRepr) (h : Ipv6Repr) (bytes : Option (List ℕ)) →
    IsFromOne i (Address.Ipv6 h.src_addr) (Address.Ipv6 h.dst_addr) → IsHome i (reassembled_v6 link h bytes)
reassembled_v6_home i link h None home = tt
reassembled_v6_home i link h (Some bytes) home = by (nat_lt (length bytes) (2 ^ 16)) where
  by : (fits : Bool) → IsHome i (if fits then Some (Ip6 link (record h { next_header = Protocol.Ipv6Frag; payload_len = length bytes }) bytes) else None)
  by true = home
  by false = tt

whole_home : (i : InnerValue) (assemblers : Assemblers) (at : Option ℕ) (content : Option IncomingValue) → IsHome i content → IsHome i (whole_of assemblers at content)
whole_home i assemblers at None home = tt
whole_home i assemblers at (Some (Arp link packet)) home = tt
whole_home i assemblers at (Some (Ip4 link h fragment payload)) home = by (is_fragment fragment) where
  by : (is : Bool) → IsHome i (if is then reassembled link h (bytes_at at assemblers) else Some (Ip4 link h fragment payload))
  by true = reassembled_v4_home i link h (bytes_at at assemblers) home
  by false = home
whole_home i assemblers at (Some (Ip6 link h payload)) home = by (is_fragment_v6 h payload) where
  by : (is : Bool) → IsHome i (if is then reassembled_v6 link h (bytes_at at assemblers) else Some (Ip6 link h payload))
  by true = reassembled_v6_home i link h (bytes_at at assemblers) home
  by false = home

pub brought_home : (i : InnerValue) (timeout : ℕ) (assemblers : Assemblers) (content : Option IncomingValue) →
    IsHome i (whole_arrived i timeout assemblers content)
brought_home i timeout assemblers content =
    whole_home i (kept i timeout (with_room i assemblers (taken_in i content)) (taken_in i content)) (slot_in (with_room i assemblers (taken_in i content)) (taken_in i content)) (taken_in i content) (taken_home i content)

-- LATER: errors are counted up to no earlier instant, and what was known of paths isn't forgotten
abbrev pub IsLater : InnerValue → InnerValue → Type 0
IsLater i i' = (i.errors_until ≤ℤ i'.errors_until) × (i'.paths ≡ [] → i.paths ≡ [])

no_earlier : (t : ℤ) → t ≤ℤ t
no_earlier t = omega (arith, ints)

later_same : (i i' : InnerValue) → i'.errors_until ≡ i.errors_until → i'.paths ≡ i.paths → IsLater i i'
later_same i i' errors paths = (subst (λ (t : ℤ). i.errors_until ≤ℤ t) (sym errors) (no_earlier i.errors_until), λ none. sym paths ∙ none)

later_itself : (i : InnerValue) → IsLater i i
later_itself i = later_same i i refl refl

in_turn : (a b c : ℤ) → a ≤ℤ b → b ≤ℤ c → a ≤ℤ c
in_turn a b c one other = omega (arith, ints, one, other)

later_then : (i j k : InnerValue) → IsLater i j → IsLater j k → IsLater i k
later_then i j k first second = (in_turn i.errors_until j.errors_until k.errors_until first.0 second.0, λ none. first.1 (second.1 none))

later_at : (i j k : InnerValue) → k ≡ j → IsLater i j → IsLater i k
later_at i j k is later = subst (IsLater i) (sym is) later

-- an error
no_less : (until now : ℤ) → until ≤ℤ answered_at until now
no_less until now = omega (arith, ints, clamps)

later_error : (i : InnerValue) → IsLater i (with_error i)
later_error i = (no_less i.errors_until i.instant, λ none. none)

-- a path
following_none : (xs : List Path) (x : Path) → xs ++ x ∷ [] ≡ [] → ⊥
following_none [] x is = absurd cc
following_none (y ∷ xs) x is = absurd cc

set_none : (paths : List Path) (at : ℕ) (x : Path) → slice_set paths at x ≡ [] → paths ≡ []
set_none [] at x is = refl
set_none (p ∷ ps) zero x is = absurd cc
set_none (p ∷ ps) (suc at) x is = absurd cc

entered_none : (at : Option ℕ) (paths : List Path) (x : Path) → entered_at at paths x ≡ [] → paths ≡ []
entered_none (Some at) paths x is = set_none paths at x is
entered_none None paths x is = by (nat_lt (length paths) path_room) is where
  by : (fits : Bool) → (if fits then paths ++ x ∷ [] else remove paths (victim paths) ++ x ∷ []) ≡ [] → paths ≡ []
  by true is = absurd (following_none paths x is)
  by false is = absurd (following_none (remove paths (victim paths)) x is)

lowered_none : (paths : List Path) (address : IpAddress) (told : ℕ) (now : ℤ) (whole : ℕ) → lowered paths address told now whole ≡ [] → paths ≡ []
unfolding lowered
lowered_none paths address told now whole is = by (is_news paths address told now whole) is where
  by : (news : Bool) → (if news then entered paths (heard_of address told now) else paths) ≡ [] → paths ≡ []
  by true is = entered_none (path_index_of paths address) paths (heard_of address told now) is
  by false is = is

later_told : (i : InnerValue) (address : IpAddress) (told : ℕ) → IsLater i (with_path i address told)
later_told i address told = (no_earlier i.errors_until, λ none. lowered_none i.paths address told i.instant i.mtu none)

-- what carries it
later_drawn : (draws : Bool) (i : InnerValue) → IsLater i (drawn_if draws i)
later_drawn true i = later_same i (drawn_if true i) refl refl
later_drawn false i = later_itself i

later_segment : (i : InnerValue) (slots : Slots) (ip : IpRepr) (header : TcpHeader) (bytes : List ℕ) → IsLater i (segment_host i slots ip header bytes)
later_segment i slots ip header bytes =
    elim (names_no_endpoint i ip) as (λ b. IsLater i (if b then i else drawn_if (segment_draws (context_of i) ip header bytes slots) i)) [
      | true ↦ later_itself i
      | false ↦ later_drawn (segment_draws (context_of i) ip header bytes slots) i
    ]

later_heard : (i : InnerValue) (header : Ipv6Repr) (message : NeighborMessage) → IsLater i (neighbor_learned i header message).inner
later_heard i header message =
    later_same i (neighbor_learned i header message).inner (ap (λ (x : InnerValue). x.errors_until) (entries-alone i header message))
    (ap (λ (x : InnerValue). x.paths) (entries-alone i header message))

later_message : (i : InnerValue) (slots : Slots) (header : Ipv6Repr) (message : Icmpv6.MessageValue) (bytes : List ℕ) →
    IsLater i (message_host i slots header message bytes)
later_message i slots header (Icmpv6.DstUnreachable reason about) bytes = later_itself i
later_message i slots header (Icmpv6.PktTooBig mtu about) bytes =
    path_v6_so (IsLater i) i (later_itself i) (later_told i) slots (Icmpv6.PktTooBig mtu about) bytes
later_message i slots header (Icmpv6.TimeExceeded reason about) bytes = later_itself i
later_message i slots header (Icmpv6.ParamProblem reason pointer about) bytes = later_itself i
later_message i slots header (Icmpv6.EchoRequest ident seq_no) bytes = later_itself i
later_message i slots header (Icmpv6.EchoReply ident seq_no) bytes = later_itself i
later_message i slots header (Icmpv6.Ndisc message) bytes =
    elim (is_control_v6 header.next_header) as (λ b. IsLater i (if b then (neighbor_learned i header message).inner else i)) [
      | true ↦ later_heard i header message
      | false ↦ later_itself i
    ]

later_handed : (i : InnerValue) (slots : Slots) (ip : IpRepr) (payload : List ℕ) (carried : Option PayloadValue) →
    IsLater i (handed_host i slots ip payload carried)
later_handed i slots (Ip.Ipv4 header) payload (Some (ControlV4 message bytes)) =
    path_v4_so (IsLater i) i (later_itself i) (later_told i) slots payload message bytes
later_handed i slots (Ip.Ipv6 header) payload (Some (ControlV4 message bytes)) = later_itself i
later_handed i slots (Ip.Ipv4 header) payload (Some (ControlV6 message bytes)) = later_itself i
later_handed i slots (Ip.Ipv6 header) payload (Some (ControlV6 message bytes)) = later_message i slots header message bytes
later_handed i slots ip payload (Some (Bytes bytes)) = later_itself i
later_handed i slots ip payload (Some (Datagram udp bytes)) = later_itself i
later_handed i slots ip payload (Some (Segment header bytes)) = later_segment i slots ip header bytes
later_handed i slots ip payload None = later_itself i

later_limited : (i : InnerValue) (slots : Slots) (ip : IpRepr) (payload : List ℕ) (taken : Bool) (carried : Option PayloadValue) →
    IsLater i (limited_host i slots ip payload taken carried)
later_limited i slots ip payload taken carried =
    let after = handed_host i slots ip payload carried in
    let same = later_handed i slots ip payload carried in
    counted_so (IsLater i) (is_unclaimed i slots ip carried) i (handed_reply i slots ip payload taken carried) after same
    (later_then i after (with_error after) same (later_error after))

later_renewed : (i : InnerValue) (link : Option EthernetRepr) (ip : IpRepr) → IsLater i (renewed i link ip)
later_renewed i link ip =
    elim (is_direct i ip) as (λ b. IsLater i (if b then renewed_by i link (sender_of ip) else i)) [ true ↦ by link | false ↦ later_itself i ]
  where
    by : (link : Option EthernetRepr) → IsLater i (renewed_by i link (sender_of ip))
    by None = later_itself i
    by (Some link) = later_same i (renewed_by i (Some link) (sender_of ip)) refl refl

later_in : (i : InnerValue) (slots : Slots) (link : Option EthernetRepr) (ip : IpRepr) (payload : List ℕ) (taken : Bool) (a : Arrived) →
    Hands (renewed i link ip) slots ip payload taken a → IsLater i a.inner
later_in i slots link ip payload taken a (carried, is, handed) =
    later_at i (limited_host (renewed i link ip) slots ip payload taken carried) a.inner handed.inner
    (later_then i (renewed i link ip) (limited_host (renewed i link ip) slots ip payload taken carried) (later_renewed i link ip)
    (later_limited (renewed i link ip) slots ip payload taken carried))

later_v4 : (ours : Bool) (i : InnerValue) (slots : Slots) (link : Option EthernetRepr) (ip : IpRepr) (payload : List ℕ) (a : Arrived) →
    ArrivesV4 ours i slots link ip payload a → IsLater i a.inner
later_v4 true i slots link ip payload a h = later_in i (packet_delivered ip payload slots) link ip payload (is_taken_raw ip slots) a h
later_v4 false i slots link ip payload a h = later_at i i a.inner h.inner (later_itself i)

later_v6 : (ours : Bool) (i : InnerValue) (slots : Slots) (link : Option EthernetRepr) (ip : IpRepr) (payload : List ℕ) (a : Arrived) →
    ArrivesV6 ours i slots link ip payload a → IsLater i a.inner
later_v6 true i slots link ip payload a h = later_in i (packet_delivered ip payload slots) link ip payload (is_taken_raw ip slots) a h
later_v6 false i slots link ip payload a h = later_at i i a.inner h.inner (later_itself i)

later_learned : (i : InnerValue) (packet : ArpRepr) → IsLater i (learned i packet)
later_learned i (Arps.EthernetIpv4 operation source_hardware source target_hardware target) =
    later_same i (learned i (Arps.EthernetIpv4 operation source_hardware source target_hardware target)) refl refl

later_arp : (i : InnerValue) (packet : ArpRepr) → IsLater i (arp_arrived i packet)
later_arp i packet =
    elim (teaches i packet) as (λ b. IsLater i (if b then learned i packet else i)) [ true ↦ later_learned i packet | false ↦ later_itself i ]

pub brings_later : (i : InnerValue) (slots : Slots) (content : Option IncomingValue) (a : Arrived) → Brings i slots content a → IsLater i a.inner
brings_later i slots None a h = later_at i i a.inner h.inner (later_itself i)
brings_later i slots (Some (Arp link packet)) a h = later_at i (arp_arrived i packet) a.inner h.inner (later_arp i packet)
brings_later i slots (Some (Ip4 link header fragment payload)) a h = later_v4 _ i slots link (Ip.Ipv4 header) payload a h
brings_later i slots (Some (Ip6 link header payload)) a h = later_v6 _ i slots link (Ip.Ipv6 header) payload a h

-- BACK

no_way : (a b c : ℤ) → a ≤ℤ b → b ≤ℤ c → c ≡ a → b ≡ a
no_way a b c one other is = omega (arith, ints, one, other, is)

-- what is still after an arrival was so before it
pub stayed : (i0 i i' : InnerValue) → i0.errors_until ≤ℤ i.errors_until → IsLater i i' → Stays i0 i' → Stays i0 i
stayed i0 i i' low later still = (later.1 still.0, no_way i0.errors_until i.errors_until i'.errors_until low later.0 still.1)

-- SINCE A POLL BEGAN

abbrev pub IsSince : InnerValue → InnerValue → Type 0
IsSince i0 i = HasSettingsOf i0 i × (i0.errors_until ≤ℤ i.errors_until)

pub since_itself : (i : InnerValue) → IsSince i i
since_itself i =
    (record { hardware = refl; mtu = refl; checksums = refl; addresses = refl; isn_key = refl; any_ip = refl; groups = refl; host_requirements = refl; routes = refl }, no_earlier i.errors_until)

pub since_begun : (i0 i : InnerValue) (t : ℤ) → IsSince i0 i → IsSince i0 (at_instant t i)
since_begun i0 i t since = (
  record {
    hardware = since.0.hardware;
    mtu = since.0.mtu;
    checksums = since.0.checksums;
    addresses = since.0.addresses;
    isn_key = since.0.isn_key;
    any_ip = since.0.any_ip;
    groups = since.0.groups;
    host_requirements = since.0.host_requirements;
    routes = since.0.routes;
  },
  since.1,
)

pub since_arrival : (i0 i i' : InnerValue) → HasSameSettings i i' → IsLater i i' → IsSince i0 i → IsSince i0 i'
since_arrival i0 i i' same later since = (
  record {
    hardware = same.hardware ∙ since.0.hardware;
    mtu = same.mtu ∙ since.0.mtu;
    checksums = same.checksums ∙ since.0.checksums;
    addresses = same.addresses ∙ since.0.addresses;
    isn_key = same.isn_key ∙ since.0.isn_key;
    any_ip = same.any_ip ∙ since.0.any_ip;
    groups = same.groups ∙ since.0.groups;
    host_requirements = same.host_requirements ∙ since.0.host_requirements;
    routes = same.routes ∙ since.0.routes;
  },
  in_turn i0.errors_until i.errors_until i'.errors_until since.1 later.0,
)

pub since_out : (i0 i i' : InnerValue) → IsSameHost i i' → IsSince i0 i → IsSince i0 i'
since_out i0 i i' same since = (
  record {
    hardware = ap (λ (x : InnerValue). x.hardware) same ∙ since.0.hardware;
    mtu = ap (λ (x : InnerValue). x.mtu) same ∙ since.0.mtu;
    checksums = ap (λ (x : InnerValue). x.checksums) same ∙ since.0.checksums;
    addresses = ap (λ (x : InnerValue). x.addresses) same ∙ since.0.addresses;
    isn_key = ap (λ (x : InnerValue). x.isn_key) same ∙ since.0.isn_key;
    any_ip = ap (λ (x : InnerValue). x.any_ip) same ∙ since.0.any_ip;
    groups = ap (λ (x : InnerValue). x.groups) same ∙ since.0.groups;
    host_requirements = ap (λ (x : InnerValue). x.host_requirements) same ∙ since.0.host_requirements;
    routes = ap (λ (x : InnerValue). x.routes) same ∙ since.0.routes;
  },
  subst (λ (u : ℤ). i0.errors_until ≤ℤ u) (sym (ap (λ (x : InnerValue). x.errors_until) same)) since.1,
)

pub as_since : (i0 i : InnerValue) (t : ℤ) → i.instant ≡ t → IsSince i0 i → (i0.ident < 2 ^ 16 → i.ident < 2 ^ 16) → IsAsAt i0 t i
as_since i0 i t is since ident = record { settings = since.0; instant = is; low = since.1; ident = ident }
