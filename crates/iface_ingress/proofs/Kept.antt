-- Sockets of TCP and UDP, and clients, that an arrival leaves as they were.
use Rattle.std.proofs.Common.{◌≡◌, Bool, true, false, if◌then◌else◌, ◌||◌, List, [], ◌∷◌, refl, sym, ap, ◌∙◌, subst}
use Rattle.std.specs.Prelude.{ℕ, ◌-◌, ◌^◌, nat_lt, length, map, Option, Some, None}
use Rattle.wire_icmpv4.specs.declared.header.Icmpv4Header.{Icmpv4Header}
use Rattle.wire_icmpv6.specs.Icmpv6.{MessageValue}
use Rattle.ip_wire.specs.Ip.{carried_in}
use Rattle.ip_wire.specs.IpAddress.{IpAddress}
use Rattle.ip_wire.specs.Ipv4Fragment.{Ipv4Fragment}
use Rattle.ip_wire.specs.IpProtocol.TheVariants as Protocol
use Rattle.ip_wire.specs.IpRepr.{IpRepr}
use Rattle.ip_wire.specs.IpRepr.TheVariants as Ip
use Rattle.ip_wire.specs.Ipv4Repr.{Ipv4Repr}
use Rattle.ip_wire.specs.Ipv6Repr.{Ipv6Repr}
use Rattle.ip_wire.specs.declared.ethernet.repr.EthernetRepr.{EthernetRepr}
use Rattle.net_base.specs.ChecksumCapabilities.{ChecksumCapabilities}
use Rattle.socket_context.specs.Packet.{PayloadValue, ControlV4, ControlV6, Bytes, Datagram, Segment}
use Rattle.sockets.specs.declared.socket.Socket.{Socket}
use Rattle.sockets.specs.declared.socket.Socket.TheVariants as Kind
use Rattle.iface_ingress.specs.UpperLayer.{IsCarriedContent}
use Rattle.iface_ingress.specs.Incoming.{IncomingValue, Arp, Ip4, Ip6}
use Rattle.iface_ingress.specs.Upper.{upper_header, upper_payload}
use Rattle.iface_ingress.proofs.Bare.{known_at_once, bare_where}
use Rattle.iface_egress.specs.declared.socket_meta.Meta.{Meta}
use Rattle.iface_egress.specs.declared.socket_set.Item.{Item}
use Rattle.iface_tables.specs.Inner.{InnerValue}
use Rattle.iface_ingress.specs.Arrives.{Arrived, ArrivesV4, ArrivesV6, ArrivesAs, Brings, Hands, is_direct, sender_of, renewed, renewed_by, answered}
use Rattle.iface_ingress.specs.Delivered.{Slots, given, changed_item, with_change, all_given, with_packet, packet_delivered, with_icmpv4, with_icmpv6}
use Rattle.iface_ingress.specs.Delivered.{is_taken_raw}
use Rattle.iface_ingress.specs.Processed.{handed_reply, HandsTo, control_v4_slots, control_v6_slots, is_known_v4, is_known_v6, unread_v6}
use Rattle.iface_ingress.specs.Processed.{if_it_may, limited_reply}
use Rattle.iface_ingress.specs.Replies.{protocol_unreachable}
use Rattle.iface_ingress.specs.FragmentStored.{kept_by_kind, ports_item, ports_in, with_ports, NamesNoPorts, HaveNoPorts, IsNoFragmentV6, IsDamaged}
use Rattle.iface_ingress.specs.Reassembled.{Assemblers, is_taken_in, taken_in, is_fragment, uncut, reassembled, reassembled_v6, bytes_at, slot_in, kept, whole_of, with_room}

-- SOCKETS OF OTHER KINDS

abbrev item_of : Meta → Socket → Item Socket
item_of m s = record { meta = m; socket = s }

abbrev Keeps : (Socket → Socket) → Type 0
Keeps change = (s : Socket) (m : Meta) → kept_by_kind (change s) (item_of m (change s)) ≡ kept_by_kind s (item_of m s)

keeps_given : (test : Socket → Bool) (change : Socket → Socket) → Keeps change → Keeps (given test change)
keeps_given test change keeps s m =
    elim (test s) as (λ b. kept_by_kind (if b then change s else s) (item_of m (if b then change s else s)) ≡ kept_by_kind s (item_of m s)) [
      | true ↦ keeps s m
      | false ↦ refl
    ]

item_kept : (change : Socket → Socket) → Keeps change → (inner : Option (Item Socket)) → ports_item (changed_item change inner) ≡ ports_item inner
item_kept change keeps None = refl
item_kept change keeps (Some item) = keeps item.socket item.meta

map_kept : (change : Socket → Socket) → Keeps change → (slots : Slots) → with_ports (map (with_change change) slots) ≡ with_ports slots
map_kept change keeps [] = refl
map_kept change keeps (slot ∷ slots) =
    ap (λ p. p ∷ with_ports (map (with_change change) slots)) (item_kept change keeps slot.inner)
    ∙ ap (λ ps. ports_in slot ∷ ps) (map_kept change keeps slots)

all_kept : (test : Socket → Bool) (change : Socket → Socket) → Keeps change → (slots : Slots) → with_ports (all_given test change slots) ≡ with_ports slots
all_kept test change keeps slots = map_kept (given test change) (keeps_given test change keeps) slots

keeps_packet : (ip : IpRepr) (payload : List ℕ) → Keeps (with_packet ip payload)
keeps_packet ip payload (Kind.Raw v) m = refl
keeps_packet ip payload (Kind.Icmp v) m = refl
keeps_packet ip payload (Kind.Udp v) m = refl
keeps_packet ip payload (Kind.Tcp v) m = refl
keeps_packet ip payload (Kind.Dhcpv4 v) m = refl
keeps_packet ip payload (Kind.Dns v) m = refl

keeps_icmpv4 : (ip : Ipv4Repr) (message : Icmpv4Header) (bytes : List ℕ) → Keeps (with_icmpv4 ip message bytes)
keeps_icmpv4 ip message bytes (Kind.Raw v) m = refl
keeps_icmpv4 ip message bytes (Kind.Icmp v) m = refl
keeps_icmpv4 ip message bytes (Kind.Udp v) m = refl
keeps_icmpv4 ip message bytes (Kind.Tcp v) m = refl
keeps_icmpv4 ip message bytes (Kind.Dhcpv4 v) m = refl
keeps_icmpv4 ip message bytes (Kind.Dns v) m = refl

keeps_icmpv6 : (ip : Ipv6Repr) (message : MessageValue) (bytes : List ℕ) → Keeps (with_icmpv6 ip message bytes)
keeps_icmpv6 ip message bytes (Kind.Raw v) m = refl
keeps_icmpv6 ip message bytes (Kind.Icmp v) m = refl
keeps_icmpv6 ip message bytes (Kind.Udp v) m = refl
keeps_icmpv6 ip message bytes (Kind.Tcp v) m = refl
keeps_icmpv6 ip message bytes (Kind.Dhcpv4 v) m = refl
keeps_icmpv6 ip message bytes (Kind.Dns v) m = refl

pub packet_kept : (ip : IpRepr) (payload : List ℕ) (slots : Slots) → with_ports (packet_delivered ip payload slots) ≡ with_ports slots
packet_kept ip payload slots = all_kept _ (with_packet ip payload) (keeps_packet ip payload) slots

control_v4_kept : (ip : IpRepr) (message : Icmpv4Header) (bytes : List ℕ) (slots : Slots) →
    with_ports (control_v4_slots ip message bytes slots) ≡ with_ports slots
control_v4_kept (Ip.Ipv4 header) message bytes slots = all_kept _ (with_icmpv4 header message bytes) (keeps_icmpv4 header message bytes) slots
control_v4_kept (Ip.Ipv6 header) message bytes slots = refl

control_v6_kept : (ip : IpRepr) (message : MessageValue) (bytes : List ℕ) (slots : Slots) →
    with_ports (control_v6_slots ip message bytes slots) ≡ with_ports slots
control_v6_kept (Ip.Ipv4 header) message bytes slots = refl
control_v6_kept (Ip.Ipv6 header) message bytes slots = all_kept _ (with_icmpv6 header message bytes) (keeps_icmpv6 header message bytes) slots

-- PAYLOADS THAT ARE NEITHER DATAGRAM NOR SEGMENT

abbrev HasNone : Option PayloadValue → Type 0
HasNone (Some (Datagram udp bytes)) = ⊥
HasNone (Some (Segment header bytes)) = ⊥
HasNone carried = Unit {0}

none_of : (caps : ChecksumCapabilities) (ip : IpRepr) (payload : List ℕ) (carried : Option PayloadValue) → IsCarriedContent caps ip payload carried →
    NamesNoPorts (carried_in ip) → HasNone carried
none_of caps ip payload (Some (ControlV4 message bytes)) is bare = tt
none_of caps ip payload (Some (ControlV6 message bytes)) is bare = tt
none_of caps ip payload (Some (Bytes bytes)) is bare = tt
none_of caps ip payload (Some (Datagram udp bytes)) is bare = bare.1 is.protocol
none_of caps ip payload (Some (Segment header bytes)) is bare = bare.0 is.protocol
none_of caps ip payload None is bare = tt

handed_kept : (i : InnerValue) (slots : Slots) (ip : IpRepr) (carried : Option PayloadValue) (qs : Slots) → HasNone carried →
    HandsTo i slots ip carried qs → with_ports qs ≡ with_ports slots
handed_kept i slots ip (Some (ControlV4 message bytes)) qs bare is = ap with_ports is ∙ control_v4_kept ip message bytes slots
handed_kept i slots ip (Some (ControlV6 message bytes)) qs bare is = ap with_ports is ∙ control_v6_kept ip message bytes slots
handed_kept i slots ip (Some (Bytes bytes)) qs bare is = ap with_ports is
handed_kept i slots ip (Some (Datagram udp bytes)) qs bare is = absurd bare
handed_kept i slots ip (Some (Segment header bytes)) qs bare is = absurd bare
handed_kept i slots ip None qs bare is = ap with_ports is

hands_kept : (i : InnerValue) (slots : Slots) (ip : IpRepr) (payload : List ℕ) (taken : Bool) (a : Arrived) → Hands i slots ip payload taken a →
    NamesNoPorts (carried_in (upper_header ip payload)) → with_ports a.slots ≡ with_ports slots
hands_kept i slots ip payload taken a (carried, is, handed) bare =
    handed_kept i slots ip carried a.slots (none_of i.checksums (upper_header ip payload) (upper_payload ip payload) carried is bare) handed.slots_are

v4_kept : (ours : Bool) (i : InnerValue) (slots : Slots) (link : Option EthernetRepr) (ip : IpRepr) (payload : List ℕ) (a : Arrived) →
    ArrivesV4 ours i slots link ip payload a → NamesNoPorts (carried_in (upper_header ip payload)) → with_ports a.slots ≡ with_ports slots
v4_kept true i slots link ip payload a h bare =
    hands_kept (renewed i link ip) (packet_delivered ip payload slots) ip payload (is_taken_raw ip slots) a h bare ∙ packet_kept ip payload slots
v4_kept false i slots link ip payload a h bare = ap with_ports h.slots_are ∙ packet_kept ip payload slots

v6_kept : (ours : Bool) (i : InnerValue) (slots : Slots) (link : Option EthernetRepr) (ip : IpRepr) (payload : List ℕ) (a : Arrived) →
    ArrivesV6 ours i slots link ip payload a → NamesNoPorts (carried_in (upper_header ip payload)) → with_ports a.slots ≡ with_ports slots
v6_kept true i slots link ip payload a h bare =
    hands_kept (renewed i link ip) (packet_delivered ip payload slots) ip payload (is_taken_raw ip slots) a h bare ∙ packet_kept ip payload slots
v6_kept false i slots link ip payload a h bare = ap with_ports h.slots_are

pub brings_kept : (i : InnerValue) (slots : Slots) (content : Option IncomingValue) (a : Arrived) → Brings i slots content a → HaveNoPorts content →
    with_ports a.slots ≡ with_ports slots
brings_kept i slots None a h bare = ap with_ports h.slots_are
brings_kept i slots (Some (Arp link packet)) a h bare = ap with_ports h.slots_are
brings_kept i slots (Some (Ip4 link header fragment payload)) a h bare = v4_kept _ i slots link (Ip.Ipv4 header) payload a h bare
brings_kept i slots (Some (Ip6 link header payload)) a h bare = v6_kept _ i slots link (Ip.Ipv6 header) payload a h bare

-- PIECES

taken_in_kept : (i : InnerValue) (content : Option IncomingValue) → HaveNoPorts content → HaveNoPorts (taken_in i content)
taken_in_kept i None bare = tt
taken_in_kept i (Some v) bare = elim (is_taken_in i v) as (λ b. HaveNoPorts (if b then Some v else None)) [ true ↦ bare | false ↦ tt ]

reassembled_kept : (link : Option EthernetRepr) (header : Ipv4Repr) (bytes : Option (List ℕ)) → NamesNoPorts header.next_header →
    HaveNoPorts (reassembled link header bytes)
reassembled_kept link header None bare = tt
reassembled_kept link header (Some bytes) bare =
    elim (nat_lt (length bytes) (2 ^ 16 - 20)) as
    (λ b. HaveNoPorts (if b then Some (Ip4 link (record header { payload_len = length bytes }) uncut bytes) else None)) [ true ↦ bare | false ↦ tt ]

taken_in_whole : (i : InnerValue) (content : Option IncomingValue) → IsNoFragmentV6 content → IsNoFragmentV6 (taken_in i content)
taken_in_whole i None whole = tt
taken_in_whole i (Some v) whole = elim (is_taken_in i v) as (λ b. IsNoFragmentV6 (if b then Some v else None)) [ true ↦ whole | false ↦ tt ]

whole_kept : (assemblers : Assemblers) (at : Option ℕ) (content : Option IncomingValue) → HaveNoPorts content → IsNoFragmentV6 content →
    HaveNoPorts (whole_of assemblers at content)
whole_kept assemblers at None bare whole = tt
whole_kept assemblers at (Some (Arp link packet)) bare whole = bare
whole_kept assemblers at (Some (Ip6 link header payload)) bare whole =
    subst (λ b. HaveNoPorts (if b then reassembled_v6 link header (bytes_at at assemblers) else Some (Ip6 link header payload))) (sym whole) bare
whole_kept assemblers at (Some (Ip4 link header fragment payload)) bare whole =
    elim (is_fragment fragment) as (λ b. HaveNoPorts (if b then reassembled link header (bytes_at at assemblers) else Some (Ip4 link header fragment payload))) [
      | true ↦ reassembled_kept link header (bytes_at at assemblers) bare
      | false ↦ bare
    ]

pub arrives_kept : (i : InnerValue) (timeout : ℕ) (assemblers : Assemblers) (slots : Slots) (content : Option IncomingValue) (assemblers' : Assemblers) (a : Arrived) →
    ArrivesAs i timeout assemblers slots content assemblers' a → HaveNoPorts content → IsNoFragmentV6 content → with_ports a.slots ≡ with_ports slots
arrives_kept i timeout assemblers slots content assemblers' a h bare whole =
    brings_kept i slots _ a h.1
    (whole_kept (kept i timeout (with_room i assemblers (taken_in i content)) (taken_in i content)) (slot_in (with_room i assemblers (taken_in i content)) (taken_in i content)) (taken_in i content) (taken_in_kept i content bare)
    (taken_in_whole i content whole))

-- A SEGMENT THAT IS NONE

nothing_of : (caps : ChecksumCapabilities) (ip : IpRepr) (payload : List ℕ) (carried : Option PayloadValue) → IsCarriedContent caps ip payload carried →
    IsDamaged caps ip payload → carried ≡ None
nothing_of caps (Ip.Ipv4 header) payload (Some (ControlV4 message bytes)) is bare = let e = sym is.protocol ∙ bare.0 in absurd (cc)
nothing_of caps (Ip.Ipv6 header) payload (Some (ControlV4 message bytes)) is bare = absurd is
nothing_of caps (Ip.Ipv4 header) payload (Some (ControlV6 message bytes)) is bare = absurd is
nothing_of caps (Ip.Ipv6 header) payload (Some (ControlV6 message bytes)) is bare = let e = sym is.protocol ∙ bare.0 in absurd (cc)
nothing_of caps ip payload (Some (Bytes bytes)) is bare = absurd is
nothing_of caps ip payload (Some (Datagram udp bytes)) is bare = let e = sym is.protocol ∙ bare.0 in absurd (cc)
nothing_of caps ip payload (Some (Segment header bytes)) is bare = absurd (bare.1 header bytes is)
nothing_of caps ip payload None is bare = refl

no_reply : (i : InnerValue) (slots : Slots) (ip : IpRepr) (payload : List ℕ) (taken : Bool) → carried_in ip ≡ Protocol.Tcp →
    handed_reply i slots ip payload taken None ≡ None
no_reply i slots (Ip.Ipv4 header) payload taken is =
    ap (λ b. if b || taken then None else protocol_unreachable i header payload) (ap is_known_v4 is)
no_reply i slots (Ip.Ipv6 header) payload taken is =
    ap (unread_v6 i header payload taken) (known_at_once header.next_header payload (ap is_known_v6 is))

renewed_by_checksums : (i : InnerValue) (link : Option EthernetRepr) (sender : IpAddress) → (renewed_by i link sender).checksums ≡ i.checksums
renewed_by_checksums i None sender = refl
renewed_by_checksums i (Some link) sender = refl

renewed_checksums : (i : InnerValue) (link : Option EthernetRepr) (ip : IpRepr) → (renewed i link ip).checksums ≡ i.checksums
renewed_checksums i link ip =
    elim (is_direct i ip) as (λ b. (if b then renewed_by i link (sender_of ip) else i).checksums ≡ i.checksums) [
      | true ↦ renewed_by_checksums i link (sender_of ip)
      | false ↦ refl
    ]

abbrev pub LeavesPorts : Slots → Arrived → Type 0
LeavesPorts slots a = (with_ports a.slots ≡ with_ports slots) × (a.reply ≡ None)

hands_damaged : (i : InnerValue) (slots : Slots) (ip : IpRepr) (payload : List ℕ) (taken : Bool) (a : Arrived) → Hands i slots ip payload taken a →
    IsDamaged i.checksums ip payload → LeavesPorts slots a
hands_damaged i slots ip payload taken a (carried, is, handed) bare =
    let direct = bare_where ip payload Protocol.Tcp bare.0 refl in
    let P : IpRepr → Type 0 = λ h. IsCarriedContent i.checksums h (upper_payload ip payload) carried in
    let Q : List ℕ → Type 0 = λ bytes. IsCarriedContent i.checksums ip bytes carried in
    let none = nothing_of i.checksums ip payload carried (subst Q direct.1 (subst P direct.0 is)) bare in (
      handed_kept i slots ip None a.slots tt (subst (λ (c : Option PayloadValue). HandsTo i slots ip c a.slots) none handed.slots_are),
      handed.reply
          ∙ ap (λ c. answered (limited_reply i slots ip payload taken c)) none
          ∙ ap (λ o. answered (if_it_may i o)) (no_reply i slots ip payload taken bare.0),
    )

damaged_in : (i : InnerValue) (slots : Slots) (link : Option EthernetRepr) (ip : IpRepr) (payload : List ℕ) (a : Arrived) →
    Hands (renewed i link ip) (packet_delivered ip payload slots) ip payload (is_taken_raw ip slots) a → IsDamaged i.checksums ip payload →
    LeavesPorts slots a
damaged_in i slots link ip payload a h bare =
    let P : ChecksumCapabilities → Type 0 = λ caps. IsDamaged caps ip payload in
    let left = hands_damaged (renewed i link ip) (packet_delivered ip payload slots) ip payload (is_taken_raw ip slots) a h
    (subst P (sym (renewed_checksums i link ip)) bare) in
    (left.0 ∙ packet_kept ip payload slots, left.1)

damaged_v4 : (ours : Bool) (i : InnerValue) (slots : Slots) (link : Option EthernetRepr) (ip : IpRepr) (payload : List ℕ) (a : Arrived) →
    ArrivesV4 ours i slots link ip payload a → IsDamaged i.checksums ip payload → LeavesPorts slots a
damaged_v4 true i slots link ip payload a h bare = damaged_in i slots link ip payload a h bare
damaged_v4 false i slots link ip payload a h bare = (ap with_ports h.slots_are ∙ packet_kept ip payload slots, h.reply)

damaged_v6 : (ours : Bool) (i : InnerValue) (slots : Slots) (link : Option EthernetRepr) (ip : IpRepr) (payload : List ℕ) (a : Arrived) →
    ArrivesV6 ours i slots link ip payload a → IsDamaged i.checksums ip payload → LeavesPorts slots a
damaged_v6 true i slots link ip payload a h bare = damaged_in i slots link ip payload a h bare
damaged_v6 false i slots link ip payload a h bare = (ap with_ports h.slots_are, h.reply)

pub brings_damaged_v4 : (i : InnerValue) (slots : Slots) (link : Option EthernetRepr) (header : Ipv4Repr) (fragment : Ipv4Fragment) (payload : List ℕ)
    (a : Arrived) → Brings i slots (Some (Ip4 link header fragment payload)) a → IsDamaged i.checksums (Ip.Ipv4 header) payload → LeavesPorts slots a
brings_damaged_v4 i slots link header fragment payload a h bare = damaged_v4 _ i slots link (Ip.Ipv4 header) payload a h bare

pub brings_damaged_v6 : (i : InnerValue) (slots : Slots) (link : Option EthernetRepr) (header : Ipv6Repr) (payload : List ℕ) (a : Arrived) →
    Brings i slots (Some (Ip6 link header payload)) a → IsDamaged i.checksums (Ip.Ipv6 header) payload → LeavesPorts slots a
brings_damaged_v6 i slots link header payload a h bare = damaged_v6 _ i slots link (Ip.Ipv6 header) payload a h bare
