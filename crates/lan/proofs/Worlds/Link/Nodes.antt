-- The neighbours that a host knows are hosts, whatever arrives.
use Rattle.std.proofs.Common.{◌≡◌, ℕ, zero, suc, ◌^◌, ◌<◌, ◌≤◌, Bool, true, false, cond, List, [], ◌∷◌, ◌++◌, length, take, drop, Option, Some, None, refl, sym}
use Rattle.std.proofs.Common.{◌∙◌, subst}
use Rattle.std.specs.Prelude.{ℤ, pos, ◌+ℤ◌, nat_lt, remove}
use Rattle.std.specs.List.{AllByRecursion}
use Rattle.iface_ingress.specs.Icmpv6 as Icmpv6
use Rattle.iface_ingress.specs.Icmpv6.{MessageValue}
use Rattle.lan.specs.Worlds.AtLink.Ndisc.{NeighborMessage, Solicitation, Advertisement}
use Rattle.interface.specs.NdiscNeighborFlags.{NdiscNeighborFlags}
use Rattle.iface_ingress.specs.AddressTests.{is_same_hardware}
use Rattle.iface_ingress.specs.EthernetAddress.{EthernetAddress}
use Rattle.iface_ingress.specs.HardwareAddress.{HardwareAddress}
use Rattle.iface_ingress.specs.HardwareAddress.TheVariants as Hardware
use Rattle.iface_ingress.specs.IpAddress.{IpAddress}
use Rattle.iface_ingress.specs.IpAddress.TheVariants as Address
use Rattle.interface.specs.IpRepr.{IpRepr}
use Rattle.interface.specs.IpRepr.TheVariants as Ip
use Rattle.iface_ingress.specs.Ipv6Address.{Ipv6Address}
use Rattle.interface.specs.Ipv6Repr.{Ipv6Repr}
use Rattle.iface_ingress.specs.ArpRepr.{ArpRepr}
use Rattle.iface_ingress.specs.ArpRepr.TheVariants as ArpIs
use Rattle.iface_ingress.specs.EthernetRepr.{EthernetRepr}
use Rattle.sockets.specs.Packet.{PayloadValue, ControlV4, ControlV6, Bytes, Datagram, Segment}
use Rattle.iface_tables.specs.Best.{at_index}
use Rattle.iface_tables.specs.Inner.{InnerValue, context_of, with_neighbor, is_for_us}
use Rattle.iface_tables.specs.Neighbor.{entry_lifetime, renewed_entry, renewed_at, filled_at, neighbor_index_of, victim}
use Rattle.iface_tables.specs.declared.neighbor.Neighbor.{Neighbor}
use Rattle.iface_egress.specs.Fragments.{LeftValue}
use Rattle.iface_ingress.specs.Arp as Arps
use Rattle.iface_ingress.specs.Arp.{arp_arrived}
use Rattle.iface_ingress.specs.Arrives.{Arrived, ArrivesV4, ArrivesV6, Brings, is_direct, sender_of, renewed, renewed_by}
use Rattle.iface_ingress.specs.Delivered.{Slots, drawn_if, is_taken_raw, segment_draws, packet_delivered}
use Rattle.iface_ingress.specs.Processed.{handed_host, handed_reply, is_unclaimed, limited_host, message_host, control_v6_host, names_no_endpoint}
use Rattle.iface_ingress.proofs.Limit.{counted_so}
use Rattle.iface_ingress.proofs.PathTold.{path_v4_so, path_v6_so}
use Rattle.iface_ingress.specs.Reassembled.{is_control_v6}
use Rattle.iface_ingress.specs.Ndisc.{neighbor_learned, heard, heard_on, hardware_addr, learned, advertised, replaces, asks_host, tells, answer}
use Rattle.iface_ingress.specs.Incoming.{IncomingValue, Arp, Ip4, Ip6}
use Rattle.iface_ingress.proofs.Settings.{brings_same}
use Rattle.lan.specs.Worlds.Link.Made.{Makes}
use Rattle.lan.specs.Worlds.Link.Frames.{Outgoing, medium_on}
use Rattle.lan.specs.Worlds.Link.Sides.{AreSent, IsHostFrame, IsNode, HasSixBytes, RoutersAre, IsSound, IsSender}
use Rattle.lan.proofs.Worlds.Link.Assemblers.{all_set, all_at, all_more}
use Rattle.lan.proofs.Worlds.Link.Sends.{left_to}

abbrev IsNear : Neighbor → Type 0
IsNear n = IsNode n.hardware_addr

abbrev AreNear : InnerValue → Type 0
AreNear i = AllByRecursion IsNear i.neighbors.entries

-- TABLES

all_take : (n : ℕ) (xs : List Neighbor) → AllByRecursion IsNear xs → AllByRecursion IsNear (take n xs)
all_take zero xs all = tt
all_take (suc n) [] all = tt
all_take (suc n) (x ∷ xs) all = (all.0, all_take n xs all.1)

all_drop : (n : ℕ) (xs : List Neighbor) → AllByRecursion IsNear xs → AllByRecursion IsNear (drop n xs)
all_drop zero xs all = all
all_drop (suc n) [] all = tt
all_drop (suc n) (x ∷ xs) all = all_drop n xs all.1

all_join : (xs ys : List Neighbor) → AllByRecursion IsNear xs → AllByRecursion IsNear ys → AllByRecursion IsNear (xs ++ ys)
all_join [] ys all more = more
all_join (x ∷ xs) ys all more = (all.0, all_join xs ys all.1 more)

filled_near : (slot : Option ℕ) (room : ℕ) (entries : List Neighbor) (new : Neighbor) → AllByRecursion IsNear entries → IsNear new →
    AllByRecursion IsNear (filled_at slot room entries new)
filled_near (Some at) room entries new all near = all_set IsNear entries at new all near
filled_near None room entries new all near =
    elim (nat_lt (length entries) room) as (λ b. AllByRecursion IsNear (cond b (entries ++ new ∷ []) (remove entries (victim entries) ++ new ∷ []))) [
      | true ↦ all_more IsNear entries new all near
      | false ↦ all_more IsNear (remove entries (victim entries)) new
          (all_join (take (victim entries) entries) (drop (suc (victim entries)) entries) (all_take (victim entries) entries all)
          (all_drop (suc (victim entries)) entries all)) near
    ]

renewed_near : (entry : Neighbor) (hardware : HardwareAddress) (instant : ℤ) → IsNear entry → IsNear (renewed_entry entry hardware instant)
renewed_near entry hardware instant near =
    elim (is_same_hardware entry.hardware_addr hardware) as (λ b. IsNear (cond b (record entry { expires_at = instant +ℤ pos entry_lifetime }) entry))
    [ true ↦ near | false ↦ near ]

renewed_all : (slot : Option ℕ) (o : Option Neighbor) (entries : List Neighbor) (hardware : HardwareAddress) (instant : ℤ) → at_index slot entries ≡ o →
    AllByRecursion IsNear entries → AllByRecursion IsNear (renewed_at slot o entries hardware instant)
renewed_all None o entries hardware instant is all = all
renewed_all (Some at) None entries hardware instant is all = all
renewed_all (Some at) (Some entry) entries hardware instant is all =
    all_set IsNear entries at (renewed_entry entry hardware instant) all (renewed_near entry hardware instant (all_at IsNear entries at entry all is))

-- HOSTS

near_neighbor : (i : InnerValue) (address : IpAddress) (hardware_addr : EthernetAddress) → AreNear i → AreNear (with_neighbor i address (Hardware.Ethernet hardware_addr))
near_neighbor i address hardware_addr near =
    filled_near (neighbor_index_of i.neighbors.entries address) i.neighbors.room i.neighbors.entries
    (record { protocol_addr = address; hardware_addr = Hardware.Ethernet hardware_addr; expires_at = i.instant +ℤ pos entry_lifetime }) near tt

near_renewed_by : (i : InnerValue) (link : Option EthernetRepr) (sender : IpAddress) → AreNear i → AreNear (renewed_by i link sender)
near_renewed_by i None sender near = near
near_renewed_by i (Some link) sender near =
    renewed_all (neighbor_index_of i.neighbors.entries sender) (at_index (neighbor_index_of i.neighbors.entries sender) i.neighbors.entries) i.neighbors.entries
    (Hardware.Ethernet link.src_addr) i.instant refl near

near_renewed : (i : InnerValue) (link : Option EthernetRepr) (ip : IpRepr) → AreNear i → AreNear (renewed i link ip)
near_renewed i link ip near =
    elim (is_direct i ip) as (λ b. AreNear (cond b (renewed_by i link (sender_of ip)) i)) [ true ↦ near_renewed_by i link (sender_of ip) near | false ↦ near ]

near_learned : (i : InnerValue) (source : Ipv6Address) (link : Option (List ℕ)) → AreNear i → AreNear (learned i source link)
near_learned i source None near = near
near_learned i source (Some link) near = near_neighbor i (Address.Ipv6 source) (hardware_addr link) near

near_advertised : (i : InnerValue) (flags : NdiscNeighborFlags) (target : Ipv6Address) (link : Option (List ℕ)) → AreNear i →
    AreNear (advertised i flags target link)
near_advertised i flags target link near =
    elim (replaces i flags target) as (λ b. AreNear (cond b (learned i target link) i)) [ true ↦ near_learned i target link near | false ↦ near ]

near_heard : (hardware : HardwareAddress) (i : InnerValue) (header : Ipv6Repr) (message : NeighborMessage) → AreNear i →
    AreNear (heard_on hardware i header message).inner
near_heard Hardware.Ip i header message near = near
near_heard (Hardware.Ethernet own) i header (Solicitation target link) near =
    elim (asks_host i header target link) as (λ b. AreNear (cond b (heard (learned i header.src_addr link) (answer own i header target)) (heard i None)).inner)
    [ true ↦ near_learned i header.src_addr link near | false ↦ near ]
near_heard (Hardware.Ethernet own) i header (Advertisement flags target link) near =
    elim (tells header flags target link) as (λ b. AreNear (cond b (heard (advertised i flags target link) None) (heard i None)).inner)
    [ true ↦ near_advertised i flags target link near | false ↦ near ]

near_message : (i : InnerValue) (slots : Slots) (header : Ipv6Repr) (message : MessageValue) (bytes : List ℕ) → AreNear i →
    AreNear (message_host i slots header message bytes)
near_message i slots header (Icmpv6.Ndisc message) bytes near =
    elim (is_control_v6 header.next_header) as (λ b. AreNear (cond b (neighbor_learned i header message).inner i)) [
      | true ↦ near_heard i.hardware i header message near
      | false ↦ near
    ]
near_message i slots header (Icmpv6.DstUnreachable reason quoted) bytes near = near
near_message i slots header (Icmpv6.PktTooBig mtu quoted) bytes near =
    path_v6_so AreNear i near (λ address told. near) slots (Icmpv6.PktTooBig mtu quoted) bytes
near_message i slots header (Icmpv6.TimeExceeded reason quoted) bytes near = near
near_message i slots header (Icmpv6.ParamProblem reason pointer quoted) bytes near = near
near_message i slots header (Icmpv6.EchoRequest ident sequence) bytes near = near
near_message i slots header (Icmpv6.EchoReply ident sequence) bytes near = near

near_control : (i : InnerValue) (slots : Slots) (ip : IpRepr) (message : MessageValue) (bytes : List ℕ) → AreNear i →
    AreNear (control_v6_host i slots ip message bytes)
near_control i slots (Ip.Ipv4 header) message bytes near = near
near_control i slots (Ip.Ipv6 header) message bytes near = near_message i slots header message bytes near

near_drawn : (b : Bool) (i : InnerValue) → AreNear i → AreNear (drawn_if b i)
near_drawn true i near = near
near_drawn false i near = near

near_handed : (i : InnerValue) (slots : Slots) (ip : IpRepr) (payload : List ℕ) (carried : Option PayloadValue) → AreNear i →
    AreNear (handed_host i slots ip payload carried)
near_handed i slots ip payload None near = near
near_handed i slots (Ip.Ipv4 header) payload (Some (ControlV4 message bytes)) near =
    path_v4_so AreNear i near (λ address told. near) slots payload message bytes
near_handed i slots (Ip.Ipv6 header) payload (Some (ControlV4 message bytes)) near = near
near_handed i slots ip payload (Some (ControlV6 message bytes)) near = near_control i slots ip message bytes near
near_handed i slots ip payload (Some (Bytes bytes)) near = near
near_handed i slots ip payload (Some (Datagram udp bytes)) near = near
near_handed i slots ip payload (Some (Segment header bytes)) near =
    elim (names_no_endpoint i ip) as (λ b. AreNear (cond b i (drawn_if (segment_draws (context_of i) ip header bytes slots) i))) [
      | true ↦ near
      | false ↦ near_drawn (segment_draws (context_of i) ip header bytes slots) i near
    ]

-- an error that goes is counted, and nothing else
near_limited : (i : InnerValue) (slots : Slots) (ip : IpRepr) (payload : List ℕ) (taken : Bool) (carried : Option PayloadValue) → AreNear i →
    AreNear (limited_host i slots ip payload taken carried)
near_limited i slots ip payload taken carried near =
    let after = near_handed i slots ip payload carried near in
    counted_so AreNear (is_unclaimed i slots ip carried) i (handed_reply i slots ip payload taken carried) (handed_host i slots ip payload carried)
    after after

-- ARRIVALS

near_v4 : (ours : Bool) (i : InnerValue) (slots : Slots) (link : Option EthernetRepr) (ip : IpRepr) (payload : List ℕ) (a : Arrived) → AreNear i →
    ArrivesV4 ours i slots link ip payload a → AreNear a.inner
near_v4 true i slots link ip payload a near (carried, is, handed) =
    subst AreNear (sym handed.inner)
    (near_limited (renewed i link ip) (packet_delivered ip payload slots) ip payload (is_taken_raw ip slots) carried (near_renewed i link ip near))
near_v4 false i slots link ip payload a near is = subst AreNear (sym is.inner) near

near_v6 : (ours : Bool) (i : InnerValue) (slots : Slots) (link : Option EthernetRepr) (ip : IpRepr) (payload : List ℕ) (a : Arrived) → AreNear i →
    ArrivesV6 ours i slots link ip payload a → AreNear a.inner
near_v6 true i slots link ip payload a near (carried, is, handed) =
    subst AreNear (sym handed.inner)
    (near_limited (renewed i link ip) (packet_delivered ip payload slots) ip payload (is_taken_raw ip slots) carried (near_renewed i link ip near))
near_v6 false i slots link ip payload a near is = subst AreNear (sym is.inner) near

near_arp : (i : InnerValue) (packet : ArpRepr) → AreNear i → AreNear (arp_arrived i packet)
near_arp i (ArpIs.EthernetIpv4 operation source source_protocol target target_protocol) near =
    elim (Arps.teaches i (ArpIs.EthernetIpv4 operation source source_protocol target target_protocol)) as
    (λ b. AreNear (cond b (with_neighbor i (Address.Ipv4 source_protocol) (Hardware.Ethernet source)) i)) [
      | true ↦ near_neighbor i (Address.Ipv4 source_protocol) source near
      | false ↦ near
    ]

near_brings : (i : InnerValue) (slots : Slots) (content : Option IncomingValue) (a : Arrived) → AreNear i → Brings i slots content a → AreNear a.inner
near_brings i slots None a near is = subst AreNear (sym is.inner) near
near_brings i slots (Some (Arp link packet)) a near is = subst AreNear (sym is.inner) (near_arp i packet near)
near_brings i slots (Some (Ip4 link header fragment payload)) a near is =
    near_v4 (is_for_us i (Address.Ipv4 header.dst_addr)) i slots link (Ip.Ipv4 header) payload a near is
near_brings i slots (Some (Ip6 link header payload)) a near is =
    near_v6 (is_for_us i (Address.Ipv6 header.dst_addr)) i slots link (Ip.Ipv6 header) payload a near is

-- THE SENDER

-- a host of which nothing that a sender is read by has changed
pub sender_settled : (made : Makes) (first : ℕ) (out : List Outgoing) (i i' : InnerValue) (l : Option LeftValue) (sent : List (List ℕ)) →
    i'.hardware ≡ i.hardware → i'.ident ≡ i.ident → IsSound i'
    → IsSender made first i l sent out → IsSender made first i' l sent out
sender_settled made first out i i' l sent hardware ident sound s = record {
  sound = sound;
  are_sent = subst (λ (n : ℕ). AreSent made first n out) (sym ident) s.are_sent;
  left_is = left_to out i.hardware i'.hardware l hardware s.left_is;
  frames = subst (λ (h : HardwareAddress). AllByRecursion (IsHostFrame (medium_on h) out) sent) (sym hardware) s.frames;
}

-- what arrives leaves a sender one
pub arrival_keeps_sender : (made : Makes) (first : ℕ) (out : List Outgoing) (i : InnerValue) (l : Option LeftValue) (sent : List (List ℕ))
    (slots : Slots) (content : Option IncomingValue) (a : Arrived)
    → Brings i slots content a → IsSender made first i l sent out → IsSender made first a.inner l sent out
arrival_keeps_sender made first out i l sent slots content a brings s =
    let same = brings_same i slots content a brings in
    sender_settled made first out i a.inner l sent same.hardware same.ident
    (record {
      own = subst HasSixBytes (sym same.hardware) s.sound.own;
      neighbors = near_brings i slots content a s.sound.neighbors brings;
      routers = subst RoutersAre (sym same.routes) s.sound.routers;
      widths = record {
        mtu = subst (λ (n : ℕ). n ≤ 65535) (sym same.mtu) s.sound.widths.mtu;
        ident =
            subst (λ (n : ℕ). n < 2 ^ 16) (sym same.ident) s.sound.widths.ident;
      };
      checksums = same.checksums ∙ s.sound.checksums;
    }) s
