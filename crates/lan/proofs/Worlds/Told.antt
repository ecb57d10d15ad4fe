-- An ARP packet that a host answers with goes between two hosts.
use Rattle.std.proofs.Common.{◌≡◌, ℕ, ◌-◌, ◌^◌, ◌≤◌, Bool, true, false, cond, List, length, take, drop, Option, Some, None, refl, sym, ◌∙◌, ap, subst, arith}
use Rattle.std.proofs.Common.{length-take, length-drop}
use Rattle.std.specs.Prelude.{nat_lt, ◌||◌}
use Rattle.sim_link.specs.ChecksumCapabilities.{ChecksumCapabilities}
use Rattle.iface_egress.specs.Arp as Wire
use Rattle.lan.specs.Worlds.AtLink.Ethernet as Ethernet
use Rattle.iface_ingress.specs.HardwareAddress.{HardwareAddress}
use Rattle.iface_ingress.specs.HardwareAddress.TheVariants as Hardware
use Rattle.iface_ingress.specs.IpAddress.TheVariants as Address
use Rattle.interface.specs.IpRepr.{IpRepr}
use Rattle.interface.specs.IpRepr.TheVariants as Ip
use Rattle.interface.specs.Ipv4Fragment.{Ipv4Fragment}
use Rattle.interface.specs.Ipv4Repr.{Ipv4Repr}
use Rattle.interface.specs.Ipv6Repr.{Ipv6Repr}
use Rattle.iface_ingress.specs.IpProtocol.TheVariants as Protocol
use Rattle.lan.specs.Worlds.AtLink.ArpOperation.TheVariants as Operation
use Rattle.iface_ingress.specs.ArpRepr.{ArpRepr}
use Rattle.iface_ingress.specs.ArpRepr.TheVariants as ArpIs
use Rattle.iface_ingress.specs.EthernetRepr.{EthernetRepr}
use Rattle.sockets.specs.Packet.{PacketValue}
use Rattle.iface_tables.specs.Inner.{InnerValue, is_for_us}
use Rattle.iface_ingress.specs.Arp as Arps
use Rattle.iface_ingress.specs.Arp.{arp_answer, answer_at}
use Rattle.iface_ingress.specs.Arrives as Replies
use Rattle.iface_ingress.specs.Arrives.{Arrived, ArrivesV4, ArrivesV6, Brings, told, answered, whole_after, whole_arrived}
use Rattle.iface_ingress.specs.Delivered.{Slots}
use Rattle.iface_ingress.specs.Incoming.{IncomingValue, Arp, Ip4, Ip6, IsIncoming, IsContent}
use Rattle.iface_ingress.specs.Reassembled.{Assemblers, is_fragment, is_fragment_v6, is_taken_in, taken_in, bytes_at, kept, slot_in, with_room, reassembled, reassembled_v6}
use Rattle.iface_ingress.specs.Reassembled.{uncut, whole_of}
use Rattle.lan.specs.Worlds.Link.Sides.{IsNode, HasSixBytes, IsBetweenNodes}

-- WHICH CONTENT IS ANSWERED SO

-- the reply is an ARP packet where an ARP packet came
pub record IsToldBy (i : InnerValue) (whole : Option IncomingValue) (packet : ArpRepr) : Type 0 where
  pub link : EthernetRepr
  pub question : ArpRepr
  pub whole_is : whole ≡ Some (Arp link question)
  pub answer : arp_answer i question ≡ Some packet

not_answered : (p : Option PacketValue) (packet : ArpRepr) → answered p ≡ Some (Replies.Tells packet) → ⊥
not_answered None packet is = cc
not_answered (Some p) packet is = cc

told_is : (o : Option ArpRepr) (packet : ArpRepr) → told o ≡ Some (Replies.Tells packet) → o ≡ Some packet
told_is None packet is = absurd cc
told_is (Some p) packet is = let e : p ≡ packet = cc in ap Some e

not_v4 : (ours : Bool) (i : InnerValue) (slots : Slots) (link : Option EthernetRepr) (ip : IpRepr) (payload : List ℕ) (a : Arrived) (packet : ArpRepr) →
    ArrivesV4 ours i slots link ip payload a → a.reply ≡ Some (Replies.Tells packet) → ⊥
not_v4 true i slots link ip payload a packet (carried, is, handed) reply = not_answered _ packet (sym handed.reply ∙ reply)
not_v4 false i slots link ip payload a packet is reply = let none = is.reply in cc

not_v6 : (ours : Bool) (i : InnerValue) (slots : Slots) (link : Option EthernetRepr) (ip : IpRepr) (payload : List ℕ) (a : Arrived) (packet : ArpRepr) →
    ArrivesV6 ours i slots link ip payload a → a.reply ≡ Some (Replies.Tells packet) → ⊥
not_v6 true i slots link ip payload a packet (carried, is, handed) reply = not_answered _ packet (sym handed.reply ∙ reply)
not_v6 false i slots link ip payload a packet is reply = let none = is.reply in cc

told_by : (i : InnerValue) (slots : Slots) (whole : Option IncomingValue) (a : Arrived) (packet : ArpRepr) → Brings i slots whole a →
    a.reply ≡ Some (Replies.Tells packet) → IsToldBy i whole packet
told_by i slots None a packet is reply = absurd (let none = is.reply in cc)
told_by i slots (Some (Arp link question)) a packet is reply =
    record { link = link; question = question; whole_is = refl; answer = told_is (arp_answer i question) packet (sym is.reply ∙ reply) }
told_by i slots (Some (Ip4 link header fragment payload)) a packet is reply =
    absurd (not_v4 (is_for_us i (Address.Ipv4 header.dst_addr)) i slots link (Ip.Ipv4 header) payload a packet is reply)
told_by i slots (Some (Ip6 link header payload)) a packet is reply =
    absurd (not_v6 (is_for_us i (Address.Ipv6 header.dst_addr)) i slots link (Ip.Ipv6 header) payload a packet is reply)

-- WHICH FRAME BROUGHT IT

short_arp : (link : Option EthernetRepr) (h : Ipv4Repr) (bytes : List ℕ) (b : Bool) (l : EthernetRepr) (q : ArpRepr) →
    cond b (Some (Ip4 link (record h { payload_len = length bytes }) uncut bytes)) None ≡ Some (Arp l q) → ⊥
short_arp link h bytes true l q is = cc
short_arp link h bytes false l q is = cc

never_arp : (link : Option EthernetRepr) (h : Ipv4Repr) (o : Option (List ℕ)) (l : EthernetRepr) (q : ArpRepr) → reassembled link h o ≡ Some (Arp l q) → ⊥
never_arp link h None l q is = cc
never_arp link h (Some bytes) l q is = short_arp link h bytes (nat_lt (length bytes) (2 ^ 16 - 20)) l q is

fragment_never : (assemblers : Assemblers) (at : Option ℕ) (link : Option EthernetRepr) (h : Ipv4Repr) (p : Ipv4Fragment) (x : List ℕ) (l : EthernetRepr) (q : ArpRepr) →
    whole_of assemblers at (Some (Ip4 link h p x)) ≡ Some (Arp l q) → ⊥
fragment_never assemblers at link h p x l q =
    elim (is_fragment p) as (λ b. cond b (reassembled link h (bytes_at at assemblers)) (Some (Ip4 link h p x)) ≡ Some (Arp l q) →
    ⊥) [ true ↦ λ is. never_arp link h (bytes_at at assemblers) l q is | false ↦ λ is. cc ]

short6_arp : (link : Option EthernetRepr) (h : Ipv6Repr) (bytes : List ℕ) (b : Bool) (l : EthernetRepr) (q : ArpRepr) →
    cond b (Some (Ip6 link (record h { next_header = Protocol.Ipv6Frag; payload_len = length bytes }) bytes)) None ≡ Some (Arp l q) → ⊥
short6_arp link h bytes true l q is = cc
short6_arp link h bytes false l q is = cc

never6_arp : (link : Option EthernetRepr) (h : Ipv6Repr) (o : Option (List ℕ)) (l : EthernetRepr) (q : ArpRepr) → reassembled_v6 link h o ≡ Some (Arp l q) → ⊥
never6_arp link h None l q is = cc
never6_arp link h (Some bytes) l q is = short6_arp link h bytes (nat_lt (length bytes) (2 ^ 16)) l q is

fragment6_never : (assemblers : Assemblers) (at : Option ℕ) (link : Option EthernetRepr) (h : Ipv6Repr) (x : List ℕ) (l : EthernetRepr) (q : ArpRepr) →
    whole_of assemblers at (Some (Ip6 link h x)) ≡ Some (Arp l q) → ⊥
fragment6_never assemblers at link h x l q =
    elim (is_fragment_v6 h x) as (λ b. cond b (reassembled_v6 link h (bytes_at at assemblers)) (Some (Ip6 link h x)) ≡ Some (Arp l q) →
    ⊥) [ true ↦ λ is. never6_arp link h (bytes_at at assemblers) l q is | false ↦ λ is. cc ]

whole_arp : (i : InnerValue) (timeout : ℕ) (assemblers : Assemblers) (content : Option IncomingValue) (l : EthernetRepr) (q : ArpRepr) →
    whole_after i timeout assemblers content ≡ Some (Arp l q) → content ≡ Some (Arp l q)
whole_arp i timeout assemblers None l q is = is
whole_arp i timeout assemblers (Some (Arp link packet)) l q is = is
whole_arp i timeout assemblers (Some (Ip4 link h p x)) l q is =
    absurd (fragment_never (kept i timeout assemblers (Some (Ip4 link h p x))) (slot_in assemblers (Some (Ip4 link h p x))) link h p x l q is)
whole_arp i timeout assemblers (Some (Ip6 link h x)) l q is =
    absurd (fragment6_never (kept i timeout assemblers (Some (Ip6 link h x))) (slot_in assemblers (Some (Ip6 link h x))) link h x l q is)

taken_if : (v : IncomingValue) (b : Bool) (l : EthernetRepr) (q : ArpRepr) → cond b (Some v) None ≡ Some (Arp l q) → Some v ≡ Some (Arp l q)
taken_if v true l q is = is
taken_if v false l q is = absurd cc

taken_arp : (i : InnerValue) (content : Option IncomingValue) (l : EthernetRepr) (q : ArpRepr) → taken_in i content ≡ Some (Arp l q) → content ≡ Some (Arp l q)
taken_arp i None l q is = is
taken_arp i (Some v) l q is = taken_if v (is_taken_in i v) l q is

-- ITS ADDRESSES

six : (bytes s : List ℕ) → 28 ≤ length bytes → s ≡ take 6 (drop 8 bytes) → length s ≡ 6
six bytes s room is = omega (arith, ap length is, length-take 6 (drop 8 bytes), length-drop 8 bytes)

answer_between : (hardware : HardwareAddress) (question packet : ArpRepr) (bytes : List ℕ) → HasSixBytes hardware → Wire.IsArp bytes question →
    answer_at hardware question ≡ Some packet → IsNode hardware × IsBetweenNodes packet
answer_between (Hardware.Ethernet own) (ArpIs.EthernetIpv4 Operation.Request source source_protocol target target_protocol) packet bytes long is answer =
    let e : ArpIs.EthernetIpv4 Operation.Reply own target_protocol source source_protocol ≡ packet = cc in
    (tt, subst IsBetweenNodes e (long, six bytes source.0 is.room is.source_hardware_is))
answer_between (Hardware.Ethernet own) (ArpIs.EthernetIpv4 Operation.Reply source source_protocol target target_protocol) packet bytes long is
    answer = absurd cc
answer_between (Hardware.Ethernet own) (ArpIs.EthernetIpv4 (Operation.Unknown n) source source_protocol target target_protocol) packet bytes long is
    answer = absurd cc
answer_between Hardware.Ip (ArpIs.EthernetIpv4 operation source source_protocol target target_protocol) packet bytes long is answer = absurd cc

counted_by : (b : Bool) (o : Option ArpRepr) (packet : ArpRepr) → cond b o None ≡ Some packet → o ≡ Some packet
counted_by true o packet is = is
counted_by false o packet is = absurd cc

read_arp : (hardware : HardwareAddress) (caps : ChecksumCapabilities) (frame : List ℕ) (l : EthernetRepr) (q : ArpRepr) →
    IsIncoming hardware caps frame (Arp l q) → Wire.IsArp (Ethernet.payload_of frame) q
read_arp (Hardware.Ethernet own) caps frame l q is = is.1
read_arp Hardware.Ip caps frame l q is = absurd is

-- what a host tells in answer to a frame goes between hosts
pub told_between : (i : InnerValue) (timeout : ℕ) (assemblers : Assemblers) (slots : Slots) (frame : List ℕ) (content : Option IncomingValue) (a : Arrived)
    (packet : ArpRepr) → HasSixBytes i.hardware → IsContent i.hardware i.checksums frame content
    → Brings i slots (whole_arrived i timeout assemblers content) a → a.reply ≡ Some (Replies.Tells packet) → IsNode i.hardware ×
    IsBetweenNodes packet
told_between i timeout assemblers slots frame content a packet long is brings reply =
    let by = told_by i slots (whole_arrived i timeout assemblers content) a packet brings reply in
    let came : content ≡ Some (Arp by.link by.question) =
    taken_arp i content by.link by.question (whole_arp i timeout (with_room i assemblers (taken_in i content)) (taken_in i content) by.link by.question by.whole_is) in
    let read : IsIncoming i.hardware i.checksums frame (Arp by.link by.question) =
    subst (λ (o : Option IncomingValue). IsContent i.hardware i.checksums frame o) came is in
    answer_between i.hardware by.question packet (Ethernet.payload_of frame) long (read_arp i.hardware i.checksums frame by.link by.question read)
    (counted_by (Arps.counts i by.question || Arps.probes i by.question) (answer_at i.hardware by.question) packet by.answer)
