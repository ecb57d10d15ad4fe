-- The frames that carry no packet of a socket: ARP packets, and questions for neighbours.
use Rattle.std.proofs.Common.{◌≡◌, ℕ, ◌+◌, Bool, true, false, cond, ◌&&◌, ◌==◌, List, ◌++◌, length, slice_index, Option, Some, None, refl, sym, ◌∙◌, ap, subst}
use Rattle.std.proofs.Common.{arith, length-append, length-drop, append_assoc}
use Rattle.std.specs.Int.{w16, to_be_bytes}
use Rattle.std.proofs.lemmas.List.{drop_at}
use Rattle.sim_link.specs.Medium.{Medium}
use Rattle.iface_egress.specs.Arp as Arps
use Rattle.iface_ingress.specs.EthernetAddress.{EthernetAddress}
use Rattle.iface_ingress.specs.EthernetProtocol.TheVariants as Ether
use Rattle.iface_ingress.specs.Fields.{be16}
use Rattle.iface_ingress.specs.HardwareAddress.{HardwareAddress}
use Rattle.iface_ingress.specs.HardwareAddress.TheVariants as Hardware
use Rattle.iface_ingress.specs.IpProtocol.{IpProtocol}
use Rattle.iface_ingress.specs.IpProtocol.TheVariants as Protocol
use Rattle.interface.specs.Ipv6 as Ipv6
use Rattle.wire_address.specs.Protocol.{ether_number, protocol_of}
use Rattle.iface_ingress.specs.ArpRepr.{ArpRepr}
use Rattle.iface_ingress.specs.ArpRepr.TheVariants as Arp
use Rattle.iface_egress.specs.Departure.{arp_frame, arp_request, solicited_hardware_addr, solicitation_header, solicitation, solicitation_frame}
use Rattle.iface_egress.specs.declared.frame.NeighborQuery.{NeighborQuery}
use Rattle.iface_egress.specs.declared.frame.NeighborQuery.TheVariants as Query
use Rattle.iface_ingress.specs.Incoming.{IncomingValue, IsIncoming}
use Rattle.iface_ingress.specs.Incoming as Content
use Rattle.interface.specs.Ip.{carried_in}
use Rattle.iface_ingress.proofs.Bare.{bare_v6}
use Rattle.iface_ingress.specs.Processed.{is_known_v6}
use Rattle.interface.specs.Delivered.{NamesNoPorts}
use Rattle.sim_link.specs.PacketInFrame.{packet_in}
use Rattle.sim_link.specs.Parts.{may_carry, is_ipv4, is_ipv6, is_uncut, payload_v4, payload_v6}
use Rattle.sim_link.specs.declared.part.Part.{Part}
use Rattle.lan.specs.Worlds.Link.Made.{sealed, bytes_of}
use Rattle.lan.specs.Worlds.Link.Frames.{medium_on}
use Rattle.iface_egress.proofs.Planned.{AsksFrom}
use Rattle.lan.specs.Worlds.Link.Sides.{IsOther, BringsNone, IsBetweenNodes, HasSixBytes}
use Rattle.lan.proofs.Worlds.Link.Asked.{IsAsked}
use Rattle.lan.proofs.Worlds.Link.Following.{carries}
use Rattle.lan.proofs.Worlds.Link.Links.{number_following}
use Rattle.lan.proofs.Worlds.Link.Whole6.{known_whole}

-- TESTS THAT FAIL

first_fails : (a b : Bool) (part : Part) → a ≡ false → (let o : Option Part = cond (a && b) (Some part) None in o) ≡ None
first_fails a b part none = rw none refl

pub both_fail : (a b c d e f g : Bool) (p q : Part) → a ≡ false → e && f && g ≡ false →
    (let o : Option Part = cond (a && b && c && d) (Some p) (cond (e && f && g) (Some q) None) in o) ≡ None
both_fail a b c d e f g p q none other = rw (none, other) refl

not_number : (n m k : ℕ) → n ≡ k → (let b : Bool = k == m in b) ≡ false → n == m ≡ false
not_number n m k is other = rw is other

-- ARP

-- a frame of Ethernet whose EtherType is that of ARP
pub arp_other : (link rest : List ℕ) → length link ≡ 14 → be16 link 12 ≡ 0x0806 → be16 (link ++ rest) 12 ≡ 0x0806 → IsOther Medium.Ethernet (link ++ rest)
arp_other link rest len here there = record {
  uncut = first_fails (may_carry Medium.Ethernet 0x0800 (link ++ rest)) (is_ipv4 (packet_in Medium.Ethernet (link ++ rest)))
      (payload_v4 Medium.Ethernet (packet_in Medium.Ethernet (link ++ rest))) (not_number (be16 (link ++ rest) 12) 0x0800 0x0806 there refl);
  no_segment = both_fail (may_carry Medium.Ethernet 0x0800 (link ++ rest)) (is_ipv4 (packet_in Medium.Ethernet (link ++ rest)))
      (is_uncut (packet_in Medium.Ethernet (link ++ rest))) (slice_index (packet_in Medium.Ethernet (link ++ rest)) 9 == 6)
      (may_carry Medium.Ethernet 0x86dd (link ++ rest)) (is_ipv6 (packet_in Medium.Ethernet (link ++ rest)))
      (slice_index (packet_in Medium.Ethernet (link ++ rest)) 6 == 6)
      (payload_v4 Medium.Ethernet (packet_in Medium.Ethernet (link ++ rest))) (payload_v6 Medium.Ethernet (packet_in Medium.Ethernet (link ++ rest)))
      (not_number (be16 (link ++ rest) 12) 0x0800 0x0806 there refl) (rw (not_number (be16 (link ++ rest) 12) 0x86dd 0x0806 there refl) refl);
  brings = λ hardware padding v on is. reads hardware padding v on is;
} where
  on_ethernet : (own : EthernetAddress) (padding : List ℕ) (v : IncomingValue) → IsIncoming (Hardware.Ethernet own) sealed (link ++ (rest ++ padding)) v →
      BringsNone v
  on_ethernet own padding (Content.Arp l packet) is = (tt, tt)
  on_ethernet own padding (Content.Ip4 None h p x) is = absurd is
  on_ethernet own padding (Content.Ip4 (Some l) h p x) is =
      absurd (let e = carries link (rest ++ padding) 0x0806 l Ether.Ipv4 len (ap (λ (n : ℕ). n == 0x0806) here) is.0 in cc)
  on_ethernet own padding (Content.Ip6 None h x) is = absurd is
  on_ethernet own padding (Content.Ip6 (Some l) h x) is =
      absurd (let e = carries link (rest ++ padding) 0x0806 l Ether.Ipv6 len (ap (λ (n : ℕ). n == 0x0806) here) is.0 in cc)

  reads : (hardware : HardwareAddress) (padding : List ℕ) (v : IncomingValue) → medium_on hardware ≡ Medium.Ethernet →
      IsIncoming hardware sealed ((link ++ rest) ++ padding) v → BringsNone v
  reads (Hardware.Ethernet own) padding v on is =
      on_ethernet own padding v (subst (λ (b : List ℕ). IsIncoming (Hardware.Ethernet own) sealed b v) (append_assoc link rest padding) is)
  reads Hardware.Ip padding v on is = absurd cc

abbrev arp_tail : List ℕ
arp_tail = to_be_bytes w16 (ether_number Ether.Arp)

-- the frame of an ARP packet between two hosts
pub arp_is_other : (packet : ArpRepr) → IsBetweenNodes packet → IsOther Medium.Ethernet (arp_frame packet)
arp_is_other (Arp.EthernetIpv4 operation source source_protocol target target_protocol) between =
    let rest : List ℕ = Arps.written (Arp.EthernetIpv4 operation source source_protocol target target_protocol) in
    let link : List ℕ = target.0 ++ (source.0 ++ arp_tail) in
    let count : length target.0 + length source.0 ≡ 12 = omega (arith, between.0, between.1) in
    let len : length link ≡ 14 = omega (arith, count, length-append target.0 (source.0 ++ arp_tail), length-append source.0 arp_tail) in
    let joined : link ++ rest ≡ target.0 ++ (source.0 ++ (arp_tail ++ rest)) = append_assoc target.0 (source.0 ++ arp_tail) rest ∙
    ap (λ (l : List ℕ). target.0 ++ l) (append_assoc source.0 arp_tail rest) in
    arp_other link rest len (number_following target.0 source.0 arp_tail count) (ap (λ (l : List ℕ). be16 l 12) joined ∙
    number_following target.0 source.0 (arp_tail ++ rest) count)

-- QUESTIONS

abbrev v6_tail : List ℕ
v6_tail = to_be_bytes w16 (ether_number Ether.Ipv6)

-- a frame of Ethernet with an IPv6 packet that carries ICMPv6
pub control_other : (link packet : List ℕ) → length link ≡ 14 → be16 link 12 ≡ 0x86dd → be16 (link ++ packet) 12 ≡ 0x86dd → slice_index packet 6 ≡ 58 →
    ((padding : List ℕ) → slice_index (packet ++ padding) 6 ≡ 58) → IsOther Medium.Ethernet (link ++ packet)
control_other link packet len here there names still = record {
  uncut = first_fails (may_carry Medium.Ethernet 0x0800 (link ++ packet)) (is_ipv4 (packet_in Medium.Ethernet (link ++ packet)))
      (payload_v4 Medium.Ethernet (packet_in Medium.Ethernet (link ++ packet))) (not_number (be16 (link ++ packet) 12) 0x0800 0x86dd there refl);
  no_segment = both_fail (may_carry Medium.Ethernet 0x0800 (link ++ packet)) (is_ipv4 (packet_in Medium.Ethernet (link ++ packet)))
      (is_uncut (packet_in Medium.Ethernet (link ++ packet))) (slice_index (packet_in Medium.Ethernet (link ++ packet)) 9 == 6)
      (may_carry Medium.Ethernet 0x86dd (link ++ packet)) (is_ipv6 (packet_in Medium.Ethernet (link ++ packet)))
      (slice_index (packet_in Medium.Ethernet (link ++ packet)) 6 == 6)
      (payload_v4 Medium.Ethernet (packet_in Medium.Ethernet (link ++ packet))) (payload_v6 Medium.Ethernet (packet_in Medium.Ethernet (link ++ packet)))
      (not_number (be16 (link ++ packet) 12) 0x0800 0x86dd there refl)
      (last_fails (may_carry Medium.Ethernet 0x86dd (link ++ packet)) (is_ipv6 (packet_in Medium.Ethernet (link ++ packet)))
      (slice_index (packet_in Medium.Ethernet (link ++ packet)) 6 == 6) no_tcp);
  brings = λ hardware padding v on is. reads hardware padding v on is;
} where
  last_fails : (a b c : Bool) → c ≡ false → a && b && c ≡ false
  last_fails true true c none = none
  last_fails true false c none = refl
  last_fails false b c none = refl

  no_tcp : slice_index (packet_in Medium.Ethernet (link ++ packet)) 6 == 6 ≡ false
  no_tcp = not_number (slice_index (packet_in Medium.Ethernet (link ++ packet)) 6) 6 58
      (ap (λ (l : List ℕ). slice_index l 6) (drop_at link packet 14 len) ∙ names) refl

  not_ports : (p : IpProtocol) → p ≡ Protocol.Icmpv6 → NamesNoPorts p
  not_ports p is = (λ tcp. cc, λ udp. cc)

  on_ethernet : (own : EthernetAddress) (padding : List ℕ) (v : IncomingValue) → IsIncoming (Hardware.Ethernet own) sealed (link ++ (packet ++ padding)) v →
      BringsNone v
  on_ethernet own padding (Content.Arp l a) is = (tt, tt)
  on_ethernet own padding (Content.Ip4 None h p x) is = absurd is
  on_ethernet own padding (Content.Ip4 (Some l) h p x) is =
      absurd (let e = carries link (packet ++ padding) 0x86dd l Ether.Ipv4 len (ap (λ (n : ℕ). n == 0x86dd) here) is.0 in cc)
  on_ethernet own padding (Content.Ip6 None h x) is = absurd is
  on_ethernet own padding (Content.Ip6 (Some l) h x) is =
      let names : h.next_header ≡ Protocol.Icmpv6 = is.1.format.protocol ∙
      ap (λ (b : List ℕ). protocol_of (slice_index b 6)) (drop_at link (packet ++ padding) 14 len) ∙ ap protocol_of (still padding) in
      (not_ports _ (ap carried_in (bare_v6 h x (ap is_known_v6 names)).0 ∙ names), known_whole h x (ap is_known_v6 names))

  reads : (hardware : HardwareAddress) (padding : List ℕ) (v : IncomingValue) → medium_on hardware ≡ Medium.Ethernet →
      IsIncoming hardware sealed ((link ++ packet) ++ padding) v → BringsNone v
  reads (Hardware.Ethernet own) padding v on is =
      on_ethernet own padding v (subst (λ (b : List ℕ). IsIncoming (Hardware.Ethernet own) sealed b v) (append_assoc link packet padding) is)
  reads Hardware.Ip padding v on is = absurd cc

-- the frame of a question for a neighbour
pub question_is_other : (hardware : HardwareAddress) (q : NeighborQuery) → AsksFrom hardware q → HasSixBytes hardware → IsAsked q →
    IsOther (medium_on hardware) (solicitation_frame sealed q)
question_is_other hardware (Query.Arp own source target) from six asked =
    let own_six : length own.0 ≡ 6 = subst HasSixBytes from six in
    subst (λ (h : HardwareAddress). IsOther (medium_on h) (solicitation_frame sealed (Query.Arp own source target))) (sym from)
    (arp_is_other (arp_request own source target) (own_six, refl))
question_is_other hardware (Query.Neighbor own source target) from six asked =
    let own_six : length own.0 ≡ 6 = subst HasSixBytes from six in
    let to : List ℕ = (solicited_hardware_addr target).0 in
    let link : List ℕ = to ++ (own.0 ++ v6_tail) in
    let packet : List ℕ = Ipv6.written (solicitation_header source target) ++ bytes_of (solicitation own source target) in
    let to_six : length to ≡ 6 = omega (arith, asked, length-drop 13 target.0) in
    let count : length to + length own.0 ≡ 12 = omega (arith, to_six, own_six) in
    let len : length link ≡ 14 = omega (arith, count, length-append to (own.0 ++ v6_tail), length-append own.0 v6_tail) in
    let joined : link ++ packet ≡ to ++ (own.0 ++ (v6_tail ++ packet)) = append_assoc to (own.0 ++ v6_tail) packet ∙
    ap (λ (l : List ℕ). to ++ l) (append_assoc own.0 v6_tail packet) in
    subst (λ (h : HardwareAddress). IsOther (medium_on h) (link ++ packet)) (sym from)
    (control_other link packet len (number_following to own.0 v6_tail count) (ap (λ (l : List ℕ). be16 l 12) joined ∙
    number_following to own.0 (v6_tail ++ packet) count) refl (λ padding. refl))
