-- What is read after a link header.
use Rattle.std.proofs.Common.{◌≡◌, ℕ, ◌+◌, ◌%◌, ◌^◌, ◌<◌, ◌==◌, true, List, [], ◌∷◌, ◌++◌, length, drop, slice_index, Option, Some, None, refl, sym, ◌∙◌, ap}
use Rattle.std.proofs.Common.{subst, arith, length-append, length-drop}
use Rattle.std.specs.Prelude.{replicate, slice_range}
use Rattle.std.proofs.lemmas.List.{drop_at, get_or_append_left, length-take-le}
use Rattle.std.proofs.lemmas.Bool.Decides.{nat_tests}
use Rattle.sim_link.specs.Medium.TheVariants as Medium
use Rattle.iface_ingress.specs.EthernetAddress.{EthernetAddress}
use Rattle.iface_ingress.specs.EthernetProtocol.{EthernetProtocol}
use Rattle.iface_ingress.specs.EthernetProtocol.TheVariants as Ether
use Rattle.iface_ingress.specs.Fields.{be16}
use Rattle.iface_ingress.specs.HardwareAddress.{HardwareAddress}
use Rattle.iface_ingress.specs.HardwareAddress.TheVariants as Hardware
use Rattle.interface.specs.Ipv4 as Ipv4
use Rattle.interface.specs.Ipv4Fragment.{Ipv4Fragment}
use Rattle.interface.specs.Ipv4Repr.{Ipv4Repr}
use Rattle.interface.specs.Ipv6 as Ipv6
use Rattle.interface.specs.Ipv6Repr.{Ipv6Repr}
use Rattle.wire_address.specs.Protocol.{ether_of}
use Rattle.interface.specs.IpRepr.TheVariants as Ip
use Rattle.iface_ingress.specs.EthernetRepr.{EthernetRepr}
use Rattle.iface_ingress.specs.Incoming.{IncomingValue, Arp, Ip4, Ip6, IsFramed, IsPacketV4, IsPacketV6, IsIncoming}
use Rattle.iface_ingress.specs.Sent.{AreSealed}
use Rattle.iface_ingress.proofs.FramesArrive.{fragment-arrives, packet-arrives}
use Rattle.iface_ingress.proofs.OneContent.{one-incoming}
use Rattle.sim_link.specs.Slices.{Slice, IsSliceOf, IsLinkHeader, bytes_of_slice}
use Rattle.lan.specs.Worlds.Link.Made.{sealed}
use Rattle.lan.specs.Worlds.Link.Frames.{medium_on, IsLinkHeader6}

pub sealed_both : AreSealed sealed sealed
sealed_both = record { ipv4 = λ t. t; icmpv4 = λ t. t; icmpv6 = λ t. t; udp = λ t. t; tcp = λ t. t }

-- no bytes
pub none_left : (l : List ℕ) → length l ≡ 0 → l ≡ []
none_left [] none = refl
none_left (x ∷ l) none = absurd (omega arith)

-- WHAT A FRAME SAYS THAT IT CARRIES

-- the EtherType stands in the link header
pub ether_front : (link rest : List ℕ) → length link ≡ 14 → be16 (link ++ rest) 12 ≡ be16 link 12
ether_front link rest len =
    let high : slice_index (link ++ rest) 12 ≡ slice_index link 12 = get_or_append_left link rest 0 12 (omega (arith, len)) in
    let low : slice_index (link ++ rest) 13 ≡ slice_index link 13 = get_or_append_left link rest 0 13 (omega (arith, len)) in
    rw (high, low) refl

pub said : (n m : ℕ) → n == m ≡ true → n ≡ m
said n m same = grind (arith, nat_tests, same)

-- a frame whose EtherType is this carries that
pub carries : (link rest : List ℕ) (number : ℕ) (l : EthernetRepr) (p : EthernetProtocol) → length link ≡ 14 → be16 link 12 == number ≡ true →
    IsFramed (link ++ rest) l p → p ≡ ether_of number
carries link rest number l p len is framed =
    sym framed.carried_is ∙ framed.format.carried ∙ ap ether_of (ether_front link rest len ∙ said (be16 link 12) number is)

-- a frame of Ethernet that carries IPv6 has a header that says so
pub framed6 : (link packet : List ℕ) → IsLinkHeader6 Medium.Ethernet link → (l : EthernetRepr) × IsFramed (link ++ packet) l Ether.Ipv6
framed6 link packet is_link = (
  record {
    src_addr = record { 0 = slice_range (link ++ packet) 6 12 };
    dst_addr = record { 0 = slice_range (link ++ packet) 0 6 };
    ethertype = ether_of (be16 (link ++ packet) 12);
  },
  record {
    format = record {
      whole = record { header = omega (arith, is_link.len, length-append link packet) };
      destination = refl;
      source = refl;
      carried = refl;
    };
    carried_is = ap ether_of (ether_front link packet is_link.len ∙ said (be16 link 12) 0x86dd is_link.carries);
  },
)

-- some host
abbrev pub any_node : EthernetAddress
any_node = record { 0 = replicate 6 0 }

-- BEHIND A LINK HEADER

same_v4 : (l : Option EthernetRepr) (h h' : Ipv4Repr) (p p' : Ipv4Fragment) (x x' : List ℕ) → Ip4 None h p x ≡ Ip4 None h' p' x' → Ip4 l h p x ≡ Ip4 l h' p' x'
same_v4 l h h' p p' x x' same =
    let a : h ≡ h' = cc in
    let b : p ≡ p' = cc in
    let c : x ≡ x' = cc in
    rw (a, b, c) refl

same_v6 : (l : Option EthernetRepr) (h h' : Ipv6Repr) (x x' : List ℕ) → Ip6 None h x ≡ Ip6 None h' x' → Ip6 l h x ≡ Ip6 l h' x'
same_v6 l h h' x x' same =
    let a : h ≡ h' = cc in
    let c : x ≡ x' = cc in
    rw (a, c) refl

module _ (packet : List ℕ) (h : Ipv4Repr) (p : Ipv4Fragment) (x : List ℕ) (known : IsPacketV4 sealed packet h p x) where
  abbrev Is4 : IncomingValue → Type 0
  Is4 v = (l : Option EthernetRepr) × (v ≡ Ip4 l h p x)

  on_ethernet4 : (own : EthernetAddress) (link : List ℕ) (v : IncomingValue) → IsLinkHeader Medium.Ethernet link →
      IsIncoming (Hardware.Ethernet own) sealed (link ++ packet) v → Is4 v
  on_ethernet4 own link (Arp l a) is_link is = absurd (let e = carries link packet 0x0800 l Ether.Arp is_link.len is_link.carries is.0 in cc)
  on_ethernet4 own link (Ip4 None h' p' x') is_link is = absurd is
  on_ethernet4 own link (Ip4 (Some l) h' p' x') is_link is =
      let bare : IsPacketV4 sealed packet h' p' x' = subst (λ (b : List ℕ). IsPacketV4 sealed b h' p' x') (drop_at link packet 14 is_link.len) is.1 in
      (Some l, same_v4 (Some l) h' h p' p x' x (one-incoming Hardware.Ip sealed packet (Ip4 None h' p' x') (Ip4 None h p x) bare known))
  on_ethernet4 own link (Ip6 None h' x') is_link is = absurd is
  on_ethernet4 own link (Ip6 (Some l) h' x') is_link is = absurd (let e = carries link packet 0x0800 l Ether.Ipv6 is_link.len is_link.carries is.0 in cc)

  pub read_following4 : (hardware : HardwareAddress) (link : List ℕ) (v : IncomingValue) → IsLinkHeader (medium_on hardware) link →
      IsIncoming hardware sealed (link ++ packet) v → Is4 v
  read_following4 (Hardware.Ethernet own) link v is_link is = on_ethernet4 own link v is_link is
  read_following4 Hardware.Ip link v is_link is =
      let bare : IsIncoming Hardware.Ip sealed packet v =
      subst (λ (l : List ℕ). IsIncoming Hardware.Ip sealed (l ++ packet) v) (none_left link is_link.len) is in
      (None, one-incoming Hardware.Ip sealed packet v (Ip4 None h p x) bare known)

module _ (packet : List ℕ) (h : Ipv6Repr) (x : List ℕ) (known : IsPacketV6 packet h x) where
  abbrev Is6 : IncomingValue → Type 0
  Is6 v = (l : Option EthernetRepr) × (v ≡ Ip6 l h x)

  on_ethernet6 : (own : EthernetAddress) (link : List ℕ) (v : IncomingValue) → IsLinkHeader6 Medium.Ethernet link →
      IsIncoming (Hardware.Ethernet own) sealed (link ++ packet) v → Is6 v
  on_ethernet6 own link (Arp l a) is_link is = absurd (let e = carries link packet 0x86dd l Ether.Arp is_link.len is_link.carries is.0 in cc)
  on_ethernet6 own link (Ip4 None h' p' x') is_link is = absurd is
  on_ethernet6 own link (Ip4 (Some l) h' p' x') is_link is = absurd (let e = carries link packet 0x86dd l Ether.Ipv4 is_link.len is_link.carries is.0 in cc)
  on_ethernet6 own link (Ip6 None h' x') is_link is = absurd is
  on_ethernet6 own link (Ip6 (Some l) h' x') is_link is =
      let bare : IsPacketV6 packet h' x' = subst (λ (b : List ℕ). IsPacketV6 b h' x') (drop_at link packet 14 is_link.len) is.1 in
      (Some l, same_v6 (Some l) h' h x' x (one-incoming Hardware.Ip sealed packet (Ip6 None h' x') (Ip6 None h x) bare known))

  pub read_following6 : (hardware : HardwareAddress) (link : List ℕ) (v : IncomingValue) → IsLinkHeader6 (medium_on hardware) link →
      IsIncoming hardware sealed (link ++ packet) v → Is6 v
  read_following6 (Hardware.Ethernet own) link v is_link is = on_ethernet6 own link v is_link is
  read_following6 Hardware.Ip link v is_link is =
      let bare : IsIncoming Hardware.Ip sealed packet v =
      subst (λ (l : List ℕ). IsIncoming Hardware.Ip sealed (l ++ packet) v) (none_left link is_link.len) is in
      (None, one-incoming Hardware.Ip sealed packet v (Ip6 None h x) bare known)

-- PACKETS THAT WERE SENT

abbrev pub with_len : Ipv4Repr → ℕ → Ipv4Repr
with_len v n = record v { payload_len = n }

pub value_with : (v : Ipv4Repr) (n : ℕ) → Ipv4.IsValue v → Ipv4.IsValue (with_len v n)
value_with v n value = record {
  source = value.source;
  destination = value.destination;
  identification = value.identification;
  protocol = value.protocol;
  hop_limit = value.hop_limit;
}

abbrev pub fragment_of_slice : Slice → Ipv4Fragment
fragment_of_slice s = record { offset = s.at; more = s.more }

-- the packet of a slice, and padding
abbrev pub packet_of_slice : Ipv4Repr → List ℕ → Slice → List ℕ → List ℕ
packet_of_slice v bytes s padding = (Ipv4.written_fragment true (with_len v s.count) s.at s.more ++ bytes_of_slice bytes s) ++ padding

pub count_of_slice : (bytes : List ℕ) (s : Slice) → IsSliceOf bytes s → length (bytes_of_slice bytes s) ≡ s.count
count_of_slice bytes s within = length-take-le s.count (drop s.at bytes) (omega (arith, within.within, length-drop s.at bytes))

pub read_slice : (v : Ipv4Repr) (bytes padding : List ℕ) (s : Slice) → Ipv4.IsValue v → 20 + length bytes < 2 ^ 16 → IsSliceOf bytes s → s.at % 8 ≡ 0
    → IsPacketV4 sealed (packet_of_slice v bytes s padding) (Ipv4.normal (with_len v s.count)) (fragment_of_slice s) (bytes_of_slice bytes s)
read_slice v bytes padding s value short within unit =
    fragment-arrives Hardware.Ip sealed sealed None (with_len v s.count) (fragment_of_slice s) (bytes_of_slice bytes s) padding tt
    (omega (arith, within.within, short)) (value_with v s.count value)
    (sym (count_of_slice bytes s within)) (omega (arith, within.within, short)) unit sealed_both

pub read_v6 : (v : Ipv6Repr) (bytes padding : List ℕ) → Ipv6.IsValue v → Ipv6.Fits v → v.payload_len ≡ length bytes →
    IsPacketV6 ((Ipv6.written v ++ bytes) ++ padding) (Ipv6.normal v) bytes
read_v6 v bytes padding value fits len = packet-arrives Hardware.Ip sealed sealed None (Ip.Ipv6 v) bytes padding tt fits value len sealed_both
