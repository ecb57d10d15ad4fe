-- What the frames of a host carry.
use Rattle.std.proofs.Common.{◌≡◌, inl, inr, ℕ, ◌+◌, Bool, true, false, List, ◌++◌, drop, Option, Some, None, refl, sym, ◌∙◌, ap, subst, append_assoc}
use Rattle.iface_ingress.specs.HardwareAddress.{HardwareAddress}
use Rattle.interface.specs.Ip as Ips
use Rattle.interface.specs.IpRepr.{IpRepr}
use Rattle.interface.specs.IpRepr.TheVariants as Ip
use Rattle.interface.specs.Ipv4 as Ipv4
use Rattle.interface.specs.Ipv6 as Ipv6
use Rattle.iface_tables.specs.FragmentList as FragmentList
use Rattle.iface_tables.proofs.ReassembledDatagram.{Begins-take}
use Rattle.interface.specs.Ipv6Repr.{Ipv6Repr}
use Rattle.iface_ingress.specs.EthernetRepr.{EthernetRepr}
use Rattle.iface_ingress.specs.Headers.{is_atomic}
use Rattle.iface_ingress.specs.Incoming.{IncomingValue, Ip6, IsIncoming}
use Rattle.iface_ingress.specs.Reassembled.{FragmentValue, part_v4, part_in, following_headers}
use Rattle.sim_link.specs.Medium.{Medium}
use Rattle.sim_link.specs.Slices.{Slice, IsSliceOf, bytes_of_slice}
use Rattle.lan.specs.Worlds.Link.Made.{Makes, sealed, bytes_of, HandsMade}
use Rattle.lan.specs.Worlds.Link.Frames.{Outgoing, medium_on, IsSlice, IsWhole6, IsFragment6, IsFragmentOf, IsFrom, BringsFrom, AreOut}
use Rattle.lan.proofs.Worlds.Link.Following.{with_len, packet_of_slice, fragment_of_slice, count_of_slice, read_slice, read_v6, read_following4, read_following6}
use Rattle.lan.proofs.Worlds.Link.Hands.{hands_sent, whole_sent, no_part}
use Rattle.lan.proofs.Worlds.Link.Fragments6.{header6, rest6, value6, len6, fits6, part6, part6_is, fragment6_of, no_fragment6, hands6}

-- SLICES

slice_of : (bytes : List ℕ) (s : Slice) → IsSliceOf bytes s → FragmentList.IsSliceOf bytes (record { offset = s.at; more = s.more; bytes = bytes_of_slice bytes s })
slice_of bytes s within = record {
  slice = Begins-take s.count (drop s.at bytes);
  last = λ none. ap (λ (n : ℕ). s.at + n) (count_of_slice bytes s within) ∙ within.last none;
}

-- the slice of a frame as slots get it
pub slice_part_of : (medium : Medium) (out : List Outgoing) (frame : List ℕ) (f : IsSlice medium out frame) →
    IsFragmentOf out (part_v4 (Ipv4.normal (with_len f.header f.slice.count)) (fragment_of_slice f.slice) (bytes_of_slice f.bytes f.slice))
slice_part_of medium out frame f = record {
  bytes = f.bytes;
  sent = record { header = f.header; sent = f.sent; key_is = refl };
  slice = slice_of f.bytes f.slice f.within;
}

-- which fragment a frame of IPv6 brings, if it is one
module _ (medium : Medium) (out : List Outgoing) (frame : List ℕ) (f : IsFragment6 medium out frame) where
  abbrev packet_in6 : IncomingValue
  packet_in6 = Ip6 None (Ipv6.normal (header6 medium out frame f)) (rest6 medium out frame f)

  parts_by : (p : FragmentValue) → part_in packet_in6 ≡ Some p → (whole : Bool) → is_atomic (rest6 medium out frame f) ≡ whole → IsFragmentOf out p
  parts_by p is true whole =
      absurd (no_part (Ipv6.normal (header6 medium out frame f)) (rest6 medium out frame f)
      (following_headers (Ipv6.normal (header6 medium out frame f)) (rest6 medium out frame f)) p (no_fragment6 medium out frame f whole) is)
  parts_by p is false cut =
      let e : Some (part6 medium out frame f) ≡ Some p = sym (part6_is medium out frame f cut) ∙ is in
      let same : part6 medium out frame f ≡ p = cc in
      subst (IsFragmentOf out) same (fragment6_of medium out frame f)

  pub fragment6_parts : (p : FragmentValue) → part_in packet_in6 ≡ Some p → IsFragmentOf out p
  fragment6_parts p is = parts_by p is (is_atomic (rest6 medium out frame f)) refl

module _ (made : Makes) (hardware : HardwareAddress) (out : List Outgoing) where
  -- the frame of a slice, with padding, carries that slice
  pub slice_brings : (frame padding : List ℕ) → IsSlice (medium_on hardware) out frame → BringsFrom made out hardware (frame ++ padding)
  slice_brings frame padding f v is =
      let w : List ℕ = Ipv4.written_fragment true (with_len f.header f.slice.count) f.slice.at f.slice.more ++ bytes_of_slice f.bytes f.slice in
      let joined : frame ++ padding ≡ f.link ++ packet_of_slice f.header f.bytes f.slice padding = ap (λ (b : List ℕ). b ++ padding) f.frame_is ∙
      append_assoc f.link w padding in
      let found = read_following4 (packet_of_slice f.header f.bytes f.slice padding) (Ipv4.normal (with_len f.header f.slice.count)) (fragment_of_slice f.slice)
      (bytes_of_slice f.bytes f.slice)
      (read_slice f.header f.bytes padding f.slice f.sent.value f.sent.short f.within f.unit) hardware f.link v f.is_link
      (subst (λ (b : List ℕ). IsIncoming hardware sealed b v) joined is) in
      subst (IsFrom made out) (sym found.1)
      (inr (slice_part_of (medium_on hardware) out frame f))

  -- the frame of an IPv6 packet, with padding, carries that packet
  pub whole6_brings : (frame padding : List ℕ) → AreOut made out → IsWhole6 (medium_on hardware) out frame → BringsFrom made out hardware (frame ++ padding)
  whole6_brings frame padding all f v is =
      let w : List ℕ = Ipv6.written f.header ++ f.bytes in
      let joined : frame ++ padding ≡ f.link ++ (w ++ padding) = ap (λ (b : List ℕ). b ++ padding) f.frame_is ∙ append_assoc f.link w padding in
      let found = read_following6 (w ++ padding) (Ipv6.normal f.header) f.bytes (read_v6 f.header f.bytes padding f.sent.value f.sent.fits f.sent.len)
      hardware f.link v f.is_link (subst (λ (b : List ℕ). IsIncoming hardware sealed b v) joined is) in
      let whole = whole_sent made out f.header f.bytes all f.sent in
      let of_packet : HandsMade made (Ips.normal f.sent.packet.header) (bytes_of f.sent.packet) =
      hands_sent made f.sent.packet (all f.sent.packet f.sent.among) in
      let of_header : HandsMade made (Ip.Ipv6 (Ipv6.normal f.header)) (bytes_of f.sent.packet) =
      subst (λ (ip : IpRepr). HandsMade made (Ips.normal ip) (bytes_of f.sent.packet)) f.sent.header of_packet in
      subst (IsFrom made out) (sym found.1)
      (inl (whole, subst (λ (b : List ℕ). HandsMade made (Ip.Ipv6 (Ipv6.normal f.header)) b) (sym f.sent.bytes_are) of_header))

  -- the frame of a fragment of one, with padding, carries that fragment, or the whole
  module _ (frame padding : List ℕ) (all : AreOut made out) (f : IsFragment6 (medium_on hardware) out frame) where
    abbrev header : Ipv6Repr
    header = header6 (medium_on hardware) out frame f

    abbrev rest : List ℕ
    rest = rest6 (medium_on hardware) out frame f

    fragment6_by : (whole : Bool) → is_atomic rest ≡ whole → IsFrom made out (Ip6 None (Ipv6.normal header) rest)
    fragment6_by true is = inl (no_fragment6 (medium_on hardware) out frame f is, hands6 (medium_on hardware) out frame f made all is)
    fragment6_by false is = inr (record {
      part = part6 (medium_on hardware) out frame f;
      part_is = part6_is (medium_on hardware) out frame f is;
      of = fragment6_of (medium_on hardware) out frame f;
    })

    at_link : (l : Option EthernetRepr) → IsFrom made out (Ip6 None (Ipv6.normal header) rest) → IsFrom made out (Ip6 l (Ipv6.normal header) rest)
    at_link l (inl whole) = inl whole
    at_link l (inr fragment) = inr (record { part = fragment.part; part_is = fragment.part_is; of = fragment.of })

    pub fragment6_brings : BringsFrom made out hardware (frame ++ padding)
    fragment6_brings v is =
        let w : List ℕ = Ipv6.written header ++ rest in
        let joined : frame ++ padding ≡ f.link ++ (w ++ padding) = ap (λ (b : List ℕ). b ++ padding) f.frame_is ∙ append_assoc f.link w padding in
        let found = read_following6 (w ++ padding) (Ipv6.normal header) rest
        (read_v6 header rest padding (value6 (medium_on hardware) out frame f) (fits6 (medium_on hardware) out frame f) (len6 (medium_on hardware) out frame f))
        hardware f.link v f.is_link (subst (λ (b : List ℕ). IsIncoming hardware sealed b v) joined is) in
        subst (IsFrom made out) (sym found.1) (at_link found.0 (fragment6_by (is_atomic rest) refl))
