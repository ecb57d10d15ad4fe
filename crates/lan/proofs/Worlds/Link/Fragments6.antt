-- A frame of a fragment of an IPv6 packet that its host cut: the packet that it carries, and the fragment that a slot gets of it.
use Rattle.std.proofs.Common.{◌≡◌, ℕ, ◌+◌, ◌^◌, ◌<◌, Bool, true, false, List, length, Some, None, refl, sym, ◌∙◌, ap, subst, arith}
use Rattle.sim_link.specs.Medium.{Medium}
use Rattle.interface.specs.Ipv6 as Ipv6
use Rattle.interface.specs.Ipv6Repr.{Ipv6Repr}
use Rattle.interface.specs.IpRepr.TheVariants as Ip
use Rattle.iface_egress.specs.Departure.{fragment_v6}
use Rattle.iface_ingress.specs.Headers.{is_atomic}
use Rattle.iface_ingress.specs.Incoming.{Ip6}
use Rattle.iface_ingress.specs.Reassembled.{FragmentValue, part_v6, part_following, part_in, is_first, is_fragment_v6}
use Rattle.iface_tables.specs.declared.key.Ipv6FragKey.{Ipv6FragKey}
use Rattle.lan.specs.Worlds.Link.Made.{Makes, HandsMade}
use Rattle.lan.specs.Worlds.Link.Frames.{Outgoing, IsFragment6, IsDatagramV6, IsFragmentOf, AreOut, following_fragment}
use Rattle.lan.proofs.Worlds.Link.Fragments.{fragment_with, rest_of, all_of_it, atomic_is, number_is, long_is, stops_at_fragment, fragment_so, fragment_slice, whole_rest}
use Rattle.lan.proofs.Worlds.Link.Hands.{hands_v6}

module _ (medium : Medium) (out : List Outgoing) (frame : List ℕ) (f : IsFragment6 medium out frame) where
  abbrev pub header6 : Ipv6Repr
  header6 = fragment_v6 f.header f.fragment

  abbrev pub rest6 : List ℕ
  rest6 = rest_of f.header.next_header f.number f.fragment

  pub value6 : Ipv6.IsValue header6
  value6 = let v = f.cut.sent.value in
      record { source = v.source; destination = v.destination; protocol = omega arith; hop_limit = v.hop_limit }

  pub len6 : header6.payload_len ≡ length rest6
  len6 = sym (long_is f.header.next_header f.number f.fragment.offset f.fragment.more f.fragment.bytes)

  pub fits6 : Ipv6.Fits header6
  fits6 = let a = f.room in let b = f.cut.short in omega (arith, a, b)

  small : f.fragment.offset + length f.fragment.bytes < 65536
  small = let a = f.room in let b = f.cut.short in omega (arith, a, b)

  below : f.fragment.offset < 2 ^ 16
  below = let a = small in omega (arith, a)

  -- A PIECE

  abbrev pub part6 : FragmentValue
  part6 = part_v6 (Ipv6.normal header6) rest6

  pub part6_is : is_atomic rest6 ≡ false → part_in (Ip6 None (Ipv6.normal header6) rest6) ≡ Some part6
  part6_is cut =
      ap (part_following (Ipv6.normal header6) rest6)
      (stops_at_fragment f.header.next_header f.number f.fragment.offset f.fragment.bytes small f.unit f.fragment.more f.units cut)

  abbrev key_at : ℕ → Ipv6FragKey
  key_at n = record { id = n; src_addr = f.header.src_addr; dst_addr = f.header.dst_addr }

  datagram6 : IsDatagramV6 out (key_at f.number) (following_fragment f.header.next_header f.number f.bytes)
  datagram6 = record { header = f.header; payload = f.bytes; cut = f.cut; source = refl; destination = refl; bytes_are = refl }

  pub fragment6_of : IsFragmentOf out part6
  fragment6_of = record {
    bytes = following_fragment f.header.next_header f.number f.bytes;
    sent = subst (λ (n : ℕ). IsDatagramV6 out (key_at n) (following_fragment f.header.next_header f.number f.bytes))
        (sym (number_is f.header.next_header f.number f.fragment.offset f.fragment.more f.fragment.bytes f.cut.small)) datagram6;
    slice = fragment_slice f.header.next_header f.number f.fragment.offset f.fragment.bytes f.bytes below f.unit f.fragment.more (is_first rest6) f.within refl;
  }

  -- THE WHOLE

  whole_is : is_atomic rest6 ≡ true → rest6 ≡ following_fragment f.header.next_header f.number f.bytes
  whole_is whole =
      let is = atomic_is f.header.next_header f.number f.fragment.offset f.fragment.bytes below f.unit f.fragment.more whole in
      let all : f.fragment.bytes ≡ f.bytes = all_of_it f.bytes f.fragment.bytes f.fragment.offset f.fragment.more f.within is.0 is.1 in
      ap (λ (n : ℕ). rest_of f.header.next_header f.number (fragment_with n f.fragment.more f.fragment.bytes)) is.0
      ∙ ap (λ (b : Bool). rest_of f.header.next_header f.number (fragment_with 0 b f.fragment.bytes)) is.1
      ∙ ap (λ (x : List ℕ). rest_of f.header.next_header f.number (fragment_with 0 false x)) all
      ∙ whole_rest f.header.next_header f.number f.bytes

  pub no_fragment6 : is_atomic rest6 ≡ true → is_fragment_v6 (Ipv6.normal header6) rest6 ≡ false
  no_fragment6 whole =
      ap (λ (b : List ℕ). is_fragment_v6 (Ipv6.normal header6) b) (whole_is whole)
      ∙ (fragment_so f.header.next_header f.number f.bytes f.cut.bare).whole

  pub hands6 : (made : Makes) → AreOut made out → is_atomic rest6 ≡ true → HandsMade made (Ip.Ipv6 (Ipv6.normal header6)) rest6
  hands6 made all whole =
      subst (HandsMade made (Ip.Ipv6 (Ipv6.normal header6))) (sym (whole_is whole))
      (hands_v6 made out (key_at f.number) (Ipv6.normal header6) (following_fragment f.header.next_header f.number f.bytes) all datagram6 refl refl refl)
