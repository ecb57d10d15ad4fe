-- The frames of packets and fragments that left are slices, or whole packets of IPv6, or fragments of them.
use Rattle.std.proofs.Common.{◌≡◌, inl, inr, ℕ, zero, suc, ◌+◌, ◌^◌, ◌<◌, ◌≤◌, Bool, true, false, List, [], ◌∷◌, ◌++◌, length, take, drop, refl, sym, ◌∙◌, ap}
use Rattle.std.proofs.Common.{◌-◌, ◌*◌, ◌/◌, ◌%◌, Some, None, subst, arith, append_assoc, length-append, length-take, length-drop, append-nil}
use Rattle.std.specs.Prelude.{nat_lt}
use Rattle.std.proofs.lemmas.List.{take_at}
use Rattle.std.proofs.lemmas.Bool.Decides.{nat_tests}
use Rattle.iface_ingress.specs.EthernetProtocol.TheVariants as Ether
use Rattle.iface_ingress.specs.HardwareAddress.{HardwareAddress}
use Rattle.interface.specs.IpRepr.{IpRepr}
use Rattle.interface.specs.IpRepr.TheVariants as Ip
use Rattle.interface.specs.Ipv4 as Ipv4
use Rattle.interface.specs.Ipv4Repr.{Ipv4Repr}
use Rattle.interface.specs.Ipv6 as Ipv6
use Rattle.interface.specs.Ipv6Repr.{Ipv6Repr}
use Rattle.sockets.specs.Packet.{PacketValue, PayloadValue, packet_of, payload_len}
use Rattle.iface_tables.specs.FragmentList as FragmentList
use Rattle.iface_tables.specs.FragmentList.{fragment_at}
use Rattle.iface_tables.proofs.ReassembledDatagram.{IsSliceOf-fragment_at}
use Rattle.iface_egress.specs.Departure.{link_header, link_len, packet_frame, packet_frame_len, fragment_frame, fragment_frame_len, fragment_header_len}
use Rattle.iface_egress.specs.Departure.{fragment_v6, fragment_header}
use Rattle.iface_egress.specs.Fragments.{LeftValue, fragment_room, next_fragment}
use Rattle.iface_egress.specs.declared.frame.CutHeader.{CutHeader}
use Rattle.iface_egress.specs.declared.frame.CutHeader.TheVariants as Cut
use Rattle.interface.specs.Delivered.{IsCutValue, IsWritable}
use Rattle.interface.proofs.Arrives.{length-written}
use Rattle.lan.specs.Worlds.Link.Made.{sealed, bytes_of}
use Rattle.lan.specs.Worlds.Link.Frames.{Outgoing, medium_on, IsSentV4, IsCutV6, IsSlice, IsWhole6, IsFragment6}
use Rattle.lan.specs.Worlds.Link.Sides.{IsSameKind, IsHostFrame, IsCutFrom, IsLeft}
use Rattle.lan.proofs.Worlds.Link.Following.{with_len}
use Rattle.lan.proofs.Worlds.Link.Links.{link4, link6}

-- LENGTHS

pub length_v4 : (v : Ipv4Repr) (offset : ℕ) (more : Bool) → Ipv4.IsValue v → length (Ipv4.written_fragment true v offset more) ≡ 20
length_v4 v offset more value =
    omega (arith, value.source.0, value.destination.0, length-append v.src_addr.0 (v.dst_addr.0 ++ []), length-append v.dst_addr.0 [])

pub length_v6 : (v : Ipv6Repr) → Ipv6.IsValue v → length (Ipv6.written v) ≡ 40
length_v6 v value = omega (arith, value.source.0, value.destination.0, length-append v.src_addr.0 v.dst_addr.0)

-- the frame's length leaves the link header's
front : (link w bytes : List ℕ) (l n m : ℕ) → length (link ++ (w ++ bytes)) ≡ l + (n + m) → length w ≡ n → length bytes ≡ m → length link ≡ l
front link w bytes l n m all header rest = omega (arith, all, header, rest, length-append link (w ++ bytes), length-append w bytes)

-- PACKETS

-- a packet that goes whole, and one that is cut
abbrev pub as_whole : PacketValue → Outgoing
as_whole p = record { packet = p; cut_as = None }

abbrev pub as_cut : PacketValue → ℕ → Outgoing
as_cut p number = record { packet = p; cut_as = Some number }

sent_len : (p : PacketValue) → IsWritable p → length (bytes_of p) ≡ payload_len p.payload
sent_len p w = sym (length-written sealed p w) ∙ w.sendable.len

module _ (own to : HardwareAddress) (same : IsSameKind own to) (out : List Outgoing) where
  -- the slice that begins the packet
  pub whole4 : (v : Ipv4Repr) (x : PayloadValue) → IsWritable (packet_of (Ip.Ipv4 v) x) →
      length (packet_frame sealed own to (packet_of (Ip.Ipv4 v) x)) ≡ packet_frame_len own to (packet_of (Ip.Ipv4 v) x)
      → (f : IsSlice (medium_on own) (as_whole (packet_of (Ip.Ipv4 v) x) ∷ out) (packet_frame sealed own to (packet_of (Ip.Ipv4 v) x))) × (f.slice.at ≡ 0)
  whole4 v x w len =
      let p : PacketValue = packet_of (Ip.Ipv4 v) x in
      let bytes : List ℕ = bytes_of p in
      let count : v.payload_len ≡ length bytes = length-written sealed p w in
      let fits : 20 + v.payload_len < 2 ^ 16 = w.sendable.header in
      let all : take (length bytes) (drop 0 bytes) ≡ bytes = ap (take (length bytes)) (sym (append-nil bytes)) ∙ take_at bytes [] (length bytes) refl in
      let link : List ℕ = link_header own to Ether.Ipv4 in (
        record {
          link = link;
          header = v;
          bytes = bytes;
          slice = record { at = 0; count = length bytes; more = false };
          sent = record { packet = p; among = inl refl; header = refl; bytes_are = refl; value = w.header; short = omega (arith, count, fits) };
          is_link = link4 own to same
              (front link (Ipv4.written true v) bytes (link_len own to) 20 (payload_len x) len (length_v4 v 0 false w.header) (sent_len p w));
          within = record { within = omega arith; last = λ none. omega arith };
          unit = refl;
          frame_is = ap (λ (n : ℕ). link ++ (Ipv4.written_fragment true (with_len v n) 0 false ++ bytes)) count ∙
              ap (λ (b : List ℕ). link ++ (Ipv4.written_fragment true (with_len v (length bytes)) 0 false ++ b)) (sym all);
        },
        refl,
      )

  whole6 : (v : Ipv6Repr) (x : PayloadValue) → IsWritable (packet_of (Ip.Ipv6 v) x) →
      length (packet_frame sealed own to (packet_of (Ip.Ipv6 v) x)) ≡ packet_frame_len own to (packet_of (Ip.Ipv6 v) x)
      → IsWhole6 (medium_on own) (as_whole (packet_of (Ip.Ipv6 v) x) ∷ out) (packet_frame sealed own to (packet_of (Ip.Ipv6 v) x))
  whole6 v x w len =
      let p : PacketValue = packet_of (Ip.Ipv6 v) x in
      let link : List ℕ = link_header own to Ether.Ipv6 in
      record {
        link = link;
        header = v;
        bytes = bytes_of p;
        sent = record {
          packet = p;
          among = inl refl;
          header = refl;
          bytes_are = refl;
          value = w.header;
          len = length-written sealed p w;
          fits =
              w.sendable.header;
        };
        is_link = link6 own to same (front link (Ipv6.written v) (bytes_of p) (link_len own to) 40 (payload_len x) len (length_v6 v w.header) (sent_len p w));
        frame_is = refl;
      }

  whole_by : (h : IpRepr) (x : PayloadValue) → IsWritable (packet_of h x) →
      length (packet_frame sealed own to (packet_of h x)) ≡ packet_frame_len own to (packet_of h x)
      → IsHostFrame (medium_on own) (as_whole (packet_of h x) ∷ out) (packet_frame sealed own to (packet_of h x))
  whole_by (Ip.Ipv4 v) x w len = inl (whole4 v x w len).0
  whole_by (Ip.Ipv6 v) x w len = inr (inl (whole6 v x w len))

  -- the frame of a packet that goes whole
  pub whole_frame : (p : PacketValue) → IsWritable p → length (packet_frame sealed own to p) ≡ packet_frame_len own to p →
      IsHostFrame (medium_on own) (as_whole p ∷ out) (packet_frame sealed own to p)
  whole_frame p w len = whole_by p.header p.payload w len

-- PIECES

take_count : (n : ℕ) (xs : List ℕ) → take (length (take n xs)) xs ≡ take n xs
take_count zero xs = refl
take_count (suc n) [] = refl
take_count (suc n) (x ∷ xs) = ap (λ (l : List ℕ). x ∷ l) (take_count n xs)

ended : (a b : ℕ) → nat_lt a b ≡ false → b ≤ a
ended a b none = grind (arith, nat_tests)

following_end : (a b : ℕ) → nat_lt a b ≡ true → a < b
following_end a b more = grind (arith, nat_tests)

-- the next fragment of what is left, from where that begins
module _ (own : HardwareAddress) (out : List Outgoing) (mtu : ℕ) where
  -- IPV4

  pub fragment4 : (v : Ipv4Repr) (l : LeftValue) → l.header ≡ Cut.Ipv4 v → IsLeft own out l →
      length (fragment_frame sealed own l.to (Cut.Ipv4 v) (fragment_at (fragment_room (Cut.Ipv4 v) mtu) l.payload l.at)) ≡
      fragment_frame_len own l.to (Cut.Ipv4 v) (fragment_at (fragment_room (Cut.Ipv4 v) mtu) l.payload l.at)
      → (f : IsSlice (medium_on own) out (fragment_frame sealed own l.to (Cut.Ipv4 v) (fragment_at (fragment_room (Cut.Ipv4 v) mtu) l.payload l.at)))
      × (f.slice.at ≡ l.at)
  fragment4 v l header left len =
      let room : ℕ = fragment_room (Cut.Ipv4 v) mtu in
      let part : List ℕ = take room (drop l.at l.payload) in
      let link : List ℕ = link_header own l.to Ether.Ipv4 in
      let w : List ℕ = Ipv4.written_fragment true (with_len v (length part)) l.at (nat_lt (l.at + room) (length l.payload)) in
      let half = left.half in
      let value : Ipv4.IsValue v = subst IsCutValue header half.header_is in
      let sent : IsSentV4 out v l.payload = subst (λ (h : CutHeader). IsCutFrom out h l.payload) header left.sent in
      let most : l.at ≤ length l.payload = half.within in
      let long : length w ≡ 20 =
      length_v4 (with_len v (length part)) l.at (nat_lt (l.at + room) (length l.payload))
      (record {
        source = value.source;
        destination = value.destination;
        identification = value.identification;
        protocol = value.protocol;
        hop_limit = value.hop_limit;
      }) in (
        record {
          link = link;
          header = v;
          bytes = l.payload;
          slice = record { at = l.at; count = length part; more = nat_lt (l.at + room) (length l.payload) };
          sent = sent;
          is_link = link4 own l.to left.to (front link w part (link_len own l.to) 20 (length part) len long refl);
          within = record {
            within = omega (arith, most, length-take room (drop l.at l.payload), length-drop l.at l.payload);
            last = λ none. let most_of : length l.payload ≤ l.at + room = ended (l.at + room) (length l.payload) none in
                omega (arith, most, most_of, length-take room (drop l.at l.payload), length-drop l.at l.payload);
          };
          unit = half.unit;
          frame_is = ap (λ (b : List ℕ). link ++ (w ++ b)) (sym (take_count room (drop l.at l.payload)));
        },
        refl,
      )

  -- IPV6

  whole_units : (n : ℕ) → n / 8 * 8 % 8 ≡ 0
  whole_units n = omega arith

  pub fragment6 : (v : Ipv6Repr) (number : ℕ) (l : LeftValue) → l.header ≡ Cut.Ipv6 v number → IsLeft own out l →
      length (fragment_frame sealed own l.to (Cut.Ipv6 v number) (fragment_at (fragment_room (Cut.Ipv6 v number) mtu) l.payload l.at)) ≡
      fragment_frame_len own l.to (Cut.Ipv6 v number) (fragment_at (fragment_room (Cut.Ipv6 v number) mtu) l.payload l.at)
      → (f : IsFragment6 (medium_on own) out (fragment_frame sealed own l.to (Cut.Ipv6 v number) (fragment_at (fragment_room (Cut.Ipv6 v number) mtu) l.payload l.at)))
      × (f.fragment.offset ≡ l.at)
  fragment6 v number l header left len =
      let room : ℕ = fragment_room (Cut.Ipv6 v number) mtu in
      let p : FragmentList.FragmentPart = fragment_at room l.payload l.at in
      let link : List ℕ = link_header own l.to Ether.Ipv6 in
      let w : List ℕ = Ipv6.written (fragment_v6 v p) in
      let fragment_bytes : List ℕ = fragment_header v.next_header number p in
      let half = left.half in
      let value : Ipv6.IsValue v × (number < 2 ^ 32) = subst IsCutValue header half.header_is in
      let cut : IsCutV6 out v number l.payload = subst (λ (h : CutHeader). IsCutFrom out h l.payload) header left.sent in
      let most : l.at ≤ length l.payload = half.within in
      let of_fragment : Ipv6.IsValue (fragment_v6 v p) =
      record { source = value.0.source; destination = value.0.destination; protocol = omega arith; hop_limit = value.0.hop_limit } in
      let long : length (w ++ fragment_bytes) ≡ 48 = omega (arith, length-append w fragment_bytes, length_v6 (fragment_v6 v p) of_fragment) in
      let units_of : room % 8 ≡ 0 = whole_units (mtu - fragment_header_len (Cut.Ipv6 v number)) in (
        record {
          link = link;
          header = v;
          number = number;
          bytes = l.payload;
          fragment = p;
          cut = cut;
          is_link = link6 own l.to left.to (front link (w ++ fragment_bytes) p.bytes (link_len own l.to) 48 (length p.bytes) len long refl);
          within = IsSliceOf-fragment_at room l.payload l.at most;
          room = omega (arith, most, length-take room (drop l.at l.payload), length-drop l.at l.payload);
          unit = half.unit;
          units = λ more.
              let less : l.at + room < length l.payload = following_end (l.at + room) (length l.payload) more in
              let all : length p.bytes ≡ room = omega (arith, most, less, length-take room (drop l.at l.payload), length-drop l.at l.payload) in
              ap (λ (n : ℕ). n % 8) all ∙ units_of;
          frame_is = ap (λ (b : List ℕ). link ++ b) (append_assoc w fragment_bytes p.bytes);
        },
        refl,
      )

  -- EITHER

  abbrev next_of : LeftValue → CutHeader → List ℕ
  next_of l header = fragment_frame sealed own l.to header (fragment_at (fragment_room header mtu) l.payload l.at)

  pub fragment_by : (l : LeftValue) → IsLeft own out l → (header : CutHeader) → l.header ≡ header
      → length (next_of l header) ≡ fragment_frame_len own l.to header (fragment_at (fragment_room header mtu) l.payload l.at)
      → IsHostFrame (medium_on own) out (next_of l header)
  fragment_by l left (Cut.Ipv4 v) is len = inl (fragment4 v l is left len).0
  fragment_by l left (Cut.Ipv6 v number) is len = inr (inr (inl (fragment6 v number l is left len).0))

pub fragment_frame_is : (own : HardwareAddress) (out : List Outgoing) (mtu : ℕ) (l : LeftValue) → IsLeft own out l →
    length (fragment_frame sealed own l.to l.header (next_fragment mtu l)) ≡ fragment_frame_len own l.to l.header (next_fragment mtu l)
    → IsHostFrame (medium_on own) out (fragment_frame sealed own l.to l.header (next_fragment mtu l))
fragment_frame_is own out mtu l left len = fragment_by own out mtu l left l.header refl len
