-- A frame that carries a slice of a payload, cut in two.
use Rattle.std.proofs.Common.{◌≡◌, ℕ, ◌+◌, ◌-◌, ◌/◌, ◌%◌, ◌^◌, ◌<◌, ◌≤◌, ◌&&◌, ◌==◌, nat_le, Bool, true, cond, Option, Some, None, List, [], ◌++◌, length, take}
use Rattle.std.proofs.Common.{drop, slice_index, length-append, length-drop, append_assoc, refl, sym, ◌∙◌, ap, arith}
use Rattle.std.proofs.lemmas.List.{take_at, drop_at, take-take, drop-take, drop-drop, length-take-le, get_or_append_left}
use Rattle.std.proofs.lemmas.Bool.Decides.{nat_tests}
use Rattle.base_device.specs.Capabilities.{frame_header}
use Rattle.base_device.specs.declared.capabilities.Medium.{Medium}
use Rattle.base_device.specs.declared.capabilities.Medium.TheVariants.{Ethernet, Ip}
use Rattle.wire_address.specs.Fields.{be16}
use Rattle.wire_address.specs.Protocol.{protocol_number}
use Rattle.wire_address.specs.declared.ip.IpProtocol.{IpProtocol}
use Rattle.wire_address.proofs.Numbers.{protocol_number-protocol_of}
use Rattle.wire_ip.specs.Ipv4.{IsIpv4, IsValue, fragment_of, payload_of, header_len_of, written_fragment, normal}
use Rattle.wire_ip.specs.declared.ipv4.fragment.Ipv4Fragment.{Ipv4Fragment}
use Rattle.wire_ip.specs.declared.ipv4.repr.Ipv4Repr.{Ipv4Repr}
use Rattle.wire_ip.proofs.Ipv4Laws.{reads-back}
use Rattle.sim_link.specs.declared.part.Part.{Part}
use Rattle.sim_link.specs.PacketInFrame.{packet_in}
use Rattle.sim_link.specs.Parts.{may_carry, is_ipv4, payload_v4}
use Rattle.sim_link.specs.Cuts.{ipv4_part, header_for, fragment_with, first_fragment, second_fragment}
use Rattle.sim_link.specs.Slices.{Slice, IsSliceOf, IsLinkHeader, bytes_of_slice, frame_of_slice, front_of, back_of}

-- A PACKET THAT CARRIES A SLICE

abbrev with_len : Ipv4Repr → ℕ → Ipv4Repr
with_len v n = record v { payload_len = n }

value_with : (v : Ipv4Repr) (n : ℕ) → IsValue v → IsValue (with_len v n)
value_with v n value = record {
  source = value.source;
  destination = value.destination;
  identification = value.identification;
  protocol = value.protocol;
  hop_limit = value.hop_limit;
}

-- the header, read
same_header : (src src' dst dst' : List ℕ) (p p' : IpProtocol) (n hop_limit hop_limit' id id' : ℕ) (dont dont' : Bool)
    → src ≡ src' → dst ≡ dst' → p ≡ p' → hop_limit ≡ hop_limit' → id ≡ id' → dont ≡ dont'
    → (let h : Ipv4Repr = record {
      src_addr = record { 0 = src };
      dst_addr = record { 0 = dst };
      next_header = p;
      payload_len = n;
      hop_limit = hop_limit;
      ident =
          id;
      dont_frag = dont;
    } in h)
    ≡ record {
      src_addr = record { 0 = src' };
      dst_addr = record { 0 = dst' };
      next_header = p';
      payload_len = n;
      hop_limit = hop_limit';
      ident =
          id';
      dont_frag = dont';
    }
same_header src src' dst dst' p p' n hop_limit hop_limit' id id' dont dont' a b c d e f = rw (a, b, c, d, e, f) refl

header_is : (packet : List ℕ) (v : Ipv4Repr) (n : ℕ) → IsIpv4 true packet (normal v) → header_for packet n ≡ with_len (normal v) n
header_is packet v n is =
    same_header _ _ _ _ _ _ n _ _ _ _ _ _ (sym is.source) (sym is.destination) (sym is.protocol) (sym is.hop_limit) (sym is.identification) (sym is.dont_frag)

-- a protocol by its number is written as that protocol
abbrev with_protocol : Ipv4Repr → IpProtocol → Ipv4Repr
with_protocol v p = record v { next_header = p }

written_normal : (v : Ipv4Repr) (n offset : ℕ) (more : Bool) →
    written_fragment true (with_len (normal v) n) offset more ≡ written_fragment true (with_len v n) offset more
written_normal v n offset more = rw (protocol_number-protocol_of (protocol_number v.next_header)) refl

fragment_is : (packet bytes front : List ℕ) (header : Ipv4Repr) (count cut offset : ℕ) (more : Bool) → IsIpv4 true packet (normal (with_len header count)) →
    front ≡ bytes → length bytes ≡ cut
    → fragment_with packet offset more front ≡ written_fragment true (with_len header cut) offset more ++ bytes
fragment_is packet bytes front header count cut offset more is same len =
    ap (fragment_with packet offset more) same
    ∙ ap (λ (n : ℕ). written_fragment true (header_for packet n) offset more ++ bytes) len
    ∙ ap (λ (v : Ipv4Repr). written_fragment true v offset more ++ bytes) (header_is packet (with_len header count) cut is)
    ∙ ap (λ (l : List ℕ). l ++ bytes) (written_normal header cut offset more)

module _ (header : Ipv4Repr) (payload padding : List ℕ) (s : Slice) (value : IsValue header) (short : 20 + length payload < 2 ^ 16)
    (slice : IsSliceOf payload s) (whole : s.at % 8 ≡ 0) where
  abbrev packet : List ℕ
  packet = written_fragment true (with_len header s.count) s.at s.more ++ (bytes_of_slice payload s ++ padding)

  len_of_slice : length (bytes_of_slice payload s) ≡ s.count
  len_of_slice = length-take-le s.count (drop s.at payload) (omega (arith, slice.within, length-drop s.at payload))

  reads : IsIpv4 true packet (normal (with_len header s.count)) × (fragment_of packet ≡ record { offset = s.at; more = s.more })
  reads =
      reads-back true true (with_len header s.count) (record { offset = s.at; more = s.more }) (bytes_of_slice payload s ++
      padding) (omega (arith, slice.within, short)) (value_with header s.count value)
      (omega (arith, slice.within, short)) whole (omega (arith, length-append (bytes_of_slice payload s) padding, len_of_slice)) (λ t. t)

  payload_is : payload_of packet ≡ bytes_of_slice payload s
  payload_is =
      let header_len : length (written_fragment true (with_len header s.count) s.at s.more) ≡ 20 =
      omega (arith, value.source.0, value.destination.0, length-append header.src_addr.0 (header.dst_addr.0 ++ []), length-append header.dst_addr.0 []) in
      let size : be16 packet 2 - 20 ≡ s.count = omega (arith, reads.0.payload) in
      ap (λ (n : ℕ). take n (drop 20 packet)) size
      ∙ ap (take s.count) (drop_at (written_fragment true (with_len header s.count) s.at s.more) (bytes_of_slice payload s ++ padding) 20 header_len)
      ∙ take_at (bytes_of_slice payload s) padding s.count len_of_slice

  front_fragment : (cut : ℕ) → cut ≤ s.count → fragment_with packet (fragment_of packet).offset true (take cut (payload_of packet)) ≡
      written_fragment true (with_len header cut) s.at true ++ take cut (drop s.at payload)
  front_fragment cut within =
      let first : take cut (payload_of packet) ≡ take cut (drop s.at payload) = ap (take cut) payload_is ∙ take-take cut s.count (drop s.at payload) within in
      let count : length (take cut (drop s.at payload)) ≡ cut =
      length-take-le cut (drop s.at payload) (omega (arith, slice.within, within, length-drop s.at payload)) in
      ap (λ (p : Ipv4Fragment). fragment_with packet p.offset true (take cut (payload_of packet))) reads.1
      ∙ fragment_is packet (take cut (drop s.at payload)) (take cut (payload_of packet)) header s.count cut s.at true reads.0 first count

  back_bytes : (cut : ℕ) → cut ≤ s.count → drop cut (take s.count (drop s.at payload)) ≡ take (s.count - cut) (drop (s.at + cut) payload)
  back_bytes cut within =
      let count : s.count ≡ cut + (s.count - cut) = omega arith in
      ap (λ (n : ℕ). drop cut (take n (drop s.at payload))) count
      ∙ drop-take cut (s.count - cut) (drop s.at payload)
      ∙ ap (take (s.count - cut)) (drop-drop cut s.at payload)

  back_fragment : (cut : ℕ) → cut ≤ s.count
      → fragment_with packet (((fragment_of packet).offset + cut) % 2 ^ 16) (fragment_of packet).more (drop cut (payload_of packet))
      ≡ written_fragment true (with_len header (s.count - cut)) (s.at + cut) s.more ++ take (s.count - cut) (drop (s.at + cut) payload)
  back_fragment cut within =
      let rest : drop cut (payload_of packet) ≡ take (s.count - cut) (drop (s.at + cut) payload) = ap (drop cut) payload_is ∙ back_bytes cut within in
      let count : length (take (s.count - cut) (drop (s.at + cut) payload)) ≡ s.count - cut =
      length-take-le (s.count - cut) (drop (s.at + cut) payload) (omega (arith, slice.within, within, length-drop (s.at + cut) payload)) in
      let offset : (s.at + cut) % 2 ^ 16 ≡ s.at + cut = omega (arith, slice.within, within, short) in
      ap (λ (p : Ipv4Fragment). fragment_with packet ((p.offset + cut) % 2 ^ 16) p.more (drop cut (payload_of packet))) reads.1
      ∙ ap (λ (n : ℕ). fragment_with packet n s.more (drop cut (payload_of packet))) offset
      ∙ fragment_is packet (take (s.count - cut) (drop (s.at + cut) payload)) (drop cut (payload_of packet)) header s.count (s.count - cut) (s.at + cut) s.more
      reads.0 rest count

  -- A FRAME

  module _ (medium : Medium) (link : List ℕ) (is_link : IsLinkHeader medium link) where
    abbrev frame : List ℕ
    frame = frame_of_slice link header payload s ++ padding

    frame_is : frame ≡ link ++ packet
    frame_is =
        let w : List ℕ = written_fragment true (with_len header s.count) s.at s.more in
        append_assoc link (w ++ bytes_of_slice payload s) padding ∙ ap (λ (l : List ℕ). link ++ l) (append_assoc w (bytes_of_slice payload s) padding)

    packet_is : packet_in medium frame ≡ packet
    packet_is = ap (drop (frame_header medium)) frame_is ∙ drop_at link packet (frame_header medium) is_link.len

    link_is : take (frame_header medium) frame ≡ link
    link_is = ap (take (frame_header medium)) frame_is ∙ take_at link packet (frame_header medium) is_link.len

    pub first-slice : (cut : ℕ) → cut ≤ s.count → first_fragment medium frame cut ≡ frame_of_slice link header payload (front_of s cut)
    first-slice cut within =
        ap (λ (p : List ℕ). take (frame_header medium) frame ++ fragment_with p (fragment_of p).offset true (take cut (payload_of p))) packet_is
        ∙ ap (λ (l : List ℕ). l ++ fragment_with packet (fragment_of packet).offset true (take cut (payload_of packet))) link_is
        ∙ ap (λ (l : List ℕ). link ++ l) (front_fragment cut within)

    pub second-slice : (cut : ℕ) → cut ≤ s.count → second_fragment medium frame cut ≡ frame_of_slice link header payload (back_of s cut)
    second-slice cut within =
        ap (λ (p : List ℕ). take (frame_header medium) frame ++
        fragment_with p (((fragment_of p).offset + cut) % 2 ^ 16) (fragment_of p).more (drop cut (payload_of p))) packet_is
        ∙ ap (λ (l : List ℕ). l ++ fragment_with packet (((fragment_of packet).offset + cut) % 2 ^ 16) (fragment_of packet).more (drop cut (payload_of packet))) link_is
        ∙ ap (λ (l : List ℕ). link ++ l) (back_fragment cut within)

pub IsSliceOf-front : (payload : List ℕ) (s : Slice) (cut : ℕ) → IsSliceOf payload s → cut ≤ s.count → IsSliceOf payload (front_of s cut)
IsSliceOf-front payload s cut slice within = record { within = omega (arith, slice.within, within); last = λ none. absurd cc }

pub IsSliceOf-back : (payload : List ℕ) (s : Slice) (cut : ℕ) → IsSliceOf payload s → cut ≤ s.count → IsSliceOf payload (back_of s cut)
IsSliceOf-back payload s cut slice within = record {
  within = omega (arith, slice.within, within);
  last = λ none. omega (arith, slice.last none, within);
}

-- THE PLACE OF THE PAYLOAD

all_true : (a b c d : Bool) (v : Bool) → a ≡ true → v ≡ true → b ≡ true → c ≡ true → d ≡ true → a && v && b && c && d ≡ true
all_true a b c d v p q r t u = rw (p, q, r, t, u) refl

is_ipv4-read : (packet : List ℕ) (v : Ipv4Repr) → IsIpv4 true packet v → is_ipv4 packet ≡ true
is_ipv4-read packet v is =
    let whole = is.whole in
    all_true (nat_le 20 (length packet)) (nat_le 20 (header_len_of packet)) (nat_le (header_len_of packet) (be16 packet 2))
    (nat_le (be16 packet 2) (length packet)) (slice_index packet 0 / 16 == 4)
    (let h = whole.room in grind (arith, nat_tests, h)) (let h = is.version in grind (arith, nat_tests, h)) (let h =
    whole.header in grind (arith, nat_tests, h)) (let h = whole.least in grind (arith, nat_tests, h)) (let h = whole.within in grind (arith, nat_tests, h))

-- the link header says so also of the frame
carries-still : (medium : Medium) (link rest : List ℕ) → IsLinkHeader medium link → may_carry medium 0x0800 (link ++ rest) ≡ true
carries-still Ethernet link rest is =
    let high : slice_index (link ++ rest) 12 ≡ slice_index link 12 = get_or_append_left link rest 0 12 (omega (arith, is.len)) in
    let low : slice_index (link ++ rest) 13 ≡ slice_index link 13 = get_or_append_left link rest 0 13 (omega (arith, is.len)) in
    let carries = is.carries in
    rw (high, low) carries
carries-still Ip link rest is = refl

both : (a b : Bool) (part : Part) → a ≡ true → b ≡ true → (let o : Option Part = cond (a && b) (Some part) None in o) ≡ Some part
both a b part p q = rw (p, q) refl

same_part : (at len len' : ℕ) → len ≡ len' → (let o : Option Part = Some (record { at = at; len = len }) in o) ≡ Some (record { at = at; len = len' })
same_part at len len' e = rw e refl

pub ipv4_part-slice : (medium : Medium) (link padding payload : List ℕ) (header : Ipv4Repr) (s : Slice) → IsLinkHeader medium link → IsValue header →
    20 + length payload < 2 ^ 16 → IsSliceOf payload s → s.at % 8 ≡ 0
    → ipv4_part medium (frame_of_slice link header payload s ++ padding) ≡ Some (record { at = frame_header medium + 20; len = s.count })
ipv4_part-slice medium link padding payload header s is_link value short slice whole =
    let p : List ℕ = packet header payload padding s value short slice whole in
    let is = (reads header payload padding s value short slice whole).0 in
    let at_frame = frame_is header payload padding s value short slice whole medium link is_link in
    let size : be16 p 2 - 20 ≡ s.count = omega (arith, is.payload) in
    ap (ipv4_part medium) at_frame
    ∙ ap (λ (q : List ℕ). cond (may_carry medium 0x0800 (link ++ p) && is_ipv4 q) (Some (payload_v4 medium q)) None)
    (drop_at link p (frame_header medium) is_link.len)
    ∙ both (may_carry medium 0x0800 (link ++ p)) (is_ipv4 p) (payload_v4 medium p) (carries-still medium link p is_link)
    (is_ipv4-read p (normal (with_len header s.count)) is)
    ∙ same_part (frame_header medium + 20) (be16 p 2 - 20) s.count size
