-- A plain segment is read by its words.
use Rattle.std.proofs.Common.{◌≡◌, ◌≢◌, ◌⊎◌, inl, inr, ℕ, ◌+◌, ◌-◌, ◌*◌, ◌/◌, ◌%◌, ◌==◌, ◌&&◌, ◌||◌, ◌<◌, ◌≤◌, ◌^◌, not, Bool, true, false, List, [], ◌∷◌}
use Rattle.std.proofs.Common.{length, take, drop, if◌then◌else◌, Option, None, Some, refl, sym, ap, ap₂, ◌∙◌, subst, arith, length-drop}
use Rattle.std.specs.Prelude.{slice_index, slice_range, IsTrue}
use Rattle.std.proofs.lemmas.Bool.{and_parts, eq-eqb, eqb-true, or_cases}
use Rattle.std.proofs.lemmas.List.{drop_all, get_or-drop, take_all}
use Rattle.net_base.specs.Capabilities.{verifies}
use Rattle.wire_address.proofs.Peel.{peel8}
use Rattle.wire_address.proofs.Sums.{ChecksumHolds-folded}
use Rattle.wire_address.specs.Fields.{be16, be32, IsBytes}
use Rattle.wire_address.specs.Protocol.{protocol_of}
use Rattle.wire_address.specs.Pseudo.{covered, pseudo_of}
use Rattle.wire_address.specs.Sum.{word_sum, folded}
use Rattle.wire_address.specs.declared.ip.IpAddress.{IpAddress}
use Rattle.ip_wire.specs.AddressTests.{is_broadcast_v4, is_multicast_v4, is_unspecified_v4}
use Rattle.ip_wire.specs.IpAddress.TheVariants as Address
use Rattle.ip_wire.specs.declared.ethernet.repr.EthernetRepr.{EthernetRepr}
use Rattle.ip_wire.specs.IpProtocol.TheVariants as Protocol
use Rattle.ip_wire.specs.IpRepr.{IpRepr}
use Rattle.ip_wire.specs.IpRepr.TheVariants as Ip
use Rattle.ip_wire.specs.Ipv4 as Ipv4
use Rattle.ip_wire.specs.Ipv4Repr.{Ipv4Repr}
use Rattle.ip_wire.specs.Parts.{has_flag}
use Rattle.ip_wire.specs.Control.{control_of}
use Rattle.ip_wire.specs.Tcp as Tcp
use Rattle.ip_wire.specs.TcpControl.{TcpControl}
use Rattle.ip_wire.specs.TcpControl.TheVariants as Control
use Rattle.ip_wire.specs.TcpHeader.{TcpHeader}
use Rattle.sockets.specs.Context.{ContextValue}
use Rattle.sockets.specs.Packet.{Segment}
use Rattle.sockets.specs.Socket.{accepts_packet, accepts_segment}
use Rattle.iface_tables.specs.Inner.{InnerValue, context_of, is_local_broadcast}
use Rattle.iface_tables.specs.Reassembly.{or_else}
use Rattle.iface_ingress.specs.Arrives.{IsHanded, ReplyValue, answered, arrived, is_direct, renewed, renewed_by, sender_of}
use Rattle.iface_ingress.specs.Delivered.{Slots, answer_at, answer_of, changed_at, draws_of, first_slot, is_taken_raw, packet_delivered, passes_at, segment_slot}
use Rattle.iface_ingress.specs.Delivered.{is_connected, with_packet, with_segment}
use Rattle.iface_ingress.specs.FastPath.{IsTakenFast, TakesPacket, has_plain_words, is_plain, is_plain_header, is_plain_segment, plain_header, plain_segment}
use Rattle.iface_ingress.specs.Processed.{names_no_endpoint}
use Rattle.iface_ingress.specs.Reassembled.{is_fragment}
use Rattle.iface_ingress.specs.Replies.{is_one_host}
use Rattle.iface_ingress.specs.UpperLayer.{IsSegment}
use Rattle.iface_ingress.proofs.Given.{none_given}
use Rattle.iface_ingress.proofs.OnePass.{segment_handed, summed_apart}

-- WHAT THE TESTS SAY

record IsPlainHeader (bytes : List ℕ) : Type 0 where
  first : slice_index bytes 0 ≡ 0x45
  len : be16 bytes 2 ≡ length bytes
  flags : (be16 bytes 6 ≡ 0) ⊎ (be16 bytes 6 ≡ 0x4000)
  protocol : slice_index bytes 9 ≡ 6
  checked : folded (word_sum (take 20 bytes)) ≡ 65535

record IsPlainSegment (packet : List ℕ) : Type 0 where
  flags : (be16 packet 12 ≡ 0x5010) ⊎ (be16 packet 12 ≡ 0x5018)
  source : be16 packet 0 ≢ 0
  destination : be16 packet 2 ≢ 0

either_is : (n a b : ℕ) → ((n == a) || (n == b)) ≡ true → (n ≡ a) ⊎ (n ≡ b)
either_is n a b is = by (or_cases (n == a) (n == b) is) where
  by : ((n == a) ≡ true) ⊎ ((n == b) ≡ true) → (n ≡ a) ⊎ (n ≡ b)
  by (inl one) = inl (eqb-true n a one)
  by (inr other) = inr (eqb-true n b other)

isnt_zero : (n : ℕ) → not (n == 0) ≡ true → n ≢ 0
isnt_zero n is = λ zero. off (n == 0) (eq-eqb n 0 zero) is where
  off : (t : Bool) → t ≡ true → not t ≡ true → ⊥
  off true on is = absurd cc
  off false on is = absurd cc

plain_front : (bytes : List ℕ) → is_plain_header bytes ≡ true → IsPlainHeader bytes
plain_front bytes is =
    let a = and_parts (has_plain_words bytes) (folded (word_sum (take 20 bytes)) == 65535) is in
    let b = and_parts (slice_index bytes 0 == 0x45) _ a.0 in
    let c = and_parts (be16 bytes 2 == length bytes) _ b.1 in
    let d = and_parts ((be16 bytes 6 == 0) || (be16 bytes 6 == 0x4000)) (slice_index bytes 9 == 6) c.1 in
    record {
      first = eqb-true (slice_index bytes 0) 0x45 b.0;
      len = eqb-true (be16 bytes 2) (length bytes) c.0;
      flags = either_is (be16 bytes 6) 0 0x4000 d.0;
      protocol = eqb-true (slice_index bytes 9) 6 d.1;
      checked = eqb-true (folded (word_sum (take 20 bytes))) 65535 a.1;
    }

plain_head : (packet : List ℕ) → is_plain_segment packet ≡ true → IsPlainSegment packet
plain_head packet is =
    let a = and_parts ((be16 packet 12 == 0x5010) || (be16 packet 12 == 0x5018)) _ is in
    let b = and_parts (not (be16 packet 0 == 0)) (not (be16 packet 2 == 0)) a.1 in
    record {
      flags = either_is (be16 packet 12) 0x5010 0x5018 a.0;
      source = isnt_zero (be16 packet 0) b.0;
      destination = isnt_zero (be16 packet 2) b.1;
    }

-- THE HEADERS

-- the two bytes of a number
bytes_of : (a b high low : ℕ) → b < 256 → low < 256 → 256 * a + b ≡ 256 * high + low → (a ≡ high) × (b ≡ low)
bytes_of a b high low small fits same = (omega (arith, small, fits, same), omega (arith, small, fits, same))

four_at : (bytes : List ℕ) (i a b c d : ℕ) (rest : List ℕ) → drop i bytes ≡ a ∷ b ∷ c ∷ d ∷ rest → a ∷ b ∷ c ∷ d ∷ [] ≡ take 4 (drop i bytes)
four_at bytes i a b c d rest is = sym (ap (take 4) is)

source_is : (bytes : List ℕ) → 20 ≤ length bytes → (plain_header bytes).src_addr.0 ≡ slice_range bytes 12 16
source_is bytes room =
    four_at bytes 12 _ _ _ _ (drop 16 bytes)
    (peel8 bytes 12 _ _ (omega (arith, room)) refl (peel8 bytes 13 _ _ (omega (arith, room)) refl
    (peel8 bytes 14 _ _ (omega (arith, room)) refl (peel8 bytes 15 _ _ (omega (arith, room)) refl refl))))

destination_is : (bytes : List ℕ) → 20 ≤ length bytes → (plain_header bytes).dst_addr.0 ≡ slice_range bytes 16 20
destination_is bytes room =
    four_at bytes 16 _ _ _ _ (drop 20 bytes)
    (peel8 bytes 16 _ _ (omega (arith, room)) refl (peel8 bytes 17 _ _ (omega (arith, room)) refl
    (peel8 bytes 18 _ _ (omega (arith, room)) refl (peel8 bytes 19 _ _ (omega (arith, room)) refl refl))))

-- of the field of the flags and the offset nothing is set but "don't fragment"
flags_at : (bytes : List ℕ) → IsBytes bytes → (be16 bytes 6 ≡ 0) ⊎ (be16 bytes 6 ≡ 0x4000)
    → (slice_index bytes 6 ≡ 0) ⊎ (slice_index bytes 6 ≡ 64)
flags_at bytes small (inl none) = inl (bytes_of (slice_index bytes 6) (slice_index bytes 7) 0 0 (small 7) (omega arith) none).0
flags_at bytes small (inr whole) = inr (bytes_of (slice_index bytes 6) (slice_index bytes 7) 64 0 (small 7) (omega arith) whole).0

dont_frag_is : (bytes : List ℕ) → IsBytes bytes → (be16 bytes 6 ≡ 0) ⊎ (be16 bytes 6 ≡ 0x4000)
    → (be16 bytes 6 == 0x4000) ≡ has_flag (slice_index bytes 6) 64
dont_frag_is bytes small (inl none) =
    ap (λ (n : ℕ). n == 0x4000) none
    ∙ sym (ap (λ (n : ℕ). has_flag n 64) (bytes_of (slice_index bytes 6) (slice_index bytes 7) 0 0 (small 7) (omega arith) none).0)
dont_frag_is bytes small (inr whole) =
    ap (λ (n : ℕ). n == 0x4000) whole
    ∙ sym (ap (λ (n : ℕ). has_flag n 64) (bytes_of (slice_index bytes 6) (slice_index bytes 7) 64 0 (small 7) (omega arith) whole).0)

plain_v4 : (tested : Bool) (bytes : List ℕ) → IsBytes bytes → 20 ≤ length bytes → IsPlainHeader bytes → Ipv4.IsIpv4 tested bytes (plain_header bytes)
plain_v4 tested bytes small room is =
    let len : Ipv4.header_len_of bytes ≡ 20 = ap (λ (n : ℕ). 4 * (n % 16)) is.first in
    record {
      whole = record { room = room; header = omega (arith, len); least = omega (arith, len, is.len, room); within = omega (arith, is.len) };
      version = ap (λ (n : ℕ). n / 16) is.first;
      checked = λ _. (ChecksumHolds-folded (word_sum (Ipv4.header_of bytes))).0 (ap (λ (n : ℕ). folded (word_sum (take n bytes))) len ∙ is.checked);
      identification = refl;
      dont_frag = dont_frag_is bytes small is.flags;
      source = source_is bytes room;
      destination = destination_is bytes room;
      protocol = sym (ap protocol_of is.protocol);
      payload = omega (arith, len, is.len, room);
      hop_limit = refl;
    }

-- it is no fragment
whole_by : (bytes : List ℕ) → IsBytes bytes → (be16 bytes 6 ≡ 0) ⊎ (be16 bytes 6 ≡ 0x4000) → is_fragment (Ipv4.fragment_of bytes) ≡ false
whole_by bytes small (inl none) =
    ap₂ (λ (n m : ℕ). has_flag n 32 || not (8 * (m % 2 ^ 13) == 0))
    (bytes_of (slice_index bytes 6) (slice_index bytes 7) 0 0 (small 7) (omega arith) none).0 none
whole_by bytes small (inr whole) =
    ap₂ (λ (n m : ℕ). has_flag n 32 || not (8 * (m % 2 ^ 13) == 0))
    (bytes_of (slice_index bytes 6) (slice_index bytes 7) 64 0 (small 7) (omega arith) whole).0 whole

-- its payload is all after the header
plain_payload : (bytes : List ℕ) → IsPlainHeader bytes → drop 20 bytes ≡ Ipv4.payload_of bytes
plain_payload bytes is =
    let len : Ipv4.header_len_of bytes ≡ 20 = ap (λ (n : ℕ). 4 * (n % 16)) is.first in
    let all : length (drop 20 bytes) ≤ length bytes - 20 = omega (arith, length-drop 20 bytes) in
    sym (ap₂ (λ (a b : ℕ). slice_range bytes a b) len is.len ∙ take_all (length bytes - 20) (drop 20 bytes) all)

-- the length of the header, and the flags
record HasFlags (packet : List ℕ) (flags : ℕ) : Type 0 where
  high : slice_index packet 12 ≡ 80
  low : slice_index packet 13 ≡ flags

flags_of : (packet : List ℕ) (flags : ℕ) → IsBytes packet → flags < 256 → be16 packet 12 ≡ 256 * 80 + flags → HasFlags packet flags
flags_of packet flags small fits is =
    let both = bytes_of (slice_index packet 12) (slice_index packet 13) 80 flags (small 13) fits is in
    record { high = both.0; low = both.1 }

control_is : (packet : List ℕ) (flags word : ℕ) (c : TcpControl) → slice_index packet 13 ≡ flags
    → control_of (flags / 2 % 2 == 1) (flags / 1 % 2 == 1) (flags / 4 % 2 == 1) (flags / 8 % 2 == 1) ≡ Some c → be16 packet 12 ≡ word
    → (if word == 0x5018 then Control.Psh else Control.None) ≡ c → Tcp.control_in packet ≡ Some (plain_segment packet).control
control_is packet flags word c low said is named =
    ap (λ (n : ℕ). control_of (n / 2 % 2 == 1) (n / 1 % 2 == 1) (n / 4 % 2 == 1) (n / 8 % 2 == 1)) low ∙ said
    ∙ sym (ap (λ (x : TcpControl). Some x) (ap (λ (n : ℕ). if n == 0x5018 then Control.Psh else Control.None) is ∙ named))

-- with these flags
plain_with : (source destination : IpAddress) (tested : Bool) (packet : List ℕ) (flags : ℕ) → 20 ≤ length packet → IsPlainSegment packet → HasFlags packet flags
    → Tcp.control_in packet ≡ Some (plain_segment packet).control → Tcp.flag packet 13 16 ≡ true
    → (IsTrue tested → Tcp.IsChecked source destination packet)
    → Tcp.IsTcp source destination tested packet (plain_segment packet)
plain_with source destination tested packet flags room is has control ack checked =
    let len : Tcp.header_len_of packet ≡ 20 = ap (λ (n : ℕ). 4 * (n / 16)) has.high in
    record {
      whole = record { fixed = room; least = omega (arith, len); within = omega (arith, len, room) };
      source_port = refl;
      destination_port = refl;
      source_accepted = is.source;
      destination_accepted = is.destination;
      checked = checked;
      control = control;
      sequence = refl;
      acknowledgement = sym (ap (λ (t : Bool). if t then Some (record { 0 = be32 packet 8 }) else None) ack);
      window = refl;
      options = ([], ap (λ (n : ℕ). slice_range packet 20 n) len, refl);
    }

plain_tcp : (source destination : IpAddress) (tested : Bool) (packet : List ℕ) → IsBytes packet → 20 ≤ length packet → IsPlainSegment packet
    → (IsTrue tested → Tcp.IsChecked source destination packet)
    → Tcp.IsTcp source destination tested packet (plain_segment packet)
plain_tcp source destination tested packet small room is checked = by is.flags where
  by : (be16 packet 12 ≡ 0x5010) ⊎ (be16 packet 12 ≡ 0x5018) → Tcp.IsTcp source destination tested packet (plain_segment packet)
  by (inl ack) =
      let has = flags_of packet 16 small (omega arith) ack in
      plain_with source destination tested packet 16 room is has (control_is packet 16 0x5010 Control.None has.low refl ack refl)
      (ap (λ (n : ℕ). n / 16 % 2 == 1) has.low) checked
  by (inr push) =
      let has = flags_of packet 24 small (omega arith) push in
      plain_with source destination tested packet 24 room is has (control_is packet 24 0x5018 Control.Psh has.low refl push refl)
      (ap (λ (n : ℕ). n / 16 % 2 == 1) has.low) checked

-- what it carries
plain_text : (packet : List ℕ) → IsBytes packet → IsPlainSegment packet → drop 20 packet ≡ Tcp.payload_of packet
plain_text packet small is = by is.flags where
  by : (be16 packet 12 ≡ 0x5010) ⊎ (be16 packet 12 ≡ 0x5018) → drop 20 packet ≡ Tcp.payload_of packet
  by (inl ack) = sym (ap (λ (n : ℕ). drop (4 * (n / 16)) packet) (flags_of packet 16 small (omega arith) ack).high)
  by (inr push) = sym (ap (λ (n : ℕ). drop (4 * (n / 16)) packet) (flags_of packet 24 small (omega arith) push).high)

-- the sum of the words from an offset on
words_from : (bytes : List ℕ) (i j : ℕ) → i + 2 ≡ j → j ≤ length bytes → word_sum (drop i bytes) ≡ be16 bytes i + word_sum (drop j bytes)
words_from bytes i j next room =
    let following : i + 1 + 1 ≡ j = omega (arith, next) in
    ap word_sum (peel8 bytes i (slice_index bytes i) _ (omega (arith, next, room)) refl
    (peel8 bytes (i + 1) (slice_index bytes (i + 1)) _ (omega (arith, next, room)) refl (ap (λ (k : ℕ). drop k bytes) following)))

pub words_of_twenty : (bytes : List ℕ) → length bytes ≡ 20
    → word_sum bytes ≡ be16 bytes 0 + be16 bytes 2 + be16 bytes 4 + be16 bytes 6 + be16 bytes 8 + be16 bytes 10 + be16 bytes 12 + be16 bytes 14
    + be16 bytes 16 + be16 bytes 18
words_of_twenty bytes len =
    let end : word_sum (drop 20 bytes) ≡ 0 = ap word_sum (drop_all 20 bytes (omega (arith, len))) in
    omega (
      arith,
      end,
      words_from bytes 0 2 refl (omega (arith, len)),
      words_from bytes 2 4 refl (omega (arith, len)),
      words_from bytes 4 6 refl (omega (arith, len)),
      words_from bytes 6 8 refl (omega (arith, len)),
      words_from bytes 8 10 refl (omega (arith, len)),
      words_from bytes 10 12 refl (omega (arith, len)),
      words_from bytes 12 14 refl (omega (arith, len)),
      words_from bytes 14 16 refl (omega (arith, len)),
      words_from bytes 16 18 refl (omega (arith, len)),
      words_from bytes 18 20 refl (omega (arith, len)),
    )

-- bytes after others
small_drop : (bytes : List ℕ) → IsBytes bytes → IsBytes (drop 20 bytes)
small_drop bytes small = λ i. subst (λ (n : ℕ). n < 256) (sym (get_or-drop 20 bytes i 0)) (small (20 + i))

-- THE SENDER'S HARDWARE ADDRESS is believed again, which changes nothing of what counts for a segment

module _ {A : Type 0} (f : InnerValue → A) where
  unrenewed : ((i : InnerValue) (link : EthernetRepr) (sender : IpAddress) → f (renewed_by i (Some link) sender) ≡ f i)
      → (t : Bool) (i : InnerValue) (link : Option EthernetRepr) (sender : IpAddress) → f (if t then renewed_by i link sender else i) ≡ f i
  unrenewed same true i None sender = refl
  unrenewed same true i (Some link) sender = same i link sender
  unrenewed same false i link sender = refl

-- BOTH ENDS

ends_by : (unspecified many all local none : Bool) → none ≡ false → (not (unspecified || many || all) && not local) ≡ true
    → (none || (unspecified || (local || many))) ≡ false
ends_by false false all false false is one = refl
ends_by unspecified many all local true is one = absurd cc
ends_by true many all local false is one = absurd cc
ends_by false true all local false is one = absurd cc
ends_by false false all true false is one = absurd (both all one) where
  both : (all : Bool) → (not all && false) ≡ true → ⊥
  both true is = absurd cc
  both false is = absurd cc

-- the addresses of two hosts are ends of a connection
pub between_hosts : (i : InnerValue) (h : Ipv4Repr) → is_unspecified_v4 h.src_addr ≡ false → is_one_host i h.dst_addr ≡ true
    → names_no_endpoint i (Ip.Ipv4 h) ≡ false
between_hosts i h some one =
    ends_by (is_unspecified_v4 h.dst_addr) (is_multicast_v4 h.dst_addr) (is_broadcast_v4 h.dst_addr) (is_local_broadcast i (Address.Ipv4 h.dst_addr))
    (is_unspecified_v4 h.src_addr) some one

-- WHAT WAS TAKEN SO

slot_found : (ip : IpRepr) (header : TcpHeader) (slots : Slots) (at : ℕ) → first_slot (λ s. is_connected s ip header) slots ≡ Some at
    → segment_slot ip header slots ≡ Some at
slot_found ip header slots at found = ap (λ (o : Option ℕ). or_else o (first_slot (λ s. accepts_segment s ip header) slots)) found

plain_takes : (i after : InnerValue) (slots slots' : Slots) (link : Option EthernetRepr) (bytes : List ℕ) (reply : Option ReplyValue)
    → IsBytes bytes → 40 ≤ length bytes → IsPlainHeader bytes → IsPlainSegment (drop 20 bytes) → is_plain i (plain_header bytes) ≡ true
    → names_no_endpoint i (Ip.Ipv4 (plain_header bytes)) ≡ false
    → IsTakenFast i slots (plain_header bytes) (drop 20 bytes) slots' reply
    → after ≡ renewed i link (Ip.Ipv4 (plain_header bytes))
    → TakesPacket i slots link bytes (arrived after slots' reply)
plain_takes i after slots slots' link bytes reply small room front head plain between taken renewal =
    let ip : IpRepr = Ip.Ipv4 (plain_header bytes) in
    let packet : List ℕ = drop 20 bytes in
    let header : TcpHeader = plain_segment packet in
    let text : List ℕ = drop 20 packet in
    let next : InnerValue = renewed i link ip in
    let direct : Bool = is_direct i ip in
    let source : IpAddress = Address.Ipv4 (plain_header bytes).src_addr in
    let destination : IpAddress = Address.Ipv4 (plain_header bytes).dst_addr in
    let few : IsBytes packet = small_drop bytes small in
    let context : context_of i ≡ context_of next = sym (unrenewed context_of (λ _ _ _. refl) direct i link (sender_of ip)) in
    let ends : names_no_endpoint next ip ≡ false = unrenewed (λ x. names_no_endpoint x ip) (λ _ _ _. refl) direct i link (sender_of ip) ∙ between in
    let checked : Tcp.IsChecked source destination packet = (ChecksumHolds-folded (covered source destination 6 packet)).0 taken.checked in
    let handed : IsHanded next slots ip packet false (Some (Segment header text)) (arrived next slots' reply) =
    segment_handed next slots slots' ip text header taken.at reply ends (slot_found ip header slots taken.at taken.found)
    (taken.answer ∙ ap (λ (cx : ContextValue). answered (answer_at (answer_of cx ip header text) (Some taken.at) slots)) context)
    (taken.slots_are ∙ ap (λ (cx : ContextValue). changed_at (with_segment cx ip header text) (Some taken.at) slots) context)
    (sym (ap (λ (cx : ContextValue). passes_at (draws_of cx ip header text) (Some taken.at) slots) context) ∙ taken.quiet) packet false in
    let raw : packet_delivered ip packet slots ≡ slots = none_given (λ s. accepts_packet s ip) (with_packet ip packet) slots taken.raw in (
      plain_header bytes,
      Ipv4.fragment_of bytes,
      packet,
      record { format = plain_v4 (verifies i.checksums.ipv4) bytes small (omega (arith, room)) front; fragment_is = refl; payload_is = plain_payload bytes front },
      ap (λ (t : Bool). not t && is_plain i (plain_header bytes)) (whole_by bytes small front.flags) ∙ plain,
      (
        Some (Segment header text),
        record {
          protocol = refl;
          format = plain_tcp source destination (verifies next.checksums.tcp) packet few (omega (arith, room, length-drop 20 bytes)) head (λ _. checked);
          bytes_are = plain_text packet few head;
        },
        subst (λ (x : InnerValue). IsHanded next (packet_delivered ip packet slots) ip packet (is_taken_raw ip slots) (Some (Segment header text)) (arrived x slots' reply))
            (sym renewal)
            (subst (λ (ss : Slots). IsHanded next ss ip packet (is_taken_raw ip slots) (Some (Segment header text)) (arrived next slots' reply)) (sym raw)
            (subst (λ (t : Bool). IsHanded next slots ip packet t (Some (Segment header text)) (arrived next slots' reply)) (sym taken.raw) handed)),
      ),
    )

-- as the calls say it
pub taken_packet : (i after : InnerValue) (slots slots' : Slots) (link : Option EthernetRepr) (bytes packet : List ℕ) (ip : Ipv4Repr) (reply : Option ReplyValue)
    → IsBytes bytes → 40 ≤ length bytes → true ≡ is_plain_header bytes → packet ≡ drop 20 bytes → true ≡ is_plain_segment packet → ip ≡ plain_header bytes
    → is_plain i ip ≡ true → names_no_endpoint i (Ip.Ipv4 ip) ≡ false → IsTakenFast i slots ip packet slots' reply → after ≡ renewed i link (Ip.Ipv4 ip)
    → TakesPacket i slots link bytes (arrived after slots' reply)
taken_packet i after slots slots' link bytes packet ip reply small room front packet_is head ip_is plain between taken renewal =
    plain_takes i after slots slots' link bytes reply small room (plain_front bytes (sym front))
    (subst IsPlainSegment packet_is (plain_head packet (sym head)))
    (subst (λ (h : Ipv4Repr). is_plain i h ≡ true) ip_is plain)
    (subst (λ (h : Ipv4Repr). names_no_endpoint i (Ip.Ipv4 h) ≡ false) ip_is between)
    (subst (λ (h : Ipv4Repr). IsTakenFast i slots h (drop 20 bytes) slots' reply) ip_is
    (subst (λ (p : List ℕ). IsTakenFast i slots ip p slots' reply) packet_is taken))
    (subst (λ (h : Ipv4Repr). after ≡ renewed i link (Ip.Ipv4 h)) ip_is renewal)

-- the length of a packet fits its field
pub short_packet : (bytes packet : List ℕ) → IsBytes bytes → true ≡ is_plain_header bytes → packet ≡ drop 20 bytes → length packet < 2 ^ 16
short_packet bytes packet small front packet_is =
    let len : be16 bytes 2 ≡ length bytes = (plain_front bytes (sym front)).len in
    let fits : be16 bytes 2 < 2 ^ 16 = omega (arith, small 2, small 3) in
    omega (arith, ap length packet_is, length-drop 20 bytes, len, fits)

-- THE SOCKET

module _ {A : Type 0} (f : IpRepr → TcpHeader → List ℕ → A) where
  at_same : (h h' : IpRepr) (s s' : TcpHeader) (t t' : List ℕ) → h ≡ h' → s ≡ s' → t ≡ t' → f h s t ≡ f h' s' t'
  at_same h h' s s' t t' e d b = ap (λ (x : IpRepr). f x s t) e ∙ ap (λ (x : TcpHeader). f h' x t) d ∙ ap (λ (x : List ℕ). f h' s' x) b

-- the sum of the pseudo header and of the header, and that of the payload
checked_by : (source destination : IpAddress) (packet head text : List ℕ) (rest : ℕ) → 20 ≤ length packet → head ≡ take 20 packet → text ≡ drop 20 packet
    → rest ≡ folded (folded (word_sum (pseudo_of source destination 6 (length packet))) + folded (word_sum head)) → folded (rest + word_sum text) ≡ 65535
    → folded (covered source destination 6 packet) ≡ 65535
checked_by source destination packet head text rest room head_is text_is rest_is ones =
    sym (summed_apart source destination 6 packet 20 (folded (word_sum (pseudo_of source destination 6 (length packet)))) (folded (word_sum head)) rest refl room
    refl (ap (λ (b : List ℕ). folded (word_sum b)) head_is) rest_is)
    ∙ ap (λ (b : List ℕ). folded (rest + word_sum b)) (sym text_is) ∙ ones

pub taken_fast : (i : InnerValue) (slots slots' : Slots) (ip : Ipv4Repr) (h : IpRepr) (packet head text : List ℕ) (s : TcpHeader) (rest at : ℕ)
    (raw : Bool) (found : Option ℕ) (reply : Option ReplyValue)
    → h ≡ Ip.Ipv4 ip → 20 ≤ length packet → s ≡ plain_segment packet → head ≡ take 20 packet → text ≡ drop 20 packet
    → rest ≡ folded (folded (word_sum (pseudo_of (Address.Ipv4 ip.src_addr) (Address.Ipv4 ip.dst_addr) 6 (length packet))) + folded (word_sum head))
    → raw ≡ is_taken_raw h slots → raw ≡ false → found ≡ first_slot (λ x. is_connected x h s) slots → found ≡ Some at
    → folded (rest + word_sum text) ≡ 65535
    → reply ≡ answered (answer_at (answer_of (context_of i) h s text) (Some at) slots)
    → slots' ≡ changed_at (with_segment (context_of i) h s text) (Some at) slots
    → passes_at (draws_of (context_of i) h s text) (Some at) slots ≡ false
    → IsTakenFast i slots ip packet slots' reply
taken_fast i slots slots' ip h packet head text s rest at raw found reply h_is room s_is head_is text_is rest_is raw_is none found_is some ones answer change quiet =
    let cx : ContextValue = context_of i in
    record {
      raw = ap (λ (x : IpRepr). is_taken_raw x slots) (sym h_is) ∙ sym raw_is ∙ none;
      at = at;
      found = sym (at_same (λ x d _. first_slot (λ y. is_connected y x d) slots) h (Ip.Ipv4 ip) s (plain_segment packet) text (drop 20 packet) h_is s_is text_is)
          ∙ sym found_is ∙ some;
      checked = checked_by (Address.Ipv4 ip.src_addr) (Address.Ipv4 ip.dst_addr) packet head text rest room head_is text_is rest_is ones;
      answer = answer ∙ at_same (λ x d b. answered (answer_at (answer_of cx x d b) (Some at) slots)) h (Ip.Ipv4 ip) s (plain_segment packet) text (drop 20 packet)
          h_is s_is text_is;
      slots_are = change ∙ at_same (λ x d b. changed_at (with_segment cx x d b) (Some at) slots) h (Ip.Ipv4 ip) s (plain_segment packet) text (drop 20 packet)
          h_is s_is text_is;
      quiet = sym (at_same (λ x d b. passes_at (draws_of cx x d b) (Some at) slots) h (Ip.Ipv4 ip) s (plain_segment packet) text (drop 20 packet) h_is s_is text_is)
          ∙ quiet;
    }
