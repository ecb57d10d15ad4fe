-- A frame cut in two, as the code comes upon its parts.
use Rattle.std.proofs.Common.{◌≡◌, ℕ, ◌+◌, ◌-◌, ◌%◌, ◌^◌, ◌<◌, ◌≤◌, ◌/◌, Bool, true, false, ◌&&◌, ◌==◌, nat_le, cond, IsSome, Some, None, slice_index, List}
use Rattle.std.proofs.Common.{◌++◌, length, take, drop, get_or, length-drop, refl, ◌∙◌, ap, arith, Fits, w8}
use Rattle.std.proofs.lemmas.Bool.Decides.{nat_tests}
use Rattle.std.proofs.lemmas.List.{length-take, get_or-drop}
use Rattle.base_device.specs.Capabilities.{frame_header}
use Rattle.base_device.specs.declared.capabilities.Medium.{Medium}
use Rattle.wire_address.specs.Fields.{be16}
use Rattle.wire_ip.specs.Ipv4.{IsWhole, header_len_of, payload_of, fragment_of}
use Rattle.wire_ip.specs.declared.ipv4.fragment.Ipv4Fragment.{Ipv4Fragment}
use Rattle.sim_link.specs.PacketInFrame.{packet_in}
use Rattle.sim_link.specs.Parts.{may_carry, is_ipv4, payload_v4}
use Rattle.sim_link.specs.Cuts.{ipv4_part, fragment_with, first_fragment, second_fragment}

-- AN IPV4 PACKET

tests_hold : (a b c d : ℕ) (v : Bool) → nat_le 20 a && v && nat_le 20 b && nat_le b c && nat_le c d ≡ true → (20 ≤ a) × (20 ≤ b) × (b ≤ c) × (c ≤ d)
tests_hold a b c d v h = (grind (arith, nat_tests), grind (arith, nat_tests), grind (arith, nat_tests), grind (arith, nat_tests))

whole_by : (packet : List ℕ) → is_ipv4 packet ≡ true → IsWhole packet
whole_by packet h =
    let tests = tests_hold (length packet) (header_len_of packet) (be16 packet 2) (length packet) (slice_index packet 0 / 16 == 4) h in
    record { room = tests.0; header = tests.1; least = tests.2; within = tests.3 }

some_by : {X : Type 0} (may is : Bool) (x : X) → IsSome (cond (may && is) (Some x) None) → is ≡ true
some_by true true x h = refl
some_by true false x h = h
some_by false true x h = refl
some_by false false x h = h

-- a frame that carries an IPv4 packet carries it whole
pub whole_packet : (medium : Medium) (frame packet : List ℕ) → IsSome (ipv4_part medium frame) → packet ≡ packet_in medium frame → IsWhole packet
whole_packet medium frame packet h is =
    let inside : IsWhole (packet_in medium frame) =
    whole_by (packet_in medium frame)
    (some_by (may_carry medium 0x0800 frame) (is_ipv4 (packet_in medium frame)) (payload_v4 medium (packet_in medium frame)) h) in
    rw is inside

-- ITS PIECES

-- the link header is what stands before the packet
link_is : (medium : Medium) (frame packet link : List ℕ) → packet ≡ packet_in medium frame → 20 ≤ length packet
    → link ≡ take (length frame - length packet) frame → link ≡ take (frame_header medium) frame
link_is medium frame packet link is room front =
    let before : length frame - length packet ≡ frame_header medium = omega (arith, room, ap length is, length-drop (frame_header medium) frame) in
    front ∙ ap (λ (n : ℕ). take n frame) before

pub first_is : (medium : Medium) (frame packet link payload front items : List ℕ) (fragment : Ipv4Fragment) (at : ℕ)
    → packet ≡ packet_in medium frame → 20 ≤ length packet → link ≡ take (length frame - length packet) frame
    → payload ≡ payload_of packet → front ≡ take at payload → fragment ≡ fragment_of packet
    → items ≡ link ++ fragment_with packet fragment.offset true front → items ≡ first_fragment medium frame at
first_is medium frame packet link payload front items fragment at is room before payload_is front_is fragment_is made =
    made ∙ rw (link_is medium frame packet link is room before, front_is, payload_is, fragment_is, is) refl

pub second_is : (medium : Medium) (frame packet link payload back items : List ℕ) (fragment : Ipv4Fragment) (at later : ℕ)
    → packet ≡ packet_in medium frame → 20 ≤ length packet → link ≡ take (length frame - length packet) frame
    → payload ≡ payload_of packet → back ≡ drop at payload → fragment ≡ fragment_of packet → later ≡ (fragment.offset + at) % 2 ^ 16
    → items ≡ link ++ fragment_with packet later fragment.more back → items ≡ second_fragment medium frame at
second_is medium frame packet link payload back items fragment at later is room before payload_is back_is fragment_is later_is made =
    made ∙ rw (link_is medium frame packet link is room before, back_is, payload_is, later_is, fragment_is, is) refl

-- a length field has 16 bits
be16_small : (frame : List ℕ) (h i : ℕ) → ((k : ℕ) → Fits w8 (get_or frame k 0)) → be16 (drop h frame) i < 65536
be16_small frame h i bytes = omega (arith, get_or-drop h frame i 0, get_or-drop h frame (i + 1) 0, bytes (h + i), bytes (h + (i + 1)))

-- so a payload is shorter than that by a header
pub payload_short : (medium : Medium) (frame packet payload : List ℕ) → ((k : ℕ) → Fits w8 (get_or frame k 0)) → packet ≡ packet_in medium frame
    → payload ≡ payload_of packet → 20 ≤ header_len_of packet → 20 + length payload < 65536
payload_short medium frame packet payload bytes is payload_is header =
    let small : be16 packet 2 < 65536 = rw is (be16_small frame (frame_header medium) 2 bytes) in
    let count : length payload ≡ length (payload_of packet) = ap length payload_is in
    omega (arith, count, header, small, length-take (be16 packet 2 - header_len_of packet) (drop (header_len_of packet) packet))
