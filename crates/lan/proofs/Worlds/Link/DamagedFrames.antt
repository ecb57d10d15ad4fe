-- The link exchanges a word in a frame's TCP segment.
use Rattle.std.proofs.Common.{◌≡◌, ◌≢◌, ◌⊎◌, inl, inr, ℕ, ◌+◌, ◌-◌, ◌*◌, ◌/◌, ◌%◌, ◌^◌, ◌<◌, ◌≤◌, ◌==◌, ◌&&◌, Bool, true, false, cond, List, [], ◌++◌, length}
use Rattle.std.proofs.Common.{take, drop, slice_index, Option, Some, None, refl, sym, ◌∙◌, ap, subst, arith, length-append, append_assoc, append-nil}
use Rattle.std.specs.Prelude.{nat_le, slice_range}
use Rattle.std.proofs.lemmas.List.{drop_at, take_at}
use Rattle.std.proofs.lemmas.Bool.Decides.{nat_tests}
use Rattle.sim_link.specs.Medium.{Medium}
use Rattle.sim_link.specs.Capabilities.{frame_header}
use Rattle.iface_ingress.specs.Fields.{be16, put16}
use Rattle.iface_ingress.specs.HardwareAddress.{HardwareAddress}
use Rattle.iface_ingress.specs.HardwareAddress.TheVariants as Hardware
use Rattle.interface.specs.Ip as Ips
use Rattle.interface.specs.Ip.{carried_in, source_of, destination_of}
use Rattle.iface_ingress.specs.IpProtocol.TheVariants as Protocol
use Rattle.interface.specs.IpRepr.{IpRepr}
use Rattle.interface.specs.IpRepr.TheVariants as Ip
use Rattle.interface.specs.Ipv4 as Ipv4
use Rattle.interface.specs.Ipv4Fragment.{Ipv4Fragment}
use Rattle.interface.specs.Ipv4Repr.{Ipv4Repr}
use Rattle.interface.specs.Ipv6 as Ipv6
use Rattle.interface.specs.Ipv6Repr.{Ipv6Repr}
use Rattle.interface.specs.Parts.{has_flag}
use Rattle.iface_egress.specs.Departure.{fragment_v6, fragment_header}
use Rattle.wire_address.specs.Protocol.{protocol_of}
use Rattle.wire_tcp.specs.Tcp as Tcp
use Rattle.interface.specs.Ipv4.{header_len_of}
use Rattle.iface_ingress.specs.EthernetRepr.{EthernetRepr}
use Rattle.iface_ingress.specs.Incoming.{IncomingValue, Ip4, Ip6, IsIncoming, IsPacketV4, IsPacketV6}
use Rattle.iface_ingress.specs.Processed.{is_known_v6}
use Rattle.iface_ingress.specs.FragmentStored.{IsDamaged}
use Rattle.iface_ingress.specs.Reassembled.{uncut}
use Rattle.iface_ingress.proofs.FramesArrive.{fragment-arrives}
use Rattle.sim_link.specs.PacketInFrame.{packet_in}
use Rattle.sim_link.specs.Parts.{may_carry, is_ipv4, is_ipv6, is_uncut, payload_v4, payload_v6, tcp_part, bytes_at, damaged}
use Rattle.sim_link.specs.declared.part.Part.{Part}
use Rattle.sim_link.specs.Slices.{IsLinkHeader, bytes_of_slice}
use Rattle.lan.specs.Worlds.Link.Made.{Makes, sealed, bytes_of}
use Rattle.lan.specs.Worlds.Link.Frames.{Outgoing, medium_on, IsSlice, IsWhole6, IsFragment6, IsLinkHeader6, IsFrom, BringsFrom, AreOut}
use Rattle.lan.specs.Worlds.Link.Sides.{IsHostFrame, IsDamage}
use Rattle.lan.proofs.Worlds.Link.Following.{sealed_both, with_len, value_with, count_of_slice, fragment_of_slice, read_slice, read_v6, read_following4, read_following6}
use Rattle.lan.proofs.Worlds.Link.Following.{ether_front, said, none_left}
use Rattle.lan.proofs.Worlds.Link.Damaged.{put_following, put_len, segment_checked, hands_damaged, no_segment}
use Rattle.lan.proofs.Worlds.Link.HostFrames.{other_version}
use Rattle.lan.proofs.Worlds.Link.Spelled.{length_v4, length_v6}
use Rattle.lan.proofs.Worlds.Link.Whole6.{known_whole}

-- TESTS

all_of : (a b c d : Bool) → a && b && c && d ≡ true → (c ≡ true) × (d ≡ true)
all_of true true true true is = (refl, refl)
all_of true true true false is = absurd cc
all_of true true false d is = absurd cc
all_of true false c d is = absurd cc
all_of false b c d is = absurd cc

last_of : (a b c : Bool) → a && b && c ≡ true → c ≡ true
last_of true true c is = is
last_of true false c is = absurd cc
last_of false b c is = absurd cc

first_or : (y e : Bool) (p q part : Part) → e ≡ false → cond y (Some p) (cond e (Some q) None) ≡ Some part → (y ≡ true) × (part ≡ p)
first_or true e p q part none is = (refl, cc)
first_or false true p q part none is = absurd cc
first_or false false p q part none is = absurd cc

second_or : (y e : Bool) (p q part : Part) → y ≡ false → cond y (Some p) (cond e (Some q) None) ≡ Some part → (e ≡ true) × (part ≡ q)
second_or true e p q part none is = absurd cc
second_or false true p q part none is = (refl, cc)
second_or false false p q part none is = absurd cc

first_no : (a b c : Bool) → a ≡ false → a && b && c ≡ false
first_no a b c none = rw none refl

first_no4 : (a b c d : Bool) → a ≡ false → a && b && c && d ≡ false
first_no4 a b c d none = rw none refl

second_no4 : (a b c d : Bool) → b ≡ false → a && b && c && d ≡ false
second_no4 true b c d none = rw none refl
second_no4 false b c d none = refl

middle_no : (a b c : Bool) → b ≡ false → a && b && c ≡ false
middle_no true b c none = rw none refl
middle_no false b c none = refl

last_no : (a b c : Bool) → c ≡ false → a && b && c ≡ false
last_no true true c none = none
last_no true false c none = refl
last_no false b c none = refl

neither : (y e : Bool) (p q : Part) → y ≡ false → e ≡ false → (let o : Option Part = cond y (Some p) (cond e (Some q) None) in o) ≡ None
neither y e p q first second = rw (first, second) refl

not_equal : (n m k : ℕ) → n ≡ k → (let b : Bool = k == m in b) ≡ false → n == m ≡ false
not_equal n m k is other = rw is other

number_of : (n m : ℕ) → n == m ≡ true → n ≡ m
number_of n m is = grind (arith, nat_tests, is)

-- THE WORD

-- after two headers
put_following_both : (link w x : List ℕ) (n slot word : ℕ) → n ≡ length link + (length w + slot) →
    put16 (link ++ (w ++ x)) n word ≡ link ++ (w ++ put16 x slot word)
put_following_both link w x n slot word is =
    put_following link (w ++ x) n (length w + slot) word is ∙ ap (λ (l : List ℕ). link ++ l) (put_following w x (length w + slot) slot word refl)

bytes_following : (link w x : List ℕ) (n m : ℕ) → n ≡ length link + length w → m ≡ length x → slice_range (link ++ (w ++ x)) n (n + m) ≡ x
bytes_following link w x n m at len =
    let count : n + m - n ≡ length x = omega (arith, len) in
    let long : length (link ++ w) ≡ n = length-append link w ∙ sym at in
    ap (λ (k : ℕ). take k (drop n (link ++ (w ++ x)))) count
    ∙ ap (λ (l : List ℕ). take (length x) (drop n l)) (sym (append_assoc link w x))
    ∙ ap (take (length x)) (drop_at (link ++ w) x n long)
    ∙ ap (take (length x)) (sym (append-nil x)) ∙ take_at x [] (length x) refl

-- IPV4

version_no6 : (medium : Medium) (link packet : List ℕ) → IsLinkHeader medium link → slice_index packet 0 / 16 ≡ 4
    → may_carry medium 0x86dd (link ++ packet) && is_ipv6 (packet_in medium (link ++ packet)) &&
    (slice_index (packet_in medium (link ++ packet)) 6 == 6) ≡ false
version_no6 Medium.Ethernet link packet is_link version =
    let q : List ℕ = packet_in Medium.Ethernet (link ++ packet) in
    let number : be16 (link ++ packet) 12 ≡ 0x0800 = ether_front link packet is_link.len ∙ said (be16 link 12) 0x0800 is_link.carries in
    first_no (may_carry Medium.Ethernet 0x86dd (link ++ packet)) (is_ipv6 q) (slice_index q 6 == 6)
    (not_equal (be16 (link ++ packet) 12) 0x86dd 0x0800 number refl)
version_no6 Medium.Ip link packet is_link version =
    let q : List ℕ = link ++ packet in
    let same : q ≡ packet = ap (λ (l : List ℕ). l ++ packet) (none_left link is_link.len) in
    let no : slice_index q 0 / 16 == 6 ≡ false = not_equal (slice_index q 0 / 16) 6 4 (ap (λ (l : List ℕ). slice_index l 0 / 16) same ∙ version) refl in
    middle_no true (is_ipv6 q) (slice_index q 6 == 6) (middle_no (nat_le 40 (length q)) (slice_index q 0 / 16 == 6) (nat_le (40 + be16 q 4) (length q)) no)

version_no4 : (medium : Medium) (link : List ℕ) (h : Ipv6Repr) (bytes : List ℕ) (b c : Bool) → IsLinkHeader6 medium link
    → may_carry medium 0x0800 (link ++ (Ipv6.written h ++ bytes)) && is_ipv4 (packet_in medium (link ++ (Ipv6.written h ++ bytes))) && b && c ≡ false
version_no4 Medium.Ethernet link h bytes b c is_link =
    let packet : List ℕ = Ipv6.written h ++ bytes in
    let number : be16 (link ++ packet) 12 ≡ 0x86dd = ether_front link packet is_link.len ∙ said (be16 link 12) 0x86dd is_link.carries in
    first_no4 (may_carry Medium.Ethernet 0x0800 (link ++ packet)) (is_ipv4 (packet_in Medium.Ethernet (link ++ packet))) b c
    (not_equal (be16 (link ++ packet) 12) 0x0800 0x86dd number refl)
version_no4 Medium.Ip link h bytes b c is_link =
    let packet : List ℕ = Ipv6.written h ++ bytes in
    let same : link ++ packet ≡ packet = ap (λ (l : List ℕ). l ++ packet) (none_left link is_link.len) in
    second_no4 true (is_ipv4 (link ++ packet)) b c (ap is_ipv4 same ∙ other_version h bytes)

-- a packet of which nobody cut anything
at_start : (packet : List ℕ) (at : ℕ) → be16 packet 6 % 2 ^ 14 ≡ 0 → at ≡ 8 * (be16 packet 6 % 2 ^ 13) → at ≡ 0
at_start packet at uncut is = omega (arith, uncut, is)

no_more : (packet : List ℕ) (more : Bool) → be16 packet 6 % 2 ^ 14 ≡ 0 → slice_index packet 7 < 256 → more ≡ has_flag (slice_index packet 6) 32 → more ≡ false
no_more packet more uncut low is =
    let none : slice_index packet 6 / 32 % 2 ≡ 0 = omega (arith, uncut, low) in
    is ∙ not_equal (slice_index packet 6 / 32 % 2) 1 0 none refl

-- WHAT IT BRINGS: a packet that nobody cut, of TCP, whose payload is no segment

pub record IsBad4 (v : IncomingValue) : Type 0 where
  pub link : Option EthernetRepr
  pub header : Ipv4Repr
  pub payload : List ℕ
  pub value_is : v ≡ Ip4 link header uncut payload
  pub bad : IsDamaged sealed (Ip.Ipv4 header) payload

pub record IsBad6 (v : IncomingValue) : Type 0 where
  pub link : Option EthernetRepr
  pub header : Ipv6Repr
  pub payload : List ℕ
  pub value_is : v ≡ Ip6 link header payload
  pub bad : IsDamaged sealed (Ip.Ipv6 header) payload

abbrev pub IsBad : IncomingValue → Type 0
IsBad v = IsBad4 v ⊎ IsBad6 v

-- whatever such a host reads in the frame
abbrev pub BringsBad : HardwareAddress → List ℕ → Type 0
BringsBad hardware frame = (v : IncomingValue) → IsIncoming hardware sealed frame v → IsBad v

bad_from : (made : Makes) (out : List Outgoing) (v : IncomingValue) → IsBad v → IsFrom made out v
bad_from made out v (inl b) =
    subst (IsFrom made out) (sym b.value_is)
    (inl (λ cut. absurd (let e : true ≡ false = sym cut ∙ refl in cc), hands_damaged made (Ip.Ipv4 b.header) b.payload b.bad))
bad_from made out v (inr b) =
    subst (IsFrom made out) (sym b.value_is)
    (inl (known_whole b.header b.payload (ap is_known_v6 b.bad.0), hands_damaged made (Ip.Ipv6 b.header) b.payload b.bad))

module _ (made : Makes) (hardware : HardwareAddress) (out : List Outgoing) (all : AreOut made out) (frame : List ℕ) (part : Part)
    (slot word : ℕ) where
  module _ (f : IsSlice (medium_on hardware) out frame) (is_part : tcp_part (medium_on hardware) frame ≡ Some part) where
    abbrev w : List ℕ
    w = Ipv4.written_fragment true (with_len f.header f.slice.count) f.slice.at f.slice.more

    abbrev x : List ℕ
    x = bytes_of_slice f.bytes f.slice

    abbrev packet : List ℕ
    packet = w ++ x

    abbrev header : Ipv4Repr
    header = Ipv4.normal (with_len f.header f.slice.count)

    known : IsPacketV4 sealed packet header (fragment_of_slice f.slice) x
    known = subst (λ (b : List ℕ). IsPacketV4 sealed b header (fragment_of_slice f.slice) x) (append-nil packet)
        (read_slice f.header f.bytes [] f.slice f.sent.value f.sent.short f.within f.unit)

    inside : packet_in (medium_on hardware) (f.link ++ packet) ≡ packet
    inside = drop_at f.link packet (frame_header (medium_on hardware)) f.is_link.len

    abbrev q : List ℕ
    q = packet_in (medium_on hardware) (f.link ++ packet)

    told : (may_carry (medium_on hardware) 0x0800 (f.link ++ packet) && is_ipv4 q && is_uncut q && (slice_index q 9 == 6) ≡ true) ×
        (part ≡ payload_v4 (medium_on hardware) q)
    told = first_or (may_carry (medium_on hardware) 0x0800 (f.link ++ packet) && is_ipv4 q && is_uncut q && (slice_index q 9 == 6))
        (may_carry (medium_on hardware) 0x86dd (f.link ++ packet) && is_ipv6 q && (slice_index q 6 == 6)) (payload_v4 (medium_on hardware) q)
        (payload_v6 (medium_on hardware) q) part
        (version_no6 (medium_on hardware) f.link packet f.is_link known.format.version) (sym (ap (tcp_part (medium_on hardware)) f.frame_is) ∙ is_part)

    tests : (is_uncut q ≡ true) × (slice_index q 9 == 6 ≡ true)
    tests = all_of (may_carry (medium_on hardware) 0x0800 (f.link ++ packet)) (is_ipv4 q) (is_uncut q) (slice_index q 9 == 6) told.0

    flags : be16 packet 6 % 2 ^ 14 ≡ 0
    flags = ap (λ (l : List ℕ). be16 l 6 % 2 ^ 14) (sym inside) ∙ number_of (be16 q 6 % 2 ^ 14) 0 tests.0

    low : slice_index packet 7 < 256
    low = omega arith

    start : f.slice.at ≡ 0
    start = at_start packet f.slice.at flags (ap (λ (p : Ipv4Fragment). p.offset) known.fragment_is)

    ended : f.slice.more ≡ false
    ended = no_more packet f.slice.more flags low (ap (λ (p : Ipv4Fragment). p.more) known.fragment_is)

    protocol : header.next_header ≡ Protocol.Tcp
    protocol = known.format.protocol ∙ ap protocol_of (ap (λ (l : List ℕ). slice_index l 9) (sym inside) ∙ number_of (slice_index q 9) 6 tests.1)

    size : be16 packet 2 - 20 ≡ f.slice.count
    size = let p = known.format.payload in omega (arith, p)

    part_at : part.at ≡ frame_header (medium_on hardware) + 20
    part_at = ap (λ (p : Part). p.at) told.1 ∙ ap (λ (l : List ℕ). frame_header (medium_on hardware) + header_len_of l) inside

    part_len : part.len ≡ f.slice.count
    part_len = ap (λ (p : Part). p.len) told.1 ∙ ap (λ (l : List ℕ). be16 l 2 - header_len_of l) inside ∙ size

    long_w : length w ≡ 20
    long_w = length_v4 (with_len f.header f.slice.count) f.slice.at f.slice.more (value_with f.header f.slice.count f.sent.value)

    long_x : length x ≡ f.slice.count
    long_x = count_of_slice f.bytes f.slice f.within

    segment_is : bytes_at frame part ≡ x
    segment_is = ap (λ (b : List ℕ). bytes_at b part) f.frame_is
        ∙ bytes_following f.link w x part.at part.len (omega (arith, part_at, f.is_link.len, long_w)) (part_len ∙ sym long_x)

    damaged_is : damaged frame part slot word ≡ f.link ++ (w ++ put16 x slot word)
    damaged_is = ap (λ (b : List ℕ). put16 b (part.at + slot) word) f.frame_is
        ∙ put_following_both f.link w x (part.at + slot) slot word (omega (arith, part_at, f.is_link.len, long_w))

    all_bytes : x ≡ f.bytes
    all_bytes =
        let count : f.slice.at + f.slice.count ≡ length f.bytes = f.within.last ended in
        let number : f.slice.count ≡ length f.bytes = omega (arith, count, start) in
        ap (λ (n : ℕ). take n (drop f.slice.at f.bytes)) number ∙ ap (λ (n : ℕ). take (length f.bytes) (drop n f.bytes)) start
        ∙ ap (take (length f.bytes)) (sym (append-nil f.bytes)) ∙ take_at f.bytes [] (length f.bytes) refl

    protocol_sent : carried_in (Ips.normal f.sent.packet.header) ≡ Protocol.Tcp
    protocol_sent = ap (λ (h : IpRepr). carried_in (Ips.normal h)) f.sent.header ∙ protocol

    checked : Tcp.IsChecked (source_of (Ip.Ipv4 header)) (destination_of (Ip.Ipv4 header)) x
    checked =
        let of_packet = segment_checked made f.sent.packet (all f.sent.packet f.sent.among) protocol_sent in
        let of_header : Tcp.IsChecked (source_of (Ip.Ipv4 header)) (destination_of (Ip.Ipv4 header)) (bytes_of f.sent.packet) =
        subst (λ (h : IpRepr). Tcp.IsChecked (source_of (Ips.normal h)) (destination_of (Ips.normal h)) (bytes_of f.sent.packet)) f.sent.header of_packet in
        subst (λ (b : List ℕ). Tcp.IsChecked (source_of (Ip.Ipv4 header)) (destination_of (Ip.Ipv4 header)) b) (sym (all_bytes ∙ f.sent.bytes_are)) of_header

    slice_bad : (padding : List ℕ) → IsDamage frame part slot word → BringsBad hardware (damaged frame part slot word ++ padding)
    slice_bad padding damage v is =
        let x' : List ℕ = put16 x slot word in
        let joined : damaged frame part slot word ++ padding ≡ f.link ++ ((w ++ x') ++ padding) = ap (λ (b : List ℕ). b ++ padding) damaged_is ∙
        append_assoc f.link (w ++ x') padding in
        let len : f.slice.count ≡ length x' = sym (put_len x slot word ∙ long_x) in
        let read : IsPacketV4 sealed ((w ++ x') ++ padding) header (fragment_of_slice f.slice) x' =
        fragment-arrives Hardware.Ip sealed sealed None (with_len f.header f.slice.count) (fragment_of_slice f.slice) x' padding tt
        (let a = f.within.within in let b = f.sent.short in omega (arith, a, b)) (value_with f.header f.slice.count f.sent.value) len (let a =
        f.within.within in let b = f.sent.short in omega (arith, a, b)) f.unit sealed_both in
        let found = read_following4 ((w ++ x') ++ padding) header (fragment_of_slice f.slice) x' read hardware f.link v f.is_link
        (subst (λ (b : List ℕ). IsIncoming hardware sealed b v) joined is) in
        let whole : fragment_of_slice f.slice ≡ uncut = λ k. record { offset = start k; more = ended k } in
        let other : be16 x slot % 65535 ≢ word % 65535 = subst (λ (b : List ℕ). be16 b slot % 65535 ≢ word % 65535) segment_is damage.other in
        let room : slot + 2 ≤ length x = let a = damage.within in omega (arith, a, part_len, long_x) in
        inl (record {
          link = found.0;
          header = header;
          payload = x';
          value_is = found.1 ∙ ap (λ (p : Ipv4Fragment). Ip4 found.0 header p x') whole;
          bad = no_segment (Ip.Ipv4 header) x slot word protocol checked damage.even room damage.small other;
        })

  -- IPV6

  module _ (f : IsWhole6 (medium_on hardware) out frame) (is_part : tcp_part (medium_on hardware) frame ≡ Some part) where
    abbrev w6 : List ℕ
    w6 = Ipv6.written f.header

    abbrev packet6 : List ℕ
    packet6 = w6 ++ f.bytes

    abbrev header6 : Ipv6Repr
    header6 = Ipv6.normal f.header

    known6 : IsPacketV6 packet6 header6 f.bytes
    known6 = subst (λ (b : List ℕ). IsPacketV6 b header6 f.bytes) (append-nil packet6) (read_v6 f.header f.bytes [] f.sent.value f.sent.fits f.sent.len)

    inside6 : packet_in (medium_on hardware) (f.link ++ packet6) ≡ packet6
    inside6 = drop_at f.link packet6 (frame_header (medium_on hardware)) f.is_link.len

    abbrev q6 : List ℕ
    q6 = packet_in (medium_on hardware) (f.link ++ packet6)

    told6 : (may_carry (medium_on hardware) 0x86dd (f.link ++ packet6) && is_ipv6 q6 && (slice_index q6 6 == 6) ≡ true) ×
        (part ≡ payload_v6 (medium_on hardware) q6)
    told6 = second_or (may_carry (medium_on hardware) 0x0800 (f.link ++ packet6) && is_ipv4 q6 && is_uncut q6 && (slice_index q6 9 == 6))
        (may_carry (medium_on hardware) 0x86dd (f.link ++ packet6) && is_ipv6 q6 && (slice_index q6 6 == 6)) (payload_v4 (medium_on hardware) q6)
        (payload_v6 (medium_on hardware) q6) part
        (version_no4 (medium_on hardware) f.link f.header f.bytes (is_uncut q6) (slice_index q6 9 == 6) f.is_link)
        (sym (ap (tcp_part (medium_on hardware)) f.frame_is) ∙ is_part)

    protocol6 : header6.next_header ≡ Protocol.Tcp
    protocol6 = known6.format.protocol
        ∙ ap protocol_of (ap (λ (l : List ℕ). slice_index l 6) (sym inside6) ∙
        number_of (slice_index q6 6) 6 (last_of (may_carry (medium_on hardware) 0x86dd (f.link ++ packet6)) (is_ipv6 q6) (slice_index q6 6 == 6) told6.0))

    part_at6 : part.at ≡ frame_header (medium_on hardware) + 40
    part_at6 = ap (λ (p : Part). p.at) told6.1

    part_len6 : part.len ≡ length f.bytes
    part_len6 = ap (λ (p : Part). p.len) told6.1 ∙ ap (λ (l : List ℕ). be16 l 4) inside6 ∙ sym known6.format.payload ∙ f.sent.len

    long_w6 : length w6 ≡ 40
    long_w6 = length_v6 f.header f.sent.value

    segment_is6 : bytes_at frame part ≡ f.bytes
    segment_is6 = ap (λ (b : List ℕ). bytes_at b part) f.frame_is
        ∙ bytes_following f.link w6 f.bytes part.at part.len (omega (arith, part_at6, f.is_link.len, long_w6)) part_len6

    damaged_is6 : damaged frame part slot word ≡ f.link ++ (w6 ++ put16 f.bytes slot word)
    damaged_is6 = ap (λ (b : List ℕ). put16 b (part.at + slot) word) f.frame_is
        ∙ put_following_both f.link w6 f.bytes (part.at + slot) slot word (omega (arith, part_at6, f.is_link.len, long_w6))

    protocol_sent6 : carried_in (Ips.normal f.sent.packet.header) ≡ Protocol.Tcp
    protocol_sent6 = ap (λ (h : IpRepr). carried_in (Ips.normal h)) f.sent.header ∙ protocol6

    checked6 : Tcp.IsChecked (source_of (Ip.Ipv6 header6)) (destination_of (Ip.Ipv6 header6)) f.bytes
    checked6 =
        let of_packet = segment_checked made f.sent.packet (all f.sent.packet f.sent.among) protocol_sent6 in
        let of_header : Tcp.IsChecked (source_of (Ip.Ipv6 header6)) (destination_of (Ip.Ipv6 header6)) (bytes_of f.sent.packet) =
        subst (λ (h : IpRepr). Tcp.IsChecked (source_of (Ips.normal h)) (destination_of (Ips.normal h)) (bytes_of f.sent.packet)) f.sent.header of_packet in
        subst (λ (b : List ℕ). Tcp.IsChecked (source_of (Ip.Ipv6 header6)) (destination_of (Ip.Ipv6 header6)) b) (sym f.sent.bytes_are) of_header

    whole6_bad : (padding : List ℕ) → IsDamage frame part slot word → BringsBad hardware (damaged frame part slot word ++ padding)
    whole6_bad padding damage v is =
        let x' : List ℕ = put16 f.bytes slot word in
        let joined : damaged frame part slot word ++ padding ≡ f.link ++ ((w6 ++ x') ++ padding) = ap (λ (b : List ℕ). b ++ padding) damaged_is6 ∙
        append_assoc f.link (w6 ++ x') padding in
        let len : f.header.payload_len ≡ length x' = f.sent.len ∙ sym (put_len f.bytes slot word) in
        let found = read_following6 ((w6 ++ x') ++ padding) header6 x' (read_v6 f.header x' padding f.sent.value f.sent.fits len) hardware f.link v f.is_link
        (subst (λ (b : List ℕ). IsIncoming hardware sealed b v) joined is) in
        let other : be16 f.bytes slot % 65535 ≢ word % 65535 = subst (λ (b : List ℕ). be16 b slot % 65535 ≢ word % 65535) segment_is6 damage.other in
        let room : slot + 2 ≤ length f.bytes = let a = damage.within in omega (arith, a, part_len6) in
        inr (record {
          link = found.0;
          header = header6;
          payload = x';
          value_is = found.1;
          bad = no_segment (Ip.Ipv6 header6) f.bytes slot word protocol6 checked6 damage.even room damage.small other;
        })

  -- a fragment of IPv6 has no segment
  module _ (f : IsFragment6 (medium_on hardware) out frame) where
    abbrev packet_p : List ℕ
    packet_p = Ipv6.written (fragment_v6 f.header f.fragment) ++ (fragment_header f.header.next_header f.number f.fragment ++ f.fragment.bytes)

    abbrev q_p : List ℕ
    q_p = packet_in (medium_on hardware) (f.link ++ packet_p)

    no_tcp : slice_index q_p 6 == 6 ≡ false
    no_tcp = ap (λ (l : List ℕ). slice_index l 6 == 6) (drop_at f.link packet_p (frame_header (medium_on hardware)) f.is_link.len)

    fragment6_none : tcp_part (medium_on hardware) frame ≡ None
    fragment6_none =
        ap (tcp_part (medium_on hardware)) f.frame_is
        ∙ neither (may_carry (medium_on hardware) 0x0800 (f.link ++ packet_p) && is_ipv4 q_p && is_uncut q_p && (slice_index q_p 9 == 6))
        (may_carry (medium_on hardware) 0x86dd (f.link ++ packet_p) && is_ipv6 q_p && (slice_index q_p 6 == 6)) (payload_v4 (medium_on hardware) q_p)
        (payload_v6 (medium_on hardware) q_p)
        (version_no4 (medium_on hardware) f.link (fragment_v6 f.header f.fragment) (fragment_header f.header.next_header f.number f.fragment ++ f.fragment.bytes)
        (is_uncut q_p) (slice_index q_p 9 == 6) f.is_link)
        (last_no (may_carry (medium_on hardware) 0x86dd (f.link ++ packet_p)) (is_ipv6 q_p) (slice_index q_p 6 == 6) no_tcp)

  -- EITHER

  none_there : (o : Option Part) → o ≡ None → o ≡ Some part → ⊥
  none_there o none some = cc

  -- a host's frame with a word of its TCP segment exchanged, and any padding
  pub damaged_bad : (padding : List ℕ) → IsHostFrame (medium_on hardware) out frame → tcp_part (medium_on hardware) frame ≡ Some part →
      IsDamage frame part slot word
      → BringsBad hardware (damaged frame part slot word ++ padding)
  damaged_bad padding (inl f) is damage = slice_bad f is padding damage
  damaged_bad padding (inr (inl f)) is damage = whole6_bad f is padding damage
  damaged_bad padding (inr (inr (inl f))) is damage = absurd (none_there (tcp_part (medium_on hardware) frame) (fragment6_none f) is)
  damaged_bad padding (inr (inr (inr f))) is damage = absurd (none_there (tcp_part (medium_on hardware) frame) f.no_segment is)

  pub damaged_brings : (padding : List ℕ) → IsHostFrame (medium_on hardware) out frame → tcp_part (medium_on hardware) frame ≡ Some part →
      IsDamage frame part slot word
      → BringsFrom made out hardware (damaged frame part slot word ++ padding)
  damaged_brings padding f is damage v read = bad_from made out v (damaged_bad padding f is damage v read)
