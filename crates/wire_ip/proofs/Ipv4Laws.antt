-- A packet's header and what spells it.
use Rattle.std.proofs.Common.{◌≡◌, ℕ, ◌+◌, ◌-◌, ◌/◌, ◌<◌, ◌≤◌, ◌%◌, ◌^◌, Bool, true, false, IsTrue, List, [], ◌++◌, length, take, drop, refl, sym, ◌∙◌, ap}
use Rattle.std.proofs.Common.{subst, arith, length-append, append_assoc}
use Rattle.std.specs.Prelude.{slice_range, slice_index}
use Rattle.std.proofs.lemmas.List.{take_at, drop_at}
use Rattle.wire_address.proofs.Sums.{ChecksumHolds-complement}
use Rattle.wire_address.specs.Fields.{be16, IsBytes}
use Rattle.wire_address.specs.Protocol.{protocol_number}
use Rattle.wire_address.specs.Sum.{word_sum, ChecksumHolds, complement}
use Rattle.wire_ip.specs.Ipv4.{IsIpv4, IsQuoted, IsValue, IsKeyOf, Fits, key_of, fragment_of, spelling, sent_fields, free_fields, written_as, written}
use Rattle.wire_ip.specs.Ipv4.{header_len_of, payload_of, normal}
use Rattle.wire_ip.proofs.Flags.{field-read, dont_frag-sent, more-sent, offset-sent}
use Rattle.wire_ip.specs.declared.ipv4.fragment.Ipv4Fragment.{Ipv4Fragment}
use Rattle.wire_ip.specs.declared.ipv4.repr.Ipv4Repr.{Ipv4Repr}
use Rattle.wire_address.specs.declared.ip.IpProtocol.{IpProtocol}
use Rattle.wire_address.specs.declared.ipv4.Ipv4FragKey.{Ipv4FragKey}
use Rattle.wire_address.proofs.Peel.{peel8, peel16, peel_to, length-slice_range}
use Rattle.wire_address.proofs.Numbers.{protocol_number-protocol_of}

-- the header of a packet that was read is one that can be quoted
pub IsQuoted-whole : (tested : Bool) (bytes : List ℕ) (v : Ipv4Repr) → IsIpv4 tested bytes v → IsQuoted bytes v (header_len_of bytes)
IsQuoted-whole tested bytes v is = record {
  room = is.whole.room;
  version = is.version;
  header = refl;
  least = is.whole.header;
  within = omega (arith, is.whole.least, is.whole.within);
  identification = is.identification;
  dont_frag = is.dont_frag;
  source = is.source;
  destination = is.destination;
  protocol = is.protocol;
  payload = omega (arith, is.payload);
  hop_limit = is.hop_limit;
}

-- a quoted header is spelled by its value, with what the value doesn't keep, where the total length covers it
pub header-spelling : (bytes : List ℕ) (v : Ipv4Repr) (header_len : ℕ) → IsBytes bytes → IsQuoted bytes v header_len → header_len ≤ be16 bytes 2
    → bytes ≡ spelling v (free_fields bytes) ++ drop header_len bytes
header-spelling bytes v header_len small is least =
    let options : List ℕ = slice_range bytes 20 (header_len_of bytes) in
    let following : List ℕ = drop header_len bytes in
    let len : 20 + length options ≡ header_len_of bytes =
    length-slice_range bytes 20 (header_len_of bytes) (omega (arith, is.header, is.least)) (omega (arith, is.header, is.within)) in
    let total : 20 + length options + v.payload_len ≡ be16 bytes 2 = omega (arith, len, is.header, is.payload, least) in
    let protocol : protocol_number v.next_header ≡ slice_index bytes 9 = ap protocol_number is.protocol ∙ protocol_number-protocol_of (slice_index bytes 9) in
    let addresses : (v.src_addr.0 ++ (v.dst_addr.0 ++ options)) ++ following ≡ v.src_addr.0 ++ (v.dst_addr.0 ++ (options ++ following)) = simp append_assoc in
    peel8 bytes 0 (64 + (20 + length options) / 4) _ (omega (arith, is.room)) (omega (arith, len, is.version)) (
    peel8 bytes 1 (slice_index bytes 1) _ (omega (arith, is.room)) refl (
    peel16 bytes 2 (20 + length options + v.payload_len) _ small (omega (arith, is.room)) total (
    peel16 bytes 4 v.ident _ small (omega (arith, is.room)) is.identification (
    peel16 bytes 6 _ _ small (omega (arith, is.room)) (field-read bytes v.dont_frag small is.dont_frag) (
    peel8 bytes 8 v.hop_limit _ (omega (arith, is.room)) is.hop_limit (
    peel8 bytes 9 (protocol_number v.next_header) _ (omega (arith, is.room)) protocol (
    peel16 bytes 10 (be16 bytes 10) _ small (omega (arith, is.room)) refl (
    peel_to bytes 12 16 v.src_addr.0 (v.dst_addr.0 ++ (options ++ following)) (omega arith) is.source (
    peel_to bytes 16 20 v.dst_addr.0 (options ++ following) (omega arith) is.destination (
    peel_to bytes 20 (header_len_of bytes) options following (omega (arith, is.header, is.least)) refl (ap (λ k. drop k bytes) (sym is.header))
    )
    )
    ∙ sym addresses
    )
    )
    )
    )
    )
    )
    )
    )

-- a packet is spelled by its header, with what a value doesn't keep, and then come payload and padding
pub bytes-spelling : (tested : Bool) (bytes : List ℕ) (v : Ipv4Repr) → IsBytes bytes → IsIpv4 tested bytes v →
    bytes ≡ spelling v (free_fields bytes) ++ drop (header_len_of bytes) bytes
bytes-spelling tested bytes v small is =
    header-spelling bytes v (header_len_of bytes) small (IsQuoted-whole tested bytes v is) (omega (arith, is.payload))

-- a number in the checksum field adds itself to the word sum
word_sum-check : (v : Ipv4Repr) (fragment : Ipv4Fragment) (check : ℕ) → check < 65536 →
    word_sum (spelling v (sent_fields fragment check)) ≡ word_sum (spelling v (sent_fields fragment 0)) + check
word_sum-check v fragment check small = omega arith

-- a header whose checksum was written holds it
ChecksumHolds-written : (v : Ipv4Repr) (fragment : Ipv4Fragment) → ChecksumHolds (word_sum (written_as true v fragment))
ChecksumHolds-written v fragment =
    let total : ℕ = word_sum (spelling v (sent_fields fragment 0)) in
    subst ChecksumHolds (sym (word_sum-check v fragment (complement total) (omega arith))) (ChecksumHolds-complement total)

-- how long a header is that is sent
pub length-spelling : (v : Ipv4Repr) (fragment : Ipv4Fragment) (check : ℕ) → IsValue v → length (spelling v (sent_fields fragment check)) ≡ 20
length-spelling v fragment check value =
    omega (arith, value.source.0, value.destination.0, length-append v.src_addr.0 (v.dst_addr.0 ++ []), length-append v.dst_addr.0 [])

-- addresses after the first twelve bytes, read
pub take-first : (source destination rest : List ℕ) → length source ≡ 4 → source ≡ take 4 ((source ++ (destination ++ [])) ++ rest)
take-first source destination rest len =
    sym (ap (take 4) (append_assoc source (destination ++ []) rest) ∙ take_at source ((destination ++ []) ++ rest) 4 len)

pub take-second : (source destination rest : List ℕ) → length source ≡ 4 → length destination ≡ 4 →
    destination ≡ take 4 (drop 4 ((source ++ (destination ++ [])) ++ rest))
take-second source destination rest first second =
    sym (
    ap (λ xs. take 4 (drop 4 xs)) (append_assoc source (destination ++ []) rest)
    ∙ ap (take 4) (drop_at source ((destination ++ []) ++ rest) 4 first)
    ∙ ap (take 4) (append_assoc destination [] rest)
    ∙ take_at destination ([] ++ rest) 4 second
    )

-- a packet whose header was emitted, up to its checksum
IsIpv4-spelling : (tested : Bool) (v : Ipv4Repr) (fragment : Ipv4Fragment) (check : ℕ) (rest : List ℕ) → Fits v → IsValue v → fragment.offset < 2 ^ 16 →
    v.payload_len ≤ length rest → (IsTrue tested → ChecksumHolds (word_sum (spelling v (sent_fields fragment check))))
    → IsIpv4 tested (spelling v (sent_fields fragment check) ++ rest) (normal v)
IsIpv4-spelling tested v fragment check rest fits value short within holds =
    let header : length (spelling v (sent_fields fragment check)) ≡ 20 = length-spelling v fragment check value in
    let all : length (spelling v (sent_fields fragment check) ++ rest) ≡ 20 + length rest = length-append (spelling v (sent_fields fragment check)) rest ∙
    ap (λ n. n + length rest) header in
    record {
      whole = record { room = omega (arith, all); header = omega arith; least = omega (arith, fits); within = omega (arith, all, fits, within) };
      version = refl;
      checked = λ t. subst (λ xs. ChecksumHolds (word_sum xs)) (sym (take_at (spelling v (sent_fields fragment check)) rest 20 header)) (holds t);
      identification = omega (arith, value.identification);
      dont_frag = dont_frag-sent v.dont_frag fragment.more fragment.offset short;
      source = take-first v.src_addr.0 v.dst_addr.0 rest value.source.0;
      destination = take-second v.src_addr.0 v.dst_addr.0 rest value.source.0 value.destination.0;
      protocol = refl;
      payload = omega (arith, fits);
      hop_limit = refl;
    }

-- the header of a fragment that was emitted is read back in its canonical form, whatever follows the payload
IsIpv4-fragment : (tested sealed : Bool) (v : Ipv4Repr) (fragment : Ipv4Fragment) (rest : List ℕ) → Fits v → IsValue v → fragment.offset < 2 ^ 16 →
    v.payload_len ≤ length rest → (IsTrue tested → IsTrue sealed)
    → IsIpv4 tested (written_as sealed v fragment ++ rest) (normal v)
IsIpv4-fragment tested false v fragment rest fits value short within both = IsIpv4-spelling tested v fragment 0 rest fits value short within (λ t. absurd (cc (both t)))
IsIpv4-fragment tested true v fragment rest fits value short within both =
    IsIpv4-spelling tested v fragment (complement (word_sum (spelling v (sent_fields fragment 0)))) rest fits value short within (λ _. ChecksumHolds-written v fragment)

-- so is that of a datagram that nobody cut
pub IsIpv4-written : (tested sealed : Bool) (v : Ipv4Repr) (rest : List ℕ) → Fits v → IsValue v → v.payload_len ≤ length rest →
    (IsTrue tested → IsTrue sealed) → IsIpv4 tested (written sealed v ++ rest) (normal v)
IsIpv4-written tested sealed v rest fits value within both =
    IsIpv4-fragment tested sealed v (record { offset = 0; more = false }) rest fits value (omega arith) within both

-- which fragment it is stands in the header
abbrev fragment-at : ℕ → Bool → Ipv4Fragment
fragment-at offset more = record { offset = offset; more = more }

pub fragment_of-written : (sealed : Bool) (v : Ipv4Repr) (fragment : Ipv4Fragment) (rest : List ℕ) → fragment.offset < 2 ^ 16 → fragment.offset % 8 ≡ 0 →
    fragment_of (written_as sealed v fragment ++ rest) ≡ fragment
fragment_of-written sealed v fragment rest short whole =
    ap (λ n. fragment-at n (fragment_of (written_as sealed v fragment ++ rest)).more) (offset-sent v.dont_frag fragment.more fragment.offset short whole)
    ∙ ap (λ b. fragment-at fragment.offset b) (more-sent v.dont_frag fragment.more fragment.offset short)

pub reads-back : (tested sealed : Bool) (v : Ipv4Repr) (fragment : Ipv4Fragment) (rest : List ℕ) → Fits v → IsValue v → fragment.offset < 2 ^ 16 → fragment.offset % 8 ≡ 0 →
    v.payload_len ≤ length rest → (IsTrue tested → IsTrue sealed)
    → IsIpv4 tested (written_as sealed v fragment ++ rest) (normal v) × (fragment_of (written_as sealed v fragment ++ rest) ≡ fragment)
reads-back tested sealed v fragment rest fits value short whole within both =
    (IsIpv4-fragment tested sealed v fragment rest fits value short within both, fragment_of-written sealed v fragment rest short whole)

-- the key that the bytes show is that of the header
key-same : (id id' : ℕ) (source source' destination destination' : List ℕ) (p p' : IpProtocol) → id ≡ id' → source ≡ source' →
    destination ≡ destination' → p ≡ p'
    → (let k : Ipv4FragKey = record { id = id; src_addr = record { 0 = source }; dst_addr = record { 0 = destination }; protocol = p } in k) ≡
    record { id = id'; src_addr = record { 0 = source' }; dst_addr = record { 0 = destination' }; protocol = p' }
key-same id id' source source' destination destination' p p' a b c d = rw (a, b, c, d) refl

pub key-read : (tested : Bool) (bytes : List ℕ) (v : Ipv4Repr) (key : Ipv4FragKey) → IsIpv4 tested bytes v → IsKeyOf bytes key → key ≡ key_of v
key-read tested bytes v key is shows =
    key-same _ _ _ _ _ _ _ _ (shows.identification ∙ sym is.identification) (shows.source ∙ sym is.source) (shows.destination ∙
    sym is.destination) (shows.protocol ∙ sym is.protocol)

-- what a packet carries is as much of what comes after its header as the header says
pub payload_of-written : (sealed : Bool) (v : Ipv4Repr) (rest : List ℕ) → Fits v → IsValue v → payload_of (written sealed v ++ rest) ≡ take v.payload_len rest
payload_of-written sealed v rest fits value =
    let header : length (written sealed v) ≡ 20 =
    omega (arith, value.source.0, value.destination.0, length-append v.src_addr.0 (v.dst_addr.0 ++ []), length-append v.dst_addr.0 []) in
    let size : be16 (written sealed v ++ rest) 2 - 20 ≡ v.payload_len = omega (arith, fits) in
    ap (λ n. take n (drop 20 (written sealed v ++ rest))) size ∙ ap (take v.payload_len) (drop_at (written sealed v) rest 20 header)
