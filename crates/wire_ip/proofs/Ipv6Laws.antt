-- An IPv6 packet's header and what spells it.
use Rattle.std.proofs.Common.{◌≡◌, ℕ, ◌+◌, ◌-◌, ◌*◌, ◌/◌, ◌<◌, ◌≤◌, ◌^◌, List, ◌++◌, length, get_or, take, drop, refl, sym, ◌∙◌, ap, arith, length-append}
use Rattle.std.proofs.Common.{append_assoc}
use Rattle.std.specs.Prelude.{slice_index}
use Rattle.std.proofs.lemmas.List.{take_at, drop_at}
use Rattle.wire_address.specs.Fields.{be16, be32, IsBytes}
use Rattle.wire_address.specs.Protocol.{protocol_number}
use Rattle.wire_ip.specs.Ipv6.{IsIpv6, IsQuoted, IsValue, Fits, spelling, written, payload_of, class_and_flow, normal}
use Rattle.wire_ip.specs.declared.ipv6.repr.Ipv6Repr.{Ipv6Repr}
use Rattle.wire_address.proofs.Peel.{peel8, peel16, peel32, peel_to}
use Rattle.wire_address.proofs.Numbers.{protocol_number-protocol_of}

-- the first four bytes of a packet of version 6
first_word : (bytes : List ℕ) → IsBytes bytes → get_or bytes 0 0 / 16 ≡ 6 → 6 * 2 ^ 28 + class_and_flow bytes ≡ be32 bytes 0
first_word bytes small version =
    let b0 : get_or bytes 0 0 < 256 = small 0 in
    let b1 : get_or bytes 1 0 < 256 = small 1 in
    let b2 : get_or bytes 2 0 < 256 = small 2 in
    let b3 : get_or bytes 3 0 < 256 = small 3 in
    omega arith

-- the header of a packet that was read is one that can be quoted
pub IsQuoted-whole : (bytes : List ℕ) (v : Ipv6Repr) → IsIpv6 bytes v → IsQuoted bytes v 40
IsQuoted-whole bytes v is = record {
  room = is.whole.room;
  version = is.version;
  header = refl;
  source = is.source;
  destination = is.destination;
  protocol = is.protocol;
  payload = is.payload;
  hop_limit = is.hop_limit;
}

-- a quoted header is spelled by its value, with its class and flow
pub header-spelling : (bytes : List ℕ) (v : Ipv6Repr) (header_len : ℕ) → IsBytes bytes → IsQuoted bytes v header_len →
    bytes ≡ spelling v (class_and_flow bytes) ++ drop header_len bytes
header-spelling bytes v header_len small is =
    let protocol : protocol_number v.next_header ≡ slice_index bytes 6 = ap protocol_number is.protocol ∙ protocol_number-protocol_of (slice_index bytes 6) in
    let following : List ℕ = drop header_len bytes in
    peel32 bytes 0 (6 * 2 ^ 28 + class_and_flow bytes) _ small (omega (arith, is.room)) (first_word bytes small is.version) (
    peel16 bytes 4 v.payload_len _ small (omega (arith, is.room)) is.payload (
    peel8 bytes 6 (protocol_number v.next_header) _ (omega (arith, is.room)) protocol (
    peel8 bytes 7 v.hop_limit _ (omega (arith, is.room)) is.hop_limit (
    peel_to bytes 8 24 v.src_addr.0 (v.dst_addr.0 ++ following) (omega arith) is.source (
    peel_to bytes 24 40 v.dst_addr.0 following (omega arith) is.destination (ap (λ k. drop k bytes) (sym is.header))
    )
    ∙ sym (append_assoc v.src_addr.0 v.dst_addr.0 following)
    )
    )
    )
    )

-- a packet is spelled by its header, with its class and flow, and then come payload and padding
pub bytes-spelling : (bytes : List ℕ) (v : Ipv6Repr) → IsBytes bytes → IsIpv6 bytes v → bytes ≡ spelling v (class_and_flow bytes) ++ drop 40 bytes
bytes-spelling bytes v small is = header-spelling bytes v 40 small (IsQuoted-whole bytes v is)

-- addresses after the first eight bytes, read
pub take-first : (source destination rest : List ℕ) → length source ≡ 16 → source ≡ take 16 ((source ++ destination) ++ rest)
take-first source destination rest len =
    sym (ap (take 16) (append_assoc source destination rest) ∙ take_at source (destination ++ rest) 16 len)

pub take-second : (source destination rest : List ℕ) → length source ≡ 16 → length destination ≡ 16 →
    destination ≡ take 16 (drop 16 ((source ++ destination) ++ rest))
take-second source destination rest first second =
    sym (
    ap (λ xs. take 16 (drop 16 xs)) (append_assoc source destination rest)
    ∙ ap (take 16) (drop_at source (destination ++ rest) 16 first)
    ∙ take_at destination rest 16 second
    )

-- a packet whose header was emitted is read back in its canonical form, whatever follows the payload
pub IsIpv6-written : (v : Ipv6Repr) (rest : List ℕ) → Fits v → IsValue v → v.payload_len ≤ length rest → IsIpv6 (written v ++ rest) (normal v)
IsIpv6-written v rest fits value within =
    let all : length (written v ++ rest) ≡ 40 + length rest =
    omega (arith, value.source.0, value.destination.0, length-append (v.src_addr.0 ++ v.dst_addr.0) rest, length-append v.src_addr.0 v.dst_addr.0)
    in
    record {
      whole = record { room = omega (arith, all); within = omega (arith, all, fits, within) };
      version = refl;
      source = take-first v.src_addr.0 v.dst_addr.0 rest value.source.0;
      destination = take-second v.src_addr.0 v.dst_addr.0 rest value.source.0 value.destination.0;
      protocol = refl;
      payload = omega (arith, fits);
      hop_limit = refl;
    }

-- what a packet carries is as much of what comes after its header as the header says
pub payload_of-written : (v : Ipv6Repr) (rest : List ℕ) → Fits v → IsValue v → payload_of (written v ++ rest) ≡ take v.payload_len rest
payload_of-written v rest fits value =
    let header : length (written v) ≡ 40 = omega (arith, value.source.0, value.destination.0, length-append v.src_addr.0 v.dst_addr.0) in
    let size : 40 + be16 (written v ++ rest) 4 - 40 ≡ v.payload_len = omega (arith, fits) in
    ap (λ n. take n (drop 40 (written v ++ rest))) size ∙ ap (take v.payload_len) (drop_at (written v) rest 40 header)
