-- Quoted headers and what spells them.
use Rattle.std.proofs.Common.{◌≡◌, ℕ, ◌+◌, ◌<◌, ◌^◌, Bool, true, false, List, ◌++◌, length, get_or, refl, ◌∙◌, ap, arith, length-append}
use Rattle.wire_address.specs.Fields.{IsBytes}
use Rattle.wire_ip.specs.Ipv4 as Ipv4
use Rattle.wire_ip.specs.Ipv6 as Ipv6
use Rattle.wire_ip.proofs.Flags.{dont_frag-sent}
use Rattle.wire_ip.specs.declared.ipv4.fragment.Ipv4Fragment.{Ipv4Fragment}
use Rattle.wire_ip.specs.declared.ipv4.repr.Ipv4Repr.{Ipv4Repr}
use Rattle.wire_ip.specs.declared.ipv6.repr.Ipv6Repr.{Ipv6Repr}
use Rattle.wire_ip.proofs.Ipv4Laws as V4
use Rattle.wire_ip.proofs.Ipv6Laws as V6
use Rattle.wire_ip.proofs.Runs.{part, numbered}

-- a header with any checksum
IsQuoted-spelling : (v : Ipv4Repr) (fragment : Ipv4Fragment) (check : ℕ) (rest : List ℕ) → Ipv4.Fits v → Ipv4.IsValue v → fragment.offset < 2 ^ 16 →
    Ipv4.IsQuoted (Ipv4.spelling v (Ipv4.sent_fields fragment check) ++ rest) (Ipv4.normal v) 20
IsQuoted-spelling v fragment check rest fits value short =
    let all : length (Ipv4.spelling v (Ipv4.sent_fields fragment check) ++ rest) ≡ 20 + length rest =
    length-append (Ipv4.spelling v (Ipv4.sent_fields fragment check)) rest ∙ ap (λ n. n + length rest) (V4.length-spelling v fragment check value)
    in
    record {
      room = omega (arith, all);
      version = refl;
      header = refl;
      least = omega arith;
      within = omega (arith, all);
      identification = omega (arith, value.identification);
      dont_frag = dont_frag-sent v.dont_frag fragment.more fragment.offset short;
      source = V4.take-first v.src_addr.0 v.dst_addr.0 rest value.source.0;
      destination = V4.take-second v.src_addr.0 v.dst_addr.0 rest value.source.0 value.destination.0;
      protocol = refl;
      payload = omega (arith, fits);
      hop_limit = refl;
    }

-- an emitted IPv4 header is read in its canonical form, whatever follows it
pub IsQuoted-v4 : (sealed : Bool) (v : Ipv4Repr) (rest : List ℕ) → Ipv4.Fits v → Ipv4.IsValue v →
    Ipv4.IsQuoted (Ipv4.written sealed v ++ rest) (Ipv4.normal v) 20
IsQuoted-v4 false v rest fits value = IsQuoted-spelling v (record { offset = 0; more = false }) 0 rest fits value (omega arith)
IsQuoted-v4 true v rest fits value = IsQuoted-spelling v (record { offset = 0; more = false }) _ rest fits value (omega arith)

-- an emitted IPv6 header is read in its canonical form, whatever follows it
pub IsQuoted-v6 : (v : Ipv6Repr) (rest : List ℕ) → Ipv6.Fits v → Ipv6.IsValue v → Ipv6.IsQuoted (Ipv6.written v ++ rest) (Ipv6.normal v) 40
IsQuoted-v6 v rest fits value =
    let all : length (Ipv6.written v ++ rest) ≡ 40 + length rest =
    omega (arith, value.source.0, value.destination.0, length-append (v.src_addr.0 ++ v.dst_addr.0) rest, length-append v.src_addr.0 v.dst_addr.0)
    in
    record {
      room = omega (arith, all);
      version = refl;
      header = refl;
      source = V6.take-first v.src_addr.0 v.dst_addr.0 rest value.source.0;
      destination = V6.take-second v.src_addr.0 v.dst_addr.0 rest value.source.0 value.destination.0;
      protocol = refl;
      payload = omega (arith, fits);
      hop_limit = refl;
    }

-- a header that was read can be written
pub fits-v4 : (bytes : List ℕ) (v : Ipv4Repr) (header_len : ℕ) → IsBytes bytes → Ipv4.IsQuoted bytes v header_len → Ipv4.Fits v × Ipv4.IsValue v
fits-v4 bytes v header_len small is =
    let high : get_or bytes 2 0 < 256 = small 2 in
    let low : get_or bytes 3 0 < 256 = small 3 in
    let first : get_or bytes 4 0 < 256 = small 4 in
    let second : get_or bytes 5 0 < 256 = small 5 in
    let hop_limit : get_or bytes 8 0 < 256 = small 8 in (
      omega (arith, is.payload, is.least),
      record {
        source = part bytes v.src_addr.0 12 16 4 small refl (omega (arith, is.room)) is.source;
        destination = part bytes v.dst_addr.0 16 20 4 small refl is.room is.destination;
        identification = omega (arith, is.identification, first, second);
        protocol = numbered bytes 9 v.next_header small is.protocol;
        hop_limit = omega (arith, is.hop_limit);
      },
    )

pub fits-v6 : (bytes : List ℕ) (v : Ipv6Repr) (header_len : ℕ) → IsBytes bytes → Ipv6.IsQuoted bytes v header_len → Ipv6.Fits v × Ipv6.IsValue v
fits-v6 bytes v header_len small is =
    let high : get_or bytes 4 0 < 256 = small 4 in
    let low : get_or bytes 5 0 < 256 = small 5 in
    let hop_limit : get_or bytes 7 0 < 256 = small 7 in (
      omega (arith, is.payload),
      record {
        source = part bytes v.src_addr.0 8 24 16 small refl (omega (arith, is.room)) is.source;
        destination = part bytes v.dst_addr.0 24 40 16 small refl is.room is.destination;
        protocol = numbered bytes 6 v.next_header small is.protocol;
        hop_limit = omega (arith, is.hop_limit);
      },
    )
