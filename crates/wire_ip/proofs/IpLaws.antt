-- Headers of either family, written and read.
use Rattle.std.proofs.Common.{◌≡◌, ℕ, ◌≤◌, ◌+◌, ◌/◌, Bool, IsTrue, List, ◌++◌, length, ap, sym, subst, arith}
use Rattle.std.specs.Prelude.{slice_index}
use Rattle.wire_ip.specs.Ip.{IsIp, IsValue, Fits, written, normal, header_len_in, payload_len_of}
use Rattle.wire_ip.specs.Ipv4 as Ipv4
use Rattle.wire_ip.specs.Ipv6 as Ipv6
use Rattle.wire_ip.specs.declared.ip.repr.IpRepr.{IpRepr}
use Rattle.wire_ip.specs.declared.ip.repr.IpRepr.TheVariants as Ip
use Rattle.wire_ip.specs.declared.ipv4.repr.Ipv4Repr.{Ipv4Repr}
use Rattle.wire_ip.specs.declared.ipv6.repr.Ipv6Repr.{Ipv6Repr}
use Rattle.wire_address.specs.Fields.{IsBytes}
use Rattle.wire_address.specs.Protocol.{protocol_number, protocol_of}
use Rattle.wire_ip.proofs.Ipv4Laws as V4
use Rattle.wire_ip.proofs.Ipv6Laws as V6
use Rattle.wire_ip.proofs.QuotedLaws as Quoted
use Rattle.wire_ip.proofs.Runs.{named-again}
use Rattle.wire_address.proofs.Numbers.{protocol_number-protocol_of, protocol_of-again}

-- a packet and its header take no more room than the bytes that they were read from
pub within : (tested : Bool) (bytes : List ℕ) (v : IpRepr) → IsIp tested bytes v → header_len_in v + payload_len_of v ≤ length bytes
within tested bytes (Ip.Ipv4 v) is = omega (arith, is.whole.header, is.whole.within, is.payload)
within tested bytes (Ip.Ipv6 v) is = omega (arith, is.whole.within, is.payload)

-- a packet whose header was emitted is read back in its canonical form, whatever follows the payload
pub IsIp-written : (tested sealed : Bool) (v : IpRepr) (rest : List ℕ) → Fits v → IsValue v → payload_len_of v ≤ length rest → (IsTrue tested → IsTrue sealed)
    → IsIp tested (written sealed v ++ rest) (normal v)
IsIp-written tested sealed (Ip.Ipv4 v) rest fits value within both = V4.IsIpv4-written tested sealed v rest fits value within both
IsIp-written tested sealed (Ip.Ipv6 v) rest fits value within both = V6.IsIpv6-written v rest fits value within

-- the canonical form of a canonical form is itself
pub normal-v4 : (v : Ipv4Repr) → Ipv4.normal (Ipv4.normal v) ≡ Ipv4.normal v
normal-v4 v = ap (λ p. record v { next_header = p }) (protocol_of-again v.next_header)

pub normal-v6 : (v : Ipv6Repr) → Ipv6.normal (Ipv6.normal v) ≡ Ipv6.normal v
normal-v6 v = ap (λ p. record v { next_header = p }) (protocol_of-again v.next_header)

pub normal-ip : (v : IpRepr) → normal (normal v) ≡ normal v
normal-ip (Ip.Ipv4 v) = ap Ip.Ipv4 (normal-v4 v)
normal-ip (Ip.Ipv6 v) = ap Ip.Ipv6 (normal-v6 v)

-- a header that was read is in its canonical form
pub read-v4 : (tested : Bool) (bytes : List ℕ) (v : Ipv4Repr) → Ipv4.IsIpv4 tested bytes v → Ipv4.normal v ≡ v
read-v4 tested bytes v is =
    ap (λ p. record v { next_header = p }) (named-again protocol_number protocol_of protocol_number-protocol_of v.next_header (slice_index bytes 9) is.protocol)

pub read-v6 : (bytes : List ℕ) (v : Ipv6Repr) → Ipv6.IsIpv6 bytes v → Ipv6.normal v ≡ v
read-v6 bytes v is =
    ap (λ p. record v { next_header = p }) (named-again protocol_number protocol_of protocol_number-protocol_of v.next_header (slice_index bytes 6) is.protocol)

pub read-ip : (tested : Bool) (bytes : List ℕ) (v : IpRepr) → IsIp tested bytes v → normal v ≡ v
read-ip tested bytes (Ip.Ipv4 v) is = ap Ip.Ipv4 (read-v4 tested bytes v is)
read-ip tested bytes (Ip.Ipv6 v) is = ap Ip.Ipv6 (read-v6 bytes v is)

-- a header that was read can be written again
pub fits-v4 : (tested : Bool) (bytes : List ℕ) (v : Ipv4Repr) → IsBytes bytes → Ipv4.IsIpv4 tested bytes v → Ipv4.Fits v × Ipv4.IsValue v
fits-v4 tested bytes v small is = Quoted.fits-v4 bytes v (Ipv4.header_len_of bytes) small (V4.IsQuoted-whole tested bytes v is)

pub fits-v6 : (bytes : List ℕ) (v : Ipv6Repr) → IsBytes bytes → Ipv6.IsIpv6 bytes v → Ipv6.Fits v × Ipv6.IsValue v
fits-v6 bytes v small is = Quoted.fits-v6 bytes v 40 small (V6.IsQuoted-whole bytes v is)

pub fits-ip : (tested : Bool) (bytes : List ℕ) (v : IpRepr) → IsBytes bytes → IsIp tested bytes v → Fits v × IsValue v
fits-ip tested bytes (Ip.Ipv4 v) small is = fits-v4 tested bytes v small is
fits-ip tested bytes (Ip.Ipv6 v) small is = fits-v6 bytes v small is

-- bytes of version 4 that aren't an IPv4 packet are no packet
pub refused-v4 : (tested : Bool) (bytes viewed : List ℕ) → viewed ≡ bytes → slice_index bytes 0 / 16 ≡ 4 → ((v : Ipv4Repr) → Ipv4.IsIpv4 tested viewed v → ⊥) →
    (v : IpRepr) → IsIp tested bytes v → ⊥
refused-v4 tested bytes viewed same first none (Ip.Ipv4 v) is = none v (subst (λ xs. Ipv4.IsIpv4 tested xs v) (sym same) is)
refused-v4 tested bytes viewed same first none (Ip.Ipv6 v) is = absurd (omega (arith, first, is.version))

-- bytes of version 6 that aren't an IPv6 packet are no packet
pub refused-v6 : (tested : Bool) (bytes viewed : List ℕ) → viewed ≡ bytes → slice_index bytes 0 / 16 ≡ 6 → ((v : Ipv6Repr) → Ipv6.IsIpv6 viewed v → ⊥) →
    (v : IpRepr) → IsIp tested bytes v → ⊥
refused-v6 tested bytes viewed same first none (Ip.Ipv4 v) is = absurd (omega (arith, first, is.version))
refused-v6 tested bytes viewed same first none (Ip.Ipv6 v) is = none v (subst (λ xs. Ipv6.IsIpv6 xs v) (sym same) is)
