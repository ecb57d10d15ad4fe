-- Numbers as counts, and the positions that they mean.
use Rattle.std.proofs.Common.{◌≡◌, ℕ, ◌+◌, ◌-◌, ◌%◌, ◌^◌, ◌<◌, ◌≤◌, nat_lt, if◌then◌else◌, sym, ap, subst, arith}
use Rattle.std.proofs.lemmas.Bool.Decides.{nat_tests}
use Rattle.ip_wire.specs.Seq.{distance_of}
use Rattle.ip_wire.specs.SeqNumber.{SeqNumber}
use Rattle.tcp_ranges.specs.Numbers.{wire, ahead, nearest}
use Rattle.tcp_state.specs.Offsets.{distance_after, distance_before}

-- the distance to a number from that of a position
pub distance-ahead : (r : ℕ) (reference number : SeqNumber) → reference.0 ≡ wire r → distance_of reference number ≡ ahead r number.0
distance-ahead r reference number e = ap (λ (n : ℕ). (number.0 + (2 ^ 32 - n)) % 2 ^ 32) e

offsets_at :
    (r a : ℕ) → 2 ^ 31 ≤ r → a < 2 ^ 32
    → (if nat_lt a (2 ^ 31) then r + a else r + a - 2 ^ 32) + (if nat_lt a (2 ^ 31) then 0 else 2 ^ 32 - a) ≡ r + (if nat_lt a (2 ^ 31) then a else 0)
offsets_at r a low high = grind (arith, nat_tests)

ahead_small : (r number : ℕ) → ahead r number < 2 ^ 32
ahead_small r number = omega arith

pub offsets_nearest :
    (r : ℕ) (reference number : SeqNumber) → 2 ^ 31 ≤ r → reference.0 ≡ wire r
    → nearest r number.0 + distance_before reference number ≡ r + distance_after reference number
offsets_nearest r reference number low e =
    subst (λ (d : ℕ). nearest r number.0 + (if nat_lt d (2 ^ 31) then 0 else 2 ^ 32 - d) ≡ r + (if nat_lt d (2 ^ 31) then d else 0))
    (sym (distance-ahead r reference number e))
    (offsets_at r (ahead r number.0) low (ahead_small r number.0))
