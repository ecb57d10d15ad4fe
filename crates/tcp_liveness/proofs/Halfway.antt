-- A clock of milliseconds shows nothing older within 24 days: it comes less than halfway round.
use Rattle.std.proofs.Common.{◌≡◌, ℕ, ◌+◌, ◌-◌, ◌/◌, ◌%◌, ◌^◌, ◌<◌, ◌≤◌, ◌==◌, nat_lt, not, ℤ, pos, ◌+ℤ◌, ◌≤ℤ◌, unsigned_abs}
use Rattle.std.proofs.Common.{Bool, true, false, if◌then◌else◌, refl, ap, arith}
use Rattle.std.proofs.lemmas.Bool.{ltb-true}
use Rattle.std.proofs.lemmas.Int.{ints}
use Rattle.ip_wire.specs.Seq.{distance_of}
use Rattle.ip_wire.specs.TcpTimestampGenerator.{TcpTimestampGenerator}
use Rattle.ip_wire.specs.Timestamp.{value_at}
use Rattle.tcp_invariants.specs.Moments.{tsval_end_from}
use Rattle.tcp_block.specs.Timestamps.{is_older, tsval_number}

half_round : (g a b : ℕ) → b ≤ a → a ≤ b + 2_073_600_001 → ((g + b) % 2 ^ 32 + (2 ^ 32 - (g + a) % 2 ^ 32)) % 2 ^ 32 < 2 ^ 31 →
    ((g + b) % 2 ^ 32 + (2 ^ 32 - (g + a) % 2 ^ 32)) % 2 ^ 32 ≡ 0
half_round g a b e f near = omega arith

millis_up : (a b : ℕ) → b ≤ a → b / 1000 ≤ a / 1000
millis_up a b e = omega arith

millis_near : (a b : ℕ) → a ≤ b + 2_073_600_000_000 → a / 1000 ≤ b / 1000 + 2_073_600_001
millis_near a b e = omega arith

abs_up : (a b : ℤ) → pos 0 ≤ℤ b → b ≤ℤ a → unsigned_abs b ≤ unsigned_abs a
abs_up a b low e = omega (arith, ints)

abs_near : (a b : ℤ) → pos 0 ≤ℤ b → b ≤ℤ a → a ≤ℤ (b +ℤ pos 2_073_600_000_000) → unsigned_abs a ≤ unsigned_abs b + 2_073_600_000_000
abs_near a b low e f = omega (arith, ints)

pub not_older : (g : TcpTimestampGenerator) (now old : ℤ) → pos 0 ≤ℤ old → old ≤ℤ now → now ≤ℤ tsval_end_from old →
    is_older (value_at g now) (value_at g old) ≡ false
not_older g now old low after near = ap (λ (n : ℕ). not (n == 0)) none where
  far : ℕ
  far = distance_of (tsval_number (value_at g now)) (tsval_number (value_at g old))

  none : (if nat_lt far (2 ^ 31) then far else 0) ≡ 0
  none = by (nat_lt far (2 ^ 31)) refl where
    by : (t : Bool) → nat_lt far (2 ^ 31) ≡ t → (if t then far else 0) ≡ 0
    by true e =
        half_round g.0 (unsigned_abs now / 1000) (unsigned_abs old / 1000)
        (millis_up (unsigned_abs now) (unsigned_abs old) (abs_up now old low after))
        (millis_near (unsigned_abs now) (unsigned_abs old) (abs_near now old low after near)) (ltb-true far (2 ^ 31) e)
    by false e = refl
