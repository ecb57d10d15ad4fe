-- When a rate lets a frame go again.
use Rattle.std.proofs.Common.{◌≡◌, ℕ, zero, suc, ◌-◌, ◌^◌, ◌<◌, Bool, true, false, subst, Option, None, Some, ℤ, pos, ◌+ℤ◌, arith}
use Rattle.std.specs.Prelude.{int_le}
use Rattle.std.proofs.lemmas.Int.{ints}
use Rattle.base_wrappers.specs.Bucket.{Level, lets, lets_at, end_of}

at_the_end : (rate interval : ℕ) (begun : ℤ) (at t : ℤ)
    → lets_at (suc rate) interval (record { begun = Some begun; left = zero }) ≡ Some at
    → lets (suc rate) interval t (record { begun = Some begun; left = zero }) ≡ int_le at t
at_the_end rate interval begun at t is = grind (arith, ints)

by_parts : (rate interval left : ℕ) (begun : Option ℤ) (at t : ℤ) → lets_at rate interval (record { begun = begun; left = left }) ≡ Some at
    → lets rate interval t (record { begun = begun; left = left }) ≡ int_le at t
by_parts zero interval left begun at t is = grind arith
by_parts (suc rate) interval (suc left) begun at t is = grind arith
by_parts (suc rate) interval zero None at t is = grind arith
by_parts (suc rate) interval zero (Some begun) at t is = at_the_end rate interval begun at t is

pub waited_for : (rate interval : ℕ) (b : Level) (at t : ℤ) → lets_at rate interval b ≡ Some at → lets rate interval t b ≡ int_le at t
waited_for rate interval b at t is = by_parts rate interval b.left b.begun at t is
