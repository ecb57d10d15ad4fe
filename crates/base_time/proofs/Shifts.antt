-- Shifts of 64 bits by 64 offsets or more leave nothing.
use Rattle.std.proofs.Common.{◌≡◌, ℕ, ◌+◌, ◌-◌, ◌*◌, ◌/◌, ◌%◌, ◌^◌, ◌<◌, ◌≤◌, ap, ◌∙◌, sym, arith, mul_assoc}
use Rattle.std.proofs.lemmas.Nat.{pow-add}
use Rattle.std.proofs.Math.Nat.{mul-mod_left, div-eq_of_lt}
use Rattle.std.proofs.Math.Pow.{pow_mono}

pub shifted_out : (d k : ℕ) → 64 ≤ k → d * 2 ^ k % 2 ^ 64 ≡ 0
shifted_out d k wide =
    let whole : k ≡ (k - 64) + 64 = omega arith in
    let split : 2 ^ k ≡ 2 ^ (k - 64) * 2 ^ 64 = ap (λ n. 2 ^ n) whole ∙ pow-add 2 (k - 64) 64 in
    let moved : d * 2 ^ k ≡ (d * 2 ^ (k - 64)) * 2 ^ 64 = ap (λ p. d * p) split ∙ sym (mul_assoc d (2 ^ (k - 64)) (2 ^ 64)) in
    ap (λ p. p % 2 ^ 64) moved ∙ mul-mod_left (d * 2 ^ (k - 64)) (2 ^ 64)

pub shifted_away : (d k : ℕ) → d < 2 ^ 64 → 64 ≤ k → d / 2 ^ k ≡ 0
shifted_away d k small wide =
    let bound : 2 ^ 64 ≤ 2 ^ k = pow_mono wide in
    let below : d < 2 ^ k = omega (arith, small, bound) in
    div-eq_of_lt below
