-- Masks: so many ones, then zeros.
use Rattle.std.proofs.Common.{◌≡◌, ℕ, ◌-◌, ◌^◌, ◌<◌, ◌≤◌, sym, arith}
use Rattle.std.specs.Int.{w32, w128, leading_ones}
use Rattle.std.specs.Int.Count.{count_leading_zeros, leading_unique}
use Rattle.std.proofs.Math.Pow.{pow_mono}
use Rattle.std.proofs.lemmas.Nat.{pow_pos}

-- what is left of a power of two below a mask of n ones has its length
leading_zeros-low : (width n : ℕ) → n ≤ width → n ≡ count_leading_zeros width (2 ^ width - 1 - (2 ^ width - 2 ^ (width - n)))
leading_zeros-low width n le =
    let pos : 0 < 2 ^ (width - n) = pow_pos (width - n) in
    let less : width - n ≤ width = omega arith in
    let within : 2 ^ (width - n) ≤ 2 ^ width = pow_mono less in
    let low : 2 ^ width - 1 - (2 ^ width - 2 ^ (width - n)) ≡ 2 ^ (width - n) - 1 = omega arith in
    rw low (leading_unique width (2 ^ (width - n) - 1) n (width - n) (omega arith) (omega arith) (omega arith))

-- the leading ones of a mask of 32 bits
pub leading_ones-mask_32 : (n : ℕ) → n ≤ 32 → leading_ones w32 (2 ^ 32 - 2 ^ (32 - n)) ≡ n
leading_ones-mask_32 n le = sym (leading_zeros-low 32 n le)

-- the leading ones of a mask of 128 bits
pub leading_ones-mask_128 : (n : ℕ) → n ≤ 128 → leading_ones w128 (2 ^ 128 - 2 ^ (128 - n)) ≡ n
leading_ones-mask_128 n le = sym (leading_zeros-low 128 n le)
