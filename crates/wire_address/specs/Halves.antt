-- The halves of words of 64 bits, summed lane by lane.
use Rattle.std.specs.Prelude.{ℕ, ◌+◌, ◌-◌, ◌*◌, ◌%◌, ◌^◌}

-- What the halves of words sum to, of which these are the sums of the words and of their high halves, modulo 2^64: the words without the high halves are
-- the low ones.
abbrev pub halves_in : ℕ → ℕ → ℕ
halves_in words high = ((words + (2 ^ 64 - (high * 2 ^ 32) % 2 ^ 64)) % 2 ^ 64 + high) % 2 ^ 64
