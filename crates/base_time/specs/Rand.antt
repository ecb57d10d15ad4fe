-- Random words: a linear congruential generator of 64 bits, whose output is the upper part of its
-- state, shifted by what its three highest bits say (PCG XSH RS; O'Neill, "PCG: A Family of Simple
-- Fast Space-Efficient Statistically Good Algorithms for Random Number Generation", section 6.3.2).
use Rattle.std.specs.Prelude.{ℕ, zero, suc, ◌+◌, ◌-◌, ◌*◌, ◌/◌, ◌%◌, ◌^◌, nat_lt, bit_xor, if◌then◌else◌}

abbrev pub next_state : ℕ → ℕ
next_state s = (s * 0xbb2efcec3c39611d + 0x7590ef39) % 2 ^ 64

-- the word of 32 bits that a state gives
abbrev pub word : ℕ → ℕ
word s = s / 2 ^ (29 - s / 2 ^ 61) % 2 ^ 32

-- the word of 16 bits that a state gives: the two halves of its word, one over the other
abbrev pub half_word : ℕ → ℕ
half_word s = bit_xor (word s) (word s / 2 ^ 16) % 2 ^ 16

pub record Draw : Type 0 where
  pub port : ℕ
  pub state : ℕ

-- the first drawn word above 1024, of at most so many draws, else 49152; and the state that is left
unfoldable pub draw_port : ℕ → ℕ → Draw
draw_port zero s = record { port = 49152; state = s }
draw_port (suc n) s =
    if nat_lt 1024 (half_word (next_state s))
    then record { port = half_word (next_state s); state = next_state s }
    else draw_port n (next_state s)
