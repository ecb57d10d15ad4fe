-- How an `Assembler` keeps its runs: as they are, in the first of its pairs.
use Rattle.std.specs.Prelude.{◌≡◌, ℕ, ◌-◌, ◌≤◌, nat_lt, nat_le, List, length, take, drop, replicate}
use Rattle.std.specs.List.{prefix_len}
use Rattle.base_buffer.specs.Assembler.{AreRuns}

-- the first `count` of the pairs are runs, and the others are unused
pub record AreKept (room count : ℕ) (pairs : List (ℕ × ℕ)) : Type 0 where
  pub some_room : 1 ≤ room
  pub within : count ≤ room
  pub positions : length pairs ≡ room
  pub runs : AreRuns (take count pairs)
  pub unused : drop count pairs ≡ replicate (room - count) (0, 0)

-- how many runs end before a position and don't touch it
abbrev pub ended : List (ℕ × ℕ) → ℕ → ℕ
ended rs position = prefix_len (λ (r : ℕ × ℕ). nat_lt r.1 position) rs

-- how many begin at a position or before it
abbrev pub begun : List (ℕ × ℕ) → ℕ → ℕ
begun rs position = prefix_len (λ (r : ℕ × ℕ). nat_le r.0 position) rs
