-- Sequence numbers (RFC 9293, 3.4): 32 bits on the wire, and the positions that they stand for, whole numbers that never wrap.
-- The position of a SYN is 2 ^ 32 and its number, so the number of each position is its remainder by 2 ^ 32.
use Rattle.std.specs.Prelude.{ℕ, ◌+◌, ◌-◌, ◌%◌, ◌^◌, ◌<◌, ◌≤◌, nat_lt, if◌then◌else◌}

-- the number of a position on the wire
abbrev pub wire : ℕ → ℕ
wire position = position % 2 ^ 32

-- a position at which a SYN may stand
abbrev pub IsFirst : ℕ → Type 0
IsFirst position = (2 ^ 32 ≤ position) × (position < 2 ^ 33)

-- how far a number is ahead of the reference, going round
abbrev pub ahead : ℕ → ℕ → ℕ
ahead reference number = (number + (2 ^ 32 - wire reference)) % 2 ^ 32

-- the position that a number means: of all positions that have it the one nearest to the reference, the lower at distance 2 ^ 31
abbrev pub nearest : ℕ → ℕ → ℕ
nearest reference number =
    if nat_lt (ahead reference number) (2 ^ 31) then reference + ahead reference number else reference + ahead reference number - 2 ^ 32

-- the position is the only one of its number here: less than 2 ^ 31 past the reference, at most 2 ^ 31 before it
abbrev pub IsNear : ℕ → ℕ → Type 0
IsNear reference position = (position < reference + 2 ^ 31) × (reference ≤ position + 2 ^ 31)
