-- TCP sequence numbers, which go round modulo 2^32 (RFC 9293, section 3.4).
use Rattle.std.specs.Prelude.{ℕ, ◌+◌, ◌-◌, ◌%◌, ◌^◌, ◌<◌, ◌≤◌}
use Rattle.wire_address.specs.declared.seq_number.SeqNumber.{SeqNumber}

-- how far it is from a up to b
abbrev pub distance_of : SeqNumber → SeqNumber → ℕ
distance_of a b = (b.0 + (2 ^ 32 - a.0)) % 2 ^ 32

-- the number n above a
abbrev pub advanced : SeqNumber → ℕ → ℕ
advanced a n = (a.0 + n) % 2 ^ 32

-- the number n below a
abbrev pub receded : SeqNumber → ℕ → ℕ
receded a n = (a.0 + (2 ^ 32 - n)) % 2 ^ 32

-- b is ahead of a by at most half the circle
abbrev pub ComesBefore : SeqNumber → SeqNumber → Type 0
ComesBefore a b = (0 < distance_of a b) × (distance_of a b ≤ 2 ^ 31)
