-- Instants and durations as counts of microseconds.
use Rattle.std.specs.Prelude.{ℕ, ◌-◌, ◌/◌, ◌<◌, ◌^◌, min, ℤ, pos, ◌≤ℤ◌, FitsSigned}
use Rattle.std.specs.Int.{w64}

-- the last instant that the stack's calls take, in microseconds
abbrev pub last_instant : ℕ
last_instant = 2 ^ 61

-- an instant of the stack: from 0 to 2^61 microseconds
abbrev pub IsMoment : ℤ → Type 0
IsMoment t = (pos 0 ≤ℤ t) × (t ≤ℤ pos last_instant)

-- an instant can hold this count
abbrev pub FitsInstant : ℤ → Type 0
FitsInstant t = FitsSigned w64 t

-- a duration can hold this count
abbrev pub FitsDuration : ℕ → Type 0
FitsDuration n = n < 2 ^ 64

-- the longest duration
abbrev pub longest : ℕ
longest = 2 ^ 64 - 1

-- the microseconds of so many nanoseconds, the longest duration where they are more
abbrev pub micros_of_nanos : ℕ → ℕ
micros_of_nanos nanos = min (nanos / 1000) longest
