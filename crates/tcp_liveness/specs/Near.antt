-- What a side waits for of itself lies near: its retransmission timer (RFC 6298, 2.5), and the pause between drawn answers (RFC 5961, 7).
use Rattle.std.specs.Prelude.{ℕ, ℤ, pos, ◌+ℤ◌, ◌≤ℤ◌, Option, Some, None}

-- an instant, if there is one, lies no further past another than so many microseconds
abbrev pub IsNear : ℤ → ℕ → Option ℤ → Type 0
IsNear now duration None = Unit {0}
IsNear now duration (Some instant) = instant ≤ℤ (now +ℤ pos duration)
