-- Instants, and when something is due.
use Rattle.std.specs.Prelude.{ℕ, min, ℤ, pos, ◌+ℤ◌, int_le, int_lt, Bool, true, false, if◌then◌else◌, Option, Some, None}
use Rattle.net_base.specs.Time.{last_instant}
use Rattle.tcp_state.specs.RoundTrip.{RoundTripValue}

-- after a duration that the user set, which counts as at most 2 ^ 61 microseconds
abbrev pub later : ℤ → ℕ → ℤ
later now duration = now +ℤ pos (min duration last_instant)

-- after a duration that may be set
abbrev pub later_by : ℤ → Option ℕ → Option ℤ
later_by now None = None
later_by now (Some duration) = Some (later now duration)

-- after the retransmission timeout (RFC 6298)
abbrev pub timeout_from : ℤ → RoundTripValue → ℤ
timeout_from now r = now +ℤ pos r.timeout

-- ten seconds for twice the longest life of a segment: how long TIME-WAIT lasts (RFC 9293, 3.3.2)
abbrev pub time_wait_from : ℤ → ℤ
time_wait_from now = now +ℤ pos 10_000_000

-- a second lies between two answers to segments that aren't acceptable (RFC 5961, 7)
abbrev pub next_challenge_from : ℤ → ℤ
next_challenge_from now = now +ℤ pos 1_000_000

-- 24 days, as long as a timestamp that came counts (RFC 7323, 5.5)
abbrev pub tsval_end_from : ℤ → ℤ
tsval_end_from now = now +ℤ pos 2_073_600_000_000

-- the instant has come
abbrev pub is_due : ℤ → Option ℤ → Bool
is_due now None = false
is_due now (Some instant) = int_le instant now

-- a pause that ends at an instant is over, or there is none
abbrev pub is_over : ℤ → Option ℤ → Bool
is_over now None = true
is_over now (Some instant) = is_due now (Some instant)

-- the earlier of two instants
abbrev pub earlier : ℤ → ℤ → ℤ
earlier a b = if int_lt b a then b else a
