-- Instants and waits (RFC 2131, sections 4.1 and 4.4.5), in microseconds.
use Rattle.std.specs.Prelude.{ℕ, ◌+◌, ◌-◌, ◌/◌, ◌%◌, min, max, ℤ, pos, ◌+ℤ◌, int_lt, if◌then◌else◌}
use Rattle.net_base.specs.Time.{last_instant}

-- after a duration, which counts as at most 2 ^ 61 microseconds
abbrev pub later : ℤ → ℕ → ℤ
later now duration = now +ℤ pos (min duration last_instant)

-- the earlier of two instants
abbrev pub earlier : ℤ → ℤ → ℤ
earlier a b = if int_lt b a then b else a

-- the longer of two durations
abbrev pub at_least : ℕ → ℕ → ℕ
at_least one other = max one other

-- 64 seconds, the longest wait between requests without an answer
abbrev pub longest_wait : ℕ
longest_wait = 64_000_000

-- the first wait, as it was set
abbrev pub first_wait : ℕ → ℕ
first_wait d = min d longest_wait

-- each further one is twice as long
abbrev pub doubled : ℕ → ℕ
doubled wait = min (min wait longest_wait + min wait longest_wait) longest_wait

-- a random word makes it up to a second shorter or longer
abbrev pub spread : ℕ → ℕ → ℕ
spread wait word = min wait longest_wait - 1_000_000 + word % 2_000_001

-- with a lease: half of the time that is left until an instant, between two bounds, but never past that instant
abbrev pub renew_wait : ℕ → ℕ → ℕ → ℕ
renew_wait rest least most = min (max (min (rest / 2) most) least) rest
