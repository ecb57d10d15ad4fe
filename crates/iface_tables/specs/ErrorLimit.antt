-- How often a host tells that nobody takes what came, by an error or a reset (RFC 1812, section 4.3.2.8; RFC 4443, section 2.4 f;
-- RFC 5961, section 7): sixteen times at once, and eight times a second from then on. Each answer counts for 125 ms; `until` is the
-- instant up to which those that went are counted, at most two seconds ahead.
use Rattle.std.specs.Prelude.{ℕ, Bool, true, not, ◌&&◌, ℤ, pos, ◌+ℤ◌, int_lt, List, [], ◌∷◌}
use Rattle.std.specs.Int.{int_max}

-- what one answer counts for, in microseconds
abbrev pub answer_time : ℕ
answer_time = 125_000

-- how far ahead answers are counted: sixteen of them
abbrev pub burst_time : ℕ
burst_time = 2_000_000

-- until when answers are counted after one that goes now
abbrev pub answered_at : (until now : ℤ) → ℤ
answered_at until now = int_max until now +ℤ pos answer_time

-- one may go now
abbrev pub may_answer : (until now : ℤ) → Bool
may_answer until now = not (int_lt (now +ℤ pos burst_time) (answered_at until now))

-- at each of these instants in turn one may go
abbrev pub all_go : ℤ → List ℤ → Bool
all_go until [] = true
all_go until (now ∷ instants) = may_answer until now && all_go (answered_at until now) instants
