-- The retransmission timeout (RFC 6298), in microseconds. The clock that takes round trips is one of milliseconds, or of microseconds where a
-- setting asks so (`fine`): each round trip, and what each division gives, is a whole number of its units, and the rest is dropped.
use Rattle.std.specs.Prelude.{ℕ, ◌+◌, ◌-◌, ◌*◌, ◌/◌, ◌≤◌, nat_le, min, max, ℤ, ◌-ℤ◌, unsigned_abs, int_lt, Option, Some, None, is_none, IfSome, Bool}
use Rattle.std.specs.Prelude.{Bool, true, if◌then◌else◌}
use Rattle.net_base.specs.Time.{IsMoment, last_instant}
use Rattle.tcp_state.specs.declared.round_trip.Estimate.{Estimate}
use Rattle.tcp_state.specs.declared.round_trip.Sample.{Sample}

pub record RoundTripValue : Type 0 where
  pub estimate : Option Estimate  -- none before the first sample
  pub timeout : ℕ  -- RTO
  pub least : ℕ  -- what it never falls below
  pub sample : Option Sample  -- the segment that is timed

-- before the first sample (2.1), and the least as long as no other is set (2.4)
abbrev pub first_timeout : ℕ
first_timeout = 1_000_000

-- no least timeout lies below it
abbrev pub shortest_timeout : ℕ
shortest_timeout = 10_000

-- the timeout never rises above it (2.5)
abbrev pub most_timeout : ℕ
most_timeout = 60_000_000

-- No round trip is longer than from the first instant to the last, the timeout isn't below the least that is set, and the segment that is
-- timed was sent at an instant.
pub record IsTimed (r : RoundTripValue) : Type 0 where
  pub estimate : IfSome r.estimate (λ e. (e.smoothed ≤ last_instant) × ((e.variation ≤ last_instant) × (e.shortest ≤ last_instant)))
  pub least : shortest_timeout ≤ r.least
  pub timeout : (r.least ≤ r.timeout) × (r.timeout ≤ most_timeout)
  pub sample : IfSome r.sample (λ s. IsMoment s.since)

-- of a new connection (2.1)
abbrev pub initial : RoundTripValue
initial = record { estimate = None; timeout = first_timeout; least = first_timeout; sample = None }

-- the least timeout where a user asks for so many microseconds: whole milliseconds, between 10 and a minute
abbrev pub least_of : ℕ → ℕ
least_of duration = min most_timeout (max shortest_timeout (duration / 1000 * 1000))

-- another least timeout is set: one that is higher than the timeout counts at once, another from the next sample on
abbrev pub with_least : ℕ → RoundTripValue → RoundTripValue
with_least duration r = record r { least = least_of duration; timeout = max (least_of duration) r.timeout }

abbrev pub distance : ℕ → ℕ → ℕ
distance a b = (a - b) + (b - a)

-- so many microseconds as the clock counts them: with all, or in whole milliseconds
abbrev pub clocked : Bool → ℕ → ℕ
clocked fine micros = if fine then micros else micros / 1000 * 1000

-- SRTT and RTTVAR after a round trip of so many microseconds (2.2 and 2.3), and the shortest one
abbrev pub smoothed : Bool → Option Estimate → ℕ → Estimate
smoothed fine None micros = record { smoothed = micros; variation = clocked fine (micros / 2); shortest = micros }
smoothed fine (Some e) micros =
    record {
      smoothed = clocked fine ((7 * e.smoothed + micros) / 8);
      variation = clocked fine ((3 * e.variation + distance e.smoothed micros) / 4);
      shortest = min e.shortest micros;
    }

-- SRTT, 0 where no round trip is known
abbrev pub srtt_by : Option Estimate → ℕ
srtt_by None = 0
srtt_by (Some e) = e.smoothed

abbrev pub srtt : RoundTripValue → ℕ
srtt r = srtt_by r.estimate

-- By how much the timeout lies above SRTT at least, G of 2.3: on a steady link RTTVAR falls to nothing, and an acknowledgement that the
-- remote delays, or that a queue holds up, must not come too late. It is 200 milliseconds, or the least timeout, if that is shorter.
abbrev pub slack : ℕ → ℕ
slack least = min least 200_000

-- the timeout that they give (2.3 to 2.5)
abbrev pub timeout_of : ℕ → Estimate → ℕ
timeout_of least e = min most_timeout (max least (e.smoothed + max (slack least) (4 * e.variation)))

-- an estimate in whole milliseconds, as it stands in microseconds
abbrev pub in_micros : Estimate → Estimate
in_micros e = record { smoothed = e.smoothed * 1000; variation = e.variation * 1000; shortest = e.shortest * 1000 }

-- a round trip of so many microseconds was measured
abbrev pub measured : Bool → RoundTripValue → ℕ → RoundTripValue
measured fine r micros = record r {
  estimate = Some (smoothed fine r.estimate micros);
  timeout = timeout_of r.least (smoothed fine r.estimate micros);
  sample = None;
}

-- the microseconds from one instant to another, none where that isn't later
abbrev pub micros_between : ℤ → ℤ → ℕ
micros_between since now = if int_lt since now then unsigned_abs (now -ℤ since) else 0

-- the whole milliseconds
abbrev pub millis_between : ℤ → ℤ → ℕ
millis_between since now = micros_between since now / 1000

-- SND.UNA rose by so much: the segment that is timed is acknowledged, or ends that much nearer
abbrev pub advanced_with : Bool → RoundTripValue → ℕ → ℤ → Option Sample → RoundTripValue
advanced_with fine r by now None = r
advanced_with fine r by now (Some s) =
    if nat_le s.ends by then measured fine r (clocked fine (micros_between s.since now))
    else record r { sample = Some (record s { ends = s.ends - by }) }

abbrev pub advanced : Bool → RoundTripValue → ℕ → ℤ → RoundTripValue
advanced fine r by now = advanced_with fine r by now r.sample

-- nothing is timed that ends past so much
abbrev pub is_reached : Option Sample → ℕ → Bool
is_reached None by = true
is_reached (Some s) by = nat_le s.ends by

-- An echo counts where what is timed is acknowledged, or nothing is timed (RFC 7323, 4.1). The fine clock tells of what is timed more than
-- the echo, whose clock is one of milliseconds: then an echo counts where nothing is timed.
abbrev pub counts_tsecr : Bool → Option Sample → ℕ → Bool
counts_tsecr fine sample by = if fine then is_none sample else is_reached sample by

-- What an echo that is so many milliseconds old tells. Since then less than a millisecond more went by, which counts with the fine clock:
-- no round trip counts for less than it took.
abbrev pub tsecr_micros : Bool → ℕ → ℕ
tsecr_micros fine millis = (if fine then millis + 1 else millis) * 1000

-- SND.UNA rises by so much, and an echo tells of a round trip of so many milliseconds
abbrev pub echoed : Bool → RoundTripValue → ℕ → ℕ → RoundTripValue
echoed fine r by millis = if counts_tsecr fine r.sample by then measured fine r (tsecr_micros fine millis) else r

-- a segment that ends so far past SND.UNA was sent now: it is timed, if none is
abbrev pub timing_with : RoundTripValue → ℕ → ℤ → Option Sample → RoundTripValue
timing_with r ends now None = record r { sample = Some (record { ends = ends; since = now }) }
timing_with r ends now (Some s) = r

abbrev pub timing : RoundTripValue → ℕ → ℤ → RoundTripValue
timing r ends now = timing_with r ends now r.sample

-- what is timed is sent again: no sample may be taken of it (3)
abbrev pub untimed : RoundTripValue → RoundTripValue
untimed r = record r { sample = None }

-- data begins to go after the SYN was lost: the timeout is three seconds, if no round trip is known and the least isn't longer (5.7)
abbrev pub begun_late : RoundTripValue → RoundTripValue
begun_late r = record r { timeout = if is_none r.estimate then max 3_000_000 r.least else r.timeout }

-- the timer ran out: the timeout is doubled (5.5)
abbrev pub backed_off : RoundTripValue → RoundTripValue
backed_off r = record r { timeout = min most_timeout (2 * r.timeout) }

-- the shortest round trip that was measured, 0 where none was
abbrev pub shortest_by : Option Estimate → ℕ
shortest_by None = 0
shortest_by (Some e) = e.shortest

abbrev pub shortest : RoundTripValue → ℕ
shortest r = shortest_by r.estimate

-- LOSS PROBES

-- How long a loss probe waits, in microseconds: two round trips, at least 20 milliseconds, and 200 milliseconds more where no more than a
-- segment is in flight, whose acknowledgement the remote may delay (RFC 8985, 7.2).
abbrev pub wait_by : Option Estimate → Bool → Option ℕ
wait_by None alone = None
wait_by (Some e) alone = Some (max (2 * e.smoothed) 20_000 + (if alone then 200_000 else 0))

abbrev pub probe_wait : RoundTripValue → Bool → Option ℕ
probe_wait r alone = wait_by r.estimate alone

-- How long what may only be late is waited for, in microseconds: so many quarters of the shortest round trip, but no longer than SRTT (reo_wnd
-- of RFC 8985, 6.2, step 4).
abbrev pub late_wait : RoundTripValue → ℕ → ℕ
late_wait r quarters = min (shortest r / 4 * quarters) (srtt r)
