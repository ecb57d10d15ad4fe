-- Congestion control by slow start, congestion avoidance, fast retransmit and fast recovery (RFC 5681), which a partial
-- acknowledgement doesn't end (RFC 6582). CUBIC (RFC 9438) differs in congestion avoidance and at a loss alone. All counts are bytes.
use Rattle.std.specs.Prelude.{ℕ, ◌+◌, ◌-◌, ◌*◌, ◌/◌, ◌^◌, ◌==◌, ◌≤◌, nat_le, nat_lt, min, max, ℤ, pos, Bool, true, false, if◌then◌else◌, Option, None, Some}
use Rattle.tcp_state.specs.Cubic as cubic
use Rattle.tcp_state.specs.Cubic.{CubicValue}
pub use Rattle.tcp_state.specs.Cubic.{most}

pub record RenoValue : Type 0 where
  pub mss : ℕ  -- SMSS
  pub cwnd : ℕ
  pub ssthresh : ℕ
  pub recovers : Bool  -- in fast recovery (3.2)
  pub timed_out : Bool  -- the retransmission timer ran out, and no new data was acknowledged since
  pub cubic : Option CubicValue  -- what CUBIC knows, where it is set

-- the bounds of a connection's numbers
pub record IsBounded (r : RenoValue) : Type 0 where
  pub mss : 1 ≤ r.mss
  pub cwnd_low : 1 ≤ r.cwnd
  pub cwnd_high : r.cwnd ≤ most
  pub ssthresh_low : 1 ≤ r.ssthresh
  pub ssthresh_high : r.ssthresh ≤ most

-- of a new connection, with CUBIC or without
abbrev pub initial_with : Option CubicValue → RenoValue
initial_with c = record { mss = 1024; cwnd = 2048; ssthresh = most; recovers = false; timed_out = false; cubic = c }

abbrev pub initial : RenoValue
initial = initial_with None

abbrev pub with_mss : RenoValue → ℕ → RenoValue
with_mss r mss = record r { mss = mss }

-- the first window of a connection (RFC 6928, 2)
abbrev pub first_window : ℕ → ℕ
first_window mss = min (10 * mss) (max (2 * mss) 14_600)

-- a connection is there: its window is the first one, or one segment where its SYN was lost (RFC 5681, 3.1)
abbrev pub started : RenoValue → Bool → RenoValue
started r lost = record r { cwnd = (if lost then r.mss else first_window r.mss); recovers = false }

-- how much an acknowledgement widens the window by at most in slow start: by two segments, since the remote may acknowledge each second one,
-- but by one once a loss lowered the threshold: after a timeout it may tell of what came long before (RFC 3465, 2.3)
abbrev pub slow_limit : RenoValue → ℕ
slow_limit r = if r.ssthresh == most then 2 * r.mss else r.mss

-- how much it grows by in congestion avoidance, where so many bytes are acknowledged: a segment for a whole window (RFC 5681, 3.1; RFC 3465,
-- 2.1)
abbrev pub avoidance : ℕ → ℕ → ℕ → ℕ
avoidance mss cwnd count = max 1 (mss * min count cwnd / cwnd)

-- and in either: in slow start by as many bytes (RFC 3465, 2.2)
abbrev pub growth : RenoValue → ℕ → ℕ
growth r count = if nat_lt r.cwnd r.ssthresh then min count (slow_limit r) else avoidance r.mss r.cwnd count

-- what CUBIC counts in congestion avoidance, where so many bytes are acknowledged now
abbrev pub avoided : Option CubicValue → RenoValue → ℕ → ℤ → Option CubicValue
avoided None r count now = None
avoided (Some c) r count now = Some (cubic.avoided c r.mss r.cwnd count now)

abbrev pub counted : RenoValue → ℕ → ℤ → Option CubicValue
counted r count now = if nat_lt r.cwnd r.ssthresh then r.cubic else avoided r.cubic r count now

-- cwnd where so many bytes are acknowledged, and a round trip takes so many milliseconds: in slow start and without CUBIC it grows as above
abbrev pub grown : Option CubicValue → RenoValue → ℕ → ℤ → ℕ → ℕ
grown None r count now rtt = min most (r.cwnd + growth r count)
grown (Some c) r count now rtt = cubic.window_in r.mss r.cwnd c.w_max c.epoch now rtt

abbrev pub widened : RenoValue → ℕ → ℤ → ℕ → ℕ
widened r count now rtt =
    if nat_lt r.cwnd r.ssthresh then min most (r.cwnd + growth r count) else grown (counted r count now) r count now rtt

-- so many bytes were acknowledged, outside of fast recovery (3.1)
abbrev pub acknowledged : RenoValue → ℕ → ℤ → ℕ → RenoValue
acknowledged r count now rtt =
    if count == 0 then r
    else record r { cwnd = widened r count now rtt; timed_out = false; cubic = counted r count now }

-- what ssthresh becomes at a loss, with so much in flight: half of that (3.1, equation 4), and with CUBIC 7/10 (RFC 9438, 4.6)
abbrev pub lowered_by : Option CubicValue → ℕ → ℕ → ℕ
lowered_by None mss flight = min most (max (flight / 2) (2 * mss))
lowered_by (Some c) mss flight = cubic.decreased mss flight

abbrev pub lowered : RenoValue → ℕ → ℕ
lowered r flight = lowered_by r.cubic r.mss flight

-- what CUBIC keeps of a loss at this window
abbrev pub loss_at : Option CubicValue → ℕ → Option CubicValue
loss_at None cwnd = None
loss_at (Some c) cwnd = Some (cubic.lost c cwnd)

-- and of a timeout
abbrev pub timeout_at : Option CubicValue → ℕ → Option CubicValue
timeout_at None cwnd = None
timeout_at (Some c) cwnd = Some (cubic.timed_out c cwnd)

-- In fast recovery so many were, but not all that was sent when it began: the window shrinks by them, to no less than a segment, and
-- grows by one where at least one was acknowledged (RFC 6582, 3.2, step 3, partial acknowledgements).
abbrev pub partly : RenoValue → ℕ → RenoValue
partly r count = record r { cwnd = min most (max r.mss (r.cwnd - count) + (if nat_le r.mss count then r.mss else 0)) }

-- all of it was: fast recovery ends (RFC 6582, 3.2, step 3, full acknowledgements)
abbrev pub recovered : RenoValue → RenoValue
recovered r = record r { cwnd = r.ssthresh; recovers = false; timed_out = false }

-- The third duplicate came (3.2, steps 2 and 3). What limited transmit sent beyond the window doesn't count as in flight. After a
-- timeout it may answer a segment that was retransmitted without need, and says nothing until new data is acknowledged (RFC 6582, 3.2 and 4).
abbrev pub lost : RenoValue → ℕ → RenoValue
lost r flight =
    if r.timed_out then r
    else record r {
      ssthresh = lowered r (min flight r.cwnd);
      cwnd = min most (lowered r (min flight r.cwnd) + 3 * r.mss);
      recovers = true;
      cubic = loss_at r.cubic r.cwnd;
    }

-- A segment was lost, where selective acknowledgements say what is still on its way: the window is the threshold at once, and doesn't
-- grow by duplicates (RFC 6675, 5, steps 4.2 and 4.3). After a timeout it says nothing.
abbrev pub reduced : RenoValue → ℕ → RenoValue
reduced r flight =
    if r.timed_out then r
    else record r {
      ssthresh = lowered r (min flight r.cwnd);
      cwnd = lowered r (min flight r.cwnd);
      recovers = true;
      cubic = loss_at r.cubic r.cwnd;
    }

-- a duplicate beyond the third came: in recovery alone, which a timeout ends (3.2, step 4)
abbrev pub inflated : RenoValue → RenoValue
inflated r = if r.recovers then record r { cwnd = min most (r.cwnd + r.mss) } else r

-- the retransmission timer ran out (3.1, equation 4 and the payload below it)
abbrev pub timed_out : RenoValue → ℕ → RenoValue
timed_out r flight =
    record r {
      ssthresh = if r.timed_out then r.ssthresh else lowered r flight;
      cwnd = r.mss;
      recovers = false;
      timed_out = true;
      cubic = if r.timed_out then r.cubic else timeout_at r.cubic r.cwnd;
    }

-- VALIDATION (RFC 7661)

-- CUBIC's time doesn't run on while the window isn't used: the next acknowledgement begins a stage at this window (RFC 9438, 4.2 and 5.8)
abbrev pub stopped : Option CubicValue → Option CubicValue
stopped None = None
stopped (Some c) = Some (cubic.stopped c)

-- so many bytes were acknowledged of a window that isn't used: it doesn't grow (4.4)
abbrev pub preserved : RenoValue → ℕ → RenoValue
preserved r count = if count == 0 then r else record r { timed_out = false; cubic = stopped r.cubic }

-- so many periods ended in which the window wasn't used: each halves it, to no less than the first window, and the threshold is no less
-- than 3/4 of it (4.4.3)
abbrev pub lapsed : RenoValue → ℕ → RenoValue
lapsed r periods = record r {
  cwnd = if periods == 0 then r.cwnd else min r.cwnd (max (r.cwnd / 2 ^ periods) (first_window r.mss));
  ssthresh = if periods == 0 then r.ssthresh else max r.ssthresh (3 * r.cwnd / 4);
  cubic = if periods == 0 then r.cubic else stopped r.cubic;
}

-- a loss that wasn't one is undone: the window is what it was before it (RFC 4015, 3.2)
abbrev pub restored : RenoValue → RenoValue → RenoValue
restored r prior = record r { cwnd = prior.cwnd; ssthresh = prior.ssthresh; recovers = false; timed_out = false; cubic = prior.cubic }

-- A RUN WITH CUBIC

-- a window of a hundred segments at the threshold
abbrev pub hundred_segments : RenoValue
hundred_segments = record (initial_with (Some cubic.initial)) { mss = 1460; cwnd = 146_000; ssthresh = 146_000 }

-- and one of them is lost
abbrev pub after_loss : RenoValue
after_loss = record {
  mss = 1460;
  cwnd = 102_200;
  ssthresh = 102_200;
  recovers = true;
  timed_out = false;
  cubic = Some (record { w_max = 146_000; cwnd_prior = 146_000; epoch = None });
}

-- and the next acknowledged segment begins a stage
abbrev pub in_stage : RenoValue
in_stage = record {
  mss = 1460;
  cwnd = 102_211;
  ssthresh = 102_200;
  recovers = false;
  timed_out = false;
  cubic = Some (record { w_max = 146_000; cwnd_prior = 146_000; epoch = Some (record { since = pos 0; k = 4217; w_est = 102_211 }) });
}
