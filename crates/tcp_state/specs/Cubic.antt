-- CUBIC (RFC 9438) in whole bytes and milliseconds: each division drops its rest. It is what differs from Reno: how the window grows in
-- congestion avoidance, and what a loss makes of it.
use Rattle.std.specs.Prelude.{ℕ, zero, suc, ◌+◌, ◌-◌, ◌*◌, ◌/◌, ◌^◌, ◌≤◌, nat_le, nat_lt, min, max, ℤ, Option, Some, None, IfSome, if◌then◌else◌}
use Rattle.net_base.specs.Time.{IsMoment}
use Rattle.tcp_state.specs.RoundTrip.{millis_between}
use Rattle.tcp_state.specs.declared.cubic.Epoch.{Epoch}

-- no window rises above it
abbrev pub most : ℕ
most = 2 ^ 30

pub record CubicValue : Type 0 where
  pub w_max : ℕ  -- W_max, 0 where no loss is known
  pub cwnd_prior : ℕ  -- cwnd when ssthresh was set last
  pub epoch : Option Epoch  -- the stage of congestion avoidance, none outside of it

-- the bounds of its numbers
pub record IsCubic (c : CubicValue) : Type 0 where
  pub w_max : c.w_max ≤ most
  pub cwnd_prior : c.cwnd_prior ≤ most
  pub epoch : IfSome c.epoch (λ e. IsMoment e.since × ((e.k ≤ 2 ^ 21) × (e.w_est ≤ most)))

-- of a new connection
abbrev pub initial : CubicValue
initial = record { w_max = 0; cwnd_prior = 0; epoch = None }

-- THE CUBE (4.2)

abbrev pub cubed : ℕ → ℕ
cubed n = n * n * n

-- a root with a step, if its cube stays at most n
abbrev pub stepped : ℕ → ℕ → ℕ → ℕ
stepped root step n = if nat_le (cubed (root + step)) n then root + step else root

-- with so many steps, each a half of the one before
abbrev pub rooted : ℕ → ℕ → ℕ → ℕ → ℕ
rooted zero step n root = root
rooted (suc left) step n root = rooted left (step / 2) n (stepped root step n)

-- the whole cube root of a number below 2^63
unfoldable pub cube_root : ℕ → ℕ
cube_root n = rooted 21 1_048_576 n 0

-- How far the cube rises in so many milliseconds from where it is flat: C is 0.4 segments a second cubed (5.1). In 2^21 milliseconds it
-- has left every window after.
abbrev pub rise : ℕ → ℕ → ℕ
rise mss millis = cubed (min 2_097_152 millis) / 1_000_000 * mss / 2500

-- K, in milliseconds: how long the cube takes to rise by so much (Figure 2)
abbrev pub k_of : ℕ → ℕ → ℕ
k_of mss bytes = cube_root (bytes * 2_500_000_000 / mss)

-- W_cubic(t) (Figure 1)
abbrev pub w_cubic : ℕ → ℕ → ℕ → ℕ → ℕ
w_cubic mss w_max k t = w_max + rise mss (t - k) - rise mss (k - t)

-- target: no less than the window, and no more than half of it above (4.2)
abbrev pub target : ℕ → ℕ → ℕ
target cwnd w = max cwnd (min (cwnd + cwnd / 2) w)

-- A STAGE OF CONGESTION AVOIDANCE

-- it begins: at a window above W_max, as after a timeout, that is the new W_max, and K is 0 (4.2, 4.8, 4.10)
abbrev pub begun : CubicValue → ℕ → ℕ → ℤ → Epoch
begun c mss cwnd now = record { since = now; k = k_of mss (c.w_max - cwnd); w_est = cwnd }

abbrev pub epoch_or : Option Epoch → Epoch → Epoch
epoch_or None first = first
epoch_or (Some e) first = e

-- W_max, which is no less than the window that the stage began with
abbrev pub w_max_at : Option Epoch → ℕ → ℕ → ℕ
w_max_at None w_max cwnd = max w_max cwnd
w_max_at (Some e) w_max cwnd = w_max

-- How much W_est grows by, where so many bytes are acknowledged (Figure 4): alpha is 9/17, and 1 from the window of the last loss on (4.3).
abbrev pub est_growth : ℕ → ℕ → ℕ → ℕ → ℕ → ℕ
est_growth mss cwnd count prior w_est =
    if nat_le prior w_est then mss * min count cwnd / cwnd else 9 * (mss * min count cwnd) / (17 * cwnd)

abbrev pub est_after : ℕ → ℕ → ℕ → ℕ → ℕ → ℕ
est_after mss cwnd count prior w_est = min most (w_est + est_growth mss cwnd count prior w_est)

-- so many bytes are acknowledged now: the stage begins, if none lasts, and its W_est grows
abbrev pub avoided : CubicValue → ℕ → ℕ → ℕ → ℤ → CubicValue
avoided c mss cwnd count now =
    let e : Epoch = epoch_or c.epoch (begun c mss cwnd now) in
    record c {
      w_max = w_max_at c.epoch c.w_max cwnd;
      epoch = Some (record e { w_est = est_after mss cwnd count c.cwnd_prior e.w_est });
    }

-- cwnd where the cube is here now, and there after a round trip: in the Reno-friendly region W_est (4.3), else a part of the way to the
-- target, which a window of acknowledged segments goes (4.4, 4.5)
abbrev pub grown : ℕ → ℕ → ℕ → ℕ → ℕ → ℕ
grown mss cwnd here there w_est =
    if nat_lt here w_est then target cwnd w_est else cwnd + (target cwnd there - cwnd) * min mss cwnd / cwnd

-- cwnd in a stage, where its time and a round trip are so many milliseconds
abbrev pub window_in : ℕ → ℕ → ℕ → Option Epoch → ℤ → ℕ → ℕ
window_in mss cwnd w_max None now rtt = cwnd
window_in mss cwnd w_max (Some e) now rtt =
    min most (grown mss cwnd (w_cubic mss w_max e.k (millis_between e.since now)) (w_cubic mss w_max e.k (millis_between e.since now + rtt)) e.w_est)

-- its time doesn't run on (4.2 and 5.8): the next acknowledgement begins a stage
abbrev pub stopped : CubicValue → CubicValue
stopped c = record c { epoch = None }

-- LOSSES

-- ssthresh at a loss, with so much in flight: beta is 0.7 (4.6)
abbrev pub decreased : ℕ → ℕ → ℕ
decreased mss flight = min most (max (flight * 7 / 10) (2 * mss))

-- A loss at this window: W_max is the window, and less where it had not reached the last W_max, to leave room for others (4.6, 4.7).
abbrev pub lost : CubicValue → ℕ → CubicValue
lost c cwnd = record { w_max = (if nat_lt cwnd c.w_max then cwnd * 17 / 20 else cwnd); cwnd_prior = cwnd; epoch = None }

-- the retransmission timer ran out at this window: the next stage begins with its own W_max (4.8)
abbrev pub timed_out : CubicValue → ℕ → CubicValue
timed_out c cwnd = record { w_max = 0; cwnd_prior = cwnd; epoch = None }
