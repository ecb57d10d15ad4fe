-- Congestion window validation (RFC 7661): a window that isn't used doesn't grow, and falls after a while.
use Rattle.std.specs.Prelude.{ℕ, ◌*◌, ◌/◌, ◌==◌, nat_le, nat_lt, not, ◌&&◌, ◌||◌, min, ℤ, ◌-ℤ◌, int_lt, unsigned_abs, Bool, if◌then◌else◌, Option, Some, None}
use Rattle.tcp_state.specs.Reno as reno
use Rattle.tcp_state.specs.Reno.{RenoValue}
use Rattle.tcp_block.specs.declared.tcb.Tcb.{Tcb}
use Rattle.tcp_block.specs.declared.tcb.Validation.{Validation}

-- Half of the window at least is used (4.3): so much was in flight when payload last went, and goes through in a round trip (4.2). What is in
-- flight when an acknowledgement comes says less, where several come before anything else goes.
abbrev pub is_used : Tcb → Bool
is_used b = nat_le b.reno.cwnd (2 * b.validation.flight)

-- so many bytes of it are acknowledged now, outside of fast recovery: it grows if it is used (4.4)
abbrev pub grown_if_used : Tcb → ℕ → ℤ → ℕ → RenoValue
grown_if_used b count now rtt = if is_used b then reno.acknowledged b.reno count now rtt else reno.preserved b.reno count

-- The window is validated: something new is acknowledged, and it is used, the connection begins (4.1), or fast recovery lasts (4.2). A timeout
-- leaves one segment, of which nothing lapses.
abbrev pub validates : Tcb → ℕ → Bool
validates b by = not (by == 0) && (b.sender.syn_unacked || (b.reno.recovers || is_used b))

-- SND.UNA rises by so much now
abbrev pub validation_after : Tcb → ℕ → ℤ → Validation
validation_after b by now = record b.validation { since = if validates b by then Some now else b.validation.since }

-- how many periods of five minutes (4.4) ended since then. No window is as large as 2 ^ 31, so more of them halve nothing.
abbrev pub periods : Option ℤ → ℤ → ℕ
periods None now = 0
periods (Some since) now = if int_lt since now then min 31 (unsigned_abs (now -ℤ since) / 300_000_000) else 0

-- how many count where payload went: some of it is new, and what was sent before ended so far past SND.UNA
abbrev pub periods_ended : Tcb → ℕ → ℤ → ℕ
periods_ended b snd_max now = if nat_lt snd_max b.sender.snd_max then periods b.validation.since now else 0

-- payload went, which tells what is in flight then. Where new payload goes, each period that ended counts once (4.5.2).
abbrev pub data_sent : Tcb → ℕ → ℤ → Tcb
data_sent b snd_max now = record b {
  reno = reno.lapsed b.reno (periods_ended b snd_max now);
  validation = record {
    flight = b.sender.flight_size;
    since = if periods_ended b snd_max now == 0 then b.validation.since else Some now;
  };
}
