-- Probes of a closed window (RFC 9293, 3.8.6.1), and payload that a small window holds back (3.8.6.2.1): both go at the same time.
use Rattle.std.specs.Prelude.{ℕ, ◌/◌, ◌==◌, nat_lt, not, ◌&&◌, min, max, ℤ, Bool, if◌then◌else◌, Option, Some, None, is_none}
use Rattle.tcp_block.specs.declared.tcb.Tcb.{Tcb}
use Rattle.tcp_state.specs.Moments.{timeout_from}
use Rattle.tcp_state.specs.States.{may_send_data}
use Rattle.tcp_block.specs.Rules.{window_limit}

-- the window is closed, or takes neither all that is queued nor half of the largest window that the remote named
abbrev pub is_window_small : Tcb → ℕ → Bool
is_window_small b queued = nat_lt (window_limit b queued) (min queued (max 1 (b.peer.largest_window / 2)))

-- bytes are queued, nothing is in flight, and the window holds them back
abbrev pub is_probing : Tcb → ℕ → Bool
is_probing b queued = may_send_data b.state && (is_window_small b queued && (b.sender.flight_size == 0))

abbrev pub with_probe_at : Tcb → Option ℤ → Tcb
with_probe_at b instant = record b { timers = record b.timers { probe_at = instant } }

abbrev pub probe_deadline : Tcb → ℕ → Option ℤ
probe_deadline b queued = if is_probing b queued then b.timers.probe_at else None

-- bytes are queued and nothing is in flight, whatever the window says
abbrev pub may_probe : Tcb → ℕ → Bool
may_probe b queued = may_send_data b.state && (not (queued == 0) && (b.sender.flight_size == 0))

-- The instant ends where this does. A window that opens leaves it: from when it was set the payload that was held back has waited with nothing in
-- flight, and the window may close again before the side is asked.
abbrev pub probe_kept : Tcb → ℕ → Tcb
probe_kept b queued = with_probe_at b (if may_probe b queued then b.timers.probe_at else None)

abbrev pub is_probe_unset : Tcb → ℕ → Bool
is_probe_unset b queued = is_probing b queued && is_none b.timers.probe_at

-- the first offer sets it, a retransmission timeout from then
abbrev pub probe_started : ℤ → ℕ → Tcb → Tcb
probe_started now queued b =
    with_probe_at b (if is_probe_unset b queued then Some (timeout_from now b.round_trip) else b.timers.probe_at)
