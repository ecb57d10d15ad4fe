-- The user timeout (RFC 9293, 3.8.3), as it runs while something waits for the remote.
use Rattle.std.specs.Prelude.{ℕ, ◌==◌, ◌&&◌, ◌||◌, not, ℤ, Bool, true, if◌then◌else◌, Option, Some, None, is_some, is_none}
use Rattle.tcp_block.specs.declared.tcb.Tcb.{Tcb}
use Rattle.tcp_state.specs.declared.state.State.TheVariants as In
use Rattle.tcp_block.specs.TcbRules.{unacked}
use Rattle.tcp_state.specs.Moments.{later}
use Rattle.tcp_state.specs.States.{is_closed, is_time_wait, is_opening, is_answering}

-- something isn't acknowledged, the connection isn't there yet, or keep-alives go
abbrev pub waits_for_remote : Tcb → ℕ → Bool
waits_for_remote b queued =
    (is_opening b.state || is_answering b.state) || (not (unacked b queued == 0) || is_some b.settings.keep_alive)

-- TIME-WAIT ends by its own instant alone
abbrev pub timeout_runs : Tcb → ℕ → Bool
timeout_runs b queued = is_some b.settings.timeout && (not (is_closed b.state || is_time_wait b.state) && waits_for_remote b queued)

abbrev pub with_timeout_since : Tcb → Option ℤ → Tcb
with_timeout_since b since = record b { timers = record b.timers { timeout_since = since } }

-- an accepted segment starts it again, if it still runs
abbrev pub timeout_restarted : Tcb → ℤ → ℕ → Tcb
timeout_restarted b now queued = with_timeout_since b (if timeout_runs b queued then Some now else None)

-- its start is forgotten where it doesn't run any more
abbrev pub timeout_kept : Tcb → ℕ → Tcb
timeout_kept b queued = with_timeout_since b (if timeout_runs b queued then b.timers.timeout_since else None)

-- it starts at the first offer
abbrev pub is_timeout_unset : Tcb → ℕ → Bool
is_timeout_unset b queued = timeout_runs b queued && is_none b.timers.timeout_since

abbrev pub timeout_started : ℤ → ℕ → Tcb → Tcb
timeout_started now queued b =
    with_timeout_since b (if is_timeout_unset b queued then Some now else b.timers.timeout_since)

abbrev pub end_by : Option ℤ → Option ℕ → Option ℤ
end_by (Some since) (Some timeout) = Some (later since timeout)
end_by since timeout = None

-- when it ends
abbrev pub timeout_end : Tcb → ℕ → Option ℤ
timeout_end b queued = if timeout_runs b queued then end_by b.timers.timeout_since b.settings.timeout else None

-- CLOSED, and a reset is due
abbrev pub timed_out : Tcb → Tcb
timed_out b = record b { state = In.Closed; sender = record b.sender { reset_due = true } }
