-- When a connection gives up (RFC 9293, 3.8.3): timeouts of the retransmission timer in a row are counted, and so are probes of a closed
-- window and keep-alives that stay without an answer.
use Rattle.std.specs.Prelude.{ℕ, ◌+◌, nat_le, ◌&&◌, ◌||◌, min, ℤ, Bool, false, if◌then◌else◌, Option, Some, None}
use Rattle.tcp_state.specs.Moments.{is_due, is_over, timeout_from}
use Rattle.tcp_state.specs.States.{is_opening, is_answering}
use Rattle.tcp_block.specs.declared.tcb.Tcb.{Tcb}
use Rattle.tcp_block.specs.Calls.{listening}
use Rattle.tcp_block.specs.Checks.{falls_back}
use Rattle.tcp_block.specs.Probing.{probe_deadline}
use Rattle.tcp_block.specs.Rules.{keep_alive_deadline}
use Rattle.tcp_block.specs.Timeout.{timed_out}
use Rattle.tcp_block.specs.Value.{TcpValue, with_tcb}

-- one more, as far as the count goes
abbrev pub one_more : ℕ → ℕ
one_more count = min (count + 1) 255

-- so many are as many as the limit, if there is one
abbrev pub reaches : Option ℕ → ℕ → Bool
reaches None count = false
reaches (Some limit) count = nat_le limit count

-- the limit while the connection is opened, and later
abbrev pub retries_of : Tcb → Option ℕ
retries_of b = if is_opening b.state || is_answering b.state then b.settings.opening_retries else b.settings.retries

-- a segment that passes the tests came: nothing is unanswered
abbrev pub heard : Tcb → Tcb
heard b = record b { sender = record b.sender { timeouts = 0; unanswered = 0 } }

-- a probe or a keep-alive went: it counts, at most once in each timeout
abbrev pub asked : Tcb → ℤ → Tcb
asked b now =
    if is_over now b.timers.counts_from
    then record b {
      sender = record b.sender { unanswered = one_more b.sender.unanswered };
      timers = record b.timers { counts_from = Some (timeout_from now b.round_trip) };
    }
    else b

-- the retransmission timer runs out for the last time
abbrev pub is_last_timeout : ℤ → Tcb → Bool
is_last_timeout now b = is_due now b.timers.retransmit_at && reaches (retries_of b) (b.sender.timeouts + 1)

-- a probe or a keep-alive is due, and too many weren't answered
abbrev pub is_last_probe : ℤ → Tcb → ℕ → Bool
is_last_probe now b queued =
    (is_due now (probe_deadline b queued) || is_due now (keep_alive_deadline b))
    && (is_due now b.timers.counts_from && reaches b.settings.retries b.sender.unanswered)

abbrev pub gives_up : ℤ → Tcb → ℕ → Bool
gives_up now b queued = is_last_timeout now b || is_last_probe now b queued

-- a listener whose connection isn't there yet listens again; any other ends as by the user timeout
abbrev pub given_up : TcpValue → TcpValue
given_up v = if falls_back v.tcb then listening v v.tcb.names.listen else with_tcb v (timed_out v.tcb)
