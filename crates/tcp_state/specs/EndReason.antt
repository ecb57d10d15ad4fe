-- Why a connection ended (RFC 9293, sections 3.8.3, 3.9.1 and 3.10.7; RFC 5461): it is told by what happened and by the states before and after.
use Rattle.std.specs.Prelude.{Bool, not, ◌||◌, if◌then◌else◌, Option, Some, None}
use Rattle.tcp_state.specs.States.{is_closed, is_time_wait}
use Rattle.tcp_state.specs.declared.end_reason.EndEvent.{EndEvent}
use Rattle.tcp_state.specs.declared.end_reason.EndEvent.TheVariants as By
use Rattle.tcp_state.specs.declared.end_reason.EndReason.{EndReason}
use Rattle.tcp_state.specs.declared.end_reason.EndReason.TheVariants as Why
use Rattle.tcp_state.specs.declared.state.State.{State}

-- a reset refuses a SYN that isn't acknowledged, and else resets the connection (3.10.7.3 and 3.10.7.4)
abbrev pub reason_by : EndEvent → Bool → EndReason
reason_by By.Reset syn_unacked = if syn_unacked then Why.Refused else Why.Reset
reason_by By.Segment syn_unacked = Why.Closed
reason_by By.Close syn_unacked = Why.Closed
reason_by By.Abort syn_unacked = Why.Aborted
reason_by By.Timer syn_unacked = Why.TimedOut
reason_by By.Unreachable syn_unacked = Why.Unreachable

-- an event ends what was open before it and is closed after it; in TIME-WAIT both sides had closed it
abbrev pub reason_for : EndEvent → Bool → State → State → Option EndReason
reason_for event syn_unacked before after =
    if is_closed before || not (is_closed after) then None
    else if is_time_wait before then Some Why.Closed
    else Some (reason_by event syn_unacked)
