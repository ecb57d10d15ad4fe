-- The first acknowledgement of payload since a loss may answer what was sent first, and not what was retransmitted: then nothing was lost, and what
-- was done is undone (RFC 3522 and 4015). Only evidence says so: a timestamp, or that nothing was retransmitted yet. That the acknowledgement comes
-- soon is none, since a path may have become faster.
use Rattle.std.specs.Prelude.{ℕ, ◌+◌, ◌==◌, not, ◌&&◌, min, max, ℤ, int_lt, Bool, true, false, if◌then◌else◌, Option, Some, None}
use Rattle.ip_wire.specs.TcpHeader.{TcpHeader}
use Rattle.ip_wire.specs.TcpTimestampRepr.{TcpTimestampRepr}
use Rattle.tcp_state.specs.Reno as reno
use Rattle.tcp_state.specs.Reno.{RenoValue}
use Rattle.tcp_state.specs.Scoreboard.{is_empty}
use Rattle.tcp_block.specs.Acknowledged.{freed_by}
use Rattle.tcp_block.specs.TcbRules.{one_if}
use Rattle.tcp_block.specs.Timestamps.{uses_stamps, is_older}
use Rattle.tcp_block.specs.declared.tcb.Loss.{Loss}
use Rattle.tcp_block.specs.declared.tcb.Tcb.{Tcb}
use Rattle.tcp_block.specs.declared.tcb.Undo.{Undo}

-- its echo is of a timestamp before that of what was retransmitted (RFC 3522, 3.2, step 5)
abbrev pub is_tsecr_before : Option TcpTimestampRepr → ℕ → Bool
is_tsecr_before None tsval = false
is_tsecr_before (Some s) tsval = is_older s.tsecr tsval

-- Its timestamp tells that it answers what was sent first. If nothing was retransmitted, there is nothing else that it could answer.
abbrev pub answers_first : Option ℕ → Tcb → TcpHeader → Bool
answers_first None b header = true
answers_first (Some tsval) b header = uses_stamps b && is_tsecr_before header.options.timestamp tsval

abbrev pub answers_undo : Option Undo → Tcb → TcpHeader → Bool
answers_undo None b header = false
answers_undo (Some u) b header = answers_first u.tsval b header

-- a segment that makes SND.UNA rise by so much, over payload, says that nothing was lost
abbrev pub is_needless : Tcb → TcpHeader → ℕ → ℕ → Bool
is_needless b header by queued =
    not (freed_by b by queued == 0) && answers_undo b.loss.undo b header

abbrev pub prior_of : Option Undo → RenoValue → RenoValue
prior_of None r = r
prior_of (Some u) r = reno.restored r u.reno

-- what was sent later came earlier, and recovery began for it
abbrev pub arrived_early : Tcb → Bool
arrived_early b = b.reno.recovers && not (is_empty b.loss.board.runs)

-- what is missing is waited for longer, at most 16 quarters of the shortest round trip
abbrev pub reo_wnd_raised : Loss → ℕ
reo_wnd_raised l = min l.reo_wnd_mult 15 + 1

-- The window is as it was, recovery is over, nothing is to be retransmitted, and all that was sent of the send queue is in flight. Where a recovery
-- began without need, since what was sent later was held, what is missing is waited for longer, in place of what a DSACK tells (RFC 8985, 6.2,
-- step 4).
abbrev pub undone_if : Bool → Tcb → ℕ → Tcb
undone_if needless b queued = record b {
  sender = record b.sender {
    flight_size = if needless then max b.sender.flight_size (min b.sender.snd_max (one_if b.sender.syn_unacked + queued)) else b.sender.flight_size;
    resend = not needless && b.sender.resend;
    recover = if needless then 0 else b.sender.recover;
  };
  loss = record b.loss {
    credit = if needless then 0 else b.loss.credit;
    reo_wnd_mult = if needless && arrived_early b then reo_wnd_raised b.loss else b.loss.reo_wnd_mult;
  };
  reno = if needless then prior_of b.loss.undo b.reno else b.reno;
}

abbrev pub undone : Tcb → TcpHeader → ℕ → ℕ → Tcb
undone b header by queued = undone_if (is_needless b header by queued) b queued

-- A HINT OF REORDERING

abbrev pub is_sooner : ℤ → Option ℤ → Bool
is_sooner now None = false
is_sooner now (Some instant) = int_lt now instant

abbrev pub precedes_answer : Option Undo → ℤ → Bool
precedes_answer None now = false
precedes_answer (Some u) now = is_sooner now u.answers_from

-- Something new is acknowledged sooner behind what was retransmitted than the shortest round trip (RFC 8985, 6.2, step 2): what was sent first came
-- late, or the path became faster.
abbrev pub hints_reordering : Tcb → ℕ → ℤ → Bool
hints_reordering b by now = not (by == 0) && (arrived_early b && precedes_answer b.loss.undo now)

-- So what is missing is waited for longer. It is no evidence, so all else stays as it is.
abbrev pub reordering_hinted : Tcb → ℕ → ℤ → Tcb
reordering_hinted b by now =
    record b { loss = record b.loss { reo_wnd_mult = if hints_reordering b by now then reo_wnd_raised b.loss else b.loss.reo_wnd_mult } }
