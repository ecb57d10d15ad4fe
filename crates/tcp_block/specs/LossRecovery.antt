-- Loss recovery by selective acknowledgements (RFC 6675), and loss probes (RFC 8985, 7). Offsets are distances from SND.UNA.
use Rattle.std.specs.Prelude.{ℕ, ◌+◌, ◌-◌, ◌*◌, ◌/◌, ◌==◌, nat_le, nat_lt, not, ◌&&◌, ◌||◌, min, max}
use Rattle.std.specs.Prelude.{ℤ, Bool, false, if◌then◌else◌, List, [], ◌∷◌, Option, Some, None, is_none}
use Rattle.std.specs.Option.{option_or}
use Rattle.ip_wire.specs.TcpHeader.{TcpHeader}
use Rattle.tcp_state.specs.Moments.{later, is_due}
use Rattle.tcp_state.specs.Offsets.{distance_after}
use Rattle.tcp_state.specs.Reno as reno
use Rattle.tcp_state.specs.RoundTrip.{probe_wait}
use Rattle.tcp_state.specs.Scoreboard.{is_run, no_run, noted, after_ack, held, missing, first_missing, gap_end, sacked_from, is_empty, is_lost, lost_end}
use Rattle.tcp_state.specs.Scoreboard.{sum_of, runs_end}
use Rattle.tcp_state.specs.States.{may_send_data}
use Rattle.tcp_state.specs.declared.scoreboard.Run.{Run}
use Rattle.tcp_block.specs.TcbRules.{initial_loss, past_snd_max}
use Rattle.tcp_block.specs.Undo.{undo_begun}
use Rattle.tcp_block.specs.declared.tcb.Tcb.{Tcb}
use Rattle.tcp_block.specs.declared.tcb.Loss.{Loss}

abbrev pub with_board : Loss → List Run → Loss
with_board l runs = record l { board = record { runs = runs } }

-- PROBES

-- a probe would go some time from now, if anything is in flight
abbrev pub after_wait : ℤ → Option ℕ → Option ℤ
after_wait now None = None
after_wait now (Some wait) = Some (later now wait)

abbrev pub probe_from : Tcb → ℤ → Option ℤ
probe_from b now =
    if b.sender.flight_size == 0 then None else after_wait now (probe_wait b.round_trip (nat_le b.sender.flight_size b.reno.mss))

-- Probes go where both SYNs permitted selective acknowledgements, and the user asked for a least timeout below the second of RFC 6298, 2.4.
abbrev pub probes_losses : Tcb → Bool
probes_losses b = b.peer.sack && nat_lt b.settings.min_rto 1_000_000

-- one goes some time from now, unless one went already since something new was acknowledged
abbrev pub probe_armed : Tcb → Loss → ℤ → Loss
probe_armed b l now = if probes_losses b && not l.probed then record l { probe_at = probe_from b now } else l

-- what may only be late is waited for before any probe goes
abbrev pub loss_deadline : Loss → Option ℤ
loss_deadline l = option_or l.reorder_until l.probe_at

-- while payload or a FIN is in flight
abbrev pub loss_probe_deadline : Tcb → Option ℤ
loss_probe_deadline b = if may_send_data b.state && (not b.sender.syn_unacked && not (b.sender.flight_size == 0)) then loss_deadline b.loss else None

-- WHAT THE REMOTE HOLDS (RFC 2018)

-- a run past SND.UNA, in what was sent
abbrev pub run_within : Tcb → ℕ → ℕ → Run
run_within b start end =
    if not (start == 0) && (nat_lt start end && nat_le end b.sender.snd_max) then record { start = start; end = end } else no_run

-- the run that a range names
abbrev pub run_of : Tcb → Option (ℕ × ℕ) → Run
run_of b None = no_run
run_of b (Some range) = run_within b (distance_after b.sender.una (record { 0 = range.0 })) (distance_after b.sender.una (record { 0 = range.1 }))

abbrev pub range_noted : Tcb → List Run → Option (ℕ × ℕ) → List Run
range_noted b runs range = if is_run (run_of b range) then noted runs (run_of b range) else runs

abbrev pub all_noted : Tcb → List Run → List (Option (ℕ × ℕ)) → List Run
all_noted b runs [] = runs
all_noted b runs (range ∷ more) = all_noted b (range_noted b runs range) more

-- more is held than before: that is something new, and the last segment isn't to go as a probe any more
abbrev pub heard_more : Tcb → List Run → ℤ → Loss
heard_more b runs now =
    if nat_lt (held b.loss.board.runs) (held runs)
    then probe_armed b (record b.loss { board = record { runs = runs }; probes = false; probed = false }) now
    else with_board b.loss runs

-- the ranges of a segment are noted, if both SYNs permitted them
abbrev pub ranges_noted : Tcb → TcpHeader → ℤ → Loss
ranges_noted b header now =
    if b.peer.sack then heard_more b (all_noted b b.loss.board.runs header.options.sack_ranges) now else b.loss

-- WHAT IS LOST (RFC 6675, 4)

-- DupThresh; one run is enough after a probe, which doesn't go before the order on the way is settled
abbrev pub threshold : Tcb → ℕ
threshold b = if b.loss.dupthresh_one then 1 else 3

abbrev pub is_lost_at : Tcb → ℕ → Bool
is_lost_at b offset = is_lost b.loss.board.runs (threshold b) b.reno.mss offset

-- the segment at SND.UNA is, as the ranges say
abbrev pub is_first_lost : Tcb → Bool
is_first_lost b = b.peer.sack && is_lost_at b 0

-- what was first sent from this position on is held, so much of it that what went before and isn't held is lost (RFC 8985, 6.2, with as
-- many segments of what was sent later in place of a time)
abbrev pub is_passed : Tcb → ℕ → Bool
is_passed b offset = nat_lt ((threshold b - 1) * b.reno.mss) (sacked_from b.loss.board.runs offset)

-- what was retransmitted is lost once more
abbrev pub is_lost_again : Tcb → Bool
is_lost_again b = b.peer.sack && (b.reno.recovers && (not (b.loss.resent == 0) && is_passed b b.loss.mark))

-- WHAT MAY ONLY BE LATE

-- SND.UNA rises over what went once, though what was sent later is held: it came out of order (RFC 8985, 6.2, step 3)
abbrev pub arrived_late : Loss → Bool
arrived_late l = (l.mark == 0) && not (is_empty l.board.runs)

-- Once something did, what is missing may be late, too (RFC 8985, 6.2, step 4), unless a probe went since: the order on the way is settled then.
abbrev pub may_be_late : Tcb → Bool
may_be_late b = not (b.loss.reo_wnd_mult == 0) && (b.peer.sack && not b.loss.dupthresh_one)

-- WHAT MAY GO

-- Pipe (RFC 6675, 4, SetPipe): of what was sent the positions that aren't held and, in recovery, aren't lost, and those that was retransmitted
abbrev pub pipe_in_recovery : Tcb → ℕ
pipe_in_recovery b =
    sum_of
    (missing b.loss.board.runs b.sender.flight_size
    - missing b.loss.board.runs (min (lost_end b.loss.board.runs (threshold b) b.reno.mss) b.sender.flight_size))
    (missing b.loss.board.runs (min b.loss.resent b.sender.flight_size))

abbrev pub pipe : Tcb → ℕ
pipe b =
    if b.sender.flight_size == 0 then 0
    else if b.reno.recovers then pipe_in_recovery b
    else missing b.loss.board.runs b.sender.flight_size

-- NextSeg, rule 1: the first position after what was retransmitted that isn't held
abbrev pub next_hole : Tcb → ℕ
next_hole b = first_missing b.loss.board.runs b.loss.resent

-- the window has room for a segment alongside Pipe (RFC 6675, 5, step C)
abbrev pub has_room : Tcb → Bool
has_room b = nat_le (pipe b + b.reno.mss) b.reno.cwnd

-- the hole is lost, and the window has room
abbrev pub mends_lost : Tcb → Bool
mends_lost b = is_lost_at b (next_hole b) && has_room b

-- What was sent when the recovery began, and isn't held though a segment that was retransmitted later is acknowledged, is lost (RFC 8985, 6.2). For
-- each such acknowledgement two segments of it go, as in slow start (RFC 6937, 3), while the window has room alongside what was retransmitted; the
-- second of them takes no more than half of the window.
abbrev pub credited_window : Tcb → ℕ
credited_window b = if b.loss.credit == 1 then b.reno.cwnd / 2 else b.reno.cwnd

abbrev pub mends_credited : Tcb → Bool
mends_credited b =
    not (b.loss.credit == 0)
    && (nat_lt (next_hole b + 1) b.sender.recover
    && nat_le (missing b.loss.board.runs (min b.loss.resent b.sender.flight_size) + b.reno.mss) (credited_window b))

-- by either of the two a segment goes there
abbrev pub fills_hole : Tcb → Bool
fills_hole b =
    b.peer.sack && (b.reno.recovers && (not b.sender.syn_unacked
    && (nat_lt (next_hole b) b.sender.flight_size && (mends_lost b || mends_credited b))))

-- What isn't lost may are retransmitted, too, where no new payload goes: so acknowledgements go on coming.
abbrev pub may_send_early : Tcb → Bool
may_send_early b =
    b.peer.sack && (b.reno.recovers && (not b.sender.syn_unacked && (nat_lt (next_hole b) b.sender.flight_size && has_room b)))

-- NextSeg, rule 3: a hole below what is held
abbrev pub fills_early : Tcb → Bool
fills_early b = may_send_early b && nat_lt (next_hole b) (runs_end b.loss.board.runs)

-- NextSeg, rule 4, a rescue: once in a recovery the last segment of what is in flight, where SND.UNA passed RescueRxt and nothing that is
-- held lies after the next hole
abbrev pub rescues : Tcb → Bool
rescues b =
    may_send_early b
    && ((b.loss.rescue_rxt == 0)
    && (nat_le (runs_end b.loss.board.runs) (next_hole b) && (b.sender.flight_size == b.sender.snd_max)))

-- by either of the two
abbrev pub is_sent_early : Tcb → Bool
is_sent_early b = fills_early b || rescues b

-- what is retransmitted is a rescue: for no other reason would it go
abbrev pub is_rescue : Tcb → Bool
is_rescue b = not (b.sender.resend || (b.loss.probes || (fills_hole b || fills_early b))) && rescues b

-- in recovery the next hole, or as a rescue the last segment, less what of it was retransmitted
abbrev pub hole_offset : Tcb → ℕ → ℕ → ℕ
hole_offset b limit sent = if is_rescue b then max (sent - limit) (next_hole b) else next_hole b

-- From which place of the send queue something is retransmitted, where a segment takes so much and so much was sent: the segment at SND.UNA, the
-- last one as a probe, or in recovery.
abbrev pub retransmit_offset : Tcb → ℕ → ℕ → ℕ → ℕ
retransmit_offset b limit sent queued =
    if b.sender.resend || (b.sender.flight_size == 0) then 0
    else if b.loss.probes then min (sent - limit) queued
    else min (hole_offset b limit sent) (min sent queued)

-- how much from there on was sent and isn't held
abbrev pub hole_len : Tcb → ℕ → ℕ → ℕ
hole_len b offset sent = if b.sender.syn_unacked then sent - offset else gap_end b.loss.board.runs offset sent - offset

-- WHAT HAPPENS

-- SND.UNA rose by so much; in recovery, and it goes on, or not
abbrev pub loss_lowered : Loss → ℕ → Bool → Loss
loss_lowered l by partial = record l {
  board = record { runs = after_ack l.board.runs by };
  resent = l.resent - by;
  credit = if partial && not (l.resent == 0) then 2 else 0;
  mark = l.mark - by;
  dupthresh_one = l.dupthresh_one && partial;
  probes = false;
  probed = false;
  rescue_rxt = l.rescue_rxt - by;
  reo_wnd_mult = if arrived_late l then max 1 l.reo_wnd_mult else l.reo_wnd_mult;
  reorder_until = None;
  undo = None;
}

-- `b` is the block as it is then, but for this
abbrev pub loss_acked : Tcb → ℕ → Bool → ℤ → Loss
loss_acked b by partial now = if by == 0 then b.loss else probe_armed b (loss_lowered b.loss by partial) now

-- RescueRxt, and one more: the end of the segment that is retransmitted at SND.UNA (RFC 6675, 5, step 4.3), and after a rescue RecoveryPoint
abbrev pub rescue_after : Tcb → ℕ → ℕ
rescue_after b end =
    if b.reno.recovers && b.sender.resend then max b.loss.rescue_rxt (sum_of end 1)
    else if is_rescue b then b.sender.recover
    else b.loss.rescue_rxt

-- Something was retransmitted, up to so far past SND.UNA: the segment there, also where no recovery is, or what a recovery mends. A rescue leaves
-- HighRxt where it is.
abbrev pub loss_resent : Tcb → ℕ → Loss
loss_resent b end = record b.loss {
  resent =
      if b.sender.resend || (b.reno.recovers && not (b.loss.probes || is_rescue b)) then max b.loss.resent end else b.loss.resent;
  credit = b.loss.credit - 1;
  mark = b.sender.snd_max;
  probes = false;
  rescue_rxt = rescue_after b end;
}

-- the retransmission timer ran out: what is held stays known (RFC 6675, 5.1), and so does what the window was before
abbrev pub loss_timed_out : Tcb → Loss
loss_timed_out b = record initial_loss {
  board = b.loss.board;
  mark = b.sender.snd_max;
  reo_wnd_mult = min 1 b.loss.reo_wnd_mult;
  undo = if b.sender.syn_unacked then None else undo_begun b;
}

-- A probe is due. Where nothing is held, nor was lost, the last segment is to be retransmitted (RFC 8985, 7.3). Else what isn't held is lost, and
-- what was retransmitted, too, since nothing came of it for two round trips: the segment at SND.UNA is to be retransmitted (RFC 8985, 6.2, step 5). So it is
-- where it was waited for long enough; no other one is lost by that.
abbrev pub probes_tail : Tcb → Bool
probes_tail b = is_none b.loss.reorder_until && ((b.sender.recover == 0) && (held b.loss.board.runs == 0))

-- it begins a recovery
abbrev pub probe_begins : Tcb → Bool
probe_begins b = not (probes_tail b) && (b.sender.recover == 0)

abbrev pub loss_probed : Tcb → Tcb
loss_probed b = record b {
  sender = record b.sender {
    resend = b.sender.resend || not (probes_tail b);
    recover = if probe_begins b then past_snd_max b else b.sender.recover;
    partial = b.sender.partial && not (probe_begins b);
  };
  loss = record b.loss {
    resent = if probes_tail b then b.loss.resent else 0;
    dupthresh_one = is_none b.loss.reorder_until;
    probes = probes_tail b;
    probed = is_none b.loss.reorder_until;
    rescue_rxt = if probe_begins b then 0 else b.loss.rescue_rxt;
    probe_at = None;
    reorder_until = None;
    undo = if probe_begins b then undo_begun b else b.loss.undo;
  };
  reno = if probes_tail b then b.reno else reno.reduced b.reno b.sender.flight_size;
}

-- where one is due
abbrev pub loss_probed_by : ℤ → Tcb → Tcb
loss_probed_by now b = if is_due now (loss_probe_deadline b) then loss_probed b else b
