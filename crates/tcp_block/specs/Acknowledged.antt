-- The acknowledgement and the window of an accepted segment (RFC 9293, 3.10.7.4, fifth): SND.UNA rises by so much, and so many
-- bytes are queued before that.
use Rattle.std.specs.Prelude.{ℕ, ◌+◌, ◌-◌, ◌*◌, ◌/◌, ◌^◌, ◌==◌, nat_lt, not, ◌&&◌, ◌||◌, min, max, ℤ, Bool, true, false, if◌then◌else◌, List, [], ◌∷◌}
use Rattle.std.specs.Prelude.{Option, Some, None, is_none}
use Rattle.ip_wire.specs.SeqNumber.{SeqNumber}
use Rattle.ip_wire.specs.Options.{capped}
use Rattle.ip_wire.specs.TcpHeader.{TcpHeader}
use Rattle.net_base.specs.Ring.{released}
use Rattle.tcp_block.specs.declared.tcb.Tcb.{Tcb}
use Rattle.tcp_block.specs.declared.tcb.Sender.{Sender}
use Rattle.tcp_block.specs.declared.tcb.Timers.{Timers}
use Rattle.tcp_state.specs.declared.state.State.{State}
use Rattle.tcp_block.specs.TcbRules.{one_if, unacked, forgotten, past_snd_max}
use Rattle.tcp_state.specs.Controls.{is_fin}
use Rattle.tcp_state.specs.Moments.{later, timeout_from, time_wait_from}
use Rattle.tcp_state.specs.Offsets.{advanced_by, distance_after, distance_before}
use Rattle.tcp_state.specs.Reno as reno
use Rattle.tcp_state.specs.Reno.{RenoValue}
use Rattle.tcp_state.specs.RoundTrip as round_trip
use Rattle.tcp_state.specs.RoundTrip.{RoundTripValue, late_wait, srtt}
use Rattle.tcp_state.specs.States.{is_closed, is_time_wait, owes_fin, after_ack, after_ack_of_fin}
use Rattle.tcp_block.specs.LossRecovery.{loss_acked, ranges_noted, is_first_lost, is_lost_again, is_lost_at, is_passed, may_be_late}
use Rattle.tcp_block.specs.Timestamps.{tsval_taken}
use Rattle.tcp_block.specs.Undo.{undo_begun}
use Rattle.tcp_block.specs.Validation.{grown_if_used, validation_after}
use Rattle.tcp_block.specs.Value.{TcpValue, queued_in}

-- how many bytes of the send queue are acknowledged
abbrev pub freed_by : Tcb → ℕ → ℕ → ℕ
freed_by b by queued = min (by - one_if b.sender.syn_unacked) queued

abbrev pub sender_moved : Sender → ℕ → Sender
sender_moved s by = record s {
  una = advanced_by s.una by;
  past_iss = min (s.past_iss + by) 4_294_967_295;
  syn_unacked = s.syn_unacked && (by == 0);
  flight_size = s.flight_size - by;
  snd_max = s.snd_max - by;
  sacked = s.sacked - by;
  resend = s.resend && (by == 0);
  recover = s.recover - by;
  timeouts = 0;
  unanswered = 0;
}

-- A new acknowledgement restarts the retransmission timer, or ends it where nothing is in flight (RFC 6298, 5.2 and 5.3). A further
-- blind one of one recovery leaves it as it runs (RFC 6582, 3.2, step 3).
abbrev pub retransmit_after : Timers → ℕ → ℕ → Bool → ℤ → RoundTripValue → Option ℤ
retransmit_after t by flight stays now r =
    if by == 0 then t.retransmit_at else if flight == 0 then None else if stays then t.retransmit_at else Some (timeout_from now r)

-- the own SYN is acknowledged
abbrev pub acks_local_syn : Tcb → ℕ → Bool
acks_local_syn b by = b.sender.syn_unacked && not (by == 0)

-- the round trip, where a connection may begin after its SYN was lost
abbrev pub round_trip_after : Tcb → ℕ → ℤ → RoundTripValue
round_trip_after b by now =
    if acks_local_syn b by && b.sender.syn_lost then round_trip.begun_late (round_trip.advanced b.settings.fine_timer b.round_trip by now)
    else round_trip.advanced b.settings.fine_timer b.round_trip by now

-- SRTT after it, in whole milliseconds
abbrev pub srtt_after : Tcb → ℕ → ℤ → ℕ
srtt_after b by now = srtt (round_trip.advanced b.settings.fine_timer b.round_trip by now) / 1000

-- PARTIAL ACKNOWLEDGEMENTS (RFC 6582, 3.2, step 3)

-- something new is acknowledged in fast recovery
abbrev pub acks_in_recovery : Tcb → ℕ → Bool
acks_in_recovery b by = b.reno.recovers && not (by == 0)

-- and not all of it up to `recover`: another segment was lost, which now stands at SND.UNA
abbrev pub is_partial : Tcb → ℕ → Bool
is_partial b by = acks_in_recovery b by && nat_lt (by + 1) b.sender.recover

-- It is a blind one where nothing says how much else is lost: without selective acknowledgements. With them ranges say that the segment
-- which then stands at SND.UNA is lost, or what was retransmitted is acknowledged, so that more is retransmitted for each. So a loss of many segments is
-- mended by one segment a round trip only until the timer runs out.
abbrev pub is_blind : Tcb → ℕ → Bool
is_blind b by = is_partial b by && not (b.peer.sack && (not (b.loss.resent == 0) || is_lost_at b by))

-- what a partial acknowledgement makes of so many bytes: with selective acknowledgements the window stays (RFC 6675, 5)
abbrev pub partly_after : Tcb → ℕ → ℕ → RenoValue
partly_after b by queued = if b.peer.sack then b.reno else reno.partly b.reno (freed_by b by queued)

-- what recovery makes of so many bytes
abbrev pub recovery_after : Tcb → ℕ → ℕ → RenoValue
recovery_after b by queued = if is_partial b by then partly_after b by queued else reno.recovered b.reno

-- a connection begins with its first window; in fast recovery an acknowledgement is partial, or ends it; else the window grows by what is
-- acknowledged now, if it is used
abbrev pub reno_after : Tcb → ℕ → ℕ → ℤ → RenoValue
reno_after b by queued now =
    if acks_local_syn b by then reno.started b.reno b.sender.syn_lost
    else if acks_in_recovery b by then recovery_after b by queued
    else grown_if_used b (freed_by b by queued) now (srtt_after b by now)

-- SND.UNA rises: sender, retransmission timer, round trip and congestion. After a partial acknowledgement the segment at SND.UNA is to
-- are retransmitted at once, unless it did.
abbrev pub una_risen : Tcb → ℕ → ℕ → ℤ → Tcb
una_risen b by queued now = record b {
  sender = record (sender_moved b.sender by) {
    resend = (b.sender.resend && (by == 0)) || (is_partial b by && (b.loss.resent - by == 0));
    partial = b.sender.partial || is_blind b by;
  };
  timers = record b.timers {
    retransmit_at =
        retransmit_after b.timers by (b.sender.flight_size - by) (b.sender.partial && is_blind b by) now (round_trip_after b by now);
  };
  round_trip = round_trip_after b by now;
  reno = reno_after b by queued now;
  validation = validation_after b by now;
}

abbrev pub una_moved : Tcb → ℕ → ℕ → ℤ → Tcb
una_moved b by queued now =
    record (una_risen b by queued now) { loss = loss_acked (una_risen b by queued now) by (is_partial b by) now }

-- the FIN is acknowledged
abbrev pub acks_fin : Tcb → ℕ → ℕ → Bool
acks_fin b by queued = owes_fin b.state && (by == unacked b queued)

abbrev pub state_after_ack : Tcb → ℕ → ℕ → State
state_after_ack b by queued = if acks_fin b by queued then after_ack_of_fin b.state else after_ack b.state

-- TIME-WAIT begins where this leads to it
abbrev pub in_state : Tcb → State → ℤ → Tcb
in_state b state now =
    record b {
      state = state;
      timers = record b.timers {
        time_wait_ends =
            if is_time_wait state && not (is_time_wait b.state) then Some (time_wait_from now) else b.timers.time_wait_ends;
      };
    }

-- the end of LAST-ACK
abbrev pub ended_if : Bool → Tcb → Tcb
ended_if true b = forgotten b
ended_if false b = b

abbrev pub tcb_acknowledged : Tcb → ℕ → ℕ → ℤ → Tcb
tcb_acknowledged b by queued now =
    ended_if (is_closed (state_after_ack b by queued)) (in_state (una_moved b by queued now) (state_after_ack b by queued) now)

abbrev pub acknowledged : TcpValue → ℕ → ℤ → TcpValue
acknowledged v by now = record v {
  tcb = tcb_acknowledged v.tcb by (queued_in v) now;
  queued = released v.queued (freed_by v.tcb by (queued_in v));
}

-- THE WINDOW

-- what a window field means; the shift is at most 14 (RFC 7323, 2.3)
abbrev pub scaled : Option ℕ → ℕ → ℕ
scaled None field = field
scaled (Some scale) field = field * 2 ^ capped scale

-- the acknowledgement isn't less than the one before
abbrev pub acks_no_less : SeqNumber → Option SeqNumber → Bool
acks_no_less last None = true
acks_no_less last (Some n) = distance_before last n == 0

-- a segment that is no older than the one that set the window last, by its sequence number, and with the same one by its acknowledgement
abbrev pub names_window : Tcb → TcpHeader → Bool
names_window b header =
    (distance_before b.peer.snd_wl1 header.seq_number == 0)
    && (not (distance_after b.peer.snd_wl1 header.seq_number == 0) || acks_no_less b.peer.snd_wl2 header.ack_number)

abbrev pub or_number : SeqNumber → Option SeqNumber → SeqNumber
or_number last None = last
or_number last (Some n) = n

-- the window that the segment names
abbrev pub windowed : Tcb → TcpHeader → Tcb
windowed b header = record b {
  peer = record b.peer {
    window = scaled b.peer.scale header.window_len;
    largest_window = max b.peer.largest_window (scaled b.peer.scale header.window_len);
    snd_wl1 = header.seq_number;
    snd_wl2 = or_number b.peer.snd_wl2 header.ack_number;
  };
}

abbrev pub window_set : Tcb → TcpHeader → ℤ → Tcb
window_set b header now = tsval_taken (if names_window b header then windowed b header else b) header now

-- DUPLICATES (RFC 5681, 2 and 3.2)

-- how far past SND.UNA a range ends
abbrev pub end_past : SeqNumber → Option (ℕ × ℕ) → ℕ
end_past una None = 0
end_past una (Some range) = distance_after una (record { 0 = range.1 })

-- how far past SND.UNA the highest of these ranges ends
abbrev pub highest_end : SeqNumber → List (Option (ℕ × ℕ)) → ℕ
highest_end una [] = 0
highest_end una (range ∷ more) = max (end_past una range) (highest_end una more)

-- how far past SND.UNA the highest position lies that the SACK ranges of a segment name, if both SYNs permitted them (RFC 2018)
abbrev pub sacked_by : Tcb → TcpHeader → ℕ
sacked_by b header = if b.peer.sack then highest_end b.sender.una header.options.sack_ranges else 0

-- the segment is no news of the window: it is the same, or the ranges tell of payload that came since (RFC 6675, 2)
abbrev pub tells_of_loss : Tcb → TcpHeader → Bool
tells_of_loss b header =
    (scaled b.peer.scale header.window_len == b.peer.window) || nat_lt b.sender.sacked (sacked_by b header)

-- a segment that only acknowledges SND.UNA again, while something is in flight
abbrev pub is_duplicate : Tcb → TcpHeader → ℕ → ℕ → Bool
is_duplicate b header size by =
    ((by == 0) && (size == 0)) && (not (is_fin header.control) && (tells_of_loss b header && not (b.sender.flight_size == 0)))

-- the duplicates in a row, counted up to 4. `old` is the block as the segment found it.
abbrev pub duplicates_after : Tcb → TcpHeader → ℕ → ℕ → ℕ
duplicates_after old header size by = if is_duplicate old header size by then min (old.sender.duplicates + 1) 4 else 0

-- The third says that the segment at SND.UNA was lost (RFC 5681, 3.2). This is where it begins no recovery, since the timer ran out.
abbrev pub is_third : Tcb → ℕ → Bool
is_third b count = (count == 3) && (not b.reno.recovers && not (b.sender.recover == 0))

-- What was retransmitted after the timer ran out is lost: what was first sent after it is held (RFC 8985, 6.2).
abbrev pub is_lost_since : Tcb → Bool
is_lost_since b = not (b.sender.recover == 0) && (b.peer.sack && (not b.reno.recovers && is_passed b b.sender.recover))

-- No news of a loss is what is still missing of what was retransmitted in a recovery that is over, until what was first sent after it is held.
abbrev pub may_be_missed : Tcb → Bool
may_be_missed b = (b.sender.recover == 0) && ((b.loss.resent == 0) || is_passed b b.loss.mark)

-- The third duplicate tells of a loss, and ranges that say so much (RFC 6675, 5), where more than `recover` is acknowledged (RFC 6582, 3.2,
-- step 2).
abbrev pub is_missed : Tcb → ℕ → Bool
is_missed b count = may_be_missed b && ((count == 3) || is_first_lost b)

-- It begins fast recovery, unless it may only be late. Else the timer ran out, and a duplicate may answer a segment that was retransmitted without
-- need: it says nothing of the window, unless ranges say that a segment which went since then is lost.
abbrev pub begins_recovery : Tcb → ℕ → Bool
begins_recovery b count = (is_missed b count && not (may_be_late b)) || is_lost_since b

-- until when it is waited for: the instant is set once (RFC 8985, 6.2, step 5)
abbrev pub reorder_until : Tcb → ℕ → ℤ → Option ℤ
reorder_until b count now =
    if is_none b.loss.reorder_until && (is_missed b count && may_be_late b) then Some (later now (late_wait b.round_trip b.loss.reo_wnd_mult))
    else b.loss.reorder_until

-- Where recovery begins a segment was lost, and the loss of what was retransmitted is one more (RFC 5681, 4.3); each other one in recovery says
-- that a segment has left, but where ranges tell so the window doesn't grow.
abbrev pub reno_counted : RenoValue → Bool → ℕ → ℕ → Bool → Bool → RenoValue
reno_counted r sack count flight begins again =
    if begins then (if sack then reno.reduced r flight else reno.lost r flight)
    else if again then reno.reduced r flight
    else if not (count == 0) && not sack then reno.inflated r
    else r

-- its ranges name positions
abbrev pub ranges_taken : Tcb → TcpHeader → ℤ → Tcb
ranges_taken b header now =
    record b { sender = record b.sender { sacked = max b.sender.sacked (sacked_by b header) }; loss = ranges_noted b header now }

-- where recovery begins, nothing was retransmitted yet; and what was retransmitted may be lost
abbrev pub starts_again : Tcb → ℕ → Bool
starts_again b count = begins_recovery b count || is_lost_again b

-- at the third, and where recovery begins, the segment at SND.UNA is to be retransmitted
abbrev pub counted : Tcb → ℕ → ℤ → Tcb
counted b count now = record b {
  sender = record b.sender {
    duplicates = count;
    resend = b.sender.resend || (is_third b count || begins_recovery b count);
    recover = if begins_recovery b count then past_snd_max b else b.sender.recover;
    partial = b.sender.partial && not (begins_recovery b count);
  };
  loss = record b.loss {
    resent = if starts_again b count then 0 else b.loss.resent;
    rescue_rxt = if begins_recovery b count then 0 else b.loss.rescue_rxt;
    reorder_until = reorder_until b count now;
    undo = if begins_recovery b count then undo_begun b else b.loss.undo;
  };
  reno = reno_counted b.reno b.peer.sack count b.sender.flight_size (begins_recovery b count) (is_lost_again b);
}
