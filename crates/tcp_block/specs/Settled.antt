-- What an offer is told. A segment that was sent is recorded; one that wasn't leaves all as it is.
use Rattle.std.specs.Prelude.{ℕ, ◌+◌, ◌*◌, ◌^◌, ◌==◌, nat_lt, min, max, not, ◌&&◌, ℤ, Bool, true, false, if◌then◌else◌, Option, Some, None, is_some}
use Rattle.ip_wire.specs.Control.{control_len}
use Rattle.ip_wire.specs.Seq.{distance_of}
use Rattle.tcp_block.specs.declared.tcb.Tcb.{Tcb}
use Rattle.tcp_state.specs.declared.offer.OfferKind.{OfferKind}
use Rattle.tcp_state.specs.declared.offer.OfferKind.TheVariants as Kind
use Rattle.tcp_state.specs.declared.offer.OpenOffer.{OpenOffer}
use Rattle.tcp_block.specs.Acknowledged.{or_number}
use Rattle.tcp_block.specs.TcbRules.{one_if, forgotten, local_shift, rcv_adv_after}
use Rattle.tcp_state.specs.Controls.{is_syn, or_mss}
use Rattle.tcp_state.specs.Moments.{later_by, timeout_from}
use Rattle.tcp_state.specs.Scoreboard.{first_missing}
use Rattle.tcp_block.specs.LossRecovery.{probe_armed, loss_resent, is_first_lost}
use Rattle.tcp_block.specs.Probing.{probe_kept}
use Rattle.tcp_block.specs.Retries.{asked}
use Rattle.tcp_state.specs.RoundTrip as round_trip
use Rattle.tcp_block.specs.Timestamps.{stamps_begun}
use Rattle.tcp_block.specs.Undo.{undo_sent}
use Rattle.tcp_block.specs.Validation.{data_sent}
use Rattle.tcp_block.specs.Value.{TcpValue, with_tcb, unoffered, queued_in, room_of}

-- The right edge of the window after a segment announced it, of a receive buffer with this capacity. A SYN's field isn't shifted and may not
-- tell all of an empty buffer; what it leaves out is no space that came free.
abbrev pub rcv_adv_by : Tcb → OpenOffer → ℕ → ℕ
rcv_adv_by b o capacity = if is_syn o.segment.control then capacity else rcv_adv_after b capacity (o.segment.window_len * 2 ^ local_shift b capacity)

-- The edge of its window is recorded, and its acknowledgement, if it has one: none is due any more. The next keep-alive is counted from
-- each segment (3.8.4).
abbrev pub recorded : Tcb → OpenOffer → ℕ → Tcb
recorded b o capacity = record b {
  receiver = record b.receiver { rcv_adv = rcv_adv_by b o capacity; last_ack = or_number b.receiver.last_ack o.segment.ack_number };
  timers = record b.timers {
    ack_at = if is_some o.segment.ack_number then None else b.timers.ack_at;
    data_unacked = not (is_some o.segment.ack_number) && b.timers.data_unacked;
  };
  settings = record b.settings { keep_alive_at = later_by o.instant b.settings.keep_alive };
}

-- how far past SND.UNA the segment ends
abbrev pub end_of : Tcb → OpenOffer → ℕ
end_of b o = distance_of b.sender.una o.segment.seq_number + (o.len + control_len o.segment.control)

-- so far past SND.UNA, and past what the remote holds there of the send queue
abbrev pub past_sacked : Tcb → ℕ → ℕ → ℕ
past_sacked b end queued =
    max end (min (first_missing b.loss.board.runs end) (min b.sender.snd_max (one_if b.sender.syn_unacked + queued)))

-- The remote says that it holds what begins at SND.NXT, as it may after a timeout: SND.NXT moves after that, so it doesn't are retransmitted.
abbrev pub nxt_past_held : Tcb → ℕ → Tcb
nxt_past_held b queued = record b {
  sender = record b.sender { flight_size = if b.sender.flight_size == 0 then 0 else past_sacked b b.sender.flight_size queued };
}

-- SND.NXT moves past the segment, if that is higher, and past what is held after it: after a timeout that doesn't are retransmitted.
-- What reaches further than anything before was sent for the first time: its round trip is timed, if none is (RFC 6298, 3).
abbrev pub nxt_moved : Tcb → ℕ → ℕ → ℤ → Tcb
nxt_moved b end queued now = record b {
  sender = record b.sender { flight_size = max b.sender.flight_size (past_sacked b end queued); snd_max = max b.sender.snd_max end };
  round_trip = if nat_lt b.sender.snd_max end then round_trip.timing b.round_trip end now else b.round_trip;
}

-- the retransmission timer runs from now, if it doesn't yet (RFC 6298, 5.1)
abbrev pub timer_started : Tcb → ℤ → Tcb
timer_started b now =
    record b {
      timers = record b.timers {
        retransmit_at =
            if is_some b.timers.retransmit_at then b.timers.retransmit_at else Some (timeout_from now b.round_trip);
      };
    }

-- a loss probe goes some time from now (RFC 8985, 7.2), and what is retransmitted is known by its instant
abbrev pub loss_watched : Tcb → ℤ → Tcb
loss_watched b now = record b { loss = probe_armed b (record b.loss { undo = undo_sent b b.loss.undo now }) now }

-- a segment from the send queue, or a SYN, went
abbrev pub was_sent : Tcb → OpenOffer → ℕ → Tcb
was_sent b o queued = probe_kept (loss_watched (timer_started (nxt_moved b (end_of b o) queued o.instant) o.instant) o.instant) queued

-- its first SYN begins the own timestamps, and names the largest payload of a segment
abbrev pub syn_was_sent : Tcb → OpenOffer → Tcb
syn_was_sent b o = record b {
  stamps = stamps_begun b o.instant;
  receiver = record b.receiver { mss = or_mss o.segment.options.max_seg_size };
}

-- The retransmission timer starts again at each segment that is retransmitted in recovery, so that it doesn't run out before that one can be
-- acknowledged (RFC 6675, 6), as long as ranges say that the one at SND.UNA is lost.
abbrev pub timer_rearmed : Tcb → Option ℤ
timer_rearmed b = if b.reno.recovers && is_first_lost b then None else b.timers.retransmit_at

-- something was retransmitted, up to so far past SND.UNA: what is timed isn't any more (RFC 6298, 3)
abbrev pub resent : Tcb → ℕ → Tcb
resent b end = record b {
  sender = record b.sender { resend = false };
  timers = record b.timers { retransmit_at = timer_rearmed b };
  loss = loss_resent b end;
  round_trip = round_trip.untimed b.round_trip;
}

-- a probe went that ends so far past SND.UNA, where SND.NXT stays; the next one waits twice as long (3.8.6.1)
abbrev pub probed : Tcb → ℕ → ℤ → Tcb
probed b end now =
    record b {
      sender = record b.sender { snd_max = max b.sender.snd_max end };
      timers = record b.timers { probe_at = Some (timeout_from now (round_trip.backed_off b.round_trip)) };
      round_trip = round_trip.backed_off b.round_trip;
    }

abbrev pub sent_as : OfferKind → Tcb → OpenOffer → ℕ → Tcb
sent_as Kind.Reset b o queued = forgotten b
sent_as Kind.Syn b o queued = was_sent (syn_was_sent b o) o queued
sent_as Kind.FastRetransmission b o queued = was_sent (resent b (end_of b o)) o queued
sent_as Kind.Payload b o queued = data_sent (was_sent b o queued) b.sender.snd_max o.instant
sent_as Kind.Probe b o queued = asked (probed b (end_of b o) o.instant) o.instant
sent_as Kind.KeepAlive b o queued = asked b o.instant
sent_as kind b o queued = b

abbrev pub sent_off : Option OpenOffer → TcpValue → TcpValue
sent_off None v = v
sent_off (Some o) v = with_tcb v (sent_as o.kind (recorded v.tcb o (room_of v.received)) o (queued_in v))

abbrev pub settled : Bool → TcpValue → TcpValue
settled false v = unoffered v
settled true v = sent_off v.offered (unoffered v)
