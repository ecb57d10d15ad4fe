-- What a socket offers: a test for each rule, and what the rules for payload may send. `queued` is the length of the send queue. Where in
-- its storage that lies doesn't matter: a segment may be filled from both parts of a ring.
use Rattle.std.specs.Prelude.{ℕ, ◌+◌, ◌-◌, ◌*◌, ◌/◌, ◌==◌, nat_lt, nat_le, not, ◌&&◌, ◌||◌, min, max, ℤ, Bool, false, if◌then◌else◌, length, Option, None}
use Rattle.net_base.specs.Ring.{Ring}
use Rattle.ip_wire.specs.TcpControl.{TcpControl}
use Rattle.ip_wire.specs.TcpControl.TheVariants as Control
use Rattle.tcp_state.specs.declared.endpoints.AddressPair.{AddressPair}
use Rattle.tcp_block.specs.declared.tcb.Tcb.{Tcb}
use Rattle.tcp_block.specs.declared.tcb.CongestionControl.{CongestionControl}
use Rattle.tcp_block.specs.declared.tcb.CongestionControl.TheVariants as Congestion
use Rattle.tcp_block.specs.TcbRules.{one_if, unacked, past_snd_max, is_worth_telling}
use Rattle.tcp_state.specs.Endpoints.{ip_header_len}
use Rattle.tcp_block.specs.LossRecovery.{pipe, fills_hole, is_sent_early, retransmit_offset, hole_len, loss_timed_out}
use Rattle.tcp_state.specs.Reno as reno
use Rattle.tcp_block.specs.Timestamps.{uses_stamps}
use Rattle.tcp_state.specs.RoundTrip as round_trip
use Rattle.tcp_state.specs.States.{is_answering, is_time_wait, owes_fin, may_send_data, sends_syn, accepts_data, keeps_alive}

-- the end of TIME-WAIT (3.10.8)
abbrev pub time_wait_end : Tcb → Option ℤ
time_wait_end b = if is_time_wait b.state then b.timers.time_wait_ends else None

-- THE SYN

-- the own SYN is to go: nothing of it did, or it is sent again; its answer may be paused
abbrev pub owes_syn : Tcb → Bool
owes_syn b =
    (sends_syn b.state && not (is_answering b.state && b.settings.synack_paused)) && (b.sender.syn_unacked && (b.sender.flight_size == 0))

-- TEXT

-- how much of the send queue is to go, from which offset, and whether the FIN goes with it
pub record Choice : Type 0 where
  pub offset : ℕ
  pub len : ℕ
  pub fin : Bool

-- the length of the timestamps option with its padding (RFC 7323, 3.2 and appendix A)
abbrev pub timestamps_len : Tcb → ℕ
timestamps_len b = if uses_stamps b then 12 else 0

-- The longest payload of a segment: what the remote takes, and a packet holds after headers without options, less the options that the
-- segment carries (3.7.1; RFC 6691), but at least a byte. The length field of a packet has 16 bits.
abbrev pub size_limit : Tcb → AddressPair → ℕ → ℕ
size_limit b addresses ip_mtu = max 1 (min b.peer.mss (min ip_mtu 65_535 - ip_header_len addresses - 20) - timestamps_len b)

abbrev pub congestion_limit : CongestionControl → ℕ → ℕ → ℕ
congestion_limit Congestion.None cwnd size = size
congestion_limit other cwnd size = min cwnd size

-- limited transmit: the first two duplicates let a segment each go beyond the congestion window, where a third would begin recovery
-- (RFC 3042)
abbrev pub beyond : Tcb → ℕ
beyond b = if b.sender.recover == 0 then b.reno.mss * min 2 b.sender.duplicates else 0

-- how much the congestion window lets go beyond what is on its way, as far as that is known (RFC 5681; RFC 6675, 5, step C)
abbrev pub congestion_room : Tcb → ℕ
congestion_room b = if b.peer.sack then b.reno.cwnd - pipe b else b.reno.cwnd + beyond b - b.sender.flight_size

-- what both windows leave of so many bytes (3.8.6; RFC 5681)
abbrev pub window_limit : Tcb → ℕ → ℕ
window_limit b size =
    congestion_limit b.settings.congestion_control (congestion_room b) (min (b.peer.window - b.sender.flight_size) size)

-- where SND.NXT stands in the send queue
abbrev pub next_offset : Tcb → ℕ
next_offset b = b.sender.flight_size - one_if b.sender.syn_unacked

-- the FIN goes with the last byte or after it
abbrev pub fin_is_sent : Tcb → ℕ → ℕ → Bool
fin_is_sent b queued end = owes_fin b.state && (end == queued)

-- so many bytes from SND.NXT on
abbrev pub payload_of_size : Tcb → ℕ → ℕ → Choice
payload_of_size b queued len = record { offset = next_offset b; len = len; fin = fin_is_sent b queued (next_offset b + len) }

-- how much of the send queue may go from SND.NXT
abbrev pub ready : Tcb → ℕ → ℕ → ℕ
ready b limit queued = window_limit b (min limit (queued - next_offset b))

-- what may go from SND.NXT
abbrev pub payload_choice : Tcb → AddressPair → ℕ → Ring ℕ → Choice
payload_choice b addresses ip_mtu queued =
    payload_of_size b (length queued.queue) (ready b (size_limit b addresses ip_mtu) (length queued.queue))

-- Nagle's rule doesn't hold back a small segment (3.7.4)
abbrev pub may_be_small : Tcb → Bool
may_be_small b = not b.settings.nagle || (b.sender.flight_size == 0)

-- all that is queued may go, or half of the largest window that the remote named (3.8.6.2.1)
abbrev pub fills_enough : Tcb → ℕ → ℕ → Bool
fills_enough b queued size = (next_offset b + size == queued) || nat_le (b.peer.largest_window / 2) size

-- something goes, and so much is worth a segment: a full one, or enough where small ones may go
abbrev pub is_sendable : Tcb → ℕ → ℕ → Choice → Bool
is_sendable b queued limit c =
    c.fin
    || (not (c.len == 0)
    && (nat_le limit c.len || (may_be_small b && fills_enough b queued c.len)))

-- bytes or a FIN are to go from SND.NXT, and what may go is worth it
abbrev pub sends_choice : Tcb → ℕ → ℕ → Choice → Bool
sends_choice b queued limit c =
    may_send_data b.state && (nat_le (one_if b.sender.syn_unacked) b.sender.flight_size &&
    (nat_lt b.sender.flight_size (unacked b queued) && is_sendable b queued limit c))

abbrev pub has_payload : Tcb → AddressPair → ℕ → Ring ℕ → Bool
has_payload b addresses ip_mtu queued =
    sends_choice b (length queued.queue) (size_limit b addresses ip_mtu) (payload_choice b addresses ip_mtu queued)

-- something is to be retransmitted: the segment at SND.UNA, since the third duplicate came, or a partial acknowledgement (RFC 5681, 3.2; RFC 6582,
-- 3.2), the last segment as a probe, what is lost at the next hole, or what isn't lost, where no payload goes
abbrev pub resends_beside : Tcb → Bool → Bool
resends_beside b payload = may_send_data b.state && (b.sender.resend || (b.loss.probes || (fills_hole b || (is_sent_early b && not payload))))

abbrev pub resends : Tcb → AddressPair → ℕ → Ring ℕ → Bool
resends b addresses ip_mtu queued = resends_beside b (has_payload b addresses ip_mtu queued)

-- how many offsets of the send queue, and one for the FIN after it, were ever sent
abbrev pub sent_count : Tcb → ℕ
sent_count b = b.sender.snd_max - one_if b.sender.syn_unacked

-- what was sent before, and no more; the remote's window doesn't limit it
abbrev pub sent_payload : Tcb → ℕ → ℕ → ℕ → Choice
sent_payload b queued offset len =
    record { offset = offset; len = len; fin = fin_is_sent b queued (offset + len) && nat_lt (offset + len) (sent_count b) }

-- from an offset on, up to what is held
abbrev pub resend_from : Tcb → AddressPair → ℕ → Ring ℕ → ℕ → Choice
resend_from b addresses ip_mtu queued offset =
    sent_payload b (length queued.queue) offset
    (min (hole_len b offset (sent_count b)) (min (size_limit b addresses ip_mtu) (length queued.queue - offset)))

abbrev pub resend_choice : Tcb → AddressPair → ℕ → Ring ℕ → Choice
resend_choice b addresses ip_mtu queued =
    resend_from b addresses ip_mtu queued (retransmit_offset b (size_limit b addresses ip_mtu) (sent_count b) (length queued.queue))

-- the byte at SND.UNA, which probes a closed window
abbrev pub probe_choice : Choice
probe_choice = record { offset = 0; len = 1; fin = false }

-- what a segment with this part of the send queue says: the last byte is pushed
abbrev pub control_for : Choice → ℕ → TcpControl
control_for c queued =
    if c.fin then Control.Fin
    else if not (c.len == 0) && (c.offset + c.len == queued) then Control.Psh
    else Control.None

-- ACKNOWLEDGEMENT, WINDOW UPDATE AND KEEP-ALIVE

-- when an acknowledgement is due, where there is something to acknowledge (3.8.6.3)
abbrev pub ack_deadline : Tcb → Option ℤ
ack_deadline b = if b.receiver.took_syn then b.timers.ack_at else None

-- so much space came free that it is worth a segment of its own (3.8.6.2.2)
abbrev pub updates_window : Tcb → ℕ → ℕ → Bool
updates_window b capacity free = accepts_data b.state && is_worth_telling b capacity free

-- while nothing is in flight (3.8.4)
abbrev pub keep_alive_deadline : Tcb → Option ℤ
keep_alive_deadline b = if keeps_alive b.state && (b.sender.flight_size == 0) then b.settings.keep_alive_at else None

-- THE RETRANSMISSION TIMER (RFC 6298, 5.4 to 5.6; RFC 5681, 3.1)

-- SND.NXT goes back to SND.UNA, and the timer is off until a segment goes; congestion control isn't told of a SYN. Recovery begins
-- again only once more is acknowledged than was sent (RFC 6582, 3.2, step 4).
abbrev pub backed_off_now : Tcb → Tcb
backed_off_now b = record b {
  sender = record b.sender {
    flight_size = 0;
    recover = if b.sender.syn_unacked then b.sender.recover else past_snd_max b;
    timeouts = min (b.sender.timeouts + 1) 255;
    syn_lost = b.sender.syn_lost || b.sender.syn_unacked;
  };
  timers = record b.timers { retransmit_at = None };
  round_trip = round_trip.untimed (round_trip.backed_off b.round_trip);
  loss = loss_timed_out b;
  reno = if b.sender.syn_unacked then b.reno else reno.timed_out b.reno b.sender.flight_size;
}
