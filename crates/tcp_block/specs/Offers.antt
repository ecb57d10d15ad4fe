-- What a socket offers when it is asked for a segment: the first rule that applies (RFC 9293, 3.8 and 3.10.8).
use Rattle.std.specs.Prelude.{ℕ, ◌+◌, ◌==◌, ℤ, Bool, true, false, if◌then◌else◌, List, [], ◌∷◌, take, drop, Option, Some, None}
use Rattle.ip_wire.specs.SeqNumber.{SeqNumber}
use Rattle.ip_wire.specs.Tcp.{header_len}
use Rattle.ip_wire.specs.TcpHeader.{TcpHeader}
use Rattle.tcp_state.specs.Context.{ContextValue}
use Rattle.tcp_state.specs.Offers.{Offered, offered_as}
use Rattle.tcp_state.specs.Packet.{PacketValue, packet_of}
use Rattle.tcp_state.specs.Packet as Carried
use Rattle.tcp_state.specs.Offer.TheVariants as Answer
use Rattle.tcp_block.specs.declared.tcb.Tcb.{Tcb}
use Rattle.tcp_state.specs.declared.endpoints.FourTuple.{FourTuple}
use Rattle.tcp_state.specs.declared.offer.OfferKind.{OfferKind}
use Rattle.tcp_state.specs.declared.offer.OfferKind.TheVariants as Kind
use Rattle.tcp_state.specs.declared.offer.OpenOffer.{OpenOffer}
use Rattle.tcp_block.specs.TcbRules.{one_if}
use Rattle.tcp_state.specs.Moments.{is_due}
use Rattle.tcp_state.specs.Endpoints.{header_for}
use Rattle.tcp_state.specs.Offsets.{advanced_by}
use Rattle.tcp_block.specs.LossRecovery.{loss_probed_by}
use Rattle.tcp_block.specs.Probing.{probe_started, probe_deadline}
use Rattle.tcp_block.specs.Retries.{gives_up, given_up}
use Rattle.tcp_block.specs.Rules.{Choice, time_wait_end, owes_syn, resends, ack_deadline, has_payload, payload_choice, resend_choice, probe_choice, control_for}
use Rattle.tcp_block.specs.Rules.{updates_window, keep_alive_deadline, backed_off_now}
use Rattle.tcp_block.specs.Segments.{segment, ack_segment, syn_segment, reset_segment, keep_alive_segment, hop_limit_of}
use Rattle.tcp_state.specs.States.{is_closed}
use Rattle.tcp_block.specs.Timeout.{timeout_end, timeout_started, timed_out}
use Rattle.tcp_block.specs.Value.{TcpValue, with_tcb, unoffered, ended, queued_in, free_in, room_of, window_of}

-- the socket with this segment offered, whose payload is this part of the send queue
abbrev pub offer_segment : OfferKind → ContextValue → TcpValue → FourTuple → TcpHeader → ℕ → ℕ → Offered TcpValue
offer_segment kind cx v pair header offset len =
    offered_as (Answer.Packet false) (record v {
      offered = Some (record {
        kind = kind;
        instant = cx.instant;
        header = header_for pair.addresses (hop_limit_of v.tcb.settings.hop_limit) (header_len header + len);
        segment = header;
        offset = offset;
        len = len;
      });
    })

abbrev pub silent : Bool → TcpValue → Offered TcpValue
silent changed v = offered_as (Answer.Silent changed) v

-- the number of an offset in the send queue
abbrev pub number_at : Tcb → ℕ → SeqNumber
number_at b offset = advanced_by b.sender.una (one_if b.sender.syn_unacked + offset)

-- a part of the send queue
abbrev pub offer_choice : OfferKind → ContextValue → TcpValue → FourTuple → Choice → Offered TcpValue
offer_choice kind cx v pair c =
    offer_segment kind cx v pair
    (segment v.tcb pair cx.instant (window_of v) (control_for c (queued_in v)) (number_at v.tcb c.offset))
    c.offset c.len

-- a segment without payload
abbrev pub offer_empty : OfferKind → ContextValue → TcpValue → FourTuple → TcpHeader → Offered TcpValue
offer_empty kind cx v pair header = offer_segment kind cx v pair header 0 0

abbrev pub offer_ack : OfferKind → ContextValue → TcpValue → FourTuple → Offered TcpValue
offer_ack kind cx v pair = offer_empty kind cx v pair (ack_segment v.tcb pair cx.instant (window_of v))

abbrev pub offer_syn : ContextValue → TcpValue → FourTuple → Offered TcpValue
offer_syn cx v pair = offer_empty Kind.Syn cx v pair (syn_segment v.tcb pair cx.instant cx.ip_mtu (room_of v.received) (free_in v))

abbrev pub offer_reset : ContextValue → TcpValue → FourTuple → Offered TcpValue
offer_reset cx v pair = offer_empty Kind.Reset cx v pair (reset_segment v.tcb pair cx.instant (window_of v))

abbrev pub offer_keep_alive : ContextValue → TcpValue → FourTuple → Offered TcpValue
offer_keep_alive cx v pair = offer_segment Kind.KeepAlive cx v pair (keep_alive_segment v.tcb pair cx.instant (window_of v)) 0 1

-- what the remote's window held back is due: the byte at SND.UNA where it is closed, else as much as it takes
abbrev pub offer_window_limited : ContextValue → TcpValue → FourTuple → Offered TcpValue
offer_window_limited cx v pair =
    if v.tcb.peer.window == 0 then offer_choice Kind.Probe cx v pair probe_choice
    else offer_choice Kind.Payload cx v pair (payload_choice v.tcb pair.addresses cx.ip_mtu v.queued)

-- nothing of the SYN or the send queue is to go: a probe, a due acknowledgement, a window update, a keep-alive
abbrev pub last_rules : ContextValue → TcpValue → FourTuple → Offered TcpValue
last_rules cx v pair =
    if is_due cx.instant (probe_deadline v.tcb (queued_in v)) then offer_window_limited cx v pair
    else if is_due cx.instant (ack_deadline v.tcb) then offer_ack Kind.Ack cx v pair
    else if updates_window v.tcb (room_of v.received) (free_in v) then offer_ack Kind.WindowUpdate cx v pair
    else if is_due cx.instant (keep_alive_deadline v.tcb) then offer_keep_alive cx v pair
    else silent false v

-- the SYN, the segment at SND.UNA after the third duplicate, payload from SND.NXT on
abbrev pub first_rules : ContextValue → TcpValue → FourTuple → Offered TcpValue
first_rules cx v pair =
    if owes_syn v.tcb then offer_syn cx v pair
    else if resends v.tcb pair.addresses cx.ip_mtu v.queued
    then offer_choice Kind.FastRetransmission cx v pair (resend_choice v.tcb pair.addresses cx.ip_mtu v.queued)
    else if has_payload v.tcb pair.addresses cx.ip_mtu v.queued then offer_choice Kind.Payload cx v pair (payload_choice v.tcb pair.addresses cx.ip_mtu v.queued)
    else last_rules cx (with_tcb v (probe_started cx.instant (queued_in v) v.tcb)) pair

-- the retransmission timer (RFC 6298, 5.4), or else a loss probe (RFC 8985, 7.3)
abbrev pub backed_off : ℤ → Tcb → Tcb
backed_off now b = if is_due now b.timers.retransmit_at then backed_off_now b else loss_probed_by now b

abbrev pub offer_between : ContextValue → TcpValue → FourTuple → Offered TcpValue
offer_between cx v pair =
    if is_due cx.instant (time_wait_end v.tcb) then silent true (ended v)
    else if is_due cx.instant (timeout_end v.tcb (queued_in v)) then silent true (with_tcb v (timed_out v.tcb))
    else if is_closed v.tcb.state then (if v.tcb.sender.reset_due then offer_reset cx v pair else silent false v)
    else if gives_up cx.instant v.tcb (queued_in v) then silent true (given_up v)
    else first_rules cx (with_tcb v (backed_off cx.instant (timeout_started cx.instant (queued_in v) v.tcb))) pair

abbrev pub offer_with : Option FourTuple → ContextValue → TcpValue → Offered TcpValue
offer_with None cx v = silent false v
offer_with (Some pair) cx v = offer_between cx v pair

-- an offer that isn't settled counts as not sent
abbrev pub offer_of : ContextValue → TcpValue → Offered TcpValue
offer_of cx v = offer_with v.tcb.names.pair cx (unoffered v)

-- a keep-alive carries one byte 0, each other segment its part of the send queue
abbrev pub payload_of : OpenOffer → OfferKind → List ℕ → List ℕ
payload_of o Kind.KeepAlive queue = 0 ∷ []
payload_of o kind queue = take o.len (drop o.offset queue)

abbrev pub packet_with : Option OpenOffer → List ℕ → Option PacketValue
packet_with None queue = None
packet_with (Some o) queue = Some (packet_of o.header (Carried.Segment o.segment (payload_of o o.kind queue)))

-- the packet of the open offer
abbrev pub offered_packet : TcpValue → Option PacketValue
offered_packet v = packet_with v.offered v.queued.queue
