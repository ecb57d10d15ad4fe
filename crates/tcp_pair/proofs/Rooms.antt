-- The payload of an offer is part of the send queue and no longer than a packet, or one byte.
use Rattle.std.proofs.Common.{◌≡◌, ℕ, ◌≤◌, ◌==◌, min, max, Bool, true, false, List, length, take, drop, Option, Some, None, if◌then◌else◌, refl, arith}
use Rattle.std.proofs.Common.{length-drop}
use Rattle.std.proofs.lemmas.List.{length-take}
use Rattle.socket_context.specs.Context.{ContextValue}
use Rattle.socket_context.specs.Offers.{Offered}
use Rattle.tcp_block.specs.Calls.{listening}
use Rattle.tcp_block.specs.Checks.{falls_back}
use Rattle.tcp_block.specs.Moments.{is_due}
use Rattle.tcp_block.specs.Offers.{silent, offer_choice, offer_ack, offer_syn, offer_reset, offer_keep_alive, last_rules, first_rules, backed_off}
use Rattle.tcp_block.specs.Offers.{offer_between, offer_with, offer_of}
use Rattle.tcp_block.specs.Probing.{probe_started, probe_deadline}
use Rattle.tcp_block.specs.Retries.{gives_up, given_up}
use Rattle.tcp_block.specs.Rules.{time_wait_end, owes_syn, resends, ack_deadline, has_payload, payload_choice, resend_choice, probe_choice, updates_window}
use Rattle.tcp_block.specs.Rules.{keep_alive_deadline}
use Rattle.tcp_block.specs.States.{is_closed}
use Rattle.tcp_block.specs.Timeout.{timeout_end, timeout_started, timed_out}
use Rattle.tcp_block.specs.Value.{TcpValue, with_tcb, unoffered, ended, queued_in, free_in, room_of}
use Rattle.tcp_block.specs.FourTuple.{FourTuple}
use Rattle.tcp_block.specs.OfferKind.TheVariants as Kind
use Rattle.tcp_refinement.proofs.AcceptLaws.{payload_in_packet, again_in_packet}
use Rattle.tcp_pair.specs.Ends.{HasRoom}

-- what is queued, at most a packet; one byte at least
abbrev room_for : ContextValue → TcpValue → ℕ
room_for cx v = max (min (length v.queued.queue) cx.ip_mtu) 1

-- the offer that was made of this socket
abbrev Fits : ContextValue → TcpValue → Offered TcpValue → Type 0
Fits cx v o = HasRoom (room_for cx v) o.socket

fits_none : (cx : ContextValue) (v w : TcpValue) → w.offered ≡ None → HasRoom (room_for cx v) w
fits_none cx v w none = rw none tt

fits_when : (cx : ContextValue) (v : TcpValue) (t : Bool) (a b : Offered TcpValue) → Fits cx v a → Fits cx v b → Fits cx v (if t then a else b)
fits_when cx v true a b one other = one
fits_when cx v false a b one other = other

fits_part : (queue : List ℕ) (offset len mtu : ℕ) → len ≤ max mtu 1 → length (take len (drop offset queue)) ≤ max (min (length queue) mtu) 1
fits_part queue offset len mtu short = rw (length-take, length-drop) (omega (arith, short))

fits_payload : (cx : ContextValue) (v : TcpValue) (pair : FourTuple) →
    Fits cx v (offer_choice Kind.Payload cx v pair (payload_choice v.tcb pair.addresses cx.ip_mtu v.queued))
fits_payload cx v pair =
    let c = payload_choice v.tcb pair.addresses cx.ip_mtu v.queued in
    let short = payload_in_packet v.tcb pair.addresses cx.ip_mtu v.queued in
    fits_part v.queued.queue c.offset c.len cx.ip_mtu (omega (arith, short))

fits_again : (cx : ContextValue) (v : TcpValue) (pair : FourTuple) →
    Fits cx v (offer_choice Kind.FastRetransmission cx v pair (resend_choice v.tcb pair.addresses cx.ip_mtu v.queued))
fits_again cx v pair =
    let c = resend_choice v.tcb pair.addresses cx.ip_mtu v.queued in
    let short = again_in_packet v.tcb pair.addresses cx.ip_mtu v.queued in
    fits_part v.queued.queue c.offset c.len cx.ip_mtu (omega (arith, short))

fits_last : (cx : ContextValue) (v : TcpValue) (pair : FourTuple) → v.offered ≡ None → Fits cx v (last_rules cx v pair)
fits_last cx v pair none =
    let alive = offer_keep_alive cx v pair in
    let update = offer_ack Kind.WindowUpdate cx v pair in
    let ack = offer_ack Kind.Ack cx v pair in
    let probe = offer_choice Kind.Probe cx v pair probe_choice in
    let payload = offer_choice Kind.Payload cx v pair (payload_choice v.tcb pair.addresses cx.ip_mtu v.queued) in
    let first : Offered TcpValue = if v.tcb.peer.window == 0 then probe else payload in
    let fourth : Offered TcpValue = if is_due cx.instant (keep_alive_deadline v.tcb) then alive else silent false v in
    let third : Offered TcpValue = if updates_window v.tcb (room_of v.received) (free_in v) then update else fourth in
    let second : Offered TcpValue = if is_due cx.instant (ack_deadline v.tcb) then ack else third in
    fits_when cx v (is_due cx.instant (probe_deadline v.tcb (queued_in v))) first second
    (fits_when cx v (v.tcb.peer.window == 0) probe payload (fits_part v.queued.queue 0 1 cx.ip_mtu (omega arith)) (fits_payload cx v pair))
    (fits_when cx v (is_due cx.instant (ack_deadline v.tcb)) ack third (omega arith)
    (fits_when cx v (updates_window v.tcb (room_of v.received) (free_in v)) update fourth (omega arith)
    (fits_when cx v (is_due cx.instant (keep_alive_deadline v.tcb)) alive (silent false v) (omega arith) (fits_none cx v v none))))

fits_first : (cx : ContextValue) (v : TcpValue) (pair : FourTuple) → v.offered ≡ None → Fits cx v (first_rules cx v pair)
fits_first cx v pair none =
    let probing = with_tcb v (probe_started cx.instant (queued_in v) v.tcb) in
    let syn = offer_syn cx v pair in
    let again = offer_choice Kind.FastRetransmission cx v pair (resend_choice v.tcb pair.addresses cx.ip_mtu v.queued) in
    let payload = offer_choice Kind.Payload cx v pair (payload_choice v.tcb pair.addresses cx.ip_mtu v.queued) in
    let third : Offered TcpValue = if has_payload v.tcb pair.addresses cx.ip_mtu v.queued then payload else last_rules cx probing pair in
    let second : Offered TcpValue = if resends v.tcb pair.addresses cx.ip_mtu v.queued then again else third in
    fits_when cx v (owes_syn v.tcb) syn second (omega arith)
    (fits_when cx v (resends v.tcb pair.addresses cx.ip_mtu v.queued) again third (fits_again cx v pair)
    (fits_when cx v (has_payload v.tcb pair.addresses cx.ip_mtu v.queued) payload (last_rules cx probing pair) (fits_payload cx v pair)
    (fits_last cx probing pair none)))

fits_given_up : (cx : ContextValue) (v : TcpValue) → v.offered ≡ None → Fits cx v (silent true (given_up v))
fits_given_up cx v none = by (falls_back v.tcb) where
  by : (back : Bool) → Fits cx v (silent true (if back then listening v v.tcb.names.listen else with_tcb v (timed_out v.tcb)))
  by true = fits_none cx v (listening v v.tcb.names.listen) refl
  by false = fits_none cx v (with_tcb v (timed_out v.tcb)) none

fits_between : (cx : ContextValue) (v : TcpValue) (pair : FourTuple) → v.offered ≡ None → Fits cx v (offer_between cx v pair)
fits_between cx v pair none =
    let end = silent true (ended v) in
    let late = silent true (with_tcb v (timed_out v.tcb)) in
    let reset : Offered TcpValue = if v.tcb.sender.reset_due then offer_reset cx v pair else silent false v in
    let going = with_tcb v (backed_off cx.instant (timeout_started cx.instant (queued_in v) v.tcb)) in
    let gone = silent true (given_up v) in
    let fourth : Offered TcpValue = if gives_up cx.instant v.tcb (queued_in v) then gone else first_rules cx going pair in
    let third : Offered TcpValue = if is_closed v.tcb.state then reset else fourth in
    let second : Offered TcpValue = if is_due cx.instant (timeout_end v.tcb (queued_in v)) then late else third in
    fits_when cx v (is_due cx.instant (time_wait_end v.tcb)) end second (fits_none cx v (ended v) none)
    (fits_when cx v (is_due cx.instant (timeout_end v.tcb (queued_in v))) late third (fits_none cx v (with_tcb v (timed_out v.tcb)) none)
    (fits_when cx v (is_closed v.tcb.state) reset fourth
    (fits_when cx v v.tcb.sender.reset_due (offer_reset cx v pair) (silent false v) (omega arith) (fits_none cx v v none))
    (fits_when cx v (gives_up cx.instant v.tcb (queued_in v)) gone (first_rules cx going pair) (fits_given_up cx v none)
    (fits_first cx going pair none))))

fits_with : (names : Option FourTuple) (cx : ContextValue) (v : TcpValue) → v.offered ≡ None → Fits cx v (offer_with names cx v)
fits_with None cx v none = fits_none cx v v none
fits_with (Some pair) cx v none = fits_between cx v pair none

pub fits_offer : (cx : ContextValue) (v : TcpValue) → HasRoom (max (min (length v.queued.queue) cx.ip_mtu) 1) (offer_of cx v).socket
fits_offer cx v = fits_with v.tcb.names.pair cx (unoffered v) refl

-- of the socket that the offer left
pub fits_offered : (cx : ContextValue) (v w : TcpValue) (room : ℕ) → w ≡ (offer_of cx v).socket → room ≡ max (min (length v.queued.queue) cx.ip_mtu) 1 →
    HasRoom room w
fits_offered cx v w room left is = rw (left, is) (fits_offer cx v)
