-- What is offered can be sent: its lengths fit their fields.
use Rattle.std.proofs.Common.{◌≡◌, ℕ, ◌+◌, ◌-◌, ◌==◌, ◌&&◌, ◌||◌, not, ◌^◌, ◌<◌, ◌≤◌, min, ℤ, Bool, true, false, List, [], ◌∷◌, length, take, drop, Option}
use Rattle.std.proofs.Common.{Some, None, is_some, if◌then◌else◌, refl, ap, arith, length-drop}
use Rattle.std.specs.Prelude.{IfSome}
use Rattle.std.proofs.lemmas.List.{length-take}
use Rattle.ip_wire.specs.Options.{padded, options_bytes, scale_options, permitted_options, timestamps_options}
use Rattle.ip_wire.specs.Tcp.{header_len}
use Rattle.ip_wire.specs.TcpControl.{TcpControl}
use Rattle.ip_wire.specs.SeqNumber.{SeqNumber}
use Rattle.ip_wire.specs.TcpHeader.{TcpHeader}
use Rattle.ip_wire.specs.TcpTimestampGenerator.{TcpTimestampGenerator}
use Rattle.socket_context.specs.Context.{ContextValue}
use Rattle.socket_context.specs.Offers.{Offered}
use Rattle.socket_context.specs.Packet.{PacketValue, packet_of, IsSendable}
use Rattle.socket_context.specs.Packet as Carried
use Rattle.tcp_block.specs.TcbRules.{local_scale}
use Rattle.tcp_block.specs.Moments.{is_due}
use Rattle.tcp_block.specs.Endpoints.{header_for, ip_header_len}
use Rattle.tcp_block.specs.Offers.{offer_segment, silent, number_at, offer_choice, offer_ack, offer_syn, offer_reset, offer_keep_alive, offer_window_limited}
use Rattle.tcp_block.specs.Offers.{last_rules, first_rules, backed_off, offer_between, offer_with, offer_of, payload_of, offered_packet}
use Rattle.tcp_block.specs.Probing.{probe_started, probe_deadline}
use Rattle.tcp_block.specs.Calls.{listening}
use Rattle.tcp_block.specs.Checks.{falls_back}
use Rattle.tcp_block.specs.Retries.{gives_up, given_up}
use Rattle.tcp_block.specs.LossRecovery.{retransmit_offset, hole_len}
use Rattle.tcp_block.specs.Rules.{Choice, timestamps_len, size_limit, window_limit, next_offset, time_wait_end, owes_syn, resends, ack_deadline, has_payload}
use Rattle.tcp_block.specs.Rules.{payload_choice, resend_choice, probe_choice, control_for, updates_window, keep_alive_deadline, sent_count}
use Rattle.tcp_block.specs.Segments.{tsval_by, segment, ack_segment, syn_segment, reset_segment, keep_alive_segment, hop_limit_of}
use Rattle.tcp_block.specs.States.{is_closed}
use Rattle.tcp_block.specs.Timeout.{timeout_end, timeout_started, timed_out}
use Rattle.tcp_block.specs.Timestamps.{generator_of, uses_stamps}
use Rattle.tcp_block.specs.Value.{TcpValue, with_tcb, unoffered, ended, queued_in, free_in, room_of, window_of}
use Rattle.tcp_block.specs.AddressPair.{AddressPair}
use Rattle.tcp_block.specs.AddressPair.TheVariants as Pair
use Rattle.tcp_block.specs.declared.tcb.Tcb.{Tcb}
use Rattle.tcp_block.specs.FourTuple.{FourTuple}
use Rattle.tcp_block.specs.OfferKind.{OfferKind}
use Rattle.tcp_block.specs.OfferKind.TheVariants as Kind
use Rattle.tcp_socket.proofs.Offering.{window_small, part_of_probe}
use Rattle.tcp_socket.specs.Opening.{open_offer}

-- the packet of the open offer, if there is one, can be sent
abbrev Fits : TcpValue → Type 0
Fits v = IfSome (offered_packet v) IsSendable

fits_none : (v : TcpValue) → v.offered ≡ None → Fits v
fits_none v none = rw none tt

fits_when : (t : Bool) (a b : Offered TcpValue) → (t ≡ true → Fits a.socket) → (t ≡ false → Fits b.socket) → Fits (if t then a else b).socket
fits_when true a b one other = one refl
fits_when false a b one other = other refl

-- a segment after the header that is made for it
sendable : (addresses : AddressPair) (hop_limit n : ℕ) (header : TcpHeader) (bytes : List ℕ) → header_len header ≤ 60 →
    ip_header_len addresses + (header_len header + n) < 2 ^ 16 → length bytes ≡ n
    → IsSendable (packet_of (header_for addresses hop_limit (header_len header + n)) (Carried.Segment header bytes))
sendable (Pair.Ipv4 local remote) hop_limit n header bytes short fits size = record {
  header = fits;
  payload = record { header = short; all = omega (arith, fits, size); family = refl };
  len = omega (arith, size);
}
sendable (Pair.Ipv6 local remote) hop_limit n header bytes short fits size = record {
  header = omega (arith, fits);
  payload = record { header = short; all = omega (arith, fits, size); family = refl };
  len = omega (arith, size);
}

ip_header_small : (addresses : AddressPair) → ip_header_len addresses ≤ 40
ip_header_small (Pair.Ipv4 local remote) = omega arith
ip_header_small (Pair.Ipv6 local remote) = omega arith

-- the length of a header with timestamps at most
stamped_room : (on : Bool) (generator : Option TcpTimestampGenerator) (now : ℤ) (recent : ℕ)
    → padded (0 + 0 + 0 + 0 + length (options_bytes (timestamps_options (if on then tsval_by generator now recent else None)))) ≡
    (if on && is_some generator then 12 else 0)
stamped_room true (Some generator) now recent = refl
stamped_room true None now recent = refl
stamped_room false generator now recent = refl

segment_room : (b : Tcb) (pair : FourTuple) (now : ℤ) (window : ℕ) (control : TcpControl) (seq : SeqNumber) →
    header_len (segment b pair now window control seq) ≡ 20 + timestamps_len b
segment_room b pair now window control seq =
    ap (λ n. 20 + n) (stamped_room b.peer.timestamps b.stamps.generator now b.peer.recent)

tsval_small : (t : Bool) → (if t then 12 else 0) ≤ 12
tsval_small true = omega arith
tsval_small false = omega arith

tsval_len_small : (b : Tcb) → timestamps_len b ≤ 12
tsval_len_small b = tsval_small (uses_stamps b)

-- the options of a SYN
scale_room : (t : Bool) (n : ℕ) → length (options_bytes (scale_options (if t then Some n else None))) ≤ 3
scale_room true n = omega arith
scale_room false n = omega arith

permitted_room : (t : Bool) → length (options_bytes (permitted_options t)) ≤ 2
permitted_room true = omega arith
permitted_room false = omega arith

tsval_room : (t : Bool) (generator : Option TcpTimestampGenerator) (now : ℤ) (recent : ℕ) →
    length (options_bytes (timestamps_options (if t then tsval_by generator now recent else None))) ≤ 10
tsval_room true (Some generator) now recent = omega arith
tsval_room true None now recent = omega arith
tsval_room false generator now recent = omega arith

syn_room : (b : Tcb) (pair : FourTuple) (now : ℤ) (ip_mtu capacity free : ℕ) → header_len (syn_segment b pair now ip_mtu capacity free) ≤ 60
syn_room b pair now ip_mtu capacity free =
    let scale = scale_room (not b.receiver.took_syn || is_some b.peer.scale) (local_scale capacity) in
    let sack = permitted_room (not b.receiver.took_syn || b.peer.sack) in
    let tsval = tsval_room (not b.receiver.took_syn || b.peer.timestamps) (generator_of b) now b.peer.recent in
    omega (arith, scale, sack, tsval)

-- a segment that is offered with these bytes
fits_segment : (kind : OfferKind) (cx : ContextValue) (v : TcpValue) (pair : FourTuple) (header : TcpHeader) (offset len : ℕ) (bytes : List ℕ)
    → payload_of (open_offer kind cx v pair header offset len) kind v.queued.queue ≡ bytes → length bytes ≡ len → header_len header ≤ 60
    → ip_header_len pair.addresses + (header_len header + len) < 2 ^ 16 → Fits (offer_segment kind cx v pair header offset len).socket
fits_segment kind cx v pair header offset len bytes is size short fits =
    rw is (sendable pair.addresses (hop_limit_of v.tcb.settings.hop_limit) len header bytes short fits size)

fits_ack : (kind : OfferKind) (cx : ContextValue) (v : TcpValue) (pair : FourTuple) →
    payload_of (open_offer kind cx v pair (ack_segment v.tcb pair cx.instant (window_of v)) 0 0) kind v.queued.queue ≡ [] →
    Fits (offer_ack kind cx v pair).socket
fits_ack kind cx v pair is =
    let header = ack_segment v.tcb pair cx.instant (window_of v) in
    let room = segment_room v.tcb pair cx.instant (window_of v) header.control header.seq_number in
    let tsval = tsval_len_small v.tcb in
    let ip = ip_header_small pair.addresses in
    fits_segment kind cx v pair header 0 0 [] is refl (omega (arith, room, tsval)) (omega (arith, room, tsval, ip))

fits_reset : (cx : ContextValue) (v : TcpValue) (pair : FourTuple) → Fits (offer_reset cx v pair).socket
fits_reset cx v pair =
    let header = reset_segment v.tcb pair cx.instant (window_of v) in
    let room = segment_room v.tcb pair cx.instant (window_of v) header.control header.seq_number in
    let tsval = tsval_len_small v.tcb in
    let ip = ip_header_small pair.addresses in
    fits_segment Kind.Reset cx v pair header 0 0 [] refl refl (omega (arith, room, tsval)) (omega (arith, room, tsval, ip))

fits_syn : (cx : ContextValue) (v : TcpValue) (pair : FourTuple) → Fits (offer_syn cx v pair).socket
fits_syn cx v pair =
    let header = syn_segment v.tcb pair cx.instant cx.ip_mtu (room_of v.received) (free_in v) in
    let room = syn_room v.tcb pair cx.instant cx.ip_mtu (room_of v.received) (free_in v) in
    let ip = ip_header_small pair.addresses in
    fits_segment Kind.Syn cx v pair header 0 0 [] refl refl room (omega (arith, room, ip))

fits_keep_alive : (cx : ContextValue) (v : TcpValue) (pair : FourTuple) → Fits (offer_keep_alive cx v pair).socket
fits_keep_alive cx v pair =
    let header = keep_alive_segment v.tcb pair cx.instant (window_of v) in
    let room = segment_room v.tcb pair cx.instant (window_of v) header.control header.seq_number in
    let tsval = tsval_len_small v.tcb in
    let ip = ip_header_small pair.addresses in
    fits_segment Kind.KeepAlive cx v pair header 0 1 (0 ∷ []) refl refl (omega (arith, room, tsval)) (omega (arith, room, tsval, ip))

length-part : (queue : List ℕ) (offset len : ℕ) → len ≤ length queue - offset → length (take len (drop offset queue)) ≡ len
length-part queue offset len fits = rw (length-take, length-drop) (omega (arith, fits))

-- a part of the send queue that is as long as the rules allow, or one byte
fits_choice : (kind : OfferKind) (cx : ContextValue) (v : TcpValue) (pair : FourTuple) (c : Choice)
    → payload_of (open_offer kind cx v pair (segment v.tcb pair cx.instant (window_of v) (control_for c (queued_in v)) (number_at v.tcb c.offset)) c.offset
    c.len) kind v.queued.queue ≡ take c.len (drop c.offset v.queued.queue)
    → c.len ≤ queued_in v - c.offset → ip_header_len pair.addresses + (20 + timestamps_len v.tcb + c.len) < 2 ^ 16 → Fits (offer_choice kind cx v pair c).socket
fits_choice kind cx v pair c is lies small =
    let header = segment v.tcb pair cx.instant (window_of v) (control_for c (queued_in v)) (number_at v.tcb c.offset) in
    let room = segment_room v.tcb pair cx.instant (window_of v) header.control header.seq_number in
    let tsval = tsval_len_small v.tcb in
    fits_segment kind cx v pair header c.offset c.len (take c.len (drop c.offset v.queued.queue)) is
    (length-part v.queued.queue c.offset c.len (omega (arith, lies))) (omega (arith, room, tsval)) (omega (arith, room, small))

-- as many bytes as the size limit allows
fits_limit : (b : Tcb) (addresses : AddressPair) (ip_mtu len : ℕ) → len ≤ size_limit b addresses ip_mtu →
    ip_header_len addresses + (20 + timestamps_len b + len) < 2 ^ 16
fits_limit b addresses ip_mtu len fits =
    let tsval = tsval_len_small b in
    let ip = ip_header_small addresses in
    omega (arith, fits, tsval, ip)

fits_payload : (cx : ContextValue) (v : TcpValue) (pair : FourTuple) →
    Fits (offer_choice Kind.Payload cx v pair (payload_choice v.tcb pair.addresses cx.ip_mtu v.queued)).socket
fits_payload cx v pair =
    let most = min (size_limit v.tcb pair.addresses cx.ip_mtu) (queued_in v - next_offset v.tcb) in
    let least = window_small v.tcb most in
    fits_choice Kind.Payload cx v pair (payload_choice v.tcb pair.addresses cx.ip_mtu v.queued) refl (omega (arith, least))
    (fits_limit v.tcb pair.addresses cx.ip_mtu (window_limit v.tcb most) (omega (arith, least)))

fits_resent : (cx : ContextValue) (v : TcpValue) (pair : FourTuple) →
    Fits (offer_choice Kind.FastRetransmission cx v pair (resend_choice v.tcb pair.addresses cx.ip_mtu v.queued)).socket
fits_resent cx v pair =
    let limit = size_limit v.tcb pair.addresses cx.ip_mtu in
    let offset = retransmit_offset v.tcb limit (sent_count v.tcb) (queued_in v) in
    let len = min (hole_len v.tcb offset (sent_count v.tcb)) (min limit (queued_in v - offset)) in
    fits_choice Kind.FastRetransmission cx v pair (resend_choice v.tcb pair.addresses cx.ip_mtu v.queued) refl (omega arith)
    (fits_limit v.tcb pair.addresses cx.ip_mtu len (omega arith))

fits_probe : (cx : ContextValue) (v : TcpValue) (pair : FourTuple) → is_due cx.instant (probe_deadline v.tcb (queued_in v)) ≡ true →
    Fits (offer_choice Kind.Probe cx v pair probe_choice).socket
fits_probe cx v pair due =
    let part = part_of_probe v cx.instant due in
    let tsval = tsval_len_small v.tcb in
    let ip = ip_header_small pair.addresses in
    fits_choice Kind.Probe cx v pair probe_choice refl part.within (omega (arith, tsval, ip))

fits_held : (cx : ContextValue) (v : TcpValue) (pair : FourTuple) → is_due cx.instant (probe_deadline v.tcb (queued_in v)) ≡ true →
    Fits (offer_window_limited cx v pair).socket
fits_held cx v pair due =
    fits_when (v.tcb.peer.window == 0) (offer_choice Kind.Probe cx v pair probe_choice)
    (offer_choice Kind.Payload cx v pair (payload_choice v.tcb pair.addresses cx.ip_mtu v.queued)) (λ _. fits_probe cx v pair due) (λ _. fits_payload cx v pair)

fits_last : (cx : ContextValue) (v : TcpValue) (pair : FourTuple) → v.offered ≡ None → Fits (last_rules cx v pair).socket
fits_last cx v pair none =
    let alive = offer_keep_alive cx v pair in
    let update = offer_ack Kind.WindowUpdate cx v pair in
    let ack = offer_ack Kind.Ack cx v pair in
    let probe = offer_window_limited cx v pair in
    let fourth : Offered TcpValue = if is_due cx.instant (keep_alive_deadline v.tcb) then alive else silent false v in
    let third : Offered TcpValue = if updates_window v.tcb (room_of v.received) (free_in v) then update else fourth in
    let second : Offered TcpValue = if is_due cx.instant (ack_deadline v.tcb) then ack else third in
    fits_when (is_due cx.instant (probe_deadline v.tcb (queued_in v))) probe second (fits_held cx v pair) (λ _.
    fits_when (is_due cx.instant (ack_deadline v.tcb)) ack third (λ _. fits_ack Kind.Ack cx v pair refl) (λ _.
    fits_when (updates_window v.tcb (room_of v.received) (free_in v)) update fourth (λ _. fits_ack Kind.WindowUpdate cx v pair refl) (λ _.
    fits_when (is_due cx.instant (keep_alive_deadline v.tcb)) alive (silent false v) (λ _. fits_keep_alive cx v pair) (λ _. fits_none v none))))

fits_first : (cx : ContextValue) (v : TcpValue) (pair : FourTuple) → v.offered ≡ None → Fits (first_rules cx v pair).socket
fits_first cx v pair none =
    let probing = with_tcb v (probe_started cx.instant (queued_in v) v.tcb) in
    let syn = offer_syn cx v pair in
    let resent = offer_choice Kind.FastRetransmission cx v pair (resend_choice v.tcb pair.addresses cx.ip_mtu v.queued) in
    let payload = offer_choice Kind.Payload cx v pair (payload_choice v.tcb pair.addresses cx.ip_mtu v.queued) in
    let third : Offered TcpValue = if has_payload v.tcb pair.addresses cx.ip_mtu v.queued then payload else last_rules cx probing pair in
    let second : Offered TcpValue = if resends v.tcb pair.addresses cx.ip_mtu v.queued then resent else third in
    fits_when (owes_syn v.tcb) syn second (λ _. fits_syn cx v pair) (λ _.
    fits_when (resends v.tcb pair.addresses cx.ip_mtu v.queued) resent third (λ _. fits_resent cx v pair) (λ _.
    fits_when (has_payload v.tcb pair.addresses cx.ip_mtu v.queued) payload (last_rules cx probing pair) (λ _. fits_payload cx v pair) (λ _.
    fits_last cx probing pair none)))

none_up : (v : TcpValue) → v.offered ≡ None → (given_up v).offered ≡ None
none_up v none = elim (falls_back v.tcb) as (λ t. (if t then listening v v.tcb.names.listen else with_tcb v (timed_out v.tcb)).offered ≡
    None) [ true ↦ refl | false ↦ none ]

fits_between : (cx : ContextValue) (v : TcpValue) (pair : FourTuple) → v.offered ≡ None → Fits (offer_between cx v pair).socket
fits_between cx v pair none =
    let end = silent true (ended v) in
    let late = silent true (with_tcb v (timed_out v.tcb)) in
    let reset : Offered TcpValue = if v.tcb.sender.reset_due then offer_reset cx v pair else silent false v in
    let going = with_tcb v (backed_off cx.instant (timeout_started cx.instant (queued_in v) v.tcb)) in
    let over = silent true (given_up v) in
    let fourth : Offered TcpValue = if gives_up cx.instant v.tcb (queued_in v) then over else first_rules cx going pair in
    let third : Offered TcpValue = if is_closed v.tcb.state then reset else fourth in
    let second : Offered TcpValue = if is_due cx.instant (timeout_end v.tcb (queued_in v)) then late else third in
    fits_when (is_due cx.instant (time_wait_end v.tcb)) end second (λ _. fits_none (ended v) none) (λ _.
    fits_when (is_due cx.instant (timeout_end v.tcb (queued_in v))) late third (λ _. fits_none (with_tcb v (timed_out v.tcb)) none) (λ _.
    fits_when (is_closed v.tcb.state) reset fourth
    (λ _. fits_when v.tcb.sender.reset_due (offer_reset cx v pair) (silent false v) (λ _. fits_reset cx v pair) (λ _. fits_none v none))
    (λ _. fits_when (gives_up cx.instant v.tcb (queued_in v)) over (first_rules cx going pair) (λ _. fits_none (given_up v) (none_up v none)) (λ _.
    fits_first cx going pair none))))

fits_with : (names : Option FourTuple) (cx : ContextValue) (v : TcpValue) → v.offered ≡ None → Fits (offer_with names cx v).socket
fits_with None cx v none = fits_none v none
fits_with (Some pair) cx v none = fits_between cx v pair none

-- each offered packet can be sent
pub fits_offered : (cx : ContextValue) (v : TcpValue) → IfSome (offered_packet (offer_of cx v).socket) IsSendable
fits_offered cx v = fits_with v.tcb.names.pair cx (unoffered v) refl
