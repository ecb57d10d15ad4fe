-- Which segments a socket takes, where its own segments go, and what becomes of its endpoints.
use Rattle.std.proofs.Common.{◌≡◌, inl, inr, ℕ, ◌+◌, ◌==◌, ◌&&◌, nat_le, not, ℤ, Bool, true, false, if◌then◌else◌, List, Option}
use Rattle.std.proofs.Common.{Some, None, is_some, length, drop, refl, sym, ap, ◌∙◌, subst}
use Rattle.std.proofs.lemmas.Bool.{and_parts, cond_both, eqb-true}
use Rattle.std.proofs.lemmas.Slice.Eq.{bytes_eq-Decides}
use Rattle.ip_wire.specs.AddressTests.{is_same_address}
use Rattle.ip_wire.specs.Ip.{source_of, destination_of}
use Rattle.ip_wire.specs.IpAddress.{IpAddress}
use Rattle.ip_wire.specs.IpAddress.TheVariants as Address
use Rattle.ip_wire.specs.IpRepr.{IpRepr}
use Rattle.ip_wire.specs.IpRepr.TheVariants as Ip
use Rattle.tcp_block.specs.OutOfOrder.{runs_of}
use Rattle.ip_wire.specs.SeqNumber.{SeqNumber}
use Rattle.ip_wire.specs.Tcp.{header_len}
use Rattle.ip_wire.specs.TcpControl.{TcpControl}
use Rattle.ip_wire.specs.TcpControl.TheVariants as Control
use Rattle.ip_wire.specs.TcpHeader.{TcpHeader}
use Rattle.socket_context.specs.Context.{ContextValue}
use Rattle.socket_context.specs.Offers.{Offered}
use Rattle.tcp_block.specs.AddressPair.{AddressPair}
use Rattle.tcp_block.specs.AddressPair.TheVariants as Pair
use Rattle.tcp_block.specs.declared.tcb.Tcb.{Tcb}
use Rattle.tcp_block.specs.FourTuple.{FourTuple}
use Rattle.tcp_block.specs.OfferKind.{OfferKind}
use Rattle.tcp_block.specs.OfferKind.TheVariants as Kind
use Rattle.tcp_block.specs.OpenOffer.{OpenOffer}
use Rattle.tcp_block.specs.Reply.{Reply}
use Rattle.tcp_block.specs.State.{State}
use Rattle.tcp_block.specs.State.TheVariants as In
use Rattle.tcp_block.specs.Acknowledged.{acknowledged, tcb_acknowledged, state_after_ack, acks_fin, una_moved, in_state, ended_if, duplicates_after}
use Rattle.tcp_block.specs.Acknowledged.{names_window, windowed, ranges_taken, counted}
use Rattle.tcp_block.specs.Answers.{ack_due, drawn, may_challenge, with_draw, acked, answer_for, answers_at_once, sack_blocks}
use Rattle.tcp_block.specs.Arrival.{waiting_anew, outside, passed_outside, is_before_window, is_repeated, finished, with_content, told}
use Rattle.tcp_block.specs.Arrival.{taken, inside, checked, takes_reset}
use Rattle.tcp_block.specs.Arrival.{challenges_reset, reset_arrives, challenges_first, tsecr_heard, received, arrives_in, arrives, is_void_syn}
use Rattle.tcp_block.specs.Calls.{listening, close_after, abort_after}
use Rattle.tcp_block.specs.Checks.{Check, acknowledgement_check, is_in_window, taken_down, falls_back}
use Rattle.tcp_block.specs.Checks.Check.{Passes, Old, Drops, Draws, Resets}
use Rattle.tcp_block.specs.Controls.{is_syn, is_rst}
use Rattle.tcp_block.specs.Moments.{is_due, is_over, timeout_from}
use Rattle.tcp_block.specs.Endpoints.{local_of, remote_of, pair_in, addresses_in, header_for, is_between, is_connected_by, is_bare, takes_address}
use Rattle.tcp_block.specs.Names.{accepts_in, accepts}
use Rattle.tcp_block.specs.LossRecovery.{loss_probe_deadline, loss_probed, loss_probed_by}
use Rattle.tcp_block.specs.Offers.{offer_segment, offer_choice, offer_ack, offer_syn, offer_reset, offer_keep_alive, offer_window_limited, silent, last_rules}
use Rattle.tcp_block.specs.Offers.{first_rules, backed_off, offer_between, offer_with, offer_of, number_at}
use Rattle.tcp_block.specs.Opening.{is_first_syn, opens, takes_answer, acks_syn, syn_answered, connected, crossed, answering}
use Rattle.tcp_block.specs.Probing.{probe_started, probe_deadline, probe_kept}
use Rattle.tcp_block.specs.Offsets.{distance_after, distance_before}
use Rattle.tcp_block.specs.Rules.{control_for, time_wait_end, owes_syn, resends, ack_deadline, has_payload, payload_choice, resend_choice, probe_choice, updates_window}
use Rattle.tcp_block.specs.Rules.{keep_alive_deadline, backed_off_now}
use Rattle.tcp_block.specs.Segments.{no_ranges, rst_reply, reset_for, reply_to, hop_limit_of, segment, sack_segment, ack_segment, syn_segment, reset_segment, has_length}
use Rattle.tcp_block.specs.Segments.{keep_alive_segment}
use Rattle.tcp_block.specs.Retries.{heard, asked, one_more, gives_up, given_up}
use Rattle.tcp_block.specs.Settled.{nxt_past_held, settled, recorded, probed, end_of}
use Rattle.tcp_block.specs.States.{is_closed, is_time_wait, is_listening, is_answering, is_opening, after_ack, after_ack_of_fin, after_fin, after_close}
use Rattle.tcp_block.specs.States.{accepts_data}
use Rattle.tcp_block.specs.Payload.{DataStored, data_stored, with_payload, with_payload_at, with_bytes_at, taken_in_order, out_of_order, laid, has_new_payload, with_fin, takes_fin}
use Rattle.tcp_block.specs.Payload.{fin_taken}
use Rattle.tcp_block.specs.Timeout.{timeout_end, timeout_started, timeout_restarted, timed_out}
use Rattle.tcp_block.specs.Value.{TcpValue, Arrived, with_tcb, dropped, answered_with, unoffered, ended, queued_in, free_in, room_of, received_of, window_of}
use Rattle.tcp_block.specs.Isn.{isn, draws_number}
use Rattle.tcp_block.specs.Timestamps.{believed, tsval_taken}
use Rattle.tcp_refinement.specs.Endpoints.{GoesBetween, GoesBack, CameBetween, IsFor, KeepsNames, Forgets, FallsBack, KeepsOrForgets, IsLeftBy, IsRenamed}

-- WHICH SEGMENTS IT TAKES

same_address : (a b : IpAddress) → is_same_address a b ≡ true → a ≡ b
same_address (Address.Ipv4 a) (Address.Ipv4 b) e = ap (λ (bytes : List ℕ). Address.Ipv4 (record { 0 = bytes })) ((bytes_eq-Decides a.0 b.0).0 e)
same_address (Address.Ipv6 a) (Address.Ipv6 b) e = ap (λ (bytes : List ℕ). Address.Ipv6 (record { 0 = bytes })) ((bytes_eq-Decides a.0 b.0).0 e)
same_address (Address.Ipv4 a) (Address.Ipv6 b) e = absurd (cc)
same_address (Address.Ipv6 a) (Address.Ipv4 b) e = absurd (cc)

bare_of : (ack : Option SeqNumber) (control : TcpControl) → is_bare ack control ≡ true → (ack ≡ None) × (is_rst control ≡ false)
bare_of (Some n) control e = absurd (cc)
bare_of None Control.Rst e = absurd (cc)
bare_of None Control.None e = (refl, refl)
bare_of None Control.Psh e = (refl, refl)
bare_of None Control.Syn e = (refl, refl)
bare_of None Control.Fin e = (refl, refl)

module _ (b : Tcb) (ip : IpRepr) (header : TcpHeader) where
  came_between : (pair : FourTuple) → is_between pair ip header ≡ true → CameBetween pair ip header
  came_between pair e =
      let one =
      and_parts (is_same_address (local_of pair.addresses) (destination_of ip))
      (is_same_address (remote_of pair.addresses) (source_of ip) && ((pair.local_port == header.dst_port) && (pair.remote_port == header.src_port))) e in
      let two = and_parts (is_same_address (remote_of pair.addresses) (source_of ip))
      ((pair.local_port == header.dst_port) && (pair.remote_port == header.src_port)) one.1 in
      let ports = and_parts (pair.local_port == header.dst_port) (pair.remote_port == header.src_port) two.1 in
      record {
        source = sym (same_address (remote_of pair.addresses) (source_of ip) two.0);
        destination = sym (same_address (local_of pair.addresses) (destination_of ip) one.0);
        source_port = sym (eqb-true pair.remote_port header.src_port ports.1);
        destination_port = sym (eqb-true pair.local_port header.dst_port ports.0);
      }

  connected_for : (names : Option FourTuple) → b.names.pair ≡ names → is_connected_by names ip header ≡ true → (pair : FourTuple) ×
      (b.names.pair ≡ Some pair) × CameBetween pair ip header
  connected_for None named e = absurd (cc)
  connected_for (Some pair) named e = (pair, named, came_between pair e)

  later_for : is_closed b.state ≡ false → is_listening b.state ≡ false → is_connected_by b.names.pair ip header ≡ true → IsFor b ip header
  later_for opened later e = record {
    opened = opened;
    listening = λ listens. absurd (let clash : true ≡ false = sym listens ∙ later in cc);
    connected = λ _. connected_for b.names.pair refl e;
  }

  listening_for :
      b.state ≡ In.Listen
      → ((b.names.listen.port == header.dst_port) && (takes_address b.names.listen.addr (destination_of ip) && is_bare header.ack_number header.control)) ≡ true
      → IsFor b ip header
  listening_for at e =
      let parts = and_parts (b.names.listen.port == header.dst_port)
      (takes_address b.names.listen.addr (destination_of ip) && is_bare header.ack_number header.control) e in
      let rest = and_parts (takes_address b.names.listen.addr (destination_of ip)) (is_bare header.ack_number header.control) parts.1 in
      let bare = bare_of header.ack_number header.control rest.1 in
      record {
        opened = ap is_closed at;
        listening = λ _. (sym (eqb-true b.names.listen.port header.dst_port parts.0), bare.0, bare.1);
        connected = λ later. absurd (let clash : true ≡ false = sym (ap is_listening at) ∙ later in cc);
      }

  accepted_in : (state : State) → b.state ≡ state → accepts_in state b ip header ≡ true → IsFor b ip header
  accepted_in In.Closed at e = absurd (cc)
  accepted_in In.Listen at e = listening_for at e
  accepted_in other at e = later_for (ap is_closed at) (ap is_listening at) e

  pub accepted : accepts b ip header ≡ true → IsFor b ip header
  accepted e = accepted_in b.state refl e

-- WHAT BECOMES OF ITS NAMES

not_true : (test : Bool) → not test ≡ true → test ≡ false
not_true true e = absurd (cc)
not_true false e = refl

keeps : (old new : Tcb) → new.names ≡ old.names → is_listening new.state ≡ is_listening old.state → KeepsNames old new
keeps old new names listens = record { names = names; listening = λ e. sym listens ∙ e }

-- it doesn't listen any more
keeps_off : (old new : Tcb) → new.names ≡ old.names → is_listening new.state ≡ false → KeepsNames old new
keeps_off old new names off = record { names = names; listening = λ e. absurd (let clash : true ≡ false = sym e ∙ off in cc) }

then_keeps : (old mid new : Tcb) → KeepsNames old mid → KeepsNames mid new → KeepsNames old new
then_keeps old mid new first second = record { names = second.names ∙ first.names; listening = λ e. first.listening (second.listening e) }

listening_after_ack : (state : State) → is_listening (after_ack state) ≡ is_listening state
listening_after_ack In.Listen = refl
listening_after_ack other = refl

listening_after_ack_of_fin : (state : State) → is_listening (after_ack_of_fin state) ≡ is_listening state
listening_after_ack_of_fin In.Listen = refl
listening_after_ack_of_fin other = refl

listening_after_fin : (state : State) → is_listening (after_fin state) ≡ is_listening state
listening_after_fin In.Listen = refl
listening_after_fin other = refl

off_after_close : (state : State) → is_listening (after_close state) ≡ false
off_after_close In.Listen = refl
off_after_close other = refl

pub close_names : (v : TcpValue) → KeepsOrForgets v.tcb (close_after v).tcb
close_names v =
    cond_both (is_opening v.tcb.state) (ended (unoffered v)) (with_tcb (unoffered v) (record v.tcb { state = after_close v.tcb.state }))
    (λ (w : TcpValue). KeepsOrForgets v.tcb w.tcb)
    (λ _. inr (record { state = refl; names = refl }))
    (λ _. inl (keeps_off v.tcb (record v.tcb { state = after_close v.tcb.state }) refl (off_after_close v.tcb.state)))

pub abort_names : (v : TcpValue) → KeepsOrForgets v.tcb (abort_after v).tcb
abort_names v =
    cond_both (is_time_wait v.tcb.state) (ended (unoffered v))
    (with_tcb (unoffered v) (record v.tcb { state = In.Closed; sender = record v.tcb.sender { reset_due = is_some v.tcb.names.pair } }))
    (λ (w : TcpValue). KeepsOrForgets v.tcb w.tcb)
    (λ _. inr (record { state = refl; names = refl }))
    (λ _. inl (keeps_off v.tcb (record v.tcb { state = In.Closed; sender = record v.tcb.sender { reset_due = is_some v.tcb.names.pair } }) refl refl))

-- WHEN A SEGMENT COMES

header_back : (ip : IpRepr) (hop_limit len : ℕ) → (source_of (header_for (addresses_in ip) hop_limit len) ≡ destination_of ip) ×
    (destination_of (header_for (addresses_in ip) hop_limit len) ≡ source_of ip)
header_back (Ip.Ipv4 v) hop_limit len = (refl, refl)
header_back (Ip.Ipv6 v) hop_limit len = (refl, refl)

reply_back :
    (ip : IpRepr) (header : TcpHeader) (hop_limit : ℕ) (segment : TcpHeader) → segment.src_port ≡ header.dst_port → segment.dst_port ≡ header.src_port
    → GoesBack ip header (reply_to ip hop_limit segment)
reply_back ip header hop_limit segment source destination =
    let ends = header_back ip hop_limit (header_len segment) in
    record { source = ends.0; destination = ends.1; source_port = source; destination_port = destination }

pub reset_back : (ip : IpRepr) (header : TcpHeader) (size : ℕ) → GoesBack ip header (rst_reply ip header size)
reset_back ip header size = reply_back ip header 64 (reset_for header size) refl refl

answered_back : (ip : IpRepr) (header : TcpHeader) (mine reply : Reply) → GoesBack ip header mine → Some mine ≡ Some reply → GoesBack ip header reply
answered_back ip header mine reply back e = let same : mine ≡ reply = cc in subst (λ (reply : Reply). GoesBack ip header reply) same back

module _ (cx : ContextValue) (ip : IpRepr) (header : TcpHeader) where
  -- the endpoints afterwards, and where the answer goes
  abbrev Named : Tcb → Arrived → Type 0
  Named old a = KeepsOrForgets old a.socket.tcb × ((reply : Reply) → a.answer ≡ Some reply → GoesBack ip header reply)

  named_dropped : (old : Tcb) (v : TcpValue) → KeepsOrForgets old v.tcb → Named old (dropped v)
  named_dropped old v names = (names, λ reply e. absurd (cc))

  named_acked : (old : Tcb) (v : TcpValue) (ranges : List (Option (ℕ × ℕ))) → KeepsNames old v.tcb → Named old (acked cx v ip header ranges)
  named_acked old v ranges names = (
    inl (record { names = names.names; listening = names.listening }),
    λ reply e.
        answered_back ip header
        (reply_to ip (hop_limit_of v.tcb.settings.hop_limit) (sack_segment v.tcb (pair_in ip header) cx.instant (window_of v) ranges)) reply
        (reply_back ip header (hop_limit_of v.tcb.settings.hop_limit) (sack_segment v.tcb (pair_in ip header) cx.instant (window_of v) ranges) refl refl) e,
  )

  named_drawn : (old : Tcb) (v : TcpValue) → KeepsNames old v.tcb → Named old (drawn cx v ip header)
  named_drawn old v names =
      cond_both (may_challenge cx.instant v.tcb.timers.challenges_from) (acked cx (with_draw v cx.instant) ip header no_ranges) (dropped v) (λ (a : Arrived). Named old a)
      (λ _. named_acked old (with_draw v cx.instant) no_ranges (record { names = names.names; listening = names.listening }))
      (λ _. named_dropped old v (inl names))

  named_reset : (v : TcpValue) (size : ℕ) → Named v.tcb (answered_with v (rst_reply ip header size))
  named_reset v size = (
    inl (keeps v.tcb v.tcb refl refl),
    λ reply e. answered_back ip header (rst_reply ip header size) reply (reset_back ip header size) e,
  )

  -- the payload and the FIN leave the endpoints
  abbrev Stays : Tcb → Tcb → Type 0
  Stays old new = (new.names ≡ old.names) × (is_listening new.state ≡ is_listening old.state)

  payload_stays : (v : TcpValue) (offset : ℕ) (bytes : List ℕ) → Stays v.tcb (with_payload_at v offset bytes).socket.tcb
  payload_stays v offset bytes =
      cond_both (accepts_data v.tcb.state && has_new_payload v offset bytes) (with_bytes_at v offset bytes) (data_stored v 0 false None)
      (λ (t : DataStored). Stays v.tcb t.socket.tcb)
      (λ _.
      cond_both (offset == 0) (taken_in_order v (laid v offset bytes)) (out_of_order v offset (laid v offset bytes)) (λ (t : DataStored). Stays v.tcb t.socket.tcb)
      (λ _. (refl, refl))
      (λ _.
      cond_both (nat_le (length (runs_of (laid v offset bytes))) 32)
      (data_stored (record v { received = received_of v.received.waiting (laid v offset bytes) v.received.start }) 0 false (Some offset)) (data_stored v 0 false None)
      (λ (t : DataStored). Stays v.tcb t.socket.tcb)
      (λ _. (refl, refl))
      (λ _. (refl, refl))))
      (λ _. (refl, refl))

  fin_stays : (b old : Tcb) (size advance : ℕ) → Stays b (with_fin b old header size advance cx.instant)
  fin_stays b old size advance =
      cond_both (takes_fin old header size advance) (fin_taken b cx.instant) b (λ (new : Tcb). Stays b new)
      (λ _. (refl, listening_after_fin b.state))
      (λ _. (refl, refl))

  named_answer : (old : Tcb) (v : TcpValue) (size : ℕ) (fills : Bool) (early : Option ℕ) → KeepsNames old v.tcb →
      Named old (answer_for cx v ip header size fills early)
  named_answer old v size fills (Some offset) names = named_acked old v (sack_blocks v offset) names
  named_answer old v size fills None names =
      let later = with_tcb v (ack_due v.tcb header size fills cx.instant) in
      cond_both (answers_at_once cx v.tcb ip header size) (acked cx v ip header no_ranges) (dropped later) (Named old)
      (λ _. named_acked old v no_ranges names)
      (λ _. named_dropped old later (inl (record { names = names.names; listening = names.listening })))

  named_finished : (old before : Tcb) (t : DataStored) (size : ℕ) → KeepsNames old t.socket.tcb → Named old (finished cx before t ip header size)
  named_finished old before t size names =
      let stays = fin_stays t.socket.tcb before size t.advance in
      let new = with_fin t.socket.tcb before header size t.advance cx.instant in
      let after = then_keeps old t.socket.tcb new names (keeps t.socket.tcb new stays.0 stays.1) in
      named_answer old (with_tcb t.socket (probe_kept new (queued_in t.socket))) size t.fills t.early
      (record { names = after.names; listening = after.listening })

  -- the acknowledgement: it keeps the names, or ends LAST-ACK
  acked_names : (b : Tcb) (by queued : ℕ) → KeepsOrForgets b (tcb_acknowledged b by queued cx.instant)
  acked_names b by queued = at (is_closed (state_after_ack b by queued)) where
    state_stays : is_listening (state_after_ack b by queued) ≡ is_listening b.state
    state_stays =
        cond_both (acks_fin b by queued) (after_ack_of_fin b.state) (after_ack b.state) (λ (state : State). is_listening state ≡ is_listening b.state)
        (λ _. listening_after_ack_of_fin b.state)
        (λ _. listening_after_ack b.state)

    at : (test : Bool) → KeepsOrForgets b (ended_if test (in_state (una_moved b by queued cx.instant) (state_after_ack b by queued) cx.instant))
    at true = inr (record { state = refl; names = refl })
    at false = inl (keeps b (in_state (una_moved b by queued cx.instant) (state_after_ack b by queued) cx.instant) refl state_stays)

  -- so it does after the echo
  abbrev timed : TcpValue → ℕ → TcpValue
  timed v by = tsecr_heard v header by cx.instant

  timed_names : (v : TcpValue) (by : ℕ) → KeepsOrForgets v.tcb (acknowledged (timed v by) by cx.instant).tcb
  timed_names v by = from (acked_names (timed v by).tcb by (queued_in v)) where
    from : KeepsOrForgets (timed v by).tcb (acknowledged (timed v by) by cx.instant).tcb
        → KeepsOrForgets v.tcb (acknowledged (timed v by) by cx.instant).tcb
    from (inl kept) = inl (record { names = kept.names; listening = kept.listening })
    from (inr forgets) = inr forgets

  open_keeps : (old new : Tcb) → is_closed new.state ≡ false → KeepsOrForgets old new → KeepsNames old new
  open_keeps old new open_yet (inl names) = names
  open_keeps old new open_yet (inr forgets) = absurd (let clash : true ≡ false = sym forgets.state ∙ open_yet in cc)

  named_content : (old : Tcb) (v : TcpValue) (bytes : List ℕ) → KeepsNames old v.tcb → Named old (with_content cx v ip header bytes)
  named_content old v bytes names =
      let payload = payload_stays v (distance_after v.tcb.receiver.next header.seq_number) (drop (distance_before v.tcb.receiver.next header.seq_number) bytes) in
      named_finished old v.tcb (with_payload v header bytes) (length bytes)
      (then_keeps old v.tcb (with_payload v header bytes).socket.tcb names (keeps v.tcb (with_payload v header bytes).socket.tcb payload.0 payload.1))

  told_stays : (w : TcpValue) (duplicates : ℕ) → Stays w.tcb (told w header duplicates cx.instant).tcb
  told_stays w duplicates =
      cond_both (names_window w.tcb header) (windowed w.tcb header) w.tcb
      (λ (b : Tcb). Stays w.tcb
      (timeout_restarted (nxt_past_held (counted (ranges_taken (tsval_taken b header cx.instant) header cx.instant) duplicates cx.instant) (queued_in w)) cx.instant
      (queued_in w)))
      (λ _. (refl, refl))
      (λ _. (refl, refl))

  named_taken : (v : TcpValue) (bytes : List ℕ) (by : ℕ) → Named v.tcb (taken cx v ip header bytes by)
  named_taken v bytes by =
      let w = acknowledged (timed v by) by cx.instant in
      let heeded = told w header (duplicates_after v.tcb header (length bytes) by) cx.instant in
      cond_both (is_closed w.tcb.state) (dropped w) (with_content cx heeded ip header bytes) (λ (a : Arrived). Named v.tcb a)
      (λ _. named_dropped v.tcb w (timed_names v by))
      (λ open_yet.
      let kept = open_keeps v.tcb w.tcb open_yet (timed_names v by) in
      let heeds = told_stays w (duplicates_after v.tcb header (length bytes) by) in
      named_content v.tcb heeded bytes (then_keeps v.tcb w.tcb heeded.tcb kept (keeps w.tcb heeded.tcb heeds.0 heeds.1)))

  named_outside : (old : Tcb) (w : TcpValue) (again : Bool) → KeepsOrForgets old w.tcb → Named old (outside cx w ip header again)
  named_outside old w again names =
      let x = waiting_anew w header cx.instant in
      cond_both (is_closed w.tcb.state) (dropped w) (if again then acked cx x ip header no_ranges else drawn cx x ip header) (λ (a : Arrived). Named old a)
      (λ _. named_dropped old w names)
      (λ open_yet.
      let kept = open_keeps old w.tcb open_yet names in
      cond_both again (acked cx x ip header no_ranges) (drawn cx x ip header) (λ (a : Arrived). Named old a)
      (λ _. named_acked old x no_ranges (record { names = kept.names; listening = kept.listening }))
      (λ _. named_drawn old x (record { names = kept.names; listening = kept.listening })))

  abbrev Renamed : Tcb → Arrived → Type 0
  Renamed old a = IsRenamed ip header old a.socket.tcb × ((reply : Reply) → a.answer ≡ Some reply → GoesBack ip header reply)

  renamed_by : (old : Tcb) (a : Arrived) → Named old a → Renamed old a
  renamed_by old a named = (inr (inr named.0), named.1)

  renamed_down : (v : TcpValue) → Renamed v.tcb (dropped (taken_down v))
  renamed_down v =
      cond_both (falls_back v.tcb) (listening v v.tcb.names.listen) (ended v) (λ (w : TcpValue). Renamed v.tcb (dropped w))
      (λ e.
      let parts = and_parts (is_answering v.tcb.state) (not (v.tcb.names.listen.port == 0)) e in (
        inr (inl (record { answering = parts.0; listened = not_true (v.tcb.names.listen.port == 0) parts.1; state = refl; names = refl })),
        λ reply none. absurd (cc),
      ))
      (λ _. renamed_by v.tcb (dropped (ended v)) (named_dropped v.tcb (ended v) (inr (record { state = refl; names = refl }))))

  stays_named : (v : TcpValue) → Named v.tcb (dropped v)
  stays_named v = named_dropped v.tcb v (inl (keeps v.tcb v.tcb refl refl))

  draws_named : (v : TcpValue) → Named v.tcb (drawn cx v ip header)
  draws_named v = named_drawn v.tcb v (keeps v.tcb v.tcb refl refl)

  named_checked : (check : Check) (v : TcpValue) (bytes : List ℕ) → Named v.tcb (checked check cx v ip header bytes)
  named_checked (Passes by) v bytes =
      cond_both (is_in_window v.tcb (free_in v) header (length bytes)) (inside cx v ip header bytes by) (passed_outside cx v ip header (length bytes) by)
      (λ (a : Arrived). Named v.tcb a)
      (λ _.
      cond_both (is_syn header.control) (drawn cx v ip header) (taken cx v ip header bytes by) (λ (a : Arrived). Named v.tcb a)
      (λ _. draws_named v)
      (λ _. named_taken v bytes by))
      (λ _.
      let again = has_length header (length bytes) in
      cond_both (is_before_window v header (length bytes)) (outside cx (acknowledged (timed v by) by cx.instant) ip header again) (outside cx v ip header false)
      (λ (a : Arrived). Named v.tcb a)
      (λ _. named_outside v.tcb (acknowledged (timed v by) by cx.instant) again (timed_names v by))
      (λ _. named_outside v.tcb v false (inl (keeps v.tcb v.tcb refl refl))))
  named_checked Old v bytes =
      let again = is_repeated v header (length bytes) in
      cond_both (is_in_window v.tcb (free_in v) header (length bytes))
      (with_content cx (with_tcb v (tsval_taken (heard v.tcb) header cx.instant)) ip header bytes)
      (outside cx v ip header again)
      (λ (a : Arrived). Named v.tcb a)
      (λ _.
      let heard_of = tsval_taken (heard v.tcb) header cx.instant in
      named_content v.tcb (with_tcb v heard_of) bytes (keeps v.tcb heard_of refl refl))
      (λ _. named_outside v.tcb v again (inl (keeps v.tcb v.tcb refl refl)))
  named_checked Drops v bytes = stays_named v
  named_checked Draws v bytes = draws_named v
  named_checked Resets v bytes = named_reset v (length bytes)

  renamed_received : (v : TcpValue) (bytes : List ℕ) → Renamed v.tcb (received cx v ip header bytes)
  renamed_received v bytes =
      cond_both (is_rst header.control) (reset_arrives cx v ip header (length bytes))
      (if challenges_first v.tcb header cx.instant then drawn cx v ip header else checked (acknowledgement_check v.tcb header.ack_number) cx v ip header bytes)
      (λ (a : Arrived). Renamed v.tcb a)
      (λ _.
      cond_both (takes_reset v.tcb header) (dropped (taken_down v)) (if challenges_reset v header (length bytes) then drawn cx v ip header else dropped v)
      (λ (a : Arrived). Renamed v.tcb a)
      (λ _. renamed_down v)
      (λ _.
      cond_both (challenges_reset v header (length bytes)) (drawn cx v ip header) (dropped v) (λ (a : Arrived). Renamed v.tcb a)
      (λ _. renamed_by v.tcb (drawn cx v ip header) (draws_named v))
      (λ _. renamed_by v.tcb (dropped v) (stays_named v))))
      (λ _.
      cond_both (challenges_first v.tcb header cx.instant) (drawn cx v ip header) (checked (acknowledgement_check v.tcb header.ack_number) cx v ip header bytes)
      (λ (a : Arrived). Renamed v.tcb a)
      (λ _. renamed_by v.tcb (drawn cx v ip header) (draws_named v))
      (λ _.
      renamed_by v.tcb (checked (acknowledgement_check v.tcb header.ack_number) cx v ip header bytes)
      (named_checked (acknowledgement_check v.tcb header.ack_number) v bytes)))

  renamed_opens : (v : TcpValue) → v.tcb.state ≡ In.Listen → Renamed v.tcb (opens cx v ip header)
  renamed_opens v at =
      let answers : TcpValue =
      with_tcb v (timeout_restarted (believed (answering v.tcb ip header (isn cx (pair_in ip header))) cx.instant) cx.instant 0) in
      cond_both (is_first_syn header) (record { socket = answers; answer = None; draws = draws_number cx }) (dropped v) (λ (a : Arrived). Renamed v.tcb a)
      (λ first. (inl (record { listening = ap is_listening at; opening = first; state = refl; names = refl }), λ reply none. absurd (cc)))
      (λ _. renamed_by v.tcb (dropped v) (named_dropped v.tcb v (inl (keeps v.tcb v.tcb refl refl))))

  syn_answer_off : (b : Tcb) → (((syn_answered b header cx.instant).names ≡ b.names) × (is_listening (syn_answered b header cx.instant).state ≡ false))
  syn_answer_off b =
      cond_both (is_some header.ack_number) (connected b header cx.instant) (crossed b header) (λ (new : Tcb). (new.names ≡ b.names) ×
      (is_listening new.state ≡ false))
      (λ _. (refl, refl))
      (λ _. (refl, refl))

  renamed_answer : (v : TcpValue) (bytes : List ℕ) → Renamed v.tcb (takes_answer cx v ip header bytes)
  renamed_answer v bytes =
      let stays = renamed_by v.tcb (dropped v) (named_dropped v.tcb v (inl (keeps v.tcb v.tcb refl refl))) in
      let answered = with_tcb v (timeout_restarted (syn_answered v.tcb header cx.instant) cx.instant (queued_in v)) in
      cond_both (is_rst header.control) (if acks_syn v.tcb.sender.una header.ack_number then dropped (ended v) else dropped v)
      (if is_some header.ack_number && not (acks_syn v.tcb.sender.una header.ack_number)
      then answered_with v (rst_reply ip header (length bytes))
      else if is_syn header.control
      then dropped answered
      else dropped v)
      (λ (a : Arrived). Renamed v.tcb a)
      (λ _.
      cond_both (acks_syn v.tcb.sender.una header.ack_number) (dropped (ended v)) (dropped v) (λ (a : Arrived). Renamed v.tcb a)
      (λ _. renamed_by v.tcb (dropped (ended v)) (named_dropped v.tcb (ended v) (inr (record { state = refl; names = refl }))))
      (λ _. stays))
      (λ _.
      cond_both (is_some header.ack_number && not (acks_syn v.tcb.sender.una header.ack_number)) (answered_with v (rst_reply ip header (length bytes)))
      (if is_syn header.control then dropped answered else dropped v) (λ (a : Arrived). Renamed v.tcb a)
      (λ _. renamed_by v.tcb (answered_with v (rst_reply ip header (length bytes))) (named_reset v (length bytes)))
      (λ _.
      cond_both (is_syn header.control) (dropped answered) (dropped v) (λ (a : Arrived). Renamed v.tcb a)
      (λ _.
      let off = syn_answer_off v.tcb in
      renamed_by v.tcb (dropped answered) (named_dropped v.tcb answered (inl (keeps_off v.tcb answered.tcb off.0 off.1))))
      (λ _. stays)))

  renamed_in : (state : State) (v : TcpValue) (bytes : List ℕ) → v.tcb.state ≡ state → Renamed v.tcb (arrives_in state cx v ip header bytes)
  renamed_in In.Closed v bytes at = renamed_by v.tcb (dropped v) (named_dropped v.tcb v (inl (keeps v.tcb v.tcb refl refl)))
  renamed_in In.Listen v bytes at = renamed_opens v at
  renamed_in In.SynSent v bytes at = renamed_answer v bytes
  renamed_in other v bytes at = renamed_received v bytes

  pub arrival_renamed : (v : TcpValue) (bytes : List ℕ) → Renamed v.tcb (arrives cx v ip header bytes)
  arrival_renamed v bytes =
      cond_both (is_void_syn header) (dropped (unoffered v)) (arrives_in v.tcb.state cx (unoffered v) ip header bytes) (λ (a : Arrived). Renamed v.tcb a)
      (λ _. renamed_by v.tcb (dropped (unoffered v)) (named_dropped v.tcb (unoffered v) (inl (keeps v.tcb v.tcb refl refl))))
      (λ _. renamed_in v.tcb.state (unoffered v) bytes refl)

pub arrival_names : (cx : ContextValue) (v : TcpValue) (ip : IpRepr) (header : TcpHeader) (bytes : List ℕ) →
    IsRenamed ip header v.tcb (arrives cx v ip header bytes).socket.tcb
arrival_names cx v ip header bytes = (arrival_renamed cx ip header v bytes).0

pub answer_back :
    (cx : ContextValue) (v : TcpValue) (ip : IpRepr) (header : TcpHeader) (bytes : List ℕ) (reply : Reply) → (arrives cx v ip header bytes).answer ≡ Some reply
    → GoesBack ip header reply
answer_back cx v ip header bytes = (arrival_renamed cx ip header v bytes).1

-- WHEN IT IS ASKED FOR A SEGMENT

header_between : (pair : AddressPair) (hop_limit len : ℕ) → (source_of (header_for pair hop_limit len) ≡ local_of pair) ×
    (destination_of (header_for pair hop_limit len) ≡ remote_of pair)
header_between (Pair.Ipv4 local remote) hop_limit len = (refl, refl)
header_between (Pair.Ipv6 local remote) hop_limit len = (refl, refl)

-- a question that goes counts, and leaves the names
asked_names : (old b : Tcb) (now : ℤ) → KeepsNames old b → KeepsNames old (asked b now)
asked_names old b now names =
    cond_both (is_over now b.timers.counts_from)
    (record b {
      sender = record b.sender { unanswered = one_more b.sender.unanswered };
      timers = record b.timers { counts_from = Some (timeout_from now b.round_trip) };
    })
    b (KeepsNames old) (λ _. record { names = names.names; listening = names.listening }) (λ _. names)

module _ (cx : ContextValue) (pair : FourTuple) where
  -- of a socket with these names: where its offer goes, and its names once it is settled
  abbrev Directed : Tcb → Offered TcpValue → Type 0
  Directed old o =
      ((x : OpenOffer) → o.socket.offered ≡ Some x → GoesBetween pair x) × (IsLeftBy old (settled true o.socket).tcb × IsLeftBy old o.socket.tcb)

  between : (x : OpenOffer) (hop_limit len : ℕ) → x.header ≡ header_for pair.addresses hop_limit len → x.segment.src_port ≡ pair.local_port →
      x.segment.dst_port ≡ pair.remote_port → GoesBetween pair x
  between x hop_limit len header source destination =
      let ends = header_between pair.addresses hop_limit len in
      record {
        source = ap source_of header ∙ ends.0;
        destination = ap destination_of header ∙ ends.1;
        source_port = source;
        destination_port = destination;
      }

  one_offer : (mine : OpenOffer) → GoesBetween pair mine → (x : OpenOffer) → Some mine ≡ Some x → GoesBetween pair x
  one_offer mine goes x e = let same : mine ≡ x = cc in subst (λ (x : OpenOffer). GoesBetween pair x) same goes

  abbrev plain : TcpValue → Tcb → TcpValue
  plain v b = record v { tcb = b; offered = None }

  module _ (v : TcpValue) (old b : Tcb) (names : KeepsNames old b) where
    stays : IsLeftBy old b
    stays = inr (inl names)

    directed_silent : (changed : Bool) → Directed old (silent changed (plain v b))
    directed_silent changed = (λ x e. absurd (cc), (stays, stays))

    directed_segment :
        (kind : OfferKind) (header : TcpHeader) (offset len : ℕ) → header.src_port ≡ pair.local_port → header.dst_port ≡ pair.remote_port
        → IsLeftBy old (settled true (offer_segment kind cx (plain v b) pair header offset len).socket).tcb
        → Directed old (offer_segment kind cx (plain v b) pair header offset len)
    directed_segment kind header offset len source destination after =
        let mine : OpenOffer = record {
          kind = kind;
          instant = cx.instant;
          header = header_for pair.addresses (hop_limit_of b.settings.hop_limit) (header_len header + len);
          segment = header;
          offset = offset;
          len = len;
        } in
        (one_offer mine (between mine (hop_limit_of b.settings.hop_limit) (header_len header + len) refl source destination), (after, stays))

    abbrev offer_with_header : OfferKind → TcpHeader → OpenOffer
    offer_with_header kind header = record {
      kind = kind;
      instant = cx.instant;
      header = header_for pair.addresses (hop_limit_of b.settings.hop_limit) (header_len header + 1);
      segment = header;
      offset = 0;
      len = 1;
    }

    directed_window_limited : Directed old (offer_window_limited cx (plain v b) pair)
    directed_window_limited =
        let probe = segment b pair cx.instant (window_of (plain v b)) (control_for probe_choice (queued_in v)) (number_at b 0) in
        let payload = payload_choice b pair.addresses cx.ip_mtu v.queued in
        cond_both (b.peer.window == 0) (offer_choice Kind.Probe cx (plain v b) pair probe_choice) (offer_choice Kind.Payload cx (plain v b) pair payload)
        (λ (o : Offered TcpValue). Directed old o)
        (λ _.
        directed_segment Kind.Probe probe 0 1 refl refl
        (inr (inl (asked_names old
        (probed (recorded b (offer_with_header Kind.Probe probe) (room_of v.received)) (end_of b (offer_with_header Kind.Probe probe)) cx.instant) cx.instant
        (record { names = names.names; listening = names.listening })))))
        (λ _.
        directed_segment Kind.Payload (segment b pair cx.instant (window_of (plain v b)) (control_for payload (queued_in v)) (number_at b payload.offset)) payload.offset
        payload.len refl refl
        (inr (inl (record { names = names.names; listening = names.listening }))))

    directed_last : Directed old (last_rules cx (plain v b) pair)
    directed_last =
        let ack = ack_segment b pair cx.instant (window_of (plain v b)) in
        let alive = keep_alive_segment b pair cx.instant (window_of (plain v b)) in
        cond_both (is_due cx.instant (probe_deadline b (queued_in v))) (offer_window_limited cx (plain v b) pair)
        (if is_due cx.instant (ack_deadline b) then offer_ack Kind.Ack cx (plain v b) pair
        else if updates_window b (room_of v.received) (free_in v) then offer_ack Kind.WindowUpdate cx (plain v b) pair
        else if is_due cx.instant (keep_alive_deadline b) then offer_keep_alive cx (plain v b) pair
        else silent false (plain v b))
        (λ (o : Offered TcpValue). Directed old o)
        (λ _. directed_window_limited)
        (λ _.
        cond_both (is_due cx.instant (ack_deadline b)) (offer_ack Kind.Ack cx (plain v b) pair)
        (if updates_window b (room_of v.received) (free_in v) then offer_ack Kind.WindowUpdate cx (plain v b) pair
        else if is_due cx.instant (keep_alive_deadline b) then offer_keep_alive cx (plain v b) pair
        else silent false (plain v b))
        (λ (o : Offered TcpValue). Directed old o)
        (λ _. directed_segment Kind.Ack ack 0 0 refl refl (inr (inl (record { names = names.names; listening = names.listening }))))
        (λ _.
        cond_both (updates_window b (room_of v.received) (free_in v)) (offer_ack Kind.WindowUpdate cx (plain v b) pair)
        (if is_due cx.instant (keep_alive_deadline b) then offer_keep_alive cx (plain v b) pair else silent false (plain v b))
        (λ (o : Offered TcpValue). Directed old o)
        (λ _. directed_segment Kind.WindowUpdate ack 0 0 refl refl (inr (inl (record { names = names.names; listening = names.listening }))))
        (λ _.
        cond_both (is_due cx.instant (keep_alive_deadline b)) (offer_keep_alive cx (plain v b) pair) (silent false (plain v b))
        (λ (o : Offered TcpValue). Directed old o)
        (λ _.
        directed_segment Kind.KeepAlive alive 0 1 refl refl
        (inr (inl (asked_names old (recorded b (offer_with_header Kind.KeepAlive alive) (room_of v.received)) cx.instant
        (record { names = names.names; listening = names.listening })))))
        (λ _. directed_silent false))))

  directed_first : (v : TcpValue) (old b : Tcb) → KeepsNames old b → Directed old (first_rules cx (plain v b) pair)
  directed_first v old b names =
      let syn = syn_segment b pair cx.instant cx.ip_mtu (room_of v.received) (free_in v) in
      let again = resend_choice b pair.addresses cx.ip_mtu v.queued in
      let payload = payload_choice b pair.addresses cx.ip_mtu v.queued in
      let window = window_of (plain v b) in
      let probing = probe_started cx.instant (queued_in v) b in
      cond_both (owes_syn b) (offer_syn cx (plain v b) pair)
      (if resends b pair.addresses cx.ip_mtu v.queued then offer_choice Kind.FastRetransmission cx (plain v b) pair again
      else if has_payload b pair.addresses cx.ip_mtu v.queued then offer_choice Kind.Payload cx (plain v b) pair payload
      else last_rules cx (with_tcb (plain v b) probing) pair)
      (λ (o : Offered TcpValue). Directed old o)
      (λ _. directed_segment v old b names Kind.Syn syn 0 0 refl refl (inr (inl (record { names = names.names; listening = names.listening }))))
      (λ _.
      cond_both (resends b pair.addresses cx.ip_mtu v.queued) (offer_choice Kind.FastRetransmission cx (plain v b) pair again)
      (if has_payload b pair.addresses cx.ip_mtu v.queued then offer_choice Kind.Payload cx (plain v b) pair payload
      else last_rules cx (with_tcb (plain v b) probing) pair)
      (λ (o : Offered TcpValue). Directed old o)
      (λ _.
      directed_segment v old b names Kind.FastRetransmission (segment b pair cx.instant window (control_for again (queued_in v)) (number_at b again.offset))
      again.offset again.len refl refl
      (inr (inl (record { names = names.names; listening = names.listening }))))
      (λ _.
      cond_both (has_payload b pair.addresses cx.ip_mtu v.queued) (offer_choice Kind.Payload cx (plain v b) pair payload)
      (last_rules cx (with_tcb (plain v b) probing) pair)
      (λ (o : Offered TcpValue). Directed old o)
      (λ _.
      directed_segment v old b names Kind.Payload (segment b pair cx.instant window (control_for payload (queued_in v)) (number_at b payload.offset)) payload.offset
      payload.len refl refl
      (inr (inl (record { names = names.names; listening = names.listening }))))
      (λ _. directed_last v old probing (record { names = names.names; listening = names.listening }))))

  -- it gives up
  directed_end : (v : TcpValue) → Directed v.tcb (silent true (given_up (unoffered v)))
  directed_end v =
      cond_both (falls_back v.tcb) (listening (unoffered v) v.tcb.names.listen) (with_tcb (unoffered v) (timed_out v.tcb))
      (λ (w : TcpValue). Directed v.tcb (silent true w))
      (λ e.
      let parts = and_parts (is_answering v.tcb.state) (not (v.tcb.names.listen.port == 0)) e in
      let back : FallsBack v.tcb (listening (unoffered v) v.tcb.names.listen).tcb =
      record { answering = parts.0; listened = not_true (v.tcb.names.listen.port == 0) parts.1; state = refl; names = refl } in
      (λ x none. absurd (cc), (inl back, inl back)))
      (λ _. directed_silent v v.tcb (timed_out v.tcb) (keeps_off v.tcb (timed_out v.tcb) refl refl) true)

  directed_between : (v : TcpValue) → Directed v.tcb (offer_between cx (unoffered v) pair)
  directed_between v =
      let same = keeps v.tcb v.tcb refl refl in
      let started = timeout_started cx.instant (queued_in v) v.tcb in
      cond_both (is_due cx.instant (time_wait_end v.tcb)) (silent true (ended (unoffered v)))
      (if is_due cx.instant (timeout_end v.tcb (queued_in v)) then silent true (with_tcb (unoffered v) (timed_out v.tcb))
      else if is_closed v.tcb.state then (if v.tcb.sender.reset_due then offer_reset cx (unoffered v) pair else silent false (unoffered v))
      else if gives_up cx.instant v.tcb (queued_in v) then silent true (given_up (unoffered v))
      else first_rules cx (with_tcb (unoffered v) (backed_off cx.instant started)) pair)
      (λ (o : Offered TcpValue). Directed v.tcb o)
      (λ _.
      let forgets : Forgets (ended v).tcb = record { state = refl; names = refl } in
      (λ x e. absurd (cc), (inr (inr forgets), inr (inr forgets))))
      (λ _.
      cond_both (is_due cx.instant (timeout_end v.tcb (queued_in v))) (silent true (with_tcb (unoffered v) (timed_out v.tcb)))
      (if is_closed v.tcb.state then (if v.tcb.sender.reset_due then offer_reset cx (unoffered v) pair else silent false (unoffered v))
      else if gives_up cx.instant v.tcb (queued_in v) then silent true (given_up (unoffered v))
      else first_rules cx (with_tcb (unoffered v) (backed_off cx.instant started)) pair)
      (λ (o : Offered TcpValue). Directed v.tcb o)
      (λ _. directed_silent v v.tcb (timed_out v.tcb) (keeps_off v.tcb (timed_out v.tcb) refl refl) true)
      (λ _.
      cond_both (is_closed v.tcb.state) (if v.tcb.sender.reset_due then offer_reset cx (unoffered v) pair else silent false (unoffered v))
      (if gives_up cx.instant v.tcb (queued_in v) then silent true (given_up (unoffered v))
      else first_rules cx (with_tcb (unoffered v) (backed_off cx.instant started)) pair)
      (λ (o : Offered TcpValue). Directed v.tcb o)
      (λ _.
      cond_both v.tcb.sender.reset_due (offer_reset cx (unoffered v) pair) (silent false (unoffered v)) (λ (o : Offered TcpValue). Directed v.tcb o)
      (λ _. directed_segment v v.tcb v.tcb same Kind.Reset (reset_segment v.tcb pair cx.instant (window_of v)) 0 0 refl refl
      (inr (inr (record { state = refl; names = refl }))))
      (λ _. directed_silent v v.tcb v.tcb same false))
      (λ _.
      cond_both (gives_up cx.instant v.tcb (queued_in v)) (silent true (given_up (unoffered v)))
      (first_rules cx (with_tcb (unoffered v) (backed_off cx.instant started)) pair)
      (λ (o : Offered TcpValue). Directed v.tcb o)
      (λ _. directed_end v)
      (λ _.
      cond_both (is_due cx.instant v.tcb.timers.retransmit_at) (backed_off_now started) (loss_probed_by cx.instant started)
      (λ (b : Tcb). Directed v.tcb (first_rules cx (with_tcb (unoffered v) b) pair))
      (λ _. directed_first v v.tcb (backed_off_now started) (keeps v.tcb (backed_off_now started) refl refl))
      (λ _.
      cond_both (is_due cx.instant (loss_probe_deadline started)) (loss_probed started) started
      (λ (b : Tcb). Directed v.tcb (first_rules cx (with_tcb (unoffered v) b) pair))
      (λ _. directed_first v v.tcb (loss_probed started) (keeps v.tcb (loss_probed started) refl refl))
      (λ _. directed_first v v.tcb started (keeps v.tcb started refl refl)))))))

-- a socket without a remote endpoint offers nothing
abbrev Goes : TcpValue → Offered TcpValue → Type 0
Goes v o =
    ((x : OpenOffer) → o.socket.offered ≡ Some x → (pair : FourTuple) × (v.tcb.names.pair ≡ Some pair) × GoesBetween pair x)
    × (IsLeftBy v.tcb (settled true o.socket).tcb × IsLeftBy v.tcb o.socket.tcb)

goes_with : (cx : ContextValue) (v : TcpValue) (names : Option FourTuple) → v.tcb.names.pair ≡ names → Goes v (offer_with names cx (unoffered v))
goes_with cx v None named =
    let same : IsLeftBy v.tcb v.tcb = inr (inl (keeps v.tcb v.tcb refl refl)) in
    (λ x e. absurd (cc), (same, same))
goes_with cx v (Some pair) named = let d = directed_between cx pair v in (λ x e. (pair, named, d.0 x e), d.1)

pub offer_directed : (cx : ContextValue) (v : TcpValue) → Goes v (offer_of cx v)
offer_directed cx v = goes_with cx v v.tcb.names.pair refl

pub offer_between_ends :
    (cx : ContextValue) (v : TcpValue) (o : OpenOffer) → (offer_of cx v).socket.offered ≡ Some o
    → (pair : FourTuple) × (v.tcb.names.pair ≡ Some pair) × GoesBetween pair o
offer_between_ends cx v = (offer_directed cx v).0

pub sent_names : (cx : ContextValue) (v : TcpValue) → IsLeftBy v.tcb (settled true (offer_of cx v).socket).tcb
sent_names cx v = (offer_directed cx v).1.0

pub withheld_names : (cx : ContextValue) (v : TcpValue) → IsLeftBy v.tcb (settled false (offer_of cx v).socket).tcb
withheld_names cx v = (offer_directed cx v).1.1
