-- Each offer, with its settling, keeps the invariant.
use Rattle.std.proofs.Common.{◌≡◌, ◌⊎◌, inl, inr, ℕ}
use Rattle.std.proofs.Common.{◌+◌, ◌-◌, ◌/◌, ◌%◌, ◌^◌, ◌<◌, ◌≤◌, nat_lt, nat_le, min, max, not, ◌==◌, ◌&&◌, ◌||◌, ℤ, Bool, true}
use Rattle.std.proofs.Common.{false, if◌then◌else◌, [], Option, Some, None, length, take, drop, refl, sym, ap, ◌∙◌, subst, arith}
use Rattle.std.proofs.lemmas.Bool.{and_parts, cond_both, eqb-true}
use Rattle.std.proofs.lemmas.Bool.Decides.{nat_tests}
use Rattle.ip_wire.specs.Control.{control_len}
use Rattle.ip_wire.specs.Seq.{distance_of}
use Rattle.ip_wire.specs.SeqNumber.{SeqNumber}
use Rattle.ip_wire.specs.Tcp.{header_len}
use Rattle.ip_wire.specs.TcpControl.TheVariants as Bits
use Rattle.ip_wire.specs.TcpHeader.{TcpHeader}
use Rattle.net_base.specs.Ring.{Ring}
use Rattle.socket_context.specs.Context.{ContextValue}
use Rattle.socket_context.specs.Offers.{Offered}
use Rattle.tcp_theory.specs.Segment.{Segment, fin_if}
use Rattle.tcp_theory.specs.Side.{Side, one_if}
use Rattle.tcp_block.specs.declared.tcb.Tcb.{Tcb}
use Rattle.tcp_block.specs.declared.tcb.CongestionControl.{CongestionControl}
use Rattle.tcp_block.specs.declared.tcb.CongestionControl.TheVariants as Congestion
use Rattle.tcp_block.specs.FourTuple.{FourTuple}
use Rattle.tcp_block.specs.OfferKind.{OfferKind}
use Rattle.tcp_block.specs.OfferKind.TheVariants as Kind
use Rattle.tcp_block.specs.OpenOffer.{OpenOffer}
use Rattle.tcp_block.specs.State.{State}
use Rattle.tcp_block.specs.State.TheVariants as In
use Rattle.tcp_block.specs.TcbRules.{unacked, is_worth_telling}
use Rattle.tcp_block.specs.Calls.{listening}
use Rattle.tcp_block.specs.Checks.{falls_back}
use Rattle.tcp_block.specs.Endpoints.{header_for}
use Rattle.tcp_block.specs.Moments.{is_due, is_over, timeout_from}
use Rattle.tcp_block.specs.Offers.{offer_choice, offer_ack, offer_syn, offer_reset, offer_keep_alive, offer_window_limited, silent, last_rules, first_rules}
use Rattle.tcp_block.specs.Offers.{backed_off, offer_between, offer_with, offer_of, number_at}
use Rattle.tcp_block.specs.Probing.{probe_started, probe_deadline, is_probing, is_window_small}
use Rattle.tcp_block.specs.Retries.{asked, one_more, gives_up, given_up}
use Rattle.tcp_block.specs.Rules.{Choice, time_wait_end, owes_syn, resends, ack_deadline, has_payload, payload_choice, resend_choice, probe_choice, control_for}
use Rattle.tcp_block.specs.Rules.{updates_window, keep_alive_deadline, backed_off_now, fin_is_sent, next_offset, size_limit, window_limit, congestion_limit}
use Rattle.tcp_block.specs.LossRecovery.{fills_hole, is_sent_early, hole_len, loss_probe_deadline, loss_probed, loss_probed_by}
use Rattle.tcp_block.specs.Rules.{is_sendable, congestion_room, sent_count}
use Rattle.tcp_block.proofs.Holes.{again_within}
use Rattle.tcp_block.specs.Segments.{segment, reset_segment, keep_alive_segment, hop_limit_of}
use Rattle.tcp_block.specs.Settled.{settled, recorded, probed, end_of}
use Rattle.tcp_block.specs.States.{is_closed, is_answering, owes_fin, sends_syn, may_send_data, accepts_data, keeps_alive}
use Rattle.tcp_block.specs.Timeout.{timeout_end, timeout_started, timed_out}
use Rattle.tcp_block.specs.Value.{TcpValue, with_tcb, unoffered, ended, queued_in, free_in, room_of, window_of}
use Rattle.tcp_refinement.specs.Tie.{Core, Past, unsent, FitsIn, IsAsking, Keeps, core_of, segment_of, control_of, ack_of}
use Rattle.tcp_refinement.specs.History.{with_sent, with_offer}
use Rattle.tcp_refinement.proofs.Tied.{Tied, is_connected, keeps_by, takes_in}
use Rattle.tcp_refinement.proofs.CallLaws.{to_closed}
use Rattle.tcp_refinement.proofs.OfferMoves.{with_snd_max, raised, raised_asking, una_small, syn_of, sends_in, sends_data, sends_keep_alive, sends_syn_first}
use Rattle.tcp_refinement.proofs.OfferMoves.{sends_syn_ack}
use Rattle.tcp_refinement.proofs.OpeningLaws.{tied_back}
use Rattle.tcp_refinement.proofs.PayloadMoves.{sends_ack, sends_reset}

-- an offer that is settled, as sent or not, leads to a side
abbrev pub LedOffer : Past → Side → Offered TcpValue → Type 0
LedOffer p t o = Tied (core_of (settled true o.socket)) (with_offer p o.socket.offered o.socket.queued.queue) t × Tied (core_of o.socket) p t

-- the socket with this block, and nothing offered
abbrev pub plain : TcpValue → Tcb → TcpValue
plain v b = record v { tcb = b; offered = None }

-- which states offer: those with a remote endpoint
offering : (state : State) (c : Core) (s : Side) (pair : FourTuple) → c.pair ≡ Some pair → is_closed state ≡ false → FitsIn state c (unsent s) →
    (state ≡ In.SynSent) ⊎ (is_connected state ≡ true)
offering In.Closed c s pair e open_yet fits = absurd (cc)
offering In.Listen c s pair e open_yet fits = absurd (let clash : None ≡ Some pair = sym fits.unnamed ∙ e in cc)
offering In.SynSent c s pair e open_yet fits = inl refl
offering other c s pair e open_yet fits = inr refl

-- PARTS OF THE SEND QUEUE

control_part : (fin last : Bool) → control_of (if fin then Bits.Fin else if last then Bits.Psh else Bits.None) ≡ fin_if fin
control_part true last = refl
control_part false true = refl
control_part false false = refl

-- within the send queue, and with a FIN at its end alone
record IsPart (b : Tcb) (queued : ℕ) (c : Choice) : Type 0 where
  sends : may_send_data b.state ≡ true
  within : c.offset ≤ queued
  fits : c.offset + c.len ≤ queued
  last : c.fin ≡ true → (owes_fin b.state ≡ true) × (c.offset + c.len ≡ queued)

part_sent :
    (cx : ContextValue) (v : TcpValue) (b : Tcb) (pair : FourTuple) (c : Choice) (p : Past) (t : Side) → IsPart b (queued_in v) c →
    Tied (core_of (plain v b)) p t
    → Tied (core_of (plain v b))
    (with_sent p (segment_of (segment b pair cx.instant (window_of (plain v b)) (control_for c (queued_in v)) (number_at b c.offset))
    (take c.len (drop c.offset v.queued.queue)))) t
part_sent cx v b pair c p t part r =
    subst (λ (x : Segment). Tied (core_of (plain v b)) (with_sent p x) t)
    (ap (λ control. record {
      control = control;
      seq = (b.sender.una.0 + (one_if b.sender.syn_unacked + c.offset)) % 2 ^ 32;
      ack = Some b.receiver.next.0;
      bytes =
          take c.len (drop c.offset v.queued.queue);
    })
    (sym (control_part c.fin (not (c.len == 0) && (c.offset + c.len == queued_in v)))))
    (sends_data (core_of (plain v b)) p t c.offset c.len c.fin part.sends part.within part.last r)

-- HOW FAR IT REACHES

number_back : (una k : ℕ) → una < 2 ^ 32 → ((una + k) % 2 ^ 32 + (2 ^ 32 - una)) % 2 ^ 32 ≤ k
number_back una k small = omega arith

control_size : (fin last : Bool) → control_len (if fin then Bits.Fin else if last then Bits.Psh else Bits.None) ≡ one_if fin
control_size true last = refl
control_size false true = refl
control_size false false = refl

fin_owed : (fin owes : Bool) → (fin ≡ true → owes ≡ true) → one_if fin ≤ one_if owes
fin_owed true owes last = let one = ap one_if (last refl) in omega arith
fin_owed false owes last = omega arith

part_end :
    (b : Tcb) (c : Choice) (queued : ℕ) → b.sender.una.0 < 2 ^ 32 → IsPart b queued c
    → distance_of b.sender.una (number_at b c.offset) + (c.len + control_len (control_for c queued)) ≤ one_if b.sender.syn_unacked + queued +
    one_if (owes_fin b.state)
part_end b c queued small part =
    let back = number_back b.sender.una.0 (one_if b.sender.syn_unacked + c.offset) small in
    let size = control_size c.fin (not (c.len == 0) && (c.offset + c.len == queued)) in
    let owed = fin_owed c.fin (owes_fin b.state) (λ e. (part.last e).0) in
    let fits = part.fits in
    omega (arith, back, size, owed, fits)

-- the part goes, and SND.NXT and the highest position move past it
part_goes :
    (cx : ContextValue) (v : TcpValue) (b : Tcb) (pair : FourTuple) (c : Choice) (p : Past) (t : Side) → IsPart b (queued_in v) c →
    Tied (core_of (plain v b)) p t
    → Tied (with_snd_max (core_of (plain v b)) (distance_of b.sender.una (number_at b c.offset) + (c.len + control_len (control_for c (queued_in v)))))
    (with_sent p (segment_of (segment b pair cx.instant (window_of (plain v b)) (control_for c (queued_in v)) (number_at b c.offset))
    (take c.len (drop c.offset v.queued.queue)))) t
part_goes cx v b pair c p t part r =
    let connected = (sends_in b.state part.sends).connected in
    raised (core_of (plain v b)) _ t (distance_of b.sender.una (number_at b c.offset) + (c.len + control_len (control_for c (queued_in v)))) connected
    (part_end b c (queued_in v) (una_small (core_of (plain v b)) p t connected r) part)
    (part_sent cx v b pair c p t part r)

test_below : (a b : ℕ) → nat_lt a b ≡ true → a < b
test_below a b e = grind (arith, nat_tests)

fin_offset : (b : Tcb) (queued end : ℕ) → fin_is_sent b queued end ≡ true → (owes_fin b.state ≡ true) × (end ≡ queued)
fin_offset b queued end e = let both = and_parts (owes_fin b.state) (end == queued) e in (both.0, eqb-true end queued both.1)

-- what may go is no longer than what is left
limited_by : (control : CongestionControl) (cwnd window size : ℕ) → congestion_limit control cwnd (min window size) ≤ size
limited_by Congestion.None cwnd window size = omega arith
limited_by other cwnd window size = omega arith

limited : (b : Tcb) (size : ℕ) → window_limit b size ≤ size
limited b size = limited_by b.settings.congestion_control (congestion_room b) (b.peer.window - b.sender.flight_size) size

left_over : (offset len queue limit : ℕ) → offset ≤ queue → len ≤ min limit (queue - offset) → offset + len ≤ queue
left_over offset len queue limit inside low = omega arith

-- what goes from SND.NXT, which lies in the send queue
next_part :
    (b : Tcb) (pair : FourTuple) (mtu : ℕ) (queued : Ring ℕ) → may_send_data b.state ≡ true → next_offset b ≤ length queued.queue
    → IsPart b (length queued.queue) (payload_choice b pair.addresses mtu queued)
next_part b pair mtu queued sends inside = record {
  sends = sends;
  within = inside;
  fits = left_over (next_offset b) (payload_choice b pair.addresses mtu queued).len (length queued.queue) (size_limit b pair.addresses mtu)
      inside (limited b (min (size_limit b pair.addresses mtu) (length queued.queue - next_offset b)));
  last = fin_offset b (length queued.queue) (next_offset b + (payload_choice b pair.addresses mtu queued).len);
}

payload_part : (b : Tcb) (pair : FourTuple) (mtu : ℕ) (queued : Ring ℕ) → has_payload b pair.addresses mtu queued ≡ true →
    IsPart b (length queued.queue) (payload_choice b pair.addresses mtu queued)
payload_part b pair mtu queued e =
    let sendable = is_sendable b (length queued.queue) (size_limit b pair.addresses mtu) (payload_choice b pair.addresses mtu queued) in
    let tests =
    and_parts (may_send_data b.state)
    (nat_le (one_if b.sender.syn_unacked) b.sender.flight_size && (nat_lt b.sender.flight_size (unacked b (length queued.queue)) && sendable))
    e in
    let more = and_parts (nat_le (one_if b.sender.syn_unacked) b.sender.flight_size)
    (nat_lt b.sender.flight_size (unacked b (length queued.queue)) && sendable) tests.1 in
    let below = and_parts (nat_lt b.sender.flight_size (unacked b (length queued.queue))) sendable more.1 in
    let flight = test_below b.sender.flight_size (unacked b (length queued.queue)) below.0 in
    let one = small (owes_fin b.state) in
    next_part b pair mtu queued tests.0 (within b.sender.flight_size (one_if b.sender.syn_unacked) (length queued.queue) (one_if (owes_fin b.state)) flight one)
  where
    small : (owes : Bool) → one_if owes ≤ 1
    small true = omega arith
    small false = omega arith

    within : (flight syn queue owes : ℕ) → flight < syn + queue + owes → owes ≤ 1 → flight - syn ≤ queue
    within flight syn queue owes e one = omega arith

resend_part : (b : Tcb) (pair : FourTuple) (mtu : ℕ) (queued : Ring ℕ) → resends b pair.addresses mtu queued ≡ true →
    IsPart b (length queued.queue) (resend_choice b pair.addresses mtu queued)
resend_part b pair mtu queued e =
    let offset = (resend_choice b pair.addresses mtu queued).offset in
    let len = (resend_choice b pair.addresses mtu queued).len in
    let inside : offset ≤ length queued.queue = again_within b (size_limit b pair.addresses mtu) (sent_count b) (length queued.queue) in
    record {
      sends =
          (and_parts (may_send_data b.state)
          (b.sender.resend || (b.loss.probes || (fills_hole b || (is_sent_early b && not (has_payload b pair.addresses mtu queued))))) e).0;
      within = inside;
      fits = held_in offset (hole_len b offset (sent_count b)) (length queued.queue) (size_limit b pair.addresses mtu) inside;
      last = λ fin.
          fin_offset b (length queued.queue) (offset + len)
          (and_parts (fin_is_sent b (length queued.queue) (offset + len)) (nat_lt (offset + len) (sent_count b)) fin).0;
    }
  where
    held_in : (offset hole queue limit : ℕ) → offset ≤ queue → offset + min hole (min limit (queue - offset)) ≤ queue
    held_in offset hole queue limit inside = omega arith

probes : (b : Tcb) (queued : ℕ) (now : ℤ) → is_due now (probe_deadline b queued) ≡ true → is_probing b queued ≡ true
probes b queued now e = by (is_probing b queued) refl e where
  by : (test : Bool) → is_probing b queued ≡ test → is_due now (if test then b.timers.probe_at else None) ≡ true → is_probing b queued ≡ true
  by true is_so e = is_so
  by false is_so e = absurd (cc)

-- what the window holds back: there is some, and nothing is in flight
record IsWindowLimited (b : Tcb) (queued : ℕ) : Type 0 where
  sends : may_send_data b.state ≡ true
  some : 0 + 1 ≤ queued
  idle : b.sender.flight_size ≡ 0

window_limited : (b : Tcb) (queued : ℕ) (now : ℤ) → is_due now (probe_deadline b queued) ≡ true → IsWindowLimited b queued
window_limited b queued now e =
    let tests = and_parts (may_send_data b.state) (is_window_small b queued && (b.sender.flight_size == 0)) (probes b queued now e) in
    let more = and_parts (is_window_small b queued) (b.sender.flight_size == 0) tests.1 in
    record {
      sends = tests.0;
      some = some (window_limit b queued) queued (max 1 (b.peer.largest_window / 2))
          (test_below (window_limit b queued) (min queued (max 1 (b.peer.largest_window / 2))) more.0);
      idle = eqb-true b.sender.flight_size 0 more.1;
    }
  where
    some : (limit queued half : ℕ) → limit < min queued half → 0 + 1 ≤ queued
    some limit queued half e = omega arith

probe_part : (b : Tcb) (queued : ℕ) → IsWindowLimited b queued → IsPart b queued probe_choice
probe_part b queued k = record { sends = k.sends; within = omega arith; fits = k.some; last = λ (fin : false ≡ true). absurd (cc) }

held_part : (b : Tcb) (pair : FourTuple) (mtu : ℕ) (queued : Ring ℕ) → IsWindowLimited b (length queued.queue) →
    IsPart b (length queued.queue) (payload_choice b pair.addresses mtu queued)
held_part b pair mtu queued k =
    next_part b pair mtu queued k.sends (from_start b.sender.flight_size (one_if b.sender.syn_unacked) (length queued.queue) k.idle) where
      from_start : (flight syn queue : ℕ) → flight ≡ 0 → flight - syn ≤ queue
      from_start flight syn queue e = omega arith

-- WITHOUT A PAYLOAD

abbrev open_of : OfferKind → ContextValue → TcpValue → FourTuple → TcpHeader → ℕ → ℕ → OpenOffer
open_of kind cx v pair header offset len = record {
  kind = kind;
  instant = cx.instant;
  header = header_for pair.addresses (hop_limit_of v.tcb.settings.hop_limit) (header_len header + len);
  segment = header;
  offset = offset;
  len = len;
}

-- a question that goes counts, and changes nothing that the tie reads
asked_tied : (v : TcpValue) (b : Tcb) (now : ℤ) (p : Past) (t : Side) → Tied (core_of (with_tcb v b)) p t → Tied (core_of (with_tcb v (asked b now))) p t
asked_tied v b now p t r =
    cond_both (is_over now b.timers.counts_from)
    (record b {
      sender = record b.sender { unanswered = one_more b.sender.unanswered };
      timers = record b.timers { counts_from = Some (timeout_from now b.round_trip) };
    })
    b (λ (b : Tcb). Tied (core_of (with_tcb v b)) p t) (λ _. r) (λ _. r)

heard_of : (test : Bool) (next : SeqNumber) → test ≡ true → ack_of (if test then Some next else None) ≡ Some next.0
heard_of test next e = ap (λ (t : Bool). ack_of (if t then Some next else None)) e

unheard_of : (test : Bool) (next : SeqNumber) → test ≡ false → ack_of (if test then Some next else None) ≡ None
unheard_of test next e = ap (λ (t : Bool). ack_of (if t then Some next else None)) e

takes_connected : (state : State) → accepts_data state ≡ true → is_connected state ≡ true
takes_connected state e = (takes_in state e).connected

module _ (cx : ContextValue) (v : TcpValue) (pair : FourTuple) (p : Past) (t : Side) where
  led_ack : (b : Tcb) → is_connected b.state ≡ true → Tied (core_of (plain v b)) p t → LedOffer p t (offer_ack Kind.Ack cx (plain v b) pair) ×
      LedOffer p t (offer_ack Kind.WindowUpdate cx (plain v b) pair)
  led_ack b connected r =
      let gone = sends_ack (core_of (plain v b)) p t b.sender.snd_max connected r in
      ((gone, r), (gone, r))

  led_due_ack : (b : Tcb) → b.names.pair ≡ Some pair → is_closed b.state ≡ false → is_due cx.instant (ack_deadline b) ≡ true → Tied (core_of (plain v b)) p t →
      LedOffer p t (offer_ack Kind.Ack cx (plain v b) pair)
  led_due_ack b named open_yet due r = by (offering b.state (core_of (plain v b)) r.side pair named open_yet r.fits) where
    silent_yet : (test : Bool) → is_due cx.instant (if test then b.timers.ack_at else None) ≡ true → test ≡ false → ⊥
    silent_yet true e f = absurd (cc)
    silent_yet false e f = absurd (cc)

    by : (b.state ≡ In.SynSent) ⊎ (is_connected b.state ≡ true) → LedOffer p t (offer_ack Kind.Ack cx (plain v b) pair)
    by (inl asking) =
        let k : IsAsking (core_of (plain v b)) (unsent r.side) = subst (λ (state : State). FitsIn state (core_of (plain v b)) (unsent r.side)) asking r.fits in
        absurd (silent_yet b.receiver.took_syn due k.alone)
    by (inr connected) = (led_ack b connected r).0

  led_syn : (b : Tcb) → b.names.pair ≡ Some pair → is_closed b.state ≡ false → owes_syn b ≡ true → Tied (core_of (plain v b)) p t →
      LedOffer p t (offer_syn cx (plain v b) pair)
  led_syn b named open_yet owes r = (by (offering b.state (core_of (plain v b)) r.side pair named open_yet r.fits), r) where
    unacked_syn : b.sender.syn_unacked ≡ true
    unacked_syn =
        let tests = and_parts (sends_syn b.state && not (is_answering b.state && b.settings.synack_paused))
        (b.sender.syn_unacked && (b.sender.flight_size == 0)) owes in
        (and_parts b.sender.syn_unacked (b.sender.flight_size == 0) tests.1).0

    -- one position is sent
    size : ℕ
    size = distance_of b.sender.una b.sender.una + (0 + control_len Bits.Syn)

    one_position : (una : ℕ) → una < 2 ^ 32 → (una + (2 ^ 32 - una)) % 2 ^ 32 + (0 + 1) ≤ 1
    one_position una small = omega arith

    by :
        (b.state ≡ In.SynSent) ⊎ (is_connected b.state ≡ true)
        → Tied (with_snd_max (core_of (plain v b)) size)
        (with_sent p (syn_of (core_of (plain v b)) (ack_of (if b.receiver.took_syn then Some b.receiver.next else None)))) t
    by (inl asking) =
        let k : IsAsking (core_of (plain v b)) (unsent r.side) = subst (λ (state : State). FitsIn state (core_of (plain v b)) (unsent r.side)) asking r.fits in
        let una = k.una in
        let small : b.sender.una.0 < 2 ^ 32 = omega arith in
        raised_asking (core_of (plain v b)) _ t size asking (one_position b.sender.una.0 small)
        (sends_syn_first (core_of (plain v b)) p t (ack_of (if b.receiver.took_syn then Some b.receiver.next else None))
        (unheard_of b.receiver.took_syn b.receiver.next) r
        k)
    by (inr connected) =
        let one = one_position b.sender.una.0 (una_small (core_of (plain v b)) p t connected r) in
        let unacked = ap one_if unacked_syn in
        raised (core_of (plain v b)) _ t size connected (omega (arith, one, unacked))
        (sends_syn_ack (core_of (plain v b)) p t (ack_of (if b.receiver.took_syn then Some b.receiver.next else None)) connected unacked_syn
        (heard_of b.receiver.took_syn b.receiver.next) r)

  led_keep_alive : (b : Tcb) → is_due cx.instant (keep_alive_deadline b) ≡ true → Tied (core_of (plain v b)) p t →
      LedOffer p t (offer_keep_alive cx (plain v b) pair)
  led_keep_alive b due r = (
    asked_tied (plain v b) (recorded b (open_of Kind.KeepAlive cx (plain v b) pair (keep_alive_segment b pair cx.instant (window_of (plain v b))) 0 1)
        (room_of v.received)) cx.instant _ t
        (sends_keep_alive (core_of (plain v b)) p t
        (and_parts (keeps_alive b.state) (b.sender.flight_size == 0) (by (keeps_alive b.state && (b.sender.flight_size == 0)) refl due)).0 r),
    r,
  )
    where
      by : (test : Bool) → (keeps_alive b.state && (b.sender.flight_size == 0)) ≡ test →
          is_due cx.instant (if test then b.settings.keep_alive_at else None) ≡ true → (keeps_alive b.state && (b.sender.flight_size == 0)) ≡ true
      by true is_so e = is_so
      by false is_so e = absurd (cc)

  led_window_limited : (b : Tcb) → IsWindowLimited b (queued_in v) → Tied (core_of (plain v b)) p t → LedOffer p t (offer_window_limited cx (plain v b) pair)
  led_window_limited b k r =
      cond_both (b.peer.window == 0) (offer_choice Kind.Probe cx (plain v b) pair probe_choice)
      (offer_choice Kind.Payload cx (plain v b) pair (payload_choice b pair.addresses cx.ip_mtu v.queued))
      (λ (o : Offered TcpValue). LedOffer p t o)
      (λ _.
      let o = open_of Kind.Probe cx (plain v b) pair
      (segment b pair cx.instant (window_of (plain v b)) (control_for probe_choice (queued_in v)) (number_at b 0)) 0 1 in (
        asked_tied (plain v b) (probed (recorded b o (room_of v.received)) (end_of (recorded b o (room_of v.received)) o) cx.instant) cx.instant _ t
            (part_goes cx v b pair probe_choice p t (probe_part b (queued_in v) k) r),
        r,
      ))
      (λ _. (part_goes cx v b pair (payload_choice b pair.addresses cx.ip_mtu v.queued) p t (held_part b pair cx.ip_mtu v.queued k) r, r))

  -- THE RULES IN THEIR ORDER

  led_last : (b : Tcb) → b.names.pair ≡ Some pair → is_closed b.state ≡ false → Tied (core_of (plain v b)) p t → LedOffer p t (last_rules cx (plain v b) pair)
  led_last b named open_yet r =
      cond_both (is_due cx.instant (probe_deadline b (queued_in v))) (offer_window_limited cx (plain v b) pair)
      (if is_due cx.instant (ack_deadline b) then offer_ack Kind.Ack cx (plain v b) pair
      else if updates_window b (room_of v.received) (free_in v) then offer_ack Kind.WindowUpdate cx (plain v b) pair
      else if is_due cx.instant (keep_alive_deadline b) then offer_keep_alive cx (plain v b) pair
      else silent false (plain v b))
      (λ (o : Offered TcpValue). LedOffer p t o)
      (λ e. led_window_limited b (window_limited b (queued_in v) cx.instant e) r)
      (λ _.
      cond_both (is_due cx.instant (ack_deadline b)) (offer_ack Kind.Ack cx (plain v b) pair)
      (if updates_window b (room_of v.received) (free_in v) then offer_ack Kind.WindowUpdate cx (plain v b) pair
      else if is_due cx.instant (keep_alive_deadline b) then offer_keep_alive cx (plain v b) pair
      else silent false (plain v b))
      (λ (o : Offered TcpValue). LedOffer p t o)
      (λ due. led_due_ack b named open_yet due r)
      (λ _.
      cond_both (updates_window b (room_of v.received) (free_in v)) (offer_ack Kind.WindowUpdate cx (plain v b) pair)
      (if is_due cx.instant (keep_alive_deadline b) then offer_keep_alive cx (plain v b) pair else silent false (plain v b))
      (λ (o : Offered TcpValue). LedOffer p t o)
      (λ e. (led_ack b (takes_connected b.state (and_parts (accepts_data b.state) (is_worth_telling b (room_of v.received) (free_in v)) e).0) r).1)
      (λ _.
      cond_both (is_due cx.instant (keep_alive_deadline b)) (offer_keep_alive cx (plain v b) pair) (silent false (plain v b))
      (λ (o : Offered TcpValue). LedOffer p t o)
      (λ due. led_keep_alive b due r)
      (λ _. (r, r)))))

  led_first : (b : Tcb) → b.names.pair ≡ Some pair → is_closed b.state ≡ false → Tied (core_of (plain v b)) p t →
      LedOffer p t (first_rules cx (plain v b) pair)
  led_first b named open_yet r =
      cond_both (owes_syn b) (offer_syn cx (plain v b) pair)
      (if resends b pair.addresses cx.ip_mtu v.queued
      then offer_choice Kind.FastRetransmission cx (plain v b) pair (resend_choice b pair.addresses cx.ip_mtu v.queued)
      else if has_payload b pair.addresses cx.ip_mtu v.queued then offer_choice Kind.Payload cx (plain v b) pair (payload_choice b pair.addresses cx.ip_mtu v.queued)
      else last_rules cx (with_tcb (plain v b) (probe_started cx.instant (queued_in v) b)) pair)
      (λ (o : Offered TcpValue). LedOffer p t o)
      (λ owes. led_syn b named open_yet owes r)
      (λ _.
      cond_both (resends b pair.addresses cx.ip_mtu v.queued)
      (offer_choice Kind.FastRetransmission cx (plain v b) pair (resend_choice b pair.addresses cx.ip_mtu v.queued))
      (if has_payload b pair.addresses cx.ip_mtu v.queued then offer_choice Kind.Payload cx (plain v b) pair (payload_choice b pair.addresses cx.ip_mtu v.queued)
      else last_rules cx (with_tcb (plain v b) (probe_started cx.instant (queued_in v) b)) pair)
      (λ (o : Offered TcpValue). LedOffer p t o)
      (λ e. (part_goes cx v b pair (resend_choice b pair.addresses cx.ip_mtu v.queued) p t (resend_part b pair cx.ip_mtu v.queued e) r, r))
      (λ _.
      cond_both (has_payload b pair.addresses cx.ip_mtu v.queued) (offer_choice Kind.Payload cx (plain v b) pair (payload_choice b pair.addresses cx.ip_mtu v.queued))
      (last_rules cx (with_tcb (plain v b) (probe_started cx.instant (queued_in v) b)) pair)
      (λ (o : Offered TcpValue). LedOffer p t o)
      (λ e. (part_goes cx v b pair (payload_choice b pair.addresses cx.ip_mtu v.queued) p t (payload_part b pair cx.ip_mtu v.queued e) r, r))
      (λ _. led_last (probe_started cx.instant (queued_in v) b) named open_yet r)))

  -- to CLOSED
  tied_closed : (b : Tcb) (p : Past) → b.state ≡ In.Closed → b.receiver.took_fin ≡ v.tcb.receiver.took_fin → Tied (core_of v) p t →
      Tied (core_of (plain v b)) p t
  tied_closed b p closed took r =
      subst (λ (p : Past). Tied (core_of (plain v b)) p t) r.past
      (to_closed (core_of v) (core_of (plain v b)) r.side t closed took refl refl refl r.fits r.holds)

  -- it gives up
  led_given_up : Tied (core_of v) p t → LedOffer p t (silent true (given_up (unoffered v)))
  led_given_up r =
      cond_both (falls_back v.tcb) (listening (unoffered v) v.tcb.names.listen) (with_tcb (unoffered v) (timed_out v.tcb))
      (λ (w : TcpValue). LedOffer p t (silent true w))
      (λ e. let back = tied_back (unoffered v) p t e r in (back, back))
      (λ _. let closed = tied_closed (timed_out v.tcb) p refl refl r in (closed, closed))

  -- a reset goes, and the endpoints are forgotten
  led_reset : Tied (core_of v) p t → LedOffer p t (offer_reset cx (unoffered v) pair)
  led_reset r =
      let gone = sends_reset (core_of v) p t (segment_of (reset_segment v.tcb pair cx.instant (window_of v)) []) refl r in (
        subst (λ (p : Past). Tied (core_of (settled true (offer_reset cx (unoffered v) pair).socket)) p t) gone.past
            (to_closed (core_of v) (core_of (settled true (offer_reset cx (unoffered v) pair).socket)) gone.side t refl refl refl refl refl gone.fits
            gone.holds),
        r,
      )

  -- the retransmission timer and a loss probe change nothing that the tie reads
  abbrev IsRunning : Tcb → Type 0
  IsRunning b = (b.names.pair ≡ Some pair) × (is_closed b.state ≡ false) × Tied (core_of (plain v b)) p t

  backs_off : (b : Tcb) → IsRunning b → IsRunning (backed_off cx.instant b)
  backs_off b k =
      cond_both (is_due cx.instant b.timers.retransmit_at) (backed_off_now b) (loss_probed_by cx.instant b) (λ (b : Tcb). IsRunning b)
      (λ _. (k.0, k.1, k.2))
      (λ _. cond_both (is_due cx.instant (loss_probe_deadline b)) (loss_probed b) b (λ (b : Tcb). IsRunning b) (λ _. (k.0, k.1, k.2)) (λ _. k))

  led_between : v.tcb.names.pair ≡ Some pair → Tied (core_of v) p t → LedOffer p t (offer_between cx (unoffered v) pair)
  led_between named r =
      cond_both (is_due cx.instant (time_wait_end v.tcb)) (silent true (ended (unoffered v)))
      (if is_due cx.instant (timeout_end v.tcb (queued_in v)) then silent true (with_tcb (unoffered v) (timed_out v.tcb))
      else if is_closed v.tcb.state then (if v.tcb.sender.reset_due then offer_reset cx (unoffered v) pair else silent false (unoffered v))
      else if gives_up cx.instant v.tcb (queued_in v) then silent true (given_up (unoffered v))
      else first_rules cx (with_tcb (unoffered v) (backed_off cx.instant (timeout_started cx.instant (queued_in v) v.tcb))) pair)
      (λ (o : Offered TcpValue). LedOffer p t o)
      (λ _. let closed = tied_closed (ended v).tcb p refl refl r in (closed, closed))
      (λ _.
      cond_both (is_due cx.instant (timeout_end v.tcb (queued_in v))) (silent true (with_tcb (unoffered v) (timed_out v.tcb)))
      (if is_closed v.tcb.state then (if v.tcb.sender.reset_due then offer_reset cx (unoffered v) pair else silent false (unoffered v))
      else if gives_up cx.instant v.tcb (queued_in v) then silent true (given_up (unoffered v))
      else first_rules cx (with_tcb (unoffered v) (backed_off cx.instant (timeout_started cx.instant (queued_in v) v.tcb))) pair)
      (λ (o : Offered TcpValue). LedOffer p t o)
      (λ _. let closed = tied_closed (timed_out v.tcb) p refl refl r in (closed, closed))
      (λ _.
      cond_both (is_closed v.tcb.state) (if v.tcb.sender.reset_due then offer_reset cx (unoffered v) pair else silent false (unoffered v))
      (if gives_up cx.instant v.tcb (queued_in v) then silent true (given_up (unoffered v))
      else first_rules cx (with_tcb (unoffered v) (backed_off cx.instant (timeout_started cx.instant (queued_in v) v.tcb))) pair)
      (λ (o : Offered TcpValue). LedOffer p t o)
      (λ _.
      cond_both v.tcb.sender.reset_due (offer_reset cx (unoffered v) pair) (silent false (unoffered v)) (λ (o : Offered TcpValue). LedOffer p t o)
      (λ _. led_reset r)
      (λ _. (r, r)))
      (λ open_yet.
      cond_both (gives_up cx.instant v.tcb (queued_in v)) (silent true (given_up (unoffered v)))
      (first_rules cx (with_tcb (unoffered v) (backed_off cx.instant (timeout_started cx.instant (queued_in v) v.tcb))) pair)
      (λ (o : Offered TcpValue). LedOffer p t o)
      (λ _. led_given_up r)
      (λ _.
      let k = backs_off (timeout_started cx.instant (queued_in v) v.tcb) (named, open_yet, r) in
      led_first (backed_off cx.instant (timeout_started cx.instant (queued_in v) v.tcb)) k.0 k.1 k.2))))

led_with : (cx : ContextValue) (v : TcpValue) (p : Past) (t : Side) (names : Option FourTuple) → v.tcb.names.pair ≡ names → Tied (core_of v) p t →
    LedOffer p t (offer_with names cx (unoffered v))
led_with cx v p t None e r = (r, r)
led_with cx v p t (Some pair) e r = led_between cx v pair p t e r

pub keeps_sent_offer :
    (cx : ContextValue) (v w : TcpValue) (p q : Past) → Keeps v p w q
    → Keeps (settled true (offer_of cx v).socket) (with_offer p (offer_of cx v).socket.offered (offer_of cx v).socket.queued.queue) w q
keeps_sent_offer cx v w p q k =
    keeps_by v (settled true (offer_of cx v).socket) w p (with_offer p (offer_of cx v).socket.offered (offer_of cx v).socket.queued.queue) q k
    (λ s t past _ fits holds.
    (led_with cx v p t v.tcb.names.pair refl (record { side = s; past = past; fits = fits; holds = holds })).0)

pub keeps_unsent_offer : (cx : ContextValue) (v w : TcpValue) (p q : Past) → Keeps v p w q → Keeps (settled false (offer_of cx v).socket) p w q
keeps_unsent_offer cx v w p q k =
    keeps_by v (settled false (offer_of cx v).socket) w p p q k (λ s t past _ fits holds.
    (led_with cx v p t v.tcb.names.pair refl (record { side = s; past = past; fits = fits; holds = holds })).1)
