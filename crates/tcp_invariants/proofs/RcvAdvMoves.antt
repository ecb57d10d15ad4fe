-- How far the announced edge moves: what each event makes of the edge that is kept.
use Rattle.std.proofs.Common.{◌≡◌, ℕ, ◌+◌, ◌-◌, ◌^◌, ◌<◌, ◌≤◌, ◌==◌, ◌&&◌, ◌||◌, not, min, ℤ, Bool, true, false}
use Rattle.std.proofs.Common.{if◌then◌else◌, List, [], ◌∷◌, length, take, Option, Some, None, is_some, refl, sym, ap, ◌∙◌, subst, arith}
use Rattle.std.proofs.lemmas.Bool.{cond_both}
use Rattle.ip_wire.specs.IpListenEndpoint.{IpListenEndpoint}
use Rattle.ip_wire.specs.IpRepr.{IpRepr}
use Rattle.ip_wire.specs.SeqNumber.{SeqNumber}
use Rattle.ip_wire.specs.TcpControl.{TcpControl}
use Rattle.ip_wire.specs.TcpControl.TheVariants as Control
use Rattle.ip_wire.specs.TcpHeader.{TcpHeader}
use Rattle.net_base.specs.Ring.{Ring, anchored, enqueued}
use Rattle.tcp_block.specs.Context.{ContextValue}
use Rattle.tcp_block.specs.BaseOffers.{Offered}
use Rattle.tcp_state.specs.Controls.{is_syn, is_rst, or_mss}
use Rattle.tcp_state.specs.Endpoints.{pair_in}
use Rattle.tcp_state.specs.Moments.{timeout_from}
use Rattle.tcp_state.specs.Moments as instants
use Rattle.tcp_state.specs.Offsets.{advanced_by}
use Rattle.tcp_state.specs.States.{is_closed, is_listening, is_opening, is_answering, is_time_wait, takes_writes, accepts_data, sends_syn}
use Rattle.tcp_state.specs.States.{after_ack, after_ack_of_fin, after_close, after_fin}
use Rattle.tcp_state.specs.declared.endpoints.FourTuple.{FourTuple}
use Rattle.tcp_state.specs.declared.offer.OfferKind.TheVariants as Kind
use Rattle.tcp_state.specs.declared.offer.OpenOffer.{OpenOffer}
use Rattle.tcp_state.specs.declared.state.State.{State}
use Rattle.tcp_state.specs.declared.state.State.TheVariants as In
use Rattle.tcp_ranges.specs.ReceiveMap.{front, following}
use Rattle.tcp_block.specs.Acknowledged.{windowed, state_after_ack, acks_fin}
use Rattle.tcp_block.specs.Answers.{acked, with_draw, sack_blocks}
use Rattle.tcp_block.specs.Arrival.{arrives, waiting_anew}
use Rattle.tcp_block.specs.TcbRules.{forgotten}
use Rattle.tcp_block.specs.Calls.{listening, connecting, connected_by, four_tuple_for, sent_more, recv_after}
use Rattle.tcp_block.specs.Isn.{isn, number_for}
use Rattle.tcp_block.specs.LossRecovery.{loss_probed}
use Rattle.tcp_block.specs.Offers.{offer_of, offer_syn, offer_choice, offer_ack, offer_reset, offer_keep_alive, silent, number_at}
use Rattle.tcp_block.specs.Opening.{answering, connected, crossed}
use Rattle.tcp_block.specs.Retries.{heard, asked, one_more}
use Rattle.tcp_block.specs.Rules.{Choice, control_for, owes_syn, probe_choice, payload_choice, resend_choice, backed_off_now}
use Rattle.tcp_block.specs.Segments.{no_ranges, segment, sack_segment, ack_segment, syn_segment, reset_segment, keep_alive_segment, reset_for}
use Rattle.tcp_block.specs.Settled.{settled, sent_off, recorded, probed, end_of}
use Rattle.tcp_block.specs.Payload.{taken_in_order, has_out_of_order, fin_taken}
use Rattle.tcp_block.specs.Timeout.{timeout_restarted, timed_out}
use Rattle.tcp_block.specs.Timestamps.{believed, tsval_taken}
use Rattle.tcp_block.specs.Value.{TcpValue, Arrived, with_tcb, unoffered, ended, new_socket, queued_in, free_in, room_of, window_of}
use Rattle.tcp_block.specs.declared.tcb.Tcb.{Tcb}
use Rattle.tcp_invariants.specs.RcvAdvMoves.{mss_with, unless_over, MovesFar}
use Rattle.tcp_invariants.specs.Edges.{answer_in, offer_in, goes, risen, furthest_after}
use Rattle.tcp_invariants.specs.Ends.{is_over, Proceeds}
use Rattle.tcp_invariants.specs.Events.{Event, Setting, after, set, is_past}
use Rattle.tcp_invariants.specs.Events.Event.{Comes, Asked, Listens, Connects, Sends, Reads, Closes, Aborts, Sets}
use Rattle.tcp_invariants.specs.Events.Setting.{Timeout, KeepAlive, AckDelay, Nagle, HopLimit, Timestamps, Paused, Retries, Congestion, MinRto, FineTimer}
use Rattle.tcp_invariants.specs.InOrder.{sending_of, IsInOrder}
use Rattle.tcp_invariants.proofs.ArrivalCases.{timed, by_arrival, Received, Opening, Content, Drawing, acked_open, acked_last, heeded, held, kept, due, Told}
use Rattle.tcp_invariants.proofs.RcvAdvRules.{event_rcv_adv, new_rcv_adv, over_none}
use Rattle.tcp_invariants.proofs.RcvAdvSteps.{rcv_adv_of, IsRcvAdv, risen_is, less, following_twice, fin_later, after_later, front_following, least}
use Rattle.tcp_invariants.proofs.OfferCases.{Rules, FirstRules, LastRules, by_rules, begun, probing}
use Rattle.tcp_invariants.proofs.OrderRules.{event_order, new_order, opened_by, and_true}
use Rattle.tcp_invariants.proofs.OrderSteps.{clash, backed_order}
use Rattle.tcp_invariants.proofs.RcvAdvMarks.{Mark, mark_of, IsMark, closed_mark, shut_mark, going_mark, over_mark, Out, none_out, over_out}
use Rattle.tcp_invariants.proofs.RcvAdvMarks.{reset_out, minus_none, unheard, told_rcv_adv, not_over, still, keeps, risen_out, segment_out}

-- A SEGMENT COMES

-- the states after a FIN and an acknowledgement
fin_no_listener : (state : State) → accepts_data state ≡ true → is_listening (after_fin state) ≡ false
fin_no_listener In.Established e = refl
fin_no_listener In.FinWait1 e = refl
fin_no_listener In.FinWait2 e = refl
fin_no_listener other e = clash (sym e)

ack_no_listener : (state : State) → is_past state ≡ true → (is_listening (after_ack state) ≡ false) × (is_listening (after_ack_of_fin state) ≡ false)
ack_no_listener In.Closed e = clash (sym e)
ack_no_listener In.Listen e = clash (sym e)
ack_no_listener In.SynSent e = clash (sym e)
ack_no_listener other e = (refl, refl)

after_no_listener : (u : TcpValue) (by : ℕ) → is_past u.tcb.state ≡ true → is_listening (state_after_ack u.tcb by (queued_in u)) ≡ false
after_no_listener u by past =
    cond_both (acks_fin u.tcb by (queued_in u)) (after_ack_of_fin u.tcb.state) (after_ack u.tcb.state) (λ (s : State). is_listening s ≡ false)
    (λ _. (ack_no_listener u.tcb.state past).1) (λ _. (ack_no_listener u.tcb.state past).0)

fin_not_over : (state : State) → accepts_data state ≡ true → is_over (after_fin state) ≡ false
fin_not_over In.Established e = refl
fin_not_over In.FinWait1 e = refl
fin_not_over In.FinWait2 e = refl
fin_not_over other e = clash (sym e)

neither : (a b : Bool) → a ≡ false → b ≡ false → (a || b) ≡ false
neither a b e f = ap (λ (t : Bool). t || b) e ∙ f

past_on : (state : State) → is_past state ≡ true → is_over state ≡ false
past_on In.Closed e = clash (sym e)
past_on In.Listen e = clash (sym e)
past_on other e = refl

initial_mark : (v : TcpValue) (endpoint : IpListenEndpoint) → IsMark 0 0 (mark_of (listening v endpoint))
initial_mark v endpoint = record { same = λ _. refl; opening = λ is. clash (sym is); listens = λ _. refl; mss = least _ }

module _ (rcv_adv named : ℕ) (cx : ContextValue) (ip : IpRepr) (header : TcpHeader) (bytes : List ℕ) (v : TcpValue) (small : v.tcb.receiver.next.0 <
    2 ^ 32) where
  abbrev Arrives : Arrived → Type 0
  Arrives a = Out rcv_adv named v a.socket (answer_in a.answer)

  refuses_out : (u : TcpValue) → u.tcb.receiver.next ≡ v.tcb.receiver.next → IsMark rcv_adv named (mark_of u) →
      Out rcv_adv named v u (Some (reset_for header (length bytes)))
  refuses_out u same p =
      reset_out rcv_adv named v u (reset_for header (length bytes)) refl (subst (λ (n : ℕ). IsMark n named (mark_of u)) (sym (still rcv_adv named v small u same)) p)

  module _ (x : TcpValue) (same : x.tcb.receiver.next ≡ v.tcb.receiver.next) (on : is_over x.tcb.state ≡ false) (p : IsMark rcv_adv named
      (mark_of x)) where
    answers : (ranges : List (Option (ℕ × ℕ))) → Arrives (acked cx x ip header ranges)
    answers ranges =
        segment_out rcv_adv named v small x on p (acked cx x ip header ranges).socket
        (sack_segment x.tcb (pair_in ip header) cx.instant (window_of x) ranges) refl refl refl refl refl same refl

    moves_content : v.tcb.receiver.took_syn ≡ true → free_in x ≤ 2 ^ 30 → Content cx ip header bytes Arrives x
    moves_content took few = record {
      plain = (
        λ _. keeps rcv_adv named v small (due cx ip header bytes Arrives (kept x x.tcb) false) same p,
        answers_of (kept x x.tcb) rcv_adv on p (still rcv_adv
            named v small (kept x x.tcb) same),
      );
      fin = λ _ takes.
          rises (kept x (fin_taken x.tcb cx.instant)) false 1 one (ap (λ (n : SeqNumber). advanced_by n 1) same) (fin_not_over x.tcb.state takes)
          (lowered 1 (after_fin x.tcb.state) (fin_later x.tcb.state takes) (fin_no_listener x.tcb.state takes));
      ordered = λ map size takes _.
          rises (kept (taken_in_order x map).socket (taken_in_order x map).socket.tcb) (has_out_of_order x) (length (front map))
          (near map size) (ap (λ (n : SeqNumber). advanced_by n (length (front map))) same) on
          (lowered (length (front map)) x.tcb.state (payload_later x.tcb.state takes) no_listener);
      ordered_fin = λ map size _ takes.
          rises (kept (taken_in_order x map).socket (fin_taken (taken_in_order x map).socket.tcb cx.instant)) (has_out_of_order x)
          (length (front map) + 1) (near_next map size)
          (following_twice x.tcb.receiver.next (length (front map)) 1 ∙ ap (λ (n : SeqNumber). advanced_by n (length (front map) + 1)) same)
          (fin_not_over x.tcb.state takes)
          (subst (λ (n : ℕ). IsMark (rcv_adv - (length (front map) + 1)) named (record (mark_of x) { state = after_fin x.tcb.state; rcv_adv = n }))
          (twice x.tcb.receiver.rcv_adv (length (front map)))
          (lowered (length (front map) + 1) (after_fin x.tcb.state) (fin_later x.tcb.state takes) (fin_no_listener x.tcb.state takes)));
      early = λ map offset _ _. early_answers map offset;
    }
      where
        alive : is_closed x.tcb.state ≡ false
        alive = (not_over x.tcb.state on).0

        no_listener : is_listening x.tcb.state ≡ false
        no_listener = (not_over x.tcb.state on).1

        -- an acknowledgement answers at once
        answers_of : (y : TcpValue) (left : ℕ) → is_over y.tcb.state ≡ false → IsMark left named (mark_of y) → rcv_adv - risen v.tcb y.tcb ≡ left →
            Arrives (acked cx y ip header no_ranges)
        answers_of y left going q rise =
            risen_out rcv_adv named v small y left going q (acked cx y ip header no_ranges).socket
            (sack_segment y.tcb (pair_in ip header) cx.instant (window_of y) no_ranges) refl refl refl refl refl rise refl

        -- RCV.NXT rises by so much
        rises : (y : TcpValue) (fills : Bool) (n : ℕ) → n < 2 ^ 32 → y.tcb.receiver.next ≡ advanced_by v.tcb.receiver.next n
            → is_over y.tcb.state ≡ false → IsMark (rcv_adv - n) named (mark_of y) → Told cx ip header bytes Arrives y fills
        rises y fills n near is going q =
            let rise = ap (λ (k : ℕ). rcv_adv - k) (risen_is v.tcb y.tcb n took small near is) in
            let w = due cx ip header bytes Arrives y fills in (
              λ _. none_out rcv_adv named v w (subst (λ (k : ℕ). IsMark k named (mark_of w)) (sym rise) q),
              answers_of y (rcv_adv - n) going q rise,
            )

        lowered : (n : ℕ) (state : State) → is_opening state ≡ false → is_listening state ≡ false →
            IsMark (rcv_adv - n) named (record (mark_of x) { state = state; rcv_adv = x.tcb.receiver.rcv_adv - n })
        lowered n state later quiet = record {
          same = λ _. ap (λ (e : ℕ). e - n) (p.same alive);
          opening = λ is. clash (sym is ∙ later);
          listens = λ is. clash (sym is ∙ quiet);
          mss = p.mss;
        }

        payload_later : (state : State) → accepts_data state ≡ true → is_opening state ≡ false
        payload_later In.SynSent e = clash (sym e)
        payload_later other e = refl

        one : 1 < 2 ^ 32
        one = omega arith

        fits : (map : List (Option ℕ)) → length map ≡ free_in x → length (front map) ≤ 2 ^ 30
        fits map size = at (length (front map)) (length (following map)) (length map) (free_in x) (front_following map) size few where
          at : (a b m free : ℕ) → a + b ≡ m → m ≡ free → free ≤ 2 ^ 30 → a ≤ 2 ^ 30
          at a b m free e f g = omega arith

        near : (map : List (Option ℕ)) → length map ≡ free_in x → length (front map) < 2 ^ 32
        near map size = at (length (front map)) (fits map size) where
          at : (a : ℕ) → a ≤ 2 ^ 30 → a < 2 ^ 32
          at a e = omega arith

        near_next : (map : List (Option ℕ)) → length map ≡ free_in x → length (front map) + 1 < 2 ^ 32
        near_next map size = at (length (front map)) (fits map size) where
          at : (a : ℕ) → a ≤ 2 ^ 30 → a + 1 < 2 ^ 32
          at a e = omega arith

        twice : (e a : ℕ) → e - (a + 1) ≡ e - a - 1
        twice e a = omega arith

        early_answers : (map : List (Option ℕ)) (offset : ℕ) →
            Arrives (acked cx (kept (held x map) x.tcb) ip header (sack_blocks (kept (held x map) x.tcb) offset))
        early_answers map offset =
            let y = kept (held x map) x.tcb in
            segment_out rcv_adv named v small y on p (acked cx y ip header (sack_blocks y offset)).socket
            (sack_segment y.tcb (pair_in ip header) cx.instant (window_of y) (sack_blocks y offset)) refl refl refl refl refl same refl

  moves_drawing : (x : TcpValue) → x.tcb.receiver.next ≡ v.tcb.receiver.next → is_over x.tcb.state ≡ false → IsMark rcv_adv named (mark_of x) →
      Drawing cx ip header bytes Arrives x
  moves_drawing x same on p = record {
    answers = λ _. answers (with_draw x cx.instant) same on p no_ranges;
    at_once = answers x same on p no_ranges;
    pauses = keeps rcv_adv named v small x same p;
  }

  moves_received :
      (u : TcpValue) → u.tcb.receiver.next ≡ v.tcb.receiver.next → IsMark rcv_adv named (mark_of u) → v.tcb.receiver.took_syn ≡ true
      → is_past u.tcb.state ≡ true → free_in u ≤ 2 ^ 30 → Received cx ip header bytes Arrives u
  moves_received u same p took past few = record {
    stays = keeps rcv_adv named v small u same p;
    refuses = refuses_out u same p;
    draws = moves_drawing u same on p;
    falls = λ _ _ _. over_out rcv_adv named v (listening u u.tcb.names.listen) refl (initial_mark u u.tcb.names.listen);
    ends = λ _ _ _. over_out rcv_adv named v (ended u) refl (shut_mark (mark_of u));
    closes = λ by _ _. over_out rcv_adv named v (acked_last (timed cx.instant header u by) by cx.instant) refl (shut_mark (mark_of u));
    taken = λ by _ alive.
        moves_content (heeded cx.instant header (length bytes) u by (acked_open (timed cx.instant header u by) by cx.instant).tcb) same (acked_on by alive)
        (acked_mark by) took few;
    taken_window = λ by _ alive.
        moves_content (heeded cx.instant header (length bytes) u by (windowed (acked_open (timed cx.instant header u by) by cx.instant).tcb header)) same
        (acked_on by alive) (acked_mark by) took few;
    news = λ by _ alive.
        moves_drawing (waiting_anew (acked_open (timed cx.instant header u by) by cx.instant) header cx.instant) same (acked_on by alive) (acked_mark by);
    outside = moves_drawing (waiting_anew u header cx.instant) same on p;
    old = λ _. moves_content (with_tcb u (tsval_taken (heard u.tcb) header cx.instant)) same on p took few;
  }
    where
      on : is_over u.tcb.state ≡ false
      on = past_on u.tcb.state past

      acked_on : (by : ℕ) → is_closed (state_after_ack u.tcb by (queued_in u)) ≡ false → is_over (state_after_ack u.tcb by (queued_in u)) ≡ false
      acked_on by alive =
          neither (is_closed (state_after_ack u.tcb by (queued_in u)))
          (is_listening (state_after_ack u.tcb by (queued_in u))) alive (after_no_listener u by past)

      acked_mark : (by : ℕ) → IsMark rcv_adv named (record (mark_of u) { state = state_after_ack u.tcb by (queued_in u) })
      acked_mark by =
          going_mark rcv_adv named (mark_of u) (state_after_ack u.tcb by (queued_in u)) p (not_over u.tcb.state on).0 (after_later u by past)
          (after_no_listener u by past)

  moves_opening : (u : TcpValue) → u.tcb.receiver.next ≡ v.tcb.receiver.next → u.tcb.receiver.took_syn ≡ v.tcb.receiver.took_syn →
      IsMark rcv_adv named (mark_of u) → Opening cx ip header bytes Arrives u
  moves_opening u same took p = record {
    opens = λ at _.
        none_out rcv_adv named v
        (with_tcb u (timeout_restarted (believed (answering u.tcb ip header (isn cx (pair_in ip header))) cx.instant) cx.instant 0))
        (begins In.SynReceived _ refl refl (nothing _ (sym (p.same (ap is_closed at)) ∙ p.listens (ap is_listening at))
        (p.listens (ap is_listening at))));
    refuses = refuses_out u same p;
    ends = λ _. over_out rcv_adv named v (ended u) refl (shut_mark (mark_of u));
    connects = λ at _.
        none_out rcv_adv named v (with_tcb u (timeout_restarted (believed (connected u.tcb header cx.instant) cx.instant) cx.instant (queued_in u)))
        (begins In.Established _ refl refl
        (unmoved (timeout_restarted (believed (connected u.tcb header cx.instant) cx.instant) cx.instant (queued_in u)) at));
    crosses = λ at _.
        none_out rcv_adv named v (with_tcb u (timeout_restarted (believed (crossed u.tcb header) cx.instant) cx.instant (queued_in u)))
        (begins In.SynReceived _ refl refl
        (unmoved (timeout_restarted (believed (crossed u.tcb header) cx.instant) cx.instant (queued_in u)) at));
  }
    where
      begins : (state : State) (left : ℕ) → is_opening state ≡ false → is_listening state ≡ false → u.tcb.receiver.rcv_adv ≡ left →
          IsMark left named (record (mark_of u) { state = state; took_syn = true })
      begins state left later quiet is = record {
        same = λ _. is;
        opening = λ alive. clash (sym alive ∙ later);
        listens = λ alive. clash (sym alive ∙ quiet);
        mss = p.mss;
      }

      nothing : (n : ℕ) → rcv_adv ≡ 0 → u.tcb.receiver.rcv_adv ≡ 0 → u.tcb.receiver.rcv_adv ≡ rcv_adv - n
      nothing n e f = f ∙ zeros rcv_adv n e where
        zeros : (a b : ℕ) → a ≡ 0 → 0 ≡ a - b
        zeros a b e = omega arith

      unmoved : (w : Tcb) → u.tcb.state ≡ In.SynSent → u.tcb.receiver.rcv_adv ≡ rcv_adv - risen v.tcb w
      unmoved w at =
          p.same (ap is_closed at)
          ∙ sym (minus_none rcv_adv (risen v.tcb w) (unheard v.tcb w (sym took ∙ p.opening (ap is_opening at))))

moves_arrival :
    (rcv_adv named : ℕ) (cx : ContextValue) (ip : IpRepr) (header : TcpHeader) (bytes : List ℕ) (v : TcpValue) → v.tcb.receiver.next.0 < 2 ^ 32
    → free_in v ≤ 2 ^ 30 → IsInOrder (sending_of v) → IsMark rcv_adv named (mark_of v)
    → Out rcv_adv named v (arrives cx v ip header bytes).socket (answer_in (arrives cx v ip header bytes).answer)
moves_arrival rcv_adv named cx ip header bytes v small few order p =
    by_arrival cx ip header bytes (Arrives rcv_adv named cx ip header bytes v small) v (keeps rcv_adv named v small (unoffered v) refl p)
    (λ _. moves_opening rcv_adv named cx ip header bytes v small (unoffered v) refl refl p)
    (λ past. moves_received rcv_adv named cx ip header bytes v small (unoffered v) refl p (order.took past) past few)

-- IT IS ASKED

plain_control : (c : Choice) (queued : ℕ) → (is_syn (control_for c queued) ≡ false) × (is_rst (control_for c queued) ≡ false)
plain_control c queued =
    cond_both c.fin Control.Fin (if not (c.len == 0) && (c.offset + c.len == queued) then Control.Psh else Control.None)
    (λ (k : TcpControl). (is_syn k ≡ false) × (is_rst k ≡ false))
    (λ _. (refl, refl))
    (λ _.
    cond_both (not (c.len == 0) && (c.offset + c.len == queued)) Control.Psh Control.None (λ (k : TcpControl). (is_syn k ≡ false) × (is_rst k ≡ false))
    (λ _. (refl, refl)) (λ _. (refl, refl)))

module _ (rcv_adv named : ℕ) (cx : ContextValue) (v : TcpValue) (small : v.tcb.receiver.next.0 < 2 ^ 32) where
  -- whether what is offered goes or not
  abbrev Both : Offered TcpValue → Type 0
  Both o = Out rcv_adv named v (settled true o.socket) (offer_in o.socket.offered) × Out rcv_adv named v (settled false o.socket) None

  none_offered : (x : TcpValue) → x.offered ≡ None → x.tcb.receiver.next ≡ v.tcb.receiver.next → IsMark rcv_adv named (mark_of x) → Both (silent false x)
  none_offered x none same p = (
    subst (λ (o : Option OpenOffer). Out rcv_adv named v (sent_off o (unoffered x)) (offer_in o)) (sym none) (keeps rcv_adv named v small (unoffered x) same p),
    keeps rcv_adv named v small (unoffered x) same p,
  )

  module _ (x : TcpValue) (same : x.tcb.receiver.next ≡ v.tcb.receiver.next) (on : is_over x.tcb.state ≡ false) (p : IsMark rcv_adv named
      (mark_of x)) (pair : FourTuple) where
    rests : Out rcv_adv named v (unoffered x) None
    rests = keeps rcv_adv named v small (unoffered x) same p

    -- what a segment with this control makes of the edge
    marked : (control : TcpControl) → is_syn control ≡ false →
        record (mark_of x) { rcv_adv = if is_syn control then room_of x.received else told_rcv_adv x } ≡ record (mark_of x) { rcv_adv = told_rcv_adv x }
    marked control plain = ap (λ (t : Bool). record (mark_of x) { rcv_adv = if t then room_of x.received else told_rcv_adv x }) plain

    choice_segment : Choice → TcpHeader
    choice_segment c = segment x.tcb pair cx.instant (window_of x) (control_for c (queued_in x)) (number_at x.tcb c.offset)

    payload_out : (c : Choice) → Both (offer_choice Kind.Payload cx x pair c)
    payload_out c =
        let plain = plain_control c (queued_in x) in (
          segment_out rcv_adv named v small x on p (settled true (offer_choice Kind.Payload cx x pair c).socket)
              (segment x.tcb pair cx.instant (window_of x) (control_for c (queued_in x)) (number_at x.tcb c.offset)) plain.0 plain.1 refl refl refl same
              (marked (control_for c (queued_in x)) plain.0),
          rests,
        )

    again_out : (c : Choice) → Both (offer_choice Kind.FastRetransmission cx x pair c)
    again_out c =
        let plain = plain_control c (queued_in x) in (
          segment_out rcv_adv named v small x on p (settled true (offer_choice Kind.FastRetransmission cx x pair c).socket)
              (segment x.tcb pair cx.instant (window_of x) (control_for c (queued_in x)) (number_at x.tcb c.offset)) plain.0 plain.1 refl refl refl same
              (marked (control_for c (queued_in x)) plain.0),
          rests,
        )

    ack_out : Both (offer_ack Kind.Ack cx x pair)
    ack_out = (
      segment_out rcv_adv named v small x on p (settled true (offer_ack Kind.Ack cx x pair).socket) (ack_segment x.tcb pair cx.instant (window_of x)) refl refl
          refl refl refl same refl,
      rests,
    )

    update_out : Both (offer_ack Kind.WindowUpdate cx x pair)
    update_out = (
      segment_out rcv_adv named v small x on p (settled true (offer_ack Kind.WindowUpdate cx x pair).socket) (ack_segment x.tcb pair cx.instant (window_of x))
          refl refl refl refl refl same refl,
      rests,
    )

    -- a question counts
    asked_out : (b : Tcb) (now : ℤ) (sent : TcpHeader) → Out rcv_adv named v (with_tcb (unoffered x) b) (Some sent) →
        Out rcv_adv named v (with_tcb (unoffered x) (asked b now)) (Some sent)
    asked_out b now sent out =
        cond_both (instants.is_over now b.timers.counts_from)
        (record b {
          sender = record b.sender { unanswered = one_more b.sender.unanswered };
          timers = record b.timers { counts_from = Some (timeout_from now b.round_trip) };
        })
        b (λ (new : Tcb). Out rcv_adv named v (with_tcb (unoffered x) new) (Some sent))
        (λ _. (
          out.0,
          (out.1.0, (λ plain. let tells = out.1.1 plain in record { plain = tells.plain; syn = tells.syn; moves = tells.moves })),
          out.2,
        ))
        (λ _. out)

    probe_out : Both (offer_choice Kind.Probe cx x pair probe_choice)
    probe_out =
        let probe = segment x.tcb pair cx.instant (window_of x) (control_for probe_choice (queued_in x)) (number_at x.tcb 0) in
        let o = opened_by cx pair Kind.Probe x probe 0 1 in
        let b = recorded x.tcb o (room_of x.received) in
        let after_it = probed b (end_of b o) cx.instant in
        let plain = plain_control probe_choice (queued_in x) in (
          asked_out after_it cx.instant probe
              (segment_out rcv_adv named v small x on p (with_tcb (unoffered x) after_it) probe plain.0 plain.1 refl refl refl same
              (marked (control_for probe_choice (queued_in x)) plain.0)),
          rests,
        )

    keep_alive_out : Both (offer_keep_alive cx x pair)
    keep_alive_out =
        let alive = keep_alive_segment x.tcb pair cx.instant (window_of x) in
        let b = recorded x.tcb (opened_by cx pair Kind.KeepAlive x alive 0 1) (room_of x.received) in (
          asked_out b cx.instant alive (segment_out rcv_adv named v small x on p (with_tcb (unoffered x) b) alive refl refl refl refl refl same refl),
          rests,
        )

    -- a SYN tells of an empty buffer, and all of it counts
    syn_out : length x.received.waiting ≡ 0 → Both (offer_syn cx x pair)
    syn_out none = (
      (
        room_of x.received,
        (
          (λ is. clash (sym is)),
          (λ _. record {
            plain = λ no. clash no;
            syn = λ _. told (length x.received.waiting) (free_in x) none;
            moves = λ waits _. empty (length x.received.waiting) none waits;
          }),
        ),
        over_mark (is_over x.tcb.state) (room_of x.received) (or_mss syn.options.max_seg_size)
            (record (mark_of x) { rcv_adv = room_of x.received; mss = or_mss syn.options.max_seg_size }) refl (record {
              same = λ _. refl;
              opening = p.opening;
              listens = λ is. clash (sym is ∙ (not_over x.tcb.state on).1);
              mss = itself (or_mss syn.options.max_seg_size);
            }),
      ),
      rests,
    )
      where
        syn : TcpHeader
        syn = syn_segment x.tcb pair cx.instant cx.ip_mtu (room_of x.received) (free_in x)

        told : (waiting free : ℕ) → waiting ≡ 0 → min free 65_535 ≡ min (waiting + free) 65_535
        told waiting free e = omega arith

        empty : {A : Type 0} (n : ℕ) → n ≡ 0 → 1 ≤ n → A
        empty n e f = absurd (omega arith)

        itself : (n : ℕ) → n ≤ n
        itself n = omega arith

  moves_last :
      (x : TcpValue) (pair : FourTuple) → x.offered ≡ None → x.tcb.receiver.next ≡ v.tcb.receiver.next → is_over x.tcb.state ≡ false
      → IsMark rcv_adv named (mark_of x) → LastRules cx pair Both x
  moves_last x pair none same on p = record {
    probe = λ _ _. probe_out x same on p pair;
    window_limited = λ _ _. payload_out x same on p pair (payload_choice x.tcb pair.addresses cx.ip_mtu x.queued);
    ack = λ _. ack_out x same on p pair;
    update = λ _ _. update_out x same on p pair;
    keep_alive = λ _ _. keep_alive_out x same on p pair;
    quiet = λ _. none_offered x none same p;
  }

  moves_first :
      (w : TcpValue) (pair : FourTuple) → w.offered ≡ None → w.tcb.receiver.next ≡ v.tcb.receiver.next → is_over w.tcb.state ≡ false
      → IsMark rcv_adv named (mark_of w) → IsInOrder (sending_of w) → FirstRules cx pair Both w
  moves_first w pair none same on p order = record {
    syn = λ owes. syn_out w same on p pair ((order.opening (owes_unacked owes)).1);
    again = λ _ _. again_out w same on p pair (resend_choice w.tcb pair.addresses cx.ip_mtu w.queued);
    payload = λ _ _. payload_out w same on p pair (payload_choice w.tcb pair.addresses cx.ip_mtu w.queued);
    last = λ _. moves_last (probing cx w) pair none same on p;
  }
    where
      owes_unacked : owes_syn w.tcb ≡ true → w.tcb.sender.syn_unacked ≡ true
      owes_unacked owes =
          let parts = and_true (sends_syn w.tcb.state && not (is_answering w.tcb.state && w.tcb.settings.synack_paused))
          (w.tcb.sender.syn_unacked && (w.tcb.sender.flight_size == 0)) owes in
          (and_true w.tcb.sender.syn_unacked (w.tcb.sender.flight_size == 0) parts.1).0

  closed_out : (b : Tcb) → b.state ≡ In.Closed → Out rcv_adv named v (with_tcb (unoffered v) b) None
  closed_out b closed =
      over_out rcv_adv named v (with_tcb (unoffered v) b) (ap is_over closed)
      (closed_mark (mark_of (with_tcb (unoffered v) b)) (ap is_closed closed) (ap is_opening closed) (ap is_listening closed))

  moves_rules : IsMark rcv_adv named (mark_of v) → IsInOrder (sending_of v) → Rules cx v Both
  moves_rules p order = record {
    nobody = λ _. (stays, stays);
    time_wait = λ _. (closed_out (forgotten v.tcb) refl, closed_out (forgotten v.tcb) refl);
    timeout = λ _. (closed_out (timed_out v.tcb) refl, closed_out (timed_out v.tcb) refl);
    closed = λ _. (stays, stays);
    reset = λ pair _ _. (reset_goes pair, stays);
    falls = λ _ _ _. (fallen, fallen);
    over = λ _ _ _. (closed_out (timed_out v.tcb) refl, closed_out (timed_out v.tcb) refl);
    backs = λ pair has on _. moves_first (with_tcb (unoffered v) (backed_off_now (begun cx v))) pair refl refl (proceeds pair has on) p
        (backed_order (sending_of v) order);
    probes = λ pair has on _ _. moves_first (with_tcb (unoffered v) (loss_probed (begun cx v))) pair refl refl (proceeds pair has on) p order;
    goes = λ pair has on _. moves_first (with_tcb (unoffered v) (begun cx v)) pair refl refl (proceeds pair has on) p order;
  }
    where
      stays : Out rcv_adv named v (unoffered v) None
      stays = keeps rcv_adv named v small (unoffered v) refl p

      fallen : Out rcv_adv named v (listening (unoffered v) v.tcb.names.listen) None
      fallen = over_out rcv_adv named v (listening (unoffered v) v.tcb.names.listen) refl (initial_mark (unoffered v) v.tcb.names.listen)

      -- a listener has no remote endpoint
      proceeds : (pair : FourTuple) → v.tcb.names.pair ≡ Some pair → Proceeds cx v → is_over v.tcb.state ≡ false
      proceeds pair has on = neither (is_closed v.tcb.state) (is_listening v.tcb.state) on.alive (deaf (is_listening v.tcb.state) refl) where
        deaf : (t : Bool) → is_listening v.tcb.state ≡ t → t ≡ false
        deaf true e = clash (sym (ap is_some has) ∙ (order.listens e).0)
        deaf false e = refl

      reset_goes : (pair : FourTuple) →
          Out rcv_adv named v (settled true (offer_reset cx (unoffered v) pair).socket) (Some (reset_segment v.tcb pair cx.instant (window_of v)))
      reset_goes pair = (
        rcv_adv - risen v.tcb v.tcb,
        ((λ _. refl), (λ no. clash no)),
        closed_mark (mark_of (settled true (offer_reset cx (unoffered v) pair).socket)) refl refl refl,
      )

moves_offer : (rcv_adv named : ℕ) (cx : ContextValue) (v : TcpValue) (small : v.tcb.receiver.next.0 < 2 ^ 32) → IsMark rcv_adv named (mark_of v) →
    IsInOrder (sending_of v) → Both rcv_adv named cx v small (offer_of cx v)
moves_offer rcv_adv named cx v small p order = by_rules cx v (Both rcv_adv named cx v small) (moves_rules rcv_adv named cx v small p order)

-- ITS USER CALLS

close_mark : (rcv_adv named : ℕ) (k : Mark) → is_opening k.state ≡ false → IsMark rcv_adv named k → IsMark rcv_adv named (record k { state = after_close k.state })
close_mark rcv_adv named k on p = record {
  same = λ alive. p.same (before k.state alive);
  opening = λ is. clash (sym is ∙ (later k.state on).0);
  listens = λ is. clash (sym is ∙ (later k.state on).1);
  mss = p.mss;
}
  where
    before : (state : State) → is_closed (after_close state) ≡ false → is_closed state ≡ false
    before In.Closed e = e
    before other e = refl

    later : (state : State) → is_opening state ≡ false → (is_opening (after_close state) ≡ false) × (is_listening (after_close state) ≡ false)
    later In.SynSent e = clash e
    later other e = (refl, refl)

module _ (rcv_adv named : ℕ) (v : TcpValue) (small : v.tcb.receiver.next.0 < 2 ^ 32) (p : IsMark rcv_adv named (mark_of v)) where
  same_out : (w : TcpValue) → w.tcb.receiver.next ≡ v.tcb.receiver.next → IsMark rcv_adv named (mark_of w) → Out rcv_adv named v w None
  same_out w same q = keeps rcv_adv named v small w same q

  shut_out : (w : TcpValue) → is_over w.tcb.state ≡ true → mark_of w ≡ record (mark_of v) { state = In.Closed } → Out rcv_adv named v w None
  shut_out w over same = over_out rcv_adv named v w over (subst (λ (k : Mark). IsMark 0 0 k) (sym same) (shut_mark (mark_of v)))

  connects_out : (pair : Option FourTuple) (number : ℕ) → rcv_adv ≡ 0 → named ≡ 0 → Out rcv_adv named v (connected_by v pair number) None
  connects_out None number none unnamed = same_out (unoffered v) refl p
  connects_out (Some pair) number none unnamed =
      none_out rcv_adv named v (connecting v pair number) (record {
        same = λ _. zeros rcv_adv (risen v.tcb (connecting v pair number).tcb) none;
        opening = λ _. refl;
        listens = λ _. refl;
        mss = below named unnamed;
      })
    where
      zeros : (a b : ℕ) → a ≡ 0 → 0 ≡ a - b
      zeros a b e = omega arith

      below : (n : ℕ) → n ≡ 0 → n ≤ 0
      below n e = omega arith

  set_out : (setting : Setting) → Out rcv_adv named v (set v setting) None
  set_out (Timeout duration) = same_out (set v (Timeout duration)) refl p
  set_out (KeepAlive interval) = same_out (set v (KeepAlive interval)) refl p
  set_out (AckDelay duration) = same_out (set v (AckDelay duration)) refl p
  set_out (Nagle enabled) = same_out (set v (Nagle enabled)) refl p
  set_out (HopLimit limit) = same_out (set v (HopLimit limit)) refl p
  set_out (Timestamps generator) = same_out (set v (Timestamps generator)) refl p
  set_out (Paused paused) = same_out (set v (Paused paused)) refl p
  set_out (Retries limit) = same_out (set v (Retries limit)) refl p
  set_out (MinRto duration) = same_out (set v (MinRto duration)) refl p
  set_out (FineTimer fine) = same_out (set v (FineTimer fine)) refl p
  set_out (Congestion control) = same_out (set v (Congestion control)) refl p

closed_over : (state : State) → is_closed state ≡ true → is_over state ≡ true
closed_over In.Closed e = refl
closed_over other e = clash (sym e)

event_moves :
    (rcv_adv named : ℕ) (v : TcpValue) (it : Event) → v.tcb.receiver.next.0 < 2 ^ 32 → free_in v ≤ 2 ^ 30 → IsInOrder (sending_of v)
    → IsMark rcv_adv named (mark_of v) → (is_over v.tcb.state ≡ true → (rcv_adv ≡ 0) × (named ≡ 0)) → Out rcv_adv named v (after v it) (goes v it)
event_moves rcv_adv named v (Comes cx ip header bytes) small few order p none = moves_arrival rcv_adv named cx ip header bytes v small few order p
event_moves rcv_adv named v (Asked cx true) small few order p none = (moves_offer rcv_adv named cx v small p order).0
event_moves rcv_adv named v (Asked cx false) small few order p none = (moves_offer rcv_adv named cx v small p order).1
event_moves rcv_adv named v (Listens endpoint) small few order p none =
    cond_both (is_closed v.tcb.state && not (endpoint.port == 0)) (listening v endpoint) (unoffered v) (λ (w : TcpValue). Out rcv_adv named v w None)
    (λ _. over_out rcv_adv named v (listening v endpoint) refl (initial_mark v endpoint)) (λ _. same_out rcv_adv named v small p (unoffered v) refl p)
event_moves rcv_adv named v (Connects cx remote local) small few order p none =
    cond_both (is_closed v.tcb.state) (connected_by v (four_tuple_for cx remote local) (number_for cx (four_tuple_for cx remote local))) (unoffered v)
    (λ (w : TcpValue). Out rcv_adv named v w None)
    (λ closed.
    let over = none (closed_over v.tcb.state closed) in
    connects_out rcv_adv named v small p (four_tuple_for cx remote local) (number_for cx (four_tuple_for cx remote local)) over.0 over.1)
    (λ _. same_out rcv_adv named v small p (unoffered v) refl p)
event_moves rcv_adv named v (Sends bytes) small few order p none =
    let some = take (min (length bytes) (length v.queued.free)) bytes in
    cond_both (takes_writes v.tcb.state) (sent_more v (enqueued (anchored v.queued) some)) (unoffered v) (λ (w : TcpValue). Out rcv_adv named v w None)
    (λ _. same_out rcv_adv named v small p (sent_more v (enqueued (anchored v.queued) some)) refl p) (λ _. same_out rcv_adv named v small p (unoffered v) refl p)
event_moves rcv_adv named v (Reads count) small few order p none = same_out rcv_adv named v small p (recv_after v count) refl p
event_moves rcv_adv named v Closes small few order p none =
    cond_both (is_opening v.tcb.state) (ended (unoffered v)) (with_tcb (unoffered v) (record v.tcb { state = after_close v.tcb.state }))
    (λ (w : TcpValue). Out rcv_adv named v w None)
    (λ _. shut_out rcv_adv named v small p (ended (unoffered v)) refl refl)
    (λ on.
    same_out rcv_adv named v small p (with_tcb (unoffered v) (record v.tcb { state = after_close v.tcb.state })) refl
    (close_mark rcv_adv named (mark_of v) on p))
event_moves rcv_adv named v Aborts small few order p none =
    let aborted : TcpValue =
    with_tcb (unoffered v) (record v.tcb { state = In.Closed; sender = record v.tcb.sender { reset_due = is_some v.tcb.names.pair } }) in
    cond_both (is_time_wait v.tcb.state) (ended (unoffered v)) aborted (λ (w : TcpValue). Out rcv_adv named v w None)
    (λ _. shut_out rcv_adv named v small p (ended (unoffered v)) refl refl) (λ _. shut_out rcv_adv named v small p aborted refl refl)
event_moves rcv_adv named v (Sets setting) small few order p none = set_out rcv_adv named v small p setting

led_moves :
    (capacity rcv_adv named : ℕ) (v : TcpValue) (events : List Event) → capacity ≤ 2 ^ 30 → IsInOrder (sending_of v) → IsRcvAdv capacity 0 (rcv_adv_of v)
    → IsMark rcv_adv named (mark_of v) → (is_over v.tcb.state ≡ true → (rcv_adv ≡ 0) × (named ≡ 0)) → MovesFar v rcv_adv named events
led_moves capacity rcv_adv named v [] few order q p none = tt
led_moves capacity rcv_adv named v (it ∷ more) few order q p none =
    let out = event_moves rcv_adv named v it q.number (room (length v.received.waiting) (free_in v) capacity q.room few) order p none in
    let next = event_rcv_adv capacity 0 v it few order q (λ _. refl) in (
      out.0,
      out.1,
      led_moves capacity (unless_over (after v it) out.0) (unless_over (after v it) (mss_with named (goes v it))) (after v it) more few
          (event_order v it order)
          (less capacity (furthest_after v it 0) 0 (rcv_adv_of (after v it)) next.1 (least _)) out.2
          (λ over. (over_none (is_over (after v it).tcb.state) _ over, over_none (is_over (after v it).tcb.state) _ over)),
    )
  where
    room : (waiting free c : ℕ) → waiting + free ≡ c → c ≤ 2 ^ 30 → free ≤ 2 ^ 30
    room waiting free c e f = omega arith

pub new_moves : (capacity : ℕ) (queued : Ring ℕ) (events : List Event) → capacity ≤ 2 ^ 30 → MovesFar (new_socket capacity queued) 0 0 events
new_moves capacity queued events few =
    led_moves capacity 0 0 (new_socket capacity queued) events few (new_order capacity queued) (new_rcv_adv capacity queued)
    (closed_mark (mark_of (new_socket capacity queued)) refl refl refl) (λ _. (refl, refl))
