-- What was announced of the window stays announced.
use Rattle.std.proofs.Common.{◌≡◌, ◌⊎◌, ℕ, zero, suc, ◌+◌, ◌-◌, ◌*◌, ◌^◌, ◌<◌, ◌≤◌, ◌==◌, ◌&&◌, ◌||◌, not, min, ℤ, Bool, true, false, if◌then◌else◌}
use Rattle.std.proofs.Common.{List, [], ◌∷◌, ◌++◌, length, take, drop, Option, Some, None, is_some, inl, inr, ⊎_elim, refl, sym, ap, ◌∙◌, subst, arith}
use Rattle.std.proofs.Common.{length-append, length-drop}
use Rattle.std.proofs.lemmas.Bool.{cond_both}
use Rattle.std.proofs.lemmas.List.{length-take}
use Rattle.std.proofs.lemmas.Nat.{pow_pos}
use Rattle.ip_wire.specs.IpRepr.{IpRepr}
use Rattle.ip_wire.specs.SeqNumber.{SeqNumber}
use Rattle.ip_wire.specs.TcpControl.{TcpControl}
use Rattle.ip_wire.specs.TcpControl.TheVariants as Control
use Rattle.ip_wire.specs.TcpHeader.{TcpHeader}
use Rattle.net_base.specs.Ring.{Ring, anchored, enqueued}
use Rattle.tcp_block.specs.Context.{ContextValue}
use Rattle.tcp_block.specs.BaseOffers.{Offered}
use Rattle.tcp_state.specs.Controls.{is_syn, is_rst}
use Rattle.tcp_state.specs.Moments.{timeout_from}
use Rattle.tcp_state.specs.Moments as instants
use Rattle.tcp_state.specs.Offsets.{advanced_by}
use Rattle.tcp_state.specs.States.{is_closed, is_opening, is_time_wait, takes_writes, is_answering, sends_syn, after_close, after_fin}
use Rattle.tcp_state.specs.declared.endpoints.FourTuple.{FourTuple}
use Rattle.tcp_state.specs.declared.offer.OfferKind.{OfferKind}
use Rattle.tcp_state.specs.declared.offer.OfferKind.TheVariants as Kind
use Rattle.tcp_state.specs.declared.offer.OpenOffer.{OpenOffer}
use Rattle.tcp_state.specs.declared.state.State.{State}
use Rattle.tcp_state.specs.declared.state.State.TheVariants as In
use Rattle.tcp_ranges.specs.ReceiveMap.{space, front, following}
use Rattle.tcp_block.specs.Acknowledged.{windowed, state_after_ack}
use Rattle.tcp_block.specs.Answers.{acked, with_draw, sack_blocks}
use Rattle.tcp_block.specs.Arrival.{arrives, waiting_anew}
use Rattle.tcp_block.specs.TcbRules.{forgotten, nowhere, local_scale, shift_of, is_worth_telling}
use Rattle.tcp_block.specs.Calls.{listening, connecting, connected_by, four_tuple_for, sent_more, recv_after}
use Rattle.tcp_block.specs.Offers.{offer_of, offer_syn, offer_choice, offer_ack, offer_reset, offer_keep_alive, silent, number_at}
use Rattle.tcp_block.specs.Opening.{answering, connected, crossed}
use Rattle.tcp_block.specs.LossRecovery.{loss_probed}
use Rattle.tcp_block.specs.Retries.{heard, asked, one_more}
use Rattle.tcp_block.specs.Rules.{Choice, control_for, owes_syn, probe_choice, payload_choice, resend_choice, backed_off_now}
use Rattle.tcp_block.specs.Segments.{no_ranges, segment, ack_segment, syn_segment, reset_segment, keep_alive_segment, reset_for}
use Rattle.tcp_block.specs.Settled.{settled, sent_off, recorded, probed, end_of}
use Rattle.tcp_block.specs.Payload.{taken_in_order, has_out_of_order, fin_taken}
use Rattle.tcp_block.specs.Timeout.{timeout_restarted, timed_out}
use Rattle.tcp_block.specs.Value.{TcpValue, Arrived, with_tcb, unoffered, ended, new_socket, queued_in, free_in, room_of, window_of}
use Rattle.tcp_block.specs.declared.tcb.Tcb.{Tcb}
use Rattle.tcp_block.specs.Isn.{isn, number_for}
use Rattle.tcp_block.specs.Timestamps.{believed, tsval_taken}
use Rattle.tcp_state.specs.Endpoints.{pair_in}
use Rattle.tcp_invariants.specs.Edges.{answer_in, offer_in, goes, risen, furthest_after, KeepEdges}
use Rattle.tcp_invariants.specs.Ends.{is_over}
use Rattle.tcp_invariants.specs.Events.{Event, Setting, after, set, is_past}
use Rattle.tcp_invariants.specs.Events.Event.{Comes, Asked, Listens, Connects, Sends, Reads, Closes, Aborts, Sets}
use Rattle.tcp_invariants.specs.Events.Setting.{Timeout, KeepAlive, AckDelay, Nagle, HopLimit, Timestamps, Paused, Retries, Congestion, MinRto, FineTimer}
use Rattle.tcp_invariants.specs.InOrder.{sending_of, IsInOrder}
use Rattle.tcp_invariants.proofs.ArrivalCases.{timed, by_arrival, Received, Opening, Content, Drawing, acked_open, acked_last, heeded, held, kept, due, Told}
use Rattle.tcp_invariants.proofs.OfferCases.{Rules, FirstRules, LastRules, by_rules, begun, probing}
use Rattle.tcp_invariants.proofs.OrderRules.{event_order, new_order, opened_by, and_true}
use Rattle.tcp_invariants.proofs.OrderSteps.{clash, backed_order}
use Rattle.tcp_invariants.proofs.RcvAdvSteps.{RcvAdv, rcv_adv_of, IsRcvAdv, transitive, least, less, in_state, minus_least, syn_goes, small_number, Out, none_out, over_out}
use Rattle.tcp_invariants.proofs.RcvAdvSteps.{reset_out, some_out, acked_out, listens_rcv_adv, front_following, payload_rcv_adv, fin_rcv_adv, risen_is, following_twice, fin_later}
use Rattle.tcp_invariants.proofs.RcvAdvSteps.{after_later, plain_goes}

-- A SEGMENT COMES

module _ (capacity f : ℕ) (cx : ContextValue) (ip : IpRepr) (header : TcpHeader) (bytes : List ℕ) (v : TcpValue) (few : capacity ≤ 2 ^ 30) where
  abbrev Arrives : Arrived → Type 0
  Arrives a = Out capacity f v a.socket (answer_in a.answer)

  keeps : (w : TcpValue) → IsRcvAdv capacity f (rcv_adv_of w) → Out capacity f v w None
  keeps w p = none_out capacity f v w (less capacity f (f - risen v.tcb w.tcb) (rcv_adv_of w) p (minus_least f (risen v.tcb w.tcb)))

  answers : (x : TcpValue) (ranges : List (Option (ℕ × ℕ))) → IsRcvAdv capacity f (rcv_adv_of x) → Arrives (acked cx x ip header ranges)
  answers x ranges p = acked_out capacity f cx v x ip header ranges
      (less capacity f (f - risen v.tcb x.tcb) (rcv_adv_of x) p (minus_least f (risen v.tcb x.tcb)))

  rcv_adv_drawing : (x : TcpValue) → IsRcvAdv capacity f (rcv_adv_of x) → Drawing cx ip header bytes Arrives x
  rcv_adv_drawing x p = record { answers = λ _. answers (with_draw x cx.instant) no_ranges p; at_once = answers x no_ranges p; pauses = keeps x p }

  -- so much is taken
  rises : (y : TcpValue) (fills : Bool) (n : ℕ) → v.tcb.receiver.took_syn ≡ true → v.tcb.receiver.next.0 < 2 ^ 32 → n ≤ capacity + 1 →
      y.tcb.receiver.next ≡ advanced_by v.tcb.receiver.next n
      → IsRcvAdv capacity (f - n) (rcv_adv_of y) → Told cx ip header bytes Arrives y fills
  rises y fills n took small near is p = (
    λ _. none_out capacity f v (due cx ip header bytes Arrives y fills) lowered,
    acked_out capacity f cx v y ip header no_ranges lowered,
  )
    where
      below : (n capacity : ℕ) → n ≤ capacity + 1 → capacity ≤ 2 ^ 30 → n < 2 ^ 32
      below n capacity e f = omega arith

      lowered : IsRcvAdv capacity (f - risen v.tcb y.tcb) (rcv_adv_of y)
      lowered = subst (λ (k : ℕ). IsRcvAdv capacity (f - k) (rcv_adv_of y)) (sym (risen_is v.tcb y.tcb n took small (below n capacity near few) is)) p

  module _ (x : TcpValue) (p : IsRcvAdv capacity f (rcv_adv_of x)) (same : x.tcb.receiver.next ≡
      v.tcb.receiver.next) (took : v.tcb.receiver.took_syn ≡ true) where
    small : v.tcb.receiver.next.0 < 2 ^ 32
    small = subst (λ (n : SeqNumber). n.0 < 2 ^ 32) same p.number

    module _ (map : List (Option ℕ)) (size : length map ≡ free_in x) where
      abbrev count : ℕ
      count = length (front map)

      fits : count ≤ capacity
      fits = at (length (front map)) (length (following map)) (length map) (free_in x) (length x.received.waiting) capacity (front_following map) size p.room where
        at : (a b m free waiting c : ℕ) → a + b ≡ m → m ≡ free → waiting + free ≡ c → a ≤ c
        at a b m free waiting c e f g = omega arith

      data_stored : IsRcvAdv capacity (f - count) (rcv_adv_of (taken_in_order x map).socket)
      data_stored =
          payload_rcv_adv capacity f (rcv_adv_of x) count (length (x.received.waiting ++ front map)) (length (following map)) p
          (length-append x.received.waiting (front map))
          (front_following map ∙ size)

    rcv_adv_content : Content cx ip header bytes Arrives x
    rcv_adv_content = record {
      plain = (λ _. keeps (due cx ip header bytes Arrives (kept x x.tcb) false) p, answers (kept x x.tcb) no_ranges p);
      fin = λ _ takes.
          rises (kept x (fin_taken x.tcb cx.instant)) false 1 took small (one capacity) (ap (λ (n : SeqNumber). advanced_by n 1) same)
          (fin_rcv_adv capacity f (rcv_adv_of x) (after_fin x.tcb.state) p (fin_later x.tcb.state takes));
      ordered = λ map size takes _.
          rises (kept (taken_in_order x map).socket (taken_in_order x map).socket.tcb) (has_out_of_order x) (count map size) took
          small (more (count map size) capacity (fits map size)) (ap (λ (n : SeqNumber). advanced_by n (count map size)) same) (data_stored map size);
      ordered_fin = λ map size _ takes.
          rises (kept (taken_in_order x map).socket (fin_taken (taken_in_order x map).socket.tcb cx.instant)) (has_out_of_order x)
          (count map size + 1) took small (next (count map size) capacity (fits map size))
          (following_twice x.tcb.receiver.next (count map size) 1 ∙ ap (λ (n : SeqNumber). advanced_by n (count map size + 1)) same)
          (subst (λ (k : ℕ). IsRcvAdv capacity k (record (rcv_adv_of (taken_in_order x map).socket) {
            state = after_fin x.tcb.state;
            next = advanced_by (advanced_by x.tcb.receiver.next (count map size)) 1;
            rcv_adv = x.tcb.receiver.rcv_adv - count map size - 1;
          })) (twice f (count map size))
          (fin_rcv_adv capacity (f - count map size) (rcv_adv_of (taken_in_order x map).socket) (after_fin x.tcb.state) (data_stored map size)
          (fin_later x.tcb.state takes)));
      early = λ map offset size _. answers (kept (held x map) x.tcb) (sack_blocks (kept (held x map) x.tcb) offset)
          (subst (λ (n : ℕ). IsRcvAdv capacity f (record (rcv_adv_of x) { free = n })) (sym size) p);
    }
      where
        one : (c : ℕ) → 1 ≤ c + 1
        one c = omega arith

        more : (a c : ℕ) → a ≤ c → a ≤ c + 1
        more a c e = omega arith

        next : (a c : ℕ) → a ≤ c → a + 1 ≤ c + 1
        next a c e = omega arith

        twice : (f a : ℕ) → f - a - 1 ≡ f - (a + 1)
        twice f a = omega arith

  rcv_adv_received :
      (u : TcpValue) → IsRcvAdv capacity f (rcv_adv_of u) → u.tcb.receiver.next ≡ v.tcb.receiver.next → v.tcb.receiver.took_syn ≡ true →
      is_past u.tcb.state ≡ true
      → Received cx ip header bytes Arrives u
  rcv_adv_received u p same took past = record {
    stays = keeps u p;
    refuses = reset_out capacity f v u (reset_for header (length bytes)) refl
        (less capacity f (f - risen v.tcb u.tcb) (rcv_adv_of u) p (minus_least f (risen v.tcb u.tcb)));
    draws = rcv_adv_drawing u p;
    falls = λ _ _ _. over_out capacity f v (listening u u.tcb.names.listen) refl (listens_rcv_adv capacity u u.tcb.names.listen f p);
    ends = λ _ _ _. over_out capacity f v (ended u) refl (less capacity f 0 _ (in_state capacity f (rcv_adv_of u) In.Closed p (λ is. clash (sym is))) (least f));
    closes = λ by _ _. over_out capacity f v (acked_last (timed cx.instant header u by) by cx.instant) refl
        (less capacity f 0 _ (in_state capacity f (rcv_adv_of u) In.Closed p (λ is. clash (sym is))) (least f));
    taken = λ by _ _.
        rcv_adv_content (heeded cx.instant header (length bytes) u by (acked_open (timed cx.instant header u by) by cx.instant).tcb) (acked_rcv_adv by) same took;
    taken_window = λ by _ _.
        rcv_adv_content (heeded cx.instant header (length bytes) u by (windowed (acked_open (timed cx.instant header u by) by cx.instant).tcb header))
        (acked_rcv_adv by) same took;
    news = λ by _ _. rcv_adv_drawing (waiting_anew (acked_open (timed cx.instant header u by) by cx.instant) header cx.instant) (acked_rcv_adv by);
    outside = rcv_adv_drawing (waiting_anew u header cx.instant) p;
    old = λ _. rcv_adv_content (with_tcb u (tsval_taken (heard u.tcb) header cx.instant)) p same took;
  }
    where
      acked_rcv_adv : (by : ℕ) → IsRcvAdv capacity f (record (rcv_adv_of u) { state = state_after_ack u.tcb by (queued_in u) })
      acked_rcv_adv by = in_state capacity f (rcv_adv_of u) (state_after_ack u.tcb by (queued_in u)) p (λ is. clash (sym is ∙ after_later u by past))

  rcv_adv_opening : (u : TcpValue) → IsRcvAdv capacity f (rcv_adv_of u) → (is_over u.tcb.state ≡ true → f ≡ 0) → Opening cx ip header bytes Arrives u
  rcv_adv_opening u p none = record {
    opens = λ at _. none_out capacity f v
        (with_tcb u (timeout_restarted (believed (answering u.tcb ip header (isn cx (pair_in ip header))) cx.instant) cx.instant 0))
        (less capacity 0 _ _ (begins header.options.window_scale In.SynReceived refl) (nothing _ (none (ap is_over at))));
    refuses = reset_out capacity f v u (reset_for header (length bytes)) refl
        (less capacity f (f - risen v.tcb u.tcb) (rcv_adv_of u) p (minus_least f (risen v.tcb u.tcb)));
    ends = λ _. over_out capacity f v (ended u) refl (less capacity f 0 _ (in_state capacity f (rcv_adv_of u) In.Closed p (λ is. clash (sym is))) (least f));
    connects = λ at _. none_out capacity f v
        (with_tcb u (timeout_restarted (believed (connected u.tcb header cx.instant) cx.instant) cx.instant (queued_in u)))
        (less capacity f _ _ (takes header.options.window_scale In.Established refl at) (minus_least f _));
    crosses = λ at _. none_out capacity f v (with_tcb u (timeout_restarted (believed (crossed u.tcb header) cx.instant) cx.instant (queued_in u)))
        (less capacity f _ _ (takes header.options.window_scale In.SynReceived refl at) (minus_least f _));
  }
    where
      nothing : (k : ℕ) → f ≡ 0 → f - k ≤ 0
      nothing k e = omega arith

      synced : Option ℕ → State → RcvAdv
      synced scale state = record (rcv_adv_of u) { state = state; next = advanced_by header.seq_number 1; took_syn = true; scale = scale }

      begins : (scale : Option ℕ) (state : State) → is_opening state ≡ false → IsRcvAdv capacity 0 (synced scale state)
      begins scale state later = record {
        room = p.room;
        number = small_number header.seq_number 1;
        opening = λ is. clash (sym is ∙ later);
        below = least _;
        told = least _;
        within = p.within;
      }

      takes : (scale : Option ℕ) (state : State) → is_opening state ≡ false → u.tcb.state ≡ In.SynSent → IsRcvAdv capacity f (synced scale state)
      takes scale state later at = record {
        room = p.room;
        number = small_number header.seq_number 1;
        opening = λ is. clash (sym is ∙ later);
        below = p.below;
        told = scaled f (2 ^ shift_of scale (local_scale (room_of u.received))) unscaled (pow_pos (shift_of scale (local_scale (room_of u.received))));
        within = p.within;
      }
        where
          unscaled : f ≤ 65_535 * 1
          unscaled = subst (λ (s : Option ℕ). f ≤ 65_535 * 2 ^ shift_of s (local_scale (room_of u.received))) (p.opening (ap is_opening at)) p.told

          scaled : (f u : ℕ) → f ≤ 65_535 * 1 → 1 ≤ u → f ≤ 65_535 * u
          scaled f u e g = omega arith

rcv_adv_arrival :
    (capacity f : ℕ) (cx : ContextValue) (ip : IpRepr) (header : TcpHeader) (bytes : List ℕ) (v : TcpValue) → capacity ≤ 2 ^ 30 → IsInOrder (sending_of v)
    → IsRcvAdv capacity f (rcv_adv_of v) → (is_over v.tcb.state ≡ true → f ≡ 0)
    → Out capacity f v (arrives cx v ip header bytes).socket (answer_in (arrives cx v ip header bytes).answer)
rcv_adv_arrival capacity f cx ip header bytes v few order p none =
    by_arrival cx ip header bytes (Arrives capacity f cx ip header bytes v few) v (keeps capacity f cx ip header bytes v few (unoffered v) p)
    (λ _. rcv_adv_opening capacity f cx ip header bytes v few (unoffered v) p none)
    (λ past. rcv_adv_received capacity f cx ip header bytes v few (unoffered v) p refl (order.took past) past)

-- IT IS ASKED

not_syn : (c : Choice) (queued : ℕ) → is_syn (control_for c queued) ≡ false
not_syn c queued =
    cond_both c.fin Control.Fin (if not (c.len == 0) && (c.offset + c.len == queued) then Control.Psh else Control.None) (λ (k : TcpControl). is_syn k ≡ false)
    (λ _. refl)
    (λ _. cond_both (not (c.len == 0) && (c.offset + c.len == queued)) Control.Psh Control.None (λ (k : TcpControl). is_syn k ≡ false) (λ _. refl) (λ _. refl))

module _ (capacity f : ℕ) (cx : ContextValue) (v : TcpValue) where
  -- whether what is offered goes or not
  abbrev Both : Offered TcpValue → Type 0
  Both o = Out capacity f v (settled true o.socket) (offer_in o.socket.offered) × Out capacity f v (settled false o.socket) None

  stays : (w : TcpValue) → IsRcvAdv capacity f (rcv_adv_of w) → Out capacity f v w None
  stays w p = none_out capacity f v w (less capacity f (f - risen v.tcb w.tcb) (rcv_adv_of w) p (minus_least f (risen v.tcb w.tcb)))

  none_offered : (x : TcpValue) → x.offered ≡ None → IsRcvAdv capacity f (rcv_adv_of x) → Both (silent false x)
  none_offered x none p = (
    subst (λ (o : Option OpenOffer). Out capacity f v (sent_off o (unoffered x)) (offer_in o)) (sym none) (stays (unoffered x) p),
    stays (unoffered x) p,
  )

  -- whether its payload is worth telling
  abbrev tells : TcpValue → Bool
  tells x = (length x.received.waiting == 0) || is_worth_telling x.tcb (room_of x.received) (free_in x)

  -- a segment with the window of the socket goes
  payload_out : (x : TcpValue) (pair : FourTuple) (c : Choice) → IsRcvAdv capacity f (rcv_adv_of x) → Both (offer_choice Kind.Payload cx x pair c)
  payload_out x pair c p =
      let w : TcpValue = settled true (offer_choice Kind.Payload cx x pair c).socket in
      let goes =
      plain_goes capacity (f - risen v.tcb w.tcb) (rcv_adv_of x)
      (less capacity f (f - risen v.tcb w.tcb) (rcv_adv_of x) p (minus_least f (risen v.tcb w.tcb))) (tells x)
      x.tcb.state (λ e. e) (is_syn (control_for c (queued_in x))) (is_rst (control_for c (queued_in x))) (not_syn c (queued_in x)) in (
        some_out capacity f v w (segment x.tcb pair cx.instant (window_of x) (control_for c (queued_in x)) (number_at x.tcb c.offset)) goes.0 goes.1,
        stays (unoffered x) p,
      )

  again_out : (x : TcpValue) (pair : FourTuple) (c : Choice) → IsRcvAdv capacity f (rcv_adv_of x) → Both (offer_choice Kind.FastRetransmission cx x pair c)
  again_out x pair c p =
      let w : TcpValue = settled true (offer_choice Kind.FastRetransmission cx x pair c).socket in
      let goes =
      plain_goes capacity (f - risen v.tcb w.tcb) (rcv_adv_of x)
      (less capacity f (f - risen v.tcb w.tcb) (rcv_adv_of x) p (minus_least f (risen v.tcb w.tcb))) (tells x)
      x.tcb.state (λ e. e) (is_syn (control_for c (queued_in x))) (is_rst (control_for c (queued_in x))) (not_syn c (queued_in x)) in (
        some_out capacity f v w (segment x.tcb pair cx.instant (window_of x) (control_for c (queued_in x)) (number_at x.tcb c.offset)) goes.0 goes.1,
        stays (unoffered x) p,
      )

  ack_out : (kind : OfferKind) (x : TcpValue) (pair : FourTuple) → kind ≡ Kind.Ack ⊎ (kind ≡ Kind.WindowUpdate) → IsRcvAdv capacity f (rcv_adv_of x) →
      Both (offer_ack kind cx x pair)
  ack_out kind x pair which p =
      ⊎_elim (λ e. subst (λ (k : OfferKind). Both (offer_ack k cx x pair)) (sym e) ack)
      (λ e. subst (λ (k : OfferKind). Both (offer_ack k cx x pair)) (sym e) update) which where
        ack : Both (offer_ack Kind.Ack cx x pair)
        ack =
            let w : TcpValue = settled true (offer_ack Kind.Ack cx x pair).socket in
            let goes =
            plain_goes capacity (f - risen v.tcb w.tcb) (rcv_adv_of x)
            (less capacity f (f - risen v.tcb w.tcb) (rcv_adv_of x) p (minus_least f (risen v.tcb w.tcb))) (tells x)
            x.tcb.state (λ e. e) false false refl in
            (some_out capacity f v w (ack_segment x.tcb pair cx.instant (window_of x)) goes.0 goes.1, stays (unoffered x) p)

        update : Both (offer_ack Kind.WindowUpdate cx x pair)
        update =
            let w : TcpValue = settled true (offer_ack Kind.WindowUpdate cx x pair).socket in
            let goes =
            plain_goes capacity (f - risen v.tcb w.tcb) (rcv_adv_of x)
            (less capacity f (f - risen v.tcb w.tcb) (rcv_adv_of x) p (minus_least f (risen v.tcb w.tcb))) (tells x)
            x.tcb.state (λ e. e) false false refl in
            (some_out capacity f v w (ack_segment x.tcb pair cx.instant (window_of x)) goes.0 goes.1, stays (unoffered x) p)

  -- a question counts
  asked_out : (x : TcpValue) (b : Tcb) (now : ℤ) (segment : TcpHeader) → Out capacity f v (with_tcb x b) (Some segment) →
      Out capacity f v (with_tcb x (asked b now)) (Some segment)
  asked_out x b now segment out =
      cond_both (instants.is_over now b.timers.counts_from)
      (record b {
        sender = record b.sender { unanswered = one_more b.sender.unanswered };
        timers = record b.timers { counts_from = Some (timeout_from now b.round_trip) };
      })
      b (λ (new : Tcb). Out capacity f v (with_tcb x new) (Some segment))
      (λ _. out)
      (λ _. out)

  probe_out : (x : TcpValue) (pair : FourTuple) → IsRcvAdv capacity f (rcv_adv_of x) → Both (offer_choice Kind.Probe cx x pair probe_choice)
  probe_out x pair p =
      let o = opened_by cx pair Kind.Probe x
      (segment x.tcb pair cx.instant (window_of x) (control_for probe_choice (queued_in x)) (number_at x.tcb 0)) 0 1 in
      let b = recorded x.tcb o (room_of x.received) in
      let after_it = probed b (end_of b o) cx.instant in
      let w : TcpValue = with_tcb (unoffered x) after_it in
      let goes =
      plain_goes capacity (f - risen v.tcb w.tcb) (rcv_adv_of x)
      (less capacity f (f - risen v.tcb w.tcb) (rcv_adv_of x) p (minus_least f (risen v.tcb w.tcb))) (tells x)
      x.tcb.state (λ e. e) (is_syn (control_for probe_choice (queued_in x))) (is_rst (control_for probe_choice (queued_in x)))
      (not_syn probe_choice (queued_in x)) in (
        asked_out (unoffered x) after_it cx.instant (segment x.tcb pair cx.instant (window_of x) (control_for probe_choice (queued_in x)) (number_at x.tcb 0))
            (some_out capacity f v w (segment x.tcb pair cx.instant (window_of x) (control_for probe_choice (queued_in x)) (number_at x.tcb 0))
            goes.0 goes.1),
        stays (unoffered x) p,
      )

  keep_alive_out : (x : TcpValue) (pair : FourTuple) → IsRcvAdv capacity f (rcv_adv_of x) → Both (offer_keep_alive cx x pair)
  keep_alive_out x pair p =
      let o = opened_by cx pair Kind.KeepAlive x (keep_alive_segment x.tcb pair cx.instant (window_of x)) 0 1 in
      let b = recorded x.tcb o (room_of x.received) in
      let w : TcpValue = with_tcb (unoffered x) b in
      let goes =
      plain_goes capacity (f - risen v.tcb w.tcb) (rcv_adv_of x)
      (less capacity f (f - risen v.tcb w.tcb) (rcv_adv_of x) p (minus_least f (risen v.tcb w.tcb))) (tells x)
      x.tcb.state (λ e. e) false false refl in (
        asked_out (unoffered x) b cx.instant (keep_alive_segment x.tcb pair cx.instant (window_of x))
            (some_out capacity f v w (keep_alive_segment x.tcb pair cx.instant (window_of x)) goes.0 goes.1),
        stays (unoffered x) p,
      )

  syn_out : (x : TcpValue) (pair : FourTuple) → IsRcvAdv capacity f (rcv_adv_of x) → length x.received.waiting ≡ 0 → Both (offer_syn cx x pair)
  syn_out x pair p none =
      let w : TcpValue = settled true (offer_syn cx x pair).socket in
      let goes = syn_goes capacity (f - risen v.tcb w.tcb) (rcv_adv_of x)
      (less capacity f (f - risen v.tcb w.tcb) (rcv_adv_of x) p (minus_least f (risen v.tcb w.tcb))) none in
      (some_out capacity f v w (syn_segment x.tcb pair cx.instant cx.ip_mtu (room_of x.received) (free_in x)) goes.0 goes.1, stays (unoffered x) p)

  rcv_adv_last : (x : TcpValue) (pair : FourTuple) → x.offered ≡ None → IsRcvAdv capacity f (rcv_adv_of x) → LastRules cx pair Both x
  rcv_adv_last x pair none p = record {
    probe = λ _ _. probe_out x pair p;
    window_limited = λ _ _. payload_out x pair (payload_choice x.tcb pair.addresses cx.ip_mtu x.queued) p;
    ack = λ _. ack_out Kind.Ack x pair (inl refl) p;
    update = λ _ _. ack_out Kind.WindowUpdate x pair (inr refl) p;
    keep_alive = λ _ _. keep_alive_out x pair p;
    quiet = λ _. none_offered x none p;
  }

  rcv_adv_first : (w : TcpValue) (pair : FourTuple) → w.offered ≡ None → IsRcvAdv capacity f (rcv_adv_of w) → IsInOrder (sending_of w) → FirstRules cx pair Both w
  rcv_adv_first w pair none p order = record {
    syn = λ owes. syn_out w pair p ((order.opening (owes_unacked owes)).1);
    again = λ _ _. again_out w pair (resend_choice w.tcb pair.addresses cx.ip_mtu w.queued) p;
    payload = λ _ _. payload_out w pair (payload_choice w.tcb pair.addresses cx.ip_mtu w.queued) p;
    last = λ _. rcv_adv_last (probing cx w) pair none p;
  }
    where
      owes_unacked : owes_syn w.tcb ≡ true → w.tcb.sender.syn_unacked ≡ true
      owes_unacked owes =
          let parts = and_true (sends_syn w.tcb.state && not (is_answering w.tcb.state && w.tcb.settings.synack_paused))
          (w.tcb.sender.syn_unacked && (w.tcb.sender.flight_size == 0)) owes in
          (and_true w.tcb.sender.syn_unacked (w.tcb.sender.flight_size == 0) parts.1).0

  closed_out : (b : Tcb) → IsRcvAdv capacity f (rcv_adv_of v) → b.state ≡ In.Closed →
      rcv_adv_of (with_tcb (unoffered v) b) ≡ record (rcv_adv_of v) { state = In.Closed }
      → Out capacity f v (with_tcb (unoffered v) b) None
  closed_out b p closed same =
      over_out capacity f v (with_tcb (unoffered v) b) (ap is_over closed)
      (subst (λ (e : RcvAdv). IsRcvAdv capacity 0 e) (sym same)
      (less capacity f 0 _ (in_state capacity f (rcv_adv_of v) In.Closed p (λ is. clash (sym is))) (least f)))

  rcv_adv_rules : IsRcvAdv capacity f (rcv_adv_of v) → IsInOrder (sending_of v) → Rules cx v Both
  rcv_adv_rules p order = record {
    nobody = λ _. (stays (unoffered v) p, stays (unoffered v) p);
    time_wait = λ _. (closed_out (forgotten v.tcb) p refl refl, closed_out (forgotten v.tcb) p refl refl);
    timeout = λ _. (closed_out (timed_out v.tcb) p refl refl, closed_out (timed_out v.tcb) p refl refl);
    closed = λ _. (stays (unoffered v) p, stays (unoffered v) p);
    reset = λ pair _ _. (reset_goes pair, stays (unoffered v) p);
    falls = λ _ _ _. (fallen, fallen);
    over = λ _ _ _. (closed_out (timed_out v.tcb) p refl refl, closed_out (timed_out v.tcb) p refl refl);
    backs = λ pair _ _ _. rcv_adv_first (with_tcb (unoffered v) (backed_off_now (begun cx v))) pair refl p (backed_order (sending_of v) order);
    probes = λ pair _ _ _ _. rcv_adv_first (with_tcb (unoffered v) (loss_probed (begun cx v))) pair refl p order;
    goes = λ pair _ _ _. rcv_adv_first (with_tcb (unoffered v) (begun cx v)) pair refl p order;
  }
    where
      fallen : Out capacity f v (listening (unoffered v) v.tcb.names.listen) None
      fallen = over_out capacity f v (listening (unoffered v) v.tcb.names.listen) refl (listens_rcv_adv capacity (unoffered v) v.tcb.names.listen f p)

      reset_goes : (pair : FourTuple) →
          Out capacity f v (settled true (offer_reset cx (unoffered v) pair).socket) (Some (reset_segment v.tcb pair cx.instant (window_of v)))
      reset_goes pair = (
        ((λ no _. clash no), (λ syn. clash (sym syn))),
        less capacity 0 _ _ (record {
          room = p.room;
          number = p.number;
          opening = λ is. clash (sym is);
          below = least _;
          told = least _;
          within = kept;
        }) (least_of_nothing 0),
      )
        where
          least_of_nothing : (n : ℕ) → 0 ≤ n
          least_of_nothing n = omega arith

          w : TcpValue
          w = settled true (offer_reset cx (unoffered v) pair).socket

          kept : w.tcb.receiver.rcv_adv ≤ free_in w
          kept =
              let goes = plain_goes capacity f (rcv_adv_of v) p (tells v) v.tcb.state (λ e. e) false false refl in goes.1.within

rcv_adv_offer : (capacity f : ℕ) (cx : ContextValue) (v : TcpValue) → IsRcvAdv capacity f (rcv_adv_of v) → IsInOrder (sending_of v) →
    Both capacity f cx v (offer_of cx v)
rcv_adv_offer capacity f cx v p order = by_rules cx v (Both capacity f cx v) (rcv_adv_rules capacity f cx v p order)

-- ITS USER CALLS

-- bytes are read
read_rcv_adv : (capacity f : ℕ) (e : RcvAdv) (waiting free : ℕ) → IsRcvAdv capacity f e → waiting + free ≡ e.waiting + e.free → e.free ≤ free
    → IsRcvAdv capacity f (record e { waiting = waiting; free = free })
read_rcv_adv capacity f e waiting free p same more = record {
  room = same ∙ p.room;
  number = p.number;
  opening = p.opening;
  below = p.below;
  told = subst (λ (n : ℕ). f ≤ 65_535 * 2 ^ shift_of e.scale (local_scale n)) (sym same) p.told;
  within = transitive e.rcv_adv e.free free p.within more;
}

close_opening : (state : State) → is_opening state ≡ false → is_opening (after_close state) ≡ false
close_opening In.SynSent e = clash e
close_opening other e = refl

module _ (capacity f : ℕ) (v : TcpValue) (p : IsRcvAdv capacity f (rcv_adv_of v)) where
  same_out : (w : TcpValue) → IsRcvAdv capacity f (rcv_adv_of w) → Out capacity f v w None
  same_out w q = none_out capacity f v w (less capacity f (f - risen v.tcb w.tcb) (rcv_adv_of w) q (minus_least f (risen v.tcb w.tcb)))

  shut_out : (w : TcpValue) → is_over w.tcb.state ≡ true → rcv_adv_of w ≡ record (rcv_adv_of v) { state = In.Closed } → Out capacity f v w None
  shut_out w over same =
      over_out capacity f v w over
      (subst (λ (e : RcvAdv). IsRcvAdv capacity 0 e) (sym same)
      (less capacity f 0 _ (in_state capacity f (rcv_adv_of v) In.Closed p (λ is. clash (sym is))) (least f)))

  connects_out : (names : Option FourTuple) (number : ℕ) → f ≡ 0 → Out capacity f v (connected_by v names number) None
  connects_out None number none = same_out (unoffered v) p
  connects_out (Some pair) number none =
      none_out capacity f v (connecting v pair number) (record {
        room = (listens_rcv_adv capacity v nowhere f p).room;
        number = (listens_rcv_adv capacity v nowhere f p).number;
        opening = λ _. refl;
        below = nothing f (risen v.tcb (connecting v pair number).tcb) none;
        told = transitive _ 0 _ (nothing f (risen v.tcb (connecting v pair number).tcb) none) (least _);
        within = least _;
      })
    where
      nothing : (f k : ℕ) → f ≡ 0 → f - k ≤ 0
      nothing f k e = omega arith

  reads_out : (count : ℕ) → Out capacity f v (recv_after v count) None
  reads_out count =
      same_out (recv_after v count)
      (read_rcv_adv capacity f (rcv_adv_of v) (length (drop count v.received.waiting)) (length (v.received.map ++ space (length (take count v.received.waiting)))) p
      (sum (length (drop count v.received.waiting)) (length (v.received.map ++ space (length (take count v.received.waiting)))) (length v.received.map)
      (length v.received.waiting) count
      (length (take count v.received.waiting)) (length-drop count v.received.waiting) grows (length-take count v.received.waiting))
      (more (length (v.received.map ++ space (length (take count v.received.waiting)))) (length v.received.map) (length (take count v.received.waiting)) grows))
    where
      spaces : (n : ℕ) → length (space n) ≡ n
      spaces zero = refl
      spaces (suc n) = ap suc (spaces n)

      grows : length (v.received.map ++ space (length (take count v.received.waiting))) ≡ length v.received.map + length (take count v.received.waiting)
      grows = length-append v.received.map (space (length (take count v.received.waiting))) ∙
          ap (λ (n : ℕ). length v.received.map + n) (spaces (length (take count v.received.waiting)))

      sum : (left new free waiting count taken : ℕ) → left ≡ waiting - count → new ≡ free + taken → taken ≡ min count waiting → left + new ≡ waiting + free
      sum left new free waiting count taken e g h = omega arith

      more : (new free taken : ℕ) → new ≡ free + taken → free ≤ new
      more new free taken e = omega arith

  set_out : (setting : Setting) → Out capacity f v (set v setting) None
  set_out (Timeout duration) = same_out (set v (Timeout duration)) p
  set_out (KeepAlive interval) = same_out (set v (KeepAlive interval)) p
  set_out (AckDelay duration) = same_out (set v (AckDelay duration)) p
  set_out (Nagle enabled) = same_out (set v (Nagle enabled)) p
  set_out (HopLimit limit) = same_out (set v (HopLimit limit)) p
  set_out (Timestamps generator) = same_out (set v (Timestamps generator)) p
  set_out (Paused paused) = same_out (set v (Paused paused)) p
  set_out (Retries limit) = same_out (set v (Retries limit)) p
  set_out (MinRto duration) = same_out (set v (MinRto duration)) p
  set_out (FineTimer fine) = same_out (set v (FineTimer fine)) p
  set_out (Congestion control) = same_out (set v (Congestion control)) p

closed_over : (state : State) → is_closed state ≡ true → is_over state ≡ true
closed_over In.Closed e = refl
closed_over other e = clash (sym e)

pub event_rcv_adv :
    (capacity f : ℕ) (v : TcpValue) (it : Event) → capacity ≤ 2 ^ 30 → IsInOrder (sending_of v) → IsRcvAdv capacity f (rcv_adv_of v) →
    (is_over v.tcb.state ≡ true → f ≡ 0)
    → Out capacity f v (after v it) (goes v it)
event_rcv_adv capacity f v (Comes cx ip header bytes) few order p none = rcv_adv_arrival capacity f cx ip header bytes v few order p none
event_rcv_adv capacity f v (Asked cx true) few order p none = (rcv_adv_offer capacity f cx v p order).0
event_rcv_adv capacity f v (Asked cx false) few order p none = (rcv_adv_offer capacity f cx v p order).1
event_rcv_adv capacity f v (Listens endpoint) few order p none =
    cond_both (is_closed v.tcb.state && not (endpoint.port == 0)) (listening v endpoint) (unoffered v) (λ (w : TcpValue). Out capacity f v w None)
    (λ _. over_out capacity f v (listening v endpoint) refl (listens_rcv_adv capacity v endpoint f p)) (λ _. same_out capacity f v p (unoffered v) p)
event_rcv_adv capacity f v (Connects cx remote local) few order p none =
    cond_both (is_closed v.tcb.state) (connected_by v (four_tuple_for cx remote local) (number_for cx (four_tuple_for cx remote local))) (unoffered v)
    (λ (w : TcpValue). Out capacity f v w None)
    (λ closed. connects_out capacity f v p (four_tuple_for cx remote local) (number_for cx (four_tuple_for cx remote local)) (none (closed_over v.tcb.state closed)))
    (λ _. same_out capacity f v p (unoffered v) p)
event_rcv_adv capacity f v (Sends bytes) few order p none =
    let some = take (min (length bytes) (length v.queued.free)) bytes in
    cond_both (takes_writes v.tcb.state) (sent_more v (enqueued (anchored v.queued) some)) (unoffered v) (λ (w : TcpValue). Out capacity f v w None)
    (λ _. same_out capacity f v p (sent_more v (enqueued (anchored v.queued) some)) p) (λ _. same_out capacity f v p (unoffered v) p)
event_rcv_adv capacity f v (Reads count) few order p none = reads_out capacity f v p count
event_rcv_adv capacity f v Closes few order p none =
    cond_both (is_opening v.tcb.state) (ended (unoffered v)) (with_tcb (unoffered v) (record v.tcb { state = after_close v.tcb.state }))
    (λ (w : TcpValue). Out capacity f v w None)
    (λ _. shut_out capacity f v p (ended (unoffered v)) refl refl)
    (λ on.
    same_out capacity f v p (with_tcb (unoffered v) (record v.tcb { state = after_close v.tcb.state }))
    (in_state capacity f (rcv_adv_of v) (after_close v.tcb.state) p (λ is. clash (sym is ∙ close_opening v.tcb.state on))))
event_rcv_adv capacity f v Aborts few order p none =
    let aborted : TcpValue =
    with_tcb (unoffered v) (record v.tcb { state = In.Closed; sender = record v.tcb.sender { reset_due = is_some v.tcb.names.pair } }) in
    cond_both (is_time_wait v.tcb.state) (ended (unoffered v)) aborted (λ (w : TcpValue). Out capacity f v w None)
    (λ _. shut_out capacity f v p (ended (unoffered v)) refl refl) (λ _. shut_out capacity f v p aborted refl refl)
event_rcv_adv capacity f v (Sets setting) few order p none = set_out capacity f v p setting

pub over_none : (t : Bool) (n : ℕ) → t ≡ true → (if t then 0 else n) ≡ 0
over_none true n e = refl
over_none false n e = clash (sym e)

led_edges : (capacity f : ℕ) (v : TcpValue) (events : List Event) → capacity ≤ 2 ^ 30 → IsInOrder (sending_of v) → IsRcvAdv capacity f (rcv_adv_of v)
    → (is_over v.tcb.state ≡ true → f ≡ 0) → KeepEdges v f events
led_edges capacity f v [] few order p none = tt
led_edges capacity f v (it ∷ more) few order p none =
    let out = event_rcv_adv capacity f v it few order p none in (
      out.0,
      led_edges capacity (furthest_after v it f) (after v it) more few (event_order v it order) out.1
          (λ over. over_none (is_over (after v it).tcb.state) _ over),
    )

pub new_rcv_adv : (capacity : ℕ) (queued : Ring ℕ) → IsRcvAdv capacity 0 (rcv_adv_of (new_socket capacity queued))
new_rcv_adv capacity queued = record {
  room = none_waits (length (space capacity)) capacity (spaces capacity);
  number = omega arith;
  opening = λ is. clash (sym is);
  below = omega arith;
  told = least _;
  within = least _;
}
  where
    spaces : (n : ℕ) → length (space n) ≡ n
    spaces zero = refl
    spaces (suc n) = ap suc (spaces n)

    none_waits : (a b : ℕ) → a ≡ b → 0 + a ≡ b
    none_waits a b e = omega arith

pub new_edges : (capacity : ℕ) (queued : Ring ℕ) (events : List Event) → capacity ≤ 2 ^ 30 → KeepEdges (new_socket capacity queued) 0 events
new_edges capacity queued events few =
    led_edges capacity 0 (new_socket capacity queued) events few (new_order capacity queued) (new_rcv_adv capacity queued) (λ _. refl)
