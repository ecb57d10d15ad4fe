-- Each event keeps a socket in order.
use Rattle.std.proofs.Common.{◌≡◌, ℕ, ◌+◌, ◌-◌, ◌^◌, ◌<◌, ◌≤◌, ◌==◌, ◌&&◌, ◌||◌, nat_lt, not, min, max, ℤ, Bool, true, false, if◌then◌else◌, List}
use Rattle.std.proofs.Common.{[], ◌∷◌, length, take, drop, Option, Some, None, is_some, refl, sym, ap, ◌∙◌, subst, arith, length-append}
use Rattle.std.proofs.lemmas.Bool.{cond_both, eqb-true}
use Rattle.std.proofs.lemmas.List.{length-drop}
use Rattle.ip_wire.specs.Control.{control_len}
use Rattle.ip_wire.specs.IpListenEndpoint.{IpListenEndpoint}
use Rattle.ip_wire.specs.IpRepr.{IpRepr}
use Rattle.ip_wire.specs.Seq.{distance_of}
use Rattle.ip_wire.specs.SeqNumber.{SeqNumber}
use Rattle.ip_wire.specs.Tcp.{header_len}
use Rattle.ip_wire.specs.TcpControl.{TcpControl}
use Rattle.ip_wire.specs.TcpControl.TheVariants as Control
use Rattle.ip_wire.specs.TcpHeader.{TcpHeader}
use Rattle.net_base.specs.Ring.{Ring, cleared, anchored, enqueued}
use Rattle.tcp_block.specs.Context.{ContextValue}
use Rattle.tcp_block.specs.BaseOffers.{Offered}
use Rattle.tcp_state.specs.Endpoints.{header_for}
use Rattle.tcp_state.specs.Moments.{is_due, is_over, timeout_from}
use Rattle.tcp_state.specs.Offsets.{advanced_by}
use Rattle.tcp_state.specs.States.{is_closed, is_listening, is_opening, is_answering, is_time_wait, sends_syn, may_send_data, owes_fin, takes_writes, after_ack}
use Rattle.tcp_state.specs.States.{after_ack_of_fin, after_close}
use Rattle.tcp_state.specs.declared.endpoints.FourTuple.{FourTuple}
use Rattle.tcp_state.specs.declared.offer.OfferKind.{OfferKind}
use Rattle.tcp_state.specs.declared.offer.OfferKind.TheVariants as Kind
use Rattle.tcp_state.specs.declared.offer.OpenOffer.{OpenOffer}
use Rattle.tcp_state.specs.declared.state.State.{State}
use Rattle.tcp_state.specs.declared.state.State.TheVariants as In
use Rattle.tcp_block.specs.Acknowledged.{acks_fin, state_after_ack, freed_by, windowed, is_blind}
use Rattle.tcp_block.specs.Arrival.{arrives, waiting_anew}
use Rattle.tcp_block.specs.TcbRules.{one_if, unacked}
use Rattle.tcp_block.specs.Calls.{listening, connecting, connected_by, four_tuple_for, sent_more}
use Rattle.tcp_block.specs.Offers.{offer_of, offer_choice, offer_syn, number_at}
use Rattle.tcp_block.specs.Opening.{answering}
use Rattle.tcp_block.specs.Probing.{is_probing}
use Rattle.tcp_block.specs.Retries.{asked, one_more, heard}
use Rattle.tcp_state.specs.Scoreboard.{first_missing}
use Rattle.tcp_block.specs.LossRecovery.{hole_len, loss_probed}
use Rattle.tcp_block.specs.Rules.{Choice, congestion_limit, window_limit, size_limit, next_offset, payload_choice, resend_choice, probe_choice}
use Rattle.tcp_block.specs.Rules.{control_for, owes_syn, backed_off_now, congestion_room, sent_count}
use Rattle.tcp_block.proofs.Holes as Holes
use Rattle.tcp_block.specs.Segments.{hop_limit_of, segment, keep_alive_segment}
use Rattle.tcp_block.specs.Settled.{past_sacked, settled, sent_off, recorded, probed, end_of}
use Rattle.tcp_block.specs.Timeout.{timeout_restarted}
use Rattle.tcp_block.specs.Value.{TcpValue, Arrived, with_tcb, unoffered, ended, new_socket, queued_in, room_of, window_of}
use Rattle.tcp_block.specs.declared.tcb.Tcb.{Tcb}
use Rattle.tcp_block.specs.declared.tcb.CongestionControl.{CongestionControl}
use Rattle.tcp_block.specs.declared.tcb.CongestionControl.TheVariants as Avoids
use Rattle.tcp_block.specs.Isn.{isn, number_for}
use Rattle.tcp_block.specs.Timestamps.{believed, tsval_taken}
use Rattle.tcp_block.proofs.Undone.{undone_cases}
use Rattle.tcp_block.proofs.Numbers.{number_small, number_for_small}
use Rattle.tcp_state.specs.Endpoints.{pair_in}
use Rattle.tcp_invariants.specs.Events.{Event, Setting, after, led, set, is_past}
use Rattle.tcp_invariants.specs.Events.Event.{Comes, Asked, Listens, Connects, Sends, Reads, Closes, Aborts, Sets}
use Rattle.tcp_invariants.specs.Events.Setting.{Timeout, KeepAlive, AckDelay, Nagle, HopLimit, Timestamps, Paused, Retries, Congestion, MinRto, FineTimer}
use Rattle.tcp_invariants.specs.InOrder.{has_all, Sending, sending_of, all_of, IsInOrder}
use Rattle.tcp_invariants.proofs.ArrivalCases.{timed, by_arrival, Received, Opening, Content, Drawing, acked_open, heeded}
use Rattle.tcp_invariants.proofs.OfferCases.{Rules, FirstRules, LastRules, by_rules, begun, probing}
use Rattle.tcp_invariants.proofs.OrderSteps.{clash, listens_not, passes_news, old_news, syn_gone, syn_gone_old, acked_sending, one_if_least, acked_on, acked_fin}
use Rattle.tcp_invariants.proofs.OrderSteps.{with_waiting, with_fin_taken, closed_order, last_order, begins, went_order, skip_order, backed_order, distance_at_most}
use Rattle.tcp_invariants.proofs.OrderSteps.{own_distance}

-- A SEGMENT COMES

small_number : (a : SeqNumber) (n : ℕ) → (advanced_by a n).0 < 2 ^ 32
small_number a n = omega arith

small_zero : 0 < 2 ^ 32
small_zero = omega arith

least_zero : (m : ℕ) → 0 ≤ m
least_zero m = omega arith

pub and_true : (a b : Bool) → (a && b) ≡ true → (a ≡ true) × (b ≡ true)
and_true true b e = (refl, e)
and_true false b e = clash (sym e)

-- the state after an acknowledgement that leaves the connection
acked_order :
    (u : TcpValue) (by : ℕ) (now : ℤ) → IsInOrder (sending_of u) → is_past u.tcb.state ≡ true → (u.tcb.sender.past_iss ≡ 0 → by ≡ 0 → ⊥)
    → is_closed (state_after_ack u.tcb by (queued_in u)) ≡ false → IsInOrder (sending_of (acked_open u by now))
acked_order u by now p past news alive = at (acks_fin u.tcb by (queued_in u)) refl alive where
  s : Sending
  s = sending_of u

  left : ℕ
  left = length (drop (freed_by u.tcb by (queued_in u)) u.queued.queue)

  instant : Option ℤ
  instant =
      if u.tcb.sender.partial && is_blind u.tcb by then u.tcb.timers.retransmit_at else Some (timeout_from now (acked_open u by now).tcb.round_trip)

  at :
      (fin : Bool) → acks_fin u.tcb by (queued_in u) ≡ fin → is_closed (if fin then after_ack_of_fin u.tcb.state else after_ack u.tcb.state) ≡ false
      → IsInOrder (acked_sending s (if fin then after_ack_of_fin u.tcb.state else after_ack u.tcb.state) (advanced_by u.tcb.sender.una by).0 by left instant)
  at true e alive =
      let parts = and_true (owes_fin u.tcb.state) (by == unacked u.tcb (queued_in u)) e in
      acked_fin u.tcb.state s refl p (advanced_by u.tcb.sender.una by).0 by left instant (small_number u.tcb.sender.una by) parts.0 alive
      (length-drop (freed_by u.tcb by (queued_in u)) u.queued.queue) (syn_gone s by p news) (eqb-true by (unacked u.tcb (queued_in u)) parts.1)
  at false e alive =
      acked_on s p (advanced_by u.tcb.sender.una by).0 by left instant past (small_number u.tcb.sender.una by)
      (length-drop (freed_by u.tcb by (queued_in u)) u.queued.queue) (syn_gone s by p news)

order_listens : (u : TcpValue) (endpoint : IpListenEndpoint) → IsInOrder (sending_of (listening u endpoint))
order_listens u endpoint = record {
  number = small_zero;
  within = λ _. least_zero _;
  opening = λ e. clash (sym e);
  opened = λ _. refl;
  acked = λ e. clash (sym e);
  took = λ e. clash (sym e);
  listens = λ _. (refl, refl);
}

module _ (cx : ContextValue) (ip : IpRepr) (header : TcpHeader) (bytes : List ℕ) where
  abbrev Order : Arrived → Type 0
  Order a = IsInOrder (sending_of a.socket)

  order_content : (x : TcpValue) → IsInOrder (sending_of x) → x.tcb.sender.syn_unacked ≡ false → Content cx ip header bytes Order x
  order_content x p gone = record {
    plain = (λ _. p, p);
    fin = λ _ takes. (λ _. with_fin_taken (sending_of x) (length x.received.waiting) p gone takes, with_fin_taken (sending_of x) (length x.received.waiting) p gone takes);
    ordered = λ map _ takes _. (λ _. with_waiting (sending_of x) _ p gone takes, with_waiting (sending_of x) _ p gone takes);
    ordered_fin = λ map _ _ takes. (λ _. with_fin_taken (sending_of x) _ p gone takes, with_fin_taken (sending_of x) _ p gone takes);
    early = λ map offset _ _. p;
  }

  order_drawing : (x : TcpValue) → IsInOrder (sending_of x) → Drawing cx ip header bytes Order x
  order_drawing x p = record { answers = λ _. p; at_once = p; pauses = p }

  -- a loss that is undone leaves what is in flight within what may be
  heard_order : (u : TcpValue) (by : ℕ) → IsInOrder (sending_of u) → IsInOrder (sending_of (timed cx.instant header u by))
  heard_order u by p =
      undone_cases u.tcb header by (queued_in u) (λ (c : Tcb). IsInOrder (sending_of (with_tcb u c))) p
      (λ undo _ frees. record {
        number = p.number;
        within = λ on.
            upto u.tcb.sender.flight_size u.tcb.sender.snd_max (one_if u.tcb.sender.syn_unacked + queued_in u) (one_if (owes_fin u.tcb.state)) (p.within on);
        opening = p.opening;
        opened = p.opened;
        acked = λ all. clash (sym (none (by - one_if u.tcb.sender.syn_unacked) (queued_in u) (p.acked all).2) ∙ frees);
        took = p.took;
        listens = p.listens;
      })
    where
      upto : (flight snd_max all fin : ℕ) → flight ≤ all + fin → max flight (min snd_max all) ≤ all + fin
      upto flight snd_max all fin e = omega arith

      none : (n queued : ℕ) → queued ≡ 0 → (min n queued == 0) ≡ true
      none n queued e = ap (λ (m : ℕ). m == 0) (least n queued e) where
        least : (n queued : ℕ) → queued ≡ 0 → min n queued ≡ 0
        least n queued e = omega arith

  order_received : (u : TcpValue) → IsInOrder (sending_of u) → is_past u.tcb.state ≡ true → Received cx ip header bytes Order u
  order_received u p past = record {
    stays = p;
    refuses = p;
    draws = order_drawing u p;
    falls = λ _ _ _. order_listens u u.tcb.names.listen;
    ends = λ _ _ _. closed_order (sending_of u) false p;
    closes = λ by passes _.
        last_order (sending_of (timed cx.instant header u by)) (advanced_by u.tcb.sender.una by).0 by
        (length (drop (freed_by u.tcb by (queued_in u)) u.queued.queue))
        (if u.tcb.sender.partial && is_blind (timed cx.instant header u by).tcb by then u.tcb.timers.retransmit_at else Some
        (timeout_from cx.instant (acked_open (timed cx.instant header u by) by cx.instant).tcb.round_trip)) (heard_order u by p)
        (small_number u.tcb.sender.una by)
        (syn_gone (sending_of u) by p (passes_news u.tcb header.ack_number by passes));
    taken = λ by passes alive.
        order_content (heeded cx.instant header (length bytes) u by (acked_open (timed cx.instant header u by) by cx.instant).tcb)
        (skip_order (sending_of (acked_open (timed cx.instant header u by) by cx.instant)) _ _
        (acked_order (timed cx.instant header u by) by cx.instant (heard_order u by p) past (passes_news u.tcb header.ack_number by passes) alive))
        (syn_gone (sending_of u) by p (passes_news u.tcb header.ack_number by passes));
    taken_window = λ by passes alive.
        order_content (heeded cx.instant header (length bytes) u by (windowed (acked_open (timed cx.instant header u by) by cx.instant).tcb header))
        (skip_order (sending_of (acked_open (timed cx.instant header u by) by cx.instant)) _ _
        (acked_order (timed cx.instant header u by) by cx.instant (heard_order u by p) past (passes_news u.tcb header.ack_number by passes) alive))
        (syn_gone (sending_of u) by p (passes_news u.tcb header.ack_number by passes));
    news = λ by passes alive.
        order_drawing (waiting_anew (acked_open (timed cx.instant header u by) by cx.instant) header cx.instant)
        (acked_order (timed cx.instant header u by) by cx.instant (heard_order u by p) past (passes_news u.tcb header.ack_number by passes) alive);
    outside = order_drawing (waiting_anew u header cx.instant) p;
    old = λ old.
        order_content (with_tcb u (tsval_taken (heard u.tcb) header cx.instant)) p (syn_gone_old (sending_of u) p (old_news u.tcb header.ack_number old));
  }

  -- in SYN-SENT the SYN isn't acknowledged yet
  opening_syn : (u : TcpValue) → IsInOrder (sending_of u) → u.tcb.state ≡ In.SynSent → u.tcb.sender.syn_unacked ≡ true
  opening_syn u p at = by_syn u.tcb.sender.syn_unacked refl where
    by_syn : (syn : Bool) → u.tcb.sender.syn_unacked ≡ syn → syn ≡ true
    by_syn true e = refl
    by_syn false e = clash (sym (ap (λ (s : State). is_opening s || is_answering s) at) ∙ p.opened e)

  order_opening : (u : TcpValue) → IsInOrder (sending_of u) → Opening cx ip header bytes Order u
  order_opening u p = record {
    opens = λ at _.
        begins (sending_of (with_tcb u
        (timeout_restarted (believed (answering u.tcb ip header (isn cx (pair_in ip header))) cx.instant) cx.instant 0))) In.SynReceived refl refl
        (number_small cx (pair_in ip header)) refl refl (p.listens (ap is_listening at)).1 refl (λ _. refl);
    refuses = p;
    ends = λ _. closed_order (sending_of u) false p;
    connects = λ at _. record {
      number = small_number u.tcb.sender.una 1;
      within = λ _.
          less u.tcb.sender.flight_size (one_if u.tcb.sender.syn_unacked) (queued_in u) (one_if (u.tcb.sender.syn_unacked && (1 == 0)))
          (subst (λ (s : State). u.tcb.sender.flight_size ≤ one_if u.tcb.sender.syn_unacked + queued_in u + one_if (owes_fin s)) at
          (p.within (ap is_closed at)))
          (one_if_least u.tcb.sender.syn_unacked);
      opening = λ syn. clash (sym syn ∙ none u.tcb.sender.syn_unacked);
      opened = λ _. refl;
      acked = λ e. clash (sym e);
      took = λ _. refl;
      listens = λ e. clash (sym e);
    };
    crosses = λ at _.
        let old = p.opening (opening_syn u p at) in
        record {
          number = p.number;
          within = λ _. subst (λ (s : State). u.tcb.sender.flight_size ≤ one_if u.tcb.sender.syn_unacked + queued_in u + one_if (owes_fin s)) at
              (p.within (ap is_closed at));
          opening = λ _. (old.0, old.1, refl);
          opened = λ gone. clash (sym (opening_syn u p at) ∙ gone);
          acked = λ e. clash (sym e);
          took = λ _. refl;
          listens = λ e. clash (sym e);
        };
  }
    where
      none : (syn : Bool) → (syn && (1 == 0)) ≡ false
      none true = refl
      none false = refl

      less : (flight syn queued rest : ℕ) → flight ≤ syn + queued + 0 → syn ≤ 1 → flight - 1 ≤ rest + queued + 0
      less flight syn queued rest e f = omega arith

  order_arrival : (v : TcpValue) → IsInOrder (sending_of v) → Order (arrives cx v ip header bytes)
  order_arrival v p = by_arrival cx ip header bytes Order v p (λ _. order_opening (unoffered v) p) (λ past. order_received (unoffered v) p past)

-- IT IS ASKED

limit_least : (control : CongestionControl) (window size : ℕ) → congestion_limit control window size ≤ size
limit_least Avoids.None window size = omega arith
limit_least other window size = omega arith

pub window_least : (b : Tcb) (size : ℕ) → window_limit b size ≤ size
window_least b size =
    let limit = limit_least b.settings.congestion_control (congestion_room b) (min (b.peer.window - b.sender.flight_size) size) in
    omega (arith, limit)

pub control_least : (c : Choice) (queued : ℕ) → control_len (control_for c queued) ≤ one_if c.fin
control_least c queued = at c.fin where
  least : (m : ℕ) → 0 ≤ m
  least m = omega arith

  at : (fin : Bool) → control_len
      (if fin then Control.Fin else if not (c.len == 0) && (c.offset + c.len == queued) then Control.Psh else Control.None) ≤ one_if fin
  at true = omega arith
  at false =
      cond_both (not (c.len == 0) && (c.offset + c.len == queued)) Control.Psh Control.None (λ (k : TcpControl). control_len k ≤ 0) (λ _. least 0) (λ _. least 0)

-- a part of the send queue ends at its end, or with the FIN after it
part_with_fin :
    (syn queued owes offset len far control : ℕ) → offset + len ≡ queued → owes ≡ 1 → far ≤ syn + offset → control ≤ 1 →
    far + (len + control) ≤ syn + queued + owes
part_with_fin syn queued owes offset len far control a b c d = omega arith

part_within :
    (syn queued owes offset len far control fin : ℕ) → offset ≤ queued + owes → len ≤ queued - offset → far ≤ syn + offset → control ≤ fin → fin ≡ 0
    → far + (len + control) ≤ syn + queued + owes
part_within syn queued owes offset len far control fin a b c d e = omega arith

pub choice_within :
    (x : TcpValue) (c : Choice) → IsInOrder (sending_of x) → c.offset ≤ queued_in x + one_if (owes_fin x.tcb.state) → c.len ≤ queued_in x - c.offset
    → (c.fin ≡ true → (owes_fin x.tcb.state && (c.offset + c.len == queued_in x)) ≡ true)
    → distance_of x.tcb.sender.una (number_at x.tcb c.offset) + (c.len + control_len (control_for c (queued_in x))) ≤ all_of (sending_of x)
choice_within x c p offset len fin = at c.fin refl where
  near : distance_of x.tcb.sender.una (number_at x.tcb c.offset) ≤ one_if x.tcb.sender.syn_unacked + c.offset
  near = distance_at_most x.tcb.sender.una (one_if x.tcb.sender.syn_unacked + c.offset) p.number

  at :
      (with_fin : Bool) → c.fin ≡ with_fin
      → distance_of x.tcb.sender.una (number_at x.tcb c.offset) + (c.len + control_len (control_for c (queued_in x))) ≤ all_of (sending_of x)
  at true e =
      let parts = and_true (owes_fin x.tcb.state) (c.offset + c.len == queued_in x) (fin e) in
      part_with_fin (one_if x.tcb.sender.syn_unacked) (queued_in x) (one_if (owes_fin x.tcb.state)) c.offset c.len
      (distance_of x.tcb.sender.una (number_at x.tcb c.offset))
      (control_len (control_for c (queued_in x))) (eqb-true (c.offset + c.len) (queued_in x) parts.1) (ap one_if parts.0) near
      (subst (λ (t : Bool). control_len (control_for c (queued_in x)) ≤ one_if t) e (control_least c (queued_in x)))
  at false e =
      part_within (one_if x.tcb.sender.syn_unacked) (queued_in x) (one_if (owes_fin x.tcb.state)) c.offset c.len
      (distance_of x.tcb.sender.una (number_at x.tcb c.offset))
      (control_len (control_for c (queued_in x))) (one_if c.fin) offset len near (control_least c (queued_in x)) (ap one_if e)

-- SND.NXT moves past what is held no further than the send queue
past_within : (x : TcpValue) (end : ℕ) → end ≤ all_of (sending_of x) → past_sacked x.tcb end (queued_in x) ≤ all_of (sending_of x)
past_within x end small =
    reach end (first_missing x.tcb.loss.board.runs end) x.tcb.sender.snd_max (one_if x.tcb.sender.syn_unacked) (queued_in x)
    (one_if (owes_fin x.tcb.state)) small
  where
    reach : (end missing snd_max syn queued owes : ℕ) → end ≤ syn + queued + owes → max end (min missing (min snd_max (syn + queued))) ≤ syn + queued + owes
    reach end missing snd_max syn queued owes e = omega arith

-- as it is offered, and settled as sent
abbrev Both : Offered TcpValue → Type 0
Both o = IsInOrder (sending_of o.socket) × IsInOrder (sending_of (settled true o.socket))

module _ (cx : ContextValue) (pair : FourTuple) where
  abbrev pub opened_by : OfferKind → TcpValue → TcpHeader → ℕ → ℕ → OpenOffer
  opened_by kind x header offset len = record {
    kind = kind;
    instant = cx.instant;
    header = header_for pair.addresses (hop_limit_of x.tcb.settings.hop_limit) (header_len header + len);
    segment = header;
    offset = offset;
    len = len;
  }

  by_payload :
      (x : TcpValue) (c : Choice) → IsInOrder (sending_of x) → has_all x.tcb.state ≡ false
      → distance_of x.tcb.sender.una (number_at x.tcb c.offset) + (c.len + control_len (control_for c (queued_in x))) ≤ all_of (sending_of x)
      → Both (offer_choice Kind.Payload cx x pair c)
  by_payload x c p not_all end = (
    p,
    went_order (sending_of x)
        (past_sacked x.tcb (distance_of x.tcb.sender.una (number_at x.tcb c.offset) + (c.len + control_len (control_for c (queued_in x)))) (queued_in x)) _ p
        not_all (past_within x _ end),
  )

  by_again :
      (x : TcpValue) (c : Choice) → IsInOrder (sending_of x) → has_all x.tcb.state ≡ false
      → distance_of x.tcb.sender.una (number_at x.tcb c.offset) + (c.len + control_len (control_for c (queued_in x))) ≤ all_of (sending_of x)
      → Both (offer_choice Kind.FastRetransmission cx x pair c)
  by_again x c p not_all end = (
    p,
    went_order (sending_of x)
        (past_sacked x.tcb (distance_of x.tcb.sender.una (number_at x.tcb c.offset) + (c.len + control_len (control_for c (queued_in x)))) (queued_in x)) _ p
        not_all (past_within x _ end),
  )

  -- a question counts
  asked_order : (x : TcpValue) (b : Tcb) → IsInOrder (sending_of (with_tcb x b)) → IsInOrder (sending_of (with_tcb x (asked b cx.instant)))
  asked_order x b p =
      cond_both (is_over cx.instant b.timers.counts_from)
      (record b {
        sender = record b.sender { unanswered = one_more b.sender.unanswered };
        timers = record b.timers { counts_from = Some (timeout_from cx.instant b.round_trip) };
      })
      b (λ (c : Tcb). IsInOrder (sending_of (with_tcb x c))) (λ _. p) (λ _. p)

  sends_on : (state : State) → may_send_data state ≡ true → has_all state ≡ false
  sends_on In.FinWait2 e = clash (sym e)
  sends_on In.TimeWait e = clash (sym e)
  sends_on other e = refl

  syn_on : (state : State) → sends_syn state ≡ true → has_all state ≡ false
  syn_on In.FinWait2 e = clash (sym e)
  syn_on In.TimeWait e = clash (sym e)
  syn_on other e = refl

  open_on : (state : State) → may_send_data state ≡ true → is_closed state ≡ false
  open_on In.Closed e = clash (sym e)
  open_on other e = refl

  pub unset : (test : Bool) (at : Option ℤ) → is_due cx.instant (if test then at else None) ≡ true → test ≡ true
  unset true at e = refl
  unset false at e = clash (sym e)

  offset_within : (flight syn queued owes : ℕ) → flight ≤ syn + queued + owes → flight - syn ≤ queued + owes
  offset_within flight syn queued owes e = omega arith

  cut : (a b c : ℕ) → a ≤ min b c → a ≤ c
  cut a b c e = omega arith

  pub payload_within :
      (x : TcpValue) → IsInOrder (sending_of x) → is_closed x.tcb.state ≡ false
      → distance_of x.tcb.sender.una (number_at x.tcb (next_offset x.tcb))
      + ((payload_choice x.tcb pair.addresses cx.ip_mtu x.queued).len +
      control_len (control_for (payload_choice x.tcb pair.addresses cx.ip_mtu x.queued) (queued_in x)))
      ≤ all_of (sending_of x)
  payload_within x p alive =
      choice_within x (payload_choice x.tcb pair.addresses cx.ip_mtu x.queued) p
      (offset_within x.tcb.sender.flight_size (one_if x.tcb.sender.syn_unacked) (queued_in x) (one_if (owes_fin x.tcb.state)) (p.within alive))
      shorter (λ e. e)
    where
      least : (payload_choice x.tcb pair.addresses cx.ip_mtu x.queued).len ≤
          min (size_limit x.tcb pair.addresses cx.ip_mtu) (queued_in x - next_offset x.tcb)
      least = window_least x.tcb (min (size_limit x.tcb pair.addresses cx.ip_mtu) (queued_in x - next_offset x.tcb))

      lower : (a m k : ℕ) → a ≤ min m k → a ≤ k
      lower a m k e = omega arith

      shorter : (payload_choice x.tcb pair.addresses cx.ip_mtu x.queued).len ≤ queued_in x - next_offset x.tcb
      shorter =
          lower (payload_choice x.tcb pair.addresses cx.ip_mtu x.queued).len (size_limit x.tcb pair.addresses cx.ip_mtu) (queued_in x - next_offset x.tcb)
          least

  pub again_within :
      (x : TcpValue) → IsInOrder (sending_of x)
      → distance_of x.tcb.sender.una (number_at x.tcb (resend_choice x.tcb pair.addresses cx.ip_mtu x.queued).offset)
      + ((resend_choice x.tcb pair.addresses cx.ip_mtu x.queued).len +
      control_len (control_for (resend_choice x.tcb pair.addresses cx.ip_mtu x.queued) (queued_in x)))
      ≤ all_of (sending_of x)
  again_within x p = choice_within x again p inside shorter same where
    again : Choice
    again = resend_choice x.tcb pair.addresses cx.ip_mtu x.queued

    more : (offset queued owes : ℕ) → offset ≤ queued → offset ≤ queued + owes
    more offset queued owes e = omega arith

    inside : again.offset ≤ queued_in x + one_if (owes_fin x.tcb.state)
    inside =
        more again.offset (queued_in x) (one_if (owes_fin x.tcb.state))
        (Holes.again_within x.tcb (size_limit x.tcb pair.addresses cx.ip_mtu) (sent_count x.tcb) (queued_in x))

    lower : (s m k : ℕ) → min s (min m k) ≤ k
    lower s m k = omega arith

    shorter : again.len ≤ queued_in x - again.offset
    shorter =
        lower (hole_len x.tcb again.offset (sent_count x.tcb)) (size_limit x.tcb pair.addresses cx.ip_mtu) (queued_in x - again.offset)

    same : again.fin ≡ true → (owes_fin x.tcb.state && (again.offset + again.len == queued_in x)) ≡ true
    same fin =
        (and_true (owes_fin x.tcb.state && (again.offset + again.len == queued_in x)) (nat_lt (again.offset + again.len) (sent_count x.tcb)) fin).0

  order_last : (x : TcpValue) → x.offered ≡ None → IsInOrder (sending_of x) → LastRules cx pair Both x
  order_last x none p = record {
    probe = λ _ _.
        let o = opened_by Kind.Probe x (segment x.tcb pair cx.instant (window_of x) (control_for probe_choice (queued_in x)) (number_at x.tcb 0)) 0 1 in
        let b = recorded x.tcb o (room_of x.received) in
        (p, asked_order x (probed b (end_of b o) cx.instant) p);
    window_limited = λ due _.
        let sends = (and_true (may_send_data x.tcb.state) _ (unset (is_probing x.tcb (queued_in x)) x.tcb.timers.probe_at due)).0 in
        by_payload x (payload_choice x.tcb pair.addresses cx.ip_mtu x.queued) p (sends_on x.tcb.state sends) (payload_within x p (open_on x.tcb.state sends));
    ack = λ _. (p, p);
    update = λ _ _. (p, p);
    keep_alive = λ _ _. (
      p,
      asked_order x
          (recorded x.tcb (opened_by Kind.KeepAlive x (keep_alive_segment x.tcb pair cx.instant (window_of x)) 0 1) (room_of x.received)) p,
    );
    quiet = λ _. (p, subst (λ (o : Option OpenOffer). IsInOrder (sending_of (sent_off o (unoffered x)))) (sym none) p);
  }

  order_first : (w : TcpValue) → w.offered ≡ None → IsInOrder (sending_of w) → is_closed w.tcb.state ≡ false → FirstRules cx pair Both w
  order_first w none p alive = record {
    syn = λ owes. by_syn owes;
    again = λ _ again.
        let sends = (and_true (may_send_data w.tcb.state) _ again).0 in
        by_again w (resend_choice w.tcb pair.addresses cx.ip_mtu w.queued) p (sends_on w.tcb.state sends) (again_within w p);
    payload = λ _ payload.
        let sends = (and_true (may_send_data w.tcb.state) _ payload).0 in
        by_payload w (payload_choice w.tcb pair.addresses cx.ip_mtu w.queued) p (sends_on w.tcb.state sends) (payload_within w p alive);
    last = λ _. order_last (probing cx w) none p;
  }
    where
      by_syn : owes_syn w.tcb ≡ true → Both (offer_syn cx w pair)
      by_syn owes =
          let parts = and_true (sends_syn w.tcb.state && not (is_answering w.tcb.state && w.tcb.settings.synack_paused))
          (w.tcb.sender.syn_unacked && (w.tcb.sender.flight_size == 0)) owes in
          let state = (and_true (sends_syn w.tcb.state) (not (is_answering w.tcb.state && w.tcb.settings.synack_paused)) parts.0).0 in
          let syn = (and_true w.tcb.sender.syn_unacked (w.tcb.sender.flight_size == 0) parts.1).0 in (
            p,
            went_order (sending_of w) (past_sacked w.tcb (distance_of w.tcb.sender.una w.tcb.sender.una + (0 + 1)) (queued_in w)) _ p
                (syn_on w.tcb.state state)
                (past_within w _
                (one_at_most (distance_of w.tcb.sender.una w.tcb.sender.una) (one_if w.tcb.sender.syn_unacked) (queued_in w)
                (one_if (owes_fin w.tcb.state))
                (own_distance w.tcb.sender.una p.number) (ap one_if syn))),
          )
        where
          one_at_most : (far syn queued owes : ℕ) → far ≡ 0 → syn ≡ 1 → far + (0 + 1) ≤ syn + queued + owes
          one_at_most far syn queued owes e f = omega arith

order_rules : (cx : ContextValue) (v : TcpValue) → IsInOrder (sending_of v) → Rules cx v Both
order_rules cx v p = record {
  nobody = λ _. (p, p);
  time_wait = λ _. (closed_order (sending_of v) false p, closed_order (sending_of v) false p);
  timeout = λ _. (closed_order (sending_of v) (is_some v.tcb.names.pair) p, closed_order (sending_of v) (is_some v.tcb.names.pair) p);
  closed = λ _. (p, p);
  reset = λ _ _ _. (p, closed_order (sending_of v) false p);
  falls = λ _ _ _. (order_listens v v.tcb.names.listen, order_listens v v.tcb.names.listen);
  over = λ _ _ _. (closed_order (sending_of v) (is_some v.tcb.names.pair) p, closed_order (sending_of v) (is_some v.tcb.names.pair) p);
  backs = λ pair _ on _. order_first cx pair (with_tcb (unoffered v) (backed_off_now (begun cx v))) refl (backed_order (sending_of v) p) on.alive;
  probes = λ pair _ on _ _. order_first cx pair (with_tcb (unoffered v) (loss_probed (begun cx v))) refl p on.alive;
  goes = λ pair _ on _. order_first cx pair (with_tcb (unoffered v) (begun cx v)) refl p on.alive;
}

order_offer : (cx : ContextValue) (v : TcpValue) → IsInOrder (sending_of v) → Both (offer_of cx v)
order_offer cx v p = by_rules cx v Both (order_rules cx v p)

-- ITS USER CALLS

-- more is queued
grown : (s : Sending) (queued : ℕ) → IsInOrder s → has_all s.state ≡ false → s.queued ≤ queued → IsInOrder (record s { queued = queued })
grown s queued p not_all more = record {
  number = p.number;
  within = λ alive. larger s.flight_size (one_if s.syn_unacked) s.queued queued (one_if (owes_fin s.state)) (p.within alive) more;
  opening = p.opening;
  opened = p.opened;
  acked = λ all. clash (sym all ∙ not_all);
  took = p.took;
  listens = p.listens;
}
  where
    larger : (flight syn a b owes : ℕ) → flight ≤ syn + a + owes → a ≤ b → flight ≤ syn + b + owes
    larger flight syn a b owes e f = omega arith

-- less waits
less_waiting : (s : Sending) (waiting : ℕ) → IsInOrder s → waiting ≤ s.waiting → IsInOrder (record s { waiting = waiting })
less_waiting s waiting p less = record {
  number = p.number;
  within = p.within;
  opening = λ syn. let old = p.opening syn in (old.0, none waiting s.waiting less old.1, old.2);
  opened = p.opened;
  acked = p.acked;
  took = p.took;
  listens = λ e. let old = p.listens e in (old.0, none waiting s.waiting less old.1);
}
  where
    none : (a b : ℕ) → a ≤ b → b ≡ 0 → a ≡ 0
    none a b e f = omega arith

anchored_least : (r : Ring ℕ) → length r.queue ≤ length (anchored r).queue
anchored_least r =
    cond_both (length r.queue == 0) (cleared r) r (λ (q : Ring ℕ). length r.queue ≤ length q.queue)
    (λ none. zero (length r.queue) 0 (eqb-true (length r.queue) 0 none)) (λ _. same)
  where
    zero : (n m : ℕ) → n ≡ 0 → n ≤ m
    zero n m e = omega arith

    same : length r.queue ≤ length r.queue
    same = omega arith

pub enqueued_least : (r : Ring ℕ) (bytes : List ℕ) → length r.queue ≤ length (enqueued (anchored r) bytes).queue
enqueued_least r bytes = let anchor = anchored_least r in let more = length-append (anchored r).queue bytes in omega (arith, anchor, more)

writes_on : (state : State) → takes_writes state ≡ true → has_all state ≡ false
writes_on In.FinWait2 e = clash (sym e)
writes_on In.TimeWait e = clash (sym e)
writes_on other e = refl

-- from a state that owes no FIN to one that does
asks :
    (s : Sending) (old : State) → s.state ≡ old → is_past old ≡ true → owes_fin old ≡ false → is_closed old ≡ false → IsInOrder s → (new : State) →
    is_past new ≡ true
    → (is_opening new || is_answering new) ≡ false → has_all new ≡ false → owes_fin new ≡ true →
    (s.syn_unacked ≡ true → (is_closed new || sends_syn new) ≡ true)
    → IsInOrder (record s { state = new })
asks s old at past owes alive p new new_past opened not_all owing syn_goes = record {
  number = p.number;
  within = λ _. more s.flight_size (one_if s.syn_unacked) s.queued (one_if (owes_fin s.state)) (one_if (owes_fin new)) (p.within (ap is_closed at ∙ alive))
      (ap one_if (ap owes_fin at ∙ owes));
  opening = λ syn. let before = p.opening syn in (before.0, before.1, syn_goes syn);
  opened = λ _. opened;
  acked = λ all. clash (sym all ∙ not_all);
  took = λ _. p.took (ap is_past at ∙ past);
  listens = λ e. absurd (listens_not new new_past e);
}
  where
    more : (flight syn queued a b : ℕ) → flight ≤ syn + queued + a → a ≡ 0 → flight ≤ syn + queued + b
    more flight syn queued a b e f = omega arith

-- its FIN is to go
closes_order : (state : State) (s : Sending) → s.state ≡ state → IsInOrder s → IsInOrder (record s { state = after_close state })
closes_order In.Listen s at p = closed_order s s.named p
closes_order In.SynSent s at p = closed_order s s.named p
closes_order In.SynReceived s at p = asks s In.SynReceived at refl refl refl p In.FinWait1 refl refl refl refl (λ syn. refl)
closes_order In.Established s at p = asks s In.Established at refl refl refl p In.FinWait1 refl refl refl refl (λ syn. refl)
closes_order In.CloseWait s at p =
    asks s In.CloseWait at refl refl refl p In.LastAck refl refl refl refl
    (λ syn. clash (sym (p.opening syn).2 ∙ ap (λ (x : State). is_closed x || sends_syn x) at))
closes_order other s at p = subst (λ (x : State). IsInOrder (record s { state = x })) at p

connected_order : (v : TcpValue) (names : Option FourTuple) (number : ℕ) → IsInOrder (sending_of v) → number < 2 ^ 32 →
    IsInOrder (sending_of (connected_by v names number))
connected_order v None number p small = p
connected_order v (Some pair) number p small =
    begins (sending_of (connecting v pair number)) In.SynSent refl refl small refl refl refl refl (λ past. clash (sym past))

set_order : (v : TcpValue) (setting : Setting) → IsInOrder (sending_of v) → IsInOrder (sending_of (set v setting))
set_order v (Timeout duration) p = p
set_order v (KeepAlive interval) p = p
set_order v (AckDelay duration) p = p
set_order v (Nagle enabled) p = p
set_order v (HopLimit limit) p = p
set_order v (Timestamps generator) p = p
set_order v (Paused paused) p = p
set_order v (Retries limit) p = p
set_order v (MinRto duration) p = p
set_order v (FineTimer fine) p = p
set_order v (Congestion control) p = p

pub event_order : (v : TcpValue) (it : Event) → IsInOrder (sending_of v) → IsInOrder (sending_of (after v it))
event_order v (Comes cx ip header bytes) p = order_arrival cx ip header bytes v p
event_order v (Asked cx true) p = (order_offer cx v p).1
event_order v (Asked cx false) p = (order_offer cx v p).0
event_order v (Listens endpoint) p =
    cond_both (is_closed v.tcb.state && not (endpoint.port == 0)) (listening v endpoint) (unoffered v) (λ (w : TcpValue). IsInOrder (sending_of w))
    (λ _. order_listens v endpoint) (λ _. p)
event_order v (Connects cx remote local) p =
    cond_both (is_closed v.tcb.state) (connected_by v (four_tuple_for cx remote local) (number_for cx (four_tuple_for cx remote local))) (unoffered v)
    (λ (w : TcpValue). IsInOrder (sending_of w))
    (λ _. connected_order v (four_tuple_for cx remote local) (number_for cx (four_tuple_for cx remote local)) p (number_for_small cx (four_tuple_for cx remote local))) (λ _. p)
event_order v (Sends bytes) p =
    let some = take (min (length bytes) (length v.queued.free)) bytes in
    cond_both (takes_writes v.tcb.state) (sent_more v (enqueued (anchored v.queued) some)) (unoffered v) (λ (w : TcpValue). IsInOrder (sending_of w))
    (λ writes. grown (sending_of v) (length (enqueued (anchored v.queued) some).queue) p (writes_on v.tcb.state writes)
    (enqueued_least v.queued some)) (λ _. p)
event_order v (Reads count) p =
    less_waiting (sending_of v) (length (drop count v.received.waiting)) p
    (shorter (length (drop count v.received.waiting)) (length v.received.waiting) count (length-drop count v.received.waiting)) where
      shorter : (a b c : ℕ) → a ≡ b - c → a ≤ b
      shorter a b c e = omega arith
event_order v Closes p =
    cond_both (is_opening v.tcb.state) (ended (unoffered v)) (with_tcb (unoffered v) (record v.tcb { state = after_close v.tcb.state }))
    (λ (w : TcpValue). IsInOrder (sending_of w))
    (λ _. closed_order (sending_of v) false p) (λ _. closes_order v.tcb.state (sending_of v) refl p)
event_order v Aborts p =
    cond_both (is_time_wait v.tcb.state) (ended (unoffered v))
    (with_tcb (unoffered v) (record v.tcb { state = In.Closed; sender = record v.tcb.sender { reset_due = is_some v.tcb.names.pair } }))
    (λ (w : TcpValue). IsInOrder (sending_of w))
    (λ _. closed_order (sending_of v) false p) (λ _. closed_order (sending_of v) (is_some v.tcb.names.pair) p)
event_order v (Sets setting) p = set_order v setting p

pub led_order : (v : TcpValue) (events : List Event) → IsInOrder (sending_of v) → IsInOrder (sending_of (led v events))
led_order v [] p = p
led_order v (it ∷ more) p = led_order (after v it) more (event_order v it p)

pub new_order : (capacity : ℕ) (queued : Ring ℕ) → IsInOrder (sending_of (new_socket capacity queued))
new_order capacity queued = record {
  number = small_zero;
  within = λ e. clash e;
  opening = λ e. clash (sym e);
  opened = λ _. refl;
  acked = λ e. clash (sym e);
  took = λ e. clash (sym e);
  listens = λ e. clash (sym e);
}

pub led_new : (capacity : ℕ) (queued : Ring ℕ) (events : List Event) → IsInOrder (sending_of (led (new_socket capacity queued) events))
led_new capacity queued events = led_order (new_socket capacity queued) events (new_order capacity queued)
