-- Whatever happens to a socket, SND.UNA lies past ISS once its SYN is acknowledged, as far as that is counted.
use Rattle.std.proofs.Common.{◌≡◌, ℕ, zero, suc, ◌+◌, ◌≤◌, ◌==◌, ◌&&◌, ◌||◌, min, not, Bool, true}
use Rattle.std.proofs.Common.{false, List, length, take, Option, Some, None, is_some, refl, sym, ap, ◌∙◌, arith}
use Rattle.std.proofs.lemmas.Bool.{cond_both}
use Rattle.ip_wire.specs.IpRepr.{IpRepr}
use Rattle.ip_wire.specs.Tcp.{header_len}
use Rattle.ip_wire.specs.TcpHeader.{TcpHeader}
use Rattle.net_base.specs.Ring.{Ring, anchored, enqueued}
use Rattle.tcp_refinement.specs.Context.{ContextValue}
use Rattle.tcp_refinement.specs.Offers.{Offered}
use Rattle.tcp_invariants.specs.Endpoints.{header_for}
use Rattle.tcp_invariants.specs.Moments.{is_over, timeout_from}
use Rattle.tcp_invariants.specs.States.{is_closed, is_opening, is_answering, is_time_wait, takes_writes, after_close}
use Rattle.tcp_invariants.specs.FourTuple.{FourTuple}
use Rattle.tcp_invariants.specs.OfferKind.{OfferKind}
use Rattle.tcp_invariants.specs.OfferKind.TheVariants as Kind
use Rattle.tcp_invariants.specs.OpenOffer.{OpenOffer}
use Rattle.tcp_invariants.specs.State.{State}
use Rattle.tcp_invariants.specs.State.TheVariants as In
use Rattle.tcp_block.specs.Acknowledged.{windowed}
use Rattle.tcp_block.specs.Arrival.{arrives, waiting_anew}
use Rattle.tcp_block.specs.declared.tcb.Tcb.{Tcb}
use Rattle.tcp_block.specs.Calls.{listening, connected_by, four_tuple_for, sent_more}
use Rattle.tcp_block.specs.Isn.{number_for}
use Rattle.tcp_block.specs.LossRecovery.{loss_probed}
use Rattle.tcp_block.specs.Offers.{offer_of, number_at}
use Rattle.tcp_block.specs.Retries.{heard, asked, one_more}
use Rattle.tcp_block.specs.Rules.{backed_off_now, probe_choice, control_for}
use Rattle.tcp_block.specs.Segments.{hop_limit_of, segment, keep_alive_segment}
use Rattle.tcp_block.specs.Settled.{settled, recorded, probed, end_of}
use Rattle.tcp_block.specs.Timestamps.{tsval_taken}
use Rattle.tcp_block.specs.Value.{TcpValue, Arrived, with_tcb, unoffered, ended, new_socket, queued_in, room_of, window_of}
use Rattle.tcp_refinement.specs.Pair.Sides.{at}
use Rattle.tcp_refinement.specs.Pair.Values.{PairValue}
use Rattle.tcp_refinement.specs.declared.pair.event.Side.{Side}
use Rattle.tcp_invariants.proofs.ArrivalCases.{by_arrival, Received, Opening, Content, Drawing, acked_open, heeded, timed}
use Rattle.tcp_invariants.proofs.OfferCases.{FirstRules, by_rules, begun, probing}
use Rattle.tcp_invariants.proofs.OrderRules.{event_order, new_order}
use Rattle.tcp_invariants.proofs.OrderSteps.{clash}
use Rattle.tcp_invariants.specs.Events.{Event, after, is_past}
use Rattle.tcp_invariants.specs.Events.Event.{Comes, Asked, Listens, Connects, Sends, Reads, Closes, Aborts, Sets}
use Rattle.tcp_invariants.specs.Events.Setting.{Timeout, KeepAlive, AckDelay, Nagle, HopLimit, Timestamps, Paused, Retries, Congestion, MinRto, FineTimer}
use Rattle.tcp_invariants.specs.InOrder.{sending_of, IsInOrder}
use Rattle.tcp_liveness.specs.Arrivals.{is_synchronized}
use Rattle.tcp_liveness.specs.Exchange.{IsOpen}
use Rattle.tcp_liveness.specs.Pair.{socket_of}
use Rattle.tcp_liveness.specs.Reached.{IsReached, both_started}
use Rattle.tcp_liveness.proofs.Events.{of_side, by_steps}

abbrev CountsOf : Tcb → Type 0
CountsOf b = is_past b.state ≡ true → b.sender.syn_unacked ≡ false → 1 ≤ b.sender.past_iss

abbrev Counts : TcpValue → Type 0
Counts v = CountsOf v.tcb

-- what an acknowledgement adds
risen : (syn : Bool) (past by : ℕ) → (syn ≡ false → 1 ≤ past) → (syn && (by == 0)) ≡ false → 1 ≤ min (past + by) 4_294_967_295
risen false past by counts acked = more past by (counts refl) where
  more : (past by : ℕ) → 1 ≤ past → 1 ≤ min (past + by) 4_294_967_295
  more past by e = omega arith
risen true past by counts acked = some past by (at_least by acked) where
  at_least : (n : ℕ) → (n == 0) ≡ false → 1 ≤ n
  at_least zero e = clash e
  at_least (suc n) e = omega arith

  some : (past by : ℕ) → 1 ≤ by → 1 ≤ min (past + by) 4_294_967_295
  some past by e = omega arith

one_there : (past : ℕ) → 1 ≤ min (past + 1) 4_294_967_295
one_there past = omega arith

module _ (cx : ContextValue) (ip : IpRepr) (header : TcpHeader) (bytes : List ℕ) where
  abbrev CountsAfter : Arrived → Type 0
  CountsAfter a = Counts a.socket

  abbrev Has : Tcb → Type 0
  Has b = b.sender.syn_unacked ≡ false → 1 ≤ b.sender.past_iss

  drawing_counts : (x : TcpValue) → Has x.tcb → Drawing cx ip header bytes CountsAfter x
  drawing_counts x has = record { answers = λ _ _ acked. has acked; at_once = λ _ acked. has acked; pauses = λ _ acked. has acked }

  content_counts : (x : TcpValue) → Has x.tcb → Content cx ip header bytes CountsAfter x
  content_counts x has = record {
    plain = (λ _. λ _ acked. has acked, λ _ acked. has acked);
    fin = λ _ _. (λ _. λ _ acked. has acked, λ _ acked. has acked);
    ordered = λ _ _ _ _. (λ _. λ _ acked. has acked, λ _ acked. has acked);
    ordered_fin = λ _ _ _ _. (λ _. λ _ acked. has acked, λ _ acked. has acked);
    early = λ _ _ _ _ _ acked. has acked;
  }

  received_counts : (u : TcpValue) → Has u.tcb → Received cx ip header bytes CountsAfter u
  received_counts u has = record {
    stays = λ _ acked. has acked;
    refuses = λ _ acked. has acked;
    draws = drawing_counts u has;
    falls = λ _ _ _ past _. clash (sym past);
    ends = λ _ _ _ past _. clash (sym past);
    closes = λ _ _ _ past _. clash (sym past);
    taken = λ by _ _.
        content_counts (heeded cx.instant header (length bytes) u by (acked_open (timed cx.instant header u by) by cx.instant).tcb)
        (λ acked. risen u.tcb.sender.syn_unacked u.tcb.sender.past_iss by has acked);
    taken_window = λ by _ _.
        content_counts (heeded cx.instant header (length bytes) u by (windowed (acked_open (timed cx.instant header u by) by cx.instant).tcb header))
        (λ acked. risen u.tcb.sender.syn_unacked u.tcb.sender.past_iss by has acked);
    news = λ by _ _.
        drawing_counts (waiting_anew (acked_open (timed cx.instant header u by) by cx.instant) header cx.instant)
        (λ acked. risen u.tcb.sender.syn_unacked u.tcb.sender.past_iss by has acked);
    outside = drawing_counts (waiting_anew u header cx.instant) has;
    old = λ _. content_counts (with_tcb u (tsval_taken (heard u.tcb) header cx.instant)) has;
  }

  opening_counts : (u : TcpValue) → IsInOrder (sending_of u) → Counts u → Opening cx ip header bytes CountsAfter u
  opening_counts u order n = record {
    opens = λ _ _ _ acked. clash acked;
    refuses = n;
    ends = λ _ past _. clash (sym past);
    connects = λ _ _ _ _. one_there u.tcb.sender.past_iss;
    crosses = λ at _ _ acked. clash (sym (ap (λ (state : State). is_opening state || is_answering state) at) ∙ order.opened acked);
  }

  arrival_counts : (v : TcpValue) → IsInOrder (sending_of v) → Counts v → Counts (arrives cx v ip header bytes).socket
  arrival_counts v order n =
      by_arrival cx ip header bytes CountsAfter v n (λ _. opening_counts (unoffered v) order n) (λ past. received_counts (unoffered v) (n past))

module _ (cx : ContextValue) (v : TcpValue) (n : Counts v) where
  abbrev Both : Offered TcpValue → Type 0
  Both o = Counts (settled true o.socket) × Counts o.socket

  -- a question counts
  asked_counts : (b : Tcb) → CountsOf b → CountsOf (asked b cx.instant)
  asked_counts b m =
      cond_both (is_over cx.instant b.timers.counts_from)
      (record b {
        sender = record b.sender { unanswered = one_more b.sender.unanswered };
        timers = record b.timers { counts_from = Some (timeout_from cx.instant b.round_trip) };
      })
      b CountsOf (λ _. m) (λ _. m)

  abbrev opened_by : OfferKind → TcpValue → FourTuple → TcpHeader → ℕ → ℕ → OpenOffer
  opened_by kind x pair header offset len = record {
    kind = kind;
    instant = cx.instant;
    header = header_for pair.addresses (hop_limit_of x.tcb.settings.hop_limit) (header_len header + len);
    segment = header;
    offset = offset;
    len = len;
  }

  first_counts : (pair : FourTuple) (b : Tcb) → CountsOf b → FirstRules cx pair Both (with_tcb (unoffered v) b)
  first_counts pair b m = record {
    syn = λ _. (m, m);
    again = λ _ _. (m, m);
    payload = λ _ _. (m, m);
    last = λ _.
        record {
          probe = λ _ _.
              let o = opened_by Kind.Probe x pair
              (segment x.tcb pair cx.instant (window_of x) (control_for probe_choice (queued_in x)) (number_at x.tcb 0)) 0 1 in
              (asked_counts (probed (recorded x.tcb o (room_of x.received)) (end_of (recorded x.tcb o (room_of x.received)) o) cx.instant) m, m);
          window_limited = λ _ _. (m, m);
          ack = λ _. (m, m);
          update = λ _ _. (m, m);
          keep_alive = λ _ _.
              let o = opened_by Kind.KeepAlive x pair (keep_alive_segment x.tcb pair cx.instant (window_of x)) 0 1 in
              (asked_counts (recorded x.tcb o (room_of x.received)) m, m);
          quiet = λ _. (m, m);
        };
  }
    where
      x : TcpValue
      x = probing cx (with_tcb (unoffered v) b)

  over : {A : Type 0} → false ≡ true → A
  over past = clash (sym past)

  offer_counts : Both (offer_of cx v)
  offer_counts =
      by_rules cx v Both
      (record {
        nobody = λ _. (n, n);
        time_wait = λ _. (λ past _. over past, λ past _. over past);
        timeout = λ _. (λ past _. over past, λ past _. over past);
        closed = λ _. (n, n);
        reset = λ _ _ _. (λ past _. over past, n);
        falls = λ _ _ _. (λ past _. over past, λ past _. over past);
        over = λ _ _ _. (λ past _. over past, λ past _. over past);
        backs = λ pair _ _ _. first_counts pair (backed_off_now (begun cx v)) n;
        probes = λ pair _ _ _ _. first_counts pair (loss_probed (begun cx v)) n;
        goes = λ pair _ _ _. first_counts pair (begun cx v) n;
      })

closes_past : (state : State) → is_past (after_close state) ≡ true → is_past state ≡ true
closes_past In.Closed e = clash (sym e)
closes_past In.Listen e = clash (sym e)
closes_past In.SynSent e = clash (sym e)
closes_past other e = refl

connected_counts : (v : TcpValue) (names : Option FourTuple) (number : ℕ) → Counts v → Counts (connected_by v names number)
connected_counts v None number n = n
connected_counts v (Some pair) number n = λ past _. clash (sym past)

event_counts : (v : TcpValue) (it : Event) → IsInOrder (sending_of v) → Counts v → Counts (after v it)
event_counts v (Comes cx ip header bytes) order n = arrival_counts cx ip header bytes v order n
event_counts v (Asked cx true) order n = (offer_counts cx v n).0
event_counts v (Asked cx false) order n = (offer_counts cx v n).1
event_counts v (Listens endpoint) order n =
    cond_both (is_closed v.tcb.state && not (endpoint.port == 0)) (listening v endpoint) (unoffered v) Counts
    (λ _ past _. clash (sym past)) (λ _. n)
event_counts v (Connects cx remote local) order n =
    cond_both (is_closed v.tcb.state) (connected_by v (four_tuple_for cx remote local) (number_for cx (four_tuple_for cx remote local))) (unoffered v) Counts
    (λ _. connected_counts v (four_tuple_for cx remote local) (number_for cx (four_tuple_for cx remote local)) n) (λ _. n)
event_counts v (Sends bytes) order n =
    cond_both (takes_writes v.tcb.state) (sent_more v (enqueued (anchored v.queued) (take (min (length bytes) (length v.queued.free)) bytes))) (unoffered v)
    Counts (λ _. n) (λ _. n)
event_counts v (Reads count) order n = n
event_counts v Closes order n =
    cond_both (is_opening v.tcb.state) (ended (unoffered v)) (with_tcb (unoffered v) (record v.tcb { state = after_close v.tcb.state })) Counts
    (λ _ past _. clash (sym past))
    (λ _ past acked. n (closes_past v.tcb.state past) acked)
event_counts v Aborts order n =
    cond_both (is_time_wait v.tcb.state) (ended (unoffered v))
    (with_tcb (unoffered v) (record v.tcb { state = In.Closed; sender = record v.tcb.sender { reset_due = is_some v.tcb.names.pair } })) Counts
    (λ _ past _. clash (sym past)) (λ _ past _. clash (sym past))
event_counts v (Sets (Timeout duration)) order n = n
event_counts v (Sets (KeepAlive interval)) order n = n
event_counts v (Sets (AckDelay duration)) order n = n
event_counts v (Sets (Nagle enabled)) order n = n
event_counts v (Sets (HopLimit limit)) order n = n
event_counts v (Sets (Timestamps generator)) order n = n
event_counts v (Sets (Paused paused)) order n = n
event_counts v (Sets (Retries limit)) order n = n
event_counts v (Sets (Congestion control)) order n = n
event_counts v (Sets (MinRto duration)) order n = n
event_counts v (Sets (FineTimer fine)) order n = n

record HasCounted (v : TcpValue) : Type 0 where
  order : IsInOrder (sending_of v)
  counts : Counts v

event_counted : (v : TcpValue) (it : Event) → HasCounted v → HasCounted (after v it)
event_counted v it h = record { order = event_order v it h.order; counts = event_counts v it h.order h.counts }

unoffered_counted : (v : TcpValue) → HasCounted v → HasCounted (unoffered v)
unoffered_counted v h = record { order = h.order; counts = h.counts }

new_counted : (room : ℕ) (ring : Ring ℕ) → HasCounted (new_socket room ring)
new_counted room ring = record { order = new_order room ring; counts = λ past _. clash (sym past) }

past_of : (state : State) → is_synchronized state ≡ true → is_past state ≡ true
past_of In.Closed e = e
past_of In.Listen e = e
past_of In.SynSent e = e
past_of other e = refl

pub is_open : (p : PairValue) (side : Side) → IsReached p → is_synchronized (socket_of p side).tcb.state ≡ true
    → (socket_of p side).tcb.sender.syn_unacked ≡ false → IsOpen (socket_of p side).tcb
is_open p side r past acked =
    let h : HasCounted (at p.sides side).socket =
    of_side HasCounted p.sides side
    (by_steps HasCounted event_counted unoffered_counted (both_started r.a r.b) r.events p r.steps
    (record { first = new_counted r.a.room r.a.ring; second = new_counted r.b.room r.b.ring })) in
    record {
      synchronized = past;
      acknowledged = acked;
      opened = h.counts (past_of (socket_of p side).tcb.state past) acked;
    }
