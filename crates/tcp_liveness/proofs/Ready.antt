-- Each side of a pair that events led to is ready: it is in order, what it has in flight has a timer, and a connection has its endpoints.
use Rattle.std.proofs.Common.{◌≡◌, ℕ, ◌+◌, ◌==◌, ◌&&◌, min, not, true, false, List, length, take, Option, Some, None, is_some, refl, sym, ap, ◌∙◌}
use Rattle.std.proofs.lemmas.Bool.{cond_both}
use Rattle.ip_wire.specs.IpRepr.{IpRepr}
use Rattle.ip_wire.specs.Tcp.{header_len}
use Rattle.ip_wire.specs.TcpHeader.{TcpHeader}
use Rattle.net_base.specs.Ring.{Ring, anchored, enqueued}
use Rattle.tcp_refinement.specs.Context.{ContextValue}
use Rattle.tcp_refinement.specs.Offers.{Offered, IsBefore, offered_as}
use Rattle.tcp_refinement.specs.Offer.TheVariants as Answer
use Rattle.tcp_refinement.specs.PollAt.TheVariants as At
use Rattle.tcp_invariants.specs.Endpoints.{header_for}
use Rattle.tcp_invariants.specs.Moments.{is_over, timeout_from}
use Rattle.tcp_invariants.specs.States.{is_closed, is_listening, is_opening, is_time_wait, takes_writes, after_close}
use Rattle.tcp_invariants.specs.FourTuple.{FourTuple}
use Rattle.tcp_invariants.specs.OfferKind.{OfferKind}
use Rattle.tcp_invariants.specs.OfferKind.TheVariants as Kind
use Rattle.tcp_invariants.specs.OpenOffer.{OpenOffer}
use Rattle.tcp_invariants.specs.State.{State}
use Rattle.tcp_invariants.specs.State.TheVariants as In
use Rattle.tcp_block.specs.Acknowledged.{windowed}
use Rattle.tcp_block.specs.Arrival.{arrives, waiting_anew}
use Rattle.tcp_block.specs.Calls.{listening, connecting, connected_by, four_tuple_for, sent_more}
use Rattle.tcp_block.specs.Due.{poll_of}
use Rattle.tcp_block.specs.LossRecovery.{loss_probed}
use Rattle.tcp_block.specs.Offers.{offer_of, number_at}
use Rattle.tcp_block.specs.Retries.{heard, asked, one_more}
use Rattle.tcp_block.specs.Rules.{backed_off_now, probe_choice, control_for}
use Rattle.tcp_block.specs.Segments.{hop_limit_of, segment, keep_alive_segment}
use Rattle.tcp_block.specs.Settled.{settled, recorded, probed, end_of}
use Rattle.tcp_block.specs.Value.{TcpValue, Arrived, with_tcb, unoffered, ended, new_socket, queued_in, room_of, window_of}
use Rattle.tcp_block.specs.declared.tcb.Tcb.{Tcb}
use Rattle.tcp_invariants.specs.Names.{Names}
use Rattle.tcp_refinement.specs.Pair.Sides.{at}
use Rattle.tcp_refinement.specs.Pair.Values.{PairValue}
use Rattle.tcp_refinement.specs.declared.pair.event.Side.{Side}
use Rattle.tcp_invariants.proofs.ArrivalCases.{by_arrival, Received, Opening, Content, Drawing, acked_open, heeded}
use Rattle.tcp_invariants.proofs.ArrivalRules.{arrival_goes}
use Rattle.tcp_invariants.proofs.OfferCases.{FirstRules, by_rules, begun, probing}
use Rattle.tcp_invariants.proofs.OfferRules.{offer_sent_goes, offer_goes}
use Rattle.tcp_invariants.proofs.OrderRules.{event_order, new_order}
use Rattle.tcp_invariants.proofs.OrderSteps.{clash}
use Rattle.tcp_invariants.proofs.WaitingRules.{names_instant, acts_then}
use Rattle.tcp_invariants.specs.Events.{Event, after, is_past}
use Rattle.tcp_invariants.specs.Events.Event.{Comes, Asked, Listens, Connects, Sends, Reads, Closes, Aborts, Sets}
use Rattle.tcp_invariants.specs.Events.Setting.{Timeout, KeepAlive, AckDelay, Nagle, HopLimit, Timestamps, Paused, Retries, Congestion, MinRto, FineTimer}
use Rattle.tcp_invariants.specs.Flight.{flight_of, IsArmed}
use Rattle.tcp_invariants.specs.InOrder.{sending_of, IsInOrder}
use Rattle.tcp_invariants.specs.Waiting.{IsWaiting}
use Rattle.tcp_liveness.specs.Reached.{IsReached, Owes, both_started}
use Rattle.tcp_liveness.proofs.Events.{of_side, by_steps}
use Rattle.tcp_block.specs.Isn.{number_for}
use Rattle.tcp_block.specs.Timestamps.{tsval_taken}
use Rattle.tcp_invariants.proofs.ArrivalCases.{timed}

-- A TIMER

abbrev Armed : TcpValue → Type 0
Armed v = IsArmed (flight_of v.tcb)

nothing_out : (v : TcpValue) → v.tcb.sender.flight_size ≡ 0 → Armed v
nothing_out v none = λ some. clash (sym (ap (λ (n : ℕ). n == 0) none) ∙ some)

connected_armed : (v : TcpValue) (names : Option FourTuple) (number : ℕ) → Armed v → Armed (connected_by v names number)
connected_armed v None number a = a
connected_armed v (Some pair) number a = nothing_out (connecting v pair number) refl

event_armed : (v : TcpValue) (it : Event) → Armed v → Armed (after v it)
event_armed v (Sets (Timeout duration)) a = a
event_armed v (Sets (KeepAlive interval)) a = a
event_armed v (Sets (AckDelay duration)) a = a
event_armed v (Sets (Nagle enabled)) a = a
event_armed v (Sets (HopLimit limit)) a = a
event_armed v (Sets (Timestamps generator)) a = a
event_armed v (Sets (Paused paused)) a = a
event_armed v (Sets (Retries limit)) a = a
event_armed v (Sets (Congestion control)) a = a
event_armed v (Sets (MinRto duration)) a = a
event_armed v (Sets (FineTimer fine)) a = a
event_armed v (Comes cx ip header bytes) a = (arrival_goes cx v ip header bytes).armed a
event_armed v (Asked cx true) a = (offer_sent_goes cx v).armed a
event_armed v (Asked cx false) a = (offer_goes cx v).armed a
event_armed v (Listens endpoint) a =
    cond_both (is_closed v.tcb.state && not (endpoint.port == 0)) (listening v endpoint) (unoffered v) Armed
    (λ _. nothing_out (listening v endpoint) refl) (λ _. a)
event_armed v (Connects cx remote local) a =
    cond_both (is_closed v.tcb.state) (connected_by v (four_tuple_for cx remote local) (number_for cx (four_tuple_for cx remote local))) (unoffered v) Armed
    (λ _. connected_armed v (four_tuple_for cx remote local) (number_for cx (four_tuple_for cx remote local)) a) (λ _. a)
event_armed v (Sends bytes) a =
    cond_both (takes_writes v.tcb.state) (sent_more v (enqueued (anchored v.queued) (take (min (length bytes) (length v.queued.free)) bytes))) (unoffered v)
    Armed (λ _. a) (λ _. a)
event_armed v (Reads count) a = a
event_armed v Closes a =
    cond_both (is_opening v.tcb.state) (ended (unoffered v)) (with_tcb (unoffered v) (record v.tcb { state = after_close v.tcb.state })) Armed
    (λ _. a) (λ _. a)
event_armed v Aborts a =
    cond_both (is_time_wait v.tcb.state) (ended (unoffered v))
    (with_tcb (unoffered v) (record v.tcb { state = In.Closed; sender = record v.tcb.sender { reset_due = is_some v.tcb.names.pair } })) Armed
    (λ _. a) (λ _. a)

-- ENDPOINTS

abbrev Named : TcpValue → Type 0
Named v = is_closed v.tcb.state ≡ false → is_listening v.tcb.state ≡ false → is_some v.tcb.names.pair ≡ true

past_open : (state : State) → is_past state ≡ true → (is_closed state ≡ false) × (is_listening state ≡ false)
past_open In.Closed past = clash (sym past)
past_open In.Listen past = clash (sym past)
past_open In.SynSent past = clash (sym past)
past_open other past = (refl, refl)

module _ (cx : ContextValue) (ip : IpRepr) (header : TcpHeader) (bytes : List ℕ) where
  abbrev NamedAfter : Arrived → Type 0
  NamedAfter a = Named a.socket

  named_drawing : (x : TcpValue) → is_some x.tcb.names.pair ≡ true → Drawing cx ip header bytes NamedAfter x
  named_drawing x some = record { answers = λ _ _ _. some; at_once = λ _ _. some; pauses = λ _ _. some }

  named_content : (x : TcpValue) → is_some x.tcb.names.pair ≡ true → Content cx ip header bytes NamedAfter x
  named_content x some = record {
    plain = (λ _. λ _ _. some, λ _ _. some);
    fin = λ _ _. (λ _. λ _ _. some, λ _ _. some);
    ordered = λ _ _ _ _. (λ _. λ _ _. some, λ _ _. some);
    ordered_fin = λ _ _ _ _. (λ _. λ _ _. some, λ _ _. some);
    early = λ _ _ _ _ _ _. some;
  }

  named_received : (u : TcpValue) → is_some u.tcb.names.pair ≡ true → Received cx ip header bytes NamedAfter u
  named_received u some = record {
    stays = λ _ _. some;
    refuses = λ _ _. some;
    draws = named_drawing u some;
    falls = λ _ _ _ _ listens. clash listens;
    ends = λ _ _ _ closed _. clash closed;
    closes = λ _ _ _ closed _. clash closed;
    taken = λ by passes alive. named_content (heeded cx.instant header (length bytes) u by (acked_open (timed cx.instant header u by) by cx.instant).tcb) some;
    taken_window = λ by passes alive.
        named_content (heeded cx.instant header (length bytes) u by (windowed (acked_open (timed cx.instant header u by) by cx.instant).tcb header)) some;
    news = λ by passes alive. named_drawing (waiting_anew (acked_open (timed cx.instant header u by) by cx.instant) header cx.instant) some;
    outside = named_drawing (waiting_anew u header cx.instant) some;
    old = λ _. named_content (with_tcb u (tsval_taken (heard u.tcb) header cx.instant)) some;
  }

  named_opening : (u : TcpValue) → Named u → Opening cx ip header bytes NamedAfter u
  named_opening u n = record {
    opens = λ _ _ _ _. refl;
    refuses = n;
    ends = λ _ closed _. clash closed;
    connects = λ at _ _ _. n (ap is_closed at) (ap is_listening at);
    crosses = λ at _ _ _. n (ap is_closed at) (ap is_listening at);
  }

  named_arrival : (v : TcpValue) → Named v → Named (arrives cx v ip header bytes).socket
  named_arrival v n =
      by_arrival cx ip header bytes NamedAfter v n (λ _. named_opening (unoffered v) n)
      (λ past. let it = past_open v.tcb.state past in named_received (unoffered v) (n it.0 it.1))

module _ (cx : ContextValue) (v : TcpValue) (n : Named v) where
  abbrev NamedBoth : Offered TcpValue → Type 0
  NamedBoth o = Named (settled true o.socket) × Named o.socket

  abbrev NamedTcb : Tcb → Type 0
  NamedTcb b = is_closed b.state ≡ false → is_listening b.state ≡ false → is_some b.names.pair ≡ true

  -- a question counts
  asked_named : (b : Tcb) → NamedTcb b → NamedTcb (asked b cx.instant)
  asked_named b m =
      cond_both (is_over cx.instant b.timers.counts_from)
      (record b {
        sender = record b.sender { unanswered = one_more b.sender.unanswered };
        timers = record b.timers { counts_from = Some (timeout_from cx.instant b.round_trip) };
      })
      b NamedTcb (λ _. m) (λ _. m)

  abbrev opened_by : OfferKind → TcpValue → FourTuple → TcpHeader → ℕ → ℕ → OpenOffer
  opened_by kind x pair header offset len = record {
    kind = kind;
    instant = cx.instant;
    header = header_for pair.addresses (hop_limit_of x.tcb.settings.hop_limit) (header_len header + len);
    segment = header;
    offset = offset;
    len = len;
  }

  named_first : (pair : FourTuple) (b : Tcb) → b.state ≡ v.tcb.state → b.names ≡ v.tcb.names →
      FirstRules cx pair NamedBoth (with_tcb (unoffered v) b)
  named_first pair b state names = record {
    syn = λ _. (m, m);
    again = λ _ _. (m, m);
    payload = λ _ _. (m, m);
    last = λ _.
        record {
          probe = λ _ _.
              let o = opened_by Kind.Probe x pair
              (segment x.tcb pair cx.instant (window_of x) (control_for probe_choice (queued_in x)) (number_at x.tcb 0)) 0 1 in
              (asked_named (probed (recorded x.tcb o (room_of x.received)) (end_of (recorded x.tcb o (room_of x.received)) o) cx.instant) m, m);
          window_limited = λ _ _. (m, m);
          ack = λ _. (m, m);
          update = λ _ _. (m, m);
          keep_alive = λ _ _.
              let o = opened_by Kind.KeepAlive x pair (keep_alive_segment x.tcb pair cx.instant (window_of x)) 0 1 in
              (asked_named (recorded x.tcb o (room_of x.received)) m, m);
          quiet = λ _. (m, m);
        };
  }
    where
      x : TcpValue
      x = probing cx (with_tcb (unoffered v) b)

      m : is_closed b.state ≡ false → is_listening b.state ≡ false → is_some b.names.pair ≡ true
      m alive listens = ap (λ (x : Names). is_some x.pair) names ∙ n (sym (ap is_closed state) ∙ alive) (sym (ap is_listening state) ∙ listens)

  named_offer : NamedBoth (offer_of cx v)
  named_offer =
      by_rules cx v NamedBoth
      (record {
        nobody = λ _. (n, n);
        time_wait = λ _. (λ closed _. clash closed, λ closed _. clash closed);
        timeout = λ _. (λ closed _. clash closed, λ closed _. clash closed);
        closed = λ _. (n, n);
        reset = λ _ _ _. (λ closed _. clash closed, n);
        falls = λ _ _ _. (λ _ listens. clash listens, λ _ listens. clash listens);
        over = λ _ _ _. (λ closed _. clash closed, λ closed _. clash closed);
        backs = λ pair _ _ _. named_first pair (backed_off_now (begun cx v)) refl refl;
        probes = λ pair _ _ _ _. named_first pair (loss_probed (begun cx v)) refl refl;
        goes = λ pair _ _ _. named_first pair (begun cx v) refl refl;
      })

closes_open : (state : State) → is_closed (after_close state) ≡ false → (is_closed state ≡ false) × (is_listening state ≡ false)
closes_open In.Closed e = clash e
closes_open In.Listen e = clash e
closes_open In.SynSent e = clash e
closes_open other e = (refl, refl)

connected_named : (v : TcpValue) (names : Option FourTuple) (number : ℕ) → Named v → Named (connected_by v names number)
connected_named v None number n = n
connected_named v (Some pair) number n = λ _ _. refl

event_named : (v : TcpValue) (it : Event) → Named v → Named (after v it)
event_named v (Comes cx ip header bytes) n = named_arrival cx ip header bytes v n
event_named v (Asked cx true) n = (named_offer cx v n).0
event_named v (Asked cx false) n = (named_offer cx v n).1
event_named v (Listens endpoint) n =
    cond_both (is_closed v.tcb.state && not (endpoint.port == 0)) (listening v endpoint) (unoffered v) Named
    (λ _ _ listens. clash listens) (λ _. n)
event_named v (Connects cx remote local) n =
    cond_both (is_closed v.tcb.state) (connected_by v (four_tuple_for cx remote local) (number_for cx (four_tuple_for cx remote local))) (unoffered v) Named
    (λ _. connected_named v (four_tuple_for cx remote local) (number_for cx (four_tuple_for cx remote local)) n) (λ _. n)
event_named v (Sends bytes) n =
    cond_both (takes_writes v.tcb.state) (sent_more v (enqueued (anchored v.queued) (take (min (length bytes) (length v.queued.free)) bytes))) (unoffered v)
    Named (λ _. n) (λ _. n)
event_named v (Reads count) n = n
event_named v Closes n =
    cond_both (is_opening v.tcb.state) (ended (unoffered v)) (with_tcb (unoffered v) (record v.tcb { state = after_close v.tcb.state })) Named
    (λ _ closed _. clash closed)
    (λ _ closed _. let it = closes_open v.tcb.state closed in n it.0 it.1)
event_named v Aborts n =
    cond_both (is_time_wait v.tcb.state) (ended (unoffered v))
    (with_tcb (unoffered v) (record v.tcb { state = In.Closed; sender = record v.tcb.sender { reset_due = is_some v.tcb.names.pair } })) Named
    (λ _ closed _. clash closed) (λ _ closed _. clash closed)
event_named v (Sets (Timeout duration)) n = n
event_named v (Sets (KeepAlive interval)) n = n
event_named v (Sets (AckDelay duration)) n = n
event_named v (Sets (Nagle enabled)) n = n
event_named v (Sets (HopLimit limit)) n = n
event_named v (Sets (Timestamps generator)) n = n
event_named v (Sets (Paused paused)) n = n
event_named v (Sets (Retries limit)) n = n
event_named v (Sets (Congestion control)) n = n
event_named v (Sets (MinRto duration)) n = n
event_named v (Sets (FineTimer fine)) n = n

-- ALL THREE

pub record IsReady (v : TcpValue) : Type 0 where
  pub order : IsInOrder (sending_of v)
  pub armed : IsArmed (flight_of v.tcb)
  pub named : is_closed v.tcb.state ≡ false → is_listening v.tcb.state ≡ false → is_some v.tcb.names.pair ≡ true

event_ready : (v : TcpValue) (it : Event) → IsReady v → IsReady (after v it)
event_ready v it r = record { order = event_order v it r.order; armed = event_armed v it r.armed; named = event_named v it r.named }

unoffered_ready : (v : TcpValue) → IsReady v → IsReady (unoffered v)
unoffered_ready v r = record { order = r.order; armed = r.armed; named = r.named }

new_ready : (room : ℕ) (ring : Ring ℕ) → IsReady (new_socket room ring)
new_ready room ring = record { order = new_order room ring; armed = nothing_out (new_socket room ring) refl; named = λ closed _. clash closed }

pub ready_side : (p : PairValue) (side : Side) → IsReached p → IsReady (at p.sides side).socket
ready_side p side r =
    of_side IsReady p.sides side
    (by_steps IsReady event_ready unoffered_ready (both_started r.a r.b) r.events p r.steps
    (record { first = new_ready r.a.room r.a.ring; second = new_ready r.b.room r.b.ring }))

pub some_pair : (names : Option FourTuple) → is_some names ≡ true → (pair : FourTuple) × (names ≡ Some pair)
some_pair None e = clash (sym e)
some_pair (Some pair) e = (pair, refl)

waiting : (v : TcpValue) → IsReady v → Owes v → (pair : FourTuple) × IsWaiting v pair
waiting v r o =
    let it = some_pair v.tcb.names.pair (r.named o.alive o.connected) in
    (it.0, record { named = it.1; alive = o.alive; owes = o.owes; unpaused = o.unpaused; order = r.order; armed = r.armed })

pub names_in : (p : PairValue) (side : Side) (cx : ContextValue) → IsReached p → Owes (at p.sides side).socket →
    poll_of cx.ip_mtu (at p.sides side).socket ≡ At.Ingress → ⊥
names_in p side cx r o =
    let w = waiting (at p.sides side).socket (ready_side p side r) o in names_instant cx (at p.sides side).socket w.0 w.1

pub acts_in :
    (p : PairValue) (side : Side) (cx : ContextValue) → IsReached p → Owes (at p.sides side).socket
    → (IsBefore cx.instant (poll_of cx.ip_mtu (at p.sides side).socket) → ⊥)
    → offer_of cx (at p.sides side).socket ≡ offered_as (Answer.Silent false) (unoffered (at p.sides side).socket) → ⊥
acts_in p side cx r o = let w = waiting (at p.sides side).socket (ready_side p side r) o in acts_then cx (at p.sides side).socket w.0 w.1
