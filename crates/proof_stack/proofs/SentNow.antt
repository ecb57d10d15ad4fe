-- What a side sends isn't older than TS.Recent as long as its clock goes no further.
use Rattle.std.proofs.Common.{◌≡◌, ℕ, not, ◌==◌, ◌&&◌, ◌≤◌, ℤ, pos, ◌≤ℤ◌, true, false, List, [], ◌∷◌, length, min, take}
use Rattle.std.proofs.Common.{Option, Some, None, Result, Ok, Err, slice_get, is_some, refl, sym, ◌∙◌, subst}
use Rattle.std.proofs.lemmas.Bool.{cond_both}
use Rattle.ip_wire.specs.IpEndpoint.{IpEndpoint}
use Rattle.ip_wire.specs.IpListenEndpoint.{IpListenEndpoint}
use Rattle.ip_wire.specs.TcpTimestampGenerator.{TcpTimestampGenerator}
use Rattle.ip_wire.specs.TcpTimestampRepr.{TcpTimestampRepr}
use Rattle.net_base.specs.Ring.{anchored, enqueued}
use Rattle.tcp_theory.specs.Side.{Opening}
use Rattle.tcp_theory.specs.Side.Opening.{NotYet}
use Rattle.tcp_theory.proofs.Lists.{AllByRecursion-at}
use Rattle.tcp_state.specs.declared.endpoints.FourTuple.{FourTuple}
use Rattle.tcp_state.specs.Moments.{tsval_end_from}
use Rattle.tcp_state.specs.declared.error.RecvError.{RecvError}
use Rattle.tcp_state.specs.declared.state.State.TheVariants as In
use Rattle.tcp_state.specs.States.{after_close, is_closed, is_opening, is_time_wait, takes_writes}
use Rattle.tcp_block.specs.Arrival.{arrives}
use Rattle.tcp_block.specs.Calls.{abort_after, close_after, connect_after, connected_by, listen_after, listening, four_tuple_for, recv_answer, send_after, sent_more}
use Rattle.tcp_block.specs.Isn.{number_for}
use Rattle.tcp_block.specs.Names.{accepts}
use Rattle.tcp_block.specs.Value.{TcpValue, ended, unoffered, with_tcb}
use Rattle.sockets.specs.Context.{ContextValue}
use Rattle.tcp_refinement.specs.Pair.History.{pasts, side_of}
use Rattle.tcp_refinement.specs.Pair.Sides.{at, other}
use Rattle.tcp_refinement.specs.Pair.Steps.{Steps, acting, acts, handed, reads, set_by, taken_at}
use Rattle.tcp_refinement.specs.Pair.Values.{PairSide, PairValue, context_at}
use Rattle.tcp_refinement.specs.declared.pair.event.PairEvent.{PairEvent}
use Rattle.tcp_refinement.specs.declared.pair.event.PairEvent.TheVariants.{Listen, Connect, Send, Recv, Close, Abort, TcpSetting, Clock, Offer, Deliver}
use Rattle.tcp_refinement.specs.declared.pair.event.SentSegment.{SentSegment}
use Rattle.tcp_refinement.specs.declared.pair.event.Side.{Side}
use Rattle.tcp_refinement.specs.declared.pair.event.TcpSetting.{TcpSetting as Setting}
use Rattle.tcp_refinement.specs.declared.pair.event.TcpSetting.TheVariants as Set
use Rattle.tcp_liveness.specs.Clocks.{IsTimed, KeepsTime, arrives_stale}
use Rattle.tcp_liveness.specs.Pair.{next_sent, socket_of}
use Rattle.tcp_liveness.specs.Reached.{IsReached}
use Rattle.tcp_liveness.specs.Rounds.{takes}
use Rattle.tcp_liveness.proofs.CourseExchange.{by_put, sent_by}
use Rattle.tcp_liveness.proofs.Kept.{reached_by}
use Rattle.tcp_liveness.proofs.Overtaken.{own_in}
use Rattle.tcp_liveness.proofs.TsvalCases.{IsOwn, arrival_hears, offer_asks}
use Rattle.tcp_liveness.proofs.TsvalEvents.{Way}
use Rattle.tcp_liveness.proofs.TsvalPairs.{earlier, initial_by, reached_way}

-- THE CLOCK THAT IS SET STAYS

abbrev set_of : TcpValue → Option TcpTimestampGenerator
set_of v = v.tcb.settings.timestamps

module _ (v : TcpValue) where
  abbrev Same : TcpValue → Type 0
  Same new = set_of new ≡ set_of v

  listen_same : (endpoint : IpListenEndpoint) → Same (listen_after v endpoint)
  listen_same endpoint =
      cond_both (is_closed v.tcb.state && not (endpoint.port == 0)) (listening v endpoint) (unoffered v) Same (λ _. refl) (λ _. refl)

  connect_same : (cx : ContextValue) (remote : IpEndpoint) (local : IpListenEndpoint) → Same (connect_after cx v remote local)
  connect_same cx remote local =
      cond_both (is_closed v.tcb.state) (connected_by v (four_tuple_for cx remote local) (number_for cx (four_tuple_for cx remote local))) (unoffered v) Same
      (λ _. by (four_tuple_for cx remote local) (number_for cx (four_tuple_for cx remote local))) (λ _. refl)
    where
      by : (names : Option FourTuple) (number : ℕ) → Same (connected_by v names number)
      by None number = refl
      by (Some pair) number = refl

  send_same : (bytes : List ℕ) → Same (send_after v bytes)
  send_same bytes =
      cond_both (takes_writes v.tcb.state) (sent_more v (enqueued (anchored v.queued) (take (min (length bytes) (length v.queued.free)) bytes))) (unoffered v) Same
      (λ _. refl) (λ _. refl)

  close_same : Same (close_after v)
  close_same =
      cond_both (is_opening v.tcb.state) (ended (unoffered v)) (with_tcb (unoffered v) (record v.tcb { state = after_close v.tcb.state })) Same (λ _. refl)
      (λ _. refl)

  abort_same : Same (abort_after v)
  abort_same =
      cond_both (is_time_wait v.tcb.state) (ended (unoffered v))
      (with_tcb (unoffered v)
      (record v.tcb { state = In.Closed; sender = record v.tcb.sender { reset_due = is_some v.tcb.names.pair } }))
      Same (λ _. refl) (λ _. refl)

  set_same : (side : Side) (setting : Setting) (since : ℤ) (opening : Opening) → (opening ≡ NotYet → ⊥) → KeepsTime since (TcpSetting side setting) opening
      → Same (set_by setting v)
  set_same side (Set.TsvalGenerator generator) since opening later keeps = absurd (later keeps)
  set_same side (Set.Timeout duration) since opening later keeps = refl
  set_same side (Set.AckDelay duration) since opening later keeps = refl
  set_same side (Set.KeepAlive interval) since opening later keeps = refl
  set_same side (Set.NagleEnabled enabled) since opening later keeps = refl
  set_same side (Set.HopLimit limit) since opening later keeps = refl
  set_same side (Set.CongestionControl control) since opening later keeps = refl
  set_same side (Set.PauseSynack paused) since opening later keeps = refl
  set_same side (Set.Retries limit) since opening later keeps = refl
  set_same side (Set.MinRto duration) since opening later keeps = refl
  set_same side (Set.FineTimer fine) since opening later keeps = refl

module _ (s : PairSide) where
  abbrev Stays : PairSide → Type 0
  Stays new = set_of new.socket ≡ set_of s.socket

  read_stays : (got : Result ℕ RecvError) → Stays (reads s got).side
  read_stays (Ok n) = refl
  read_stays (Err fault) = refl

  handed_stays : (side : Side) (found : Option SentSegment) → Stays (handed side s found)
  handed_stays side None = refl
  handed_stays side (Some y) =
      cond_both (accepts s.socket.tcb y.header y.segment) (taken_at s (arrives (context_at side s) s.socket y.header y.segment y.bytes)) s Stays
      (λ _. (arrival_hears (context_at side s) y.header y.segment y.bytes s.socket).0.set) (λ _. refl)

  -- with each event, once the side was opened
  acts_stays : (others : List SentSegment) (event : PairEvent) (since : ℤ) (opening : Opening) → (opening ≡ NotYet → ⊥) → KeepsTime since event opening
      → Stays (acts s others event).side
  acts_stays others (Listen side endpoint) since opening later keeps = listen_same s.socket endpoint
  acts_stays others (Connect side remote local) since opening later keeps = connect_same s.socket (context_at side s) remote local
  acts_stays others (Send side bytes) since opening later keeps = send_same s.socket bytes
  acts_stays others (Recv side count) since opening later keeps = read_stays (recv_answer s.socket count)
  acts_stays others (Close side) since opening later keeps = close_same s.socket
  acts_stays others (Abort side) since opening later keeps = abort_same s.socket
  acts_stays others (TcpSetting side setting) since opening later keeps = set_same s.socket side setting since opening later keeps
  acts_stays others (Clock side instant) since opening later keeps = refl
  acts_stays others (Offer side instant true) since opening later keeps = (offer_asks (context_at side (record s { instant = instant })) s.socket).0.set
  acts_stays others (Offer side instant false) since opening later keeps = (offer_asks (context_at side (record s { instant = instant })) s.socket).1.set
  acts_stays others (Deliver from k) since opening later keeps = handed_stays (other from) (slice_get others k)

-- A SEGMENT THAT THE CLOCK STAMPED AT A MOMENT

-- a side sent it as its segment of this number, and its clock showed the timestamp at this instant
pub record IsSentAt (instant : ℤ) (side : Side) (k : ℕ) (x : SentSegment) (p : PairValue) : Type 0 where
  pub has : slice_get (at p.sides side).sent k ≡ Some x
  pub own : IsOwn (set_of (socket_of p side)) instant x.segment.options.timestamp

module _ (since instant : ℤ) (side : Side) (k : ℕ) (x : SentSegment) where
  abbrev SentIn : PairValue → Type 0
  SentIn p = IsSentAt instant side k x p

  none_some : {X : Type 0} (stamp : TcpTimestampRepr) → x.segment.options.timestamp ≡ Some stamp → x.segment.options.timestamp ≡ None → X
  none_some stamp some none = absurd (let clash : None ≡ Some stamp = sym none ∙ some in cc)

  -- what has a timestamp was sent by a side that was opened
  opened : (p : PairValue) (stamp : TcpTimestampRepr) → IsReached p → IsTimed since side p.history → SentIn p → x.segment.options.timestamp ≡ Some stamp
      → (at (pasts p.history) side).opening ≡ NotYet → ⊥
  opened p stamp r timed sent some first =
      let w : Way since (at p.sides side) (at p.sides (other side)) (at (pasts p.history) side).opening = reached_way since side p r timed in
      none_some stamp some
      (AllByRecursion-at (λ (y : SentSegment). y.segment.options.timestamp ≡ None) (at p.sides side).sent k x (w.silent first).sent sent.has)

  next_set : (p : PairValue) (event : PairEvent) → IsTimed since side (takes p event).history → ((at (pasts p.history) side).opening ≡ NotYet → ⊥)
      → set_of (socket_of (takes p event) side) ≡ set_of (socket_of p side)
  next_set p event timed later =
      by_put (λ (s : PairSide). set_of s.socket ≡ set_of (socket_of p side)) p.sides (side_of event) side (acting p event).side
      (λ own.
      subst (λ (of : Side). set_of (acts (at p.sides of) (at p.sides (other of)).sent event).side.socket ≡ set_of (socket_of p side)) (sym own)
      (acts_stays (at p.sides side) (at p.sides (other side)).sent event since (at (pasts p.history) side).opening later (timed.0 own)))
      refl

  sent_next : (p : PairValue) (event : PairEvent) → IsReached p → IsTimed since side (takes p event).history → SentIn p → SentIn (takes p event)
  sent_next p event r timed sent = record { has = sent_by p event side k x sent.has; own = by x.segment.options.timestamp refl sent.own } where
    by : (stamp : Option TcpTimestampRepr) → x.segment.options.timestamp ≡ stamp → IsOwn (set_of (socket_of p side)) instant stamp
        → IsOwn (set_of (socket_of (takes p event) side)) instant stamp
    by None is own = tt
    by (Some stamp) is own =
        subst (λ (set : Option TcpTimestampGenerator). IsOwn set instant (Some stamp)) (sym (next_set p event timed (opened p stamp r timed.1 sent is))) own

  -- so it is for ever
  pub sent_then : (p q : PairValue) (events : List PairEvent) → IsReached p → Steps p events q → IsTimed since side q.history → SentIn p → SentIn q
  sent_then p q [] r s timed sent = subst SentIn (sym s) sent
  sent_then p q (event ∷ events) r s timed sent =
      sent_then (takes p event) q events (reached_by p (takes p event) (event ∷ []) r (s.0, refl)) s.1 timed
      (sent_next p event r (earlier since side (takes p event) events q s.1 timed) sent)

  -- as long as the side's clock goes no further, it isn't older than TS.Recent of the other
  pub initial_now : (p : PairValue) → pos 0 ≤ℤ since → instant ≤ℤ tsval_end_from since → IsReached p → IsTimed since side p.history
      → (at p.sides side).instant ≤ℤ instant → SentIn p → arrives_stale (socket_of p (other side)).tcb x.segment.options.timestamp ≡ false
  initial_now p begun within r timed now sent =
      let w : Way since (at p.sides side) (at p.sides (other side)) (at (pasts p.history) side).opening = reached_way since side p r timed in
      initial_by (socket_of p (other side)).tcb (set_of (socket_of p side)) since (at p.sides side).instant instant x.segment.options.timestamp begun now within w.heard
      sent.own

-- what an event sends has the timestamp of the instant that the side's clock shows after it
pub sent_with : (p : PairValue) (side : Side) (event : PairEvent) (k : ℕ) (x : SentSegment) (since : ℤ) → IsReached p → IsTimed since side p.history
    → next_sent p side ≤ k → slice_get (at (takes p event).sides side).sent k ≡ Some x → IsSentAt (at (takes p event).sides side).instant side k x (takes p event)
sent_with p side event k x since r timed later sent = record { has = sent; own = own_in p side event k x since r timed later sent }
