-- Of each pair that events led to: what a side announces fits its buffer, and what it sent fits the other's.
use Rattle.std.proofs.Common.{◌≡◌, ℕ, suc, ◌+◌, ◌-◌, ◌≤◌, ◌==◌, ◌&&◌, not, min, max, ℤ, Bool, true, false, List, [], ◌∷◌, ◌++◌, length, take, drop, Option}
use Rattle.std.proofs.Common.{Some, None, Result, Ok, Err, is_some, slice_get, refl, sym, ap, ◌∙◌, subst, arith, length-append, length-take, length-drop}
use Rattle.std.proofs.lemmas.Bool.{cond_both}
use Rattle.std.specs.List.{AllByRecursion}
use Rattle.tcp_theory.specs.ReceiveMap.{space}
use Rattle.ip_wire.specs.Seq.{distance_of}
use Rattle.net_base.specs.Ring.{Ring, anchored, enqueued}
use Rattle.tcp_theory.proofs.Lists.{AllByRecursion-at, AllByRecursion-push}
use Rattle.tcp_refinement.proofs.CallMoves.{length-space}
use Rattle.tcp_invariants.specs.FourTuple.{FourTuple}
use Rattle.tcp_invariants.specs.Events.{is_past}
use Rattle.tcp_invariants.specs.InOrder.{sending_of, IsInOrder}
use Rattle.tcp_invariants.specs.OpenOffer.{OpenOffer}
use Rattle.tcp_invariants.specs.RecvError.{RecvError}
use Rattle.tcp_invariants.specs.Reply.{Reply}
use Rattle.tcp_invariants.specs.State.{State}
use Rattle.tcp_invariants.specs.State.TheVariants as In
use Rattle.tcp_invariants.specs.States.{after_close, is_closed, is_opening, is_time_wait, owes_fin, takes_writes}
use Rattle.tcp_invariants.proofs.OrderSteps.{clash}
use Rattle.tcp_block.specs.Arrival.{arrives}
use Rattle.tcp_block.specs.TcbRules.{one_if, unacked}
use Rattle.tcp_block.specs.Calls.{connected_by, listening, four_tuple_for, recv_answer, recv_after, sent_more}
use Rattle.tcp_block.specs.Isn.{number_for}
use Rattle.tcp_refinement.specs.Pair.History.{side_of}
use Rattle.tcp_block.specs.Names.{accepts}
use Rattle.tcp_block.specs.Offers.{offer_of, payload_of}
use Rattle.tcp_refinement.specs.Pair.Sides.{Both, at, put, other}
use Rattle.tcp_refinement.specs.Pair.Steps.{Steps, acting, acts, handed, happens, reads, set_by, taken_at}
use Rattle.tcp_block.specs.Value.{TcpValue, Arrived, ended, free_in, new_socket, queued_in, room_of, unoffered, with_tcb}
use Rattle.tcp_refinement.specs.Pair.Values.{PairSide, PairValue, and_offer, and_reply, context_at}
use Rattle.tcp_refinement.specs.declared.pair.event.PairEvent.{PairEvent}
use Rattle.tcp_refinement.specs.declared.pair.event.PairEvent.TheVariants.{Listen, Connect, Send, Recv, Close, Abort, TcpSetting, Clock, Offer, Deliver}
use Rattle.tcp_refinement.specs.declared.pair.event.SentSegment.{SentSegment}
use Rattle.tcp_refinement.specs.declared.pair.event.Side.{Side}
use Rattle.tcp_refinement.specs.declared.pair.event.Side.TheVariants.{A, B}
use Rattle.tcp_refinement.specs.declared.pair.event.TcpSetting.{TcpSetting as Setting}
use Rattle.tcp_refinement.specs.declared.pair.event.TcpSetting.TheVariants as Set
use Rattle.tcp_liveness.specs.Arrivals.{is_synchronized}
use Rattle.tcp_liveness.specs.Exchange.{FitsBuffer, IsOpen}
use Rattle.tcp_liveness.specs.Pair.{socket_of}
use Rattle.tcp_liveness.specs.Reached.{IsReached, both_started}
use Rattle.tcp_liveness.specs.Windows.{KeepsToWindow, IsTold, HasTold}
use Rattle.tcp_liveness.proofs.Kept.{reached_by, reached_keeps}
use Rattle.tcp_liveness.proofs.Positions.{placed}
use Rattle.tcp_liveness.proofs.Ready.{ready_side}
use Rattle.tcp_liveness.proofs.SentEvents.{anchored_queue}
use Rattle.tcp_liveness.proofs.SentPairs.{reached_near}
use Rattle.tcp_liveness.proofs.Short.{IsShort, wrote_short}
use Rattle.tcp_liveness.proofs.WindowSteps.{AnnouncesIn, IsFit, OffersIn, arrival_out, closed_fit, fit_of, initial_fit, is_before, moved_on, offer_out}
use Rattle.tcp_liveness.proofs.WindowSteps.{with_room, with_sent}

-- A SIDE

record SideFits (own theirs : ℕ) (s : PairSide) : Type 0 where
  fit : IsFit own theirs (fit_of s.socket)
  told : AllByRecursion (IsTold own) s.sent

-- no more was sent than may be acknowledged
abbrev IsWhole : TcpValue → Type 0
IsWhole v = is_synchronized v.tcb.state ≡ true → v.tcb.sender.snd_max ≤ unacked v.tcb (queued_in v)

writes_on : (state : State) → takes_writes state ≡ true → (is_synchronized state ≡ true) × (owes_fin state ≡ false) × (is_closed state ≡ false)
writes_on In.Established e = (refl, refl, refl)
writes_on In.CloseWait e = (refl, refl, refl)
writes_on other e = clash (sym e)

past_close : (state : State) → is_past (after_close state) ≡ true → is_past state ≡ true
past_close In.Closed e = e
past_close In.Listen e = clash (sym e)
past_close In.SynSent e = clash (sym e)
past_close other e = refl

before_close : (state : State) → is_before (after_close state) ≡ true → is_before state ≡ true
before_close In.Listen e = refl
before_close In.SynSent e = refl
before_close In.SynReceived e = clash (sym e)
before_close In.Established e = clash (sym e)
before_close In.CloseWait e = clash (sym e)
before_close other e = e

-- what is read is free again
pub read_room :
    (waiting : List ℕ) (map : List (Option ℕ)) (n : ℕ) → length (drop n waiting) + length (map ++ space (length (take n waiting))) ≡
    length waiting + length map
read_room waiting map n =
    by (length waiting) (length map) (length-drop n waiting) (length-append map (space (length (take n waiting))))
    (length-space (length (take n waiting)) ∙ length-take n waiting)
  where
    by : (waiting free : ℕ) {left both more : ℕ} → left ≡ waiting - n → both ≡ free + more → more ≡ min n waiting → left + both ≡ waiting + free
    by waiting free a b c = omega arith

module _ (own theirs : ℕ) (s : PairSide) (others : List SentSegment) (order : IsInOrder (sending_of s.socket)) (whole : IsWhole s.socket)
    (heard : AllByRecursion (IsTold theirs) others) (h : SideFits own theirs s) where
  abbrev v : TcpValue
  v = s.socket

  abbrev Fits : TcpValue → Type 0
  Fits new = IsFit own theirs (fit_of new)

  -- of a call, with which nothing goes
  called : (new : PairSide) → Fits new.socket → new.sent ≡ s.sent → SideFits own theirs new
  called new fit same = record { fit = fit; told = subst (λ (sent : List SentSegment). AllByRecursion (IsTold own) sent) (sym same) h.told }

  emptied_room : 0 + length (space (room_of v.received)) ≡ own
  emptied_room = by (length-space (room_of v.received)) h.fit.room where
    by : {a b : ℕ} → a ≡ b → b ≡ own → 0 + a ≡ own
    by a b = omega arith

  connects : (names : Option FourTuple) (number : ℕ) → Fits (connected_by v names number)
  connects None number = h.fit
  connects (Some pair) number = initial_fit own theirs In.SynSent (0 + length (space (room_of v.received))) 1 0 emptied_room refl

  writes : (bytes : List ℕ) → takes_writes v.tcb.state ≡ true → Fits (sent_more v (enqueued (anchored v.queued) bytes))
  writes bytes e =
      let on = writes_on v.tcb.state e in
      with_sent own theirs (fit_of v) (one_if v.tcb.sender.syn_unacked) _ v.tcb.sender.flight_size v.tcb.sender.snd_max h.fit
      (subst (λ (n : ℕ). IsShort (max 1 theirs) (one_if v.tcb.sender.syn_unacked) n v.tcb.sender.flight_size v.tcb.sender.snd_max) (sym queue)
      (wrote_short (max 1 theirs) (one_if v.tcb.sender.syn_unacked) (queued_in v) (length bytes) v.tcb.sender.flight_size v.tcb.sender.snd_max
      (no_fin v.tcb.sender.snd_max (ap one_if on.1) (whole on.0)) (no_fin v.tcb.sender.flight_size (ap one_if on.1) (order.within on.2)) h.fit.short))
    where
      queue : length ((anchored v.queued).queue ++ bytes) ≡ queued_in v + length bytes
      queue = ap (λ (xs : List ℕ). length (xs ++ bytes)) (anchored_queue v.queued) ∙ length-append v.queued.queue bytes

      no_fin :
          (n : ℕ) → one_if (owes_fin v.tcb.state) ≡ 0 → n ≤ one_if v.tcb.sender.syn_unacked + queued_in v + one_if (owes_fin v.tcb.state)
          → n ≤ one_if v.tcb.sender.syn_unacked + queued_in v
      no_fin n none a = by (one_if v.tcb.sender.syn_unacked) (queued_in v) (one_if (owes_fin v.tcb.state)) none a where
        by : (syn queued owed : ℕ) → owed ≡ 0 → n ≤ syn + queued + owed → n ≤ syn + queued
        by syn queued owed none a = omega arith

  read_fits : (r : Result ℕ RecvError) → SideFits own theirs (reads s r).side
  read_fits (Err fault) = called (record s { socket = unoffered v }) h.fit refl
  read_fits (Ok n) =
      called (record s { socket = recv_after v n }) (with_room own theirs (fit_of v) _ (read_room v.received.waiting v.received.map n) h.fit) refl

  closes : SideFits own theirs (acts s others (Close A)).side
  closes =
      called (acts s others (Close A)).side
      (cond_both (is_opening v.tcb.state) (ended (unoffered v)) (with_tcb (unoffered v) (record v.tcb { state = after_close v.tcb.state })) Fits
      (λ _. closed_fit own theirs (fit_of v) h.fit)
      (λ _.
      moved_on own theirs (fit_of v) (after_close v.tcb.state) h.fit (λ e. h.fit.scale (past_close v.tcb.state e)) (before_close v.tcb.state)))
      refl

  set_fits : (setting : Setting) → Fits (set_by setting v)
  set_fits (Set.Timeout duration) = h.fit
  set_fits (Set.AckDelay duration) = h.fit
  set_fits (Set.KeepAlive interval) = h.fit
  set_fits (Set.NagleEnabled enabled) = h.fit
  set_fits (Set.HopLimit limit) = h.fit
  set_fits (Set.TsvalGenerator generator) = h.fit
  set_fits (Set.CongestionControl control) = h.fit
  set_fits (Set.PauseSynack paused) = h.fit
  set_fits (Set.Retries limit) = h.fit
  set_fits (Set.MinRto duration) = h.fit
  set_fits (Set.FineTimer fine) = h.fit

  replied : (answer : Option Reply) → AnnouncesIn own answer → AllByRecursion (IsTold own) (and_reply s.sent answer)
  replied None a = h.told
  replied (Some reply) a =
      AllByRecursion-push (IsTold own) s.sent (record { header = reply.header; segment = reply.segment; bytes = [] }) h.told a

  offered : (o : Option OpenOffer) (queue : List ℕ) → OffersIn own o → AllByRecursion (IsTold own) (and_offer s.sent o queue)
  offered None queue a = h.told
  offered (Some o) queue a =
      AllByRecursion-push (IsTold own) s.sent (record { header = o.header; segment = o.segment; bytes = payload_of o o.kind queue }) h.told a

  asked : (side : Side) (instant : ℤ) (sent : Bool) → SideFits own theirs (acts s others (Offer side instant sent)).side
  asked side instant true =
      let o = offer_out (context_at side (record s { instant = instant })) own theirs v order h.fit in
      record {
        fit = o.0;
        told =
            offered (offer_of (context_at side (record s { instant = instant })) v).socket.offered
            (offer_of (context_at side (record s { instant = instant })) v).socket.queued.queue o.2;
      }
  asked side instant false = record { fit = (offer_out (context_at side (record s { instant = instant })) own theirs v order h.fit).1; told = h.told }

  handed_fits : (side : Side) (found : Option SentSegment) → ((x : SentSegment) → found ≡ Some x → IsTold theirs x) → SideFits own theirs (handed side s found)
  handed_fits side None tells = h
  handed_fits side (Some x) tells =
      cond_both (accepts v.tcb x.header x.segment) (taken_at s a) s (SideFits own theirs)
      (λ _. record { fit = out.0; told = replied a.answer out.1 }) (λ _. h)
    where
      a : Arrived
      a = arrives (context_at side s) v x.header x.segment x.bytes

      out : IsFit own theirs (fit_of a.socket) × AnnouncesIn own a.answer
      out = arrival_out (context_at side s) x.header x.segment x.bytes own theirs v (tells x refl) h.fit

  act_fits : (event : PairEvent) → SideFits own theirs (acts s others event).side
  act_fits (Listen side endpoint) =
      called (acts s others (Listen side endpoint)).side
      (cond_both (is_closed v.tcb.state && not (endpoint.port == 0)) (listening v endpoint) (unoffered v) Fits
      (λ _. initial_fit own theirs In.Listen (0 + length (space (room_of v.received))) 0 0 emptied_room refl) (λ _. h.fit))
      refl
  act_fits (Connect side remote local) =
      called (acts s others (Connect side remote local)).side
      (cond_both (is_closed v.tcb.state)
      (connected_by v (four_tuple_for (context_at side s) remote local) (number_for (context_at side s) (four_tuple_for (context_at side s) remote local))) (unoffered v)
      Fits (λ _. connects (four_tuple_for (context_at side s) remote local) (number_for (context_at side s) (four_tuple_for (context_at side s) remote local)))
      (λ _. h.fit))
      refl
  act_fits (Send side bytes) =
      called (acts s others (Send side bytes)).side
      (cond_both (takes_writes v.tcb.state) (sent_more v (enqueued (anchored v.queued) (take (min (length bytes) (length v.queued.free)) bytes)))
      (unoffered v) Fits (writes (take (min (length bytes) (length v.queued.free)) bytes)) (λ _. h.fit))
      refl
  act_fits (Recv side count) = read_fits (recv_answer v count)
  act_fits (Close side) = closes
  act_fits (Abort side) =
      called (acts s others (Abort side)).side
      (cond_both (is_time_wait v.tcb.state) (ended (unoffered v))
      (with_tcb (unoffered v) (record v.tcb { state = In.Closed; sender = record v.tcb.sender { reset_due = is_some v.tcb.names.pair } })) Fits
      (λ _. closed_fit own theirs (fit_of v) h.fit) (λ _. closed_fit own theirs (fit_of v) h.fit))
      refl
  act_fits (TcpSetting side setting) = called (acts s others (TcpSetting side setting)).side (set_fits setting) refl
  act_fits (Clock side instant) = called (acts s others (Clock side instant)).side h.fit refl
  act_fits (Offer side instant sent) = asked side instant sent
  act_fits (Deliver from k) = handed_fits (other from) (slice_get others k) (λ x e. AllByRecursion-at (IsTold theirs) others k x heard e)

-- A PAIR

abbrev room_in : ℕ → ℕ → Side → ℕ
room_in a b A = a
room_in a b B = b

record BothFit (a b : ℕ) (sides : Both PairSide) : Type 0 where
  first : SideFits a b sides.a
  second : SideFits b a sides.b

fits_at : (a b : ℕ) (sides : Both PairSide) (side : Side) → BothFit a b sides → SideFits (room_in a b side) (room_in a b (other side)) (at sides side)
fits_at a b sides A f = f.first
fits_at a b sides B f = f.second

put_fits :
    (a b : ℕ) (sides : Both PairSide) (side : Side) (new : PairSide) → BothFit a b sides → SideFits (room_in a b side) (room_in a b (other side)) new
    → BothFit a b (put sides side new)
put_fits a b sides A new f g = record { first = g; second = f.second }
put_fits a b sides B new f g = record { first = f.first; second = g }

told_by : (a b : ℕ) (sides : Both PairSide) (side : Side) → BothFit a b sides → AllByRecursion (IsTold (room_in a b (other side))) (at sides (other side)).sent
told_by a b sides A f = f.second.told
told_by a b sides B f = f.first.told

is_whole : (p : PairValue) (side : Side) → IsReached p → IsWhole (socket_of p side)
is_whole p side r on = let k = reached_keeps p side r in (placed (socket_of p side) k.side k.fits k.holds.0.well_formed on).snd_max

event_fits : (a b : ℕ) (p : PairValue) (event : PairEvent) → IsReached p → BothFit a b p.sides → BothFit a b (happens p event).pair.sides
event_fits a b p event r f =
    let side = side_of event in
    put_fits a b p.sides side (acting p event).side f
    (act_fits (room_in a b side) (room_in a b (other side)) (at p.sides side) (at p.sides (other side)).sent (ready_side p side r).order (is_whole p side r)
    (told_by a b p.sides side f) (fits_at a b p.sides side f) event)

steps_fit :
    (a b : ℕ) (old : PairValue) (events : List PairEvent) (new : PairValue) → IsReached old → Steps old events new → BothFit a b old.sides
    → BothFit a b new.sides
steps_fit a b old [] new r is f = subst (λ (p : PairValue). BothFit a b p.sides) (sym is) f
steps_fit a b old (event ∷ events) new r s f =
    steps_fit a b (happens old event).pair events new (reached_by old (happens old event).pair (event ∷ []) r (s.0, refl)) s.1 (event_fits a b old event r f)

new_fit : (own theirs : ℕ) (ring : Ring ℕ) → IsFit own theirs (fit_of (new_socket own ring))
new_fit own theirs ring = initial_fit own theirs In.Closed (0 + length (space own)) 0 0 (by (length-space own)) refl where
  by : {a : ℕ} → a ≡ own → 0 + a ≡ own
  by a = omega arith

reached_fits : (p : PairValue) (r : IsReached p) → BothFit r.a.room r.b.room p.sides
reached_fits p r =
    steps_fit r.a.room r.b.room (both_started r.a r.b) r.events p (record { a = r.a; b = r.b; events = []; steps = refl }) r.steps
    (record {
      first = record { fit = new_fit r.a.room r.b.room r.a.ring; told = tt };
      second = record { fit = new_fit r.b.room r.a.room r.b.ring; told = tt };
    })

keeps_by :
    (v w : TcpValue) (own theirs : ℕ) → IsFit own theirs (fit_of v) → room_of w.received ≡ theirs → KeepsToWindow v w
keeps_by v w own theirs f same = record {
  window = subst (λ (n : ℕ). v.tcb.peer.window ≤ n) (sym same) f.window;
  sent = subst (λ (n : ℕ). v.tcb.sender.snd_max ≤ max 1 n + 2) (sym same) (two v.tcb.sender.snd_max (max 1 theirs) f.short.snd_max);
}
  where
    two : (a b : ℕ) → a ≤ suc (suc b) → a ≤ b + 2
    two a b e = omega arith

pub reached_windows : (p : PairValue) (side : Side) → IsReached p → KeepsToWindow (socket_of p side) (socket_of p (other side))
reached_windows p A r =
    let f = reached_fits p r in keeps_by p.sides.a.socket p.sides.b.socket r.a.room r.b.room f.first.fit f.second.fit.room
reached_windows p B r =
    let f = reached_fits p r in keeps_by p.sides.b.socket p.sides.a.socket r.b.room r.a.room f.second.fit f.first.fit.room

told_at : (own room : ℕ) (s : PairSide) → room ≡ own → AllByRecursion (IsTold own) s.sent → AllByRecursion (IsTold room) s.sent
told_at own room s same told = subst (λ (n : ℕ). AllByRecursion (IsTold n) s.sent) (sym same) told

pub reached_told : (p : PairValue) (side : Side) → IsReached p → HasTold (at p.sides side)
reached_told p A r = let f = reached_fits p r in told_at r.a.room (room_of p.sides.a.socket.received) p.sides.a f.first.fit.room f.first.told
reached_told p B r = let f = reached_fits p r in told_at r.b.room (room_of p.sides.b.socket.received) p.sides.b f.second.fit.room f.second.told

pub near_in :
    (p : PairValue) (side : Side) → IsReached p → IsOpen (socket_of p side).tcb → is_synchronized (socket_of p (other side)).tcb.state ≡ true
    → 1 ≤ room_of (socket_of p (other side)).received
    → distance_of (socket_of p side).tcb.sender.una (socket_of p (other side)).tcb.receiver.next ≤ room_of (socket_of p (other side)).received + 2
near_in p side r mine theirs some =
    reached_near p side r mine theirs
    (larger (socket_of p side).tcb.sender.snd_max (room_of (socket_of p (other side)).received) some (reached_windows p side r).sent)
  where
    larger : (snd_max room : ℕ) → 1 ≤ room → snd_max ≤ max 1 room + 2 → snd_max ≤ room + 2
    larger snd_max room a b = omega arith

-- of a peer with room for a byte
pub fits_in :
    (p : PairValue) (side : Side) → IsReached p → IsOpen (socket_of p side).tcb → IsOpen (socket_of p (other side)).tcb
    → 1 ≤ free_in (socket_of p (other side)) → FitsBuffer (socket_of p side) (socket_of p (other side))
fits_in p side r mine theirs some =
    near_in p side r mine theirs.synchronized (more (length (socket_of p (other side)).received.waiting) (free_in (socket_of p (other side))) some)
  where
    more : (waiting free : ℕ) → 1 ≤ free → 1 ≤ waiting + free
    more waiting free e = omega arith
