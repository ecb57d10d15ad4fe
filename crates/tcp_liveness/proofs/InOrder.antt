-- On a link that keeps order each segment that comes in time is heard, within 24 days.
use Rattle.std.proofs.Common.{◌≡◌, ◌⊎◌, inl, inr, ℕ, ◌≤◌, ℤ, pos, ◌+ℤ◌, ◌≤ℤ◌, true, false, List, [], ◌∷◌, Some, None, Result, Ok, Err}
use Rattle.std.proofs.Common.{slice_get, refl, sym, ◌∙◌, subst}
use Rattle.std.proofs.lemmas.Option.{slice_get_within}
use Rattle.tcp_theory.specs.Side.{Opening}
use Rattle.tcp_invariants.specs.Moments.{tsval_end_from}
use Rattle.tcp_invariants.specs.RecvError.{RecvError}
use Rattle.tcp_block.specs.Calls.{recv_answer}
use Rattle.tcp_refinement.specs.Pair.History.{pasts, side_of}
use Rattle.tcp_refinement.specs.Pair.Sides.{at, other}
use Rattle.tcp_refinement.specs.Pair.Steps.{Steps, acting, acts, reads, refusal}
use Rattle.tcp_refinement.specs.Pair.Values.{PairSide, PairValue}
use Rattle.tcp_refinement.specs.declared.pair.event.PairEvent.{PairEvent}
use Rattle.tcp_refinement.specs.declared.pair.event.PairEvent.TheVariants.{Listen, Connect, Send, Recv, Close, Abort, TcpSetting, Clock, Offer, Deliver}
use Rattle.tcp_refinement.specs.declared.pair.event.SentSegment.{SentSegment}
use Rattle.tcp_refinement.specs.declared.pair.event.Side.{Side}
use Rattle.tcp_liveness.specs.Clocks.{HasDays, IsTimed, Overtakes, arrives_stale}
use Rattle.tcp_liveness.specs.Course.{ComesFirst, ComesWith, DeliversWithin, IsHeard, IsHeardBy, IsHeardWith, IsInside, KeepsOrder, events_of}
use Rattle.tcp_liveness.specs.Pair.{next_sent, socket_of}
use Rattle.tcp_liveness.specs.Reached.{IsReached}
use Rattle.tcp_liveness.specs.Rounds.{takes}
use Rattle.tcp_liveness.proofs.CourseExchange.{as_itself, by_put, sent_by}
use Rattle.tcp_liveness.proofs.CourseInstants.{itself, upto}
use Rattle.tcp_liveness.proofs.CourseParts.{Course}
use Rattle.tcp_liveness.proofs.Kept.{reached_by}
use Rattle.tcp_liveness.proofs.Moments.{Proceeds, proceeds, handed_instant}
use Rattle.tcp_liveness.proofs.Overtaken.{Has, Shown, own_in, same_in, shown_after, some_at}
use Rattle.tcp_liveness.proofs.TsvalCases.{IsOwn}
use Rattle.tcp_liveness.proofs.TsvalPairs.{earlier, initial_by, reached_way}

-- MOMENTS

later_act : (s : PairSide) (others : List SentSegment) (event : PairEvent) → Proceeds s event → s.instant ≤ℤ (acts s others event).side.instant
later_act s others (Listen of endpoint) on = itself s.instant
later_act s others (Connect of remote local) on = itself s.instant
later_act s others (Send of bytes) on = itself s.instant
later_act s others (Recv of count) on = by (recv_answer s.socket count) where
  by : (got : Result ℕ RecvError) → s.instant ≤ℤ (reads s got).side.instant
  by (Ok n) = itself s.instant
  by (Err fault) = itself s.instant
later_act s others (Close of) on = itself s.instant
later_act s others (Abort of) on = itself s.instant
later_act s others (TcpSetting of setting) on = itself s.instant
later_act s others (Clock of instant) on = on
later_act s others (Offer of instant true) on = on
later_act s others (Offer of instant false) on = on
later_act s others (Deliver from j) on =
    subst (λ (t : ℤ). s.instant ≤ℤ t) (sym (handed_instant (other from) s (slice_get others j))) (itself s.instant)

later_event : (p : PairValue) (event : PairEvent) (side : Side) → refusal p event ≡ None → (at p.sides side).instant ≤ℤ (at (takes p event).sides side).instant
later_event p event side allowed =
    by_put (λ (s : PairSide). (at p.sides side).instant ≤ℤ s.instant) p.sides (side_of event) side (acting p event).side
    (λ own.
    subst (λ (of : Side). (at p.sides of).instant ≤ℤ (acting p event).side.instant) own
    (later_act (at p.sides (side_of event)) (at p.sides (other (side_of event))).sent event (proceeds p event allowed)))
    (itself (at p.sides side).instant)

later_steps : (p : PairValue) (events : List PairEvent) (q : PairValue) (side : Side) → Steps p events q → (at p.sides side).instant ≤ℤ (at q.sides side).instant
later_steps p [] q side s = subst (λ (q : PairValue). (at p.sides side).instant ≤ℤ (at q.sides side).instant) (sym s) (itself (at p.sides side).instant)
later_steps p (event ∷ events) q side s =
    upto (at p.sides side).instant (at (takes p event).sides side).instant (at q.sides side).instant (later_event p event side s.0)
    (later_steps (takes p event) events q side s.1)

-- A SEGMENT COMES BEFORE EACH LATER ONE

one_segment : (a b : SentSegment) → Some a ≡ Some b → a ≡ b
one_segment a b e = cc

module _ (since : ℤ) (begun : pos 0 ≤ℤ since) (s : PairSide) (opening : Opening) (side : Side) (k : ℕ) (x : SentSegment)
    (sent : slice_get s.sent k ≡ Some x) (within : s.instant ≤ℤ tsval_end_from since)
    (own : IsOwn s.socket.tcb.settings.timestamps s.instant x.segment.options.timestamp) (last : ℤ) where
  abbrev Has_ : PairValue → Type 0
  Has_ c = Has since s opening side k c

  abbrev Shown_ : PairValue → Type 0
  Shown_ c = Shown since s opening side k (at c.sides (other side))

  heard_at : (c : PairValue) (z : SentSegment) → Has_ c → Shown_ c → slice_get (at c.sides side).sent k ≡ Some z → IsInside c side z → IsHeard c side z
  heard_at c z has w e inside = record {
    initial =
        subst (λ (z : SentSegment). arrives_stale (socket_of c (other side)).tcb z.segment.options.timestamp ≡ false)
        (one_segment x z (sym (has k x sent) ∙ e))
        (initial_by (socket_of c (other side)).tcb s.socket.tcb.settings.timestamps since s.instant s.instant x.segment.options.timestamp begun
        (itself s.instant) within w.heard own);
    inside = inside;
  }

  in_order : (c : PairValue) (course : Course) → Has_ c → Shown_ c → ComesFirst last side k c course → IsHeardBy last side k c course
  in_order c [] has w t = tt
  in_order c (y ∷ course) has w t =
      (t.0, by (λ (has : Has_ (takes c y.1)) (w : Shown_ (takes c y.1)) (t : ComesFirst last side k (takes c y.1) course). in_order (takes c y.1) course has w t) t.1)
    where
      by :
          (Has_ (takes c y.1) → Shown_ (takes c y.1) → ComesFirst last side k (takes c y.1) course → IsHeardBy last side k (takes c y.1) course)
          → ComesWith c side k y.1 ⊎ ((Overtakes side k y.1 → ⊥) × ComesFirst last side k (takes c y.1) course)
          → IsHeardWith c side k y.1 ⊎ IsHeardBy last side k (takes c y.1) course
      by on (inl is) = inl (as_itself c side k y.1 is.0, λ z e. heard_at c z has w e (is.1 z e))
      by on (inr more) =
          inr
          (on (λ j z e. sent_by c y.1 side j z (has j z e))
          (shown_after since s opening side k c y.1 w (same_in since s opening side k c (slice_get_within s.sent k x sent) has) more.0) more.1)

-- A COURSE

pub heard_in_order :
    (q p : PairValue) (course : Course) (delay : ℕ) → IsReached p → Steps p (events_of course) q
    → ((side : Side) → HasDays q side (at q.sides side).instant) → KeepsOrder delay p course → DeliversWithin delay p course
heard_in_order q p [] delay r s days o = tt
heard_in_order q p (x ∷ course) delay r s days o =
    ((λ side k old new. comes side k old (some_at (at m.sides side).sent k new) (o.0 side k old new)), heard_in_order q m course delay rm s.1 days o.1)
  where
    m : PairValue
    m = takes p x.1

    rm : IsReached m
    rm = reached_by p m (x.1 ∷ []) r (s.0, refl)

    timed : (side : Side) → IsTimed (days side).since side m.history
    timed side = earlier (days side).since side m (events_of course) q s.1 (days side).timed

    comes :
        (side : Side) (k : ℕ) → next_sent p side ≤ k → (y : SentSegment) × (slice_get (at m.sides side).sent k ≡ Some y)
        → ComesFirst (x.0 +ℤ pos delay) side k m course → IsHeardBy (x.0 +ℤ pos delay) side k m course
    comes side k old it first =
        in_order (days side).since (days side).begun (at m.sides side) (at (pasts m.history) side).opening side k it.0 it.1
        (upto (at m.sides side).instant (at q.sides side).instant (tsval_end_from (days side).since) (later_steps m (events_of course) q side s.1)
        (days side).within)
        (own_in p side x.1 k it.0 (days side).since r (timed side).1 old it.1) (x.0 +ℤ pos delay) m course (λ j z e. e)
        (reached_way (days side).since side m rm (timed side)) first
