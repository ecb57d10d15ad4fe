-- Through whatever events the retransmission timer runs out when it did, where SND.UNA hasn't risen; and within a minute it does.
use Rattle.std.proofs.Common.{◌≡◌, ◌⊎◌, inl, inr, ℕ, ◌+◌, ◌-◌, ◌<◌, ◌≤◌, ◌==◌, nat_lt, ℤ, pos, ◌+ℤ◌, ◌≤ℤ◌, int_le, Bool, true, false, List, [], ◌∷◌}
use Rattle.std.proofs.Common.{Option, Some, refl, sym, ap, ◌∙◌, subst, arith}
use Rattle.std.proofs.lemmas.Bool.{ltb-false, ltb-true}
use Rattle.std.proofs.lemmas.Int.{ints}
use Rattle.tcp_invariants.specs.Moments.{is_due}
use Rattle.tcp_invariants.specs.States.{is_closed}
use Rattle.tcp_invariants.proofs.OrderSteps.{clash}
use Rattle.tcp_refinement.specs.Pair.Sides.{at}
use Rattle.tcp_refinement.specs.Pair.Steps.{Steps}
use Rattle.tcp_refinement.specs.Pair.Values.{PairValue}
use Rattle.tcp_refinement.specs.declared.pair.event.PairEvent.{PairEvent}
use Rattle.tcp_refinement.specs.declared.pair.event.PairEvent.TheVariants.{Listen, Connect, Send, Recv, Close, Abort, TcpSetting, Clock, Offer, Deliver}
use Rattle.tcp_refinement.specs.declared.pair.event.Side.{Side}
use Rattle.tcp_refinement.specs.declared.pair.event.Side.TheVariants.{A, B}
use Rattle.tcp_liveness.specs.Arrivals.{is_synchronized}
use Rattle.tcp_liveness.specs.BothWays.{total_in}
use Rattle.tcp_liveness.specs.Near.{IsNear}
use Rattle.tcp_liveness.specs.Onward.{AreOpen, acked_in}
use Rattle.tcp_liveness.specs.Pair.{left_in, socket_of}
use Rattle.tcp_liveness.specs.PutOff.{AreAskedBefore, IsAskedBefore, IsAskedFrom, IsAskedFromAmong, IsRunning, MendsAmong, MendsIn, RunsOutAmong, RunsOutAt, RunsOutIn}
use Rattle.tcp_liveness.specs.Reached.{IsReached}
use Rattle.tcp_liveness.specs.Rounds.{takes}
use Rattle.tcp_liveness.proofs.Kept.{reached_by}
use Rattle.tcp_liveness.proofs.LatePayload.{left_within}
use Rattle.tcp_liveness.proofs.Opened.{is_open}
use Rattle.tcp_liveness.proofs.OnwardPairs.{IsBegun, MovesIn, begun, begun_after, by_steps}
use Rattle.tcp_liveness.proofs.Pair.{not_closed}
use Rattle.tcp_liveness.proofs.PairTimers.{timer_near}
use Rattle.tcp_liveness.proofs.PutOff.{in_time, is_running}
use Rattle.tcp_liveness.proofs.Turns.{late_on}

was_open : (old new : Bool) → (old ≡ true → new ≡ true) → new ≡ false → old ≡ false
was_open true new e f = clash (sym (e refl) ∙ f)
was_open false new e f = refl

pub begun_of : (p : PairValue) (side : Side) → IsBegun p A → IsBegun p B → IsBegun p side
begun_of p A a b = a
begun_of p B a b = b

-- an event of which more follow, where no more of a side is acknowledged after them all
pub record Step (p q : PairValue) (side : Side) (event : PairEvent) : Type 0 where
  pub reached : IsReached (takes p event)
  pub a : IsBegun (takes p event) A
  pub b : IsBegun (takes p event) B
  pub there : is_synchronized (socket_of (takes p event) side).tcb.state ≡ true
  pub una : (socket_of (takes p event) side).tcb.sender.una ≡ (socket_of p side).tcb.sender.una
  pub acked : acked_in q side ≤ acked_in (takes p event) side

pub step :
    (p q : PairValue) (side : Side) (event : PairEvent) (events : List PairEvent) → IsReached p → IsBegun p A → IsBegun p B → Steps p (event ∷ events) q
    → is_synchronized (socket_of q side).tcb.state ≡ true → acked_in q side ≤ acked_in p side → Step p q side event
step p q side event events r a b s there acked = record {
  reached = rm;
  a = am;
  b = bm;
  there = there_m;
  una = stays ((first side).una alive_m);
  acked =
      least (total_in p side) (total_in m side) (total_in q side) (left_in p side) (left_in m side) (left_in q side) (first side).acked acked;
}
  where
    m : PairValue
    m = takes p event

    rm : IsReached m
    rm = reached_by p m (event ∷ []) r (s.0, refl)

    first : (of : Side) → MovesIn p m of
    first of = by_steps p (event ∷ []) m r a b (s.0, refl) of

    am : IsBegun m A
    am = begun_after p m A (first A) a

    bm : IsBegun m B
    bm = begun_after p m B (first B) b

    then : MovesIn m q side
    then = by_steps m events q rm am bm s.1 side

    alive_m : is_closed (socket_of m side).tcb.state ≡ false
    alive_m =
        was_open (is_closed (socket_of m side).tcb.state) (is_closed (socket_of q side).tcb.state) then.closed
        (not_closed (socket_of q side).tcb.state there)

    alive_p : is_closed (socket_of p side).tcb.state ≡ false
    alive_p = was_open (is_closed (socket_of p side).tcb.state) (is_closed (socket_of m side).tcb.state) (first side).closed alive_m

    there_m : is_synchronized (socket_of m side).tcb.state ≡ true
    there_m = late_on (socket_of m side).tcb.state (begun_of m side am bm).early alive_m

    there_p : is_synchronized (socket_of p side).tcb.state ≡ true
    there_p = late_on (socket_of p side).tcb.state (begun_of p side a b).early alive_p

    within : left_in p side ≤ total_in p side
    within = left_within p side r (is_open p side r there_p (begun_of p side a b).syn)

    never : (a b c d e f : ℕ) → d ≤ a → a + e < b + d → b + f ≤ c + e → c - f ≤ a - d → ⊥
    never a b c d e f g h i j = absurd (omega arith)

    least : (a b c d e f : ℕ) → a + e ≤ b + d → c - f ≤ a - d → c - f ≤ b - e
    least a b c d e f g h = omega arith

    stays :
        (((socket_of m side).tcb.sender.una ≡ (socket_of p side).tcb.sender.una)
        × ((socket_of p side).tcb.sender.snd_max ≤ (socket_of m side).tcb.sender.snd_max))
        ⊎ (total_in p side + left_in m side < total_in m side + left_in p side)
        → (socket_of m side).tcb.sender.una ≡ (socket_of p side).tcb.sender.una
    stays (inl same) = same.0
    stays (inr risen) =
        absurd
        (never (total_in p side) (total_in m side) (total_in q side) (left_in p side) (left_in m side) (left_in q side) within risen then.acked acked)

runs_on :
    (p q : PairValue) (side : Side) (events : List PairEvent) (when : ℤ) → IsReached p → IsBegun p A → IsBegun p B → Steps p events q
    → is_synchronized (socket_of q side).tcb.state ≡ true → acked_in q side ≤ acked_in p side → RunsOutAt when (socket_of p side)
    → AreAskedBefore when side events → RunsOutAt when (socket_of q side) ⊎ MendsAmong p side events
runs_on p q side [] when r a b s there acked runs asked = inl (subst (λ (x : PairValue). RunsOutAt when (socket_of x side)) (sym s) runs)
runs_on p q side (event ∷ events) when r a b s there acked runs asked =
    let it : Step p q side event = step p q side event events r a b s there acked in
    by (λ on. runs_on (takes p event) q side events when it.reached it.a it.b s.1 there it.acked on asked.1)
    (in_time p side event when runs asked.0 it.there it.una)
  where
    by :
        (RunsOutAt when (socket_of (takes p event) side) → RunsOutAt when (socket_of q side) ⊎ MendsAmong (takes p event) side events)
        → RunsOutAt when (socket_of (takes p event) side) ⊎ MendsIn p side event
        → RunsOutAt when (socket_of q side) ⊎ MendsAmong p side (event ∷ events)
    by more (inr mends) = inr (inl mends)
    by more (inl on) = last (more on) where
      last :
          RunsOutAt when (socket_of q side) ⊎ MendsAmong (takes p event) side events
          → RunsOutAt when (socket_of q side) ⊎ MendsAmong p side (event ∷ events)
      last (inl runs) = inl runs
      last (inr mends) = inr (inr mends)

pub runs_through :
    (p q : PairValue) (side : Side) (events : List PairEvent) (when : ℤ) → IsReached p → AreOpen p → Steps p events q
    → is_synchronized (socket_of q side).tcb.state ≡ true → acked_in q side ≤ acked_in p side → RunsOutAt when (socket_of p side)
    → AreAskedBefore when side events → RunsOutAt when (socket_of q side) ⊎ MendsAmong p side events
runs_through p q side events when r o s there acked runs asked =
    runs_on p q side events when r (begun p A r o.0) (begun p B r o.1) s there acked runs asked

-- WITHIN A MINUTE

-- the side is asked then, or not before
pub asked_then : (p : PairValue) (side : Side) (event : PairEvent) (when : ℤ) → RunsOutAt when (socket_of p side) →
    RunsOutIn p side event ⊎ IsAskedBefore when side event
asked_then p A (Offer A instant sent) when runs = by (is_due instant (Some when)) refl where
  by : (due : Bool) → is_due instant (Some when) ≡ due → RunsOutIn p A (Offer A instant sent) ⊎ IsAskedBefore when A (Offer A instant sent)
  by true e = inl (refl, ap (is_due instant) runs ∙ e)
  by false e = inr (λ _. e)
asked_then p B (Offer B instant sent) when runs = by (is_due instant (Some when)) refl where
  by : (due : Bool) → is_due instant (Some when) ≡ due → RunsOutIn p B (Offer B instant sent) ⊎ IsAskedBefore when B (Offer B instant sent)
  by true e = inl (refl, ap (is_due instant) runs ∙ e)
  by false e = inr (λ _. e)
asked_then p A (Offer B instant sent) when runs = inr (λ e. absurd (cc))
asked_then p B (Offer A instant sent) when runs = inr (λ e. absurd (cc))
asked_then p side (Listen of endpoint) when runs = inr tt
asked_then p side (Connect of remote local) when runs = inr tt
asked_then p side (Send of bytes) when runs = inr tt
asked_then p side (Recv of count) when runs = inr tt
asked_then p side (Close of) when runs = inr tt
asked_then p side (Abort of) when runs = inr tt
asked_then p side (TcpSetting of setting) when runs = inr tt
asked_then p side (Clock of instant) when runs = inr tt
asked_then p side (Deliver from k) when runs = inr tt

-- through all of them it runs out, or starts again, or the side isn't asked then
runs_or :
    (p q : PairValue) (side : Side) (events : List PairEvent) (when : ℤ) → IsReached p → IsBegun p A → IsBegun p B → Steps p events q
    → is_synchronized (socket_of q side).tcb.state ≡ true → acked_in q side ≤ acked_in p side → RunsOutAt when (socket_of p side)
    → AreAskedBefore when side events ⊎ (RunsOutAmong p side events ⊎ MendsAmong p side events)
runs_or p q side [] when r a b s there acked runs = inl tt
runs_or p q side (event ∷ events) when r a b s there acked runs =
    let it : Step p q side event = step p q side event events r a b s there acked in
    by (λ on. runs_or (takes p event) q side events when it.reached it.a it.b s.1 there it.acked on)
    (λ asked. in_time p side event when runs asked it.there it.una) (asked_then p side event when runs)
  where
    by :
        (RunsOutAt when (socket_of (takes p event) side)
        → AreAskedBefore when side events ⊎ (RunsOutAmong (takes p event) side events ⊎ MendsAmong (takes p event) side events))
        → (IsAskedBefore when side event → RunsOutAt when (socket_of (takes p event) side) ⊎ MendsIn p side event)
        → RunsOutIn p side event ⊎ IsAskedBefore when side event
        → AreAskedBefore when side (event ∷ events) ⊎ (RunsOutAmong p side (event ∷ events) ⊎ MendsAmong p side (event ∷ events))
    by more on (inl out) = inr (inl (inl out))
    by more on (inr asked) = next (on asked) where
      last :
          AreAskedBefore when side events ⊎ (RunsOutAmong (takes p event) side events ⊎ MendsAmong (takes p event) side events)
          → AreAskedBefore when side (event ∷ events) ⊎ (RunsOutAmong p side (event ∷ events) ⊎ MendsAmong p side (event ∷ events))
      last (inl rest) = inl (asked, rest)
      last (inr (inl out)) = inr (inl (inr out))
      last (inr (inr mends)) = inr (inr (inr mends))

      next :
          RunsOutAt when (socket_of (takes p event) side) ⊎ MendsIn p side event
          → AreAskedBefore when side (event ∷ events) ⊎ (RunsOutAmong p side (event ∷ events) ⊎ MendsAmong p side (event ∷ events))
      next (inl runs) = last (more runs)
      next (inr mends) = inr (inr (inl mends))

-- A SIDE THAT IS ASKED LATE

-- one that is asked before an instant isn't asked at that one, or one after it
not_asked : (side : Side) (event : PairEvent) (from when : ℤ) → when ≤ℤ from → IsAskedBefore when side event → IsAskedFrom from side event → ⊥
not_asked side (Offer of instant sent) from when e before asked = too_late when from instant e asked.1 (before asked.0) where
  too_late : (when from instant : ℤ) → when ≤ℤ from → from ≤ℤ instant → int_le when instant ≡ false → ⊥
  too_late when from instant a b c = first_of (omega (arith, ints), grind (arith, ints))
not_asked side (Listen of endpoint) from when e before never = never
not_asked side (Connect of remote local) from when e before never = never
not_asked side (Send of bytes) from when e before never = never
not_asked side (Recv of count) from when e before never = never
not_asked side (Close of) from when e before never = never
not_asked side (Abort of) from when e before never = never
not_asked side (TcpSetting of setting) from when e before never = never
not_asked side (Clock of instant) from when e before never = never
not_asked side (Deliver of k) from when e before never = never

pub none_asked :
    (side : Side) (events : List PairEvent) (from when : ℤ) → when ≤ℤ from → AreAskedBefore when side events → IsAskedFromAmong from side events → ⊥
none_asked side [] from when e before never = never
none_asked side (event ∷ events) from when e before (inl asked) = not_asked side event from when e before.0 asked
none_asked side (event ∷ events) from when e before (inr asked) = none_asked side events from when e before.1 asked

pub minute_passes :
    (p q : PairValue) (side : Side) (events : List PairEvent) → IsReached p → AreOpen p → Steps p events q
    → ((socket_of p side).tcb.sender.flight_size == 0) ≡ false → IsAskedFromAmong ((at p.sides side).instant +ℤ pos 60_000_000) side events
    → is_synchronized (socket_of q side).tcb.state ≡ true
    → (acked_in p side < acked_in q side) ⊎ (RunsOutAmong p side events ⊎ MendsAmong p side events)
minute_passes p q side events r o s flight late there = by (nat_lt (acked_in p side) (acked_in q side)) refl where
  it : IsRunning (socket_of p side)
  it = is_running p side r flight

  near : it.at ≤ℤ ((at p.sides side).instant +ℤ pos 60_000_000)
  near = subst (λ (timer : Option ℤ). IsNear (at p.sides side).instant 60_000_000 timer) it.runs (timer_near p side r)

  over :
      AreAskedBefore it.at side events ⊎ (RunsOutAmong p side events ⊎ MendsAmong p side events)
      → (acked_in p side < acked_in q side) ⊎ (RunsOutAmong p side events ⊎ MendsAmong p side events)
  over (inl asked) = absurd (none_asked side events ((at p.sides side).instant +ℤ pos 60_000_000) it.at near asked late)
  over (inr out) = inr out

  by :
      (risen : Bool) → nat_lt (acked_in p side) (acked_in q side) ≡ risen
      → (acked_in p side < acked_in q side) ⊎ (RunsOutAmong p side events ⊎ MendsAmong p side events)
  by true e = inl (ltb-true (acked_in p side) (acked_in q side) e)
  by false e =
      over
      (runs_or p q side events it.at r (begun p A r o.0) (begun p B r o.1) s there (ltb-false (acked_in p side) (acked_in q side) e) it.runs)
