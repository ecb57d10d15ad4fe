-- Where a span of a course ends: soon after an instant.
use Rattle.std.proofs.Common.{◌≡◌, ◌⊎◌, inl, inr, ℕ, ◌≤◌, ◌==◌, ℤ, pos, ◌+ℤ◌, ◌≤ℤ◌, ◌<ℤ◌, int_lt, Bool, true, false, [], ◌∷◌, ◌++◌, Option, Some, None}
use Rattle.std.proofs.Common.{refl, sym, ap, ◌∙◌, subst}
use Rattle.std.proofs.lemmas.Bool.{eqb-true}
use Rattle.tcp_refinement.specs.Pair.Sides.{at}
use Rattle.tcp_refinement.specs.Pair.Steps.{Steps}
use Rattle.tcp_refinement.specs.Pair.Values.{PairValue}
use Rattle.tcp_refinement.specs.declared.pair.event.Side.{Side}
use Rattle.tcp_refinement.specs.declared.pair.event.Side.TheVariants.{A, B}
use Rattle.tcp_liveness.specs.Arrivals.{is_synchronized}
use Rattle.tcp_liveness.specs.Course.{AsksWithin, IsClocked, Wants, end_of, events_of}
use Rattle.tcp_liveness.specs.Exchange.{IsOpen}
use Rattle.tcp_liveness.specs.Near.{IsNear}
use Rattle.tcp_liveness.specs.Pair.{left_in, socket_of}
use Rattle.tcp_liveness.specs.Reached.{IsReached}
use Rattle.tcp_liveness.specs.Rounds.{takes}
use Rattle.tcp_liveness.specs.Spans.{IsThroughAmong}
use Rattle.tcp_liveness.proofs.CourseIdle.{wants_soon}
use Rattle.tcp_liveness.proofs.CourseInstants.{later, more_time, not_below, not_both, passed, upto}
use Rattle.tcp_liveness.proofs.CourseParts.{Course, clock_on, there_before}
use Rattle.tcp_liveness.proofs.CourseRuns.{wants}
use Rattle.tcp_liveness.proofs.Kept.{reached_by}
use Rattle.tcp_liveness.proofs.Onward.{positive}
use Rattle.tcp_liveness.proofs.OnwardPairs.{IsBegun, MovesIn, begun_after, by_steps}
use Rattle.tcp_liveness.proofs.Opened.{is_open}
use Rattle.tcp_liveness.proofs.PairTimers.{timer_near}
use Rattle.tcp_liveness.proofs.PutOff.{is_running}
use Rattle.tcp_liveness.proofs.PutOffRuns.{begun_of}

pub record Cut (now limit : ℤ) (wait : ℕ) (course : Course) : Type 0 where
  pub first : Course
  pub rest : Course
  pub is : course ≡ first ++ rest
  pub over : limit <ℤ end_of now first
  pub within : end_of now first ≤ℤ ((limit +ℤ pos 60_000_000) +ℤ pos wait)

-- a side that owes something wants to be asked within a minute
wants_then :
    (p : PairValue) (side : Side) (now : ℤ) → IsReached p → IsOpen (socket_of p side).tcb → 1 ≤ left_in p side → (at p.sides side).instant ≤ℤ now
    → Wants (now +ℤ pos 60_000_000) p side
wants_then p side now r mine owes clock = by (socket_of p side).tcb.timers.retransmit_at refl where
  none_out : (socket_of p side).tcb.timers.retransmit_at ≡ None → (none : Bool) → ((socket_of p side).tcb.sender.flight_size == 0) ≡ none →
      (socket_of p side).tcb.sender.flight_size ≡ 0
  none_out e true is = eqb-true (socket_of p side).tcb.sender.flight_size 0 is
  none_out e false is = absurd (let it = is_running p side r is in let runs = it.runs in let never = sym e ∙ runs in cc)

  by : (timer : Option ℤ) → (socket_of p side).tcb.timers.retransmit_at ≡ timer → Wants (now +ℤ pos 60_000_000) p side
  by (Some when) e =
      wants p side when (now +ℤ pos 60_000_000) r mine.synchronized e
      (upto when ((at p.sides side).instant +ℤ pos 60_000_000) (now +ℤ pos 60_000_000)
      (subst (λ (timer : Option ℤ). IsNear (at p.sides side).instant 60_000_000 timer) e (timer_near p side r))
      (more_time (at p.sides side).instant now 60_000_000 clock))
  by None e =
      wants_soon p side now r mine owes (record { none = none_out e ((socket_of p side).tcb.sender.flight_size == 0) refl; timer = e }) clock

module _ (q : PairValue) (side : Side) (there : is_synchronized (socket_of q side).tcb.state ≡ true) (wait : ℕ) (limit : ℤ) where
  -- all that the side's user wrote is acknowledged, or the course goes on past an instant, and has an event soon after it
  pub cut_on :
      (p : PairValue) (now : ℤ) (course : Course) → IsReached p → IsBegun p A → IsBegun p B → Steps p (events_of course) q
      → (at p.sides side).instant ≤ℤ now → IsClocked now course → AsksWithin wait now p course → now ≤ℤ limit → limit <ℤ end_of now course
      → IsThroughAmong p side (events_of course) ⊎ Cut now limit wait course
  cut_on p now [] r a b s clock clocked asks before over = absurd (not_both limit now before over)
  cut_on p now (x ∷ course) r a b s clock clocked asks before over =
      by (int_lt limit x.0) refl
      (λ (early : x.0 ≤ℤ limit).
      cut_on (takes p x.1) x.0 course rm (begun_after p (takes p x.1) A (first_moves A) a) (begun_after p (takes p x.1) B (first_moves B) b) s.1
      (clock_on p side x.1 now x.0 clock clocked.0 clocked.1.0) clocked.1.1 asks.1 early over)
    where
      rm : IsReached (takes p x.1)
      rm = reached_by p (takes p x.1) (x.1 ∷ []) r (s.0, refl)

      first_moves : (of : Side) → MovesIn p (takes p x.1) of
      first_moves of = by_steps p (x.1 ∷ []) (takes p x.1) r a b (s.0, refl) of

      mine : IsOpen (socket_of p side).tcb
      mine =
          is_open p side r (there_before p q side (begun_of p side a b) (by_steps p (x.1 ∷ events_of course) q r a b s side) there)
          (begun_of p side a b).syn

      Found : Type 0
      Found = IsThroughAmong p side (events_of (x ∷ course)) ⊎ Cut now limit wait (x ∷ course)

      further : IsThroughAmong (takes p x.1) side (events_of course) ⊎ Cut x.0 limit wait course → Found
      further (inl through) = inl (inr through)
      further (inr c) =
          inr (record { first = x ∷ c.first; rest = c.rest; is = ap (λ (l : Course). x ∷ l) c.is; over = c.over; within = c.within })

      soon : 1 ≤ left_in p side → x.0 ≤ℤ ((limit +ℤ pos 60_000_000) +ℤ pos wait)
      soon owes =
          upto x.0 ((now +ℤ pos 60_000_000) +ℤ pos wait) ((limit +ℤ pos 60_000_000) +ℤ pos wait)
          (asks.0 side (now +ℤ pos 60_000_000) (later now 60_000_000) (wants_then p side now r mine owes clock)).0
          (more_time (now +ℤ pos 60_000_000) (limit +ℤ pos 60_000_000) wait (more_time now limit 60_000_000 before))

      here : limit <ℤ x.0 → (none : Bool) → (left_in p side == 0) ≡ none → Found
      here e true through = inl (inl (eqb-true (left_in p side) 0 through))
      here e false owes =
          inr (record { first = x ∷ []; rest = course; is = refl; over = e; within = soon (positive (left_in p side) owes) })

      by : (passed : Bool) → int_lt limit x.0 ≡ passed →
          (x.0 ≤ℤ limit → IsThroughAmong (takes p x.1) side (events_of course) ⊎ Cut x.0 limit wait course) → Found
      by true e more = here (passed limit x.0 e) (left_in p side == 0) refl
      by false e more = further (more (not_below limit x.0 e))
