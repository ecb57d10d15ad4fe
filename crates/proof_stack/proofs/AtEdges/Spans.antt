-- Spans of a course, one after the other, wherever acknowledgements come.
use Rattle.std.proofs.Common.{◌≡◌, ◌⊎◌, inl, inr, ℕ, zero, suc, ◌+◌, ◌-◌, ◌*◌, ◌≤◌, ◌==◌, max, ℤ, pos, ◌+ℤ◌, ◌≤ℤ◌, ◌<ℤ◌, Bool, true, false}
use Rattle.std.proofs.Common.{List, [], ◌∷◌, ◌++◌, refl, sym, ap, ◌∙◌, subst, arith}
use Rattle.std.proofs.lemmas.Bool.{eqb-true}
use Rattle.tcp_refinement.specs.Pair.Sides.{other}
use Rattle.tcp_refinement.specs.Pair.Steps.{Steps}
use Rattle.tcp_refinement.specs.Pair.Values.{PairValue}
use Rattle.tcp_refinement.specs.declared.pair.event.PairEvent.{PairEvent}
use Rattle.tcp_refinement.specs.declared.pair.event.Side.{Side}
use Rattle.tcp_refinement.specs.declared.pair.event.Side.TheVariants.{A, B}
use Rattle.tcp_liveness.specs.BothWays.{AreThere}
use Rattle.tcp_liveness.specs.Course.{end_of, events_of}
use Rattle.tcp_liveness.specs.Onward.{AreOpen, HasRisen}
use Rattle.tcp_liveness.specs.Pair.{left_in}
use Rattle.tcp_liveness.specs.Reached.{IsReached}
use Rattle.tcp_liveness.specs.Readers.{whole_span}
use Rattle.tcp_liveness.specs.Rounds.{takes}
use Rattle.tcp_liveness.specs.Spans.{IsThroughAmong, most_reached, reached_in}
use Rattle.tcp_liveness.proofs.CourseCuts.{Cut, cut_on}
use Rattle.tcp_liveness.proofs.CourseInstants.{later}
use Rattle.tcp_liveness.proofs.CourseParts.{Course, after_all, asks_first, clocked_first, end_parts, reads_first, steps_first, taken_first, through_now, through_rest}
use Rattle.tcp_liveness.proofs.CourseSpans.{all_reached, first_span, no_less, one_more, other_spans, times_suc}
use Rattle.tcp_liveness.proofs.CourseStands.{Stands}
use Rattle.tcp_liveness.proofs.Kept.{reached_by}
use Rattle.tcp_liveness.proofs.LatePayload.{open_of, there_of}
use Rattle.tcp_liveness.proofs.Onward.{positive}
use Rattle.tcp_liveness.proofs.OnwardPairs.{MovesIn, begun, stays}
use Rattle.proof_stack.specs.Progress.Edges.{ArrivesBy, ArrivesInTime, ArrivesWith, ArrivesWithin, KeepsStream, edge_span}
use Rattle.proof_stack.proofs.AtEdges.Comes.{Here, from_here, here_at, moves_between, open_here, stream_now, there_here}
use Rattle.proof_stack.proofs.AtEdges.Whole.{proceeds}

-- THE FIRST PART OF A COURSE

comes_first :
    (last : ℤ) (side : Side) (k : ℕ) (p : PairValue) (first rest : Course) → ArrivesBy last side k p (first ++ rest) → ArrivesBy last side k p first
comes_first last side k p [] rest c = tt
comes_first last side k p (x ∷ first) rest c = (c.0, by (λ more. comes_first last side k (takes p x.1) first rest more) c.1) where
  by :
      (ArrivesBy last side k (takes p x.1) (first ++ rest) → ArrivesBy last side k (takes p x.1) first)
      → ArrivesWith p side k x.1 ⊎ ArrivesBy last side k (takes p x.1) (first ++ rest)
      → ArrivesWith p side k x.1 ⊎ ArrivesBy last side k (takes p x.1) first
  by on (inl is) = inl is
  by on (inr more) = inr (on more)

arrives_first : (delay : ℕ) (p : PairValue) (first rest : Course) → ArrivesWithin delay p (first ++ rest) → ArrivesWithin delay p first
arrives_first delay p [] rest d = tt
arrives_first delay p (x ∷ first) rest d =
    ((λ side k old new. comes_first (x.0 +ℤ pos delay) side k (takes p x.1) first rest (d.0 side k old new)), arrives_first delay (takes p x.1) first rest d.1)

keeps_first : (p : PairValue) (side : Side) (first rest : Course) → KeepsStream p side (first ++ rest) → KeepsStream p side first
keeps_first p side [] rest keeps = stream_now p side rest keeps
keeps_first p side (x ∷ first) rest keeps = (keeps.0, keeps_first (takes p x.1) side first rest keeps.1)

first_in_time :
    (read wait delay : ℕ) (now : ℤ) (p : PairValue) (first rest : Course) → ArrivesInTime read wait delay now p (first ++ rest)
    → ArrivesInTime read wait delay now p first
first_in_time read wait delay now p first rest c = record {
  clocks = c.clocks;
  clocked = clocked_first now first rest c.clocked;
  asks = asks_first wait now p first rest c.asks;
  taken = taken_first first rest c.taken;
  comes = arrives_first delay p first rest c.comes;
  reads = λ side. reads_first read now p side first rest (c.reads side);
  streams = λ side. keeps_first p side first rest (c.streams side);
  rooms = c.rooms;
}

-- WHERE A SPAN ENDS

module _ (p q : PairValue) (there : AreThere q) (read wait delay : ℕ) (end : ℤ) (side : Side) where
  abbrev Here_ : PairValue → ℤ → Course → Type 0
  Here_ m now rest = Here p q there read wait delay end m now rest

  -- all that the side's user wrote is acknowledged, or the course goes on past an instant, and has an event soon after it
  cut : (limit : ℤ) (m : PairValue) (now : ℤ) (course : Course) → Here_ m now course → now ≤ℤ limit → limit <ℤ end_of now course
      → IsThroughAmong m side (events_of course) ⊎ Cut now limit wait course
  cut limit m now course h before over =
      cut_on q side (there_of q side there) wait limit m now course h.reached (h.begun A) (h.begun B) h.steps (h.in_time.clocks side) h.in_time.clocked
      h.in_time.asks before over

  -- SO MANY SPANS

  minute_fits : (read wait span more : ℕ) → 60_000_000 + wait ≤ read + 60_000_000 + wait + wait + span + more
  minute_fits read wait span more = omega arith

  spans :
      (n : ℕ) (m : PairValue) (now : ℤ) (course : Course) → Here_ m now course
      → (now +ℤ pos (n * (2 * edge_span read wait delay m side))) <ℤ end_of now course
      → (reached_in m + n ≤ reached_in q) ⊎ IsThroughAmong m side (events_of course)
  spans zero m now course h over =
      inl (none (reached_in m) (reached_in q) (no_less m q (from_here p q there read wait delay end m now course h))) where
        none : (a b : ℕ) → a ≤ b → a + 0 ≤ b
        none a b e = omega arith
  spans (suc n) m now course h over =
      by
      (λ (it : Cut now limit wait course).
      spans n (mid it) (end_of now it.first) it.rest (here_mid it)
      (subst (λ (end : ℤ). (end_of now it.first +ℤ pos (n * (2 * edge_span read wait delay (mid it) side))) <ℤ end) (ends it)
      (subst (λ (k : ℕ). (end_of now it.first +ℤ pos (n * (2 * k))) <ℤ end_of now course) (sym (same_span it))
      (other_spans now (end_of now it.first) (end_of now course) span wait (n * (2 * span)) it.within (minute_fits read wait _ _) over_all))))
      (left_in m side == 0) refl
    where
      span : ℕ
      span = edge_span read wait delay m side

      limit : ℤ
      limit = now +ℤ pos span

      over_all : (now +ℤ pos (2 * span + n * (2 * span))) <ℤ end_of now course
      over_all = subst (λ (k : ℕ). (now +ℤ pos k) <ℤ end_of now course) (times_suc n span) over

      mid : Cut now limit wait course → PairValue
      mid it = after_all m it.first

      stands : (it : Cut now limit wait course) → Stands m course (mid it) it.rest
      stands it = record { first = it.first; to = refl; is = it.is }

      here_mid : (it : Cut now limit wait course) → Here_ (mid it) (end_of now it.first) it.rest
      here_mid it = here_at p q there read wait delay end m (mid it) now course it.rest h (stands it)

      to_mid : (it : Cut now limit wait course) (of : Side) → MovesIn m (mid it) of
      to_mid it of = moves_between p q there read wait delay end m (mid it) now course it.rest h (stands it) of

      ends : (it : Cut now limit wait course) → end_of now course ≡ end_of (end_of now it.first) it.rest
      ends it = ap (end_of now) it.is ∙ end_parts now it.first it.rest

      same_span : (it : Cut now limit wait course) → edge_span read wait delay (mid it) side ≡ span
      same_span it =
          ap
          (λ (k : ℕ).
          read + 60_000_000 + wait + wait + ((max 1 k + 2 + 2) * 60_000_000 + wait + delay + delay)
          + whole_span read wait delay (mid it) (other side))
          (to_mid it (other side)).room
          ∙ ap
          (λ (k : ℕ).
          whole_span read wait delay m side
          + (read + 60_000_000 + wait + wait + ((max 1 k + 2 + 2) * 60_000_000 + wait + delay + delay)))
          (to_mid it (other (other side))).room

      Ways : Type 0
      Ways = (reached_in m + suc n ≤ reached_in q) ⊎ IsThroughAmong m side (events_of course)

      After : Cut now limit wait course → Type 0
      After it = (reached_in (mid it) + n ≤ reached_in q) ⊎ IsThroughAmong (mid it) side (events_of it.rest)

      two_spans : (it : Cut now limit wait course) → 1 ≤ left_in m side → HasRisen m (mid it) side ⊎ HasRisen m (mid it) (other side)
      two_spans it owes =
          proceeds m (mid it) side it.first read wait delay now h.reached
          (open_here p q there read wait delay end m now course h A, open_here p q there read wait delay end m now course h B)
          (steps_first m q it.first it.rest (subst (λ (l : Course). Steps m (events_of l) q) it.is h.steps)) (
            there_here p q there read wait delay end (mid it) (end_of now it.first) it.rest (here_mid it) A,
            there_here p q there read wait delay end (mid it) (end_of now it.first) it.rest (here_mid it) B,
          )
          owes (first_in_time read wait delay now m it.first it.rest (subst (λ (l : Course). ArrivesInTime read wait delay now m l) it.is h.in_time))
          it.over

      sum : (a b c n : ℕ) → a + 1 ≤ b → b + n ≤ c → a + suc n ≤ c
      sum a b c n e f = omega arith

      then_on : (it : Cut now limit wait course) → reached_in m + 1 ≤ reached_in (mid it) → After it → Ways
      then_on it e (inl f) = inl (sum (reached_in m) (reached_in (mid it)) (reached_in q) n e f)
      then_on it e (inr through) =
          inr (subst (λ (l : Course). IsThroughAmong m side (events_of l)) (sym it.is) (through_rest m side it.first it.rest through))

      by_cut : ((it : Cut now limit wait course) → After it) → 1 ≤ left_in m side → IsThroughAmong m side (events_of course) ⊎ Cut now limit wait course
          → Ways
      by_cut rest owes (inl through) = inr through
      by_cut rest owes (inr it) = at (two_spans it owes) where
        at : HasRisen m (mid it) side ⊎ HasRisen m (mid it) (other side) → Ways
        at (inl risen) = then_on it (one_more m (mid it) (to_mid it) side risen) (rest it)
        at (inr risen) = then_on it (one_more m (mid it) (to_mid it) (other side) risen) (rest it)

      by : ((it : Cut now limit wait course) → After it) → (none : Bool) → (left_in m side == 0) ≡ none → Ways
      by rest true e = inr (through_now m side course (eqb-true (left_in m side) 0 e))
      by rest false e =
          by_cut rest (positive (left_in m side) e)
          (cut limit m now course h (later now span) (first_span now (end_of now course) span (n * (2 * span)) over_all))

module _ (p q : PairValue) (side : Side) (course : List (ℤ × PairEvent)) (read wait delay : ℕ) (now : ℤ) (r : IsReached p) (o : AreOpen p)
    (s : Steps p (events_of course) q) (there : AreThere q) (c : ArrivesInTime read wait delay now p course) where
  here_first : Here p q there read wait delay (end_of now course) p now course
  here_first = record {
    reached = r;
    begun = λ of. begun p of r (open_of p of o);
    to = λ of. stays _ _;
    steps = s;
    in_time = c;
    same_end = refl;
  }

  all_spans : (n : ℕ) → (now +ℤ pos (n * (2 * edge_span read wait delay p side))) <ℤ end_of now course →
      (reached_in p + n ≤ reached_in q) ⊎ IsThroughAmong p side (events_of course)
  all_spans n over = spans p q there read wait delay (end_of now course) side n p now course here_first over

  through : (now +ℤ pos (suc (most_reached q - reached_in p) * (2 * edge_span read wait delay p side))) <ℤ end_of now course →
      IsThroughAmong p side (events_of course)
  through over = by (all_spans (suc (most_reached q - reached_in p)) over) where
    never : (a b c : ℕ) → b ≤ c → a + suc (c - a) ≤ b → ⊥
    never a b c e f = absurd (omega arith)

    by : (reached_in p + suc (most_reached q - reached_in p) ≤ reached_in q) ⊎ IsThroughAmong p side (events_of course) → IsThroughAmong p side (events_of course)
    by (inl more) =
        absurd (never (reached_in p) (reached_in q) (most_reached q) (all_reached q (reached_by p q (events_of course) r s) there) more)
    by (inr it) = it

pub reached_at_edges :
    (n : ℕ) (p q : PairValue) (side : Side) (course : List (ℤ × PairEvent)) (read wait delay : ℕ) (now : ℤ) → IsReached p → AreOpen p
    → Steps p (events_of course) q → AreThere q → ArrivesInTime read wait delay now p course
    → (now +ℤ pos (n * (2 * edge_span read wait delay p side))) <ℤ end_of now course
    → (reached_in p + n ≤ reached_in q) ⊎ IsThroughAmong p side (events_of course)
reached_at_edges n p q side course read wait delay now r o s there c over = all_spans p q side course read wait delay now r o s there c n over

pub through_at_edges :
    (p q : PairValue) (side : Side) (course : List (ℤ × PairEvent)) (read wait delay : ℕ) (now : ℤ) → IsReached p → AreOpen p
    → Steps p (events_of course) q → AreThere q → ArrivesInTime read wait delay now p course
    → (now +ℤ pos (suc (most_reached q - reached_in p) * (2 * edge_span read wait delay p side))) <ℤ end_of now course
    → IsThroughAmong p side (events_of course)
through_at_edges p q side course read wait delay now r o s there c over = through p q side course read wait delay now r o s there c over
