-- In each span of a course in which users read a position is reached, until all is acknowledged.
use Rattle.std.proofs.Common.{◌≡◌, ◌⊎◌, inl, inr, ℕ, zero, suc, ◌+◌, ◌-◌, ◌*◌, ◌≤◌, ◌==◌, max, ℤ, pos, ◌+ℤ◌, ◌<ℤ◌, Bool, true, false}
use Rattle.std.proofs.Common.{◌++◌, refl, sym, ap, ◌∙◌, subst, arith}
use Rattle.std.proofs.lemmas.Bool.{eqb-true}
use Rattle.tcp_refinement.specs.Pair.Sides.{other}
use Rattle.tcp_refinement.specs.Pair.Steps.{Steps}
use Rattle.tcp_refinement.specs.Pair.Values.{PairValue, past_at}
use Rattle.tcp_refinement.specs.declared.pair.event.Side.{Side}
use Rattle.tcp_refinement.specs.declared.pair.event.Side.TheVariants.{A, B}
use Rattle.tcp_liveness.specs.BothWays.{AreThere}
use Rattle.tcp_liveness.specs.Course.{AreTaken, AsksWithin, DeliversWithin, IsSentInTime, IsClocked, end_of, events_of}
use Rattle.tcp_liveness.specs.Onward.{AreOpen, HasRisen}
use Rattle.tcp_liveness.specs.Pair.{HasStream, left_in}
use Rattle.tcp_liveness.specs.Reached.{IsReached}
use Rattle.tcp_liveness.specs.Readers.{ReadsWithin, whole_span}
use Rattle.tcp_liveness.specs.Spans.{IsThroughAmong, most_reached, reached_in}
use Rattle.tcp_liveness.proofs.CourseCuts.{Cut, cut_on}
use Rattle.tcp_liveness.proofs.CourseInstants.{later}
use Rattle.tcp_liveness.proofs.CourseParts.{Course, Midway, after_all, asks_first, asks_rest, clock_all, clocked_first, clocked_rest, delivers_first}
use Rattle.tcp_liveness.proofs.CourseParts.{delivers_rest, end_parts, midway, reads_first, reads_rest, steps_first, steps_rest, taken_first, taken_rest}
use Rattle.tcp_liveness.proofs.CourseParts.{through_now, through_rest}
use Rattle.tcp_liveness.proofs.CourseSpans.{all_reached, first_span, no_less, one_more, other_spans, times_suc}
use Rattle.tcp_liveness.proofs.CourseWindows.{gets_on}
use Rattle.tcp_liveness.proofs.Kept.{reached_by}
use Rattle.tcp_liveness.proofs.LatePayload.{open_of, stream_since, there_of}
use Rattle.tcp_liveness.proofs.Onward.{positive}
use Rattle.tcp_liveness.proofs.OnwardPairs.{IsBegun, begun, by_steps}

-- SO MANY SPANS

minute_fits : (read wait span : ℕ) → 60_000_000 + wait ≤ read + 60_000_000 + wait + wait + span
minute_fits read wait span = omega arith

pub reached_whatever :
    (n : ℕ) (p q : PairValue) (side : Side) (course : Course) (read wait delay : ℕ) (now : ℤ) → IsReached p → AreOpen p → Steps p (events_of course) q
    → AreThere q → IsSentInTime wait delay now p side course → ReadsWithin read now p (other side) course
    → (now +ℤ pos (n * (2 * whole_span read wait delay p side))) <ℤ end_of now course
    → (reached_in p + n ≤ reached_in q) ⊎ IsThroughAmong p side (events_of course)
reached_whatever zero p q side course read wait delay now r o s there c reads over =
    inl (none (reached_in p) (reached_in q) (no_less p q (λ of. by_steps p (events_of course) q r (begun p A r o.0) (begun p B r o.1) s of))) where
      none : (a b : ℕ) → a ≤ b → a + 0 ≤ b
      none a b e = omega arith
reached_whatever (suc n) p q side course read wait delay now r o s there c reads over =
    by
    (λ (it : Cut now limit wait course) (wrote : HasStream (past_at (mid it) side)).
    reached_whatever n (mid it) q side it.rest read wait delay (end_of now it.first) (at_mid it).reached ((at_mid it).opened A, (at_mid it).opened B) (on it) there
    (record {
      clock = clock_all p side now it.first c.clock (clocked_first now it.first it.rest (clocked it));
      clocked = clocked_rest now it.first it.rest (clocked it);
      asks = asks_rest wait now p it.first it.rest (subst (AsksWithin wait now p) it.is c.asks);
      taken = taken_rest it.first it.rest (subst AreTaken it.is c.taken);
      delivers = delivers_rest delay p it.first it.rest (subst (DeliversWithin delay p) it.is c.delivers);
      stream = wrote;
      room = subst (λ (k : ℕ). 1 ≤ k) (sym ((at_mid it).to (other side)).room) c.room;
    })
    (reads_rest read now p (other side) it.first it.rest (subst (ReadsWithin read now p (other side)) it.is reads))
    (subst (λ (end : ℤ). (end_of now it.first +ℤ pos (n * (2 * whole_span read wait delay (mid it) side))) <ℤ end) (ends it)
    (subst (λ (k : ℕ). (end_of now it.first +ℤ pos (n * (2 * k))) <ℤ end_of now course) (sym (same_span it))
    (other_spans now (end_of now it.first) (end_of now course) span wait (n * (2 * span)) it.within (minute_fits read wait _) over_all))))
    (left_in p side == 0) refl
  where
    span : ℕ
    span = whole_span read wait delay p side

    limit : ℤ
    limit = now +ℤ pos span

    over_all : (now +ℤ pos (2 * span + n * (2 * span))) <ℤ end_of now course
    over_all = subst (λ (k : ℕ). (now +ℤ pos k) <ℤ end_of now course) (times_suc n span) over

    begun_p : (of : Side) → IsBegun p of
    begun_p of = begun p of r (open_of p of o)

    found : IsThroughAmong p side (events_of course) ⊎ Cut now limit wait course
    found =
        cut_on q side (there_of q side there) wait limit p now course r (begun_p A) (begun_p B) s c.clock c.clocked c.asks (later now span)
        (first_span now (end_of now course) span (n * (2 * span)) over_all)

    mid : Cut now limit wait course → PairValue
    mid it = after_all p it.first

    parts : (it : Cut now limit wait course) → Steps p (events_of (it.first ++ it.rest)) q
    parts it = subst (λ (l : Course). Steps p (events_of l) q) it.is s

    to : (it : Cut now limit wait course) → Steps p (events_of it.first) (mid it)
    to it = steps_first p q it.first it.rest (parts it)

    on : (it : Cut now limit wait course) → Steps (mid it) (events_of it.rest) q
    on it = steps_rest p q it.first it.rest (parts it)

    clocked : (it : Cut now limit wait course) → IsClocked now (it.first ++ it.rest)
    clocked it = subst (IsClocked now) it.is c.clocked

    ends : (it : Cut now limit wait course) → end_of now course ≡ end_of (end_of now it.first) it.rest
    ends it = ap (end_of now) it.is ∙ end_parts now it.first it.rest

    at_mid : (it : Cut now limit wait course) → Midway p (mid it) q
    at_mid it = midway p (mid it) q r begun_p there (events_of it.first) (events_of it.rest) (to it) (on it)

    same_span : (it : Cut now limit wait course) → whole_span read wait delay (mid it) side ≡ span
    same_span it =
        ap (λ (k : ℕ). read + 60_000_000 + wait + wait + ((max 1 k + 2 + 2) * 60_000_000 + wait + delay + delay)) ((at_mid it).to (other side)).room

    Ways : Type 0
    Ways = (reached_in p + suc n ≤ reached_in q) ⊎ IsThroughAmong p side (events_of course)

    After : Cut now limit wait course → Type 0
    After it = (reached_in (mid it) + n ≤ reached_in q) ⊎ IsThroughAmong (mid it) side (events_of it.rest)

    Rest : Type 0
    Rest = (it : Cut now limit wait course) → HasStream (past_at (mid it) side) → After it

    -- what isn't acknowledged was written
    wrote : (it : Cut now limit wait course) → 1 ≤ left_in p side → HasStream (past_at (mid it) side)
    wrote it owes = stream_since p (mid it) side r (open_of p side o) owes ((at_mid it).to side) c.stream

    one_span : (it : Cut now limit wait course) → 1 ≤ left_in p side → HasRisen p (mid it) side ⊎ HasRisen p (mid it) (other side)
    one_span it owes =
        gets_on p (mid it) side it.first read wait delay now r o (to it) (((at_mid it).opened A).synchronized, ((at_mid it).opened B).synchronized) owes
        (record {
          clock = c.clock;
          clocked = clocked_first now it.first it.rest (clocked it);
          asks = asks_first wait now p it.first it.rest (subst (AsksWithin wait now p) it.is c.asks);
          taken = taken_first it.first it.rest (subst AreTaken it.is c.taken);
          delivers = delivers_first delay p it.first it.rest (subst (DeliversWithin delay p) it.is c.delivers);
          stream = c.stream;
          room = c.room;
        })
        (reads_first read now p (other side) it.first it.rest (subst (ReadsWithin read now p (other side)) it.is reads))
        it.over

    sum : (a b c n : ℕ) → a + 1 ≤ b → b + n ≤ c → a + suc n ≤ c
    sum a b c n e f = omega arith

    then_on : (it : Cut now limit wait course) → reached_in p + 1 ≤ reached_in (mid it) → After it → Ways
    then_on it e (inl f) = inl (sum (reached_in p) (reached_in (mid it)) (reached_in q) n e f)
    then_on it e (inr through) =
        inr (subst (λ (l : Course). IsThroughAmong p side (events_of l)) (sym it.is) (through_rest p side it.first it.rest through))

    by_cut : Rest → 1 ≤ left_in p side → IsThroughAmong p side (events_of course) ⊎ Cut now limit wait course → Ways
    by_cut rest owes (inl ends) = inr ends
    by_cut rest owes (inr it) = at (one_span it owes) where
      at : HasRisen p (mid it) side ⊎ HasRisen p (mid it) (other side) → Ways
      at (inl risen) = then_on it (one_more p (mid it) (at_mid it).to side risen) (rest it (wrote it owes))
      at (inr risen) = then_on it (one_more p (mid it) (at_mid it).to (other side) risen) (rest it (wrote it owes))

    by : Rest → (none : Bool) → (left_in p side == 0) ≡ none → Ways
    by rest true e = inr (through_now p side course (eqb-true (left_in p side) 0 e))
    by rest false e = by_cut rest (positive (left_in p side) e) found

pub through_whatever :
    (p q : PairValue) (side : Side) (course : Course) (read wait delay : ℕ) (now : ℤ) → IsReached p → AreOpen p → Steps p (events_of course) q → AreThere q
    → IsSentInTime wait delay now p side course → ReadsWithin read now p (other side) course
    → (now +ℤ pos (suc (most_reached q - reached_in p) * (2 * whole_span read wait delay p side))) <ℤ end_of now course
    → IsThroughAmong p side (events_of course)
through_whatever p q side course read wait delay now r o s there c reads over =
    by (reached_whatever (suc (most_reached q - reached_in p)) p q side course read wait delay now r o s there c reads over) where
      never : (a b c : ℕ) → b ≤ c → a + suc (c - a) ≤ b → ⊥
      never a b c e f = absurd (omega arith)

      by : (reached_in p + suc (most_reached q - reached_in p) ≤ reached_in q) ⊎ IsThroughAmong p side (events_of course) → IsThroughAmong p side (events_of course)
      by (inl more) =
          absurd (never (reached_in p) (reached_in q) (most_reached q) (all_reached q (reached_by p q (events_of course) r s) there) more)
      by (inr it) = it
