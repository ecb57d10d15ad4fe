-- In each span of a course a position is reached.
use Rattle.std.proofs.Common.{◌≡◌, ◌⊎◌, inl, inr, ℕ, zero, suc, ◌+◌, ◌-◌, ◌*◌, ◌<◌, ◌≤◌, ◌==◌, max, ℤ, pos, ◌+ℤ◌, ◌≤ℤ◌, ◌<ℤ◌, Bool, true, false}
use Rattle.std.proofs.Common.{◌++◌, length, refl, sym, ap, ◌∙◌, subst, arith}
use Rattle.std.proofs.lemmas.Bool.{eqb-true}
use Rattle.std.proofs.lemmas.Int.{ints}
use Rattle.tcp_block.specs.TcbRules.{one_if}
use Rattle.tcp_refinement.specs.Pair.Sides.{other}
use Rattle.tcp_refinement.specs.Pair.Steps.{Steps}
use Rattle.tcp_refinement.specs.Pair.Values.{PairValue, past_at}
use Rattle.tcp_refinement.specs.declared.pair.event.Side.{Side}
use Rattle.tcp_refinement.specs.declared.pair.event.Side.TheVariants.{A, B}
use Rattle.tcp_liveness.specs.Anew.{most_sent}
use Rattle.tcp_liveness.specs.BothWays.{AreThere, total_in}
use Rattle.tcp_liveness.specs.Course.{AreTaken, AsksWithin, DeliversWithin, IsSentInTime, IsClocked, IsHinderedAmong}
use Rattle.tcp_liveness.specs.Course.{end_of, events_of, span_of}
use Rattle.tcp_liveness.specs.Onward.{AreOpen, HasRisen, acked_in}
use Rattle.tcp_liveness.specs.Pair.{HasStream, left_in, socket_of}
use Rattle.tcp_liveness.specs.Reached.{IsReached}
use Rattle.tcp_liveness.specs.Sent.{sent_in, taken_in, unsent_in}
use Rattle.tcp_liveness.specs.Spans.{IsHeldAmong, IsThroughAmong, most_reached, reached_in}
use Rattle.tcp_liveness.proofs.CourseCuts.{Cut, cut_on}
use Rattle.tcp_liveness.proofs.CourseInstants.{later}
use Rattle.tcp_liveness.proofs.CourseParts.{Course, Midway, after_all, asks_first, asks_rest, clock_all, clocked_first, clocked_rest, delivers_first}
use Rattle.tcp_liveness.proofs.CourseParts.{delivers_rest, end_parts, held_first, held_rest, hindered_first, hindered_rest}
use Rattle.tcp_liveness.proofs.CourseParts.{midway, steps_first, steps_rest, taken_first, taken_rest, through_now, through_rest}
use Rattle.tcp_liveness.proofs.CourseOwes.{owed_in_time}
use Rattle.tcp_liveness.proofs.Kept.{reached_by}
use Rattle.tcp_liveness.proofs.LatePayload.{open_of, stream_since, there_of}
use Rattle.tcp_liveness.proofs.Onward.{positive}
use Rattle.tcp_liveness.proofs.OnwardPairs.{IsBegun, MovesIn, begun, by_steps}
use Rattle.tcp_liveness.proofs.SentPairs.{reached_taken}

-- WHAT IS REACHED

module _ (p m : PairValue) (moves : (of : Side) → MovesIn p m of) where
  acked_on : (of : Side) → acked_in p of ≤ acked_in m of
  acked_on of = by (total_in p of) (total_in m of) (left_in p of) (left_in m of) (moves of).acked where
    by : (a b c d : ℕ) → a + d ≤ b + c → a - c ≤ b - d
    by a b c d e = omega arith

  taken_on : (of : Side) → taken_in p of ≤ taken_in m of
  taken_on of = (moves of).taken

  pub no_less : reached_in p ≤ reached_in m
  no_less =
      four (acked_in p A) (taken_in p A) (acked_in p B) (taken_in p B) (acked_in m A) (taken_in m A) (acked_in m B) (taken_in m B) (acked_on A) (taken_on A)
      (acked_on B) (taken_on B)
    where
      four : (a b c d e f g h : ℕ) → a ≤ e → b ≤ f → c ≤ g → d ≤ h → a + b + (c + d) ≤ e + f + (g + h)
      four a b c d e f g h x y z w = omega arith

  pub one_more : (side : Side) → HasRisen p m side → reached_in p + 1 ≤ reached_in m
  one_more A (inl rises) =
      four (acked_in p A) (taken_in p A) (acked_in p B) (taken_in p B) (acked_in m A) (taken_in m A) (acked_in m B) (taken_in m B) rises (taken_on A)
      (acked_on B) (taken_on B)
    where
      four : (a b c d e f g h : ℕ) → a < e → b ≤ f → c ≤ g → d ≤ h → a + b + (c + d) + 1 ≤ e + f + (g + h)
      four a b c d e f g h x y z w = omega arith
  one_more A (inr rises) =
      four (acked_in p A) (taken_in p A) (acked_in p B) (taken_in p B) (acked_in m A) (taken_in m A) (acked_in m B) (taken_in m B) (acked_on A) rises
      (acked_on B) (taken_on B)
    where
      four : (a b c d e f g h : ℕ) → a ≤ e → b < f → c ≤ g → d ≤ h → a + b + (c + d) + 1 ≤ e + f + (g + h)
      four a b c d e f g h x y z w = omega arith
  one_more B (inl rises) =
      four (acked_in p A) (taken_in p A) (acked_in p B) (taken_in p B) (acked_in m A) (taken_in m A) (acked_in m B) (taken_in m B) (acked_on A) (taken_on A)
      rises (taken_on B)
    where
      four : (a b c d e f g h : ℕ) → a ≤ e → b ≤ f → c < g → d ≤ h → a + b + (c + d) + 1 ≤ e + f + (g + h)
      four a b c d e f g h x y z w = omega arith
  one_more B (inr rises) =
      four (acked_in p A) (taken_in p A) (acked_in p B) (taken_in p B) (acked_in m A) (taken_in m A) (acked_in m B) (taken_in m B) (acked_on A) (taken_on A)
      (acked_on B) rises
    where
      four : (a b c d e f g h : ℕ) → a ≤ e → b ≤ f → c ≤ g → d < h → a + b + (c + d) + 1 ≤ e + f + (g + h)
      four a b c d e f g h x y z w = omega arith

-- SO MANY SPANS

pub first_span : (now end : ℤ) (span more : ℕ) → (now +ℤ pos (2 * span + more)) <ℤ end → (now +ℤ pos span) <ℤ end
first_span now end span more e = first_of (omega (arith, ints), grind (arith, ints))

pub other_spans :
    (now mid end : ℤ) (span wait more : ℕ) → mid ≤ℤ (((now +ℤ pos span) +ℤ pos 60_000_000) +ℤ pos wait) → 60_000_000 + wait ≤ span
    → (now +ℤ pos (2 * span + more)) <ℤ end → (mid +ℤ pos more) <ℤ end
other_spans now mid end span wait more e f g = first_of (omega (arith, ints), grind (arith, ints))

minute_fits : (most wait delay : ℕ) → 60_000_000 + wait ≤ wait + ((most + 2) * 60_000_000 + wait + delay + delay)
minute_fits most wait delay = omega arith

pub times_suc : (n span : ℕ) → suc n * (2 * span) ≡ 2 * span + n * (2 * span)
times_suc n span = by n (2 * span) where
  by : (n w : ℕ) → suc n * w ≡ w + n * w
  by n w = first_of (omega arith, grind arith)

pub reached_in_spans :
    (n : ℕ) (p q : PairValue) (side : Side) (course : Course) (wait delay : ℕ) (now : ℤ) → IsReached p → AreOpen p → Steps p (events_of course) q
    → AreThere q → IsSentInTime wait delay now p side course → (now +ℤ pos (n * (2 * (wait + span_of wait delay p side)))) <ℤ end_of now course
    → (reached_in p + n ≤ reached_in q)
    ⊎ (IsHinderedAmong p side (events_of course) ⊎ (IsHeldAmong p side (events_of course) ⊎ IsThroughAmong p side (events_of course)))
reached_in_spans zero p q side course wait delay now r o s there c over =
    inl (none (reached_in p) (reached_in q) (no_less p q (λ of. by_steps p (events_of course) q r (begun p A r o.0) (begun p B r o.1) s of))) where
      none : (a b : ℕ) → a ≤ b → a + 0 ≤ b
      none a b e = omega arith
reached_in_spans (suc n) p q side course wait delay now r o s there c over =
    by
    (λ (it : Cut now limit wait course) (wrote : HasStream (past_at (mid it) side)).
    reached_in_spans n (mid it) q side it.rest wait delay (end_of now it.first) (at_mid it).reached ((at_mid it).opened A, (at_mid it).opened B) (on it) there
    (record {
      clock = clock_all p side now it.first c.clock (clocked_first now it.first it.rest (clocked it));
      clocked = clocked_rest now it.first it.rest (clocked it);
      asks = asks_rest wait now p it.first it.rest (subst (AsksWithin wait now p) it.is c.asks);
      taken = taken_rest it.first it.rest (subst AreTaken it.is c.taken);
      delivers = delivers_rest delay p it.first it.rest (subst (DeliversWithin delay p) it.is c.delivers);
      stream = wrote;
      room = subst (λ (k : ℕ). 1 ≤ k) (sym ((at_mid it).to (other side)).room) c.room;
    })
    (subst (λ (end : ℤ). (end_of now it.first +ℤ pos (n * (2 * (wait + span_of wait delay (mid it) side)))) <ℤ end) (ends it)
    (subst (λ (k : ℕ). (end_of now it.first +ℤ pos (n * (2 * (wait + k)))) <ℤ end_of now course) (sym (same_span it))
    (other_spans now (end_of now it.first) (end_of now course) span wait (n * (2 * span)) it.within (minute_fits (most_sent p side) wait delay) over_all))))
    (left_in p side == 0) refl
  where
    span : ℕ
    span = wait + span_of wait delay p side

    limit : ℤ
    limit = now +ℤ pos span

    over_all : (now +ℤ pos (2 * span + n * (2 * span))) <ℤ end_of now course
    over_all = subst (λ (k : ℕ). (now +ℤ pos k) <ℤ end_of now course) (times_suc n span) over

    begun_p : (of : Side) → IsBegun p of
    begun_p of = begun p of r (open_of p of o)

    found : IsThroughAmong p side (events_of course) ⊎ Cut now limit wait course
    found =
        cut_on q side (there_of q side there) wait limit p now course r (begun_p A) (begun_p B) s c.clock c.clocked c.asks (later now span)
        (first_span now (end_of now course) span (n * (2 * span)) over_all)

    mid : Cut now limit wait course → PairValue
    mid it = after_all p it.first

    parts : (it : Cut now limit wait course) → Steps p (events_of (it.first ++ it.rest)) q
    parts it = subst (λ (l : Course). Steps p (events_of l) q) it.is s

    to : (it : Cut now limit wait course) → Steps p (events_of it.first) (mid it)
    to it = steps_first p q it.first it.rest (parts it)

    on : (it : Cut now limit wait course) → Steps (mid it) (events_of it.rest) q
    on it = steps_rest p q it.first it.rest (parts it)

    clocked : (it : Cut now limit wait course) → IsClocked now (it.first ++ it.rest)
    clocked it = subst (IsClocked now) it.is c.clocked

    ends : (it : Cut now limit wait course) → end_of now course ≡ end_of (end_of now it.first) it.rest
    ends it = ap (end_of now) it.is ∙ end_parts now it.first it.rest

    at_mid : (it : Cut now limit wait course) → Midway p (mid it) q
    at_mid it = midway p (mid it) q r begun_p there (events_of it.first) (events_of it.rest) (to it) (on it)

    same_span : (it : Cut now limit wait course) → span_of wait delay (mid it) side ≡ span_of wait delay p side
    same_span it =
        ap (λ (k : ℕ). (max 1 k + 2 + 2) * 60_000_000 + wait + delay + delay) ((at_mid it).to (other side)).room

    Ways : Type 0
    Ways =
        (reached_in p + suc n ≤ reached_in q)
        ⊎ (IsHinderedAmong p side (events_of course) ⊎ (IsHeldAmong p side (events_of course) ⊎ IsThroughAmong p side (events_of course)))

    After : Cut now limit wait course → Type 0
    After it =
        (reached_in (mid it) + n ≤ reached_in q)
        ⊎ (IsHinderedAmong (mid it) side (events_of it.rest)
        ⊎ (IsHeldAmong (mid it) side (events_of it.rest) ⊎ IsThroughAmong (mid it) side (events_of it.rest)))

    Rest : Type 0
    Rest = (it : Cut now limit wait course) → HasStream (past_at (mid it) side) → After it

    -- what isn't acknowledged was written
    wrote : (it : Cut now limit wait course) → 1 ≤ left_in p side → HasStream (past_at (mid it) side)
    wrote it owes = stream_since p (mid it) side r (open_of p side o) owes ((at_mid it).to side) c.stream

    one_span : (it : Cut now limit wait course) → 1 ≤ left_in p side
        → HasRisen p (mid it) side ⊎ (HasRisen p (mid it) (other side)
        ⊎ (IsHinderedAmong p side (events_of it.first) ⊎ IsHeldAmong p side (events_of it.first)))
    one_span it owes =
        owed_in_time p (mid it) side it.first wait delay now r o (to it) (((at_mid it).opened A).synchronized, ((at_mid it).opened B).synchronized) owes
        (record {
          clock = c.clock;
          clocked = clocked_first now it.first it.rest (clocked it);
          asks = asks_first wait now p it.first it.rest (subst (AsksWithin wait now p) it.is c.asks);
          taken = taken_first it.first it.rest (subst AreTaken it.is c.taken);
          delivers = delivers_first delay p it.first it.rest (subst (DeliversWithin delay p) it.is c.delivers);
          stream = c.stream;
          room = c.room;
        })
        it.over

    sum : (a b c n : ℕ) → a + 1 ≤ b → b + n ≤ c → a + suc n ≤ c
    sum a b c n e f = omega arith

    hindered : (it : Cut now limit wait course) → IsHinderedAmong p side (events_of (it.first ++ it.rest)) → Ways
    hindered it h = inr (inl (subst (λ (l : Course). IsHinderedAmong p side (events_of l)) (sym it.is) h))

    held : (it : Cut now limit wait course) → IsHeldAmong p side (events_of (it.first ++ it.rest)) → Ways
    held it h = inr (inr (inl (subst (λ (l : Course). IsHeldAmong p side (events_of l)) (sym it.is) h)))

    then_on : (it : Cut now limit wait course) → reached_in p + 1 ≤ reached_in (mid it) → After it → Ways
    then_on it e (inl f) = inl (sum (reached_in p) (reached_in (mid it)) (reached_in q) n e f)
    then_on it e (inr (inl h)) = hindered it (hindered_rest p side it.first it.rest h)
    then_on it e (inr (inr (inl h))) = held it (held_rest p side it.first it.rest h)
    then_on it e (inr (inr (inr through))) =
        inr
        (inr
        (inr (subst (λ (l : Course). IsThroughAmong p side (events_of l)) (sym it.is) (through_rest p side it.first it.rest through))))

    by_cut : Rest → 1 ≤ left_in p side → IsThroughAmong p side (events_of course) ⊎ Cut now limit wait course → Ways
    by_cut rest owes (inl through) = inr (inr (inr through))
    by_cut rest owes (inr it) = at (one_span it owes) where
      at : HasRisen p (mid it) side ⊎ (HasRisen p (mid it) (other side)
          ⊎ (IsHinderedAmong p side (events_of it.first) ⊎ IsHeldAmong p side (events_of it.first))) → Ways
      at (inl risen) = then_on it (one_more p (mid it) (at_mid it).to side risen) (rest it (wrote it owes))
      at (inr (inl risen)) = then_on it (one_more p (mid it) (at_mid it).to (other side) risen) (rest it (wrote it owes))
      at (inr (inr (inl h))) = hindered it (hindered_first p side it.first it.rest h)
      at (inr (inr (inr h))) = held it (held_first p side it.first it.rest h)

    by : Rest → (none : Bool) → (left_in p side == 0) ≡ none → Ways
    by rest true e = inr (inr (inr (through_now p side course (eqb-true (left_in p side) 0 e))))
    by rest false e = by_cut rest (positive (left_in p side) e) found

-- each position of both streams is acknowledged once, and taken once
pub all_reached :
    (q : PairValue) → IsReached q → AreThere q → reached_in q ≤ most_reached q
all_reached q r there =
    both (total_in q A) (left_in q A) (taken_in q A) (total_in q B) (left_in q B) (taken_in q B) (taken B) (taken A) where
      within : (of : Side) → sent_in (socket_of q of) (past_at q of) - 1 ≤ total_in q of
      within of = less (length (past_at q of).written) (one_if (past_at q of).closed) (unsent_in (socket_of q of)) where
        less : (written closed unsent : ℕ) → suc written + closed - unsent - 1 ≤ written + closed
        less written closed unsent = omega arith

      upto : (a b c : ℕ) → a ≤ b → b ≤ c → a ≤ c
      upto a b c e f = omega arith

      taken : (of : Side) → taken_in q (other of) ≤ total_in q of
      taken of =
          upto (taken_in q (other of)) (sent_in (socket_of q of) (past_at q of) - 1) (total_in q of) (reached_taken q of r (there_of q of there)) (within of)

      both : (a b c d e f : ℕ) → c ≤ d → f ≤ a → a - b + c + (d - e + f) ≤ 2 * (a + d)
      both a b c d e f x y = omega arith

pub through_in_spans :
    (p q : PairValue) (side : Side) (course : Course) (wait delay : ℕ) (now : ℤ) → IsReached p → AreOpen p → Steps p (events_of course) q → AreThere q
    → IsSentInTime wait delay now p side course
    → (now +ℤ pos (suc (most_reached q - reached_in p) * (2 * (wait + span_of wait delay p side)))) <ℤ end_of now course
    → IsHinderedAmong p side (events_of course) ⊎ (IsHeldAmong p side (events_of course) ⊎ IsThroughAmong p side (events_of course))
through_in_spans p q side course wait delay now r o s there c over =
    by (reached_in_spans (suc (most_reached q - reached_in p)) p q side course wait delay now r o s there c over) where
      never : (a b c : ℕ) → b ≤ c → a + suc (c - a) ≤ b → ⊥
      never a b c e f = absurd (omega arith)

      by :
          (reached_in p + suc (most_reached q - reached_in p) ≤ reached_in q)
          ⊎ (IsHinderedAmong p side (events_of course) ⊎ (IsHeldAmong p side (events_of course) ⊎ IsThroughAmong p side (events_of course)))
          → IsHinderedAmong p side (events_of course) ⊎ (IsHeldAmong p side (events_of course) ⊎ IsThroughAmong p side (events_of course))
      by (inl more) =
          absurd (never (reached_in p) (reached_in q) (most_reached q) (all_reached q (reached_by p q (events_of course) r s) there) more)
      by (inr it) = it
