-- A side that owes something, in a course in which it is asked in time: what is left of the course with each event.
use Rattle.std.proofs.Common.{◌≡◌, ◌⊎◌, inl, inr, ℕ, ◌+◌, ◌-◌, ◌≤◌, ℤ, pos, ◌+ℤ◌, ◌≤ℤ◌, ◌<ℤ◌, [], ◌∷◌, ◌++◌, refl, sym, ap, ◌∙◌, subst, arith}
use Rattle.std.proofs.Common.{true, append_assoc}
use Rattle.tcp_block.specs.Value.{free_in, room_of}
use Rattle.tcp_refinement.specs.Pair.Sides.{at, other}
use Rattle.tcp_refinement.specs.Pair.Steps.{Steps}
use Rattle.tcp_refinement.specs.Pair.Values.{PairValue}
use Rattle.tcp_refinement.specs.declared.pair.event.PairEvent.{PairEvent}
use Rattle.tcp_refinement.specs.declared.pair.event.Side.{Side}
use Rattle.tcp_refinement.specs.declared.pair.event.Side.TheVariants.{A, B}
use Rattle.tcp_liveness.specs.Arrivals.{is_synchronized}
use Rattle.tcp_liveness.specs.BothWays.{AreThere, total_in}
use Rattle.tcp_liveness.specs.Course.{AreTaken, AsksWithin, IsSentInTime, IsClocked, end_of, events_of}
use Rattle.tcp_liveness.specs.Exchange.{IsOpen}
use Rattle.tcp_liveness.specs.Onward.{HasRisen, acked_in}
use Rattle.tcp_liveness.specs.Pair.{left_in, socket_of}
use Rattle.tcp_liveness.specs.Reached.{IsReached}
use Rattle.tcp_liveness.specs.Rounds.{takes}
use Rattle.tcp_liveness.proofs.CourseGoes.{Goes}
use Rattle.tcp_liveness.proofs.CourseParts.{Course, after_all, clock_on, steps_first, steps_rest, there_before}
use Rattle.tcp_liveness.proofs.Kept.{reached_by}
use Rattle.tcp_liveness.proofs.LatePayload.{left_within, risen_since, there_of}
use Rattle.tcp_liveness.proofs.OnwardPairs.{IsBegun, MovesIn, begun_after, by_steps}
use Rattle.tcp_liveness.proofs.Opened.{is_open}
use Rattle.tcp_liveness.proofs.PutOffRuns.{begun_of}

-- A PART OF A COURSE

-- where a pair stands in a course: what leads to it, and what follows
pub record Stands (p : PairValue) (course : Course) (m : PairValue) (rest : Course) : Type 0 where
  pub first : Course
  pub to : after_all p first ≡ m
  pub is : course ≡ first ++ rest

after_append : (p : PairValue) (first : Course) (x : ℤ × PairEvent) → after_all p (first ++ (x ∷ [])) ≡ takes (after_all p first) x.1
after_append p [] x = refl
after_append p (y ∷ first) x = after_append (takes p y.1) first x

pub stands_first : (p : PairValue) (course : Course) → Stands p course p course
stands_first p course = record { first = []; to = refl; is = refl }

pub stands_on : (p : PairValue) (course : Course) (m : PairValue) (x : ℤ × PairEvent) (rest : Course) → Stands p course m (x ∷ rest) →
    Stands p course (takes m x.1) rest
stands_on p course m x rest s = record {
  first = s.first ++ (x ∷ []);
  to = after_append p s.first x ∙ ap (λ (m : PairValue). takes m x.1) s.to;
  is = s.is ∙ sym (append_assoc s.first (x ∷ []) rest);
}

-- the events that lead there, and those that follow
pub steps_to : (p q m : PairValue) (course rest : Course) (s : Stands p course m rest) → Steps p (events_of course) q → Steps p (events_of s.first) m
steps_to p q m course rest s steps =
    subst (λ (m : PairValue). Steps p (events_of s.first) m) s.to
    (steps_first p q s.first rest (subst (λ (c : Course). Steps p (events_of c) q) s.is steps))

pub steps_from : (p q m : PairValue) (course rest : Course) → Stands p course m rest → Steps p (events_of course) q → Steps m (events_of rest) q
steps_from p q m course rest s steps =
    subst (λ (m : PairValue). Steps m (events_of rest) q) s.to
    (steps_rest p q s.first rest (subst (λ (c : Course). Steps p (events_of c) q) s.is steps))

-- what is asked of a course, but that segments come: the side is asked in time, and the other has a receive buffer
pub record IsTimely (wait : ℕ) (now : ℤ) (p : PairValue) (side : Side) (course : Course) : Type 0 where
  pub clock : (at p.sides side).instant ≤ℤ now
  pub clocked : IsClocked now course
  pub asks : AsksWithin wait now p course
  pub taken : AreTaken course
  pub room : 1 ≤ room_of (socket_of p (other side)).received

-- a course in which segments come too
pub timely : (wait delay : ℕ) (now : ℤ) (p : PairValue) (side : Side) (course : Course) → IsSentInTime wait delay now p side course → IsTimely wait now p side course
timely wait delay now p side course c = record { clock = c.clock; clocked = c.clocked; asks = c.asks; taken = c.taken; room = c.room }

-- With one of the events a segment goes from SND.UNA on, while the other's window is open, and so much time is left.
pub record Begins (side : Side) (reserve : ℕ) (p : PairValue) (course : Course) : Type 0 where
  pub m : PairValue
  pub x : ℤ × PairEvent
  pub rest : Course
  pub stands : Stands p course m (x ∷ rest)
  pub goes : Goes m side x.1
  pub free : 1 ≤ free_in (socket_of (takes m x.1) (other side))
  pub over : (x.0 +ℤ pos reserve) <ℤ end_of x.0 rest

-- SND.UNA or RCV.NXT rises, or a segment goes
abbrev pub Gets : PairValue → Side → ℕ → PairValue → Course → Type 0
Gets q side reserve p course = HasRisen p q side ⊎ (HasRisen p q (other side) ⊎ Begins side reserve p course)

begins_following :
    (side : Side) (reserve : ℕ) (p m : PairValue) (course rest : Course) → Stands p course m rest → Begins side reserve m rest
    → Begins side reserve p course
begins_following side reserve p m course rest s it = record {
  m = it.m;
  x = it.x;
  rest = it.rest;
  stands = record {
    first = s.first ++ it.stands.first;
    to = after_both p s.first it.stands.first ∙ (ap (λ (n : PairValue). after_all n it.stands.first) s.to ∙ it.stands.to);
    is = s.is ∙ (ap (λ (c : Course). s.first ++ c) it.stands.is ∙ sym (append_assoc s.first it.stands.first (it.x ∷ it.rest)));
  };
  goes = it.goes;
  free = it.free;
  over = it.over;
}
  where
    after_both : (p : PairValue) (a b : Course) → after_all p (a ++ b) ≡ after_all (after_all p a) b
    after_both p [] b = refl
    after_both p (x ∷ a) b = after_both (takes p x.1) a b

-- what is so after some events
pub back :
    (q : PairValue) (side : Side) (reserve : ℕ) (p m : PairValue) (course rest : Course) → Stands p course m rest → ((of : Side) → MovesIn p m of)
    → Gets q side reserve m rest → Gets q side reserve p course
back q side reserve p m course rest s to (inl risen) = inl (risen_since p m q side (to side) risen)
back q side reserve p m course rest s to (inr (inl risen)) = inr (inl (risen_since p m q (other side) (to (other side)) risen))
back q side reserve p m course rest s to (inr (inr it)) = inr (inr (begins_following side reserve p m course rest s it))

-- A SIDE IN A COURSE

module _ (q : PairValue) (side : Side) (there : AreThere q) (wait : ℕ) where
  pub record State (p : PairValue) (now : ℤ) (course : Course) : Type 0 where
    pub reached : IsReached p
    pub a : IsBegun p A
    pub b : IsBegun p B
    pub steps : Steps p (events_of course) q
    pub owes : 1 ≤ left_in p side
    pub in_time : IsTimely wait now p side course

  pub open_at : (p : PairValue) (now : ℤ) (course : Course) (of : Side) → State p now course → IsOpen (socket_of p of).tcb
  open_at p now course of h =
      is_open p of h.reached
      (there_before p q of (begun_of p of h.a h.b) (by_steps p (events_of course) q h.reached h.a h.b h.steps of) (there_of q of there))
      (begun_of p of h.a h.b).syn

  module _ (p : PairValue) (now : ℤ) (x : ℤ × PairEvent) (course : Course) (h : State p now (x ∷ course)) where
    abbrev pub m : PairValue
    m = takes p x.1

    pub moves : (of : Side) → MovesIn p m of
    moves of = by_steps p (x.1 ∷ []) m h.reached h.a h.b (h.steps.0, refl) of

    pub rm : IsReached m
    rm = reached_by p m (x.1 ∷ []) h.reached (h.steps.0, refl)

    pub begun_m : (of : Side) → IsBegun m of
    begun_m of = begun_after p m of (moves of) (begun_of p of h.a h.b)

    pub from_m : (of : Side) → MovesIn m q of
    from_m of = by_steps m (events_of course) q rm (begun_m A) (begun_m B) h.steps.1 of

    pub there_m : (of : Side) → is_synchronized (socket_of m of).tcb.state ≡ true
    there_m of = there_before m q of (begun_m of) (from_m of) (there_of q of there)

    pub open_m : (of : Side) → IsOpen (socket_of m of).tcb
    open_m of = is_open m of rm (there_m of) (begun_m of).syn

    mine : IsOpen (socket_of p side).tcb
    mine = open_at p now (x ∷ course) side h

    pub lift : (reserve : ℕ) → Gets q side reserve m course → Gets q side reserve p (x ∷ course)
    lift reserve gets =
        back q side reserve p m (x ∷ course) course (stands_on p (x ∷ course) p x course (stands_first p (x ∷ course))) moves gets

    pub tail : 1 ≤ left_in m side → State m x.0 course
    tail owes = record {
      reached = rm;
      a = begun_m A;
      b = begun_m B;
      steps = h.steps.1;
      owes = owes;
      in_time = record {
        clock = clock_on p side x.1 now x.0 h.in_time.clock h.in_time.clocked.0 h.in_time.clocked.1.0;
        clocked = h.in_time.clocked.1.1;
        asks = h.in_time.asks.1;
        taken = h.in_time.taken.1;
        room = subst (λ (n : ℕ). 1 ≤ n) (sym (moves (other side)).room) h.in_time.room;
      };
    }

    -- more is acknowledged, or something isn't still
    pub still_owes : acked_in m side ≤ acked_in p side → 1 ≤ left_in m side
    still_owes e =
        by (total_in p side) (left_in p side) (total_in m side) (left_in m side) h.owes (left_within p side h.reached mine) (moves side).total e where
          by : (a b c d : ℕ) → 1 ≤ b → b ≤ a → a ≤ c → c - d ≤ a - b → 1 ≤ d
          by a b c d e f g h = omega arith

    pub acked_to_end : acked_in m side ≤ acked_in q side
    acked_to_end = by (total_in m side) (total_in q side) (left_in m side) (left_in q side) (from_m side).acked where
      by : (a b c d : ℕ) → a + d ≤ b + c → a - c ≤ b - d
      by a b c d e = omega arith
