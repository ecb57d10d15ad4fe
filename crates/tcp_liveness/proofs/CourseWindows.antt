-- A side that owes something gets on, whatever its windows are, where the other's user reads.
use Rattle.std.proofs.Common.{◌⊎◌, inl, inr, ℕ, ◌+◌, ◌≤◌, ℤ, pos, ◌+ℤ◌, ◌<ℤ◌, ◌∷◌, sym, subst, arith}
use Rattle.std.proofs.lemmas.Int.{ints}
use Rattle.tcp_refinement.specs.Pair.Sides.{other}
use Rattle.tcp_refinement.specs.Pair.Steps.{Steps}
use Rattle.tcp_block.specs.Value.{room_of}
use Rattle.tcp_refinement.specs.Pair.Values.{PairValue}
use Rattle.tcp_refinement.specs.declared.pair.event.Side.{Side}
use Rattle.tcp_refinement.specs.declared.pair.event.Side.TheVariants.{A, B}
use Rattle.tcp_liveness.specs.Anew.{put_off_in}
use Rattle.tcp_liveness.specs.BothWays.{AreThere}
use Rattle.tcp_liveness.specs.Course.{DeliversWithin, IsSentInTime, IsClocked, IsShutAmong, end_of, events_of}
use Rattle.tcp_liveness.specs.Onward.{AreOpen, HasRisen}
use Rattle.tcp_liveness.specs.Pair.{left_in, next_sent, socket_of}
use Rattle.tcp_liveness.specs.Reached.{IsReached}
use Rattle.tcp_liveness.specs.Readers.{ReadsWithin, whole_span}
use Rattle.tcp_liveness.specs.Rounds.{takes}
use Rattle.tcp_liveness.proofs.CourseBegins.{all_gets}
use Rattle.tcp_liveness.proofs.CourseGoes.{exchanges}
use Rattle.tcp_liveness.proofs.CourseParts.{Course, Midway, clocked_rest, delivers_rest, midway}
use Rattle.tcp_liveness.proofs.CourseStands.{Begins, Gets, Stands, stands_on, steps_from, steps_to, timely}
use Rattle.tcp_liveness.proofs.Frees.{never_shut}
use Rattle.tcp_liveness.proofs.LatePayload.{open_of, risen_since, stream_since}
use Rattle.tcp_liveness.proofs.OnwardPairs.{IsBegun, begun}

-- WHAT GOES, COMES

module _ (p q : PairValue) (side : Side) (course : Course) (wait delay : ℕ) (now : ℤ) (r : IsReached p) (o : AreOpen p) (s : Steps p (events_of course) q)
    (there : AreThere q) (owes : 1 ≤ left_in p side) (c : IsSentInTime wait delay now p side course) (it : Begins side (delay + delay) p course) where
  abbrev after : PairValue
  after = takes it.m it.x.1

  then : Stands p course after it.rest
  then = stands_on p course it.m it.x it.rest it.stands

  begun_p : (of : Side) → IsBegun p of
  begun_p of = begun p of r (open_of p of o)

  steps_on : Steps after (events_of it.rest) q
  steps_on = steps_from p q after course it.rest then s

  at_after : Midway p after q
  at_after = midway p after q r begun_p there (events_of then.first) (events_of it.rest) (steps_to p q after course it.rest then s) steps_on

  room : 1 ≤ room_of (socket_of after (other side)).received
  room = subst (λ (n : ℕ). 1 ≤ n) (sym (at_after.to (other side)).room) c.room

  clocked : IsClocked it.x.0 it.rest
  clocked = (clocked_rest now it.stands.first (it.x ∷ it.rest) (subst (IsClocked now) it.stands.is c.clocked)).1.1

  delivers : DeliversWithin delay it.m (it.x ∷ it.rest)
  delivers =
      subst (λ (m : PairValue). DeliversWithin delay m (it.x ∷ it.rest)) it.stands.to
      (delivers_rest delay p it.stands.first (it.x ∷ it.rest) (subst (DeliversWithin delay p) it.stands.is c.delivers))

  two_segments : (a end : ℤ) → (a +ℤ pos (delay + delay)) <ℤ end → ((a +ℤ pos delay) +ℤ pos delay) <ℤ end
  two_segments a end e = first_of (omega (arith, ints), grind (arith, ints))

  comes : HasRisen p q side ⊎ HasRisen p q (other side)
  comes =
      by
      (exchanges it.m q side it.x it.rest delay it.goes at_after.reached (at_after.opened A, at_after.opened B) steps_on there
      (stream_since p after side r (open_of p side o) owes (at_after.to side) c.stream) room delivers clocked (two_segments it.x.0 (end_of it.x.0 it.rest) it.over))
    where
      by :
          HasRisen after q side ⊎ (HasRisen after q (other side) ⊎ IsShutAmong after side (next_sent it.m side) it.rest)
          → HasRisen p q side ⊎ HasRisen p q (other side)
      by (inl risen) = inl (risen_since p after q side (at_after.to side) risen)
      by (inr (inl risen)) = inr (risen_since p after q (other side) (at_after.to (other side)) risen)
      by (inr (inr shut)) =
          inr
          (risen_since p after q (other side) (at_after.to (other side))
          (inr (never_shut after q side (next_sent it.m side) it.rest at_after.reached (at_after.begun A) (at_after.begun B) steps_on there it.free shut)))

pub gets_on :
    (p q : PairValue) (side : Side) (course : Course) (read wait delay : ℕ) (now : ℤ) → IsReached p → AreOpen p → Steps p (events_of course) q → AreThere q
    → 1 ≤ left_in p side → IsSentInTime wait delay now p side course → ReadsWithin read now p (other side) course
    → (now +ℤ pos (whole_span read wait delay p side)) <ℤ end_of now course → HasRisen p q side ⊎ HasRisen p q (other side)
gets_on p q side course read wait delay now r o s there owes c reads over =
    by
    (all_gets q side there wait (delay + delay) p now course read
    (record {
      reached = r;
      a = begun p A r o.0;
      b = begun p B r o.1;
      steps = s;
      owes = owes;
      in_time = timely wait delay now p side course c;
    })
    reads (whole now (end_of now course) (put_off_in p side) over))
  where
    whole : (now end : ℤ) (put : ℕ) → (now +ℤ pos (read + 60_000_000 + wait + wait + (put + wait + delay + delay))) <ℤ end →
        (now +ℤ pos (read + 60_000_000 + wait + wait + (put + wait + (delay + delay)))) <ℤ end
    whole now end put e = first_of (omega (arith, ints), grind (arith, ints))

    by : Gets q side (delay + delay) p course → HasRisen p q side ⊎ HasRisen p q (other side)
    by (inl risen) = inl risen
    by (inr (inl risen)) = inr risen
    by (inr (inr it)) = comes p q side course wait delay now r o s there owes c it
