-- A connection goes on in time, wherever acknowledgements come.
use Rattle.std.proofs.Common.{◌⊎◌, inl, inr, ℕ, ◌≤◌, ℤ, pos, ◌+ℤ◌, ◌<ℤ◌, List, [], ◌∷◌, refl}
use Rattle.tcp_refinement.specs.Pair.Sides.{other}
use Rattle.tcp_refinement.specs.Pair.Steps.{Steps}
use Rattle.tcp_refinement.specs.Pair.Values.{PairValue}
use Rattle.tcp_refinement.specs.declared.pair.event.PairEvent.{PairEvent}
use Rattle.tcp_refinement.specs.declared.pair.event.Side.{Side}
use Rattle.tcp_refinement.specs.declared.pair.event.Side.TheVariants.{A, B}
use Rattle.tcp_liveness.specs.BothWays.{AreThere}
use Rattle.tcp_liveness.specs.Course.{DeliversWithin, IsHeardBy, IsHeardWith, end_of, events_of}
use Rattle.tcp_liveness.specs.Onward.{AreOpen, HasRisen}
use Rattle.tcp_liveness.specs.Pair.{left_in}
use Rattle.tcp_liveness.specs.Reached.{IsReached}
use Rattle.tcp_liveness.specs.Rounds.{takes}
use Rattle.tcp_liveness.proofs.CourseParts.{Course}
use Rattle.tcp_liveness.proofs.LatePayload.{open_of}
use Rattle.tcp_liveness.proofs.OnwardPairs.{begun, stays}
use Rattle.proof_stack.specs.Progress.Edges.{ArrivesBy, ArrivesInTime, ArrivesWith, ArrivesWithin, edge_span}
use Rattle.proof_stack.proofs.AtEdges.Comes.{Here}
use Rattle.proof_stack.proofs.AtEdges.RcvAdv.{two_spans}

either_side : (p q : PairValue) (side : Side) → HasRisen p q A ⊎ HasRisen p q B → HasRisen p q side ⊎ HasRisen p q (other side)
either_side p q A (inl e) = inl e
either_side p q A (inr e) = inr e
either_side p q B (inl e) = inr e
either_side p q B (inr e) = inl e

pub proceeds :
    (p q : PairValue) (side : Side) (course : List (ℤ × PairEvent)) (read wait delay : ℕ) (now : ℤ) → IsReached p → AreOpen p
    → Steps p (events_of course) q → AreThere q → 1 ≤ left_in p side → ArrivesInTime read wait delay now p course
    → (now +ℤ pos (edge_span read wait delay p side)) <ℤ end_of now course → HasRisen p q side ⊎ HasRisen p q (other side)
proceeds p q side course read wait delay now r o s there owes c over =
    either_side p q side (two_spans p q there read wait delay (end_of now course) side p now course here owes over) where
      here : Here p q there read wait delay (end_of now course) p now course
      here = record {
        reached = r;
        begun = λ of. begun p of r (open_of p of o);
        to = λ of. stays _ _;
        steps = s;
        in_time = c;
        same_end = refl;
      }

-- what is heard in time comes in time
heard_arrives : (last : ℤ) (side : Side) (k : ℕ) (p : PairValue) (course : Course) → IsHeardBy last side k p course → ArrivesBy last side k p course
heard_arrives last side k p [] h = tt
heard_arrives last side k p (x ∷ course) h = (h.0, by (λ more. heard_arrives last side k (takes p x.1) course more) h.1) where
  by :
      (IsHeardBy last side k (takes p x.1) course → ArrivesBy last side k (takes p x.1) course)
      → IsHeardWith p side k x.1 ⊎ IsHeardBy last side k (takes p x.1) course → ArrivesWith p side k x.1 ⊎ ArrivesBy last side k (takes p x.1) course
  by on (inl it) = inl (it.0, λ x sent. (it.1 x sent).initial)
  by on (inr more) = inr (on more)

pub arrives_within : (p : PairValue) (course : List (ℤ × PairEvent)) (delay : ℕ) → DeliversWithin delay p course → ArrivesWithin delay p course
arrives_within p [] delay d = tt
arrives_within p (x ∷ course) delay d =
    ((λ side k old new. heard_arrives (x.0 +ℤ pos delay) side k (takes p x.1) course (d.0 side k old new)), arrives_within (takes p x.1) course delay d.1)
