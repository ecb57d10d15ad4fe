-- What the fields of a pair show and keep.
use Rattle.std.specs.Prelude.{◌≡◌, ◌⊎◌, ℕ, ◌≤◌, List, [], ◌∷◌, length, take, drop, None, Some}
use Rattle.tcp_refinement.specs.Tie.{Past}
use Rattle.tcp_refinement.specs.declared.pair.event.Side.{Side}
use Rattle.tcp_refinement.specs.declared.pair.event.PairEvent.{PairEvent}
use Rattle.tcp_refinement.specs.declared.pair.event.PairAnswer.{PairAnswer}
use Rattle.tcp_refinement.specs.declared.pair.event.PairRefused.{PairRefused}
use Rattle.tcp_refinement.specs.declared.pair.event.PairRefused.TheVariants.{Memory}
use Rattle.tcp_refinement.specs.Pair.History.{Entry, pasts}
use Rattle.tcp_refinement.specs.Pair.Safe.{IsKept}
use Rattle.tcp_refinement.specs.Pair.Sides.{Both, at}
use Rattle.tcp_refinement.specs.Pair.Steps.{Steps, was_opened, refusal}
use Rattle.tcp_refinement.specs.Pair.Values.{PairValue}
use Rattle.tcp_pair.specs.Ends.{EndValue}
use Rattle.tcp_pair.specs.States.{PairState, SideState, hosted}
use Rattle.tcp_pair.specs.declared.pair.Taken.{Taken}

-- the history of these events and answers, which stand in the order in which they came, before it
abbrev pub history_from : List Entry → List Taken → List PairAnswer → List Entry
history_from past [] answers = past
history_from past (t ∷ taken) [] = past
history_from past (t ∷ taken) (answer ∷ answers) =
    history_from (record { event = t.event; answer = answer; found = t.found } ∷ past) taken answers

abbrev pub owns : Both EndValue → Both SideState
owns ends = record { a = ends.a.own; b = ends.b.own }

-- a pair as its fields have it
abbrev pub pair_of : Both EndValue → List Taken → List PairAnswer → PairState
pair_of ends taken answers = record { sides = owns ends; history = history_from [] taken answers }

-- what a side counted is what the history says of it
pub record Tallies (e : EndValue) (p : Past) : Type 0 where
  pub opened : e.opened ≡ was_opened p.opening
  pub accepted : e.accepted ≡ length p.written

pub record IsPairOf (ends : Both EndValue) (taken : List Taken) (answers : List PairAnswer) : Type 0 where
  pub as_many : length taken ≡ length answers
  pub sides : (side : Side) → (at ends side).side ≡ side
  pub tallies : (side : Side) → Tallies (at ends side) (at (pasts (history_from [] taken answers)) side)
  pub kept : IsKept (hosted (pair_of ends taken answers))

-- a refusal of an event: that which it must have, or lack of memory where it must have none
abbrev pub MayRefuse : PairValue → PairEvent → PairRefused → Type 0
MayRefuse p event refused = (refusal p event ≡ Some refused) ⊎ ((refusal p event ≡ None) × (refused ≡ Memory))

-- so many of the events have been taken, and these are left
pub record HasRun (old : PairValue) (events : List PairEvent) (offset : ℕ) (left : List PairEvent) (now : PairValue) : Type 0 where
  pub steps : Steps old (take offset events) now
  pub left_over : drop offset events ≡ left
  pub bound : offset ≤ length events
  pub kept : IsKept now
