-- Two sides, and the runs of both.
use Rattle.std.specs.Prelude.{ℕ, List, [], ◌∷◌}
use Rattle.tcp_theory.specs.Side.{Side, initial}
use Rattle.tcp_theory.specs.Move.{Move, May, after}

pub record World : Type 0 where
  pub a : Side
  pub b : Side

-- a move of one of the two
pub data Event : Type 0 where
  A : (move : Move) → Event
  B : (move : Move) → Event

abbrev pub MayHappen : World → Event → Type 0
MayHappen w (A move) = May w.a w.b move
MayHappen w (B move) = May w.b w.a move

abbrev pub happens : World → Event → World
happens w (A move) = record w { a = after w.a move }
happens w (B move) = record w { b = after w.b move }

-- each event may happen where the ones before it have led to
abbrev pub IsRun : World → List Event → Type 0
IsRun w [] = Unit {0}
IsRun w (event ∷ events) = MayHappen w event × IsRun (happens w event) events

-- where the events lead to
abbrev pub run : World → List Event → World
run w [] = w
run w (event ∷ events) = run (happens w event) events

-- two new sides, with so much receive space
abbrev pub start : ℕ → ℕ → World
start space_a space_b = record { a = initial space_a; b = initial space_b }
