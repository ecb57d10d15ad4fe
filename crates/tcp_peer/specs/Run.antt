-- Runs of one side, with whatever comes for it.
use Rattle.std.specs.Prelude.{ℕ, List, [], ◌∷◌, ◌++◌}
use Rattle.tcp_theory.specs.Segment.{Segment}
use Rattle.tcp_theory.specs.Side.{Side}
use Rattle.tcp_theory.specs.Move.{Move, May, after}
use Rattle.tcp_theory.specs.Alone.{unopened}
use Rattle.tcp_peer.specs.Peer.{End, IsHonest, as_end}

-- a side, and each segment that came for it, in order
pub record Scene : Type 0 where
  pub side : Side
  pub came : List Segment

pub data Event : Type 0 where
  -- from now on the side may take what it says: at once, later, again, or never
  Comes : (x : Segment) → Event
  -- a move of the side, of the segments that came so far
  Does : (move : Move) → Event

-- of a peer the moves see only what it sent
abbrev pub MayHappen : End → Scene → Event → Type 0
MayHappen peer w (Comes x) = IsHonest peer (as_end w.side) w.side.sent x
MayHappen peer w (Does move) = May w.side (unopened 0 w.came) move

abbrev pub happens : Scene → Event → Scene
happens w (Comes x) = record w { came = w.came ++ x ∷ [] }
happens w (Does move) = record w { side = after w.side move }

-- all segments that come are this peer's, which is honest
abbrev pub IsRun : End → Scene → List Event → Type 0
IsRun peer w [] = Unit {0}
IsRun peer w (event ∷ events) = MayHappen peer w event × IsRun peer (happens w event) events

abbrev pub run : Scene → List Event → Scene
run w [] = w
run w (event ∷ events) = run (happens w event) events

-- a side that isn't opened, with so much receive space and with resets that its host sent
abbrev pub start : ℕ → List Segment → Scene
start room resets = record { side = unopened room resets; came = [] }
