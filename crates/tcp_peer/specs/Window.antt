-- Where each byte that a side takes in comes from, whatever comes for it, honest or not.
use Rattle.std.specs.Prelude.{◌≡◌, ℕ, ◌+◌, ◌<◌, ◌≤◌, List, ◌∷◌, ◌++◌, length, Some, slice_get}
use Rattle.tcp_theory.specs.Numbers.{wire}
use Rattle.tcp_theory.specs.Segment.{Segment}
use Rattle.tcp_theory.specs.Safe.{IsPrefixOf}
use Rattle.tcp_theory.specs.Side.{Side, taken_in, rcv_next}
use Rattle.tcp_theory.specs.Move.{Move, Comes, after_all}
use Rattle.tcp_theory.specs.Move.Move.{TakesBytes}

-- The byte stood at this position in a segment that came. When the side took it, after the first of its moves, the position lay in its
-- receive window: from RCV.NXT on, RCV.WND positions long.
pub record CameInTheWindow (began peer_side : Side) (moves : List Move) (position byte : ℕ) : Type 0 where
  pub before : List Move
  pub later : List Move
  pub segment : Segment
  pub at : ℕ
  pub split : moves ≡ before ++ TakesBytes segment at ∷ later
  pub came : Comes peer_side segment
  pub number : segment.seq ≡ wire at
  pub offset : ℕ
  pub stood : slice_get segment.bytes offset ≡ Some byte
  pub there : at + offset ≡ position
  pub low : rcv_next (after_all began before) ≤ position
  pub high : position < rcv_next (after_all began before) + length (after_all began before).window

-- what was taken in before is there later, and so is what was read: more comes only after it
pub record IsKept (before later : Side) : Type 0 where
  pub taken : IsPrefixOf (taken_in before) (taken_in later)
  pub read : IsPrefixOf before.read later.read
