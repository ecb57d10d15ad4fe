-- What holds of each pair, whatever happened to it.
use Rattle.std.specs.Prelude.{◌≡◌, ℕ, ◌-◌, ◌≤◌, true, List, [], ◌∷◌, ◌++◌, length}
use Rattle.tcp_theory.specs.Safe.{IsPrefixOf}
use Rattle.tcp_refinement.specs.Tie.{Past, Keeps}
use Rattle.tcp_refinement.specs.declared.pair.event.Side.{Side}
use Rattle.tcp_refinement.specs.declared.pair.event.Side.TheVariants.{A, B}
use Rattle.tcp_refinement.specs.declared.pair.event.PairEvent.{PairEvent}
use Rattle.tcp_refinement.specs.declared.pair.event.PairEvent.TheVariants.{Recv}
use Rattle.tcp_refinement.specs.declared.pair.event.PairAnswer.{PairAnswer}
use Rattle.tcp_refinement.specs.declared.pair.event.PairAnswer.TheVariants.{Error}
use Rattle.tcp_refinement.specs.declared.pair.event.TcpFault.TheVariants as Fault
use Rattle.tcp_refinement.specs.Pair.History.{Entry, pasts}
use Rattle.tcp_refinement.specs.Pair.Sides.{Both, at, other}
use Rattle.tcp_refinement.specs.Pair.Values.{PairValue, past_at}

-- what a side's user wrote and read
abbrev pub written : PairValue → Side → List ℕ
written p side = (at (pasts p.history) side).written

abbrev pub read : PairValue → Side → List ℕ
read p side = (at (pasts p.history) side).read

-- what it took in: read, or waiting to be read
abbrev pub taken_in : PairValue → Side → List ℕ
taken_in p side = read p side ++ (at p.sides side).socket.received.waiting

-- a read that was answered so: then the peer was closed, and all that it wrote was read
abbrev pub EndIsComplete : Both Past → Side → Type 0
EndIsComplete before side = ((at before (other side)).closed ≡ true) × ((at before side).read ≡ (at before (other side)).written)

abbrev pub WasComplete : PairEvent → PairAnswer → Both Past → Type 0
WasComplete (Recv side count) (Error Fault.Finished) before = EndIsComplete before side
WasComplete event answer before = Unit {0}

-- each answer over the history before it
abbrev pub EndsWereComplete : List Entry → Type 0
EndsWereComplete [] = Unit {0}
EndsWereComplete (e ∷ history) = WasComplete e.event e.answer (pasts history) × EndsWereComplete history

-- from a side to the other
pub record IsStreamSafe (p : PairValue) (side : Side) : Type 0 where
  -- what the other took in begins what this one's user wrote
  pub prefix : IsPrefixOf (taken_in p (other side)) (written p side)
  -- only bytes that were taken in have left the send queue
  pub freed : length (written p side) - length (at p.sides side).socket.queued.queue ≤ length (taken_in p (other side))

pub record IsSafe (p : PairValue) : Type 0 where
  pub from_a : IsStreamSafe p A
  pub from_b : IsStreamSafe p B
  -- the end of the stream means closed and complete
  pub ends : EndsWereComplete p.history

-- the invariant
pub record IsKept (p : PairValue) : Type 0 where
  pub sockets : Keeps (at p.sides A).socket (past_at p A) (at p.sides B).socket (past_at p B)
  pub ends : EndsWereComplete p.history
