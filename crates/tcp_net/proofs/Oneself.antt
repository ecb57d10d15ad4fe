-- What a side is by itself, beside whichever honest peer: what IsSafeBeside leaves out and a peer's proof needs.
use Rattle.std.specs.Prelude.{◌≡◌, ◌⊎◌, ℕ, Some, None}
use Rattle.std.specs.List.{AllByRecursion}
use Rattle.tcp_theory.specs.Numbers.{wire}
use Rattle.tcp_theory.specs.Segment.{Segment}
use Rattle.tcp_theory.specs.Segment.Control.{Syn, Rst}
use Rattle.tcp_theory.specs.Side.{Side}
use Rattle.tcp_theory.specs.Side.Opening.{Active}
use Rattle.tcp_theory.specs.Invariant.{IsWellFormed, HasReached}

-- a segment of this side: a SYN without ACK is of a side that connects, at its first number; an acknowledgement is of a position that it
-- has reached, past the SYN that it took
abbrev pub IsLocal : Side → Segment → Type 0
IsLocal s x =
    (x.control ≡ Rst)
    ⊎ ((x.control ≡ Syn → x.ack ≡ None → (x.seq ≡ wire s.iss) × (s.opening ≡ Active))
    × ((x.ack ≡ None) ⊎ ((number : ℕ) × (x.ack ≡ Some number) × HasReached s number)))

pub record IsOneself (s : Side) : Type 0 where
  pub well_formed : IsWellFormed s
  pub sent : AllByRecursion (IsLocal s) s.sent
