-- The events of a world at instants of one clock.
use Rattle.std.specs.Prelude.{◌≡◌, ℕ, ℤ, ◌≤ℤ◌, List, [], ◌∷◌, ◌++◌}
use Rattle.lan.specs.declared.at_link.history.event.Side.{Side}
use Rattle.lan.specs.Worlds.AtLink.Happening.{Happening}
use Rattle.lan.specs.Worlds.AtLink.History.{Entry}
use Rattle.lan.specs.Worlds.AtLink.Kinds.{Kind, kind_of}
use Rattle.lan.specs.Worlds.AtLink.Kinds.Act.{Calls}
use Rattle.lan.specs.Worlds.AtLink.Kinds.Kind.{OfHost}
use Rattle.lan.specs.Worlds.AtLink.Moves.{Step}
use Rattle.lan.specs.Worlds.AtLink.Runs.{Starts}
use Rattle.proof_stack.specs.Progress.Events.{clock_in, shown_in}

-- a user who calls the socket at the place of a host finds there what the one clock shows
abbrev pub IsCalledInTurn : (Side → ℕ) → (Side → ℤ) → ℤ → Kind → Type 0
IsCalledInTurn slots shown now (OfHost side (Calls slot call)) = slot ≡ slots side → shown side ≡ now
IsCalledInTurn slots shown now kind = Unit {0}

-- The later events of a history keep one clock, which never goes back: both hosts are polled, and asked when they want to be, at instants of it. And
-- users call the sockets at these slots when their host was the last to be told an instant, or both were told the same.
abbrev pub KeepOneClock : Starts → (Side → ℕ) → List Entry → List Entry → Type 0
KeepOneClock starts slots past [] = Unit {0}
KeepOneClock starts slots past (e ∷ more) =
    KeepOneClock starts slots past more × (clock_in (more ++ past) ≤ℤ clock_in (e ∷ more ++ past))
    × IsCalledInTurn slots (shown_in starts (more ++ past)) (clock_in (more ++ past)) (kind_of e.event)

-- moves without the numbers of the segments that come
abbrev pub timed : List (ℤ × Happening) → List (ℤ × Step)
timed [] = []
timed (x ∷ more) = (x.0, x.1.step) ∷ timed more
