-- What opens a window: a user that reads in time.
use Rattle.std.specs.Prelude.{◌≡◌, ◌⊎◌, ℕ, ◌+◌, ◌≤◌, ℤ, pos, ◌+ℤ◌, ◌≤ℤ◌, List, [], ◌∷◌}
use Rattle.tcp_refinement.specs.Pair.Sides.{other}
use Rattle.tcp_block.specs.Value.{free_in}
use Rattle.tcp_refinement.specs.Pair.Values.{PairValue}
use Rattle.tcp_refinement.specs.declared.pair.event.PairEvent.{PairEvent}
use Rattle.tcp_refinement.specs.declared.pair.event.PairEvent.TheVariants.{Recv}
use Rattle.tcp_refinement.specs.declared.pair.event.Side.{Side}
use Rattle.tcp_liveness.specs.Course.{span_of}
use Rattle.tcp_liveness.specs.Pair.{socket_of}
use Rattle.tcp_liveness.specs.Rounds.{takes}

-- USERS

-- with this event the user of a side reads a byte at least
abbrev pub Reads : Side → PairEvent → Type 0
Reads side (Recv of count) = (of ≡ side) × (1 ≤ count)
Reads side other = ⊥

-- it does before the clock passes an instant, unless the course ends before
abbrev pub IsReadBy : ℤ → Side → List (ℤ × PairEvent) → Type 0
IsReadBy last side [] = Unit {0}
IsReadBy last side (x ∷ course) = (x.0 ≤ℤ last) × (Reads side x.1 ⊎ IsReadBy last side course)

-- a user whose receive buffer is full reads no more than so many microseconds later
abbrev pub ReadsWithin : ℕ → ℤ → PairValue → Side → List (ℤ × PairEvent) → Type 0
ReadsWithin read now p side [] = Unit {0}
ReadsWithin read now p side (x ∷ course) =
    (free_in (socket_of p side) ≡ 0 → IsReadBy (now +ℤ pos read) side (x ∷ course)) × ReadsWithin read x.0 (takes p x.1) side course

-- HOW LONG A WINDOW STANDS IN THE WAY

-- until the other's user has read; and a minute, in which a probe goes, with as long as a side is let wait before it and after it
abbrev pub windows_in : ℕ → ℕ → ℕ
windows_in read wait = read + 60_000_000 + wait + wait

-- within so many microseconds a side that owes something gets on, whatever the windows are
abbrev pub whole_span : ℕ → ℕ → ℕ → PairValue → Side → ℕ
whole_span read wait delay p side = windows_in read wait + span_of wait delay p side
