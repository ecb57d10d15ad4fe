-- Frames on their way: each that goes is taken by a poll of the other host in time.
use Rattle.std.specs.Prelude.{◌≡◌, ◌⊎◌, ℕ, ℤ, pos, ◌+ℤ◌, ◌≤ℤ◌, List, [], ◌∷◌, ◌++◌}
use Rattle.std.specs.List.{AllByRecursion}
use Rattle.lan.specs.declared.at_link.history.event.Side.{Side}
use Rattle.lan.specs.Worlds.AtLink.History.{Entry}
use Rattle.lan.specs.Worlds.AtLink.Kinds.{Kind, kind_of, other}
use Rattle.lan.specs.Worlds.AtLink.Kinds.Act.{Polls}
use Rattle.lan.specs.Worlds.AtLink.Kinds.Kind.{OfHost}
use Rattle.lan.specs.Worlds.AtLink.Runs.{Starts}
use Rattle.lan.specs.Worlds.AtLink.Node.{Nodes, node}
use Rattle.lan.specs.Worlds.Still.{StillRun}
use Rattle.proof_stack.specs.Progress.Events.{clock_in}
use Rattle.proof_stack.specs.Progress.Leave.{LiesAmong}

-- among these frames, each with the instant by which it is to be taken, is this one
abbrev pub IsOnItsWay : List (ℤ × List ℕ) → ℤ → List ℕ → Type 0
IsOnItsWay [] due frame = ⊥
IsOnItsWay (x ∷ more) due frame = (x ≡ (due, frame)) ⊎ IsOnItsWay more due frame

-- these are the frames that the host of a side sends in a poll
abbrev pub SendsIn : Kind → Nodes → Nodes → Side → List (List ℕ) → Type 0
SendsIn (OfHost host (Polls instant budget)) old new side frames = (host ≡ side) × ((node new side).link.sent ≡ (node old side).link.sent ++ frames)
SendsIn kind old new side frames = ⊥

-- a poll of a side's host takes this frame, which waits for it
abbrev pub TakesIn : Kind → Nodes → Side → List ℕ → Type 0
TakesIn (OfHost host (Polls instant budget)) hosts side frame = (host ≡ side) × LiesAmong (node hosts side).link.waiting budget frame
TakesIn kind hosts side frame = ⊥

-- Each frame that a host sends in a poll is taken by a poll of the other no more than so many microseconds later, and these frames of either side are
-- still on their way: what was isn't late, and still is, or is taken; and what is sent is to be taken in time. Of frames that were sent earlier nothing
-- is asked.
abbrev pub AreCarried : (starts : Starts) (delay : ℕ) (past more : List Entry) (hosts : Nodes) → StillRun starts (more ++ past) hosts
    → (Side → List (ℤ × List ℕ)) → Type 0
AreCarried starts delay past [] hosts still on_way = (side : Side) → on_way side ≡ []
AreCarried starts delay past (e ∷ more) hosts still on_way =
    (before : Side → List (ℤ × List ℕ)) × AreCarried starts delay past more still.0 still.1 before
    × ((side : Side) → AllByRecursion (λ x. (clock_in (e ∷ more ++ past) ≤ℤ x.0)
    × (IsOnItsWay (on_way side) x.0 x.1 ⊎ TakesIn (kind_of e.event) still.0 (other side) x.1)) (before side))
    × ((side : Side) (frames : List (List ℕ)) → SendsIn (kind_of e.event) still.0 hosts side frames
    → AllByRecursion (λ frame. IsOnItsWay (on_way side) (clock_in (e ∷ more ++ past) +ℤ pos delay) frame) frames)
