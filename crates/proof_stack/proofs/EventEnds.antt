-- The last move of some events is made when the clock shows what it shows in the end.
use Rattle.std.proofs.Common.{◌≡◌, ℤ, List, [], ◌∷◌, ◌++◌, length, refl, sym, ap, ◌∙◌, arith}
use Rattle.lan.specs.Worlds.AtLink.Happening.{Happening}
use Rattle.lan.specs.Worlds.AtLink.History.{Entry}
use Rattle.lan.specs.Worlds.AtLink.Moves.{Step, run}
use Rattle.lan.specs.Worlds.AtLink.Parties.{Net}
use Rattle.lan.specs.Worlds.AtLink.Runs.{Starts}
use Rattle.lan.specs.Worlds.AtLink.Node.{Nodes}
use Rattle.lan.specs.Worlds.Moves.Follows.{IsNetOf}
use Rattle.lan.specs.Worlds.Still.{StillRun}
use Rattle.proof_stack.specs.Progress.Events.{MoveBy, all_at, clock_in, untimed}
use Rattle.proof_stack.specs.Progress.Moving.{end_in}
use Rattle.proof_stack.specs.Progress.OneClock.{timed}
use Rattle.proof_stack.proofs.EventFacts.{net_at}

abbrev pub ends : ℤ → List (ℤ × Step) → ℤ
ends now [] = now
ends now (x ∷ more) = ends x.0 more

pub end_timed : (moves : List (ℤ × Happening)) (now : ℤ) → end_in now moves ≡ ends now (timed moves)
end_timed [] now = refl
end_timed (x ∷ moves) now = end_timed moves x.0

ends_rest : (t : ℤ) (steps : List Step) → ends t (all_at t steps) ≡ t
ends_rest t [] = refl
ends_rest t (step ∷ steps) = ends_rest t steps

ends_all : (t : ℤ) (steps : List Step) (now : ℤ) → (steps ≡ [] → ⊥) → ends now (all_at t steps) ≡ t
ends_all t [] now some = absurd (some refl)
ends_all t (step ∷ steps) now some = ends_rest t steps

ends_at : (t : ℤ) (steps : List Step) (before : List (ℤ × Step)) (now : ℤ) → (steps ≡ [] → ⊥) → ends now (before ++ all_at t steps) ≡ t
ends_at t steps [] now some = ends_all t steps now some
ends_at t steps (x ∷ before) now some = ends_at t steps before x.0 some

-- an event is kept, so it is some move
some_step : (net : Net) (steps : List Step) (hosts new : Nodes) (history : List Entry) (e : Entry) → IsNetOf net hosts history
    → IsNetOf (run net steps) new (e ∷ history) → steps ≡ [] → ⊥
some_step net steps hosts new history e of then none =
    let count : length (e ∷ history) ≡ length history =
    ap (λ (h : List Entry). length h) (sym then.history ∙ ap (λ (ss : List Step). (run net ss).history) none ∙ of.history) in
    omega (arith, count)

pub ends_now : (starts : Starts) (net : Net) (past more : List Entry) (hosts : Nodes) (still : StillRun starts (more ++ past) hosts) (moves : List (ℤ × Step))
    → MoveBy starts net past more hosts still moves → ends (clock_in past) moves ≡ clock_in (more ++ past)
ends_now starts net past [] hosts still moves by = ap (ends (clock_in past)) by.0
ends_now starts net past (e ∷ more) hosts still moves (before, these, is, by, happens) =
    ap (ends (clock_in past)) is
    ∙ ends_at (clock_in (e ∷ more ++ past)) these before (clock_in past)
    (some_step (run net (untimed before)) these still.0 hosts (more ++ past) e (net_at starts net past more still.0 still.1 before by) happens.of)
