-- A run may go on where it ended.
use Rattle.std.proofs.Common.{◌≡◌, ℕ, Bool, List, [], ◌∷◌, ◌++◌, refl}
use Rattle.lan.specs.Worlds.AtLink.Moves.{Step, after, May, IsRun, run}
use Rattle.lan.specs.Worlds.AtLink.Parties.{Net}

pub run-append : (net : Net) (steps more : List Step) → run net (steps ++ more) ≡ run (run net steps) more
run-append net [] more = refl
run-append net (step ∷ steps) more = run-append (after net step) steps more

pub IsRun-append : (names : List ℕ → Bool) (net : Net) (steps more : List Step) → IsRun names net steps → IsRun names (run net steps) more →
    IsRun names net (steps ++ more)
IsRun-append names net [] more a b = b
IsRun-append names net (step ∷ steps) more a b = (a.0, IsRun-append names (after net step) steps more a.1 b)
