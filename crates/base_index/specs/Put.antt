-- An item put at a place of a list.
use Rattle.std.specs.Prelude.{ℕ, zero, suc, List, [], ◌∷◌}

-- in place of the one that stands there, or after the last; further after, the list stays
abbrev pub put : {X : Type 0} → ℕ → X → List X → List X
put zero x [] = x ∷ []
put zero x (y ∷ ys) = x ∷ ys
put (suc at) x [] = []
put (suc at) x (y ∷ ys) = y ∷ put at x ys
