-- The items of lists.
use Rattle.std.proofs.Common.{◌≡◌, ◌⊎◌, inl, inr, zero, suc, List, [], ◌∷◌, refl, arith}
use Rattle.std.specs.List.{Contains}

pub here : {X : Type 0} (x : X) (xs : List X) → Contains (x ∷ xs) x
here x xs = (zero, omega arith, refl)

pub there : {X : Type 0} (x y : X) (xs : List X) → Contains xs y → Contains (x ∷ xs) y
there x y xs (k, within, is) = (suc k, omega arith, is)

pub nothing : {X : Type 0} (y : X) → Contains [] y → ⊥
nothing y (k, within, is) = omega (arith, within)

pub first_or_rest : {X : Type 0} (x y : X) (xs : List X) → Contains (x ∷ xs) y → (x ≡ y) ⊎ Contains xs y
first_or_rest x y xs (zero, within, is) = inl is
first_or_rest x y xs (suc k, within, is) = inr (k, omega (arith, within), is)
