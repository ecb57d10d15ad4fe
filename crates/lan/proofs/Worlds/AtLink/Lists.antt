-- What holds of each element of a list.
use Rattle.std.proofs.Common.{◌≡◌, ℕ, zero, suc, List, [], ◌∷◌, ◌++◌, drop, Option, Some, None, refl, sym, ap, subst}
use Rattle.std.specs.Prelude.{slice_get}

module _ {X : Type 0} where
  abbrev pub Each : (X → Type 0) → List X → Type 0
  Each P [] = Unit {0}
  Each P (x ∷ xs) = P x × Each P xs

  pub each_of : (P Q : X → Type 0) (xs : List X) → ((x : X) → P x → Q x) → Each P xs → Each Q xs
  each_of P Q [] f all = tt
  each_of P Q (x ∷ xs) f all = (f x all.0, each_of P Q xs f all.1)

  pub each_append : (P : X → Type 0) (xs ys : List X) → Each P xs → Each P ys → Each P (xs ++ ys)
  each_append P [] ys a b = b
  each_append P (x ∷ xs) ys a b = (a.0, each_append P xs ys a.1 b)

  pub each_get : (P : X → Type 0) (xs : List X) (k : ℕ) (x : X) → Each P xs → slice_get xs k ≡ Some x → P x
  each_get P [] zero x all e = absurd (cc)
  each_get P [] (suc k) x all e = absurd (cc)
  each_get P (y ∷ ys) zero x all e = let same : y ≡ x = cc in subst P same all.0
  each_get P (y ∷ ys) (suc k) x all e = each_get P ys k x all.1 e

  pub each_dropped : (P : X → Type 0) (xs : List X) → Each P xs → Each P (drop 1 xs)
  each_dropped P [] all = tt
  each_dropped P (x ∷ xs) all = all.1
