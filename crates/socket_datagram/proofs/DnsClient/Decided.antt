-- A test that is true exactly where two lists are the same.
use Rattle.std.proofs.Common.{◌≡◌, ℕ, Bool, true, false, List, refl}
use Rattle.std.specs.Str.{bytes_eq}
use Rattle.std.proofs.lemmas.Slice.Eq.{bytes_eq-Decides}

same_test : (t u : Bool) → (t ≡ true → u ≡ true) → (u ≡ true → t ≡ true) → t ≡ u
same_test true true forth back = refl
same_test true false forth back = let no = forth refl in absurd (cc)
same_test false true forth back = let no = back refl in absurd (cc)
same_test false false forth back = refl

pub decided : (t : Bool) (xs ys : List ℕ) → (t ≡ true → xs ≡ ys) → (xs ≡ ys → t ≡ true) → t ≡ bytes_eq xs ys
decided t xs ys forth back = same_test t (bytes_eq xs ys) (λ e. (bytes_eq-Decides xs ys).1 (forth e)) (λ e. back ((bytes_eq-Decides xs ys).0 e))
