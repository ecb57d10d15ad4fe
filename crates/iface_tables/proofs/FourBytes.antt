-- Four bytes and their number determine each other: so addresses of IPv4 may be compared as numbers.
use Rattle.std.proofs.Common.{◌≡◌, ℕ, ◌<◌, Bool, true, false, List, [], ◌∷◌, length, slice_index, nat_eq, refl, ap, arith}
use Rattle.std.specs.Int.{w32, from_le_bytes}
use Rattle.std.specs.Str.{bytes_eq}
use Rattle.std.proofs.lemmas.Bool.Decides.{Decides-eqb}
use Rattle.std.proofs.lemmas.Slice.Eq.{bytes_eq-Decides}

-- what four bytes are
abbrev pub FourBytes : List ℕ → Type 0
FourBytes xs = (length xs ≡ 4) × ((i : ℕ) → slice_index xs i < 256)

same_test : (t u : Bool) → (t ≡ true → u ≡ true) → (u ≡ true → t ≡ true) → t ≡ u
same_test true true forth back = refl
same_test true false forth back = let no = forth refl in absurd (cc)
same_test false true forth back = let no = back refl in absurd (cc)
same_test false false forth back = refl

-- a test that is true exactly where two lists are the same
decided : (t : Bool) (xs ys : List ℕ) → (t ≡ true → xs ≡ ys) → (xs ≡ ys → t ≡ true) → t ≡ bytes_eq xs ys
decided t xs ys forth back = same_test t (bytes_eq xs ys) (λ e. (bytes_eq-Decides xs ys).1 (forth e)) (λ e. back ((bytes_eq-Decides xs ys).0 e))

-- a list of four is that of its four items
four : (xs : List ℕ) → length xs ≡ 4 → xs ≡ slice_index xs 0 ∷ slice_index xs 1 ∷ slice_index xs 2 ∷ slice_index xs 3 ∷ []
four (a ∷ b ∷ c ∷ d ∷ []) len = refl
four _ len = absurd (omega arith)

-- four bytes that make the same number, the least significant first, are the same
from_le_bytes-only : (xs ys : List ℕ) → FourBytes xs → FourBytes ys → from_le_bytes w32 xs ≡ from_le_bytes w32 ys → xs ≡ ys
from_le_bytes-only xs ys x y same =
    let a : slice_index xs 0 < 256 = x.1 0 in
    let b : slice_index xs 1 < 256 = x.1 1 in
    let c : slice_index xs 2 < 256 = x.1 2 in
    let e : slice_index ys 0 < 256 = y.1 0 in
    let f : slice_index ys 1 < 256 = y.1 1 in
    let g : slice_index ys 2 < 256 = y.1 2 in
    let first : slice_index xs 0 ≡ slice_index ys 0 = omega arith in
    let second : slice_index xs 1 ≡ slice_index ys 1 = omega arith in
    let third : slice_index xs 2 ≡ slice_index ys 2 = omega arith in
    let fourth : slice_index xs 3 ≡ slice_index ys 3 = omega arith in
    let one = four xs x.0 in
    let other = four ys y.0 in
    cc

-- so the comparison of the numbers is that of the bytes
pub from_le_bytes-tells : (xs ys : List ℕ) → FourBytes xs → FourBytes ys → nat_eq (from_le_bytes w32 xs) (from_le_bytes w32 ys) ≡ bytes_eq xs ys
from_le_bytes-tells xs ys x y =
    let tells = Decides-eqb (from_le_bytes w32 xs) (from_le_bytes w32 ys) in
    decided _ xs ys (λ e. from_le_bytes-only xs ys x y (tells.0 e)) (λ e. tells.1 (ap (from_le_bytes w32) e))
