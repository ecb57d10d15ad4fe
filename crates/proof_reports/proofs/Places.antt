-- The first row that passes a test, and after a row is put in.
use Rattle.std.proofs.Common.{◌≡◌, ℕ, zero, suc, ◌+◌, ◌<◌, Bool, true, false, List, [], ◌∷◌, ◌++◌, length, Some, None, refl, sym, ◌∙◌, ap, arith, inl, inr}
use Rattle.std.specs.Prelude.{position, slice_set, map}
use Rattle.std.specs.List.{position_from, list_any}
use Rattle.std.proofs.lemmas.Iterator.Adapters.{position_from-zero}
use Rattle.iface_groups.specs.Table.{row_at}
use Rattle.iface_groups.specs.declared.table.Row.{Row}
use Rattle.iface_groups.proofs.Members.{bool_is}

some_is : (a b : ℕ) → Some a ≡ Some b → a ≡ b
some_is a b e = cc

-- it passes
pub first_passes : (p : Row → Bool) (k at : ℕ) (rows : List Row) → position_from p k rows ≡ Some at
    → (n : ℕ) × (at ≡ k + n) × (n < length rows) × (p (row_at rows n) ≡ true)
first_passes p k at [] is = absurd (cc (is))
first_passes p k at (r ∷ rows) is =
    elim (bool_is (p r)) [
      | inl hit ↦ let e = rw hit at is in
          let same : k ≡ at = some_is k at e in
          (0, omega (arith, same), omega arith, hit)
      | inr miss ↦ let e = rw miss at is in
          let rest = first_passes p (k + 1) at rows e in
          (suc rest.0, omega (arith, rest.1), omega (arith, rest.2), rest.3)
    ]

-- put in its place, another that passes is the first
pub set_first : (p : Row → Bool) (k n : ℕ) (rows : List Row) (x : Row) → position_from p k rows ≡ Some (k + n) → p x ≡ true
    → position_from p k (slice_set rows n x) ≡ Some (k + n)
set_first p k n [] x is hit = absurd (cc (is))
set_first p k zero (r ∷ rows) x is hit = rw hit (ap (λ (a : ℕ). Some a) (omega arith))
set_first p k (suc n) (r ∷ rows) x is hit =
    elim (bool_is (p r)) [
      | inl own ↦ let e = rw own at is in
          let same : k ≡ k + suc n = some_is k (k + suc n) e in absurd (omega (arith, same))
      | inr miss ↦ let e = rw miss at is in
          let next : k + suc n ≡ k + 1 + n = omega arith in
          rw miss (set_first p (k + 1) n rows x (e ∙ ap (λ (a : ℕ). Some a) next) hit ∙ ap (λ (a : ℕ). Some a) (sym next))
    ]

-- where none passed, one that is put in is the first
pub set_none : (p : Row → Bool) (k n : ℕ) (rows : List Row) (x : Row) → position_from p k rows ≡ None → n < length rows → p x ≡ true
    → position_from p k (slice_set rows n x) ≡ Some (k + n)
set_none p k n [] x none in_range hit = absurd (omega (arith, in_range))
set_none p k zero (r ∷ rows) x none in_range hit = rw hit (ap (λ (a : ℕ). Some a) (omega arith))
set_none p k (suc n) (r ∷ rows) x none in_range hit =
    elim (bool_is (p r)) [
      | inl own ↦ let e = rw own at none in absurd (cc (e))
      | inr miss ↦ let e = rw miss at none in
          let next : k + suc n ≡ k + 1 + n = omega arith in
          rw miss (set_none p (k + 1) n rows x e (omega (arith, in_range)) hit ∙ ap (λ (a : ℕ). Some a) (sym next))
    ]

-- and so is one that is put behind
pub behind_none : (p : Row → Bool) (k : ℕ) (rows : List Row) (x : Row) → position_from p k rows ≡ None → p x ≡ true
    → position_from p k (rows ++ x ∷ []) ≡ Some (k + length rows)
behind_none p k [] x none hit = rw hit (ap (λ (a : ℕ). Some a) (omega arith))
behind_none p k (r ∷ rows) x none hit =
    elim (bool_is (p r)) [
      | inl own ↦ let e = rw own at none in absurd (cc (e))
      | inr miss ↦ let e = rw miss at none in
          let next : k + suc (length rows) ≡ k + 1 + length rows = omega arith in
          rw miss (behind_none p (k + 1) rows x e hit ∙ ap (λ (a : ℕ). Some a) (sym next))
    ]

-- a row that doesn't pass, put in another's place, leaves the first where it is
pub set_other : (p : Row → Bool) (k m n : ℕ) (rows : List Row) (x : Row) → position_from p k rows ≡ Some (k + m) → p x ≡ false → (n ≡ m → ⊥)
    → position_from p k (slice_set rows n x) ≡ Some (k + m)
set_other p k m n [] x is miss apart = absurd (cc (is))
set_other p k m zero (r ∷ rows) x is miss apart =
    elim (bool_is (p r)) [
      | inl own ↦ let e = rw own at is in
          let same : k ≡ k + m = some_is k (k + m) e in absurd (apart (omega (arith, same)))
      | inr no_own ↦ let e = rw no_own at is in rw miss e
    ]
set_other p k m (suc n) (r ∷ rows) x is miss apart =
    elim (bool_is (p r)) [
      | inl own ↦ let e = rw own at is in rw own e
      | inr no_own ↦ let e = rw no_own at is in
          let place = first_passes p (k + 1) (k + m) rows e in
          let next : k + m ≡ k + 1 + place.0 = place.1 in
          let far : n ≡ place.0 → ⊥ = λ same. apart (omega (arith, next, same)) in
          rw no_own (set_other p (k + 1) place.0 n rows x (e ∙ ap (λ (a : ℕ). Some a) next) miss far ∙ ap (λ (a : ℕ). Some a) (sym next))
    ]

pub behind_some : (p : Row → Bool) (k at : ℕ) (rows : List Row) (x : Row) → position_from p k rows ≡ Some at → position_from p k (rows ++ x ∷ []) ≡ Some at
behind_some p k at [] x is = absurd (cc (is))
behind_some p k at (r ∷ rows) x is =
    elim (bool_is (p r)) [
      | inl own ↦ let e = rw own at is in rw own e
      | inr miss ↦ let e = rw miss at is in rw miss (behind_some p (k + 1) at rows x e)
    ]

pub row_before : (rows : List Row) (n : ℕ) (x : Row) → n < length rows → row_at (rows ++ x ∷ []) n ≡ row_at rows n
row_before [] n x in_range = absurd (omega (arith, in_range))
row_before (r ∷ rows) zero x in_range = refl
row_before (r ∷ rows) (suc n) x in_range = row_before rows n x (omega (arith, in_range))

pub row_apart : (rows : List Row) (m n : ℕ) (x : Row) → (n ≡ m → ⊥) → row_at (slice_set rows n x) m ≡ row_at rows m
row_apart [] m n x apart = refl
row_apart (r ∷ rows) zero zero x apart = absurd (apart refl)
row_apart (r ∷ rows) (suc m) zero x apart = refl
row_apart (r ∷ rows) zero (suc n) x apart = refl
row_apart (r ∷ rows) (suc m) (suc n) x apart = row_apart rows m n x (λ same. apart (ap (λ (a : ℕ). suc a) same))

pub row_behind : (rows : List Row) (x : Row) → row_at (rows ++ x ∷ []) (length rows) ≡ x
row_behind [] x = refl
row_behind (r ∷ rows) x = row_behind rows x

pub row_set : (rows : List Row) (n : ℕ) (x : Row) → n < length rows → row_at (slice_set rows n x) n ≡ x
row_set [] n x in_range = absurd (omega (arith, in_range))
row_set (r ∷ rows) zero x in_range = refl
row_set (r ∷ rows) (suc n) x in_range = row_set rows n x (omega (arith, in_range))

pub from_zero : (p : Row → Bool) (rows : List Row) → position p rows ≡ position_from p 0 rows
from_zero p rows = position_from-zero p rows

-- of rows that are made so that none passes, none does
pub none_made : (p : Row → Bool) (f : Row → Row) → ((row : Row) → p (f row) ≡ false) → (rows : List Row) → list_any p (map f rows) ≡ false
none_made p f none [] = refl
none_made p f none (r ∷ rows) = rw (none r) (none_made p f none rows)
