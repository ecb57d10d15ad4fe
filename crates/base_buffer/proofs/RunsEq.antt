-- The test whether two lists of runs are the same.
use Rattle.std.proofs.Common.{◌≡◌, ℕ, zero, suc, ◌+◌, ◌<◌, Bool, true, false, List, [], ◌∷◌, ◌++◌, length, replicate, inl, inr, refl, sym, ap, ap₂, subst, ◌∙◌}
use Rattle.std.proofs.Common.{arith}
use Rattle.std.specs.Prelude.{nat_eq, ◌&&◌}
use Rattle.std.proofs.lemmas.Bool.{false≢true}
use Rattle.std.proofs.lemmas.Bool.Decides.{eqb_tells}
use Rattle.base_buffer.specs.Assembler.{AreRunsFrom, HoldSame}
use Rattle.base_buffer.specs.AssemblerEq.{same_run, same_run_lists}

never : (a : Bool) → (a && false) ≡ false
never true = refl
never false = refl

both : (a b : Bool) → (a && b) ≡ true → (a ≡ true) × (b ≡ true)
both true b e = (refl, e)
both false b e = absurd (false≢true e)

equal : (a b : ℕ) → nat_eq a b ≡ true → a ≡ b
equal a b e = elim (eqb_tells a b) [ inl y ↦ y.1 | inr n ↦ absurd (false≢true (sym n.0 ∙ e)) ]

alike : (a : ℕ) → nat_eq a a ≡ true
alike a = elim (eqb_tells a a) [ inl y ↦ y.0 | inr n ↦ absurd (n.1 refl) ]

lists_from_test : (xs ys : List (ℕ × ℕ)) → same_run_lists xs ys ≡ true → xs ≡ ys
lists_from_test [] [] e = refl
lists_from_test [] (y ∷ ys) e = absurd (false≢true e)
lists_from_test (x ∷ xs) [] e = absurd (false≢true e)
lists_from_test (x ∷ xs) (y ∷ ys) e =
    let h = both (same_run x y) (same_run_lists xs ys) e in
    let ends = both (nat_eq x.0 y.0) (nat_eq x.1 y.1) h.0 in
    let first = equal x.0 y.0 ends.0 in
    let last = equal x.1 y.1 ends.1 in
    let same : x ≡ y = λ i. (first i, last i) in
    ap₂ ◌∷◌ same (lists_from_test xs ys h.1)

pub same_from_test : (xs ys : List (ℕ × ℕ)) → same_run_lists xs ys ≡ true → HoldSame xs ys
same_from_test xs ys e = subst (λ (zs : List (ℕ × ℕ)). HoldSame xs zs) (lists_from_test xs ys e) (λ p. (λ h. h, λ h. h))

test_alike : (xs : List (ℕ × ℕ)) → same_run_lists xs xs ≡ true
test_alike [] = refl
test_alike (x ∷ xs) = rw (alike x.0, alike x.1) (test_alike xs)

pub test_from_same : (xs ys : List (ℕ × ℕ)) → xs ≡ ys → same_run_lists xs ys ≡ true
test_from_same xs ys e = subst (λ (zs : List (ℕ × ℕ)). same_run_lists xs zs ≡ true) e (test_alike xs)

-- no run is an unused pair
unlike_none : (a b : ℕ) → a < b → (nat_eq 0 a && nat_eq 0 b) ≡ false
unlike_none a b lt = elim (eqb_tells 0 b) [ inl y ↦ absurd (omega (arith, y.1)) | inr n ↦ rw n.0 (never (nat_eq 0 a)) ]

none_unlike : (a b : ℕ) → a < b → (nat_eq a 0 && nat_eq b 0) ≡ false
none_unlike a b lt = elim (eqb_tells b 0) [ inl y ↦ absurd (omega (arith, y.1)) | inr n ↦ rw n.0 (never (nat_eq a 0)) ]

-- unused pairs after two lists of runs don't tell them apart
pub test_unused : (xs ys : List (ℕ × ℕ)) (low low' i j : ℕ) → AreRunsFrom low xs → AreRunsFrom low' ys → length xs + i ≡ length ys + j →
    same_run_lists (xs ++ replicate i (0, 0)) (ys ++ replicate j (0, 0)) ≡ same_run_lists xs ys
test_unused [] [] low low' i j a b n =
    let same : i ≡ j = omega (arith, n) in
    rw same (test_alike (replicate j (0, 0)))
test_unused [] (y ∷ ys) low low' zero j a b n = refl
test_unused [] (y ∷ ys) low low' (suc i) j a b n = rw (unlike_none y.0 y.1 b.1) refl
test_unused (x ∷ xs) [] low low' i zero a b n = refl
test_unused (x ∷ xs) [] low low' i (suc j) a b n = rw (none_unlike x.0 x.1 a.1) refl
test_unused (x ∷ xs) (y ∷ ys) low low' i j a b n =
    ap (λ t. same_run x y && t) (test_unused xs ys (x.1 + 1) (y.1 + 1) i j a.2 b.2 (omega (arith, n)))
