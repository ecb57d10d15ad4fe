-- When bytes in two parts are others.
use Rattle.std.proofs.Common.{◌≡◌, ℕ, Bool, true, false, ◌&&◌, List, [], ◌∷◌, ◌++◌, length, refl, sym, ap, ◌∙◌, arith, append_assoc}
use Rattle.std.specs.Prelude.{bytes_eq, nat_eq}

and_assoc : (a b c : Bool) → (a && (b && c)) ≡ ((a && b) && c)
and_assoc true b c = refl
and_assoc false b c = refl

parts_equal : (a c r d : List ℕ) → length a ≡ length c → bytes_eq (a ++ r) (c ++ d) ≡ (bytes_eq a c && bytes_eq r d)
parts_equal [] [] r d e = refl
parts_equal [] (y ∷ ys) r d e = absurd (omega (arith, e))
parts_equal (x ∷ xs) [] r d e = absurd (omega (arith, e))
parts_equal (x ∷ xs) (y ∷ ys) r d e =
    ap (λ (t : Bool). nat_eq x y && t) (parts_equal xs ys r d (omega (arith, e))) ∙ and_assoc (nat_eq x y) (bytes_eq xs ys) (bytes_eq r d)

-- bytes are equal by parts, where their front is as long as the other's
pub both_equal : (bytes front following one other : List ℕ) → bytes ≡ front ++ following → length front ≡ length one →
    (bytes_eq front one && bytes_eq following other) ≡ bytes_eq bytes (one ++ other)
both_equal bytes front following one other is same = rw is (sym (parts_equal front one following other same))

-- texts are equal by parts, where the one's first part is as long as the front of the other's
pub joined_equal : (first rest later front between end : List ℕ) → later ≡ front ++ between → length front ≡ length first →
    (bytes_eq first front && bytes_eq rest (between ++ end)) ≡ bytes_eq (first ++ rest) (later ++ end)
joined_equal first rest later front between end is same =
    rw (is, append_assoc front between end) (sym (parts_equal first front rest (between ++ end) (sym same)))

-- of two tests one after the other
pub second_test : (t u w : Bool) → t ≡ true → (t && u) ≡ w → u ≡ w
second_test true u w e is = is
second_test false u w e is = absurd (cc)

pub first_test : (t u w : Bool) → t ≡ false → (t && u) ≡ w → t ≡ w
first_test true u w e is = absurd (cc)
first_test false u w e is = is
