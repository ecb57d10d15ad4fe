-- Lemmas on the lines of a script.
use Rattle.std.proofs.Common.{◌≡◌, ℕ, zero, suc, ◌<◌, ◌≤◌, Bool, true, false, ◌&&◌, ltb, nat_lt, List, [], ◌∷◌, slice_index, refl, arith, Option, Some, None}
use Rattle.std.proofs.Common.{IfSome}
use Rattle.std.specs.List.{list_all}
use Rattle.std.specs.Str.{IsAscii}
use Rattle.std.proofs.lemmas.Bool.Decides.{nat_tests}

first_is : (b : ℕ) → b < 128 → nat_lt b 128 ≡ true
first_is b h = grind (arith, nat_tests)

pub list_all_ascii : (text : List ℕ) → IsAscii text → list_all (λ b. nat_lt b 128) text ≡ true
list_all_ascii [] h = refl
list_all_ascii (b ∷ bs) h =
    let rest = list_all_ascii bs (λ i. h (suc i)) in
    let first : ltb b 128 ≡ true = first_is b (h 0) in
    rw (first, rest) refl

at_first : (b : ℕ) (all : Bool) → 128 ≤ b → nat_lt b 128 && all ≡ false
at_first b all h = grind (arith, nat_tests)

later : (b : ℕ) (all : Bool) → all ≡ false → nat_lt b 128 && all ≡ false
later b all h = elim (nat_lt b 128) as (λ v. v && all ≡ false) [ true ↦ h | false ↦ refl ]

pub list_all_not_ascii : (text : List ℕ) (i : ℕ) → 128 ≤ slice_index text i → list_all (λ b. nat_lt b 128) text ≡ false
list_all_not_ascii [] i h = absurd (omega (arith, h))
list_all_not_ascii (b ∷ bs) zero h = at_first b _ h
list_all_not_ascii (b ∷ bs) (suc i) h = later b _ (list_all_not_ascii bs i h)

pub IfSome-and : {X : Type 0} {P : Type 0} (Q : X → Type 0) (r : Option X) → P → IfSome r Q → IfSome r (λ x. P × Q x)
IfSome-and Q (Some x) p q = (p, q)
IfSome-and Q None p q = q
