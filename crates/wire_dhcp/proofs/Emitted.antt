-- Options that were written one after the other.
use Rattle.std.proofs.Common.{◌≡◌, ℕ, ◌+◌, ◌-◌, List, ◌∷◌, ◌++◌, length, take, replicate, refl, ◌∙◌, ap, arith, append_assoc, length-append}
use Rattle.wire_address.specs.Extends.{Extends}

five : (c n t w f : List ℕ) → (((c ++ n) ++ t) ++ w) ++ f ≡ c ++ (n ++ (t ++ (w ++ f)))
five c n t w f = simp append_assoc refl

-- five runs of bytes, their end, and zeros
pub ended : (area a1 a2 a3 a4 a5 : List ℕ) (e1 e2 e3 e4 e5 pad : ℕ) (c n t w f : List ℕ) → Extends area 0 a1 e1 c → Extends a1 e1 a2 e2 n →
    Extends a2 e2 a3 e3 t → Extends a3 e3 a4 e4 w → Extends a4 e4 a5 e5 f
    → length a5 ≡ length (c ++ (n ++ (t ++ (w ++ f)))) + 1 + pad
    → take e5 a5 ++ (255 ∷ replicate (length a5 - (e5 + 1)) 0) ≡ (c ++ (n ++ (t ++ (w ++ f)))) ++ (255 ∷ replicate pad 0)
ended area a1 a2 a3 a4 a5 e1 e2 e3 e4 e5 pad c n t w f first second third fourth fifth len =
    let all : take e5 a5 ≡ c ++ (n ++ (t ++ (w ++ f))) =
    fifth.front ∙ ap (λ xs. xs ++ f) (fourth.front ∙ ap (λ xs. xs ++ w) (third.front ∙ ap (λ xs. xs ++ t) (second.front ∙ ap (λ xs. xs ++ n) first.front)))
    ∙ five c n t w f
    in
    let rest : length a5 - (e5 + 1) ≡ pad =
    omega (
      arith,
      len,
      first.within,
      second.within,
      third.within,
      fourth.within,
      fifth.within,
      length-append c (n ++ (t ++ (w ++ f))),
      length-append n (t ++ (w ++ f)),
      length-append t (w ++ f),
      length-append w f,
    )
    in
    ap (λ xs. xs ++ (255 ∷ replicate (length a5 - (e5 + 1)) 0)) all ∙ ap (λ k. (c ++ (n ++ (t ++ (w ++ f)))) ++ (255 ∷ replicate k 0)) rest
