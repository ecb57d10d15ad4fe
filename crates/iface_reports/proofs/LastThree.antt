-- The last three bytes of an IPv6 address.
use Rattle.std.proofs.Common.{◌≡◌, ℕ, List, [], ◌∷◌, length, drop, get_or, ◌∙◌, ap, arith, drop-cons}
use Rattle.std.proofs.lemmas.List.{drop_all}

pub drop-13 : (xs : List ℕ) → length xs ≡ 16 → drop 13 xs ≡ get_or xs 13 0 ∷ get_or xs 14 0 ∷ get_or xs 15 0 ∷ []
drop-13 xs len =
    drop-cons xs 13 0 (omega arith)
    ∙ ap (λ ys. get_or xs 13 0 ∷ ys) (drop-cons xs 14 0 (omega arith) ∙
    ap (λ ys. get_or xs 14 0 ∷ ys) (drop-cons xs 15 0 (omega arith) ∙ ap (λ ys. get_or xs 15 0 ∷ ys) (drop_all 16 xs (omega arith))))
