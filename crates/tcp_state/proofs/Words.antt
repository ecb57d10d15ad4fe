-- The words of the ends of a connection.
use Rattle.std.proofs.Common.{◌≡◌, ℕ, zero, suc, ◌+◌, List, [], ◌∷◌, ◌++◌, length, drop, get_or, refl, sym, ap, ◌∙◌, arith, drop-cons}
use Rattle.std.proofs.lemmas.List.{drop_all}
use Rattle.std.specs.Int.{w16, w64, to_be_bytes, from_le_bytes}
use Rattle.tcp_state.specs.SipHash.{padded, words_of}

-- so many elements from an offset on, each by its offset
abbrev listing : List ℕ → ℕ → ℕ → List ℕ
listing xs at zero = []
listing xs at (suc n) = get_or xs at 0 ∷ listing xs (suc at) n

listed : (xs : List ℕ) (at n : ℕ) → length xs ≡ at + n → drop at xs ≡ listing xs at n
listed xs at zero e = drop_all at xs (omega (arith, e))
listed xs at (suc n) e = drop-cons xs at 0 (omega (arith, e)) ∙ ap (λ (ys : List ℕ). get_or xs at 0 ∷ ys) (listed xs (suc at) n (omega (arith, e)))

both : {a b : ℕ} {xs ys : List ℕ} → a ≡ b → xs ≡ ys → a ∷ xs ≡ b ∷ ys
both {a} {b} {xs} {ys} e f = ap (λ (x : ℕ). x ∷ xs) e ∙ ap (λ (zs : List ℕ). b ∷ zs) f

pub words_of_12 : (local remote near far : List ℕ) (lp rp w0 w1 : ℕ) → length local ≡ 4 → length remote ≡ 4
    → near ≡ to_be_bytes w16 lp → far ≡ to_be_bytes w16 rp
    → w0 ≡ from_le_bytes w64 (get_or local 0 0 ∷ get_or local 1 0 ∷ get_or local 2 0 ∷ get_or local 3 0 ∷
    get_or near 0 0 ∷ get_or near 1 0 ∷ get_or remote 0 0 ∷ get_or remote 1 0 ∷ [])
    → w1 ≡ from_le_bytes w64 (get_or remote 2 0 ∷ get_or remote 3 0 ∷ get_or far 0 0 ∷ get_or far 1 0 ∷ 0 ∷ 0 ∷ 0 ∷ 12 ∷ [])
    → w0 ∷ w1 ∷ [] ≡ words_of (padded (local ++ (to_be_bytes w16 lp ++ (remote ++ to_be_bytes w16 rp))))
words_of_12 local remote near far lp rp w0 w1 own to near_is far_is e0 e1 =
    let said = ap (λ (x : List ℕ). words_of (padded (x ++ (to_be_bytes w16 lp ++ (remote ++ to_be_bytes w16 rp))))) (listed local 0 4 own)
    ∙ ap (λ (x : List ℕ). words_of (padded (listing local 0 4 ++ (to_be_bytes w16 lp ++ (x ++ to_be_bytes w16 rp))))) (listed remote 0 4 to) in
    both (e0 ∙ ap (λ (x : List ℕ). from_le_bytes w64 (get_or local 0 0 ∷ get_or local 1 0 ∷ get_or local 2 0 ∷ get_or local 3 0 ∷
    get_or x 0 0 ∷ get_or x 1 0 ∷ get_or remote 0 0 ∷ get_or remote 1 0 ∷ [])) near_is)
    (both (e1 ∙ ap (λ (x : List ℕ). from_le_bytes w64 (get_or remote 2 0 ∷ get_or remote 3 0 ∷ get_or x 0 0 ∷ get_or x 1 0 ∷ 0 ∷ 0 ∷ 0 ∷ 12 ∷ [])) far_is)
    (refl))
    ∙ sym said

pub words_of_36 : (local remote near far : List ℕ) (lp rp w0 w1 w2 w3 w4 : ℕ) → length local ≡ 16 → length remote ≡ 16
    → near ≡ to_be_bytes w16 lp → far ≡ to_be_bytes w16 rp
    → w0 ≡ from_le_bytes w64 (get_or local 0 0 ∷ get_or local 1 0 ∷ get_or local 2 0 ∷ get_or local 3 0 ∷
    get_or local 4 0 ∷ get_or local 5 0 ∷ get_or local 6 0 ∷ get_or local 7 0 ∷ [])
    → w1 ≡ from_le_bytes w64 (get_or local 8 0 ∷ get_or local 9 0 ∷ get_or local 10 0 ∷ get_or local 11 0 ∷
    get_or local 12 0 ∷ get_or local 13 0 ∷ get_or local 14 0 ∷ get_or local 15 0 ∷ [])
    → w2 ≡ from_le_bytes w64 (get_or near 0 0 ∷ get_or near 1 0 ∷ get_or remote 0 0 ∷ get_or remote 1 0 ∷
    get_or remote 2 0 ∷ get_or remote 3 0 ∷ get_or remote 4 0 ∷ get_or remote 5 0 ∷ [])
    → w3 ≡ from_le_bytes w64 (get_or remote 6 0 ∷ get_or remote 7 0 ∷ get_or remote 8 0 ∷ get_or remote 9 0 ∷
    get_or remote 10 0 ∷ get_or remote 11 0 ∷ get_or remote 12 0 ∷ get_or remote 13 0 ∷ [])
    → w4 ≡ from_le_bytes w64 (get_or remote 14 0 ∷ get_or remote 15 0 ∷ get_or far 0 0 ∷ get_or far 1 0 ∷ 0 ∷ 0 ∷ 0 ∷ 36 ∷ [])
    → w0 ∷ w1 ∷ w2 ∷ w3 ∷ w4 ∷ [] ≡ words_of (padded (local ++ (to_be_bytes w16 lp ++ (remote ++ to_be_bytes w16 rp))))
words_of_36 local remote near far lp rp w0 w1 w2 w3 w4 own to near_is far_is e0 e1 e2 e3 e4 =
    let said = ap (λ (x : List ℕ). words_of (padded (x ++ (to_be_bytes w16 lp ++ (remote ++ to_be_bytes w16 rp))))) (listed local 0 16 own)
    ∙ ap (λ (x : List ℕ). words_of (padded (listing local 0 16 ++ (to_be_bytes w16 lp ++ (x ++ to_be_bytes w16 rp))))) (listed remote 0 16 to) in
    both (e0)
    (both (e1)
    (both (e2 ∙ ap (λ (x : List ℕ). from_le_bytes w64 (get_or x 0 0 ∷ get_or x 1 0 ∷ get_or remote 0 0 ∷ get_or remote 1 0 ∷
    get_or remote 2 0 ∷ get_or remote 3 0 ∷ get_or remote 4 0 ∷ get_or remote 5 0 ∷ [])) near_is)
    (both (e3)
    (both (e4 ∙ ap (λ (x : List ℕ). from_le_bytes w64 (get_or remote 14 0 ∷ get_or remote 15 0 ∷ get_or x 0 0 ∷ get_or x 1 0 ∷ 0 ∷ 0 ∷ 0 ∷ 36 ∷ [])) far_is)
    (refl)))))
    ∙ sym said
