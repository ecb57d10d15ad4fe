-- Three runs of bytes written one after the other at the front.
use Rattle.std.proofs.Common.{◌≡◌, ℕ, ◌+◌, List, ◌++◌, drop, sym, ◌∙◌, ap, append_assoc}
use Rattle.std.proofs.lemmas.List.{drop-drop}

pub joined-three : (n m k : ℕ) (a b c first second third following_first following_second following_third old : List ℕ) → a ≡ first → b ≡ second → c ≡ third
    → following_first ≡ drop n old → following_second ≡ drop m following_first → following_third ≡ drop k following_second
    → a ++ (b ++ (c ++ following_third)) ≡ (first ++ (second ++ third)) ++ drop (n + m + k) old
joined-three n m k a b c first second third following_first following_second following_third old is_first is_second is_third after_first after_second after_third =
    let two : following_second ≡ drop (n + m) old = after_second ∙ ap (drop m) after_first ∙ drop-drop m n old in
    let rest : following_third ≡ drop (n + m + k) old = after_third ∙ ap (drop k) two ∙ drop-drop k (n + m) old in
    ap (λ xs. xs ++ (b ++ (c ++ following_third))) is_first
    ∙ ap (λ xs. first ++ (xs ++ (c ++ following_third))) is_second
    ∙ ap (λ xs. first ++ (second ++ (xs ++ following_third))) is_third
    ∙ ap (λ xs. first ++ (second ++ (third ++ xs))) rest
    ∙ sym (append_assoc first (second ++ third) (drop (n + m + k) old) ∙ ap (λ xs. first ++ xs) (append_assoc second third (drop (n + m + k) old)))
