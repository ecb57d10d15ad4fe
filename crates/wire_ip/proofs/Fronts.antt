-- Headers written at the front of bytes.
use Rattle.std.proofs.Common.{◌≡◌, ℕ, List, ◌++◌, length, drop, sym, ◌∙◌, ap, arith, append_assoc}
use Rattle.std.proofs.lemmas.List.{drop-drop, drop_all, append-nil}

-- two addresses after eight bytes
pub joined-front : (a b first source destination old rest : List ℕ) → a ≡ first → b ≡ source ++ (destination ++ drop 16 (drop 16 rest)) → rest ≡ drop 8 old
    → a ++ b ≡ (first ++ (source ++ destination)) ++ drop 40 old
joined-front a b first source destination old rest front addresses following =
    let deep : drop 16 (drop 16 rest) ≡ drop 40 old = ap (λ xs. drop 16 (drop 16 xs)) following ∙ ap (drop 16) (drop-drop 16 8 old) ∙ drop-drop 16 24 old in
    let split : b ≡ (source ++ destination) ++ drop 40 old = addresses ∙ ap (λ xs. source ++ (destination ++ xs)) deep ∙
    sym (append_assoc source destination (drop 40 old)) in
    ap (λ xs. xs ++ b) front ∙ ap (λ xs. first ++ xs) split ∙ sym (append_assoc first (source ++ destination) (drop 40 old))

-- nothing stands after a header that fills the bytes
pub whole-front : (n : ℕ) (new header old : List ℕ) → new ≡ header ++ drop n old → length old ≡ n → new ≡ header
whole-front n new header old is len =
    is ∙ ap (λ xs. header ++ xs) (drop_all n old (omega (arith, len))) ∙ append-nil header
