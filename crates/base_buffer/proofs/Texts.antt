-- The text of runs, one after the other.
use Rattle.std.proofs.Common.{◌≡◌, ℕ, suc, ◌+◌, ◌-◌, ◌<◌, List, ◌∷◌, ◌++◌, length, drop, get_or, sym, ap, ◌∙◌, codes, decimal, arith}
use Rattle.std.proofs.lemmas.List.{append_assoc}
use Rattle.std.proofs.Math.Seq.{drop-cons}
use Rattle.base_buffer.specs.Text.{hole_text, runs_text}

-- three parts after what was written, before what is left
joined : (done h d s rest : List ℕ) → (done ++ (h ++ (d ++ s))) ++ rest ≡ done ++ (h ++ (d ++ (s ++ rest)))
joined done h d s rest =
    append_assoc done (h ++ (d ++ s)) rest ∙ ap (λ (xs : List ℕ). done ++ xs) (append_assoc h (d ++ s) rest)
    ∙ ap (λ (xs : List ℕ). done ++ (h ++ xs)) (append_assoc d s rest)

pub one_more : (done : List ℕ) (reached a b : ℕ) (r : ℕ × ℕ) (rs xs : List (ℕ × ℕ)) (all : List ℕ) → a ≡ r.0 - reached → b ≡ r.1 - r.0 → xs ≡ r ∷ rs →
    done ++ runs_text reached xs ≡ all → (done ++ (hole_text a ++ (decimal b ++ codes " "))) ++ runs_text r.1 rs ≡ all
one_more done reached a b r rs xs all hole size front is =
    joined done (hole_text a) (decimal b) (codes " ") (runs_text r.1 rs)
    ∙ ap (λ (n : ℕ). done ++ (hole_text n ++ (decimal b ++ (codes " " ++ runs_text r.1 rs)))) hole
    ∙ ap (λ (n : ℕ). done ++ (hole_text (r.0 - reached) ++ (decimal n ++ (codes " " ++ runs_text r.1 rs)))) size
    ∙ ap (λ (ys : List (ℕ × ℕ)). done ++ runs_text reached ys) (sym front) ∙ is

pub next_run : (xs : List (ℕ × ℕ)) (i : ℕ) → i < length xs → drop i xs ≡ get_or xs i (0, 0) ∷ drop (i + 1) xs
next_run xs i within =
    let same : suc i ≡ i + 1 = omega arith in
    drop-cons xs i (0, 0) within ∙ ap (λ (n : ℕ). get_or xs i (0, 0) ∷ drop n xs) same
