-- A search that keeps the best element so far finds the first of the best.
use Rattle.std.proofs.Common.{◌≡◌, ℕ, Bool, true, false, not, cond, ap, ◌∙◌, refl, sym, List, [], ◌∷◌, length, get_or, Option, None, Some, arith}
use Rattle.std.specs.Cmp.{IsStrictWeakOrder}
use Rattle.std.specs.List.{IsFirstBest, best_of, fold, filter_map, cons_option, slice_get}
use Rattle.std.proofs.lemmas.List.MinMax.{IsFirstBest-from_best_of}
use Rattle.std.proofs.lemmas.Option.{slice_get-get_or}
use Rattle.std.proofs.lemmas.List.Folds.{list_any_none, list_any_at, find_at}
use Rattle.std.proofs.lemmas.List.Sums.{position_or_len_is}
use Rattle.std.proofs.lemmas.List.Elements.{All-from_get_or}
use Rattle.iface_tables.specs.Best.{is_unbeaten, first_best, index_of_first_best, better_of}

module _ {X : Type 0} where
  index_of_first_best-by : (beats : X → X → Bool) (xs : List X) (b : ℕ) (d : X) → IsFirstBest beats xs (length xs) b → index_of_first_best beats xs ≡ b
  index_of_first_best-by beats xs b d best =
      position_or_len_is (is_unbeaten beats xs) xs b d (omega (arith, best.0))
      (λ k before. ap not (list_any_at (λ y. beats y (get_or xs k d)) xs b d best.0 (best.2 k d before)))
      (λ _. ap not (list_any_none (λ y. beats y (get_or xs b d)) xs
      (All-from_get_or (λ y. beats y (get_or xs b d) ≡ false) xs d (λ k inside. best.1 k d inside))))

  -- none beats the one at b, and it beats each before it
  pub index_of_first_best-is : (beats : X → X → Bool) (xs : List X) (b : ℕ) → IsFirstBest beats xs (length xs) b → index_of_first_best beats xs ≡ b
  index_of_first_best-is beats [] b best = absurd (omega (arith, best.0))
  index_of_first_best-is beats (x ∷ xs) b best = index_of_first_best-by beats (x ∷ xs) b x best

-- A fold that keeps the best of the elements that are chosen.
module _ {X Y : Type 0} (choose : X → Option Y) (beats : Y → Y → Bool) where
  from_one : (a : Y) (xs : List X) → fold (λ best x. better_of beats best (choose x)) (Some a) xs ≡ Some (best_of beats a (filter_map choose xs))
  from_one a [] = refl
  from_one a (x ∷ xs) = elim (choose x) as (λ o. fold (λ best x. better_of beats best (choose x)) (better_of beats (Some a) o) xs ≡
      Some (best_of beats a (cons_option o (filter_map choose xs)))) [
        | None ↦ from_one a xs
        | Some y ↦ elim (beats y a) as (λ b. fold (λ best x. better_of beats best (choose x)) (cond b (Some y) (Some a)) xs ≡
            Some (best_of beats (cond b y a) (filter_map choose xs))) [ true ↦ from_one y xs | false ↦ from_one a xs ]
      ]

  best_in : List Y → Option Y
  best_in [] = None
  best_in (y ∷ ys) = Some (best_of beats y ys)

  from_none : (xs : List X) → fold (λ best x. better_of beats best (choose x)) None xs ≡ best_in (filter_map choose xs)
  unfolding best_in
  from_none [] = refl
  from_none (x ∷ xs) = elim (choose x) as (λ o. fold (λ best x. better_of beats best (choose x)) (better_of beats None o) xs ≡
      best_in (cons_option o (filter_map choose xs))) [
        | None ↦ from_none xs
        | Some y ↦ from_one y xs
      ]

  in_order : IsStrictWeakOrder beats → (ys : List Y) → best_in ys ≡ first_best beats ys
  unfolding best_in
  in_order o [] = refl
  in_order o (y ∷ ys) =
      let best = IsFirstBest-from_best_of o y ys in
      let index : index_of_first_best beats (y ∷ ys) ≡ best.0 = index_of_first_best-is beats (y ∷ ys) best.0 best.1 in
      sym (find_at (is_unbeaten beats (y ∷ ys)) (y ∷ ys) ∙ ap (slice_get (y ∷ ys)) index ∙ slice_get-get_or (y ∷ ys) best.0 y best.1.0 ∙ ap Some best.2)

  pub fold_better_of : IsStrictWeakOrder beats → (xs : List X) →
      fold (λ best x. better_of beats best (choose x)) None xs ≡ first_best beats (filter_map choose xs)
  fold_better_of o xs = from_none xs ∙ in_order o (filter_map choose xs)
