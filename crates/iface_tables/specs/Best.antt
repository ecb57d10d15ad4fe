-- Searches in a list: the first element that passes a test, and the best one, where `beats x y` says that x is better than y.
use Rattle.std.specs.Prelude.{ℕ, Bool, true, false, not, nat_lt, if◌then◌else◌, List, Option, None, Some, find, position, slice_get}
use Rattle.std.specs.List.{list_any, position_or_len}

module _ {X : Type 0} where
  -- the element at a place, and the first that passes a test
  abbrev pub at_index : Option ℕ → List X → Option X
  at_index None xs = None
  at_index (Some at) xs = slice_get xs at

  abbrev pub first_that : (X → Bool) → List X → Option X
  first_that test xs = at_index (position test xs) xs

  -- no element is better
  abbrev pub is_unbeaten : (X → X → Bool) → List X → X → Bool
  is_unbeaten beats xs x = not (list_any (λ y. beats y x) xs)

  -- the first of the best, and where it stands
  abbrev pub first_best : (X → X → Bool) → List X → Option X
  first_best beats xs = find (is_unbeaten beats xs) xs

  abbrev pub index_of_first_best : (X → X → Bool) → List X → ℕ
  index_of_first_best beats xs = position_or_len (is_unbeaten beats xs) xs

  -- the better of two, where there may be none; the first of two that are equally good
  abbrev pub better_of : (X → X → Bool) → Option X → Option X → Option X
  better_of beats best None = best
  better_of beats None (Some y) = Some y
  better_of beats (Some b) (Some y) = if beats y b then Some y else Some b

  -- lexicographic order: the one of the least number is better, and of two that have the same the better one by the rest
  abbrev pub by_least : (X → ℕ) → (X → X → Bool) → X → X → Bool
  by_least number rest x y =
      if nat_lt (number x) (number y) then true else if nat_lt (number y) (number x) then false else rest x y

  -- the order ends: both are equally good
  abbrev pub no_better : X → X → Bool
  no_better x y = false
