-- One step more before the steps that are left.
use Rattle.std.proofs.Common.{◌≡◌, ℕ, suc, ◌-◌, ◌<◌, Bool, ◌||◌, Option, Some, None, inl, inr, refl, subst, arith}
use Rattle.interface.specs.Polls.{Repeats}

module _ {S : Type 0} (step : S → Option Bool → S → Type 0) (left : ℕ) (some : 0 < left) (s : S) (c : Bool) where
  pred : suc (left - 1) ≡ left
  pred = omega arith

  pub one_more : (b : Bool) (mid s' : S) (flag c' : Bool) → flag ≡ (c || b) → step s (Some b) mid → Repeats step (left - 1) mid flag s' c' →
      Repeats step left s c s' c'
  one_more b mid s' flag c' is first rest =
      subst (λ (n : ℕ). Repeats step n s c s' c') pred
      (inr (b, mid, first, subst (λ (f : Bool). Repeats step (left - 1) mid f s' c') is rest))

  pub last_one : (s' : S) → step s None s' → Repeats step left s c s' c
  last_one s' ends = subst (λ (n : ℕ). Repeats step n s c s' c) pred (inl (ends, refl))
