-- When two assemblers are equal.
use Rattle.std.specs.Prelude.{ℕ, Bool, List, nat_eq}
use Rattle.std.specs.Ordering.{on, eq_of_both}
use Rattle.std.specs.Cmp.{IsEquivalence, on_equiv, and_equiv, nat_eq_equiv}
use Rattle.std.specs.Cmp.Lexicographic.{pointwise, lists_equiv}

-- two runs have the same ends
abbrev pub same_run : ℕ × ℕ → ℕ × ℕ → Bool
same_run = eq_of_both (on (λ (r : ℕ × ℕ). r.0) nat_eq) (on (λ (r : ℕ × ℕ). r.1) nat_eq)

-- two lists have the same runs
abbrev pub same_run_lists : List (ℕ × ℕ) → List (ℕ × ℕ) → Bool
same_run_lists = pointwise same_run

pub same_runs_equiv : IsEquivalence same_run_lists
same_runs_equiv = lists_equiv (and_equiv (on_equiv (λ (r : ℕ × ℕ). r.0) nat_eq_equiv) (on_equiv (λ (r : ℕ × ℕ). r.1) nat_eq_equiv))
