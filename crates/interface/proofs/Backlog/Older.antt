-- One entry more.
use Rattle.std.proofs.Common.{◌≡◌, ◌≢◌, ℕ, ◌+◌, ◌<◌, ◌≤◌, List, arith, sym, subst, ◌⊎◌, inl, inr}
use Rattle.std.specs.Prelude.{Option, Some, None}
use Rattle.interface.specs.declared.listener.entry.Entry.{Entry}
use Rattle.interface.specs.declared.listener.stage.Stage.{Stage}
use Rattle.interface.specs.Backlog.Entries.{entry_at}
use Rattle.interface.specs.Backlog.Oldest.{IsOldestOf}

module _ (n : ℕ) (stage : Stage) (es : List Entry) where
  which : (j : ℕ) → j < n + 1 → (j < n) ⊎ (j ≡ n)
  which j h = grind arith

  none_at : (entry_at es n).stage ≢ stage → ((j : ℕ) → j < n → (entry_at es j).stage ≢ stage) → (j : ℕ) → (j < n) ⊎ (j ≡ n) → (entry_at es j).stage ≢ stage
  none_at other none j (inl less) = none j less
  none_at other none j (inr is) = subst (λ (k : ℕ). (entry_at es k).stage ≢ stage) (sym is) other

  least_at : (b : ℕ) → ((entry_at es n).stage ≡ stage → (entry_at es b).since ≤ (entry_at es n).since)
      → ((j : ℕ) → j < n → (entry_at es j).stage ≡ stage → (entry_at es b).since ≤ (entry_at es j).since)
      → (j : ℕ) → (j < n) ⊎ (j ≡ n) → (entry_at es j).stage ≡ stage → (entry_at es b).since ≤ (entry_at es j).since
  least_at b last least j (inl less) is_there = least j less is_there
  least_at b last least j (inr is) is_there =
      subst (λ (k : ℕ). (entry_at es b).since ≤ (entry_at es k).since) (sym is) (last (subst (λ (k : ℕ). (entry_at es k).stage ≡ stage) is is_there))

  -- the next one isn't at the stage
  pub older_other : (found : Option ℕ) → IsOldestOf n stage es found → (entry_at es n).stage ≢ stage → IsOldestOf (n + 1) stage es found
  older_other None so_far other = λ j h. none_at other so_far j (which j h)
  older_other (Some b) so_far other =
      (omega (arith, so_far.0), so_far.1, λ j h. least_at b (λ is. absurd (other is)) so_far.2 j (which j h))

  -- it is, and came to it no sooner
  pub older_later : (b : ℕ) → IsOldestOf n stage es (Some b) → (entry_at es b).since ≤ (entry_at es n).since → IsOldestOf (n + 1) stage es (Some b)
  older_later b so_far later = (omega (arith, so_far.0), so_far.1, λ j h. least_at b (λ is. later) so_far.2 j (which j h))

  -- it is, and came to it sooner than the oldest so far
  pub older_sooner : (b : ℕ) → IsOldestOf n stage es (Some b) → (entry_at es n).stage ≡ stage → (entry_at es n).since < (entry_at es b).since
      → IsOldestOf (n + 1) stage es (Some n)
  older_sooner b so_far is sooner =
      (omega arith, is, λ j h. least_at n (λ _. omega arith) (λ j' h' is'. omega (arith, sooner, so_far.2 j' h' is')) j (which j h))

  -- it is the first
  pub older_first : IsOldestOf n stage es None → (entry_at es n).stage ≡ stage → IsOldestOf (n + 1) stage es (Some n)
  older_first so_far is = (omega arith, is, λ j h. least_at n (λ _. omega arith) (λ j' h' is'. absurd (so_far j' h' is')) j (which j h))

pub ruleset older = (older_other, older_later, older_sooner, older_first)
