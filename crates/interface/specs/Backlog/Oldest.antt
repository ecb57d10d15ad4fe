-- The entry that has been at a stage for longest.
use Rattle.std.specs.Prelude.{◌≡◌, ◌≢◌, ℕ, ◌≤◌, ◌<◌, List, length, Option, Some, None}
use Rattle.interface.specs.declared.listener.entry.Entry.{Entry}
use Rattle.interface.specs.declared.listener.stage.Stage.{Stage}
use Rattle.interface.specs.Backlog.Entries.{entry_at}

-- of the first n entries none is at this stage, or this one is, and none of those that are came to it before
abbrev pub IsOldestOf : ℕ → Stage → List Entry → Option ℕ → Type 0
IsOldestOf n stage es None = (j : ℕ) → j < n → (entry_at es j).stage ≢ stage
IsOldestOf n stage es (Some i) =
    (i < n) × ((entry_at es i).stage ≡ stage)
    × ((j : ℕ) → j < n → (entry_at es j).stage ≡ stage → (entry_at es i).since ≤ (entry_at es j).since)

abbrev pub IsOldest : Stage → List Entry → Option ℕ → Type 0
IsOldest stage es found = IsOldestOf (length es) stage es found
