-- Slots by key.
use Rattle.std.specs.Prelude.{◌≡◌, ℕ, ◌<◌, ◌≤◌, List, Option, Some, None, slice_get}

-- the first place from this one on that has this key, or none
abbrev pub IsNextWith : ℕ → ℕ → List ℕ → Option ℕ → Type 0
IsNextWith key from keys (Some at) =
    (from ≤ at) × (slice_get keys at ≡ Some key) × ((i : ℕ) → from ≤ i → i < at → slice_get keys i ≡ Some key → ⊥)
IsNextWith key from keys None = (i : ℕ) → from ≤ i → slice_get keys i ≡ Some key → ⊥
