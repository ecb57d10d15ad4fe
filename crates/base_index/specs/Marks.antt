-- Marks of slots: which are on the agenda.
use Rattle.std.specs.Prelude.{◌≡◌, ℕ, ◌<◌, ◌≤◌, Bool, true, List, length, Option, Some, None, slice_get}

-- a slot is on the agenda
abbrev pub IsOn : List Bool → ℕ → Type 0
IsOn marks i = slice_get marks i ≡ Some true

-- the first place on the agenda from this one on, or none
abbrev pub IsNext : ℕ → List Bool → Option ℕ → Type 0
IsNext from marks (Some at) = (from ≤ at) × (at < length marks) × ((i : ℕ) → from ≤ i → i < at → IsOn marks i → ⊥) × IsOn marks at
IsNext from marks None = (i : ℕ) → from ≤ i → IsOn marks i → ⊥
