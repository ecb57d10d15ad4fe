-- What a contract sees of an `Assembler`: the maximal runs of the positions that it holds, each as the position where it
-- starts and the one after its last, in rising order.
use Rattle.std.specs.Prelude.{ℕ, ◌+◌, ◌-◌, ◌<◌, ◌≤◌, ◌⊎◌, ◌↔◌, ◌==◌, if◌then◌else◌, nat_lt, min, max, List, [], ◌∷◌, map}

-- each run holds a position, and between two of them at least one is missing
abbrev pub AreRunsFrom : ℕ → List (ℕ × ℕ) → Type 0
AreRunsFrom low [] = Unit {0}
AreRunsFrom low (r ∷ rs) = (low ≤ r.0) × (r.0 < r.1) × AreRunsFrom (r.1 + 1) rs

abbrev pub AreRuns : List (ℕ × ℕ) → Type 0
AreRuns rs = AreRunsFrom 0 rs

-- the position lies in one of the runs
abbrev pub Holds : List (ℕ × ℕ) → ℕ → Type 0
Holds [] p = ⊥
Holds (r ∷ rs) p = ((r.0 ≤ p) × (p < r.1)) ⊎ Holds rs p

-- the runs of what is held together with the positions from `start` to `end`, which joins those that it meets or touches
abbrev pub joined : List (ℕ × ℕ) → ℕ → ℕ → List (ℕ × ℕ)
joined [] start end = (start, end) ∷ []
joined (r ∷ rs) start end =
    if nat_lt r.1 start then r ∷ joined rs start end
    else (if nat_lt end r.0 then (start, end) ∷ (r ∷ rs) else joined rs (min r.0 start) (max r.1 end))

-- the same for `size` positions from the offset on, of which there may be none
abbrev pub added : List (ℕ × ℕ) → ℕ → ℕ → List (ℕ × ℕ)
added rs offset size = if size == 0 then rs else joined rs offset (offset + size)

-- these are the runs of what was held and of `size` positions from the offset on
pub record IsUnion (old : List (ℕ × ℕ)) (offset size : ℕ) (new : List (ℕ × ℕ)) : Type 0 where
  pub runs : AreRuns new
  pub holds : (p : ℕ) → Holds new p ↔ (Holds old p ⊎ ((offset ≤ p) × (p < offset + size)))

-- how many positions from 0 on are held without a gap
abbrev pub front : List (ℕ × ℕ) → ℕ
front [] = 0
front (r ∷ rs) = if r.0 == 0 then r.1 else 0

-- every run so many positions further down
abbrev pub lowered : ℕ → List (ℕ × ℕ) → List (ℕ × ℕ)
lowered by rs = map (λ (r : ℕ × ℕ). (r.0 - by, r.1 - by)) rs

-- the run at 0 taken away, and the others lowered by its length
abbrev pub without_front : List (ℕ × ℕ) → List (ℕ × ℕ)
without_front [] = []
without_front (r ∷ rs) = if r.0 == 0 then lowered r.1 rs else r ∷ rs

-- two lists of runs hold the same positions
abbrev pub HoldSame : List (ℕ × ℕ) → List (ℕ × ℕ) → Type 0
HoldSame xs ys = (p : ℕ) → Holds xs p ↔ Holds ys p
