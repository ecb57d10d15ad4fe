-- Frames that come over a device that changes some.
use Rattle.std.proofs.Common.{◌≡◌, ℕ, subst, ℤ, List}
use Rattle.base_device.specs.Device.{Move, Took}
use Rattle.base_wrappers.specs.Course.{CourseValue, hits}
use Rattle.base_wrappers.specs.Corrupt.{CorrupterValue, Comes}

-- a frame that came, as a move of the value
pub taken_by : {D : Type 0} (moves : D → Move → D → Type 0) (v w : CorrupterValue D) → v ≡ w → (t : ℤ) (given frame : List ℕ) (new : D) (c : CourseValue)
    (chance : ℕ) → chance ≡ v.chance → moves v.inner (Took t given) new → Comes (hits v.chance v.course) v.course given frame c
    → ((x : List ℕ) × moves w.inner (Took t x) new × Comes (hits w.chance w.course) w.course x frame c) × (chance ≡ w.chance)
taken_by {D} moves v w same t given frame new c chance is met comes =
    subst (λ (u : CorrupterValue D). ((x : List ℕ) × moves u.inner (Took t x) new × Comes (hits u.chance u.course) u.course x frame c)
    × (chance ≡ u.chance)) same
    ((given, met, comes), is)
