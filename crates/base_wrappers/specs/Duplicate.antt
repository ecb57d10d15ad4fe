-- A device that gives frames a second time.
use Rattle.std.specs.Prelude.{◌≡◌, refl, ℕ, ℤ, Bool, true, false, List, Option, None, Some, ◌⊎◌}
use Rattle.std.specs.Coded.{Coded, code_by, coded×, coded_ℕ, coded_list, coded_option}
use Rattle.base_device.specs.Device.{Move, Took, Empty, Allowed, Emitted, Denied}
use Rattle.base_wrappers.specs.Course.{CourseValue, course_code, drawn, hits, rx_counted}

-- the device within, the chance in percent, what chance did, and the frame that comes next for a second time
pub record DuplicatorValue (D : Type 0) : Type 0 where
  pub inner : D
  pub chance : ℕ
  pub course : CourseValue
  pub waiting : Option (List ℕ)

abbrev pub duplicator_code : {D : Type 0} → Coded D → Coded (DuplicatorValue D)
duplicator_code {D} d =
    code_by (D × (ℕ × (CourseValue × Option (List ℕ)))) (coded× d (coded× coded_ℕ (coded× course_code (coded_option (coded_list coded_ℕ)))))
    (λ w. (w.inner, (w.chance, (w.course, w.waiting))))
    (λ p. record { inner = p.0; chance = p.1.0; course = p.1.1.0; waiting = p.1.1.1 }) (λ _. refl)

-- A frame that was drawn waits to come again, and is counted; without memory for a copy it doesn't.
abbrev pub Waits : Bool → CourseValue → List ℕ → CourseValue → Option (List ℕ) → Type 0
Waits true c frame c' waiting = ((waiting ≡ Some frame) × (c' ≡ rx_counted (drawn c))) ⊎ ((waiting ≡ None) × (c' ≡ drawn c))
Waits false c frame c' waiting = (waiting ≡ None) × (c' ≡ drawn c)

-- what waits goes on to wait where there is no leave
abbrev pub without : Option (List ℕ) → ℤ → Move
without (Some again) t = Allowed t false
without None t = Empty t

module _ {D : Type 0} (moves : D → Move → D → Type 0) where
  -- What waits comes with leave of its own to send. Where nothing waits the device within gives a frame.
  abbrev pub Gives : Option (List ℕ) → ℤ → List ℕ → DuplicatorValue D → DuplicatorValue D → Type 0
  Gives (Some again) t frame old new =
      moves old.inner (Allowed t true) new.inner × (frame ≡ again) × (new.waiting ≡ None) × (new.course ≡ old.course)
  Gives None t frame old new =
      moves old.inner (Took t frame) new.inner × Waits (hits old.chance old.course) old.course frame new.course new.waiting

  -- what a move does
  abbrev pub Duplicates : DuplicatorValue D → Move → DuplicatorValue D → Type 0
  Duplicates old (Took t frame) new = Gives old.waiting t frame old new × (new.chance ≡ old.chance)
  Duplicates old (Empty t) new =
      moves old.inner (without old.waiting t) new.inner × (new.waiting ≡ old.waiting) × (new.course ≡ old.course) × (new.chance ≡ old.chance)
  Duplicates old (Allowed t leave) new =
      moves old.inner (Allowed t leave) new.inner × (new.waiting ≡ old.waiting) × (new.course ≡ old.course) × (new.chance ≡ old.chance)
  Duplicates old (Emitted frame) new =
      moves old.inner (Emitted frame) new.inner × (new.waiting ≡ old.waiting) × (new.course ≡ old.course) × (new.chance ≡ old.chance)
  Duplicates old (Denied len) new =
      moves old.inner (Denied len) new.inner × (new.waiting ≡ old.waiting) × (new.course ≡ old.course) × (new.chance ≡ old.chance)
