-- A device that changes frames.
use Rattle.std.specs.Prelude.{◌≡◌, refl, ℕ, ◌%◌, ◌^◌, ◌==◌, Bool, true, false, IsTrue, if◌then◌else◌, bit_xor, List, length, slice_set, slice_index_or, ◌⊎◌}
use Rattle.std.specs.Coded.{Coded, code_by, coded×, coded_ℕ}
use Rattle.base_device.specs.Device.{Move, Took, Empty, Allowed, Emitted, Denied}
use Rattle.base_wrappers.specs.Course.{CourseValue, course_code, begun_at, drawn, hits, next_word, rx_counted, tx_counted}

-- the device within, the chance in percent, and what chance did
pub record CorrupterValue (D : Type 0) : Type 0 where
  pub inner : D
  pub chance : ℕ
  pub course : CourseValue

abbrev pub corrupter_code : {D : Type 0} → Coded D → Coded (CorrupterValue D)
corrupter_code {D} d =
    code_by (D × (ℕ × CourseValue)) (coded× d (coded× coded_ℕ course_code)) (λ w. (w.inner, (w.chance, w.course)))
    (λ p. record { inner = p.0; chance = p.1.0; course = p.1.1 }) (λ _. refl)

-- one bit of one byte is other, if there is a byte
abbrev pub flipped : ℕ → ℕ → List ℕ → List ℕ
flipped at bit frame =
    if length frame == 0
    then frame
    else slice_set frame (at % length frame) (bit_xor (slice_index_or frame (at % length frame) 0) (2 ^ (bit % 8)))

-- Each frame draws whether it is changed, which byte, and which bit. What is drawn counts or not.
abbrev pub after : CourseValue → CourseValue
after c = drawn (drawn (drawn c))

-- the frame with the bit other that the draws name
abbrev pub changed : CourseValue → List ℕ → List ℕ
changed c frame = flipped (next_word (drawn c)) (next_word (drawn (drawn c))) frame

-- Of a frame that was drawn, the other one comes, and is counted; without memory for a copy it comes as it is.
unfoldable pub Comes : Bool → CourseValue → List ℕ → List ℕ → CourseValue → Type 0
Comes true c given frame c' = ((frame ≡ changed c given) × (c' ≡ rx_counted (after c))) ⊎ ((frame ≡ given) × (c' ≡ after c))
Comes false c given frame c' = (frame ≡ given) × (c' ≡ after c)

module _ {D : Type 0} (moves : D → Move → D → Type 0) where
  -- one that was drawn is sent with the bit other, and counted
  abbrev pub Goes : Bool → CourseValue → D → List ℕ → D → CourseValue → Type 0
  Goes true c old frame new c' = moves old (Emitted (changed c frame)) new × (c' ≡ tx_counted (after c))
  Goes false c old frame new c' = moves old (Emitted frame) new × (c' ≡ after c)

  -- what a move does
  abbrev pub Corrupts : CorrupterValue D → Move → CorrupterValue D → Type 0
  Corrupts old (Took t frame) new =
      ((given : List ℕ) × moves old.inner (Took t given) new.inner × Comes (hits old.chance old.course) old.course given frame new.course)
      × (new.chance ≡ old.chance)
  Corrupts old (Empty t) new = moves old.inner (Empty t) new.inner × (new.course ≡ old.course) × (new.chance ≡ old.chance)
  Corrupts old (Allowed t leave) new = moves old.inner (Allowed t leave) new.inner × (new.course ≡ old.course) × (new.chance ≡ old.chance)
  Corrupts old (Emitted frame) new =
      Goes (hits old.chance old.course) old.course old.inner frame new.inner new.course × (new.chance ≡ old.chance)
  Corrupts old (Denied len) new = moves old.inner (Denied len) new.inner × (new.course ≡ after old.course) × (new.chance ≡ old.chance)
