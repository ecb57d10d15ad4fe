-- A device that writes anything over frames.
use Rattle.std.specs.Prelude.{◌≡◌, refl, ℕ, List, length}
use Rattle.std.specs.Coded.{Coded, code_by, coded×}
use Rattle.base_device.specs.Device.{Move, Took, Empty, Allowed, Emitted, Denied}

-- the device within, and what writes over frames that are sent and that come
pub record FuzzValue (D T R : Type 0) : Type 0 where
  pub inner : D
  pub fuzz_tx : T
  pub fuzz_rx : R

abbrev pub fuzz_code : {D T R : Type 0} → Coded D → Coded T → Coded R → Coded (FuzzValue D T R)
fuzz_code {D} {T} {R} d t r =
    code_by (D × (T × R)) (coded× d (coded× t r)) (λ w. (w.inner, (w.fuzz_tx, w.fuzz_rx)))
    (λ p. record { inner = p.0; fuzz_tx = p.1.0; fuzz_rx = p.1.1 }) (λ _. refl)

-- what a move does: some frame of the same length goes over the device within
abbrev pub Fuzzes : {D T R : Type 0} → (D → Move → D → Type 0) → FuzzValue D T R → Move → FuzzValue D T R → Type 0
Fuzzes moves old (Took t frame) new = (given : List ℕ) × (length given ≡ length frame) × moves old.inner (Took t given) new.inner
Fuzzes moves old (Empty t) new = moves old.inner (Empty t) new.inner
Fuzzes moves old (Allowed t leave) new = moves old.inner (Allowed t leave) new.inner
Fuzzes moves old (Emitted frame) new = (sent : List ℕ) × (length sent ≡ length frame) × moves old.inner (Emitted sent) new.inner
Fuzzes moves old (Denied len) new = moves old.inner (Denied len) new.inner
