-- One frame at a device that may refuse it.
use Rattle.std.specs.Prelude.{◌≡◌, ℕ, Bool, true, false, List, length}
use Rattle.net_base.specs.Device.{Move, Emitted, Denied}

-- a frame with these bytes and of this length went, or one of this length was refused
abbrev pub Emits : {D : Type 0} → (D → Move → D → Type 0) → D → List ℕ → ℕ → Bool → D → Type 0
Emits moves old frame len true new = moves old (Emitted frame) new × (length frame ≡ len)
Emits moves old frame len false new = moves old (Denied len) new
