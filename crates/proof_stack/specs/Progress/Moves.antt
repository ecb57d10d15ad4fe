-- What a device did in a call: its moves, one after the other.
use Rattle.std.specs.Prelude.{◌≡◌, Bool, true, false, not, List, [], ◌∷◌}
use Rattle.net_base.specs.Device.{Move, Took, Empty, Allowed, Emitted, Denied}

module _ {D : Type 0} (moves : D → Move → D → Type 0) where
  -- these lead from the one to the other
  abbrev pub AreMoves : List Move → D → D → Type 0
  AreMoves [] old new = new ≡ old
  AreMoves (m ∷ more) old new = (mid : D) × moves old m mid × AreMoves more mid new

-- a frame went
abbrev pub is_sent : Move → Bool
is_sent (Took t frame) = false
is_sent (Empty t) = false
is_sent (Allowed t given) = false
is_sent (Emitted frame) = true
is_sent (Denied len) = false

-- the device gave no leave to send a frame, or refused one
abbrev pub is_refused : Move → Bool
is_refused (Took t frame) = false
is_refused (Empty t) = false
is_refused (Allowed t given) = not given
is_refused (Emitted frame) = false
is_refused (Denied len) = true

-- no look for a frame: leave to send, or a frame that went or was refused
abbrev pub is_transmitted : Move → Bool
is_transmitted (Took t frame) = false
is_transmitted (Empty t) = false
is_transmitted (Allowed t given) = true
is_transmitted (Emitted frame) = true
is_transmitted (Denied len) = true
