-- What a device did: its moves, one after the other.
use Rattle.std.specs.Prelude.{◌≡◌, List, [], ◌∷◌}
use Rattle.net_base.specs.Device.{Move}

module _ {D : Type 0} (moves : D → Move → D → Type 0) where
  -- these lead from the one to the other
  abbrev pub AreMoves : List Move → D → D → Type 0
  AreMoves [] old new = new ≡ old
  AreMoves (m ∷ more) old new = (mid : D) × moves old m mid × AreMoves more mid new

  -- nothing but these moves led the device there
  pub record MovedTo (old new : D) : Type 0 where
    pub all : List Move
    pub are : AreMoves all old new
