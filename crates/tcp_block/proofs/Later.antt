-- Instants of which none has come.
use Rattle.std.specs.Prelude.{◌≡◌, ℤ, false, List, [], ◌∷◌, Option}
use Rattle.tcp_state.specs.Moments.{is_due}

-- none of the instants has come
abbrev pub AreLater : ℤ → List (Option ℤ) → Type 0
AreLater now [] = Unit {0}
AreLater now (instant ∷ more) = (is_due now instant ≡ false) × AreLater now more
