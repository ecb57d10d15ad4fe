-- What a rate says of frames.
use Rattle.std.specs.Prelude.{ℕ, ℤ, pos, ◌+ℤ◌, ◌≤ℤ◌, ◌<ℤ◌, ⊤, IsTrue, List, [], ◌∷◌}
use Rattle.base_device.specs.Device.{Move, Took, Empty, Allowed, Emitted, Denied}
use Rattle.base_wrappers.specs.Bucket.{Level, lets, spent}

-- the instants at which frames came
abbrev pub instants_in : List Move → List ℤ
instants_in [] = []
instants_in (Took t frame ∷ moves) = t ∷ instants_in moves
instants_in (Empty t ∷ moves) = instants_in moves
instants_in (Allowed t leave ∷ moves) = instants_in moves
instants_in (Emitted frame ∷ moves) = instants_in moves
instants_in (Denied len ∷ moves) = instants_in moves

-- frames at these instants may go, each behind the others
abbrev pub AllLet : ℕ → ℕ → List ℤ → Level → Type 0
AllLet rate interval [] b = ⊤
AllLet rate interval (t ∷ instants) b = IsTrue (lets rate interval t b) × AllLet rate interval instants (spent rate interval t b)

-- all of these instants lie within so many microseconds from that one on
abbrev pub AllWithin : ℤ → ℕ → List ℤ → Type 0
AllWithin begin interval [] = ⊤
AllWithin begin interval (t ∷ instants) = (begin ≤ℤ t) × (t <ℤ (begin +ℤ pos interval)) × AllWithin begin interval instants
