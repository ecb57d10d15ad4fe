-- What a host sees at worst of the frames that were on a device that harms them.
use Rattle.std.specs.Prelude.{◌≡◌, ℕ, List, [], ◌∷◌, ◌⊎◌, Option, None, Some}
use Rattle.base_device.specs.Device.{Move, Took, Empty, Allowed, Emitted, Denied}
use Rattle.base_wrappers.specs.Corrupt.{flipped}

-- the frames that came by these moves, and those that were sent
abbrev pub frames_in : List Move → List (List ℕ)
frames_in [] = []
frames_in (Took t frame ∷ moves) = frame ∷ frames_in moves
frames_in (Empty t ∷ moves) = frames_in moves
frames_in (Allowed t leave ∷ moves) = frames_in moves
frames_in (Emitted frame ∷ moves) = frames_in moves
frames_in (Denied len ∷ moves) = frames_in moves

abbrev pub frames_out : List Move → List (List ℕ)
frames_out [] = []
frames_out (Took t frame ∷ moves) = frames_out moves
frames_out (Empty t ∷ moves) = frames_out moves
frames_out (Allowed t leave ∷ moves) = frames_out moves
frames_out (Emitted frame ∷ moves) = frame ∷ frames_out moves
frames_out (Denied len ∷ moves) = frames_out moves

-- the same frame, or one with one bit other
abbrev pub IsNear : List ℕ → List ℕ → Type 0
IsNear frame other = (other ≡ frame) ⊎ ((at : ℕ) × (bit : ℕ) × (other ≡ flipped at bit frame))

-- the frames without some of them
pub data Among : List (List ℕ) → List (List ℕ) → Type 0 where
  no_frame : Among [] []
  kept : {frame : List ℕ} {all some : List (List ℕ)} → Among all some → Among (frame ∷ all) (frame ∷ some)
  lost : {frame : List ℕ} {all some : List (List ℕ)} → Among all some → Among (frame ∷ all) some

-- each frame once, the same or with one bit other
pub data EachNear : List (List ℕ) → List (List ℕ) → Type 0 where
  no_frames : EachNear [] []
  next : {frame other : List ℕ} {all others : List (List ℕ)}
      → IsNear frame other → EachNear all others → EachNear (frame ∷ all) (other ∷ others)

-- each frame once or twice; `waiting` is one that was to come again
pub data Repeated : Option (List ℕ) → List (List ℕ) → List (List ℕ) → Type 0 where
  nothing : {waiting : Option (List ℕ)} → Repeated waiting [] []
  again : {frame : List ℕ} {all others : List (List ℕ)} → Repeated None all others → Repeated (Some frame) all (frame ∷ others)
  once : {frame : List ℕ} {all others : List (List ℕ)} → Repeated None all others → Repeated None (frame ∷ all) (frame ∷ others)
  twice : {frame : List ℕ} {all others : List (List ℕ)} → Repeated (Some frame) all others → Repeated None (frame ∷ all) (frame ∷ others)

-- Frames came in their order, of those that were there: some are lost, the others come once or twice, each whole or with one bit other.
abbrev pub Harmed : Option (List ℕ) → List (List ℕ) → List (List ℕ) → Type 0
Harmed waiting given came =
    (some : List (List ℕ)) × (near : List (List ℕ)) × Among given some × EachNear some near × Repeated waiting near came

-- frames were sent in their order: some are lost, the others are whole or with one bit other
abbrev pub HarmedOut : List (List ℕ) → List (List ℕ) → Type 0
HarmedOut sent out = (near : List (List ℕ)) × EachNear sent near × Among near out
