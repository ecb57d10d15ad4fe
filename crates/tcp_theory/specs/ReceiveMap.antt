-- The receive map: the free receive space from RCV.NXT on, one entry a position, with the bytes that are held out of order.
-- Its length is the receive window, RCV.WND (RFC 9293, 3.3.1 and 3.10.7.4).
use Rattle.std.specs.Prelude.{◌≡◌, ℕ, zero, suc, List, [], ◌∷◌, Option, Some, None}

-- so much free space, with nothing held in it
abbrev pub space : ℕ → List (Option ℕ)
space zero = []
space (suc n) = None ∷ space n

-- these bytes laid over the map, from this offset on, each in place of one that is held there; what lies past the space is cut off
abbrev pub store : List (Option ℕ) → ℕ → List ℕ → List (Option ℕ)
store [] offset bytes = []
store (entry ∷ map) (suc offset) bytes = entry ∷ store map offset bytes
store (entry ∷ map) zero [] = entry ∷ map
store (entry ∷ map) zero (byte ∷ bytes) = Some byte ∷ store map zero bytes

-- the held bytes without a gap from the start: what may be read next
abbrev pub front : List (Option ℕ) → List ℕ
front [] = []
front (None ∷ map) = []
front (Some byte ∷ map) = byte ∷ front map

-- the map from the first gap on
abbrev pub following : List (Option ℕ) → List (Option ℕ)
following [] = []
following (None ∷ map) = None ∷ map
following (Some byte ∷ map) = following map

-- each held byte is the stream's at its offset
abbrev pub AgreesWith : List (Option ℕ) → List ℕ → Type 0
AgreesWith [] stream = Unit {0}
AgreesWith (None ∷ map) [] = AgreesWith map []
AgreesWith (None ∷ map) (y ∷ stream) = AgreesWith map stream
AgreesWith (Some byte ∷ map) [] = ⊥
AgreesWith (Some byte ∷ map) (y ∷ stream) = (byte ≡ y) × AgreesWith map stream

-- these bytes begin the stream, by cases on both
abbrev pub Begins : List ℕ → List ℕ → Type 0
Begins [] stream = Unit {0}
Begins (byte ∷ bytes) [] = ⊥
Begins (byte ∷ bytes) (y ∷ stream) = (byte ≡ y) × Begins bytes stream
