-- What a device that watches another writes of the frames that go over it.
use Rattle.std.specs.Prelude.{◌≡◌, ℕ, zero, suc, ◌+◌, ◌-◌, ◌^◌, min, ℤ, Bool, true, false, List, [], ◌∷◌, ◌++◌, ◌⊎◌}
use Rattle.base_device.specs.Device.{Move, Took, Empty, Allowed, Emitted, Denied}
use Rattle.base_wrappers.specs.declared.writer.Direction.{Direction}
use Rattle.base_wrappers.specs.declared.writer.Direction.TheVariants.{Rx, Tx}
use Rattle.base_wrappers.specs.TracerValue.{TracerValue}

-- a frame that went over, and the instant of the call that it belongs to
pub record Seen : Type 0 where
  pub instant : ℤ
  pub direction : Direction
  pub frame : List ℕ

abbrev pub seen : ℤ → Direction → List ℕ → Seen
seen t direction frame = record { instant = t; direction = direction; frame = frame }

-- counted to the largest number of 64 bits
abbrev pub one_more : ℕ → ℕ
one_more n = min (n + 1) (2 ^ 64 - 1)

-- so many more are counted
abbrev pub more : ℕ → ℕ → ℕ
more zero count = count
more (suc n) count = more n (one_more count)

-- whether bytes of this form were taken behind what was
abbrev pub Put : Bool → (List ℕ → Type 0) → List ℕ → List ℕ → Type 0
Put true form taken taken' = (bytes : List ℕ) × form bytes × (taken' ≡ taken ++ bytes)
Put false form taken taken' = taken' ≡ taken

-- bytes of this form are taken behind what was, or they are counted as lost and nothing is taken
abbrev pub Kept : (List ℕ → Type 0) → List ℕ → ℕ → List ℕ → ℕ → Type 0
Kept form taken count taken' count' =
    (Put true form taken taken' × (count' ≡ count)) ⊎ ((taken' ≡ taken) × (count' ≡ one_more count))

-- so it is with frames that are to be written; of the others nothing is
abbrev pub Noted : Bool → (List ℕ → Type 0) → List ℕ → ℕ → List ℕ → ℕ → Type 0
Noted true form taken count taken' count' = Kept form taken count taken' count'
Noted false form taken count taken' count' = (taken' ≡ taken) × (count' ≡ count)

-- the instant of the last call that had one
abbrev pub instant_after : ℤ → Move → ℤ
instant_after t (Took t' frame) = t'
instant_after t (Empty t') = t'
instant_after t (Allowed t' leave) = t'
instant_after t (Emitted frame) = t
instant_after t (Denied len) = t

-- an item that counts, before the others
abbrev pub if_so : {A : Type 0} → Bool → A → List A → List A
if_so true x xs = x ∷ xs
if_so false x xs = xs

module _ (takes : Direction → Bool) where
  -- the frames that went over and are to be written, where `t` is the instant of the call before the moves
  abbrev pub captured : ℤ → List Move → List Seen
  captured t [] = []
  captured t (Took t' frame ∷ moves) = if_so (takes Rx) (seen t' Rx frame) (captured t' moves)
  captured t (Empty t' ∷ moves) = captured t' moves
  captured t (Allowed t' leave ∷ moves) = captured t' moves
  captured t (Emitted frame ∷ moves) = if_so (takes Tx) (seen t Tx frame) (captured t moves)
  captured t (Denied len ∷ moves) = captured t moves

  module _ (form : ℤ → Direction → List ℕ → List ℕ → Type 0) where
    -- what a move adds, where `t` is the instant of the call before
    abbrev pub Shown : List ℕ → ℕ → ℤ → Move → List ℕ → ℕ → Type 0
    Shown taken count t (Took t' frame) taken' count' = Noted (takes Rx) (form t' Rx frame) taken count taken' count'
    Shown taken count t (Empty t') taken' count' = (taken' ≡ taken) × (count' ≡ count)
    Shown taken count t (Allowed t' leave) taken' count' = (taken' ≡ taken) × (count' ≡ count)
    Shown taken count t (Emitted frame) taken' count' = Noted (takes Tx) (form t Tx frame) taken count taken' count'
    Shown taken count t (Denied len) taken' count' = (taken' ≡ taken) × (count' ≡ count)

-- what is written of frames, one behind the other, where so many of them are left out
pub data Lines (form : ℤ → Direction → List ℕ → List ℕ → Type 0) : List Seen → List ℕ → ℕ → Type 0 where
  none : Lines form [] [] 0
  kept : {s : Seen} {all : List Seen} {bytes rest : List ℕ} {n : ℕ}
      → form s.instant s.direction s.frame bytes → Lines form all rest n → Lines form (s ∷ all) (bytes ++ rest) n
  lost : {s : Seen} {all : List Seen} {rest : List ℕ} {n : ℕ} → Lines form all rest n → Lines form (s ∷ all) rest (suc n)

-- some of the frames were written behind what was, in their order, and the others were counted
abbrev pub Written : (ℤ → Direction → List ℕ → List ℕ → Type 0) → List Seen → List ℕ → ℕ → List ℕ → ℕ → Type 0
Written form all taken count taken' count' =
    (bytes : List ℕ) × (n : ℕ) × Lines form all bytes n × (taken' ≡ taken ++ bytes) × (count' ≡ more n count)

-- what a move does: that of the device within, and what is written of it
abbrev pub Traces : {D S W : Type 0} → (D → Move → D → Type 0) → (S → List ℕ) → (W → Direction → Bool) → (W → ℤ → Direction → List ℕ → List ℕ → Type 0)
    → TracerValue D S W → Move → TracerValue D S W → Type 0
Traces moves taken takes writes old m new =
    moves old.inner m new.inner
    × Shown (takes old.writer) (writes old.writer) (taken old.sink) old.lost old.instant m (taken new.sink) new.lost
    × (new.instant ≡ instant_after old.instant m) × (new.writer ≡ old.writer)
