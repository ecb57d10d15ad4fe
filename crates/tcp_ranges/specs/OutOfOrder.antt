-- Bytes that came out of order: the free space after what came without a gap, of which some offsets hold a byte. An assembler
-- keeps the runs of the offsets that do, a buffer the bytes, and both together are a receive map.
use Rattle.std.specs.Prelude.{◌≡◌, ℕ, zero, suc, ◌<◌, ◌≤◌, Bool, false, ◌&&◌, ◌||◌, nat_le, nat_lt, if◌then◌else◌, List, [], ◌∷◌, length, take, drop, Option}
use Rattle.std.specs.Prelude.{Some, None}
use Rattle.base_buffer.specs.Assembler.{Holds, AreRuns, joined, front, without_front}
use Rattle.tcp_theory.specs.ReceiveMap as receive

-- the offset lies in one of the runs
abbrev pub is_held : List (ℕ × ℕ) → ℕ → Bool
is_held [] position = false
is_held (r ∷ rs) position = (nat_le r.0 position && nat_lt position r.1) || is_held rs position

-- the map of bytes of which the first has this offset: each whose offset is held, and none for each other
abbrev pub map_from : List (ℕ × ℕ) → ℕ → List ℕ → List (Option ℕ)
map_from rs position [] = []
map_from rs position (byte ∷ bytes) = (if is_held rs position then Some byte else None) ∷ map_from rs (suc position) bytes

-- bytes laid over others from the offset on; what lies past those is cut off
abbrev pub overlay : List ℕ → ℕ → List ℕ → List ℕ
overlay [] offset bytes = []
overlay (x ∷ xs) (suc offset) bytes = x ∷ overlay xs offset bytes
overlay (x ∷ xs) zero [] = x ∷ xs
overlay (x ∷ xs) zero (byte ∷ bytes) = byte ∷ overlay xs zero bytes

-- the maximal runs of the offsets of a map that hold a byte, where its first entry has this offset
abbrev pub runs_from : ℕ → List (Option ℕ) → List (ℕ × ℕ)
runs_from position [] = []
runs_from position (None ∷ map) = runs_from (suc position) map
runs_from position (Some byte ∷ map) = joined (runs_from (suc position) map) position (suc position)

abbrev pub runs_of : List (Option ℕ) → List (ℕ × ℕ)
runs_of map = runs_from 0 map

-- nothing is held from this offset on
abbrev pub EndsBy : List (ℕ × ℕ) → ℕ → Type 0
EndsBy rs end = (position : ℕ) → Holds rs position → position < end

-- Bytes were laid over the free ones at an offset, the runs are those with their offsets, and then the bytes at the front were
-- taken out: the map does the same.
pub record TakesFront (rs : List (ℕ × ℕ)) (free : List ℕ) (offset : ℕ) (bytes : List ℕ) (new : List (ℕ × ℕ)) (laid : List ℕ) : Type 0 where
  pub fits : front new ≤ length laid
  pub same_length : length laid ≡ length free
  pub taken : receive.front (receive.store (map_from rs 0 free) offset bytes) ≡ take (front new) laid
  pub left : receive.following (receive.store (map_from rs 0 free) offset bytes) ≡ map_from (without_front new) 0 (drop (front new) laid)
  pub runs : AreRuns (without_front new)
  pub ends : EndsBy (without_front new) (length (drop (front new) laid))
  pub gap : Holds (without_front new) 0 → ⊥
