-- Slots, each of another datagram: a finite map from keys to what came, of as many keys as there are slots (RFC 815).
use Rattle.std.specs.Prelude.{◌≡◌, ℕ, Bool, true, ◌&&◌, not, if◌then◌else◌, false, ℤ, int_lt, List, map, slice_set, replicate, find, position, Option, None}
use Rattle.std.specs.Prelude.{Some}
use Rattle.std.specs.List.{AllPairs}
use Rattle.iface_tables.specs.Best.{at_index}
use Rattle.iface_tables.specs.Reassembly.{AssemblerValue, initial, freed, taken, placed, overlaps, completed, is_free, is_of, assembler_index_for}

module _ {K : Type 0} where
  -- ONE SLOT

  abbrev pub changed : (AssemblerValue K → AssemblerValue K) → Option ℕ → Option (AssemblerValue K) → List (AssemblerValue K) → List (AssemblerValue K)
  changed change (Some at) (Some s) assemblers = slice_set assemblers at (change s)
  changed change index s assemblers = assemblers

  -- the slot at a place, if one is named, changed so
  abbrev pub changed_at : (AssemblerValue K → AssemblerValue K) → Option ℕ → List (AssemblerValue K) → List (AssemblerValue K)
  changed_at change index assemblers = changed change index (at_index index assemblers) assemblers

  abbrev pub completed_in : Option (AssemblerValue K) → Option (List ℕ)
  completed_in None = None
  completed_in (Some s) = completed s

  -- the whole datagram at a place
  abbrev pub completed_at : ℕ → List (AssemblerValue K) → Option (List ℕ)
  completed_at at assemblers = completed_in (at_index (Some at) assemblers)

  -- ALL SLOTS

  -- so many free slots of this size
  abbrev pub free_assemblers : ℕ → ℕ → List (AssemblerValue K)
  free_assemblers count size = replicate count (initial size)

  -- a slot that isn't the datagram's yet becomes it
  abbrev pub opened : (K → K → Bool) → K → ℤ → AssemblerValue K → AssemblerValue K
  opened same key expires s = if is_of same key s then s else taken key expires s

  -- the datagram has a slot: its own, or a free one that is given up after `expires`, if there is one
  abbrev pub with_assembler_for : (K → K → Bool) → List (AssemblerValue K) → K → ℤ → List (AssemblerValue K)
  with_assembler_for same assemblers key expires = changed_at (opened same key expires) (assembler_index_for same assemblers key) assemblers

  -- a slot is given up when its instant has passed
  abbrev pub is_expired : ℤ → AssemblerValue K → Bool
  is_expired instant s = not (is_free s) && int_lt s.expires instant

  abbrev pub unless_expired : ℤ → AssemblerValue K → AssemblerValue K
  unless_expired instant s = if is_expired instant s then freed s else s

  abbrev pub without_expired : List (AssemblerValue K) → ℤ → List (AssemblerValue K)
  without_expired assemblers instant = map (unless_expired instant) assemblers

  -- A fragment goes to its datagram's slot; without a slot it is dropped.
  abbrev pub with_fragment_of : ℕ → (K → K → Bool) → List (AssemblerValue K) → K → ℤ → List ℕ → ℕ → Bool → List (AssemblerValue K)
  with_fragment_of holes same assemblers key expires fragment offset more =
      changed_at (λ s. placed holes (opened same key expires s) fragment offset more) (assembler_index_for same assemblers key) assemblers

  -- what came of a datagram
  abbrev pub assembler_of : (K → K → Bool) → List (AssemblerValue K) → K → Option (AssemblerValue K)
  assembler_of same assemblers key = find (is_of same key) assemblers

  -- a fragment of the datagram overlaps what came of it
  abbrev pub overlaps_in : Option (AssemblerValue K) → List ℕ → ℕ → Bool
  overlaps_in None fragment offset = false
  overlaps_in (Some s) fragment offset = overlaps s fragment offset

  abbrev pub overlaps_datagram : (K → K → Bool) → List (AssemblerValue K) → K → List ℕ → ℕ → Bool
  overlaps_datagram same assemblers key fragment offset = overlaps_in (assembler_of same assemblers key) fragment offset

  -- a datagram is given up: its slot, if it has one, is free
  abbrev pub without_datagram : (K → K → Bool) → List (AssemblerValue K) → K → List (AssemblerValue K)
  without_datagram same assemblers key = changed_at freed (position (is_of same key) assemblers) assemblers

  -- THE MAP

  -- no two slots are of one datagram
  abbrev pub AreOthers : AssemblerValue K → AssemblerValue K → Type 0
  AreOthers s t = (key : K) → s.key ≡ Some key → t.key ≡ Some key → ⊥

  abbrev pub AreApart : List (AssemblerValue K) → Type 0
  AreApart assemblers = AllPairs AreOthers assemblers

  -- the test tells equal keys
  abbrev pub IsTest : (K → K → Bool) → Type 0
  IsTest same = (a b : K) → (same a b ≡ true → a ≡ b) × (a ≡ b → same a b ≡ true)

  abbrev pub map_some : (AssemblerValue K → AssemblerValue K) → Option (AssemblerValue K) → Option (AssemblerValue K)
  map_some change None = None
  map_some change (Some s) = Some (change s)
