-- Datagrams that are put together from their fragments (RFC 791, section 3.2; RFC 815): what a slot holds of one datagram, and
-- what a fragment makes of it.
use Rattle.std.specs.Prelude.{ℕ, ◌+◌, ◌==◌, nat_le, nat_lt, ◌&&◌, ◌||◌, not, Bool, true, false, if◌then◌else◌, ℤ, pos, List, [], ◌++◌, length}
use Rattle.std.specs.Prelude.{take, drop, position}
use Rattle.std.specs.Prelude.{replicate, Option, None, Some, is_none, refl}
use Rattle.std.specs.List.{list_any}
use Rattle.std.specs.Str.{bytes_eq}
use Rattle.std.specs.Coded.{Coded, code_by, coded×, coded_list, coded_option, coded_ℕ, coded_ℤ}
use Rattle.base_buffer.specs.Assembler.{added, front}

-- `key` says of which datagram the fragments are, and none does where the slot is free; `bytes` are the slot's bytes, of which
-- those in `runs` came; `total` is the datagram's length, once its last fragment came; the slot is given up after `expires`.
pub record AssemblerValue (K : Type 0) : Type 0 where
  pub key : Option K
  pub bytes : List ℕ
  pub runs : List (ℕ × ℕ)
  pub total : Option ℕ
  pub expires : ℤ

-- TOTALS, BYTES AND RUNS

-- the datagram can have this length: it fits, and no other length is known
abbrev pub is_known_as : Option ℕ → ℕ → Bool
is_known_as None size = true
is_known_as (Some total) size = total == size

-- the bytes with a fragment written over them
abbrev pub overwritten : List ℕ → ℕ → List ℕ → List ℕ
overwritten bytes offset fragment = take offset bytes ++ fragment ++ drop (offset + length fragment) bytes

-- the runs with the places of a fragment, where they aren't more than an assembler keeps
abbrev pub marked : ℕ → List (ℕ × ℕ) → ℕ → ℕ → List (ℕ × ℕ)
marked holes runs offset size = if nat_le (length (added runs offset size)) holes then added runs offset size else runs

-- some of the places from `start` to `end` are in a run, and all of them are in one
abbrev pub meets : List (ℕ × ℕ) → (start end : ℕ) → Bool
meets runs start end = list_any (λ r. nat_lt r.0 end && nat_lt start r.1) runs

abbrev pub covers : List (ℕ × ℕ) → (start end : ℕ) → Bool
covers runs start end = list_any (λ r. nat_le r.0 start && nat_le end r.1) runs

-- the datagram ends here
abbrev pub ends_at : Option ℕ → ℕ → Bool
ends_at None size = false
ends_at (Some total) size = total == size

abbrev pub or_else : Option ℕ → Option ℕ → Option ℕ
or_else (Some i) other = Some i
or_else None other = other

module _ {K : Type 0} where
  abbrev pub assembler_of : Option K → List ℕ → List (ℕ × ℕ) → Option ℕ → ℤ → AssemblerValue K
  assembler_of key bytes runs total expires =
      record { key = key; bytes = bytes; runs = runs; total = total; expires = expires }

  abbrev pub assembler_code : Coded K → Coded (AssemblerValue K)
  assembler_code c =
      code_by (Option K × (List ℕ × (List (ℕ × ℕ) × (Option ℕ × ℤ))))
      (coded× (coded_option c) (coded× (coded_list coded_ℕ) (coded× (coded_list (coded× coded_ℕ coded_ℕ)) (coded× (coded_option coded_ℕ) coded_ℤ))))
      (λ s. (s.key, (s.bytes, (s.runs, (s.total, s.expires))))) (λ p. assembler_of p.0 p.1.0 p.1.1.0 p.1.1.1.0 p.1.1.1.1) (λ _. refl)

  -- a slot that nothing came into
  abbrev pub empty : Option K → ℕ → AssemblerValue K
  empty key size = assembler_of key (replicate size 0) [] None (pos 0)

  abbrev pub initial : ℕ → AssemblerValue K
  initial size = empty None size

  -- a free slot; its bytes don't count
  abbrev pub freed : AssemblerValue K → AssemblerValue K
  freed s = assembler_of None s.bytes [] None (pos 0)

  -- a free slot that a datagram takes
  abbrev pub taken : K → ℤ → AssemblerValue K → AssemblerValue K
  taken key expires s = assembler_of (Some key) s.bytes [] None expires

  -- ONE PIECE

  abbrev pub takes_total : AssemblerValue K → ℕ → Bool
  takes_total s size = is_known_as s.total size && nat_le size (length s.bytes)

  abbrev pub with_total : AssemblerValue K → ℕ → AssemblerValue K
  with_total s size = if takes_total s size then record s { total = Some size } else s

  abbrev pub takes_fragment : AssemblerValue K → List ℕ → ℕ → Bool
  takes_fragment s fragment offset = nat_le (offset + length fragment) (length s.bytes)

  -- A fragment is written over what came before. Where it would leave too many runs it isn't marked: it has to arrive again.
  abbrev pub with_fragment : ℕ → AssemblerValue K → List ℕ → ℕ → AssemblerValue K
  with_fragment holes s fragment offset =
      if takes_fragment s fragment offset
      then record s { bytes = overwritten s.bytes offset fragment; runs = marked holes s.runs offset (length fragment) }
      else s

  -- the last fragment says where the datagram ends; the fragment is dropped where it can't end there
  abbrev pub takes_end : AssemblerValue K → List ℕ → ℕ → Bool → Bool
  takes_end s fragment offset more = more || takes_total s (offset + length fragment)

  abbrev pub is_placed : AssemblerValue K → List ℕ → ℕ → Bool → Bool
  is_placed s fragment offset more = takes_end s fragment offset more && takes_fragment s fragment offset

  abbrev pub with_end : AssemblerValue K → List ℕ → ℕ → Bool → AssemblerValue K
  with_end s fragment offset more = if more then s else with_total s (offset + length fragment)

  abbrev pub placed : ℕ → AssemblerValue K → List ℕ → ℕ → Bool → AssemblerValue K
  placed holes s fragment offset more =
      if takes_end s fragment offset more then with_fragment holes (with_end s fragment offset more) fragment offset else s

  -- the fragment came before, each byte of it
  abbrev pub repeats : AssemblerValue K → List ℕ → ℕ → Bool
  repeats s fragment offset = covers s.runs offset (offset + length fragment) && bytes_eq (take (length fragment) (drop offset s.bytes)) fragment

  -- some of its places came before, and not as they are in it
  abbrev pub overlaps : AssemblerValue K → List ℕ → ℕ → Bool
  overlaps s fragment offset = meets s.runs offset (offset + length fragment) && not (repeats s fragment offset)

  -- WHOLE DATAGRAMS

  -- every byte from the first to the last came
  abbrev pub is_complete : AssemblerValue K → Bool
  is_complete s = ends_at s.total (front s.runs)

  abbrev pub completed : AssemblerValue K → Option (List ℕ)
  completed s = if is_complete s then Some (take (front s.runs) s.bytes) else None

  -- SLOTS, each of another datagram

  abbrev pub is_free : AssemblerValue K → Bool
  is_free s = is_none s.key

  abbrev pub is_key : (K → K → Bool) → Option K → K → Bool
  is_key same None key = false
  is_key same (Some held) key = same held key

  abbrev pub is_of : (K → K → Bool) → K → AssemblerValue K → Bool
  is_of same key s = is_key same s.key key

  -- the slot for a datagram's fragments: its own, else the first free one
  abbrev pub assembler_index_for : (K → K → Bool) → List (AssemblerValue K) → K → Option ℕ
  assembler_index_for same assemblers key = or_else (position (is_of same key) assemblers) (position is_free assemblers)
