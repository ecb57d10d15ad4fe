-- The fragments of a payload (RFC 791, section 3.2).
use Rattle.std.specs.Prelude.{◌≡◌, ℕ, ◌+◌, ◌≤◌, nat_lt, Bool, false, List, length, take, drop, Some}
use Rattle.base_buffer.specs.Assembler.{AreRuns}
use Rattle.tcp_ranges.specs.OutOfOrder.{map_from, EndsBy}
use Rattle.tcp_theory.specs.ReceiveMap.{AgreesWith, Begins}
use Rattle.iface_tables.specs.Reassembly.{AssemblerValue}

-- a fragment of a payload: where its bytes begin, and whether more come after them
pub record FragmentPart : Type 0 where
  pub offset : ℕ
  pub more : Bool
  pub bytes : List ℕ

-- the next fragment of a payload of which so many bytes went, where a frame has room for `room` bytes
abbrev pub fragment_at : ℕ → List ℕ → ℕ → FragmentPart
fragment_at room payload at =
    record { offset = at; more = nat_lt (at + room) (length payload); bytes = take room (drop at payload) }

-- the fragment stands in the payload at its offset, and is marked as the last one only where it ends the payload
pub record IsSliceOf (payload : List ℕ) (p : FragmentPart) : Type 0 where
  pub slice : Begins p.bytes (drop p.offset payload)
  pub last : p.more ≡ false → p.offset + length p.bytes ≡ length payload

-- a slot of at most so many runs holds bytes of this payload alone, each at its place, and its total is the payload's length
pub record HoldsSlicesOf {K : Type 0} (holes : ℕ) (payload : List ℕ) (s : AssemblerValue K) : Type 0 where
  pub runs : AreRuns s.runs
  pub few : length s.runs ≤ holes
  pub ends : EndsBy s.runs (length s.bytes)
  pub agrees : AgreesWith (map_from s.runs 0 s.bytes) payload
  pub whole : (total : ℕ) → s.total ≡ Some total → total ≡ length payload
