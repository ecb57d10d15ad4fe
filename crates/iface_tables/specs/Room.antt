-- Slots for datagrams in fragments where they are shared among sources (RFC 1122, section 3.3.2; RFC 8200, section 4.5): a fragment that
-- came first finds a slot at any time, and no source has more than its share of them.
use Rattle.std.specs.Prelude.{ℕ, ◌/◌, ◌==◌, max, nat_le, Bool, true, false, ◌&&◌, ◌||◌, not, if◌then◌else◌, int_lt, List, length, filter, position, Option, None, Some, is_some}
use Rattle.std.specs.Str.{bytes_eq}
use Rattle.iface_tables.specs.Best.{index_of_first_best}
use Rattle.iface_tables.specs.Reassembly.{AssemblerValue, freed, is_free, is_of}
use Rattle.iface_tables.specs.Assemblers.{changed_at}
use Rattle.iface_tables.specs.declared.key.FragKey.{FragKey}
use Rattle.iface_tables.specs.declared.key.FragKey.TheVariants as Keys

-- two datagrams are from one source
abbrev pub is_same_source : FragKey → FragKey → Bool
is_same_source (Keys.Ipv4 a) (Keys.Ipv4 b) = bytes_eq a.src_addr.0 b.src_addr.0
is_same_source (Keys.Ipv6 a) (Keys.Ipv6 b) = bytes_eq a.src_addr.0 b.src_addr.0
is_same_source a b = false

-- of so many slots a source has half at most, or the only one
abbrev pub share_of : ℕ → ℕ
share_of count = max 1 (count / 2)

module _ {K : Type 0} where
  -- how many slots have a datagram from the source of this one
  abbrev pub held_by : (K → K → Bool) → K → List (AssemblerValue K) → ℕ
  held_by alike key assemblers = length (filter (is_of alike key) assemblers)

  -- the source has its share
  abbrev pub has_share : (K → K → Bool) → K → List (AssemblerValue K) → Bool
  has_share alike key assemblers = nat_le (share_of (length assemblers)) (held_by alike key assemblers)

  -- of two slots that pass the test this one is given up earlier; one that doesn't pass comes last
  abbrev pub goes_before : (AssemblerValue K → Bool) → AssemblerValue K → AssemblerValue K → Bool
  goes_before test s t = test s && (not (test t) || int_lt s.expires t.expires)

  -- where the oldest of those stands: the first that none of them goes before
  abbrev pub oldest : (AssemblerValue K → Bool) → List (AssemblerValue K) → ℕ
  oldest test assemblers = index_of_first_best (goes_before test) assemblers

  abbrev pub any_slot : AssemblerValue K → Bool
  any_slot s = true

  -- The slot that is given up for a new datagram: where its source has its share, the source's oldest; else, where none is free, the oldest.
  abbrev pub given_up_for : (K → K → Bool) → List (AssemblerValue K) → K → Option ℕ
  given_up_for alike assemblers key =
      if has_share alike key assemblers
      then Some (oldest (is_of alike key) assemblers)
      else if is_some (position is_free assemblers) then None else Some (oldest any_slot assemblers)

  -- none is given up for a datagram that has its own, and where there is none
  abbrev pub place_given_up : (same alike : K → K → Bool) → List (AssemblerValue K) → K → Option ℕ
  place_given_up same alike assemblers key =
      if is_some (position (is_of same key) assemblers) || (length assemblers == 0) then None else given_up_for alike assemblers key

  -- the slots with room for a datagram
  abbrev pub with_room_for : (same alike : K → K → Bool) → List (AssemblerValue K) → K → List (AssemblerValue K)
  with_room_for same alike assemblers key = changed_at freed (place_given_up same alike assemblers key) assemblers
