-- Chains of slots: those whose keys fall into one bucket are linked in their order.
use Rattle.std.specs.Prelude.{◌≡◌, ℕ, suc, ◌<◌, ◌≤◌, ◌%◌, List, length, map, Option, Some, None, slice_get, slice_set}
use Rattle.base_index.specs.Keys.{IsNextWith}

-- the bucket of a key
abbrev pub bucket_of : ℕ → ℕ → ℕ
bucket_of size key = key % size

-- the bucket of each slot
abbrev pub buckets : ℕ → List ℕ → List ℕ
buckets size keys = map (bucket_of size) keys

-- Of the slots from this one on: each bucket begins at its first one, and each leads to the next one of its bucket.
pub record AreLinkedFrom (from : ℕ) (all : List ℕ) (first links : List (Option ℕ)) : Type 0 where
  pub each : length links ≡ length all
  pub begin : (bucket : ℕ) (link : Option ℕ) → slice_get first bucket ≡ Some link → IsNextWith bucket from all link
  pub proceed : (i bucket : ℕ) (link : Option ℕ) → from ≤ i → slice_get all i ≡ Some bucket → bucket < length first → slice_get links i ≡ Some link
      → IsNextWith bucket (suc i) all link

abbrev pub AreLinked : List ℕ → List (Option ℕ) → List (Option ℕ) → Type 0
AreLinked all first links = AreLinkedFrom 0 all first links

-- slots with these keys, by their buckets
abbrev pub AreChained : List ℕ → List (Option ℕ) → List (Option ℕ) → Type 0
AreChained keys first links = AreLinked (buckets (length first) keys) first links

-- the last place of the bucket before this one, or none
abbrev pub IsLastBefore : List ℕ → ℕ → ℕ → Option ℕ → Type 0
IsLastBefore all bucket at (Some last) =
    (last < at) × (slice_get all last ≡ Some bucket) × ((i : ℕ) → i < at → slice_get all i ≡ Some bucket → i ≤ last)
IsLastBefore all bucket at None = (i : ℕ) → i < at → slice_get all i ≡ Some bucket → ⊥

-- the slot is in the bucket
abbrev pub IsIn : List ℕ → ℕ → ℕ → Type 0
IsIn all bucket at = slice_get all at ≡ Some bucket

-- of this slot and those after it, the first one that has the key; none, where there is no such slot
abbrev pub BeginsAt : ℕ → List ℕ → Option ℕ → Option ℕ → Type 0
BeginsAt key keys None found = found ≡ None
BeginsAt key keys (Some at) found = IsNextWith key at keys found

-- where a slot leads, or where the bucket begins
abbrev pub link_following : ℕ → Option ℕ → List (Option ℕ) → List (Option ℕ) → Option (Option ℕ)
link_following bucket None first links = slice_get first bucket
link_following bucket (Some slot) first links = slice_get links slot

-- the beginnings, and the links, where it leads here
abbrev pub first_with : ℕ → Option ℕ → Option ℕ → List (Option ℕ) → List (Option ℕ)
first_with bucket None link first = slice_set first bucket link
first_with bucket (Some slot) link first = first

abbrev pub links_with : Option ℕ → Option ℕ → List (Option ℕ) → List (Option ℕ)
links_with None link links = links
links_with (Some slot) link links = slice_set links slot link
