-- Numbers as bits of words.
use Rattle.std.specs.Prelude.{◌≡◌, ◌≢◌, ◌==◌, ◌⊎◌, [], ◌∷◌, ◌++◌, not, ℕ, ◌+◌, ◌*◌, ◌/◌, ◌%◌, ◌^◌, ◌<◌, ◌≤◌, Bool, true, false, List, length, map, slice_index, Option, Some, None}
use Rattle.std.specs.Int.{bit_at}
use Rattle.std.specs.List.{count_by, range_with_len}

-- a number is one of those that the words tell
abbrev pub tells : List ℕ → ℕ → Bool
tells words i = bit_at (slice_index words (i / 64)) (i % 64) == 1

-- a word tells of some number
abbrev pub tells_some : List ℕ → ℕ → Bool
tells_some words w = not (slice_index words w == 0)

-- which of the words tell of some number is what the groups tell
abbrev pub AreGrouped : List ℕ → List ℕ → Type 0
AreGrouped words groups = (w : ℕ) → tells groups w ≡ tells_some words w

-- of the numbers below this one, which the words tell
abbrev pub marks_of : List ℕ → ℕ → List Bool
marks_of words len = map (tells words) (range_with_len 0 len)

-- there is a word for each number below this one, and a group for each word; at most one of either lies ready
pub record HaveRoom (len : ℕ) (words groups : List ℕ) : Type 0 where
  pub grouped : AreGrouped words groups
  pub counted : len < 2 ^ 64
  pub enough_words : len ≤ 64 * length words
  pub few_words : 64 * length words ≤ len + 64
  pub enough_groups : length words ≤ 64 * length groups
  pub few_groups : 64 * length groups ≤ length words + 64

-- so many of the numbers below this one are told, and none from it on
pub record AreCounted (len marked : ℕ) (words : List ℕ) : Type 0 where
  pub count : count_by (λ mark. mark) (marks_of words len) ≡ marked
  pub beyond : (i : ℕ) → len ≤ i → tells words i ≡ false

-- a word more, that tells of none, where there is none for this number; or the same words
abbrev pub AreLengthened : ℕ → List ℕ → List ℕ → Type 0
AreLengthened at old new = (new ≡ old) ⊎ ((length old ≤ at / 64) × (new ≡ old ++ 0 ∷ []))

-- these words tell the number, or don't, and of all others what those tell
pub record AreWith (at : ℕ) (told : Bool) (old new : List ℕ) : Type 0 where
  pub here : tells new at ≡ told
  pub elsewhere : (i : ℕ) → i ≢ at → tells new i ≡ tells old i
  pub words : (w : ℕ) → w ≢ at / 64 → slice_index new w ≡ slice_index old w
  pub size : length new ≡ length old

-- the first of which it holds, from this one on; or none
abbrev pub IsFirst : (ℕ → Bool) → ℕ → Option ℕ → Type 0
IsFirst p from (Some at) = (from ≤ at) × (p at ≡ true) × ((i : ℕ) → from ≤ i → i < at → p i ≡ false)
IsFirst p from None = (i : ℕ) → from ≤ i → p i ≡ false

-- the same, of the numbers of one word
abbrev pub IsFirstIn : List ℕ → ℕ → Option ℕ → Type 0
IsFirstIn words from (Some at) =
    (from ≤ at) × (at / 64 ≡ from / 64) × (tells words at ≡ true) × ((i : ℕ) → from ≤ i → i < at → tells words i ≡ false)
IsFirstIn words from None = (i : ℕ) → from ≤ i → i / 64 ≡ from / 64 → tells words i ≡ false
