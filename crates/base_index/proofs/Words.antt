-- Bits of words that are set and looked for.
use Rattle.std.proofs.Common.{arith, tests, ◌≡◌, ◌≢◌, ◌==◌, ◌⊎◌, inl, inr, ℕ, ◌+◌, ◌-◌, ◌*◌, ◌/◌, ◌%◌, ◌^◌, ◌<◌, ◌≤◌, Bool, true, false, List, length, Option, IsSome, Some, None, refl, sym, ap, ◌∙◌, subst, w64, slice_index, slice_set, get_or}
use Rattle.std.proofs.Math.ListN.{length-set}
use Rattle.std.proofs.lemmas.Bool.{cases_lt, cases_eq}
use Rattle.std.proofs.lemmas.List.{get_or-set_same, get_or-set_other}
use Rattle.std.proofs.lemmas.Nat.{shr-shr, shr_le}
use Rattle.std.proofs.lemmas.Nat.Bits.{bit_at-trailing_zeros, bit_at-zero, bit_at_above}
use Rattle.std.proofs.lemmas.Option.{get_or_from_slice_get, slice_get_read}
use Rattle.std.specs.Int.{bit_at, trailing_zeros}
use Rattle.base_index.specs.Bits.{AreGrouped, AreWith, IsFirst, IsFirstIn, tells, tells_some}

pub index_read : (words : List ℕ) (w word : ℕ) → w < length words → word ≡ get_or words w word → word ≡ slice_index words w
index_read words w word within is = sym (get_or_from_slice_get words w word 0 (slice_get_read words (length words) w word refl within is))

-- another word at the place of a number, in which its bit alone may be another
pub with_word : (words : List ℕ) (at w : ℕ) (told : Bool) → at / 64 < length words → (bit_at w (at % 64) == 1) ≡ told
    → ((i : ℕ) → i < 64 → i ≢ at % 64 → bit_at w i ≡ bit_at (slice_index words (at / 64)) i) → AreWith at told words (slice_set words (at / 64) w)
with_word words at w told within here other = record {
  here = rw (get_or-set_same words (at / 64) w 0 within) here;
  elsewhere = λ i apart. by i apart (cases_eq (i / 64) (at / 64));
  words = same;
  size = simp length-set;
} where
  same : (k : ℕ) → k ≢ at / 64 → slice_index (slice_set words (at / 64) w) k ≡ slice_index words k
  same k apart = get_or-set_other words (at / 64) k w 0 apart

  by : (i : ℕ) → i ≢ at → (i / 64 ≡ at / 64) ⊎ (i / 64 ≡ at / 64 → ⊥) → tells (slice_set words (at / 64) w) i ≡ tells words i
  by i apart (inl one) =
      let bit : bit_at w (i % 64) ≡ bit_at (slice_index words (at / 64)) (i % 64) = other (i % 64) (omega arith) (λ equal. apart (omega (arith, one, equal))) in
      rw (one, get_or-set_same words (at / 64) w 0 within, bit) refl
  by i apart (inr two) = ap (λ (n : ℕ). bit_at n (i % 64) == 1) (same (i / 64) two)

-- a number that the words tell is one of its word
pub told_by_word : (words : List ℕ) (at : ℕ) → tells words at ≡ true → tells_some words (at / 64) ≡ true
told_by_word words at told = by (slice_index words (at / 64)) refl (cases_eq (slice_index words (at / 64)) 0) where
  by : (n : ℕ) → n ≡ slice_index words (at / 64) → (n ≡ 0) ⊎ (n ≡ 0 → ⊥) → tells_some words (at / 64) ≡ true
  by n same (inl none) =
      let word : slice_index words (at / 64) ≡ 0 = sym same ∙ none in
      let bit : bit_at (slice_index words (at / 64)) (at % 64) ≡ 0 = rw word (bit_at-zero (at % 64)) in
      let untold : tells words at ≡ false = rw bit refl in
      absurd (cc)
  by n same (inr some) = grind (arith, tests, same, some)

-- the bits of a word after the first ones
pub bit_following : (word s j : ℕ) → bit_at (word / 2 ^ s) j ≡ bit_at word (s + j)
bit_following word s j = ap (λ (n : ℕ). n % 2) (shr-shr word s j)

-- a word without a bit from a slot on
pub none_in : (words : List ℕ) (from : ℕ) → slice_index words (from / 64) / 2 ^ (from % 64) ≡ 0 → IsFirstIn words from None
none_in words from empty i since one =
    let bit : bit_at (slice_index words (from / 64)) (from % 64 + (i % 64 - from % 64)) ≡ 0
    = sym (bit_following (slice_index words (from / 64)) (from % 64) (i % 64 - from % 64)) ∙ ap (λ (n : ℕ). bit_at n (i % 64 - from % 64)) empty
    ∙ bit_at-zero (i % 64 - from % 64) in
    let slot : from % 64 + (i % 64 - from % 64) ≡ i % 64 = omega (arith, since, one) in
    let is : bit_at (slice_index words (i / 64)) (i % 64) ≡ 0 = rw (one, sym slot) bit in
    rw is refl

-- and one with such a bit
pub first_in : (words : List ℕ) (from rest first : ℕ) → slice_index words (from / 64) < 2 ^ 64 → rest ≡ slice_index words (from / 64) / 2 ^ (from % 64)
    → 0 < rest → first ≡ trailing_zeros w64 rest → (from % 64 + first < 64) × IsFirstIn words from (Some (from + first))
first_in words from rest first fits is some told = (inside, (omega arith, omega (arith, inside), here, below)) where
  word : ℕ
  word = slice_index words (from / 64)

  low : word / 2 ^ (from % 64) ≤ word
  low = shr_le word (from % 64)

  lowest : (first < 64) × (bit_at rest first ≡ 1) × ((i : ℕ) → i < first → bit_at rest i ≡ 0)
  lowest = subst (λ (n : ℕ). (n < 64) × (bit_at rest n ≡ 1) × ((i : ℕ) → i < n → bit_at rest i ≡ 0)) (sym told)
      (bit_at-trailing_zeros w64 rest some (omega (arith, fits, is, low)))

  following : (j : ℕ) → bit_at word (from % 64 + j) ≡ bit_at rest j
  following j = sym (ap (λ (n : ℕ). bit_at n j) is ∙ bit_following word (from % 64) j)

  inside : from % 64 + first < 64
  inside = by (cases_lt (from % 64 + first) 64) where
    by : (from % 64 + first < 64) ⊎ (64 ≤ from % 64 + first) → from % 64 + first < 64
    by (inl less) = less
    by (inr more) = let none = bit_at_above word 64 (from % 64 + first) fits more in let one = following first ∙ lowest.1 in absurd (omega (arith, none, one))

  -- a number that lies so far after the first one
  same : (from i : ℕ) → from ≤ i → from % 64 + (i - from) < 64 → i / 64 ≡ from / 64
  same from i since within = omega (arith, since, within)

  bit : (i : ℕ) → from ≤ i → from % 64 + (i - from) < 64 → bit_at (slice_index words (i / 64)) (i % 64) ≡ bit_at rest (i - from)
  bit i since within =
      let slot : i % 64 ≡ from % 64 + (i - from) = omega (arith, since, within) in
      rw (same from i since within, slot) (following (i - from))

  here : tells words (from + first) ≡ true
  here =
      let apart : from + first - from ≡ first = omega arith in
      let is_one : bit_at (slice_index words ((from + first) / 64)) ((from + first) % 64) ≡ 1
      = bit (from + first) (omega arith) (omega (arith, inside)) ∙ ap (bit_at rest) apart ∙ lowest.1 in
      rw is_one refl

  below : (i : ℕ) → from ≤ i → i < from + first → tells words i ≡ false
  below i since before =
      let none : bit_at (slice_index words (i / 64)) (i % 64) ≡ 0
      = bit i since (omega (arith, since, before, inside)) ∙ lowest.2 (i - from) (omega (arith, since, before)) in
      rw none refl

-- BY GROUPS

module _ (words groups : List ℕ) (grouped : AreGrouped words groups) where
  -- no number of a word of which the groups don't tell
  pub untold : (i : ℕ) → tells groups (i / 64) ≡ false → tells words i ≡ false
  untold i none = by (tells words i) refl where
    by : (b : Bool) → b ≡ tells words i → tells words i ≡ false
    by false same = sym same
    by true same = let some : tells groups (i / 64) ≡ true = grouped (i / 64) ∙ told_by_word words i (sym same) in absurd (cc)

  -- neither in the word of the first number nor in one after it
  pub none_by_groups : (from : ℕ) → IsFirstIn words from None → IsFirst (tells groups) (from / 64 + 1) None → IsFirst (tells words) from None
  none_by_groups from here following i since = by (cases_eq (i / 64) (from / 64)) where
    by : (i / 64 ≡ from / 64) ⊎ (i / 64 ≡ from / 64 → ⊥) → tells words i ≡ false
    by (inl one) = here i since one
    by (inr two) = untold i (following (i / 64) (omega (arith, since, two)))

  -- the first of the first word after it that has one
  pub some_by_groups : (from word : ℕ) (found : Option ℕ) → IsFirstIn words from None → IsFirst (tells groups) (from / 64 + 1) (Some word)
      → IsFirstIn words (64 * word) found → (tells_some words (64 * word / 64) ≡ true → IsSome found) → IsFirst (tells words) from found
  some_by_groups from word None here first is some =
      let slot : 64 * word / 64 ≡ word = omega arith in
      let is_some : IsSome {T = ℕ} None = some (rw slot (sym (grouped word) ∙ first.1)) in absurd (cc)
  some_by_groups from word (Some at) here first is some =
      (omega (arith, first.0, is.0), is.2, λ i since before. by i since before (cases_eq (i / 64) (from / 64)) (cases_lt i (64 * word))) where
        by : (i : ℕ) → from ≤ i → i < at → (i / 64 ≡ from / 64) ⊎ (i / 64 ≡ from / 64 → ⊥) → (i < 64 * word) ⊎ (64 * word ≤ i) → tells words i ≡ false
        by i since before (inl one) less = here i since one
        by i since before (inr two) (inl less) = untold i (first.2 (i / 64) (omega (arith, since, two)) (omega (arith, less)))
        by i since before (inr two) (inr more) = is.3 i more before
