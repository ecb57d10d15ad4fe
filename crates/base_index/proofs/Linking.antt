-- The next place of a bucket, where a slot leaves it or enters it.
use Rattle.std.proofs.Common.{◌≡◌, ◌≢◌, ◌⊎◌, inl, inr, ℕ, zero, suc, ◌<◌, ◌≤◌, List, [], ◌∷◌, length, Option, Some, None, refl, ap, subst, arith}
use Rattle.std.proofs.lemmas.Bool.{cases_lt, cases_eq}
use Rattle.std.specs.Prelude.{slice_get, slice_set}
use Rattle.base_index.specs.Keys.{IsNextWith}

module _ {X : Type 0} where
  -- what is set is there
  pub set_here : (xs : List X) (at : ℕ) (x : X) → at < length xs → slice_get (slice_set xs at x) at ≡ Some x
  set_here [] at x within = absurd (omega (arith, within))
  set_here (y ∷ xs) zero x within = refl
  set_here (y ∷ xs) (suc at) x within = set_here xs at x (omega (arith, within))

  -- all else stays
  pub set_elsewhere : (xs : List X) (at i : ℕ) (x : X) → i ≢ at → slice_get (slice_set xs at x) i ≡ slice_get xs i
  set_elsewhere [] at i x other = refl
  set_elsewhere (y ∷ xs) zero zero x other = absurd (other refl)
  set_elsewhere (y ∷ xs) zero (suc i) x other = refl
  set_elsewhere (y ∷ xs) (suc at) zero x other = refl
  set_elsewhere (y ∷ xs) (suc at) (suc i) x other = set_elsewhere xs at i x (λ same. other (ap suc same))

  pub length_set : (xs : List X) (at : ℕ) (x : X) → length (slice_set xs at x) ≡ length xs
  length_set [] at x = refl
  length_set (y ∷ xs) zero x = refl
  length_set (y ∷ xs) (suc at) x = ap suc (length_set xs at x)

  -- what is there where one is set: that one, or what was
  pub of_set : (xs : List X) (at i : ℕ) (x y : X) → slice_get (slice_set xs at x) i ≡ Some y → ((i ≡ at) × (x ≡ y)) ⊎ ((i ≢ at) × (slice_get xs i ≡ Some y))
  of_set [] at i x y got = absurd (cc)
  of_set (z ∷ xs) zero zero x y got = inl (refl, cc)
  of_set (z ∷ xs) zero (suc i) x y got = inr ((λ same. absurd (omega (arith, same))), got)
  of_set (z ∷ xs) (suc at) zero x y got = inr ((λ same. absurd (omega (arith, same))), got)
  of_set (z ∷ xs) (suc at) (suc i) x y got = by (of_set xs at i x y got) where
    by : ((i ≡ at) × (x ≡ y)) ⊎ ((i ≢ at) × (slice_get xs i ≡ Some y)) → ((suc i ≡ suc at) × (x ≡ y)) ⊎ ((suc i ≢ suc at) × (slice_get xs i ≡ Some y))
    by (inl here) = inl (ap suc here.0, here.1)
    by (inr else) = inr ((λ same. else.0 (omega (arith, same))), else.1)

module _ (all : List ℕ) (bucket at other : ℕ) (differs : other ≢ bucket) where
  -- the next slot stays the next one where another slot leaves the bucket, or is in none
  pub stays_next : (from : ℕ) (next : Option ℕ) → next ≢ Some at → IsNextWith bucket from all next → IsNextWith bucket from (slice_set all at other) next
  stays_next from None isnt is = λ i since got. by i since (of_set all at i other bucket got) where
    by : (i : ℕ) → from ≤ i → ((i ≡ at) × (other ≡ bucket)) ⊎ ((i ≢ at) × (slice_get all i ≡ Some bucket)) → ⊥
    by i since (inl here) = differs here.1
    by i since (inr else) = is i since else.1
  stays_next from (Some slot) isnt is = (is.0, there, λ i since less got. by i since less (of_set all at i other bucket got)) where
    away : slot ≢ at
    away same = isnt (ap Some same)

    there : slice_get (slice_set all at other) slot ≡ Some bucket
    there = let e : slice_get (slice_set all at other) slot ≡ slice_get all slot = set_elsewhere all at slot other away in
        let is_in : slice_get all slot ≡ Some bucket = is.1 in cc

    by : (i : ℕ) → from ≤ i → i < slot → ((i ≡ at) × (other ≡ bucket)) ⊎ ((i ≢ at) × (slice_get all i ≡ Some bucket)) → ⊥
    by i since less (inl here) = differs here.1
    by i since less (inr else) = is.2 i since less else.1

  -- where the next slot leaves, the one after it is next
  pub skips : (from : ℕ) (next : Option ℕ) → IsNextWith bucket from all (Some at) → IsNextWith bucket (suc at) all next
      → IsNextWith bucket from (slice_set all at other) next
  skips from next first is = earlier next (stays_next (suc at) next away is) where
    away : next ≢ Some at
    away same = let following : IsNextWith bucket (suc at) all (Some at) = subst (λ (o : Option ℕ). IsNextWith bucket (suc at) all o) same is in
        absurd (omega (arith, following.0))

    none : (i : ℕ) → from ≤ i → i < suc at → slice_get (slice_set all at other) i ≡ Some bucket → ⊥
    none i since less got = by (of_set all at i other bucket got) where
      by : ((i ≡ at) × (other ≡ bucket)) ⊎ ((i ≢ at) × (slice_get all i ≡ Some bucket)) → ⊥
      by (inl here) = differs here.1
      by (inr else) = first.2 i since (let apart : i ≢ at = else.0 in omega (arith, less, apart)) else.1

    earlier : (next : Option ℕ) → IsNextWith bucket (suc at) (slice_set all at other) next → IsNextWith bucket from (slice_set all at other) next
    earlier None is = λ i since got. by i since got (cases_lt i (suc at)) where
      by : (i : ℕ) → from ≤ i → slice_get (slice_set all at other) i ≡ Some bucket → (i < suc at) ⊎ (suc at ≤ i) → ⊥
      by i since got (inl before) = none i since before got
      by i since got (inr following) = is i following got
    earlier (Some slot) is = (omega (arith, is.0, first.0), is.1, λ i since less got. by i since less got (cases_lt i (suc at))) where
      by : (i : ℕ) → from ≤ i → i < slot → slice_get (slice_set all at other) i ≡ Some bucket → (i < suc at) ⊎ (suc at ≤ i) → ⊥
      by i since less got (inl before) = none i since before got
      by i since less got (inr following) = is.2 i following less got

module _ (all : List ℕ) (bucket : ℕ) where
  -- from further on, where none lies between
  pub later : (from further : ℕ) (next : Option ℕ) → from ≤ further → ((i : ℕ) → from ≤ i → i < further → slice_get all i ≡ Some bucket → ⊥)
      → IsNextWith bucket from all next → IsNextWith bucket further all next
  later from further None less none is = λ i since got. is i (omega (arith, less, since)) got
  later from further (Some slot) less none is =
      (not_between (cases_lt slot further), is.1, λ i since before got. is.2 i (omega (arith, less, since)) before got) where
        not_between : (slot < further) ⊎ (further ≤ slot) → further ≤ slot
        not_between (inl before) = absurd (none slot is.0 before is.1)
        not_between (inr following) = following

  -- from one place earlier, where that isn't in the bucket
  pub sooner : (at : ℕ) (next : Option ℕ) → (slice_get all at ≡ Some bucket → ⊥) → IsNextWith bucket (suc at) all next → IsNextWith bucket at all next
  sooner at None away is = λ i since got. by i since got (cases_eq i at) where
    by : (i : ℕ) → at ≤ i → slice_get all i ≡ Some bucket → (i ≡ at) ⊎ (i ≡ at → ⊥) → ⊥
    by i since got (inl same) = away (subst (λ (n : ℕ). slice_get all n ≡ Some bucket) same got)
    by i since got (inr apart) = is i (omega (arith, since, apart)) got
  sooner at (Some slot) away is = (omega (arith, is.0), is.1, λ i since less got. by i since less got (cases_eq i at)) where
    by : (i : ℕ) → at ≤ i → i < slot → slice_get all i ≡ Some bucket → (i ≡ at) ⊎ (i ≡ at → ⊥) → ⊥
    by i since less got (inl same) = away (subst (λ (n : ℕ). slice_get all n ≡ Some bucket) same got)
    by i since less got (inr apart) = is.2 i (omega (arith, since, apart)) less got

  -- where a slot enters the bucket, it is next where none lies before it
  pub arrives : (at from : ℕ) → at < length all → from ≤ at → ((i : ℕ) → from ≤ i → i < at → slice_get all i ≡ Some bucket → ⊥)
      → IsNextWith bucket from (slice_set all at bucket) (Some at)
  arrives at from within since none = (since, set_here all at bucket within, λ i following less got. by i following less (of_set all at i bucket bucket got)) where
    by : (i : ℕ) → from ≤ i → i < at → ((i ≡ at) × (bucket ≡ bucket)) ⊎ ((i ≢ at) × (slice_get all i ≡ Some bucket)) → ⊥
    by i following less (inl here) = absurd (omega (arith, less, here.0))
    by i following less (inr else) = none i following less else.1

  -- one that lies before it stays next
  pub stays_before : (at from slot : ℕ) → slot < at → IsNextWith bucket from all (Some slot) → IsNextWith bucket from (slice_set all at bucket) (Some slot)
  stays_before at from slot before is = (is.0, there, λ i since less got. by i since less (of_set all at i bucket bucket got)) where
    there : slice_get (slice_set all at bucket) slot ≡ Some bucket
    there = let e : slice_get (slice_set all at bucket) slot ≡ slice_get all slot = set_elsewhere all at slot bucket (λ same. absurd (omega (arith, same, before))) in
        let is_in : slice_get all slot ≡ Some bucket = is.1 in cc

    by : (i : ℕ) → from ≤ i → i < slot → ((i ≡ at) × (bucket ≡ bucket)) ⊎ ((i ≢ at) × (slice_get all i ≡ Some bucket)) → ⊥
    by i since less (inl here) = absurd (omega (arith, less, before, here.0))
    by i since less (inr else) = is.2 i since less else.1

  -- from after it all is as it was
  pub stays_following : (at from : ℕ) (next : Option ℕ) → at < from → IsNextWith bucket from all next → IsNextWith bucket from (slice_set all at bucket) next
  stays_following at from None before is = λ i since got. by i since (of_set all at i bucket bucket got) where
    by : (i : ℕ) → from ≤ i → ((i ≡ at) × (bucket ≡ bucket)) ⊎ ((i ≢ at) × (slice_get all i ≡ Some bucket)) → ⊥
    by i since (inl here) = absurd (omega (arith, since, before, here.0))
    by i since (inr else) = is i since else.1
  stays_following at from (Some slot) before is = (is.0, there, λ i since less got. by i since less (of_set all at i bucket bucket got)) where
    there : slice_get (slice_set all at bucket) slot ≡ Some bucket
    there = let e : slice_get (slice_set all at bucket) slot ≡ slice_get all slot =
        set_elsewhere all at slot bucket (λ same. absurd (omega (arith, same, before, is.0))) in
        let is_in : slice_get all slot ≡ Some bucket = is.1 in cc

    by : (i : ℕ) → from ≤ i → i < slot → ((i ≡ at) × (bucket ≡ bucket)) ⊎ ((i ≢ at) × (slice_get all i ≡ Some bucket)) → ⊥
    by i since less (inl here) = absurd (omega (arith, since, before, here.0))
    by i since less (inr else) = is.2 i since less else.1
