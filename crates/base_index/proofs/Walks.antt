-- How far a walk along a bucket's links has come.
use Rattle.std.proofs.Common.{◌≡◌, ◌⊎◌, inl, inr, ℕ, zero, suc, ◌-◌, ◌++◌, ◌<◌, ◌≤◌, List, [], ◌∷◌, length, Option, Some, None, refl, sym, ap, ◌∙◌, subst, arith}
use Rattle.std.proofs.lemmas.Bool.{cases_lt, cases_eq}
use Rattle.std.proofs.lemmas.Option.{slice_get_read, slice_get_within}
use Rattle.std.specs.Prelude.{slice_get, slice_set, get_or}
use Rattle.base_index.specs.Keys.{IsNextWith}
use Rattle.base_index.specs.Links.{AreLinked, BeginsAt, IsLastBefore, IsIn, bucket_of, buckets, first_with, link_following, links_with}
use Rattle.base_index.proofs.Linking.{length_set}
use Rattle.base_index.proofs.Relinked.{pushed}

-- each slot has a bucket
pub length_buckets : (size : ℕ) (keys : List ℕ) → length (buckets size keys) ≡ length keys
length_buckets size [] = refl
length_buckets size (key ∷ keys) = ap suc (length_buckets size keys)

abbrev pub left_to_go : ℕ → Option ℕ → ℕ
left_to_go size None = 0
left_to_go size (Some slot) = size - slot

-- after this slot, or from the beginning on
abbrev pub following : Option ℕ → ℕ
following None = 0
following (Some slot) = suc slot

-- of the slots before this one, those up to the last one seen are passed, and the link leads on from there
abbrev pub IsSeen : List ℕ → ℕ → ℕ → Option ℕ → Type 0
IsSeen all bucket at None = Unit {0}
IsSeen all bucket at (Some last) = (last < at) × (slice_get all last ≡ Some bucket)

abbrev pub IsReached : List ℕ → ℕ → ℕ → Option ℕ → Option ℕ → Type 0
IsReached all bucket at last link = IsSeen all bucket at last × IsNextWith bucket (following last) all link

-- where the walk ends, the last one seen is the last one before
pub ends : (all : List ℕ) (bucket at : ℕ) (last link : Option ℕ) → IsReached all bucket at last link → ((slot : ℕ) → link ≡ Some slot → at ≤ slot)
    → IsLastBefore all bucket at last
ends all bucket at last None is end = by last is.0 is.1 where
  by : (last : Option ℕ) → IsSeen all bucket at last → IsNextWith bucket (following last) all None → IsLastBefore all bucket at last
  by None seen none = λ i less got. none i (omega arith) got
  by (Some p) seen none = (seen.0, seen.1, λ i less got. up_to i got (cases_lt p i)) where
    up_to : (i : ℕ) → slice_get all i ≡ Some bucket → (p < i) ⊎ (i ≤ p) → i ≤ p
    up_to i got (inl more) = absurd (none i more got)
    up_to i got (inr less) = less
ends all bucket at last (Some slot) is end = by last is.0 is.1 where
  further : at ≤ slot
  further = end slot refl

  by : (last : Option ℕ) → IsSeen all bucket at last → IsNextWith bucket (following last) all (Some slot) → IsLastBefore all bucket at last
  by None seen next = λ i less got. next.2 i (omega arith) (omega (arith, less, further)) got
  by (Some p) seen next = (seen.0, seen.1, λ i less got. up_to i less got (cases_lt p i)) where
    up_to : (i : ℕ) → i < at → slice_get all i ≡ Some bucket → (p < i) ⊎ (i ≤ p) → i ≤ p
    up_to i less got (inl more) = absurd (next.2 i more (omega (arith, less, further)) got)
    up_to i less got (inr few) = few

-- a step further
pub proceeds : (all : List ℕ) (first links : List (Option ℕ)) (bucket at slot : ℕ) (last next : Option ℕ) → AreLinked all first links
    → bucket < length first → IsReached all bucket at last (Some slot) → slot < at → slice_get links slot ≡ Some next
    → IsReached all bucket at (Some slot) next
proceeds all first links bucket at slot last next linked known is less leads =
    ((less, is.1.1), linked.proceed slot bucket next (omega arith) is.1.1 known leads)

-- a walk comes nearer to its end
pub nearer : (bucket slot size : ℕ) (all : List ℕ) (link next : Option ℕ) → size ≡ length all → slot < size → link ≡ Some slot
    → IsNextWith bucket (suc slot) all next → left_to_go size next < left_to_go size link
nearer bucket slot size all link next same less here is = subst (λ (o : Option ℕ). left_to_go size next < left_to_go size o) (sym here) (by next is) where
  by : (next : Option ℕ) → IsNextWith bucket (suc slot) all next → left_to_go size next < size - slot
  by None is = omega (arith, less)
  by (Some further) is = omega (arith, less, is.0, same, slice_get_within all further bucket is.1)

-- FOR A KEY

-- none of the slots from the beginning up to this one has the key, and this one is in the bucket; or none has it
abbrev pub IsSought : List ℕ → List ℕ → ℕ → ℕ → Option ℕ → Option ℕ → Type 0
IsSought keys all bucket key None link = link ≡ None
IsSought keys all bucket key (Some start) None = (i : ℕ) → start ≤ i → slice_get keys i ≡ Some key → ⊥
IsSought keys all bucket key (Some start) (Some at) =
    (start ≤ at) × IsIn all bucket at × ((i : ℕ) → start ≤ i → i < at → slice_get keys i ≡ Some key → ⊥)

pub sought_first : (keys all : List ℕ) (bucket key : ℕ) (begin : Option ℕ) → ((at : ℕ) → begin ≡ Some at → IsIn all bucket at)
    → IsSought keys all bucket key begin begin
sought_first keys all bucket key None is_in = refl
sought_first keys all bucket key (Some start) is_in = (omega arith, is_in start refl, λ i since less got. absurd (omega (arith, since, less)))

-- the bucket of a slot
pub in_bucket : (size key i : ℕ) (keys : List ℕ) → slice_get keys i ≡ Some key → slice_get (buckets size keys) i ≡ Some (bucket_of size key)
in_bucket size key i [] got = absurd (cc)
in_bucket size key zero (k ∷ keys) got = let same : k ≡ key = cc in ap (λ (n : ℕ). Some (bucket_of size n)) same
in_bucket size key (suc i) (k ∷ keys) got = in_bucket size key i keys got

-- the slot that it has come to is in the bucket
pub sought_in : (keys all : List ℕ) (bucket key at : ℕ) (begin : Option ℕ) → ((start : ℕ) → begin ≡ Some start → IsIn all bucket start)
    → IsSought keys all bucket key begin (Some at) → IsIn all bucket at
sought_in keys all bucket key at None is_in is = absurd (cc)
sought_in keys all bucket key at (Some start) is_in is = is.1

pub bucket_within : (size key : ℕ) → 0 < size → bucket_of size key < size
bucket_within size key some = grind (arith)

pub sought_on : (keys : List ℕ) (first links : List (Option ℕ)) (key at : ℕ) (begin next : Option ℕ)
    → AreLinked (buckets (length first) keys) first links → bucket_of (length first) key < length first
    → IsSought keys (buckets (length first) keys) (bucket_of (length first) key) key begin (Some at)
    → (slice_get keys at ≡ Some key → ⊥) → slice_get links at ≡ Some next
    → IsSought keys (buckets (length first) keys) (bucket_of (length first) key) key begin next
sought_on keys first links key at None next linked known is other leads = absurd (cc)
sought_on keys first links key at (Some start) None linked known is other leads = λ i since got. by i since got (cases_lt i at) (cases_eq i at) where
  next_is : IsNextWith (bucket_of (length first) key) (suc at) (buckets (length first) keys) None
  next_is = linked.proceed at (bucket_of (length first) key) None (omega arith) is.1 known leads

  by : (i : ℕ) → start ≤ i → slice_get keys i ≡ Some key → (i < at) ⊎ (at ≤ i) → (i ≡ at) ⊎ (i ≡ at → ⊥) → ⊥
  by i since got (inl before) any = is.2 i since before got
  by i since got (inr more) (inl same) = other (subst (λ (n : ℕ). slice_get keys n ≡ Some key) same got)
  by i since got (inr more) (inr apart) = next_is i (omega (arith, more, apart)) (in_bucket (length first) key i keys got)
sought_on keys first links key at (Some start) (Some further) linked known is other leads =
    (omega (arith, is.0, next_is.0), next_is.1, λ i since less got. by i since less got (cases_lt i at) (cases_eq i at)) where
      next_is : IsNextWith (bucket_of (length first) key) (suc at) (buckets (length first) keys) (Some further)
      next_is = linked.proceed at (bucket_of (length first) key) (Some further) (omega arith) is.1 known leads

      by : (i : ℕ) → start ≤ i → i < further → slice_get keys i ≡ Some key → (i < at) ⊎ (at ≤ i) → (i ≡ at) ⊎ (i ≡ at → ⊥) → ⊥
      by i since less got (inl before) any = is.2 i since before got
      by i since less got (inr more) (inl same) = other (subst (λ (n : ℕ). slice_get keys n ≡ Some key) same got)
      by i since less got (inr more) (inr apart) = next_is.2 i (omega (arith, more, apart)) less (in_bucket (length first) key i keys got)

-- where the walk ends without a slot
pub sought_none : (keys all : List ℕ) (bucket key : ℕ) (begin : Option ℕ) → IsSought keys all bucket key begin None → BeginsAt key keys begin None
sought_none keys all bucket key None is = refl
sought_none keys all bucket key (Some start) is = is

-- where it finds the key
pub sought_here : (keys all : List ℕ) (bucket key at : ℕ) (begin : Option ℕ) → IsSought keys all bucket key begin (Some at) → slice_get keys at ≡ Some key
    → BeginsAt key keys begin (Some at)
sought_here keys all bucket key at None is got = is
sought_here keys all bucket key at (Some start) is got = (is.0, got, is.2)

-- the first with a key from where a bucket leads on
pub with_key_from : (keys : List ℕ) (size key from : ℕ) (link found : Option ℕ) → IsNextWith (bucket_of size key) from (buckets size keys) link
    → BeginsAt key keys link found → IsNextWith key from keys found
with_key_from keys size key from None found is begins =
    subst (λ (o : Option ℕ). IsNextWith key from keys o) (sym begins) (λ i since got. is i since (in_bucket size key i keys got))
with_key_from keys size key from (Some start) None is begins = λ i since got. by i since got (cases_lt i start) where
  by : (i : ℕ) → from ≤ i → slice_get keys i ≡ Some key → (i < start) ⊎ (start ≤ i) → ⊥
  by i since got (inl before) = is.2 i since before (in_bucket size key i keys got)
  by i since got (inr more) = begins i more got
with_key_from keys size key from (Some start) (Some at) is begins =
    (omega (arith, is.0, begins.0), begins.1, λ i since less got. by i since less got (cases_lt i start)) where
      by : (i : ℕ) → from ≤ i → i < at → slice_get keys i ≡ Some key → (i < start) ⊎ (start ≤ i) → ⊥
      by i since less got (inl before) = is.2 i since before (in_bucket size key i keys got)
      by i since less got (inr more) = begins.2 i more less got

-- OF KEYS

-- a key more
pub pushed_key : (keys : List ℕ) (first links : List (Option ℕ)) (bucket : ℕ) (last link : Option ℕ) → AreLinked (buckets (length first) keys) first links
    → bucket < length first → IsLastBefore (buckets (length first) keys) bucket (length keys) last → link_following bucket last first links ≡ Some link
    → AreLinked (buckets (length first) keys ++ bucket ∷ []) (first_with bucket last (Some (length keys)) first)
    (links_with last (Some (length keys)) (links ++ link ∷ []))
pushed_key keys first links bucket last link linked known is_last is =
    subst (λ (n : ℕ). AreLinked (buckets (length first) keys ++ bucket ∷ []) (first_with bucket last (Some n) first)
    (links_with last (Some n) (links ++ link ∷ []))) (length_buckets (length first) keys)
    (pushed (buckets (length first) keys) first links bucket last link linked known
    (subst (λ (n : ℕ). IsLastBefore (buckets (length first) keys) bucket n last) (sym (length_buckets (length first) keys)) is_last) is)

pub buckets_more : (size key : ℕ) (keys : List ℕ) → buckets size (keys ++ key ∷ []) ≡ buckets size keys ++ bucket_of size key ∷ []
buckets_more size key [] = refl
buckets_more size key (k ∷ keys) = ap (λ (bs : List ℕ). bucket_of size k ∷ bs) (buckets_more size key keys)

-- another key
pub buckets_set : (size at key : ℕ) (keys : List ℕ) → buckets size (slice_set keys at key) ≡ slice_set (buckets size keys) at (bucket_of size key)
buckets_set size at key [] = refl
buckets_set size zero key (k ∷ keys) = refl
buckets_set size (suc at) key (k ∷ keys) = ap (λ (bs : List ℕ). bucket_of size k ∷ bs) (buckets_set size at key keys)

set_same : {X : Type 0} (xs : List X) (at : ℕ) (x : X) → slice_get xs at ≡ Some x → slice_set xs at x ≡ xs
set_same [] at x got = refl
set_same (y ∷ xs) zero x got = let same : x ≡ y = cc in ap (λ (z : _). z ∷ xs) same
set_same (y ∷ xs) (suc at) x got = ap (λ (ys : List _). y ∷ ys) (set_same xs at x got)

-- one of the same bucket
pub buckets_stay : (size at old key : ℕ) (keys : List ℕ) → slice_get keys at ≡ Some old → bucket_of size old ≡ bucket_of size key
    → buckets size (slice_set keys at key) ≡ buckets size keys
buckets_stay size at old key keys got same =
    buckets_set size at key keys ∙ set_same (buckets size keys) at (bucket_of size key) (in_bucket size old at keys got ∙ ap Some same)

-- the first place with a key, from where its bucket begins or leads on
pub starts_in : (size key from : ℕ) (keys : List ℕ) (link : Option ℕ) → IsNextWith (bucket_of size key) from (buckets size keys) link
    → (at : ℕ) → link ≡ Some at → IsIn (buckets size keys) (bucket_of size key) at
starts_in size key from keys None is at same = absurd (cc)
starts_in size key from keys (Some slot) is at same = let here : slot ≡ at = cc in
    subst (λ (n : ℕ). slice_get (buckets size keys) n ≡ Some (bucket_of size key)) here is.1

-- where the bucket of a key begins
pub begin_of : (keys : List ℕ) (first links : List (Option ℕ)) (key bucket : ℕ) (link : Option ℕ) → AreLinked (buckets (length first) keys) first links
    → bucket ≡ bucket_of (length first) key → bucket < length first → link ≡ get_or first bucket link
    → IsNextWith (bucket_of (length first) key) 0 (buckets (length first) keys) link
begin_of keys first links key bucket link linked same within is = linked.begin (bucket_of (length first) key) link
    (subst (λ (n : ℕ). slice_get first n ≡ Some link) same (slice_get_read first (length first) bucket link refl within is))

-- where a slot leads on
pub led_from : (keys : List ℕ) (first links : List (Option ℕ)) (key at : ℕ) (link : Option ℕ) → AreLinked (buckets (length first) keys) first links
    → slice_get keys at ≡ Some key → 0 < length first → link ≡ get_or links at link
    → IsNextWith (bucket_of (length first) key) (suc at) (buckets (length first) keys) link
led_from keys first links key at link linked got some is = linked.proceed at (bucket_of (length first) key) link (omega arith)
    (in_bucket (length first) key at keys got) (bucket_within (length first) key some)
    (slice_get_read links (length links) at link refl
    (omega (arith, linked.each, length_buckets (length first) keys, slice_get_within keys at key got)) is)

-- the keys of slots that are linked
abbrev pub IsIndex : List ℕ → List (Option ℕ) → List (Option ℕ) → Type 0
IsIndex keys first links = AreLinked (buckets (length first) keys) first links × ((at : ℕ) → at < length keys → 0 < length first)

-- with another key of a slot, in another bucket
pub rekeyed : (keys : List ℕ) (first links first' links' : List (Option ℕ)) (at key : ℕ) → IsIndex keys first links → length first' ≡ length first
    → AreLinked (slice_set (buckets (length first) keys) at (bucket_of (length first) key)) first' links' → IsIndex (slice_set keys at key) first' links'
rekeyed keys first links first' links' at key is size linked = (
  subst (λ (n : ℕ). AreLinked (buckets n (slice_set keys at key)) first' links') (sym size)
      (subst (λ (bs : List ℕ). AreLinked bs first' links') (sym (buckets_set (length first) at key keys)) linked),
  λ i within. subst (λ (n : ℕ). 0 < n) (sym size) (is.1 i (subst (λ (n : ℕ). i < n) (length_set keys at key) within)),
)

-- and in the same one
pub kept : (keys : List ℕ) (first links : List (Option ℕ)) (at old key : ℕ) → IsIndex keys first links → slice_get keys at ≡ Some old
    → bucket_of (length first) old ≡ bucket_of (length first) key → IsIndex (slice_set keys at key) first links
kept keys first links at old key is got same = (
  subst (λ (bs : List ℕ). AreLinked bs first links) (sym (buckets_stay (length first) at old key keys got same)) is.0,
  λ i within. is.1 i (subst (λ (n : ℕ). i < n) (length_set keys at key) within),
)
