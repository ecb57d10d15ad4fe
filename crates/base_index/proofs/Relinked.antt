-- Linked slots, where one changes its bucket.
use Rattle.std.proofs.Common.{◌≡◌, ◌≢◌, ◌⊎◌, inl, inr, ℕ, zero, suc, ◌<◌, ◌≤◌, List, [], ◌∷◌, ◌++◌, length, Option, Some, None, refl, sym, ap, ◌∙◌, subst, arith}
use Rattle.std.proofs.lemmas.Bool.{cases_lt, cases_eq}
use Rattle.std.specs.Prelude.{slice_get, slice_set}
use Rattle.std.proofs.lemmas.Option.{slice_get_within}
use Rattle.base_index.specs.Keys.{IsNextWith}
use Rattle.base_index.specs.Links.{AreLinked, AreLinkedFrom, IsLastBefore, first_with, link_following, links_with}
use Rattle.base_index.proofs.Linking.{set_here, set_elsewhere, length_set, of_set, stays_next, skips, later, sooner, arrives, stays_before, stays_following}

length_first_with : (bucket : ℕ) (slot link : Option ℕ) (first : List (Option ℕ)) → length (first_with bucket slot link first) ≡ length first
length_first_with bucket None link first = length_set first bucket link
length_first_with bucket (Some slot) link first = refl

length_links_with : (slot link : Option ℕ) (links : List (Option ℕ)) → length (links_with slot link links) ≡ length links
length_links_with None link links = refl
length_links_with (Some slot) link links = length_set links slot link

module _ (all : List ℕ) where
  same_bucket : (i j bucket other : ℕ) → slice_get all i ≡ Some bucket → slice_get all j ≡ Some other → i ≡ j → bucket ≡ other
  same_bucket i j bucket other one two same = cc

  -- the next place of a bucket isn't this one, which is in another
  off_other : (at bucket other from : ℕ) (link : Option ℕ) → slice_get all at ≡ Some other → bucket ≢ other → IsNextWith bucket from all link → link ≢ Some at
  off_other at bucket other from None is_in apart is same = absurd (cc)
  off_other at bucket other from (Some slot) is_in apart is same = apart (same_bucket slot at bucket other is.1 is_in (cc))

  -- nor this one, where another one lies before it
  off_past : (at bucket from p : ℕ) (link : Option ℕ) → from ≤ p → p < at → slice_get all p ≡ Some bucket → IsNextWith bucket from all link → link ≢ Some at
  off_past at bucket from p None since less is_in is same = absurd (cc)
  off_past at bucket from p (Some slot) since less is_in is same = let here : slot ≡ at = cc in is.2 p since (omega (arith, here, less)) is_in

  -- nor one that lies before
  off_following : (at bucket from : ℕ) (link : Option ℕ) → at < from → IsNextWith bucket from all link → link ≢ Some at
  off_following at bucket from None less is same = absurd (cc)
  off_following at bucket from (Some slot) less is same = let here : slot ≡ at = cc in absurd (omega (arith, here, less, is.0))

-- A PLACE LEAVES ITS BUCKET

module _ (all : List ℕ) (first links : List (Option ℕ)) (linked : AreLinked all first links) (at old : ℕ) (next : Option ℕ)
    (is_in : slice_get all at ≡ Some old) (known : old < length first) (leads : slice_get links at ≡ Some next) where
  following : IsNextWith old (suc at) all next
  following = linked.proceed at old next (omega arith) is_in known leads

  -- a link that doesn't lead to it stays right
  others : (bucket from : ℕ) (link : Option ℕ) → bucket < length first → link ≢ Some at → IsNextWith bucket from all link
      → IsNextWith bucket from (slice_set all at (length first)) link
  others bucket from link in_range away is = stays_next all bucket at (length first) (λ same. absurd (omega (arith, same, in_range))) from link away is

  -- a link that led to it leads to the next one
  led_here : (from : ℕ) → from ≤ at → ((i : ℕ) → from ≤ i → i < at → slice_get all i ≡ Some old → ⊥)
      → IsNextWith old from (slice_set all at (length first)) next
  led_here from since none =
      skips all old at (length first) (λ same. absurd (omega (arith, same, known))) from next (since, is_in, none) following

  begin_none : IsLastBefore all old at None → (bucket : ℕ) (link : Option ℕ) → slice_get (slice_set first old next) bucket ≡ Some link
      → IsNextWith bucket 0 (slice_set all at (length first)) link
  begin_none last bucket link got = by (of_set first old bucket next link got) where
    by : ((bucket ≡ old) × (next ≡ link)) ⊎ ((bucket ≢ old) × (slice_get first bucket ≡ Some link)) → IsNextWith bucket 0 (slice_set all at (length first)) link
    by (inl here) = subst (λ (b : ℕ). IsNextWith b 0 (slice_set all at (length first)) link) (sym here.0)
        (subst (λ (o : Option ℕ). IsNextWith old 0 (slice_set all at (length first)) o) here.1 (led_here 0 (omega arith) (λ i since less. last i less)))
    by (inr else) = others bucket 0 link (slice_get_within first bucket link else.1)
        (off_other all at bucket old 0 link is_in else.0 (linked.begin bucket link else.1)) (linked.begin bucket link else.1)

  begin_some : (p : ℕ) → IsLastBefore all old at (Some p) → (bucket : ℕ) (link : Option ℕ) → slice_get first bucket ≡ Some link
      → IsNextWith bucket 0 (slice_set all at (length first)) link
  begin_some p last bucket link got = by (cases_eq bucket old) where
    is : IsNextWith bucket 0 all link
    is = linked.begin bucket link got

    by : (bucket ≡ old) ⊎ (bucket ≡ old → ⊥) → IsNextWith bucket 0 (slice_set all at (length first)) link
    by (inl same) = others bucket 0 link (slice_get_within first bucket link got)
        (off_past all at bucket 0 p link (omega arith) last.0 (last.1 ∙ ap Some (sym same)) is) is
    by (inr apart) = others bucket 0 link (slice_get_within first bucket link got) (off_other all at bucket old 0 link is_in apart is) is

  proceed_none : IsLastBefore all old at None → (i bucket : ℕ) (link : Option ℕ) → i ≢ at → slice_get all i ≡ Some bucket → bucket < length first
      → slice_get links i ≡ Some link → IsNextWith bucket (suc i) (slice_set all at (length first)) link
  proceed_none last i bucket link away got in_range got_link = others bucket (suc i) link in_range (by (cases_eq bucket old) (cases_lt i at)) is where
    is : IsNextWith bucket (suc i) all link
    is = linked.proceed i bucket link (omega arith) got in_range got_link

    by : (bucket ≡ old) ⊎ (bucket ≡ old → ⊥) → (i < at) ⊎ (at ≤ i) → link ≢ Some at
    by (inr apart) any = off_other all at bucket old (suc i) link is_in apart is
    by (inl same) (inl less) = absurd (last i less (got ∙ ap Some same))
    by (inl same) (inr more) = off_following all at bucket (suc i) link (omega (arith, more)) is

  proceed_some : (p : ℕ) → IsLastBefore all old at (Some p) → (i bucket : ℕ) (link : Option ℕ) → i ≢ at → slice_get all i ≡ Some bucket
      → bucket < length first → slice_get (slice_set links p next) i ≡ Some link → IsNextWith bucket (suc i) (slice_set all at (length first)) link
  proceed_some p last i bucket link away got in_range got_link = by (of_set links p i next link got_link) where
    else : i ≢ p → slice_get links i ≡ Some link → IsNextWith bucket (suc i) (slice_set all at (length first)) link
    else apart got_link = others bucket (suc i) link in_range (choose (cases_eq bucket old) (cases_lt i at)) is where
      is : IsNextWith bucket (suc i) all link
      is = linked.proceed i bucket link (omega arith) got in_range got_link

      choose : (bucket ≡ old) ⊎ (bucket ≡ old → ⊥) → (i < at) ⊎ (at ≤ i) → link ≢ Some at
      choose (inr differ) any = off_other all at bucket old (suc i) link is_in differ is
      choose (inl same) (inl less) = let up_to : i ≤ p = last.2 i less (got ∙ ap Some same) in
          off_past all at bucket (suc i) p link (omega (arith, up_to, apart)) last.0 (last.1 ∙ ap Some (sym same)) is
      choose (inl same) (inr more) = off_following all at bucket (suc i) link (omega (arith, more)) is

    by : ((i ≡ p) × (next ≡ link)) ⊎ ((i ≢ p) × (slice_get links i ≡ Some link)) → IsNextWith bucket (suc i) (slice_set all at (length first)) link
    by (inr apart) = else apart.0 apart.1
    by (inl here) = let same : bucket ≡ old = same_bucket all i p bucket old got last.1 here.0 in
        subst (λ (b : ℕ). IsNextWith b (suc i) (slice_set all at (length first)) link) (sym same)
        (subst (λ (o : Option ℕ). IsNextWith old (suc i) (slice_set all at (length first)) o) here.1
        (led_here (suc i) (omega (arith, here.0, last.0)) (λ j since less got_j. let up_to : j ≤ p = last.2 j less got_j in absurd (omega (arith, up_to, since, here.0)))))

  -- where a slot leaves its bucket for none
  pub left_out : (left : Option ℕ) → IsLastBefore all old at left
      → AreLinked (slice_set all at (length first)) (first_with old left next first) (links_with left next links)
  left_out left last = record {
    each = length_links_with left next links ∙ (linked.each ∙ sym (length_set all at (length first)));
    begin = begin left last;
    proceed = λ i bucket link since got in_range. proceed left last i bucket link (of_set all at i (length first) bucket got)
        (subst (λ (n : ℕ). bucket < n) (length_first_with old left next first) in_range);
  } where
    begin : (left : Option ℕ) → IsLastBefore all old at left → (bucket : ℕ) (link : Option ℕ) → slice_get (first_with old left next first) bucket ≡ Some link
        → IsNextWith bucket 0 (slice_set all at (length first)) link
    begin None last = begin_none last
    begin (Some p) last = begin_some p last

    proceed : (left : Option ℕ) → IsLastBefore all old at left → (i bucket : ℕ) (link : Option ℕ)
        → ((i ≡ at) × (length first ≡ bucket)) ⊎ ((i ≢ at) × (slice_get all i ≡ Some bucket)) → bucket < length first
        → slice_get (links_with left next links) i ≡ Some link → IsNextWith bucket (suc i) (slice_set all at (length first)) link
    proceed left last i bucket link (inl here) in_range = absurd (omega (arith, here.1, in_range))
    proceed None last i bucket link (inr else) in_range = proceed_none last i bucket link else.0 else.1 in_range
    proceed (Some p) last i bucket link (inr else) in_range = proceed_some p last i bucket link else.0 else.1 in_range

-- A PLACE ENTERS A BUCKET

module _ (all : List ℕ) (first links : List (Option ℕ)) (linked : AreLinked all first links) (at to : ℕ)
    (outside : slice_get all at ≡ Some (length first)) (known : to < length first) where
  within : at < length all
  within = slice_get_within all at (length first) outside

  not_in : slice_get all at ≡ Some to → ⊥
  not_in got = let same : to ≡ length first = same_bucket all at at to (length first) got outside refl in absurd (omega (arith, same, known))

  -- the other buckets
  in_others : (bucket from : ℕ) (link : Option ℕ) → bucket < length first → bucket ≢ to → IsNextWith bucket from all link
      → IsNextWith bucket from (slice_set all at to) link
  in_others bucket from link in_range apart is =
      stays_next all bucket at to (λ same. apart (sym same)) from link
      (off_other all at bucket (length first) from link outside (λ same. absurd (omega (arith, same, in_range))) is) is

  -- a link of this bucket that leads to no later slot than one before
  stays_up_to : (p from : ℕ) (link : Option ℕ) → from ≤ p → p < at → slice_get all p ≡ Some to → IsNextWith to from all link
      → IsNextWith to from (slice_set all at to) link
  stays_up_to p from None since less is_in is = absurd (is p since is_in)
  stays_up_to p from (Some slot) since less is_in is = stays_before all to at from slot (by (cases_lt p slot)) is where
    by : (p < slot) ⊎ (slot ≤ p) → slot < at
    by (inl earlier) = absurd (is.2 p since earlier is_in)
    by (inr later) = omega (arith, later, less)

  moved_to : (bucket from : ℕ) (link : Option ℕ) → bucket ≡ to → IsNextWith to from (slice_set all at to) link
      → IsNextWith bucket from (slice_set all at to) link
  moved_to bucket from link same is = subst (λ (b : ℕ). IsNextWith b from (slice_set all at to) link) (sym same) is

  enter_begin : (right : Option ℕ) → IsLastBefore all to at right → (bucket : ℕ) (link : Option ℕ)
      → slice_get (first_with to right (Some at) first) bucket ≡ Some link → IsNextWith bucket 0 (slice_set all at to) link
  enter_begin None last bucket link got = by (of_set first to bucket (Some at) link got) where
    by : ((bucket ≡ to) × (Some at ≡ link)) ⊎ ((bucket ≢ to) × (slice_get first bucket ≡ Some link)) → IsNextWith bucket 0 (slice_set all at to) link
    by (inl here) = moved_to bucket 0 link here.0
        (subst (λ (o : Option ℕ). IsNextWith to 0 (slice_set all at to) o) here.1 (arrives all to at 0 within (omega arith) (λ i since less. last i less)))
    by (inr else) = in_others bucket 0 link (slice_get_within first bucket link else.1) else.0 (linked.begin bucket link else.1)
  enter_begin (Some p) last bucket link got = by (cases_eq bucket to) where
    by : (bucket ≡ to) ⊎ (bucket ≡ to → ⊥) → IsNextWith bucket 0 (slice_set all at to) link
    by (inl same) = moved_to bucket 0 link same (stays_up_to p 0 link (omega arith) last.0 last.1
        (subst (λ (b : ℕ). IsNextWith b 0 all link) same (linked.begin bucket link got)))
    by (inr apart) = in_others bucket 0 link (slice_get_within first bucket link got) apart (linked.begin bucket link got)

  -- the slot that it leads to
  enter_following : (right following : Option ℕ) → IsLastBefore all to at right → link_following to right first links ≡ Some following
      → IsNextWith to (suc at) (slice_set all at to) following
  enter_following None following last is = stays_following all to at (suc at) following (omega arith)
      (later all to 0 (suc at) following (omega arith) (λ i since less got. by i less got (cases_eq i at)) (linked.begin to following is)) where
        by : (i : ℕ) → i < suc at → slice_get all i ≡ Some to → (i ≡ at) ⊎ (i ≡ at → ⊥) → ⊥
        by i less got (inl same) = not_in (subst (λ (n : ℕ). slice_get all n ≡ Some to) same got)
        by i less got (inr apart) = last i (omega (arith, less, apart)) got
  enter_following (Some p) following last is = stays_following all to at (suc at) following (omega arith)
      (later all to (suc p) (suc at) following (omega (arith, last.0)) (λ i since less got. by i since less got (cases_eq i at))
      (linked.proceed p to following (omega arith) last.1 known is)) where
        by : (i : ℕ) → suc p ≤ i → i < suc at → slice_get all i ≡ Some to → (i ≡ at) ⊎ (i ≡ at → ⊥) → ⊥
        by i since less got (inl same) = not_in (subst (λ (n : ℕ). slice_get all n ≡ Some to) same got)
        by i since less got (inr apart) = let up_to : i ≤ p = last.2 i (omega (arith, less, apart)) got in absurd (omega (arith, since, up_to))

  module _ (i bucket : ℕ) (link : Option ℕ) (away : i ≢ at) (got : slice_get all i ≡ Some bucket) (in_range : bucket < length first) where
    of_link : slice_get links i ≡ Some link → IsNextWith bucket (suc i) all link
    of_link got_link = linked.proceed i bucket link (omega arith) got in_range got_link

    enter_none : IsLastBefore all to at None → slice_get links i ≡ Some link → IsNextWith bucket (suc i) (slice_set all at to) link
    enter_none last got_link = by (cases_eq bucket to) (cases_lt i at) where
      by : (bucket ≡ to) ⊎ (bucket ≡ to → ⊥) → (i < at) ⊎ (at ≤ i) → IsNextWith bucket (suc i) (slice_set all at to) link
      by (inr apart) any = in_others bucket (suc i) link in_range apart (of_link got_link)
      by (inl same) (inl less) = absurd (last i less (got ∙ ap Some same))
      by (inl same) (inr more) = moved_to bucket (suc i) link same (stays_following all to at (suc i) link (omega (arith, more))
          (subst (λ (b : ℕ). IsNextWith b (suc i) all link) same (of_link got_link)))

    enter_some : (p : ℕ) → IsLastBefore all to at (Some p) → ((i ≡ p) × (Some at ≡ link)) ⊎ ((i ≢ p) × (slice_get links i ≡ Some link))
        → IsNextWith bucket (suc i) (slice_set all at to) link
    enter_some p last (inl here) = let same : bucket ≡ to = same_bucket all i p bucket to got last.1 here.0 in
        moved_to bucket (suc i) link same (subst (λ (o : Option ℕ). IsNextWith to (suc i) (slice_set all at to) o) here.1
        (arrives all to at (suc i) within (omega (arith, here.0, last.0))
        (λ j since less got_j. let up_to : j ≤ p = last.2 j less got_j in absurd (omega (arith, up_to, since, here.0)))))
    enter_some p last (inr else) = by (cases_eq bucket to) (cases_lt i at) where
      by : (bucket ≡ to) ⊎ (bucket ≡ to → ⊥) → (i < at) ⊎ (at ≤ i) → IsNextWith bucket (suc i) (slice_set all at to) link
      by (inr apart) any = in_others bucket (suc i) link in_range apart (of_link else.1)
      by (inl same) (inl less) = let up_to : i ≤ p = last.2 i less (got ∙ ap Some same) in
          let apart : i ≢ p = else.0 in
          moved_to bucket (suc i) link same (stays_up_to p (suc i) link (omega (arith, up_to, apart)) last.0 last.1
          (subst (λ (b : ℕ). IsNextWith b (suc i) all link) same (of_link else.1)))
      by (inl same) (inr more) = moved_to bucket (suc i) link same (stays_following all to at (suc i) link (omega (arith, more))
          (subst (λ (b : ℕ). IsNextWith b (suc i) all link) same (of_link else.1)))

  -- the links, where the slot leads after, and is led to
  links_in : (right following : Option ℕ) → IsLastBefore all to at right → (i : ℕ) (link : Option ℕ)
      → slice_get (links_with right (Some at) (slice_set links at following)) i ≡ Some link
      → ((i ≡ at) × (following ≡ link)) ⊎ ((i ≢ at) × (slice_get (links_with right (Some at) links) i ≡ Some link))
  links_in None following last i link got = of_set links at i following link got
  links_in (Some p) following last i link got = by (of_set (slice_set links at following) p i (Some at) link got) where
    Wanted : Type 0
    Wanted = ((i ≡ at) × (following ≡ link)) ⊎ ((i ≢ at) × (slice_get (slice_set links p (Some at)) i ≡ Some link))

    elsewhere : i ≢ p → ((i ≡ at) × (following ≡ link)) ⊎ ((i ≢ at) × (slice_get links i ≡ Some link)) → Wanted
    elsewhere apart (inl here) = inl here
    elsewhere apart (inr else) = inr (else.0, (set_elsewhere links p i (Some at) apart ∙ else.1))

    by : ((i ≡ p) × (Some at ≡ link)) ⊎ ((i ≢ p) × (slice_get (slice_set links at following) i ≡ Some link)) → Wanted
    by (inl here) = let in_links : p < length links = omega (arith, linked.each, slice_get_within all p to last.1) in
        inr (
          (λ same. absurd (omega (arith, same, here.0, last.0))),
          (ap (slice_get (slice_set links p (Some at))) here.0 ∙ (set_here links p (Some at) in_links ∙ ap Some here.1)),
        )
    by (inr else) = elsewhere else.0 (of_set links at i following link else.1)

  -- where a slot that is in no bucket enters this one
  pub put_in : (right following : Option ℕ) → IsLastBefore all to at right → link_following to right first links ≡ Some following
      → AreLinked (slice_set all at to) (first_with to right (Some at) first) (links_with right (Some at) (slice_set links at following))
  put_in right following last is = record {
    each = length_links_with right (Some at) (slice_set links at following) ∙ (length_set links at following ∙ (linked.each ∙ sym (length_set all at to)));
    begin = enter_begin right last;
    proceed = λ i bucket link since got in_range got_link. here_or_there right last is i bucket link (of_set all at i to bucket got)
        (subst (λ (n : ℕ). bucket < n) (length_first_with to right (Some at) first) in_range) (links_in right following last i link got_link);
  } where
    here_or_there : (right : Option ℕ) → IsLastBefore all to at right → link_following to right first links ≡ Some following → (i bucket : ℕ) (link : Option ℕ)
        → ((i ≡ at) × (to ≡ bucket)) ⊎ ((i ≢ at) × (slice_get all i ≡ Some bucket)) → bucket < length first
        → ((i ≡ at) × (following ≡ link)) ⊎ ((i ≢ at) × (slice_get (links_with right (Some at) links) i ≡ Some link))
        → IsNextWith bucket (suc i) (slice_set all at to) link
    here_or_there right last is i bucket link (inl here) in_range (inl led) =
        moved_to bucket (suc i) link (sym here.1) (subst (λ (n : ℕ). IsNextWith to (suc n) (slice_set all at to) link) (sym here.0)
        (subst (λ (o : Option ℕ). IsNextWith to (suc at) (slice_set all at to) o) led.1 (enter_following right following last is)))
    here_or_there right last is i bucket link (inl here) in_range (inr led) = absurd (led.0 here.0)
    here_or_there right last is i bucket link (inr there) in_range (inl led) = absurd (there.0 led.0)
    here_or_there None last is i bucket link (inr there) in_range (inr led) = enter_none i bucket link there.0 there.1 in_range last led.1
    here_or_there (Some p) last is i bucket link (inr there) in_range (inr led) =
        enter_some i bucket link there.0 there.1 in_range p last (of_set links p i (Some at) link led.1)

-- FROM ONE BUCKET INTO ANOTHER

set_again : {X : Type 0} (xs : List X) (at : ℕ) (x y : X) → slice_set (slice_set xs at x) at y ≡ slice_set xs at y
set_again [] at x y = refl
set_again (z ∷ xs) zero x y = refl
set_again (z ∷ xs) (suc at) x y = ap (λ (zs : List _). z ∷ zs) (set_again xs at x y)

-- what lies before a slot is as it was where that changes
before_set : (all : List ℕ) (bucket at x : ℕ) (last : Option ℕ) → IsLastBefore all bucket at last → IsLastBefore (slice_set all at x) bucket at last
before_set all bucket at x None is =
    λ i less got. is i less (sym (set_elsewhere all at i x (λ same. absurd (omega (arith, same, less)))) ∙ got)
before_set all bucket at x (Some p) is = (
  is.0,
  set_elsewhere all at p x (λ same. absurd (omega (arith, same, is.0))) ∙ is.1,
  λ i less got. is.2 i less (sym (set_elsewhere all at i x (λ same. absurd (omega (arith, same, less)))) ∙ got),
)

following_apart : (all : List ℕ) (first links : List (Option ℕ)) (at from to : ℕ) (left right next following : Option ℕ) → from ≢ to
    → IsLastBefore all from at left → IsLastBefore all to at right → link_following to right first links ≡ Some following
    → link_following to right (first_with from left next first) (links_with left next links) ≡ Some following
following_apart all first links at from to None None next beyond apart last_left last_right is =
    set_elsewhere first from to next (λ same. apart (sym same)) ∙ is
following_apart all first links at from to (Some q) None next beyond apart last_left last_right is = is
following_apart all first links at from to None (Some p) next beyond apart last_left last_right is = is
following_apart all first links at from to (Some q) (Some p) next beyond apart last_left last_right is =
    set_elsewhere links q p next (λ same. apart (same_bucket all q p from to last_left.1 last_right.1 (sym same))) ∙ is

-- where a slot goes from one bucket into another
pub changed : (all : List ℕ) (first links : List (Option ℕ)) (at from to : ℕ) (left right next following : Option ℕ) → AreLinked all first links
    → slice_get all at ≡ Some from → from ≢ to → from < length first → to < length first → IsLastBefore all from at left → IsLastBefore all to at right
    → slice_get links at ≡ Some next → link_following to right first links ≡ Some following
    → AreLinked (slice_set all at to) (first_with to right (Some at) (first_with from left next first))
    (links_with right (Some at) (slice_set (links_with left next links) at following))
changed all first links at from to left right next following linked is_in apart known_from known_to last_left last_right leads is =
    subst (λ (xs : List ℕ). AreLinked xs (first_with to right (Some at) (first_with from left next first))
    (links_with right (Some at) (slice_set (links_with left next links) at following))) (set_again all at (length first) to)
    (put_in (slice_set all at (length first)) (first_with from left next first) (links_with left next links)
    (left_out all first links linked at from next is_in known_from leads left last_left) at to
    (set_here all at (length first) (slice_get_within all at from is_in) ∙ ap Some (sym same_size)) (subst (λ (n : ℕ). to < n) (sym same_size) known_to)
    right following (before_set all to at (length first) right last_right)
    (following_apart all first links at from to left right next following apart last_left last_right is)) where
      same_size : length (first_with from left next first) ≡ length first
      same_size = length_first_with from left next first

-- ONE MORE

of_more : {X : Type 0} (xs : List X) (x y : X) (i : ℕ) → slice_get (xs ++ x ∷ []) i ≡ Some y → ((i ≡ length xs) × (x ≡ y)) ⊎ (slice_get xs i ≡ Some y)
of_more [] x y zero got = inl (refl, cc)
of_more [] x y (suc i) got = absurd (cc)
of_more (z ∷ xs) x y zero got = inr got
of_more (z ∷ xs) x y (suc i) got = by (of_more xs x y i got) where
  by : ((i ≡ length xs) × (x ≡ y)) ⊎ (slice_get xs i ≡ Some y) → ((suc i ≡ suc (length xs)) × (x ≡ y)) ⊎ (slice_get xs i ≡ Some y)
  by (inl last) = inl (ap suc last.0, last.1)
  by (inr before) = inr before

more_before : {X : Type 0} (xs : List X) (x y : X) (i : ℕ) → slice_get xs i ≡ Some y → slice_get (xs ++ x ∷ []) i ≡ Some y
more_before [] x y i got = absurd (cc)
more_before (z ∷ xs) x y zero got = got
more_before (z ∷ xs) x y (suc i) got = more_before xs x y i got

last_of_more : {X : Type 0} (xs : List X) (x : X) → slice_get (xs ++ x ∷ []) (length xs) ≡ Some x
last_of_more [] x = refl
last_of_more (z ∷ xs) x = last_of_more xs x

set_last : {X : Type 0} (xs : List X) (x y : X) → slice_set (xs ++ x ∷ []) (length xs) y ≡ xs ++ y ∷ []
set_last [] x y = refl
set_last (z ∷ xs) x y = ap (λ (zs : List _). z ∷ zs) (set_last xs x y)

length_more : {X : Type 0} (xs : List X) (x : X) → length (xs ++ x ∷ []) ≡ suc (length xs)
length_more [] x = refl
length_more (z ∷ xs) x = ap suc (length_more xs x)

-- a slot more in no bucket changes no link
next_of_more : (all : List ℕ) (bucket none from : ℕ) (next : Option ℕ) → none ≢ bucket → IsNextWith bucket from all next
    → IsNextWith bucket from (all ++ none ∷ []) next
next_of_more all bucket none from None differs is = λ i since got. by i since (of_more all none bucket i got) where
  by : (i : ℕ) → from ≤ i → ((i ≡ length all) × (none ≡ bucket)) ⊎ (slice_get all i ≡ Some bucket) → ⊥
  by i since (inl last) = differs last.1
  by i since (inr before) = is i since before
next_of_more all bucket none from (Some slot) differs is =
    (is.0, more_before all none bucket slot is.1, λ i since less got. by i since less (of_more all none bucket i got)) where
      by : (i : ℕ) → from ≤ i → i < slot → ((i ≡ length all) × (none ≡ bucket)) ⊎ (slice_get all i ≡ Some bucket) → ⊥
      by i since less (inl last) = differs last.1
      by i since less (inr before) = is.2 i since less before

one_in_none : (all : List ℕ) (first links : List (Option ℕ)) (link : Option ℕ) → AreLinked all first links
    → AreLinked (all ++ length first ∷ []) first (links ++ link ∷ [])
one_in_none all first links link linked = record {
  each = length_more links link ∙ (ap suc linked.each ∙ sym (length_more all (length first)));
  begin = λ bucket next got. next_of_more all bucket (length first) 0 next (λ same. absurd (omega (arith, same, slice_get_within first bucket next got)))
      (linked.begin bucket next got);
  proceed = λ i bucket next since got in_range got_link. by i bucket next in_range (of_more all (length first) bucket i got) (of_more links link next i got_link);
} where
  by : (i bucket : ℕ) (next : Option ℕ) → bucket < length first → ((i ≡ length all) × (length first ≡ bucket)) ⊎ (slice_get all i ≡ Some bucket)
      → ((i ≡ length links) × (link ≡ next)) ⊎ (slice_get links i ≡ Some next) → IsNextWith bucket (suc i) (all ++ length first ∷ []) next
  by i bucket next in_range (inl last) any = absurd (omega (arith, last.1, in_range))
  by i bucket next in_range (inr before) (inl last) = absurd (omega (arith, last.0, linked.each, slice_get_within all i bucket before))
  by i bucket next in_range (inr before) (inr link_before) = next_of_more all bucket (length first) (suc i) next
      (λ same. absurd (omega (arith, same, in_range))) (linked.proceed i bucket next (omega arith) before in_range link_before)

before_more : (all : List ℕ) (bucket x : ℕ) (last : Option ℕ) → x ≢ bucket → IsLastBefore all bucket (length all) last
    → IsLastBefore (all ++ x ∷ []) bucket (length all) last
before_more all bucket x None differs is = λ i less got. by i less (of_more all x bucket i got) where
  by : (i : ℕ) → i < length all → ((i ≡ length all) × (x ≡ bucket)) ⊎ (slice_get all i ≡ Some bucket) → ⊥
  by i less (inl last) = differs last.1
  by i less (inr before) = is i less before
before_more all bucket x (Some p) differs is = (is.0, more_before all x bucket p is.1, λ i less got. by i less (of_more all x bucket i got)) where
  by : (i : ℕ) → i < length all → ((i ≡ length all) × (x ≡ bucket)) ⊎ (slice_get all i ≡ Some bucket) → i ≤ p
  by i less (inl last) = absurd (differs last.1)
  by i less (inr before) = is.2 i less before

following_more : (bucket : ℕ) (slot link : Option ℕ) (first links : List (Option ℕ)) → link_following bucket slot first links ≡ Some link
    → link_following bucket slot first (links ++ link ∷ []) ≡ Some link
following_more bucket None link first links is = is
following_more bucket (Some p) link first links is = more_before links link link p is

-- where a slot is added to a bucket, after all others
pub pushed : (all : List ℕ) (first links : List (Option ℕ)) (bucket : ℕ) (last link : Option ℕ) → AreLinked all first links → bucket < length first
    → IsLastBefore all bucket (length all) last → link_following bucket last first links ≡ Some link
    → AreLinked (all ++ bucket ∷ []) (first_with bucket last (Some (length all)) first) (links_with last (Some (length all)) (links ++ link ∷ []))
pushed all first links bucket last link linked known is_last is =
    subst (λ (xs : List ℕ). AreLinked xs (first_with bucket last (Some (length all)) first) (links_with last (Some (length all)) (links ++ link ∷ [])))
    (set_last all (length first) bucket)
    (subst (λ (ls : List (Option ℕ)). AreLinked (slice_set (all ++ length first ∷ []) (length all) bucket)
    (first_with bucket last (Some (length all)) first) (links_with last (Some (length all)) ls)) same_links
    (put_in (all ++ length first ∷ []) first (links ++ link ∷ []) (one_in_none all first links link linked) (length all) bucket
    (last_of_more all (length first)) known last link
    (before_more all bucket (length first) last (λ same. absurd (omega (arith, same, known))) is_last)
    (following_more bucket last link first links is))) where
      same_links : slice_set (links ++ link ∷ []) (length all) link ≡ links ++ link ∷ []
      same_links = ap (λ (n : ℕ). slice_set (links ++ link ∷ []) n link) (sym linked.each) ∙ set_last links link link

-- ALL ANEW

-- where no bucket leads to any slot, those after all slots are linked
pub none_linked : (all : List ℕ) (first links : List (Option ℕ)) → length links ≡ length all
    → ((bucket : ℕ) (link : Option ℕ) → slice_get first bucket ≡ Some link → link ≡ None) → AreLinkedFrom (length all) all first links
none_linked all first links each none = record {
  each = each;
  begin = λ bucket link got. subst (λ (o : Option ℕ). IsNextWith bucket (length all) all o) (sym (none bucket link got))
      (λ i since is. absurd (omega (arith, since, slice_get_within all i bucket is)));
  proceed = λ i bucket link since got in_range got_link. absurd (omega (arith, since, slice_get_within all i bucket got));
}

-- the slots from one earlier on, where that leads to where its bucket began, and its bucket begins with it
pub one_before : (at : ℕ) (all : List ℕ) (first links : List (Option ℕ)) (bucket : ℕ) (link : Option ℕ) → AreLinkedFrom (suc at) all first links
    → slice_get all at ≡ Some bucket → slice_get first bucket ≡ Some link
    → AreLinkedFrom at all (slice_set first bucket (Some at)) (slice_set links at link)
one_before at all first links bucket link linked is_in begins = record {
  each = length_set links at link ∙ linked.each;
  begin = λ b next got. begin b next (of_set first bucket b (Some at) next got);
  proceed = λ i b next since got in_range got_link. proceed i b next since got (subst (λ (n : ℕ). b < n) (length_set first bucket (Some at)) in_range)
      (of_set links at i link next got_link);
} where
  begin : (b : ℕ) (next : Option ℕ) → ((b ≡ bucket) × (Some at ≡ next)) ⊎ ((b ≢ bucket) × (slice_get first b ≡ Some next)) → IsNextWith b at all next
  begin b next (inl here) = subst (λ (o : Option ℕ). IsNextWith b at all o) here.1
      (omega arith, (is_in ∙ ap Some (sym here.0)), λ i since less got. absurd (omega (arith, since, less)))
  begin b next (inr else) = sooner all b at next
      (λ got. else.0 (same_bucket all at at b bucket got is_in refl)) (linked.begin b next else.1)

  proceed : (i b : ℕ) (next : Option ℕ) → at ≤ i → slice_get all i ≡ Some b → b < length first
      → ((i ≡ at) × (link ≡ next)) ⊎ ((i ≢ at) × (slice_get links i ≡ Some next)) → IsNextWith b (suc i) all next
  proceed i b next since got in_range (inl here) =
      subst (λ (n : ℕ). IsNextWith b (suc n) all next) (sym here.0) (subst (λ (c : ℕ). IsNextWith c (suc at) all next)
      (same_bucket all at i bucket b is_in got (sym here.0)) (subst (λ (o : Option ℕ). IsNextWith bucket (suc at) all o) here.1 (linked.begin bucket link begins)))
  proceed i b next since got in_range (inr else) = let apart : i ≢ at = else.0 in
      linked.proceed i b next (omega (arith, since, apart)) got in_range else.1
