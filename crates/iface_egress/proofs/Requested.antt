-- A request begins a silence of a second for its address.
use Rattle.std.proofs.Common.{◌≡◌, ℕ, ◌+◌, Bool, true, false, if◌then◌else◌, cond, ℤ, pos, ◌+ℤ◌, List, [], ◌∷◌, ◌++◌, length, Option, Some, None, refl, sym, ap, ◌∙◌, subst}
use Rattle.std.specs.Prelude.{nat_lt, find, position, remove}
use Rattle.ip_wire.specs.IpAddress.{IpAddress}
use Rattle.iface_tables.specs.Best.{at_index}
use Rattle.iface_tables.specs.Inner.{InnerValue, silence_of, with_request}
use Rattle.iface_tables.specs.Neighbor.{CacheValue, answer_of, first_search, is_search_for, last_request, oldest_search, one_more, own_silence, requested, searched_at, silent_time}
use Rattle.iface_tables.specs.declared.neighbor.Search.{Search}
use Rattle.iface_tables.proofs.PathMtu as Paths
use Rattle.iface_tables.proofs.PathMtu.{at_first, find_last, itself, none_found, none_removed}

find_passes : {X : Type 0} (test : X → Bool) (xs : List X) (x : X) → find test xs ≡ Some x → test x ≡ true
find_passes {X} test [] x is = absurd (let never : (let none : Option X = None in none) ≡ Some x = is in cc)
find_passes {X} test (y ∷ ys) x is = by (test y) refl is (λ rest. find_passes test ys x rest) where
  by : (b : Bool) → test y ≡ b → cond b (Some y) (find test ys) ≡ Some x → (find test ys ≡ Some x → test x ≡ true) → test x ≡ true
  by true passes this later = subst (λ (z : X). test z ≡ true) (let same : Some y ≡ Some x = this in let at : y ≡ x = cc in at) passes
  by false fails this later = later this

abbrev no_search : Option Search
no_search = None

module _ (c : CacheValue) (hop : IpAddress) (instant : ℤ) where
  abbrev asked : CacheValue
  asked = requested c hop instant

  abbrev ours : Search → Bool
  ours = is_search_for hop

  record Searched (xs : List Search) : Type 0 where
    new : Search
    found : find ours xs ≡ Some new
    when : new.answer_by ≡ instant +ℤ pos silent_time

  added : find ours c.searches ≡ None
      → Searched (if nat_lt (length c.searches) c.search_room then c.searches ++ first_search hop instant ∷ []
      else remove c.searches (oldest_search c.searches) ++ first_search hop instant ∷ [])
  added none = by (nat_lt (length c.searches) c.search_room) where
    by : (b : Bool) → Searched (if b then c.searches ++ first_search hop instant ∷ [] else remove c.searches (oldest_search c.searches) ++ first_search hop instant ∷ [])
    by true = record { new = first_search hop instant; found = find_last ours c.searches (first_search hop instant) none (itself hop); when = refl }
    by false = record {
      new = first_search hop instant;
      found = find_last ours (remove c.searches (oldest_search c.searches)) (first_search hop instant)
          (none_removed ours c.searches (oldest_search c.searches) none) (itself hop);
      when = refl;
    }

  searched : (o : Option ℕ) (s : Option Search) → position ours c.searches ≡ o → at_index o c.searches ≡ s →
      Searched (searched_at c.search_room o s c.searches hop instant)
  searched (Some at) (Some s) is there = record {
    new = one_more s instant;
    found = Paths.is_found ours c.searches at (one_more s instant) is
        (find_passes ours c.searches s (sym (at_first ours c.searches) ∙ ap (λ (o : Option ℕ). at_index o c.searches) is ∙ there));
    when = refl;
  }
  searched (Some at) None is there = added (sym (at_first ours c.searches) ∙ ap (λ (o : Option ℕ). at_index o c.searches) is ∙ there)
  searched None None is there = added (none_found ours c.searches is)
  searched None (Some s) is there = absurd (let never : no_search ≡ Some s = there in cc)

  ours_then : Searched asked.searches
  ours_then = searched (position ours c.searches) (at_index (position ours c.searches) c.searches) refl refl

  -- the request counts
  counted : last_request asked hop ≡ Some (instant +ℤ pos silent_time)
  counted =
      ap answer_of (at_first ours asked.searches ∙ ours_then.found) ∙ ap (λ (m : ℤ). Some m) ours_then.when

-- with a silence for each address
pub silent_after_request : (i : InnerValue) (hop : IpAddress) → i.host_requirements ≡ true →
    silence_of (with_request i hop) hop ≡ i.instant +ℤ pos silent_time
silent_after_request i hop own =
    let c = requested i.neighbors hop i.instant in
    ap (λ (b : Bool). if b then own_silence (last_request c hop) c else c.silent) own
    ∙ ap (λ (o : Option ℤ). own_silence o c) (counted i.neighbors hop i.instant)
