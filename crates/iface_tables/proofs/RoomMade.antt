-- What room that is made leaves, and that it is there.
use Rattle.std.proofs.Common.{◌≡◌, ◌≢◌, ◌⊎◌, inl, inr, ℕ, zero, suc, ◌+◌, ◌<◌, ◌≤◌, Bool, true, false, cond, List, [], ◌∷◌, length, get_or, Option, None, Some, refl, sym, ap, subst, ◌∙◌, arith}
use Rattle.std.specs.Prelude.{◌&&◌, ◌||◌, ◌/◌, ◌==◌, not, max, nat_le, int_lt, filter, position, find, slice_get, slice_set, is_some}
use Rattle.std.specs.List.{IsFirstBest}
use Rattle.std.proofs.lemmas.Bool.Decides.{nat_tests}
use Rattle.std.proofs.lemmas.List.{length-set, get_or-set_same, get_or_default}
use Rattle.std.proofs.lemmas.List.Folds.{find_past}
use Rattle.std.proofs.lemmas.List.MinMax.{IsFirstBest-from_best_of}
use Rattle.std.proofs.lemmas.Option.{slice_get-get_or}
use Rattle.iface_tables.specs.Best.{at_index, index_of_first_best}
use Rattle.iface_tables.specs.Reassembly.{AssemblerValue, initial, freed, is_free, is_key, is_of, or_else, assembler_index_for}
use Rattle.iface_tables.specs.Assemblers.{changed, changed_at, assembler_of, IsTest}
use Rattle.iface_tables.specs.Room.{any_slot, given_up_for, goes_before, has_share, held_by, oldest, place_given_up, share_of, with_room_for}
use Rattle.iface_tables.proofs.Apart.{position-None}
use Rattle.iface_tables.proofs.BestOf.{index_of_first_best-is}
use Rattle.iface_tables.proofs.Oldest.{in_order}

-- THE OLDEST

none_pass : {X : Type 0} (p : X → Bool) (xs : List X) → ((k : ℕ) (d : X) → k < length xs → p (get_or xs k d) ≡ false) → length (filter p xs) ≡ 0
none_pass p [] fails = refl
none_pass p (x ∷ xs) fails = rw (fails 0 x (omega arith)) (none_pass p xs (λ k d within. fails (suc k) d (omega arith)))

module _ {K : Type 0} (test : AssemblerValue K → Bool) where
  -- where the oldest stands, among at least one
  pub oldest_is : (assemblers : List (AssemblerValue K)) → 0 < length assemblers → IsFirstBest (goes_before test) assemblers (length assemblers) (oldest test assemblers)
  oldest_is [] some = absurd (omega (arith, some))
  oldest_is (s ∷ assemblers) some =
      let best = IsFirstBest-from_best_of (in_order test) s assemblers in
      subst (λ (n : ℕ). IsFirstBest (goes_before test) (s ∷ assemblers) (length (s ∷ assemblers)) n)
      (sym (index_of_first_best-is (goes_before test) (s ∷ assemblers) best.0 best.1)) best.1

  pub oldest_inside : (assemblers : List (AssemblerValue K)) → 0 < length assemblers → oldest test assemblers < length assemblers
  oldest_inside assemblers some = (oldest_is assemblers some).0

  beaten_by : (a b : Bool) (c : Bool) → b ≡ false → (a && (not b || c)) ≡ false → a ≡ false
  beaten_by true true c last none = absurd cc
  beaten_by true false c last none = absurd cc
  beaten_by false b c last none = refl

  -- it passes the test, where some do
  pub oldest_passes : (assemblers : List (AssemblerValue K)) (d : AssemblerValue K) → 0 < length (filter test assemblers) → 0 < length assemblers →
      test (get_or assemblers (oldest test assemblers) d) ≡ true
  oldest_passes assemblers d some slots = by (test (get_or assemblers (oldest test assemblers) d)) refl where
    by : (b : Bool) → test (get_or assemblers (oldest test assemblers) d) ≡ b → test (get_or assemblers (oldest test assemblers) d) ≡ true
    by true is = is
    by false is =
        let none : length (filter test assemblers) ≡ 0 =
        none_pass test assemblers (λ k e within.
        ap test (get_or_default assemblers k e d within)
        ∙ beaten_by (test (get_or assemblers k d)) (test (get_or assemblers (oldest test assemblers) d))
        (int_lt (get_or assemblers k d).expires (get_or assemblers (oldest test assemblers) d).expires) is
        ((oldest_is assemblers slots).1 k d within)) in
        absurd (omega (arith, none, some))

-- A SLOT THAT IS FREED

module _ {K : Type 0} where
  abbrev d : AssemblerValue K
  d = initial 0

  pub freed_at-is : (assemblers : List (AssemblerValue K)) (at : ℕ) → at < length assemblers →
      changed_at freed (Some at) assemblers ≡ slice_set assemblers at (freed (get_or assemblers at d))
  freed_at-is assemblers at within = ap (λ o. changed freed (Some at) o assemblers) (slice_get-get_or assemblers at d within)

  -- then there is one
  pub free_then : (assemblers : List (AssemblerValue K)) (at : ℕ) → at < length assemblers → is_some (position is_free (changed_at freed (Some at) assemblers)) ≡ true
  free_then assemblers at within =
      ap (λ (ss : List (AssemblerValue K)). is_some (position is_free ss)) (freed_at-is assemblers at within)
      ∙ by (position is_free (slice_set assemblers at (freed (get_or assemblers at d)))) refl where
        by : (o : Option ℕ) → position is_free (slice_set assemblers at (freed (get_or assemblers at d))) ≡ o →
            is_some (position is_free (slice_set assemblers at (freed (get_or assemblers at d)))) ≡ true
        by (Some k) is = ap is_some is
        by None is =
            let inside : at < length (slice_set assemblers at (freed (get_or assemblers at d))) =
            omega (arith, length-set assemblers at (freed (get_or assemblers at d)), within) in
            let fails : is_free (get_or (slice_set assemblers at (freed (get_or assemblers at d))) at d) ≡ false =
            position-None is_free (slice_set assemblers at (freed (get_or assemblers at d))) at d is inside in
            let passes : is_free (get_or (slice_set assemblers at (freed (get_or assemblers at d))) at d) ≡ true =
            ap is_free (get_or-set_same assemblers at (freed (get_or assemblers at d)) d within) in
            let clash : true ≡ false = sym passes ∙ fails in
            absurd cc

module _ {K : Type 0} (same : K → K → Bool) (test : IsTest same) where
  -- what came of another datagram stays
  pub freed_other : (assemblers : List (AssemblerValue K)) (at : ℕ) (other : K) → at < length assemblers → is_of same other (get_or assemblers at d) ≡ false →
      assembler_of same (changed_at freed (Some at) assemblers) other ≡ assembler_of same assemblers other
  freed_other assemblers at other within not_its =
      ap (λ (ss : List (AssemblerValue K)). assembler_of same ss other) (freed_at-is assemblers at within)
      ∙ find_past (is_of same other) assemblers at (freed (get_or assemblers at d)) d not_its refl

  module _ (alike : K → K → Bool) where
    others_key : (o : Option K) (key other : K) → is_key alike o key ≡ true → alike other key ≡ false → is_key same o other ≡ false
    others_key None key other its not_alike = refl
    others_key (Some held) key other its not_alike = by (same held other) refl where
      by : (b : Bool) → same held other ≡ b → same held other ≡ false
      by false is = is
      by true is =
          let e : held ≡ other = (test held other).0 is in
          let clash : true ≡ false = sym its ∙ ap (λ (k : K). alike k key) e ∙ not_alike in
          absurd cc

    share_some : (assemblers : List (AssemblerValue K)) (key : K) → has_share alike key assemblers ≡ true → 0 < length (filter (is_of alike key) assemblers)
    share_some assemblers key has = grind (arith, nat_tests)

    slots_some : (assemblers : List (AssemblerValue K)) (key : K) → has_share alike key assemblers ≡ true → 0 < length assemblers
    slots_some [] key has = absurd (let none : false ≡ true = has in cc)
    slots_some (s ∷ assemblers) key has = omega arith

    -- where a source has its share, what came of datagrams from others stays
    shared_other : (assemblers : List (AssemblerValue K)) (key other : K) → has_share alike key assemblers ≡ true → alike other key ≡ false →
        assembler_of same (changed_at freed (given_up_for alike assemblers key) assemblers) other ≡ assembler_of same assemblers other
    shared_other assemblers key other has not_alike =
        let some : 0 < length assemblers = slots_some assemblers key has in
        let its : is_of alike key (get_or assemblers (oldest (is_of alike key) assemblers) d) ≡ true =
        oldest_passes (is_of alike key) assemblers d (share_some assemblers key has) some in
        ap (λ (b : Bool). assembler_of same (changed_at freed
        (cond b (Some (oldest (is_of alike key) assemblers)) (cond (is_some (position is_free assemblers)) None (Some (oldest any_slot assemblers)))) assemblers) other) has
        ∙ freed_other assemblers (oldest (is_of alike key) assemblers) other (oldest_inside (is_of alike key) assemblers some)
        (others_key (get_or assemblers (oldest (is_of alike key) assemblers) d).key key other its not_alike)

    pub room_other : (assemblers : List (AssemblerValue K)) (key other : K) → has_share alike key assemblers ≡ true → alike other key ≡ false →
        assembler_of same (with_room_for same alike assemblers key) other ≡ assembler_of same assemblers other
    room_other assemblers key other has not_alike = by (is_some (position (is_of same key) assemblers) || (length assemblers == 0)) where
      by : (b : Bool) → assembler_of same (changed_at freed (cond b None (given_up_for alike assemblers key)) assemblers) other ≡ assembler_of same assemblers other
      by true = refl
      by false = shared_other assemblers key other has not_alike

    -- THERE IS ROOM

    not_none : (n : ℕ) → 0 < n → (n == 0) ≡ false
    not_none n some = grind (arith, nat_tests)

    own_first : (o p : Option ℕ) → is_some o ≡ true → is_some (or_else o p) ≡ true
    own_first (Some k) p some = refl
    own_first None p some = absurd cc

    free_next : (o p : Option ℕ) → is_some p ≡ true → is_some (or_else o p) ≡ true
    free_next (Some k) p some = refl
    free_next None p some = some

    freed_by : (assemblers : List (AssemblerValue K)) (key : K) → 0 < length assemblers → (share free : Bool) → is_some (position is_free assemblers) ≡ free →
        is_some (position is_free (changed_at freed
        (cond share (Some (oldest (is_of alike key) assemblers)) (cond free None (Some (oldest any_slot assemblers)))) assemblers)) ≡ true
    freed_by assemblers key some true free is = free_then assemblers (oldest (is_of alike key) assemblers) (oldest_inside (is_of alike key) assemblers some)
    freed_by assemblers key some false true is = is
    freed_by assemblers key some false false is = free_then assemblers (oldest any_slot assemblers) (oldest_inside any_slot assemblers some)

    pub room_found : (assemblers : List (AssemblerValue K)) (key : K) → 0 < length assemblers →
        is_some (assembler_index_for same (with_room_for same alike assemblers key) key) ≡ true
    room_found assemblers key some = by (is_some (position (is_of same key) assemblers)) (length assemblers == 0) refl (not_none (length assemblers) some) where
      by : (own none : Bool) → is_some (position (is_of same key) assemblers) ≡ own → none ≡ false →
          is_some (assembler_index_for same (changed_at freed (cond (own || none) None (given_up_for alike assemblers key)) assemblers) key) ≡ true
      by true none own is = own_first (position (is_of same key) assemblers) (position is_free assemblers) own
      by false false own is =
          free_next (position (is_of same key) (changed_at freed (given_up_for alike assemblers key) assemblers))
          (position is_free (changed_at freed (given_up_for alike assemblers key) assemblers))
          (freed_by assemblers key some (has_share alike key assemblers) (is_some (position is_free assemblers)) refl)
      by false true own is = absurd cc
