-- Slots of which each is another datagram's are a map from keys.
use Rattle.std.proofs.Common.{◌≡◌, ◌≢◌, ℕ, suc, ℤ, ◌+◌, ◌<◌, ◌≤◌, Bool, true, false, cond, List, [], ◌∷◌, length, get_or, Option, None, Some, refl, inl, inr}
use Rattle.std.proofs.Common.{sym, ap, subst, ◌∙◌, arith}
use Rattle.std.specs.Prelude.{nat_lt, is_none, map, slice_get, slice_set, position, find}
use Rattle.std.specs.List.{AllPairs, position_or_len}
use Rattle.std.proofs.lemmas.Bool.{cases_lt, cases_eq}
use Rattle.std.proofs.lemmas.Bool.Decides.{nat_tests}
use Rattle.std.proofs.lemmas.List.{length-set, length-map, get_or-map, get_or_default, get_or-set_same, get_or-set_other}
use Rattle.std.proofs.lemmas.List.Folds.{find_at, find_past}
use Rattle.std.proofs.lemmas.List.Quantifiers.{position-Some}
use Rattle.std.proofs.lemmas.List.Sums.{fails_before_first, position_or_len_is}
use Rattle.std.proofs.lemmas.Option.{slice_get-get_or}
use Rattle.iface_tables.specs.Best.{at_index}
use Rattle.iface_tables.specs.Reassembly.{AssemblerValue, initial, freed, taken, placed, with_fragment, with_end, with_total, takes_end, takes_fragment, takes_total}
use Rattle.iface_tables.specs.Reassembly.{overwritten, marked, is_free, is_key, is_of, or_else, assembler_index_for}
use Rattle.iface_tables.specs.Assemblers.{changed, changed_at, opened, with_fragment_of, without_datagram, is_expired, unless_expired, without_expired}
use Rattle.iface_tables.specs.Assemblers.{assembler_of, AreOthers, AreApart, IsTest, map_some}

-- SEARCHES

module _ {X : Type 0} (p : X → Bool) where
  none-by : (pol len : ℕ) → cond (nat_lt pol len) (Some pol) None ≡ None → len ≤ pol
  none-by pol len none = grind (arith, nat_tests)

  pub position-None : (xs : List X) (k : ℕ) (d : X) → position p xs ≡ None → k < length xs → p (get_or xs k d) ≡ false
  position-None xs k d none within =
      let past : length xs ≤ position_or_len p xs = none-by (position_or_len p xs) (length xs) none in
      fails_before_first p xs k d (omega arith)

  -- a write of an element that passes, where none before it does
  pub find_written : (xs : List X) (i : ℕ) (y d : X) → i < length xs → ((k : ℕ) → k < i → p (get_or xs k d) ≡ false) → p y ≡ true →
      find p (slice_set xs i y) ≡ Some y
  find_written xs i y d within before passes =
      let long : i < length (slice_set xs i y) = rw length-set within in
      let at : position_or_len p (slice_set xs i y) ≡ i =
      position_or_len_is p (slice_set xs i y) i d (omega arith) (λ k lower. let ne : k ≢ i =
      omega arith in rw (get_or-set_other xs i k y d ne) (before k lower)) (λ _. rw (get_or-set_same xs i y d within) passes) in
      find_at p (slice_set xs i y) ∙ ap (slice_get (slice_set xs i y)) at ∙ slice_get-get_or (slice_set xs i y) i d long ∙
      ap Some (get_or-set_same xs i y d within)

  pub find_none : (xs : List X) → ((k : ℕ) (d : X) → k < length xs → p (get_or xs k d) ≡ false) → find p xs ≡ None
  find_none [] fails = refl
  find_none (x ∷ xs) fails = rw (fails 0 x (omega arith)) (find_none xs (λ k d within. fails (suc k) d (omega arith)))

-- KEYS

module _ {K : Type 0} where
  with_total-key : (s : AssemblerValue K) (size : ℕ) → (with_total s size).key ≡ s.key
  with_total-key s size = elim (takes_total s size) as (λ b. (cond b (record s { total = Some size }) s).key ≡ s.key) [ true ↦ refl | false ↦ refl ]

  with_end-key : (s : AssemblerValue K) (fragment : List ℕ) (offset : ℕ) (more : Bool) → (with_end s fragment offset more).key ≡ s.key
  with_end-key s fragment offset true = refl
  with_end-key s fragment offset false = with_total-key s (offset + length fragment)

  with_fragment-key : (holes : ℕ) (s : AssemblerValue K) (fragment : List ℕ) (offset : ℕ) → (with_fragment holes s fragment offset).key ≡ s.key
  with_fragment-key holes s fragment offset =
      elim (takes_fragment s fragment offset) as
      (λ b. (cond b (record s { bytes = overwritten s.bytes offset fragment; runs = marked holes s.runs offset (length fragment) }) s).key ≡
      s.key) [ true ↦ refl | false ↦ refl ]

  pub placed-key : (holes : ℕ) (s : AssemblerValue K) (fragment : List ℕ) (offset : ℕ) (more : Bool) → (placed holes s fragment offset more).key ≡ s.key
  placed-key holes s fragment offset more =
      elim (takes_end s fragment offset more) as (λ b. (cond b (with_fragment holes (with_end s fragment offset more) fragment offset) s).key ≡ s.key) [
        | true ↦ with_fragment-key holes (with_end s fragment offset more) fragment offset ∙ with_end-key s fragment offset more
        | false ↦ refl
      ]

  free-key : (s : AssemblerValue K) → is_free s ≡ true → s.key ≡ None
  free-key s free = elim s.key as (λ o. is_none o ≡ true → o ≡ None) [ None ↦ λ _. refl | Some k ↦ λ h. absurd cc ] free

  unless_expired-key : (instant : ℤ) (s : AssemblerValue K) (key : K) → (unless_expired instant s).key ≡ Some key → s.key ≡ Some key
  unless_expired-key instant s key =
      elim (is_expired instant s) as (λ b. (cond b (freed s) s).key ≡ Some key → s.key ≡ Some key) [ true ↦ λ h. absurd cc | false ↦ λ h. h ]

module _ {K : Type 0} (same : K → K → Bool) (test : IsTest same) where
  is_key-true : (o : Option K) (key : K) → is_key same o key ≡ true → o ≡ Some key
  is_key-true None key h = absurd cc
  is_key-true (Some held) key h = ap Some ((test held key).0 h)

  is_key-of : (o : Option K) (key : K) → o ≡ Some key → is_key same o key ≡ true
  is_key-of o key e = rw e ((test key key).1 refl)

  -- a slot that is one datagram's isn't another's
  is_key-other : (o : Option K) (key other : K) → o ≡ Some key → (key ≡ other → ⊥) → is_key same o other ≡ false
  is_key-other o key other e ne =
      elim (is_key same o other) as (λ b. is_key same o other ≡ b → b ≡ false) [
        | true ↦ λ h. let same_key : Some key ≡ Some other = sym e ∙ is_key-true o other h in absurd (ne cc)
        | false ↦ λ h. refl
      ] refl

  pub opened-key : (key : K) (expires : ℤ) (s : AssemblerValue K) → (opened same key expires s).key ≡ Some key
  opened-key key expires s =
      elim (is_of same key s) as (λ b. is_of same key s ≡ b → (cond b s (taken key expires s)).key ≡ Some key) [
        | true ↦ λ h. is_key-true s.key key h
        | false ↦ λ h. refl
      ] refl

-- THE PLACE OF A KEY

both : {K : Type 0} (assemblers : List (AssemblerValue K)) (at : ℕ) (d : AssemblerValue K) → AreApart assemblers → (k : ℕ) (key : K) → k ≢ at → at < length assemblers →
    k < length assemblers → (get_or assemblers at d).key ≡ Some key → (get_or assemblers k d).key ≡ Some key → ⊥
both assemblers at d apart k key ne within_at within_k here there =
    elim (cases_lt k at) [ inl lower ↦ apart k at d lower within_at key there here | inr higher ↦ apart at k d (omega arith) within_k key here there ]

module _ {K : Type 0} (same : K → K → Bool) (test : IsTest same) (assemblers : List (AssemblerValue K)) (key : K) (at : ℕ) (d : AssemblerValue K) where
  -- the place is in range, no slot before it is the datagram's, and its own slot is the datagram's or free
  pub record IsIndex : Type 0 where
    pub within : at < length assemblers
    pub before : (k : ℕ) → k < at → is_of same key (get_or assemblers k d) ≡ false
    pub others : AreApart assemblers → (k : ℕ) → k ≢ at → k < length assemblers → is_of same key (get_or assemblers k d) ≡ false
    pub local : (other : K) → (key ≡ other → ⊥) → is_of same other (get_or assemblers at d) ≡ false

  is_index-local : position (is_of same key) assemblers ≡ Some at → IsIndex
  is_index-local found =
      let at_local = position-Some (is_of same key) assemblers at d found in
      let here : (get_or assemblers at d).key ≡ Some key = is_key-true same test (get_or assemblers at d).key key at_local.1 in
      record {
        within = at_local.0;
        before = at_local.2;
        others = λ apart k ne within. elim (is_of same key (get_or assemblers k d)) as (λ b. is_of same key (get_or assemblers k d) ≡ b → b ≡ false) [
          | true ↦ λ h. let there : (get_or assemblers k d).key ≡ Some key = is_key-true same test (get_or assemblers k d).key key h in
              absurd (both assemblers at d apart k key ne at_local.0 within here there)
          | false ↦ λ h. refl
        ] refl;
        local = λ other ne. is_key-other same test (get_or assemblers at d).key key other here ne;
      }

  is_index-free : position (is_of same key) assemblers ≡ None → position is_free assemblers ≡ Some at → IsIndex
  is_index-free none found =
      let at_free = position-Some is_free assemblers at d found in
      record {
        within = at_free.0;
        before = λ k lower. position-None (is_of same key) assemblers k d none (omega (arith, at_free.0));
        others = λ apart k ne within. position-None (is_of same key) assemblers k d none within;
        local = λ other ne. rw (free-key (get_or assemblers at d) at_free.1) refl;
      }

  pub is_index : assembler_index_for same assemblers key ≡ Some at → IsIndex
  is_index found =
      elim (position (is_of same key) assemblers) as (λ p. position (is_of same key) assemblers ≡ p → or_else p (position is_free assemblers) ≡ Some at → IsIndex) [
        | None ↦ λ e f. is_index-free e f
        | Some i ↦ λ e f. is_index-local (e ∙ f)
      ] refl found

-- A CHANGE OF THE SLOT OF A KEY

module _ {K : Type 0} (same : K → K → Bool) (test : IsTest same) (assemblers : List (AssemblerValue K)) (key : K) (f : AssemblerValue K →
    AssemblerValue K) (keyed : (s : AssemblerValue K) → (f s).key ≡ Some key) where
  changed_at-is : (at : ℕ) (d : AssemblerValue K) → at < length assemblers → changed_at f (Some at) assemblers ≡ slice_set assemblers at (f (get_or assemblers at d))
  changed_at-is at d within = ap (λ o. changed f (Some at) o assemblers) (slice_get-get_or assemblers at d within)

  local-at : (at : ℕ) (d : AssemblerValue K) → assembler_index_for same assemblers key ≡ Some at → assembler_of same (changed_at f (Some at) assemblers) key ≡ map_some f (slice_get assemblers at)
  local-at at d found =
      let index : IsIndex same test assemblers key at d = is_index same test assemblers key at d found in
      let local : is_of same key (f (get_or assemblers at d)) ≡ true = is_key-of same test (f (get_or assemblers at d)).key key (keyed (get_or assemblers at d)) in
      ap (λ ss. assembler_of same ss key) (changed_at-is at d index.within)
      ∙ find_written (is_of same key) assemblers at (f (get_or assemblers at d)) d index.within index.before local
      ∙ sym (ap (map_some f) (slice_get-get_or assemblers at d index.within))

  other-at : (at : ℕ) (d : AssemblerValue K) (other : K) → (key ≡ other → ⊥) → assembler_index_for same assemblers key ≡ Some at →
      assembler_of same (changed_at f (Some at) assemblers) other ≡ assembler_of same assemblers other
  other-at at d other ne found =
      let index : IsIndex same test assemblers key at d = is_index same test assemblers key at d found in
      ap (λ ss. assembler_of same ss other) (changed_at-is at d index.within)
      ∙ find_past (is_of same other) assemblers at (f (get_or assemblers at d)) d (index.local other ne)
      (is_key-other same test (f (get_or assemblers at d)).key key other (keyed (get_or assemblers at d)) ne)

  none_local : assembler_index_for same assemblers key ≡ None → position (is_of same key) assemblers ≡ None
  none_local none = elim (position (is_of same key) assemblers) as (λ p. or_else p (position is_free assemblers) ≡ None →
      p ≡ None) [ None ↦ λ e. refl | Some i ↦ λ e. absurd cc ] none

  -- what came of the datagram is changed so
  pub local_changed : (d : AssemblerValue K) →
      assembler_of same (changed_at f (assembler_index_for same assemblers key) assemblers) key ≡ map_some f (at_index (assembler_index_for same assemblers key) assemblers)
  local_changed d = elim (assembler_index_for same assemblers key) as (λ p. assembler_index_for same assemblers key ≡ p →
      assembler_of same (changed_at f p assemblers) key ≡ map_some f (at_index p assemblers)) [
        | None ↦ λ e. find_none (is_of same key) assemblers (λ k d' within. position-None (is_of same key) assemblers k d' (none_local e) within)
        | Some at ↦ λ e. local-at at d e
      ] refl

  -- and of no other
  pub other_changed : (d : AssemblerValue K) (other : K) → (key ≡ other → ⊥) →
      assembler_of same (changed_at f (assembler_index_for same assemblers key) assemblers) other ≡ assembler_of same assemblers other
  other_changed d other ne =
      elim (assembler_index_for same assemblers key) as (λ p. assembler_index_for same assemblers key ≡ p → assembler_of same (changed_at f p assemblers) other ≡ assembler_of same assemblers other) [
        | None ↦ λ e. refl
        | Some at ↦ λ e. other-at at d other ne e
      ] refl

  -- THE SLOTS STAY APART

  no_other : (at : ℕ) (d e : AssemblerValue K) → assembler_index_for same assemblers key ≡ Some at → AreApart assemblers → (j : ℕ) (k : K) → j ≢ at → j < length assemblers →
      (get_or assemblers j e).key ≡ Some k → k ≡ key → ⊥
  no_other at d e found apart j k ne within holds is =
      let index : IsIndex same test assemblers key at d = is_index same test assemblers key at d found in
      let yes : is_of same key (get_or assemblers j e) ≡ true = is_key-of same test (get_or assemblers j e).key key (holds ∙ ap Some is) in
      let no : is_of same key (get_or assemblers j d) ≡ false = index.others apart j ne within in
      let one : get_or assemblers j e ≡ get_or assemblers j d = get_or_default assemblers j e d within in
      let both_truths : true ≡ false = sym yes ∙ ap (is_of same key) one ∙ no in
      absurd cc

  written-key : (at : ℕ) (d e : AssemblerValue K) → at < length assemblers → (k : K) → (get_or (slice_set assemblers at (f (get_or assemblers at d))) at e).key ≡ Some k → k ≡ key
  written-key at d e within k holds =
      let same_key : Some k ≡ Some key = sym holds ∙ ap (λ s. s.key) (get_or-set_same assemblers at (f (get_or assemblers at d)) e within) ∙ keyed (get_or assemblers at d) in
      cc

  apart-at : (at : ℕ) (d : AssemblerValue K) → assembler_index_for same assemblers key ≡ Some at → AreApart assemblers → AreApart (slice_set assemblers at (f (get_or assemblers at d)))
  apart-at at d found apart i j e lower within k first second =
      let index : IsIndex same test assemblers key at d = is_index same test assemblers key at d found in
      let inside : j < length assemblers = omega (arith, length-set assemblers at (f (get_or assemblers at d)), within) in
      elim (cases_eq i at) [
        | inl i_at ↦
            let j_other : j ≢ at = λ j_at. omega arith in
            let there : (get_or assemblers j e).key ≡ Some k = ap (λ s. s.key) (sym (get_or-set_other assemblers at j (f (get_or assemblers at d)) e j_other)) ∙ second in
            no_other at d e found apart j k j_other inside there
            (written-key at d e index.within k (subst (λ n. (get_or (slice_set assemblers at (f (get_or assemblers at d))) n e).key ≡ Some k) i_at first))
        | inr i_other ↦
            let here : (get_or assemblers i e).key ≡ Some k = ap (λ s. s.key) (sym (get_or-set_other assemblers at i (f (get_or assemblers at d)) e i_other)) ∙ first in
            elim (cases_eq j at) [
              | inl j_at ↦ no_other at d e found apart i k i_other (omega arith) here
                  (written-key at d e index.within k (subst (λ n. (get_or (slice_set assemblers at (f (get_or assemblers at d))) n e).key ≡ Some k) j_at second))
              | inr j_other ↦ apart i j e lower inside k here (ap (λ s. s.key) (sym (get_or-set_other assemblers at j (f (get_or assemblers at d)) e j_other)) ∙ second)
            ]
      ]

  pub apart_changed : (d : AssemblerValue K) → AreApart assemblers → AreApart (changed_at f (assembler_index_for same assemblers key) assemblers)
  apart_changed d apart = elim (assembler_index_for same assemblers key) as (λ p. assembler_index_for same assemblers key ≡ p → AreApart (changed_at f p assemblers)) [
    | None ↦ λ e. apart
    | Some at ↦ λ e. subst AreApart (sym (changed_at-is at d (is_index same test assemblers key at d e).within)) (apart-at at d e apart)
  ] refl

-- OTHER CHANGES

module _ {K : Type 0} where
  expired-key : (instant : ℤ) (assemblers : List (AssemblerValue K)) (i : ℕ) (e : AssemblerValue K) (k : K) → i < length assemblers →
      (get_or (without_expired assemblers instant) i e).key ≡ Some k → (get_or assemblers i e).key ≡ Some k
  expired-key instant assemblers i e k within holds =
      unless_expired-key instant (get_or assemblers i e) k (ap (λ s. s.key) (sym (get_or-map (unless_expired instant) assemblers i e e within)) ∙ holds)

  pub apart_expired : (assemblers : List (AssemblerValue K)) (instant : ℤ) → AreApart assemblers → AreApart (without_expired assemblers instant)
  apart_expired assemblers instant apart i j e lower within k first second =
      let inside : j < length assemblers = omega (arith, length-map assemblers (unless_expired instant), within) in
      apart i j e lower inside k (expired-key instant assemblers i e k (omega arith) first) (expired-key instant assemblers j e k inside second)

  freed-key : (assemblers : List (AssemblerValue K)) (at : ℕ) (s : AssemblerValue K) (i : ℕ) (e : AssemblerValue K) (k : K) → i < length assemblers →
      (get_or (slice_set assemblers at (freed s)) i e).key ≡ Some k → (get_or assemblers i e).key ≡ Some k
  freed-key assemblers at s i e k within holds =
      elim (cases_eq i at) [
        | inl here ↦
            let inside : at < length assemblers = omega arith in
            let none : None ≡ Some k = sym (ap (λ t. t.key) (get_or-set_same assemblers at (freed s) e inside)) ∙
            subst (λ n. (get_or (slice_set assemblers at (freed s)) n e).key ≡ Some k) here holds in
            absurd cc
        | inr other ↦ ap (λ t. t.key) (sym (get_or-set_other assemblers at i (freed s) e other)) ∙ holds
      ]

  apart_set : (assemblers : List (AssemblerValue K)) (at : ℕ) (s : AssemblerValue K) → AreApart assemblers → AreApart (slice_set assemblers at (freed s))
  apart_set assemblers at s apart i j e lower within k first second =
      let inside : j < length assemblers = omega (arith, length-set assemblers at (freed s), within) in
      apart i j e lower inside k (freed-key assemblers at s i e k (omega arith) first) (freed-key assemblers at s j e k inside second)

  pub apart_freed : (assemblers : List (AssemblerValue K)) (at : ℕ) → AreApart assemblers → AreApart (changed_at freed (Some at) assemblers)
  apart_freed assemblers at apart =
      elim (slice_get assemblers at) as (λ o. AreApart (changed freed (Some at) o assemblers)) [ None ↦ apart | Some s ↦ apart_set assemblers at s apart ]

-- A PIECE

module _ {K : Type 0} (holes : ℕ) (same : K → K → Bool) (test : IsTest same) (assemblers : List (AssemblerValue K)) (key : K) (expires : ℤ) (fragment : List ℕ) (offset : ℕ)
    (more : Bool) where
  fragment-key : (s : AssemblerValue K) → (placed holes (opened same key expires s) fragment offset more).key ≡ Some key
  fragment-key s = placed-key holes (opened same key expires s) fragment offset more ∙ opened-key same test key expires s

  pub fragment_local : assembler_of same (with_fragment_of holes same assemblers key expires fragment offset more) key ≡
      map_some (λ s. placed holes (opened same key expires s) fragment offset more) (at_index (assembler_index_for same assemblers key) assemblers)
  fragment_local = local_changed same test assemblers key (λ s. placed holes (opened same key expires s) fragment offset more) fragment-key (initial 0)

  pub fragment_other : (other : K) → (key ≡ other → ⊥) → assembler_of same (with_fragment_of holes same assemblers key expires fragment offset more) other ≡
      assembler_of same assemblers other
  fragment_other other ne = other_changed same test assemblers key (λ s. placed holes (opened same key expires s) fragment offset more) fragment-key (initial 0) other ne

  pub fragment_apart : AreApart assemblers → AreApart (with_fragment_of holes same assemblers key expires fragment offset more)
  fragment_apart apart = apart_changed same test assemblers key (λ s. placed holes (opened same key expires s) fragment offset more) fragment-key (initial 0) apart

-- A DATAGRAM THAT IS GIVEN UP

module _ {K : Type 0} (same : K → K → Bool) (test : IsTest same) (assemblers : List (AssemblerValue K)) (key : K) where
  abbrev d : AssemblerValue K
  d = initial 0

  abbrev left_at : ℕ → List (AssemblerValue K)
  left_at at = slice_set assemblers at (freed (get_or assemblers at d))

  freed_at-is : (at : ℕ) → at < length assemblers → changed_at freed (Some at) assemblers ≡ left_at at
  freed_at-is at within = ap (λ o. changed freed (Some at) o assemblers) (slice_get-get_or assemblers at d within)

  none_at : (at : ℕ) → position (is_of same key) assemblers ≡ Some at → AreApart assemblers → (k : ℕ) (e : AssemblerValue K) → k < length (left_at at) →
      is_of same key (get_or (left_at at) k e) ≡ false
  none_at at found apart k e within =
      let index : IsIndex same test assemblers key at e = is_index-local same test assemblers key at e found in
      let inside : k < length assemblers = omega (arith, length-set assemblers at (freed (get_or assemblers at d)), within) in
      elim (cases_eq k at) [
        | inl here ↦ subst (λ (n : ℕ). is_of same key (get_or (left_at at) n e) ≡ false) (sym here)
            (ap (is_of same key) (get_or-set_same assemblers at (freed (get_or assemblers at d)) e index.within))
        | inr other ↦ ap (is_of same key) (get_or-set_other assemblers at k (freed (get_or assemblers at d)) e other) ∙ index.others apart k other inside
      ]

  pub given_up_local : AreApart assemblers → assembler_of same (without_datagram same assemblers key) key ≡ None
  given_up_local apart =
      elim (position (is_of same key) assemblers) as (λ p. position (is_of same key) assemblers ≡ p → assembler_of same (changed_at freed p assemblers) key ≡ None) [
        | None ↦ λ e. find_none (is_of same key) assemblers (λ k c within. position-None (is_of same key) assemblers k c e within)
        | Some at ↦ λ e.
            let index : IsIndex same test assemblers key at d = is_index-local same test assemblers key at d e in
            ap (λ ss. assembler_of same ss key) (freed_at-is at index.within) ∙ find_none (is_of same key) (left_at at) (none_at at e apart)
      ] refl

  pub given_up_other : (other : K) → (key ≡ other → ⊥) → assembler_of same (without_datagram same assemblers key) other ≡ assembler_of same assemblers other
  given_up_other other ne =
      elim (position (is_of same key) assemblers) as
      (λ p. position (is_of same key) assemblers ≡ p → assembler_of same (changed_at freed p assemblers) other ≡ assembler_of same assemblers other) [
        | None ↦ λ e. refl
        | Some at ↦ λ e.
            let index : IsIndex same test assemblers key at d = is_index-local same test assemblers key at d e in
            ap (λ ss. assembler_of same ss other) (freed_at-is at index.within)
            ∙ find_past (is_of same other) assemblers at (freed (get_or assemblers at d)) d (index.local other ne) refl
      ] refl
