-- The first slot whose socket is wanted, among loose slots and those under a key.
use Rattle.std.proofs.Common.{◌≡◌, ◌≢◌, ◌⊎◌, inl, inr, ℕ, zero, suc, ◌+◌, ◌-◌, ◌<◌, ◌≤◌, max, min, nat_lt, if◌then◌else◌, Bool, true, false, List, [], ◌∷◌, length, Option, Some, None, refl, sym, ap, ◌∙◌, subst, arith}
use Rattle.std.proofs.lemmas.Bool.{cases_lt, cases_eq}
use Rattle.std.proofs.lemmas.Bool.Decides.{leb_tells}
use Rattle.std.specs.Prelude.{slice_get, position}
use Rattle.std.specs.List.{position_or_len}
use Rattle.std.proofs.lemmas.Option.{slice_get_within}
use Rattle.base_index.specs.Keys.{IsNextWith}
use Rattle.base_index.specs.Marks.{IsNext, IsOn}
use Rattle.base_index.specs.Put.{put}
use Rattle.base_index.proofs.Puts.{put_here, put_elsewhere, length_put}
use Rattle.iface_egress.specs.IdleSlots.{first_of}
use Rattle.iface_egress.specs.KeyIndex.{AreFiled, IsFirstAmong, IsLoose, IsUnder, has, has_in, key_in, key_of, nearer}
use Rattle.iface_egress.specs.declared.socket_set.Item.{Item}
use Rattle.iface_egress.specs.declared.socket_set.SocketStorage.{SocketStorage}
use Rattle.iface_egress.proofs.Resting.{off}

-- POSITIONS

module _ {X : Type 0} (test : X → Bool) where
  stands_first : (xs : List X) (at : ℕ) (x : X) → slice_get xs at ≡ Some x → test x ≡ true
      → ((i : ℕ) (y : X) → i < at → slice_get xs i ≡ Some y → test y ≡ false) → position_or_len test xs ≡ at
  stands_first [] at x got passes none = absurd (cc)
  stands_first (y ∷ xs) zero x got passes none = let same : y ≡ x = cc in let so : test y ≡ true = cc in grind (arith, so)
  stands_first (y ∷ xs) (suc at) x got passes none =
      let first : test y ≡ false = none 0 y (omega arith) refl in
      let rest : position_or_len test xs ≡ at = stands_first xs at x got passes (λ i z less is. none (suc i) z (omega (arith, less)) is) in
      grind (arith, first, rest)

  stands_nowhere : (xs : List X) → ((i : ℕ) (y : X) → slice_get xs i ≡ Some y → test y ≡ false) → position_or_len test xs ≡ length xs
  stands_nowhere [] none = refl
  stands_nowhere (y ∷ xs) none =
      let first : test y ≡ false = none 0 y refl in
      let rest : position_or_len test xs ≡ length xs = stands_nowhere xs (λ i z is. none (suc i) z is) in
      grind (arith, first, rest)

-- LOOSE PLACES

chosen : (b : Bool) (n at : ℕ) → b ≡ true → (if b then Some n else None) ≡ Some at → n ≡ at
chosen true n at so same = cc
chosen false n at so same = absurd (cc)

not_chosen : (b : Bool) (n at : ℕ) → b ≡ false → (if b then Some n else None) ≡ Some at → ⊥
not_chosen true n at so same = absurd (cc)
not_chosen false n at so same = absurd (cc)

chosen_none : (b : Bool) (n : ℕ) → b ≡ true → (if b then Some n else None) ≡ None → ⊥
chosen_none true n so same = absurd (cc)
chosen_none false n so same = absurd (cc)

module _ (loose : List Bool) (from size : ℕ) (within : length loose ≤ size) where
  -- before the next slot that isn't known to be filed none is loose
  pub next_loose : (next : Option ℕ) (at : ℕ) → IsNext from loose next → first_of next from (length loose) size ≡ Some at
      → (from ≤ at) × (at < size) × ((i : ℕ) → from ≤ i → i < at → IsLoose loose i → ⊥)
  next_loose (Some slot) at is same = let here : slot ≡ at = cc in (
    omega (arith, is.0, here),
    omega (arith, is.1, here, within),
    λ i since less loosened. loosened
        (off loose i (omega (arith, less, here, is.1)) (is.2 i since (omega (arith, less, here)))),
  )
  next_loose None at is same = by (leb_tells (suc (max from (length loose))) size) where
    Wanted : Type 0
    Wanted = (from ≤ at) × (at < size) × ((i : ℕ) → from ≤ i → i < at → IsLoose loose i → ⊥)

    by : ((nat_lt (max from (length loose)) size ≡ true) × (suc (max from (length loose)) ≤ size))
        ⊎ ((nat_lt (max from (length loose)) size ≡ false) × (size < suc (max from (length loose)))) → Wanted
    by (inl less) = let here : max from (length loose) ≡ at = chosen (nat_lt (max from (length loose)) size) (max from (length loose)) at less.0 same in
        (omega (arith, here), omega (arith, here, less.1), λ i since before loosened. loosened (off loose i (omega (arith, since, before, here)) (is i since)))
    by (inr not_less) = absurd (not_chosen (nat_lt (max from (length loose)) size) (max from (length loose)) at not_less.0 same)

  pub next_loose_none : (next : Option ℕ) → IsNext from loose next → first_of next from (length loose) size ≡ None
      → (i : ℕ) → from ≤ i → i < size → IsLoose loose i → ⊥
  next_loose_none (Some slot) is same = absurd (cc)
  next_loose_none None is same = by (leb_tells (suc (max from (length loose))) size) where
    by : ((nat_lt (max from (length loose)) size ≡ true) × (suc (max from (length loose)) ≤ size))
        ⊎ ((nat_lt (max from (length loose)) size ≡ false) × (size < suc (max from (length loose)))) → (i : ℕ) → from ≤ i → i < size → IsLoose loose i → ⊥
    by (inl less) = absurd (chosen_none (nat_lt (max from (length loose)) size) (max from (length loose)) less.0 same)
    by (inr not_less) = λ i since before loosened. loosened (off loose i (omega (arith, since, before, not_less.1)) (is i since))

-- FIRST AMONG

module _ {T : Type 0} (test : T → Bool) (ps : List (SocketStorage T)) where
  pub nearer_among : (K L : ℕ → Type 0) (a b : Option ℕ) → IsFirstAmong K test ps a → IsFirstAmong L test ps b
      → IsFirstAmong (λ i. K i ⊎ L i) test ps (nearer a b)
  nearer_among K L None None first second = λ i slot kind got. by i slot got kind where
    by : (i : ℕ) (slot : SocketStorage T) → slice_get ps i ≡ Some slot → K i ⊎ L i → has test slot ≡ false
    by i slot got (inl kind) = first i slot kind got
    by i slot got (inr kind) = second i slot kind got
  nearer_among K L None (Some b) first second = (second.0, λ i slot less kind got. by i slot less got kind) where
    by : (i : ℕ) (slot : SocketStorage T) → i < b → slice_get ps i ≡ Some slot → K i ⊎ L i → has test slot ≡ false
    by i slot less got (inl kind) = first i slot kind got
    by i slot less got (inr kind) = second.1 i slot less kind got
  nearer_among K L (Some a) None first second = (first.0, λ i slot less kind got. by i slot less got kind) where
    by : (i : ℕ) (slot : SocketStorage T) → i < a → slice_get ps i ≡ Some slot → K i ⊎ L i → has test slot ≡ false
    by i slot less got (inl kind) = first.1 i slot less kind got
    by i slot less got (inr kind) = second i slot kind got
  nearer_among K L (Some a) (Some b) first second = (stands (cases_lt a b), λ i slot less kind got. by i slot less got kind) where
    Stands : ℕ → Type 0
    Stands n = (slot : SocketStorage T) × (slice_get ps n ≡ Some slot) × (has test slot ≡ true)

    stands : (a < b) ⊎ (b ≤ a) → (slot : SocketStorage T) × (slice_get ps (min a b) ≡ Some slot) × (has test slot ≡ true)
    stands (inl less) = let same : min a b ≡ a = omega (arith, less) in
        subst (λ (n : ℕ). (slot : SocketStorage T) × (slice_get ps n ≡ Some slot) × (has test slot ≡ true)) (sym same) first.0
    stands (inr more) = let same : min a b ≡ b = omega (arith, more) in
        subst (λ (n : ℕ). (slot : SocketStorage T) × (slice_get ps n ≡ Some slot) × (has test slot ≡ true)) (sym same) second.0

    by : (i : ℕ) (slot : SocketStorage T) → i < min a b → slice_get ps i ≡ Some slot → K i ⊎ L i → has test slot ≡ false
    by i slot less got (inl kind) = first.1 i slot (omega (arith, less)) kind got
    by i slot less got (inr kind) = second.1 i slot (omega (arith, less)) kind got

  -- the first of those among which all are that pass the test is the first of all
  pub first_of_all : (K : ℕ → Type 0) (at : Option ℕ) → IsFirstAmong K test ps at
      → ((i : ℕ) (slot : SocketStorage T) → slice_get ps i ≡ Some slot → has test slot ≡ true → K i) → at ≡ position (has test) ps
  first_of_all K None none all = by (stands_nowhere (has test) ps (λ i slot got. fails i slot got (has test slot) refl)) where
    fails : (i : ℕ) (slot : SocketStorage T) → slice_get ps i ≡ Some slot → (b : Bool) → has test slot ≡ b → has test slot ≡ false
    fails i slot got true so = none i slot (all i slot got so) got
    fails i slot got false so = so

    by : position_or_len (has test) ps ≡ length ps → None ≡ position (has test) ps
    by nowhere = grind (arith, nowhere)
  first_of_all K (Some at) first all =
      by (stands_first (has test) ps at first.0.0 first.0.1 first.0.2 (λ i slot less got. fails i slot less got (has test slot) refl)) where
        fails : (i : ℕ) (slot : SocketStorage T) → i < at → slice_get ps i ≡ Some slot → (b : Bool) → has test slot ≡ b → has test slot ≡ false
        fails i slot less got true so = first.1 i slot less (all i slot got so) got
        fails i slot less got false so = so

        by : position_or_len (has test) ps ≡ at → Some at ≡ position (has test) ps
        by here = let within : at < length ps = slice_get_within ps at first.0.0 first.0.1 in grind (arith, here, within)

  pub within_slots : (K : ℕ → Type 0) (found : Option ℕ) → IsFirstAmong K test ps found → (at : ℕ) → found ≡ Some at → at < length ps
  within_slots K None none at same = absurd (cc)
  within_slots K (Some n) first at same = let here : n ≡ at = cc in subst (λ (m : ℕ). m < length ps) here (slice_get_within ps n first.0.0 first.0.1)

-- FILED PLACES

module _ {T : Type 0} (key : T → ℕ) (loose : List Bool) (keys : List ℕ) (ps : List (SocketStorage T)) (filed : AreFiled key loose keys ps) where
  -- a slot is loose, or filed under its socket's key
  loose_or_under : (i : ℕ) (slot : SocketStorage T) → slice_get ps i ≡ Some slot → IsLoose loose i ⊎ IsUnder (key_in key slot) keys i
  loose_or_under i slot got = by (slice_get loose i) refl where
    by : (mark : Option Bool) → slice_get loose i ≡ mark → IsLoose loose i ⊎ IsUnder (key_in key slot) keys i
    by None is = inl (λ off. absurd (cc))
    by (Some true) is = inl (λ off. absurd (cc))
    by (Some false) is = inr (filed.0 i slot is got)

  -- the key of a slot whose socket passes the test
  key_of_one : (test : T → Bool) (slot : SocketStorage T) (Wanted : ℕ → Type 0) → ((s : T) → test s ≡ true → Wanted (key s)) → has test slot ≡ true
      → Wanted (key_in key slot)
  key_of_one test slot Wanted fits so = by slot.inner so where
    by : (inner : Option (Item T)) → has_in test inner ≡ true → Wanted (key_of key inner)
    by None so = absurd (cc)
    by (Some item) so = fits item.socket so

  pub all_of_two : (test : T → Bool) (one two : ℕ) → ((s : T) → test s ≡ true → (key s ≡ one) ⊎ (Some two ≡ Some (key s)))
      → (i : ℕ) (slot : SocketStorage T) → slice_get ps i ≡ Some slot → has test slot ≡ true
      → (IsLoose loose i ⊎ IsUnder one keys i) ⊎ IsUnder two keys i
  all_of_two test one two fits i slot got so = by (loose_or_under i slot got)
      (key_of_one test slot (λ k. (k ≡ one) ⊎ (Some two ≡ Some k)) fits so) where
        by : IsLoose loose i ⊎ IsUnder (key_in key slot) keys i → (key_in key slot ≡ one) ⊎ (Some two ≡ Some (key_in key slot))
            → (IsLoose loose i ⊎ IsUnder one keys i) ⊎ IsUnder two keys i
        by (inl loosened) any = inl (inl loosened)
        by (inr under) (inl same) = inl (inr (under ∙ ap Some same))
        by (inr under) (inr same) = inr (under ∙ sym same)

  pub all_of_one : (test : T → Bool) (one : ℕ) → ((s : T) → test s ≡ true → (key s ≡ one) ⊎ (None ≡ Some (key s)))
      → (i : ℕ) (slot : SocketStorage T) → slice_get ps i ≡ Some slot → has test slot ≡ true → IsLoose loose i ⊎ IsUnder one keys i
  all_of_one test one fits i slot got so = by (loose_or_under i slot got)
      (key_of_one test slot (λ k. (k ≡ one) ⊎ (None ≡ Some k)) fits so) where
        by : IsLoose loose i ⊎ IsUnder (key_in key slot) keys i → (key_in key slot ≡ one) ⊎ (None ≡ Some (key_in key slot))
            → IsLoose loose i ⊎ IsUnder one keys i
        by (inl loosened) any = inl loosened
        by (inr under) (inl same) = inr (under ∙ ap Some same)
        by (inr under) (inr same) = absurd (cc)

  -- where a slot is filed again
  pub filed_again : (at : ℕ) (slot : SocketStorage T) (loose' : List Bool) → slice_get ps at ≡ Some slot → at ≤ length keys
      → (loose' ≡ put at false loose) ⊎ (loose' ≡ loose) → AreFiled key loose' (put at (key_in key slot) keys) ps
  filed_again at slot loose' here in_order change = (
    λ i q off got. by i q got off (cases_eq i at),
    lengths change,
    (let less : length (put at (key_in key slot) keys) ≤ max (length keys) (suc at) = length_put keys at (key_in key slot) in
        let within : at < length ps = slice_get_within ps at slot here in omega (arith, less, within, filed.2)),
  ) where
    lengths : (loose' ≡ put at false loose) ⊎ (loose' ≡ loose) → length loose' ≤ length ps
    lengths (inl new) = let less : length (put at false loose) ≤ max (length loose) (suc at) = length_put loose at false in
        let within : at < length ps = slice_get_within ps at slot here in
        subst (λ (ms : List Bool). length ms ≤ length ps) (sym new) (omega (arith, less, within, filed.1))
    lengths (inr same) = subst (λ (ms : List Bool). length ms ≤ length ps) (sym same) filed.1

    was_off : (i : ℕ) → i ≢ at → slice_get loose' i ≡ Some false → (loose' ≡ put at false loose) ⊎ (loose' ≡ loose) → slice_get loose i ≡ Some false
    was_off i other off (inl new) = sym (put_elsewhere loose at i false other) ∙ (ap (λ (ms : List Bool). slice_get ms i) (sym new) ∙ off)
    was_off i other off (inr same) = ap (λ (ms : List Bool). slice_get ms i) (sym same) ∙ off

    by : (i : ℕ) (q : SocketStorage T) → slice_get ps i ≡ Some q → slice_get loose' i ≡ Some false → (i ≡ at) ⊎ (i ≡ at → ⊥)
        → slice_get (put at (key_in key slot) keys) i ≡ Some (key_in key q)
    by i q got off (inl same) = let same_slot : slot ≡ q = cc in
        subst (λ (n : ℕ). slice_get (put at (key_in key slot) keys) n ≡ Some (key_in key q)) (sym same)
        (put_here keys at (key_in key slot) in_order ∙ ap (λ (p : SocketStorage T). Some (key_in key p)) same_slot)
    by i q got off (inr other) = put_elsewhere keys at i (key_in key slot) other ∙ filed.0 i q (was_off i other off change) got

-- A SEARCH UNDER A KEY

abbrev pub slots_left : ℕ → Option ℕ → ℕ
slots_left size None = 0
slots_left size (Some at) = size - at

-- the slot that the search has come to has the key, and of those before it that have it none passes; or none has it that passes
abbrev pub IsPassedUpTo : {P : Type 0} → ℕ → List ℕ → (P → Bool) → List P → Option ℕ → Type 0
IsPassedUpTo {P} key keys passes ps (Some at) =
    IsUnder key keys at × ((i : ℕ) (slot : P) → i < at → IsUnder key keys i → slice_get ps i ≡ Some slot → passes slot ≡ false)
IsPassedUpTo {P} key keys passes ps None = (i : ℕ) (slot : P) → IsUnder key keys i → slice_get ps i ≡ Some slot → passes slot ≡ false

module _ {P : Type 0} (key : ℕ) (keys : List ℕ) (passes : P → Bool) (ps : List P) where
  pub passed_first : (next : Option ℕ) → IsNextWith key 0 keys next → IsPassedUpTo key keys passes ps next
  passed_first None is = λ i slot under got. absurd (is i (omega arith) under)
  passed_first (Some at) is = (is.1, λ i slot less under got. absurd (is.2 i (omega arith) less under))

  pub passed_on : (at : ℕ) (here : P) (next : Option ℕ) → IsPassedUpTo key keys passes ps (Some at) → slice_get ps at ≡ Some here → passes here ≡ false
      → IsNextWith key (suc at) keys next → IsPassedUpTo key keys passes ps next
  passed_on at here None up_to stands fails is = λ i slot under got. by i slot under got (cases_lt i at) (cases_eq i at) where
    by : (i : ℕ) (slot : P) → IsUnder key keys i → slice_get ps i ≡ Some slot → (i < at) ⊎ (at ≤ i) → (i ≡ at) ⊎ (i ≡ at → ⊥) → passes slot ≡ false
    by i slot under got (inl before) any = up_to.1 i slot before under got
    by i slot under got (inr more) (inl same) = let one : slot ≡ here = cc in ap passes one ∙ fails
    by i slot under got (inr more) (inr other) = absurd (is i (omega (arith, more, other)) under)
  passed_on at here (Some further) up_to stands fails is = (is.1, λ i slot less under got. by i slot less under got (cases_lt i at) (cases_eq i at)) where
    by : (i : ℕ) (slot : P) → i < further → IsUnder key keys i → slice_get ps i ≡ Some slot → (i < at) ⊎ (at ≤ i) → (i ≡ at) ⊎ (i ≡ at → ⊥)
        → passes slot ≡ false
    by i slot less under got (inl before) any = up_to.1 i slot before under got
    by i slot less under got (inr more) (inl same) = let one : slot ≡ here = cc in ap passes one ∙ fails
    by i slot less under got (inr more) (inr other) = absurd (is.2 i (omega (arith, more, other)) less under)

  pub fewer_left : (at size : ℕ) (link next : Option ℕ) → at < size → length keys ≤ size → link ≡ Some at → IsNextWith key (suc at) keys next
      → slots_left size next < slots_left size link
  fewer_left at size link next within few here is = subst (λ (o : Option ℕ). slots_left size next < slots_left size o) (sym here) (by next is) where
    by : (next : Option ℕ) → IsNextWith key (suc at) keys next → slots_left size next < size - at
    by None is = omega (arith, within)
    by (Some further) is = omega (arith, within, is.0, few, slice_get_within keys further key is.1)

-- THE FIRST PLACE WHOSE SOCKET IS WANTED

module _ {T : Type 0} (key : T → ℕ) (loose : List Bool) (keys : List ℕ) (ps : List (SocketStorage T)) (filed : AreFiled key loose keys ps)
    (test : T → Bool) (other : Option ℕ) (one : ℕ) (fits : (s : T) → test s ≡ true → (key s ≡ one) ⊎ (other ≡ Some (key s))) where
  pub found_of_two : (two : ℕ) (a b c r : Option ℕ) → other ≡ Some two → IsFirstAmong (IsLoose loose) test ps a → IsFirstAmong (IsUnder one keys) test ps b
      → IsFirstAmong (IsUnder two keys) test ps c → r ≡ nearer (nearer a b) c → r ≡ position (has test) ps
  found_of_two two a b c r has_other first second third same = same
      ∙ first_of_all test ps (λ i. (IsLoose loose i ⊎ IsUnder one keys i) ⊎ IsUnder two keys i) (nearer (nearer a b) c)
      (nearer_among test ps (λ i. IsLoose loose i ⊎ IsUnder one keys i) (IsUnder two keys) (nearer a b) c
      (nearer_among test ps (IsLoose loose) (IsUnder one keys) a b first second) third)
      (all_of_two key loose keys ps filed test one two
      (subst (λ (o : Option ℕ). (s : T) → test s ≡ true → (key s ≡ one) ⊎ (o ≡ Some (key s))) has_other fits))

  pub found_of_one : (a b r : Option ℕ) → other ≡ None → IsFirstAmong (IsLoose loose) test ps a → IsFirstAmong (IsUnder one keys) test ps b
      → r ≡ nearer a b → r ≡ position (has test) ps
  found_of_one a b r has_none first second same = same
      ∙ first_of_all test ps (λ i. IsLoose loose i ⊎ IsUnder one keys i) (nearer a b)
      (nearer_among test ps (IsLoose loose) (IsUnder one keys) a b first second)
      (all_of_one key loose keys ps filed test one
      (subst (λ (o : Option ℕ). (s : T) → test s ≡ true → (key s ≡ one) ⊎ (o ≡ Some (key s))) has_none fits))

-- a position is one of the list
pub position_within : {X : Type 0} (test : X → Bool) (xs : List X) (r : Option ℕ) → r ≡ position test xs → (at : ℕ) → r ≡ Some at → at < length xs
position_within test xs r is at same = by (leb_tells (suc (position_or_len test xs)) (length xs)) (sym is ∙ same) where
  by : ((nat_lt (position_or_len test xs) (length xs) ≡ true) × (suc (position_or_len test xs) ≤ length xs))
      ⊎ ((nat_lt (position_or_len test xs) (length xs) ≡ false) × (length xs < suc (position_or_len test xs)))
      → position test xs ≡ Some at → at < length xs
  by (inl less) found = let here : position_or_len test xs ≡ at =
      chosen (nat_lt (position_or_len test xs) (length xs)) (position_or_len test xs) at less.0 found in omega (arith, here, less.1)
  by (inr not_less) found = absurd (not_chosen (nat_lt (position_or_len test xs) (length xs)) (position_or_len test xs) at not_less.0 found)
