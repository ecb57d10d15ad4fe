-- No more searches are young than there is room for, and each request makes one more of them young.
use Rattle.std.proofs.Common.{◌≡◌, ℕ, zero, suc, ◌+◌, ◌<◌, ◌≤◌, Bool, true, false, cond, if◌then◌else◌, nat_lt, ℤ, pos, ◌+ℤ◌, ◌≤ℤ◌, ◌<ℤ◌, int_lt, List, [], ◌∷◌, ◌++◌}
use Rattle.std.proofs.Common.{length, take, drop, Option, Some, None, refl, sym, ap, ◌∙◌, subst, arith}
use Rattle.std.specs.Prelude.{slice_get, slice_set, remove}
use Rattle.std.specs.Cmp.{IsStrictWeakOrder}
use Rattle.std.proofs.lemmas.Bool.Decides.{nat_tests}
use Rattle.std.proofs.lemmas.Int.{ints}
use Rattle.std.proofs.lemmas.List.{length-append, length-set}
use Rattle.std.proofs.lemmas.List.MinMax.{IsFirstBest-from_best_of}
use Rattle.ip_wire.specs.HardwareAddress.{HardwareAddress}
use Rattle.ip_wire.specs.IpAddress.{IpAddress}
use Rattle.iface_tables.specs.Best.{at_index, index_of_first_best}
use Rattle.iface_tables.specs.Neighbor.{CacheValue, answer_due, answer_of, asked_before, ended, ended_at, filled, first_search, is_known_by, last_request}
use Rattle.iface_tables.specs.Neighbor.{neighbor_index_of, oldest_search, one_more, own_silence, renewed, requested, search_index, searched_at, silent_time}
use Rattle.iface_tables.specs.declared.neighbor.Neighbor.{Neighbor}
use Rattle.iface_tables.specs.declared.neighbor.Search.{Search}
use Rattle.iface_tables.proofs.BestOf.{index_of_first_best-is}
use Rattle.proof_stack.specs.Requests.{AreInSecond, Follows, NeighborEvent, Asked, Answered, Heard, answers_in, requests_in}

-- SEARCHES THAT ARE YOUNG: their last request is to be answered at an instant or later

abbrev young : ℤ → List Search → ℕ
young e [] = 0
young e (s ∷ ss) = if int_lt s.answer_by e then young e ss else suc (young e ss)

young_few : (e : ℤ) (ss : List Search) → young e ss ≤ length ss
young_few e [] = omega arith
young_few e (s ∷ ss) = by (int_lt s.answer_by e) (young_few e ss) where
  by : (b : Bool) → young e ss ≤ length ss → (if b then young e ss else suc (young e ss)) ≤ suc (length ss)
  by true rest = omega (arith, rest)
  by false rest = omega (arith, rest)

-- one more comes last
young_last : (e : ℤ) (ss : List Search) (s : Search) → int_lt s.answer_by e ≡ false → young e (ss ++ s ∷ []) ≡ suc (young e ss)
young_last e [] s new = ap (λ (b : Bool). if b then 0 else 1) new
young_last e (x ∷ ss) s new = by (int_lt x.answer_by e) (young_last e ss s new) where
  by : (b : Bool) → young e (ss ++ s ∷ []) ≡ suc (young e ss) → (if b then young e (ss ++ s ∷ []) else suc (young e (ss ++ s ∷ []))) ≡ suc (if b then young e ss else suc (young e ss))
  by true rest = rest
  by false rest = ap suc rest

-- an old one becomes young
young_set : (e : ℤ) (ss : List Search) (at : ℕ) (old s : Search) → slice_get ss at ≡ Some old → int_lt old.answer_by e ≡ true → int_lt s.answer_by e ≡ false
    → young e (slice_set ss at s) ≡ suc (young e ss)
young_set e [] at old s is was new = absurd cc
young_set e (x ∷ ss) zero old s is was new =
    let same : x ≡ old = cc in
    ap (λ (b : Bool). if b then young e ss else suc (young e ss)) new
    ∙ ap (λ (b : Bool). suc (if b then young e ss else suc (young e ss))) (sym (ap (λ (y : Search). int_lt y.answer_by e) same ∙ was))
young_set e (x ∷ ss) (suc at) old s is was new = by (int_lt x.answer_by e) (young_set e ss at old s is was new) where
  by : (b : Bool) → young e (slice_set ss at s) ≡ suc (young e ss) → (if b then young e (slice_set ss at s) else suc (young e (slice_set ss at s))) ≡ suc (if b then young e ss else suc (young e ss))
  by true rest = rest
  by false rest = ap suc rest

-- an old one goes
young_old : (e : ℤ) (ss : List Search) (at : ℕ) → ((s : Search) → slice_get ss at ≡ Some s → int_lt s.answer_by e ≡ true) → young e (remove ss at) ≡ young e ss
young_old e [] zero old = refl
young_old e [] (suc at) old = refl
young_old e (x ∷ ss) zero old = sym (ap (λ (b : Bool). if b then young e ss else suc (young e ss)) (old x refl))
young_old e (x ∷ ss) (suc at) old =
    ap (λ (n : ℕ). if int_lt x.answer_by e then n else suc n) (young_old e ss at old)

-- any one goes
young_any : (e : ℤ) (ss : List Search) (at : ℕ) → young e ss ≤ suc (young e (remove ss at))
young_any e [] at = omega arith
young_any e (x ∷ ss) zero = by (int_lt x.answer_by e) where
  by : (b : Bool) → (if b then young e ss else suc (young e ss)) ≤ suc (young e ss)
  by true = omega arith
  by false = omega arith
young_any e (x ∷ ss) (suc at) = by (int_lt x.answer_by e) (young_any e ss at) where
  by : (b : Bool) → young e ss ≤ suc (young e (remove ss at)) → (if b then young e ss else suc (young e ss)) ≤ suc (if b then young e (remove ss at) else suc (young e (remove ss at)))
  by true rest = rest
  by false rest = omega (arith, rest)

-- HOW MANY THERE ARE

fewer : {X : Type 0} (xs : List X) (at : ℕ) → length (remove xs at) ≤ length xs
fewer [] zero = omega arith
fewer [] (suc at) = omega arith
fewer (x ∷ xs) zero = omega arith
fewer (x ∷ xs) (suc at) = let rest = fewer xs at in omega (arith, rest)

one_fewer : {X : Type 0} (xs : List X) (at : ℕ) → at < length xs → length (remove xs at) + 1 ≡ length xs
one_fewer [] at inside = absurd (omega (arith, inside))
one_fewer (x ∷ xs) zero inside = omega arith
one_fewer (x ∷ xs) (suc at) inside = let rest = one_fewer xs at (omega (arith, inside)) in omega (arith, rest)

in_order : IsStrictWeakOrder asked_before
in_order = record {
  one_way = λ x y e. let first : int_lt x.answer_by y.answer_by ≡ true = e in grind (arith, ints);
  chain = λ x y z e f. let first : int_lt x.answer_by y.answer_by ≡ false = e in let second : int_lt y.answer_by z.answer_by ≡ false = f in grind (arith, ints);
}

oldest_inside : (ss : List Search) → 1 ≤ length ss → oldest_search ss < length ss
oldest_inside [] some = absurd (omega (arith, some))
oldest_inside (s ∷ ss) some =
    let best = IsFirstBest-from_best_of in_order s ss in
    let index : index_of_first_best asked_before (s ∷ ss) ≡ best.0 = index_of_first_best-is asked_before (s ∷ ss) best.0 best.1 in
    let inside = best.1.0 in
    omega (arith, index, inside)

-- A REQUEST

was_old : (t e by : ℤ) → int_lt t by ≡ false → t <ℤ e → int_lt by e ≡ true
was_old t e by over before = grind (arith, ints)

is_new : (start t : ℤ) → start ≤ℤ t → int_lt (t +ℤ pos silent_time) (start +ℤ pos silent_time) ≡ false
is_new start t since = grind (arith, ints)

module _ (c : CacheValue) (address : IpAddress) (start t : ℤ) (since : start ≤ℤ t) (before : t <ℤ (start +ℤ pos silent_time)) (some : 1 ≤ c.search_room)
    (few : length c.searches ≤ c.search_room) where
  abbrev e : ℤ
  e = start +ℤ pos silent_time

  abbrev ss : List Search
  ss = c.searches

  -- one more search is young, and there are no more than there is room for
  abbrev AddsOne : List Search → Type 0
  AddsOne after = (young e after ≡ suc (young e ss)) × (length after ≤ c.search_room)

  added : int_lt t (own_silence None c) ≡ false → AddsOne (searched_at c.search_room None None ss address t)
  added over = by (nat_lt (length ss) c.search_room) refl over where
    oldest_old : int_lt t (answer_due (slice_get ss (oldest_search ss))) ≡ false → (s : Search) → slice_get ss (oldest_search ss) ≡ Some s →
        int_lt s.answer_by e ≡ true
    oldest_old late s is = was_old t e s.answer_by (sym (ap (λ (o : Option Search). int_lt t (answer_due o)) is) ∙ late) before

    by : (b : Bool) → nat_lt (length ss) c.search_room ≡ b
        → int_lt t (if b then pos 0 else answer_due (slice_get ss (oldest_search ss))) ≡ false
        → AddsOne (if b then ss ++ first_search address t ∷ [] else remove ss (oldest_search ss) ++ first_search address t ∷ [])
    by true is late =
        let parts = length-append ss (first_search address t ∷ []) in
        let room : length ss < c.search_room = grind (arith, nat_tests) in
        (young_last e ss (first_search address t) (is_new start t since), omega (arith, parts, room))
    by false is late =
        let rest = remove ss (oldest_search ss) in
        let parts = length-append rest (first_search address t ∷ []) in
        let full : c.search_room ≤ length ss = grind (arith, nat_tests) in
        let less = one_fewer ss (oldest_search ss) (oldest_inside ss (omega (arith, full, some))) in (
          young_last e rest (first_search address t) (is_new start t since) ∙ ap suc (young_old e ss (oldest_search ss) (oldest_old late)),
          omega (arith, parts, less, few),
        )

  again : (at : ℕ) (s : Search) → slice_get ss at ≡ Some s → int_lt t s.answer_by ≡ false → AddsOne (slice_set ss at (one_more s t))
  again at s is over =
      let same = length-set ss at (one_more s t) in
      (young_set e ss at s (one_more s t) is (was_old t e s.answer_by over before) (is_new start t since), omega (arith, same, few))

  adds : (index : Option ℕ) → int_lt t (own_silence (answer_of (at_index index ss)) c) ≡ false →
      AddsOne (searched_at c.search_room index (at_index index ss) ss address t)
  adds None over = added over
  adds (Some at) over = by (slice_get ss at) refl over where
    by : (o : Option Search) → slice_get ss at ≡ o → int_lt t (own_silence (answer_of o) c) ≡ false → AddsOne (searched_at c.search_room (Some at) o ss address t)
    by None is late = added late
    by (Some s) is late = again at s is late

  one_request : int_lt t (own_silence (last_request c address) c) ≡ false → AddsOne (requested c address t).searches
  one_request over = adds (search_index c.searches address) over

-- AN ANSWER ends one search at most

abbrev EndsOne : ℤ → List Search → List Search → Type 0
EndsOne e ss after = (young e ss ≤ suc (young e after)) × (length after ≤ length ss)

ends : (e : ℤ) (ss : List Search) (index : Option ℕ) → EndsOne e ss (ended_at index ss)
ends e ss None = (omega arith, omega arith)
ends e ss (Some at) = (young_any e ss at, fewer ss at)

ends_if : (e : ℤ) (ss : List Search) (index : Option ℕ) (b : Bool) → EndsOne e ss (if b then ended_at index ss else ss)
ends_if e ss index true = ends e ss index
ends_if e ss index false = (omega arith, omega arith)

-- A RUN

run : (c c' : CacheValue) (start : ℤ) (es : List NeighborEvent) → 1 ≤ c.search_room → length c.searches ≤ c.search_room → Follows c es c' →
    AreInSecond start es → young (start +ℤ pos silent_time) c.searches + requests_in es ≤ c.search_room + answers_in es
run c c' start [] some few follows within = let young_ones = young_few (start +ℤ pos silent_time) c.searches in omega (arith, young_ones, few)
run c c' start (Asked address instant ∷ es) some few follows within =
    let one = one_request c address start instant within.0 within.1 some few follows.0 in
    let rest = run (requested c address instant) c' start es some one.1 follows.1 within.2 in
    let grows = one.0 in
    omega (arith, rest, grows)
run c c' start (Answered entry ∷ es) some few follows within =
    let one = ends (start +ℤ pos silent_time) c.searches (search_index c.searches entry.protocol_addr) in
    let first = one.0 in
    let second = one.1 in
    let rest = run (filled c entry) c' start es some (omega (arith, second, few)) follows within in
    omega (arith, rest, first)
run c c' start (Heard address hardware instant ∷ es) some few follows within =
    let one = ends_if (start +ℤ pos silent_time) c.searches (search_index c.searches address)
    (is_known_by (at_index (neighbor_index_of c.entries address) c.entries) hardware) in
    let first = one.0 in
    let second = one.1 in
    let rest = run (renewed c address hardware instant) c' start es some (omega (arith, second, few)) follows within in
    omega (arith, rest, first)

pub few_requests : (c c' : CacheValue) (start : ℤ) (es : List NeighborEvent) → 1 ≤ c.search_room → length c.searches ≤ c.search_room → Follows c es c' →
    AreInSecond start es → requests_in es ≤ c.search_room + answers_in es
few_requests c c' start es some few follows within =
    let all = run c c' start es some few follows within in
    omega (arith, all)
