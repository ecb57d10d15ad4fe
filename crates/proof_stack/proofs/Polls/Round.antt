-- Whose turn it is to be asked for, and since when the others were.
use Rattle.std.proofs.Common.{◌≡◌, ℕ, zero, suc, ◌<◌, Bool, true, false, inl, inr, ℤ, pos, ◌+ℤ◌, ◌≤ℤ◌, int_lt, List, [], ◌∷◌, length}
use Rattle.std.proofs.Common.{Option, Some, None, refl, sym, ap, ◌∙◌, subst, arith}
use Rattle.std.specs.Prelude.{slice_get}
use Rattle.std.specs.List.{AllByRecursion, filter_map, list_any, cons_option}
use Rattle.std.proofs.lemmas.Bool.{or_parts}
use Rattle.std.proofs.lemmas.Int.{ints}
use Rattle.ip_wire.specs.IpAddress.{IpAddress}
use Rattle.iface_tables.specs.Inner.{InnerValue}
use Rattle.iface_tables.specs.Neighbor.{silent_time}
use Rattle.iface_egress.specs.declared.socket_set.SocketStorage.{SocketStorage}
use Rattle.iface_ingress.specs.Socket.{Socket}
use Rattle.interface.specs.Awaited.{awaited_in, comes_before, is_before, next_awaited}
use Rattle.interface.specs.declared.awaited.Awaited.{Awaited}
use Rattle.interface.proofs.Waiting.{none_before}
use Rattle.proof_stack.specs.Progress.Rounds.{AreRounds, Counts, IsOneOf, PassesOver, Round}

abbrev Place : Type 0
Place = SocketStorage Socket

abbrev no_slot : Option Place
no_slot = None

abbrev nobody : Option Awaited
nobody = None

-- WHAT HOLDS OF NONE THAT IS FOUND doesn't of one of them

module _ (test : Awaited → Bool) where
  not_first : (o : Option Awaited) (more : List Awaited) (b : Awaited) → o ≡ Some b → list_any test (cons_option o more) ≡ false → test b ≡ false
  not_first None more b is none = absurd (let clash : nobody ≡ Some b = is in cc)
  not_first (Some c) more b is none =
      subst (λ (x : Awaited). test x ≡ false) (let same : Some c ≡ Some b = is in let at : c ≡ b = cc in at)
      (or_parts (test c) (list_any test more) none).0

  not_more : (o : Option Awaited) (more : List Awaited) → list_any test (cons_option o more) ≡ false → list_any test more ≡ false
  not_more None more none = none
  not_more (Some c) more none = (or_parts (test c) (list_any test more) none).1

  not_found : (i : InnerValue) (ps : List Place) (n : ℕ) (slot : Place) (b : Awaited) → slice_get ps n ≡ Some slot → awaited_in i slot ≡ Some b
      → list_any test (filter_map (awaited_in i) ps) ≡ false → test b ≡ false
  not_found i [] n slot b stands is none = absurd (let clash : no_slot ≡ Some slot = stands in cc)
  not_found i (p ∷ ps) zero slot b stands is none =
      not_first (awaited_in i p) (filter_map (awaited_in i) ps) b
      (ap (awaited_in i) (let same : Some p ≡ Some slot = stands in let at : p ≡ slot = cc in at) ∙ is) none
  not_found i (p ∷ ps) (suc n) slot b stands is none =
      not_found i ps n slot b stands is (not_more (awaited_in i p) (filter_map (awaited_in i) ps) none)

-- THE ORDER

not_less : (a b : ℤ) → int_lt a b ≡ false → b ≤ℤ a
not_less a b is = grind (arith, ints)

asked_since : (o : Option ℤ) (last since other : ℤ) → is_before o (Some last) since other ≡ false → (later : ℤ) × (o ≡ Some later) × (last ≤ℤ later)
asked_since None last since other is = absurd (let clash : true ≡ false = is in cc)
asked_since (Some later) last since other is = (later, refl, not_less later last is)

module _ (i : InnerValue) (ps : List Place) (n : ℕ) (slot : Place) (a b : Awaited) (turn : next_awaited i ps ≡ Some a)
    (stands : slice_get ps n ≡ Some slot) (waits : awaited_in i slot ≡ Some b) where
  never_before : comes_before b a ≡ false
  never_before = not_found (λ x. comes_before x a) i ps n slot b stands waits (none_before i ps a turn)

  pub asked_for_since : (last : ℤ) → a.last_request ≡ Some last → (later : ℤ) × (b.last_request ≡ Some later) × (last ≤ℤ later)
  asked_for_since last is =
      asked_since b.last_request last b.since a.since
      (subst (λ (o : Option ℤ). is_before b.last_request o b.since a.since ≡ false) is never_before)

  pub waited_for_longest : a.last_request ≡ None → b.last_request ≡ None → a.since ≤ℤ b.since
  waited_for_longest first never =
      not_less b.since a.since
      (subst (λ (o : Option ℤ). is_before o None b.since a.since ≡ false) never
      (subst (λ (o : Option ℤ). is_before b.last_request o b.since a.since ≡ false) first never_before))

-- AS MANY QUESTIONS AS NEIGHBOURS

abbrev without : (x : IpAddress) (ys : List IpAddress) → IsOneOf x ys → List IpAddress
without x [] here = []
without x (y ∷ ys) (inl is) = ys
without x (y ∷ ys) (inr later) = y ∷ without x ys later

one_less : (x : IpAddress) (ys : List IpAddress) (here : IsOneOf x ys) → length ys ≡ suc (length (without x ys here))
one_less x [] here = absurd here
one_less x (y ∷ ys) (inl is) = refl
one_less x (y ∷ ys) (inr later) = ap (λ (n : ℕ). suc n) (one_less x ys later)

still_one : (x z : IpAddress) (ys : List IpAddress) (here : IsOneOf x ys) → IsOneOf z ys → (z ≡ x → ⊥) → IsOneOf z (without x ys here)
still_one x z [] here there apart = there
still_one x z (y ∷ ys) (inl is) (inl same) apart = absurd (apart (same ∙ sym is))
still_one x z (y ∷ ys) (inl is) (inr more) apart = more
still_one x z (y ∷ ys) (inr later) (inl same) apart = inl same
still_one x z (y ∷ ys) (inr later) (inr more) apart = inr (still_one x z ys later more apart)

never_late : (m l k : ℤ) → (m +ℤ pos 1_000_000) ≤ℤ l → l ≤ℤ k → k ≤ℤ m → ⊥
never_late m l k first second third = grind (arith, ints)

module _ (hop : IpAddress) (last : Option ℤ) (all : List IpAddress) where
  abbrev Over : Round → Type 0
  Over r = PassesOver hop last all r

  -- nobody is asked for twice meanwhile
  apart : (r later : Round) → Counts r later → Over r → Over later → later.asked.hop ≡ r.asked.hop → ⊥
  apart r later counts over then same =
      let again : (l : ℤ) × (later.asked.last_request ≡ Some l) × ((r.host.instant +ℤ pos silent_time) ≤ℤ l) = counts same in
      let since : (k : ℤ) × (then.awaited.last_request ≡ Some k) × (again.0 ≤ℤ k) =
      asked_for_since later.host later.slots then.n then.slot later.asked then.awaited later.turn then.stands then.waits again.0 again.1 in
      never_late r.host.instant again.0 since.0 again.2 since.2 (over.due since.0 (sym then.since ∙ since.1))

  module _ (r : Round) (over : Over r) (hops : List IpAddress) (here : IsOneOf r.asked.hop hops) where
    others : (rs : List Round) → AllByRecursion (Counts r) rs → AllByRecursion Over rs → AllByRecursion (λ q. IsOneOf q.asked.hop hops) rs
        → AllByRecursion (λ q. IsOneOf q.asked.hop (without r.asked.hop hops here)) rs
    others [] counts overs ones = tt
    others (q ∷ rs) counts overs ones =
        (still_one r.asked.hop q.asked.hop hops here ones.0 (apart r q counts.0 over overs.0), others rs counts.1 overs.1 ones.1)

  fewer : (rounds : List Round) (hops : List IpAddress) → AreRounds rounds → AllByRecursion Over rounds
      → AllByRecursion (λ r. IsOneOf r.asked.hop hops) rounds → IsOneOf hop hops → length rounds < length hops
  fewer [] hops are overs ones ours = let some = one_less hop hops ours in omega (arith, some)
  fewer (r ∷ rs) hops are overs ones ours =
      let less : length rs < length (without r.asked.hop hops ones.0) =
      fewer rs (without r.asked.hop hops ones.0) are.1 overs.1 (others r overs.0 hops ones.0 rs are.0 overs.1 ones.1)
      (still_one r.asked.hop hop hops ones.0 ours (λ is. overs.0.other (sym is))) in
      let some = one_less r.asked.hop hops ones.0 in
      omega (arith, less, some)

  each_one : (rounds : List Round) → AllByRecursion Over rounds → AllByRecursion (λ r. IsOneOf r.asked.hop all) rounds
  each_one [] overs = tt
  each_one (r ∷ rs) overs = (overs.0.another, each_one rs overs.1)

pub asked_within : (rounds : List Round) (hops : List IpAddress) (hop : IpAddress) (last : Option ℤ) → AreRounds rounds
    → AllByRecursion (PassesOver hop last hops) rounds → IsOneOf hop hops → length rounds < length hops
asked_within rounds hops hop last are overs ours = fewer hop last hops rounds hops are overs (each_one hop last hops rounds overs) ours
