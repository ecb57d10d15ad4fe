-- Many connections: two whose ends are each other's are each other's peers, whatever the others do.
use Rattle.std.proofs.Common.{◌≡◌, ◌≢◌, ℕ, Bool, true, false, if◌then◌else◌, nat_eq, List, [], ◌∷◌, refl, sym, ap, ◌∙◌, subst, arith}
use Rattle.std.proofs.lemmas.Bool.{and_parts}
use Rattle.std.proofs.lemmas.Bool.Decides.{nat_tests}
use Rattle.tcp_theory.specs.Segment.{Segment}
use Rattle.tcp_peer.specs.Run.{Scene, Event, happens, start}
use Rattle.tcp_net.specs.Joint.{MayDo}
use Rattle.tcp_net.specs.Net.{Net, is_at, updated, NetEvent, goes_on, IsNetHistory, play_all, begin_all, AllResets}
use Rattle.tcp_net.specs.Peers.{ArePeers}
use Rattle.tcp_net.proofs.Knot.{IsHalf, both_event, half_self, half_begins, peers}

same_number : (a b : ℕ) → nat_eq a b ≡ true → a ≡ b
same_number a b e = grind (arith, nat_tests)

is_same : (a : ℕ) → nat_eq a a ≡ true
is_same a = grind (arith, nat_tests)

pub same_ends : (l r m n : ℕ) → is_at l r m n ≡ true → (l ≡ m) × (r ≡ n)
same_ends l r m n e = let parts = and_parts (nat_eq l m) (nat_eq r n) e in (same_number l m parts.0, same_number r n parts.1)

are_same : (m n : ℕ) → is_at m n m n ≡ true
are_same m n = let one = is_same m in let two = is_same n in cc

-- the other way round they are others
are_others : (m n : ℕ) → m ≢ n → is_at n m m n ≡ false
are_others m n differ = by (is_at n m m n) refl where
  by : (b : Bool) → is_at n m m n ≡ b → is_at n m m n ≡ false
  by false e = e
  by true e = absurd (differ (sym (same_ends n m m n e).0))

same_test : (a b : ℕ) → a ≡ b → nat_eq a b ≡ true
same_test a b e = grind (arith, nat_tests)

are_these : (l r m n : ℕ) → l ≡ m → r ≡ n → is_at l r m n ≡ true
are_these l r m n one two = let first = same_test l m one in let second = same_test r n two in cc

pub updated-here : (net : Net) (m n : ℕ) (new : Scene) → updated net m n new m n ≡ new
updated-here net m n new = ap (λ (b : Bool). if b then new else net m n) (are_same m n)

updated-other : (net : Net) (m n : ℕ) (new : Scene) (l r : ℕ) → is_at l r m n ≡ false → updated net m n new l r ≡ net l r
updated-other net m n new l r e = ap (λ (b : Bool). if b then new else net l r) e

half_same : (room : ℕ) (resets : List Segment) (s s' t t' : Scene) → s' ≡ s → t' ≡ t → IsHalf room resets s t.side → IsHalf room resets s' t'.side
half_same room resets s s' t t' one other half =
    subst (λ (w : Scene). IsHalf room resets w t'.side) (sym one) (subst (λ (w : Scene). IsHalf room resets s w.side) (sym other) half)

module _ (rooms : ℕ → ℕ → ℕ) (resets : ℕ → ℕ → List Segment) (all : AllResets resets) where
  -- each connection's part is a run beside an honest peer
  abbrev Halves : Net → Type 0
  Halves net = (l r : ℕ) → IsHalf (rooms l r) (resets l r) (net l r) (net r l).side

  module _ (net : Net) (m n : ℕ) (event : Event) (halves : Halves net) (may : MayDo (net m n) (net n m).side event) where
    abbrev new : Scene
    new = happens (net m n) event

    abbrev after : Net
    after = updated net m n new

    both : IsHalf (rooms m n) (resets m n) new (net n m).side × IsHalf (rooms n m) (resets n m) (net n m) new.side
    both =
        both_event (rooms m n) (rooms n m) (resets m n) (resets n m) (all m n) (all n m) (net m n) (net n m) event
        (halves m n, halves n m) may

    here : m ≢ n → IsHalf (rooms m n) (resets m n) (after m n) (after n m).side
    here differ =
        half_same (rooms m n) (resets m n) new (after m n) (net n m) (after n m) (updated-here net m n new)
        (updated-other net m n new n m (are_others m n differ)) both.0

    there : m ≢ n → IsHalf (rooms n m) (resets n m) (after n m) (after m n).side
    there differ =
        half_same (rooms n m) (resets n m) (net n m) (after n m) new (after m n) (updated-other net m n new n m (are_others m n differ))
        (updated-here net m n new) both.1

    -- both ends are one
    alone : m ≡ n → IsHalf (rooms m n) (resets m n) (after m n) (after n m).side
    alone same =
        let turn : net n m ≡ net m n = subst (λ (k : ℕ). net k m ≡ net m k) same refl in
        let half = subst (λ (w : Scene). IsHalf (rooms m n) (resets m n) (net m n) w.side) turn (halves m n) in
        let its = subst (λ (w : Scene). MayDo (net m n) w.side event) turn may in
        half_same (rooms m n) (resets m n) new (after m n) new (after n m) (updated-here net m n new)
        (ap (λ (b : Bool). if b then new else net n m) (are_these n m m n (sym same) same))
        (half_self (rooms m n) (resets m n) (all m n) (net m n) event half its)

    halves_after : (l r : ℕ) → IsHalf (rooms l r) (resets l r) (after l r) (after r l).side
    halves_after l r = by (is_at l r m n) refl (is_at r l m n) refl where
      at : l ≡ m → r ≡ n → IsHalf (rooms m n) (resets m n) (after m n) (after n m).side → IsHalf (rooms l r) (resets l r) (after l r) (after r l).side
      at one two half =
          subst (λ (i : ℕ). IsHalf (rooms i r) (resets i r) (after i r) (after r i).side) (sym one)
          (subst (λ (j : ℕ). IsHalf (rooms m j) (resets m j) (after m j) (after j m).side) (sym two) half)

      by : (one : Bool) → is_at l r m n ≡ one → (other : Bool) → is_at r l m n ≡ other → IsHalf (rooms l r) (resets l r) (after l r) (after r l).side
      by true e true f =
          let same = same_ends l r m n e in let turned = same_ends r l m n f in at same.0 same.1 (alone (sym turned.0 ∙ same.1))
      by true e false f =
          let same = same_ends l r m n e in
          at same.0 same.1 (here (λ one. let clash : false ≡ true =
          sym f ∙ are_these r l m n (same.1 ∙ sym one) (same.0 ∙ one) in absurd (cc)))
      by false e true f =
          let same = same_ends r l m n f in
          subst (λ (i : ℕ). IsHalf (rooms l i) (resets l i) (after l i) (after i l).side) (sym same.0)
          (subst (λ (j : ℕ). IsHalf (rooms j m) (resets j m) (after j m) (after m j).side) (sym same.1)
          (there (λ one. let clash : false ≡ true = sym e ∙ are_these l r m n (same.1 ∙ sym one) (same.0 ∙ one) in absurd (cc))))
      by false e false f =
          half_same (rooms l r) (resets l r) (net l r) (after l r) (net r l) (after r l) (updated-other net m n new l r e) (updated-other net m n new r l f)
          (halves l r)

  halves_play : (net : Net) (history : List NetEvent) → ((l r : ℕ) → IsHalf (rooms l r) (resets l r) (net l r) (net r l).side) →
      IsNetHistory net history → (l r : ℕ) → IsHalf (rooms l r) (resets l r) (play_all net history l r) (play_all net history r l).side
  halves_play net [] halves is = halves
  halves_play net (h ∷ rest) halves is = halves_play (goes_on net h) rest (halves_after net h.local h.remote h.event halves is.0) is.1

  pub net_peers : (history : List NetEvent) → IsNetHistory (begin_all rooms resets) history → (l r : ℕ) →
      ArePeers (record { a = play_all (begin_all rooms resets) history l r; b = play_all (begin_all rooms resets) history r l })
  net_peers history is l r =
      let halves = halves_play (begin_all rooms resets) history (λ l r. half_begins (rooms l r) (resets l r) (all l r) (start (rooms r l) (resets r l)).side) is in
      peers (rooms l r) (rooms r l) (resets l r) (resets r l) (all l r) (all r l)
      (record { a = play_all (begin_all rooms resets) history l r; b = play_all (begin_all rooms resets) history r l }) (halves l r, halves r l)
