-- Sockets idle: none waits for a neighbour or for an instant, and a turn leaves each as it is.
use Rattle.std.proofs.Common.{◌≡◌, ◌⊎◌, inl, inr, ℕ, zero, suc, ◌+◌, ◌-◌, ◌<◌, ◌≤◌, leb, ℤ, Bool, true, false, if◌then◌else◌, ◌||◌, List, [], ◌∷◌, ◌++◌, length, take, drop, Option, Some, None, is_none, refl, sym, ap, ◌∙◌, subst, arith}
use Rattle.std.specs.Prelude.{slice_get, position, is_some}
use Rattle.std.specs.List.{fold, list_any}
use Rattle.std.proofs.lemmas.Bool.{or_parts, and_parts}
use Rattle.std.proofs.lemmas.Bool.Decides.{leb_tells}
use Rattle.net_base.specs.Device.{Move}
use Rattle.ip_wire.specs.IpAddress.{IpAddress}
use Rattle.iface_tables.specs.Best.{at_index}
use Rattle.iface_tables.specs.Inner.{InnerValue}
use Rattle.iface_tables.specs.PathMtu.{counts, some_count, end_by as path_end_by, end_towards, leads_to}
use Rattle.iface_tables.specs.declared.path_mtu.Path.{Path}
use Rattle.iface_egress.specs.IdleSlots.{is_socket_idle, is_item_idle}
use Rattle.iface_egress.specs.declared.socket_meta.Meta.{Meta}
use Rattle.iface_egress.specs.declared.socket_meta.Waiting.{Waiting}
use Rattle.iface_egress.specs.declared.socket_set.Item.{Item}
use Rattle.iface_egress.specs.declared.socket_set.SocketStorage.{SocketStorage}
use Rattle.iface_ingress.specs.Context.{ContextValue}
use Rattle.iface_ingress.specs.Offer.TheVariants as Offer
use Rattle.iface_ingress.specs.PollAt.TheVariants as At
use Rattle.iface_ingress.specs.Socket.{Socket}
use Rattle.iface_ingress.specs.Sockets.{Offers, poll_of}
use Rattle.iface_egress.specs.Meta.{poll_by, freed, waits_by}
use Rattle.iface_ingress.specs.PollAt.{PollAt}
use Rattle.iface_ingress.specs.Idle.{is_idle}
use Rattle.interface.specs.Awaited.{is_marked, is_marked_at}
use Rattle.interface.specs.Host.{Sender}
use Rattle.interface.specs.Instant.{earlier, slot_instant, item_instant, local_instant, instant_of, instant_in, earlier_than}
use Rattle.interface.specs.Pass.{Pass, Passed, passed}
use Rattle.interface.specs.Remote.{context_for, end_by, remote_of}
use Rattle.interface.specs.Serve.{ServesSlot, ItemTurns, passes_filter, let_through, Asks, TurnsIf}
use Rattle.interface.specs.declared.serve.Served.TheVariants as Turn

-- FROM PLACE TO PLACE

nothing_left : {X : Type 0} (xs : List X) (n : ℕ) → length xs ≤ n → drop n xs ≡ []
nothing_left [] zero past = refl
nothing_left [] (suc n) past = refl
nothing_left (x ∷ xs) zero past = absurd (omega (arith, past))
nothing_left (x ∷ xs) (suc n) past = nothing_left xs n (omega (arith, past))

-- there is a slot, or there is none from it on
abbrev SlotOrEnd : {X : Type 0} → List X → ℕ → Type 0
SlotOrEnd {X} xs n =
    ((x : X) × (drop n xs ≡ x ∷ drop (suc n) xs) × (slice_get xs n ≡ Some x) × (take (suc n) xs ≡ take n xs ++ x ∷ []))
    ⊎ ((drop n xs ≡ []) × (drop (suc n) xs ≡ []) × (take (suc n) xs ≡ take n xs) × (slice_get xs n ≡ None))

next_offset : {X : Type 0} (y : X) (xs : List X) (n : ℕ) → SlotOrEnd xs n → SlotOrEnd (y ∷ xs) (suc n)
next_offset y xs n (inl h) = inl (h.0, h.1, h.2, ap (λ zs. y ∷ zs) h.3)
next_offset y xs n (inr h) = inr (h.0, h.1, ap (λ zs. y ∷ zs) h.2, h.3)

slot_or_end : {X : Type 0} (xs : List X) (n : ℕ) → SlotOrEnd xs n
slot_or_end [] zero = inr (refl, refl, refl, refl)
slot_or_end [] (suc n) = inr (refl, refl, refl, refl)
slot_or_end (x ∷ xs) zero = inl (x, refl, refl, refl)
slot_or_end (y ∷ xs) (suc n) = next_offset y xs n (slot_or_end xs n)

-- ANY

pub any_some : {X : Type 0} (test : X → Bool) (xs : List X) (i : ℕ) (x : X) → slice_get xs i ≡ Some x → test x ≡ true → list_any test xs ≡ true
any_some test [] i x is passes = absurd (cc)
any_some test (y ∷ xs) zero x is passes =
    let same : y ≡ x = cc in ap (λ b. b || list_any test xs) (ap test same ∙ passes)
any_some test (y ∷ xs) (suc i) x is passes =
    let more = any_some test xs i x is passes in elim (test y) as (λ b. (b || list_any test xs) ≡ true) [ true ↦ refl | false ↦ more ]

pub any_none : {X : Type 0} (test : X → Bool) (xs : List X) → ((i : ℕ) (x : X) → slice_get xs i ≡ Some x → test x ≡ false) → list_any test xs ≡ false
any_none test [] none = refl
any_none test (x ∷ xs) none = ap (λ b. b || list_any test xs) (none 0 x refl) ∙ any_none test xs (λ i y is. none (suc i) y is)

none_of : {X : Type 0} (test : X → Bool) (xs : List X) → list_any test xs ≡ false → (i : ℕ) (x : X) → slice_get xs i ≡ Some x → test x ≡ false
none_of test [] none i x is = absurd (cc)
none_of test (y ∷ xs) none zero x is =
    let same : y ≡ x = cc in sym (ap test same) ∙ (or_parts (test y) (list_any test xs) none).0
none_of test (y ∷ xs) none (suc i) x is = none_of test xs (or_parts (test y) (list_any test xs) none).1 i x is

-- A FOLD

none_some : {X : Type 0} {x : X} → None ≡ Some x → ⊥
none_some is = absurd (cc)

-- what changes nothing is passed over
module _ {X B : Type 0} (f : B → X → B) (Rests : X → Type 0) (stays : (b : B) (x : X) → Rests x → f b x ≡ b) where
  one_past : (n from : ℕ) (b : B) (xs : List X) → ((x : X) → slice_get xs from ≡ Some x → Rests x)
      → fold f b (drop (suc from) xs) ≡ fold f b (drop (n + suc from) xs) → SlotOrEnd xs from → fold f b (drop from xs) ≡ fold f b (drop (n + suc from) xs)
  one_past n from b xs rest on (inl h) =
      ap (fold f b) h.1 ∙ (ap (λ c. fold f c (drop (suc from) xs)) (stays b h.0 (rest h.0 h.2)) ∙ on)
  one_past n from b xs rest on (inr h) = ap (fold f b) (h.0 ∙ sym h.1) ∙ on

  pub fold_past : (n from : ℕ) (b : B) (xs : List X) → ((i : ℕ) (x : X) → from ≤ i → i < n + from → slice_get xs i ≡ Some x → Rests x) →
      fold f b (drop from xs) ≡ fold f b (drop (n + from) xs)
  fold_past zero from b xs rest = let same : from ≡ zero + from = omega arith in ap (λ k. fold f b (drop k xs)) same
  fold_past (suc n) from b xs rest =
      let same : n + suc from ≡ suc n + from = omega arith in
      one_past n from b xs (λ x is. rest from x (omega arith) (omega arith) is)
      (fold_past n (suc from) b xs (λ i x since less. rest i x (omega (arith, since)) (omega (arith, less)))) (slot_or_end xs from)
      ∙ ap (λ k. fold f b (drop k xs)) same

  -- the next one that doesn't rest, after those that do
  pub fold_next : (b : B) (xs : List X) (from at : ℕ) (x : X) → from ≤ at → ((k : ℕ) (y : X) → from ≤ k → k < at → slice_get xs k ≡ Some y → Rests y)
      → slice_get xs at ≡ Some x → fold f b (drop from xs) ≡ fold f (f b x) (drop (at + 1) xs)
  fold_next b xs from at x since rest is =
      let n : ℕ = at - from in
      let sum : n + from ≡ at = omega (arith, since) in
      let past : fold f b (drop from xs) ≡ fold f b (drop (n + from) xs) =
      fold_past n from b xs (λ k y s less. rest k y s (omega (arith, less, sum))) in
      past ∙ (ap (λ k. fold f b (drop k xs)) sum ∙ (here (slot_or_end xs at) ∙ next)) where
        next : fold f (f b x) (drop (suc at) xs) ≡ fold f (f b x) (drop (at + 1) xs)
        next = let one : suc at ≡ at + 1 = omega arith in ap (λ k. fold f (f b x) (drop k xs)) one

        here : SlotOrEnd xs at → fold f b (drop at xs) ≡ fold f (f b x) (drop (suc at) xs)
        here (inl h) =
            let same : h.0 ≡ x = cc in
            ap (fold f b) h.1 ∙ ap (λ y. fold f (f b y) (drop (suc at) xs)) same
        here (inr h) = absurd (none_some (sym h.3 ∙ is))

  pub fold_last : (b : B) (xs : List X) (from : ℕ) → ((k : ℕ) (y : X) → from ≤ k → slice_get xs k ≡ Some y → Rests y) → fold f b (drop from xs) ≡ b
  fold_last b xs from rest =
      fold_past (length xs) from b xs (λ k y since less. rest k y since)
      ∙ ap (fold f b) (nothing_left xs (length xs + from) (omega arith))

-- WHO IS AT REST

abbrev pub IsIdle : SocketStorage Socket → Type 0
IsIdle slot = is_socket_idle is_idle slot ≡ true

pub unmarked_idle : (slot : SocketStorage Socket) → IsIdle slot → is_marked slot ≡ false
unmarked_idle slot rests = by slot.inner rests where
  waits : (w : Option Waiting) → is_none w ≡ true → is_some w ≡ false
  waits None none = refl
  waits (Some w) none = absurd (cc)

  by : (o : Option (Item Socket)) → is_item_idle is_idle o ≡ true → is_marked_at o ≡ false
  by None rests = refl
  by (Some item) rests = waits item.meta.waiting (and_parts _ _ rests).0

-- NO MOMENT

none_at : (paths : List Path) (now : ℤ) (o : Option ℕ) → some_count paths now ≡ false → path_end_by (at_index o paths) now ≡ None
none_at paths now None none = refl
none_at paths now (Some at) none = by (slice_get paths at) refl where
  by : (p : Option Path) → slice_get paths at ≡ p → path_end_by p now ≡ None
  by None is = refl
  by (Some p) is = ap (λ (b : Bool). if b then Some p.until else None) (none_of (counts now) paths none at p is)

no_end : (paths : List Path) (address : IpAddress) (now : ℤ) → some_count paths now ≡ false → end_towards paths address now ≡ None
unfolding end_towards
no_end paths address now none = none_at paths now (position (leads_to address) paths) none

end_of_none : (i : InnerValue) (remote : Option IpAddress) → some_count i.paths i.instant ≡ false → end_by i remote ≡ None
end_of_none i None none = refl
end_of_none i (Some address) none = no_end i.paths address i.instant none

poll_unmarked : (w : Option Waiting) (heard : Bool) (instant : ℤ) (poll : PollAt) → is_none w ≡ true
    → poll_by w poll heard instant ≡ poll
poll_unmarked None heard instant poll none = refl
poll_unmarked (Some w) heard instant poll none = absurd (cc)

module _ (due_instant : (cx : ContextValue) (s : Socket) → is_idle s ≡ true → poll_of cx s ≡ At.Ingress) (i : InnerValue)
    (none : some_count i.paths i.instant ≡ false) where
  item_waits : (item : Item Socket) → is_item_idle is_idle (Some item) ≡ true → item_instant i item ≡ None
  item_waits item rests =
      let parts = and_parts _ _ rests in
      let local : local_instant i item ≡ None =
      ap instant_of
      (poll_unmarked item.meta.waiting (passes_filter i item.meta) i.instant (poll_of (context_for i item.socket) item.socket) parts.0
      ∙ due_instant (context_for i item.socket) item.socket parts.1) in
      ap (λ (e : Option ℤ). earlier e (local_instant i item)) (end_of_none i (remote_of item.socket) none) ∙ local

  slot_waits : (slot : SocketStorage Socket) → IsIdle slot → slot_instant i slot ≡ None
  slot_waits slot rests = by slot.inner rests where
    by : (o : Option (Item Socket)) → is_item_idle is_idle o ≡ true → instant_in i o ≡ None
    by None rests = refl
    by (Some item) rests = item_waits item rests

  earlier_none : (best other : Option ℤ) → other ≡ None → earlier best other ≡ best
  earlier_none None other is = is
  earlier_none (Some a) other is = ap (earlier_than a) is

  pub no_sooner : (best : Option ℤ) (slot : SocketStorage Socket) → IsIdle slot → earlier best (slot_instant i slot) ≡ best
  no_sooner best slot rests = earlier_none best (slot_instant i slot) (slot_waits slot rests)

  abbrev sooner : Option ℤ → SocketStorage Socket → Option ℤ
  sooner b slot = earlier b (slot_instant i slot)

  -- the next one that isn't idle, after those that are
  pub soonest_next : (best : Option ℤ) (ps : List (SocketStorage Socket)) (from at : ℕ) (slot : SocketStorage Socket) → from ≤ at
      → ((k : ℕ) (x : SocketStorage Socket) → from ≤ k → k < at → slice_get ps k ≡ Some x → IsIdle x) → slice_get ps at ≡ Some slot
      → fold sooner best (drop from ps) ≡ fold sooner (sooner best slot) (drop (at + 1) ps)
  soonest_next best ps from at slot since rest is = fold_next sooner IsIdle no_sooner best ps from at slot since rest is

  pub soonest_last : (best : Option ℤ) (ps : List (SocketStorage Socket)) (from : ℕ)
      → ((k : ℕ) (x : SocketStorage Socket) → from ≤ k → slice_get ps k ≡ Some x → IsIdle x) → fold sooner best (drop from ps) ≡ best
  soonest_last best ps from rest = fold_last sooner IsIdle no_sooner best ps from rest

-- NONE WAITS

either_way : (a b : ℕ) → (a ≤ b) ⊎ (b < a)
either_way a b = by (leb_tells a b) where
  by : ((leb a b ≡ true) × (a ≤ b)) ⊎ ((leb a b ≡ false) × (b < a)) → (a ≤ b) ⊎ (b < a)
  by (inl h) = inl h.1
  by (inr h) = inr h.1

-- none of those before a slot waits, nor of those idle after it, nor the next one
pub none_before : (ps : List (SocketStorage Socket)) (from at : ℕ) (slot : SocketStorage Socket)
    → ((k : ℕ) (x : SocketStorage Socket) → k < from → slice_get ps k ≡ Some x → is_marked x ≡ false)
    → ((k : ℕ) (x : SocketStorage Socket) → from ≤ k → k < at → slice_get ps k ≡ Some x → IsIdle x)
    → slice_get ps at ≡ Some slot → is_marked slot ≡ false
    → (k : ℕ) (x : SocketStorage Socket) → k < at + 1 → slice_get ps k ≡ Some x → is_marked x ≡ false
none_before ps from at slot before rest is none k x less got = by (either_way from k) (either_way at k) where
  by : (from ≤ k) ⊎ (k < from) → (at ≤ k) ⊎ (k < at) → is_marked x ≡ false
  by (inr earlier) other = before k x earlier got
  by (inl since) (inr sooner) = unmarked_idle x (rest k x since sooner got)
  by (inl since) (inl late) =
      let same : k ≡ at = omega (arith, less, late) in let here : slot ≡ x = cc in sym (ap is_marked here) ∙ none

-- nor any, where all that are left are idle
pub none_at_all : (ps : List (SocketStorage Socket)) (from : ℕ) → ((k : ℕ) (x : SocketStorage Socket) → k < from → slice_get ps k ≡ Some x → is_marked x ≡ false)
    → ((k : ℕ) (x : SocketStorage Socket) → from ≤ k → slice_get ps k ≡ Some x → IsIdle x) → list_any is_marked ps ≡ false
none_at_all ps from before rest = any_none is_marked ps (λ k x got. by k x got (either_way from k)) where
  by : (k : ℕ) (x : SocketStorage Socket) → slice_get ps k ≡ Some x → (from ≤ k) ⊎ (k < from) → is_marked x ≡ false
  by k x got (inl since) = unmarked_idle x (rest k x since got)
  by k x got (inr earlier) = before k x earlier got

-- TURNS THAT CHANGE NOTHING

unfreed : (m : Meta) (heard : Bool) → is_none m.waiting ≡ true → freed m heard ≡ m
unfreed m heard none = by heard (same m.waiting none) where
  same : (w : Option Waiting) → is_none w ≡ true → w ≡ None
  same None is = refl
  same (Some w) is = absurd (cc)

  by : (b : Bool) → m.waiting ≡ None → freed m b ≡ m
  by false is = refl
  by true is = ap (λ (w : Option Waiting). record { waiting = w }) (sym is)

unwaiting : (w : Option Waiting) (heard : Bool) (instant : ℤ) → is_none w ≡ true → waits_by w heard instant ≡ false
unwaiting None heard instant none = refl
unwaiting (Some w) heard instant none = absurd (cc)

or_false : (b : Bool) → (b || false) ≡ b
or_false true = refl
or_false false = refl

module _ (offers : (cx : ContextValue) (s : Socket) → is_idle s ≡ true → Offers cx s (Offer.Silent false) s) {D : Type 0}
    (moves : D → Move → D → Type 0) (turn : Option IpAddress) (s : Sender D) where
  abbrev Served : Option (Item Socket) → Option (Item Socket) → Type 0
  Served o o' = ItemTurns moves turn o s (Turn.Next false) s o'

  item_turns : (item : Item Socket) → is_item_idle is_idle (Some item) ≡ true → Served (Some item) (Some item)
  item_turns item rests =
      let parts = and_parts _ _ rests in
      let heard : Bool = passes_filter s.inner item.meta in
      let none : item.meta.waiting ≡ None = marked item.meta.waiting parts.0 in
      let through : let_through s.inner item ≡ item =
      ap (λ (m : Meta). record item { meta = m }) (unfreed item.meta heard parts.0) in
      let asked : Asks moves turn s item (Turn.Next false) s item = (
        Offer.Silent false,
        item.socket,
        offers (context_for s.inner item.socket) item.socket parts.1,
        (refl, refl, ap (λ (w : Option Waiting). record item { meta = record { waiting = w } }) none),
      ) in
      subst (λ (b : Bool). TurnsIf moves turn b s (let_through s.inner item) (Turn.Next false) s item)
      (sym (unwaiting item.meta.waiting heard s.inner.instant parts.0))
      (subst (λ (x : Item Socket). Asks moves turn s x (Turn.Next false) s item) (sym through) asked) where
        marked : (w : Option Waiting) → is_none w ≡ true → w ≡ None
        marked None is = refl
        marked (Some w) is = absurd (cc)

  slot_turns : (slot : SocketStorage Socket) → IsIdle slot → ServesSlot moves turn s slot (Turn.Next false) s slot
  slot_turns slot rests = by slot.inner rests where
    by : (o : Option (Item Socket)) → is_item_idle is_idle o ≡ true → Served o o
    by None rests = (refl, refl)
    by (Some item) rests = item_turns item rests

  pass_one : (ps : List (SocketStorage Socket)) (from : ℕ) (changed : Bool) (e : Passed D) → ((x : SocketStorage Socket) → slice_get ps from ≡ Some x → IsIdle x)
      → SlotOrEnd ps from → Pass moves turn s (take (suc from) ps) changed (drop (suc from) ps) e → Pass moves turn s (take from ps) changed (drop from ps) e
  pass_one ps from changed e rest (inl h) was_sent =
      subst (λ (xs : List (SocketStorage Socket)). Pass moves turn s (take from ps) changed xs e) (sym h.1)
      (inl (
        false,
        s,
        h.0,
        slot_turns h.0 (rest h.0 h.2),
        subst (λ (b : Bool). Pass moves turn s (take from ps ++ h.0 ∷ []) b (drop (suc from) ps) e) (sym (or_false changed))
            (subst (λ (xs : List (SocketStorage Socket)). Pass moves turn s xs changed (drop (suc from) ps) e) h.3 was_sent),
      ))
  pass_one ps from changed e rest (inr h) was_sent =
      subst (λ (xs : List (SocketStorage Socket)). Pass moves turn s xs changed (drop from ps) e) h.2
      (subst (λ (xs : List (SocketStorage Socket)). Pass moves turn s (take (suc from) ps) changed xs e) (h.1 ∙ sym h.0) was_sent)

  -- a pass goes past those idle
  pass_past : (n from : ℕ) (ps : List (SocketStorage Socket)) (changed : Bool) (e : Passed D)
      → ((k : ℕ) (x : SocketStorage Socket) → from ≤ k → k < n + from → slice_get ps k ≡ Some x → IsIdle x)
      → Pass moves turn s (take (n + from) ps) changed (drop (n + from) ps) e → Pass moves turn s (take from ps) changed (drop from ps) e
  pass_past zero from ps changed e rest was_sent =
      let same : zero + from ≡ from = omega arith in subst (λ (k : ℕ). Pass moves turn s (take k ps) changed (drop k ps) e) same was_sent
  pass_past (suc n) from ps changed e rest was_sent =
      let same : suc n + from ≡ n + suc from = omega arith in
      pass_one ps from changed e (λ x is. rest from x (omega arith) (omega arith) is) (slot_or_end ps from)
      (pass_past n (suc from) ps changed e (λ k x since less. rest k x (omega (arith, since)) (omega (arith, less)))
      (subst (λ (k : ℕ). Pass moves turn s (take k ps) changed (drop k ps) e) same was_sent))

  pub pass_to : (from at : ℕ) (ps : List (SocketStorage Socket)) (changed : Bool) (e : Passed D) → from ≤ at
      → ((k : ℕ) (x : SocketStorage Socket) → from ≤ k → k < at → slice_get ps k ≡ Some x → IsIdle x)
      → Pass moves turn s (take at ps) changed (drop at ps) e → Pass moves turn s (take from ps) changed (drop from ps) e
  pass_to from at ps changed e since rest was_sent =
      let n : ℕ = at - from in
      let sum : at ≡ n + from = omega (arith, since) in
      pass_past n from ps changed e (λ k x early less. rest k x early (omega (arith, less, sum)))
      (subst (λ (k : ℕ). Pass moves turn s (take k ps) changed (drop k ps) e) sum was_sent)

  all_of : (ps : List (SocketStorage Socket)) (n : ℕ) → length ps ≤ n → take n ps ≡ ps
  all_of [] zero past = refl
  all_of [] (suc n) past = refl
  all_of (x ∷ ps) zero past = absurd (omega (arith, past))
  all_of (x ∷ ps) (suc n) past = ap (λ zs. x ∷ zs) (all_of ps n (omega (arith, past)))

  pub pass_end : (from : ℕ) (ps : List (SocketStorage Socket)) (changed : Bool)
      → ((k : ℕ) (x : SocketStorage Socket) → from ≤ k → slice_get ps k ≡ Some x → IsIdle x)
      → Pass moves turn s (take from ps) changed (drop from ps) (passed s ps changed)
  pass_end from ps changed rest =
      let e : Passed D = passed s ps changed in
      let n : ℕ = length ps + from in
      pass_past (length ps) from ps changed e (λ k x since less. rest k x since)
      (subst (λ (xs : List (SocketStorage Socket)). Pass moves turn s (take n ps) changed xs e) (sym (nothing_left ps n (omega arith)))
      (ap (λ (xs : List (SocketStorage Socket)). passed s xs changed) (sym (all_of ps n (omega arith)))))
