-- The routes of a host: those left that it came with, and some that never expire.
use Rattle.std.proofs.Common.{◌≡◌, ◌≤ℤ◌, inl, inr, ℕ, suc, ◌+◌, ℤ, int_lt, Bool, true, false, cond, not, ◌&&◌, nat_lt, if◌then◌else◌, List, [], ◌∷◌, ◌++◌}
use Rattle.std.proofs.Common.{length, reverse, Option, None, Some, refl, sym, ap, ◌∙◌, subst, arith}
use Rattle.std.specs.List.{AllByRecursion, filter_map, prefix_len, cons_option}
use Rattle.std.proofs.lemmas.Bool.Decides.{nat_tests}
use Rattle.std.proofs.lemmas.List.{reverse-append}
use Rattle.iface_ingress.specs.AddressTests.{is_in_cidr, is_unicast, are_of_one_family}
use Rattle.iface_ingress.specs.IpAddress.{IpAddress}
use Rattle.interface.specs.QuietStep.{RoutesStay}
use Rattle.iface_tables.specs.Best.{first_best}
use Rattle.iface_tables.specs.Inner.{InnerValue, is_on_link}
use Rattle.iface_tables.specs.Route.{is_expired, serving, is_longer, router_of, without, without_at}
use Rattle.iface_tables.specs.declared.route.Route.{Route}
use Rattle.lan.specs.Worlds.Hosts.Quiet.{IsOutside, NoneExpires}

-- LISTS

module _ {X : Type 0} (P : X → Type 0) where
  pub all_append : (xs ys : List X) → AllByRecursion P xs → AllByRecursion P ys → AllByRecursion P (xs ++ ys)
  all_append [] ys one two = two
  all_append (x ∷ xs) ys one two = (one.0, all_append xs ys one.1 two)

  pub all_reverse : (xs : List X) → AllByRecursion P xs → AllByRecursion P (reverse xs)
  all_reverse [] all = tt
  all_reverse (x ∷ xs) all = subst (AllByRecursion P) (sym (reverse-append (x ∷ []) xs)) (all_append (reverse xs) (x ∷ []) (all_reverse xs all.1) (all.0, tt))

pub filter_same : {X Y : Type 0} (f g : X → Option Y) (xs : List X) → AllByRecursion (λ x. f x ≡ g x) xs → filter_map f xs ≡ filter_map g xs
filter_same f g [] all = refl
filter_same {X} {Y} f g (x ∷ xs) all =
    ap (λ (o : Option Y). cons_option o (filter_map f xs)) all.0 ∙ ap (λ (ys : List Y). cons_option (g x) ys) (filter_same f g xs all.1)

-- LOOKUP

same_expiry : (from until : ℤ) (o : Option ℤ) → from ≤ℤ until → IsOutside from until o → is_expired o until ≡ is_expired o from
same_expiry from until None up out = refl
same_expiry from until (Some end) up (inl before) =
    let one : int_lt end until ≡ true = grind (arith) in
    let two : int_lt end from ≡ true = grind (arith) in
    one ∙ sym two
same_expiry from until (Some end) up (inr after) =
    let one : int_lt end until ≡ false = grind (arith) in
    let two : int_lt end from ≡ false = grind (arith) in
    one ∙ sym two

same_serving : (address : IpAddress) (from until : ℤ) (r : Route) → from ≤ℤ until → IsOutside from until r.expires_at →
    serving address until r ≡ serving address from r
same_serving address from until r up out =
    ap (λ (b : Bool). if is_in_cidr r.cidr address && not b && is_unicast r.via_router && are_of_one_family r.via_router address then Some r else None)
    (same_expiry from until r.expires_at up out)

all_serve : (address : IpAddress) (from until : ℤ) (rs : List Route) → from ≤ℤ until → NoneExpires from until rs →
    AllByRecursion (λ r. serving address until r ≡ serving address from r) rs
all_serve address from until [] up out = tt
all_serve address from until (r ∷ rs) up out = (same_serving address from until r up out.0, all_serve address from until rs up out.1)

pub routes_stay : (asked : InnerValue) (t : ℤ) → asked.instant ≤ℤ t → NoneExpires asked.instant t asked.routes → RoutesStay asked t
routes_stay asked t up out address =
    ap (λ (rs : List Route). if is_on_link asked address then Some address else router_of (first_best is_longer rs))
    (filter_same (serving address t) (serving address asked.instant) (reverse asked.routes)
    (all_reverse (λ r. serving address t r ≡ serving address asked.instant r) asked.routes (all_serve address asked.instant t asked.routes up out)))

-- DEFAULT ROUTES

some_first : (n : ℕ) → nat_lt 0 (suc n) ≡ true
some_first n = grind (arith, nat_tests)

one_on : (m n : ℕ) → nat_lt (suc m) (suc n) ≡ nat_lt m n
one_on m n = by (nat_lt m n) refl where
  by : (b : Bool) → nat_lt m n ≡ b → nat_lt (suc m) (suc n) ≡ b
  by true is = grind (arith, nat_tests)
  by false is = grind (arith, nat_tests)

one_more : (m : ℕ) → 1 + m ≡ suc m
one_more m = omega arith

later_at : (b : Bool) (m : ℕ) (x : Route) (xs : List Route) → without_at (cond b (Some (suc m)) None) (x ∷ xs) ≡ x ∷ without_at (cond b (Some m) None) xs
later_at true m x xs = refl
later_at false m x xs = refl

abbrev pub AreForever : List Route → Type 0
AreForever rs = AllByRecursion (λ r. r.expires_at ≡ None) rs

module _ (test : Route → Bool) where
  without_here : (x : Route) (xs : List Route) → test x ≡ true → without test (x ∷ xs) ≡ xs
  without_here x xs is =
      ap (λ (b : Bool). without_at
      (cond (nat_lt (cond (not b) (1 + prefix_len (λ r. not (test r)) xs) 0) (suc (length xs)))
      (Some (cond (not b) (1 + prefix_len (λ r. not (test r)) xs) 0)) None) (x ∷ xs)) is
      ∙ ap (λ (b : Bool). without_at (cond b (Some 0) None) (x ∷ xs)) (some_first (length xs))

  without_later : (x : Route) (xs : List Route) → test x ≡ false → without test (x ∷ xs) ≡ x ∷ without test xs
  without_later x xs is =
      let m = prefix_len (λ r. not (test r)) xs in
      ap (λ (b : Bool). without_at (cond (nat_lt (cond (not b) (1 + m) 0) (suc (length xs))) (Some (cond (not b) (1 + m) 0)) None) (x ∷ xs)) is
      ∙ ap (λ (n : ℕ). without_at (cond (nat_lt n (suc (length xs))) (Some n) None) (x ∷ xs)) (one_more m)
      ∙ ap (λ (b : Bool). without_at (cond b (Some (suc m)) None) (x ∷ xs)) (one_on m (length xs))
      ∙ later_at (nat_lt m (length xs)) m x xs

  fewer_forever : (rs : List Route) → AreForever rs → AreForever (without test rs)
  fewer_forever [] all = tt
  fewer_forever (r ∷ rs) all = by (test r) refl (fewer_forever rs all.1) where
    by : (b : Bool) → test r ≡ b → AreForever (without test rs) → AreForever (without test (r ∷ rs))
    by true is rest = subst AreForever (sym (without_here r rs is)) all.1
    by false is rest = subst AreForever (sym (without_later r rs is)) (all.0, rest)

  -- a route goes of the first ones, or of the others
  abbrev pub Fewer : List Route → List Route → Type 0
  Fewer kept added = (rest : List Route) × (without test (kept ++ added) ≡ without test kept ++ rest) × AreForever rest

  pub without_both : (kept added : List Route) → AreForever added → Fewer kept added
  without_both [] added all = (without test added, refl, fewer_forever added all)
  without_both (r ∷ kept) added all = by (test r) refl (without_both kept added all) where
    by : (b : Bool) → test r ≡ b → Fewer kept added → Fewer (r ∷ kept) added
    by true is more = (added, without_here r (kept ++ added) is ∙ ap (λ (xs : List Route). xs ++ added) (sym (without_here r kept is)), all)
    by false is more = (
      more.0,
      without_later r (kept ++ added) is ∙ ap (λ (xs : List Route). r ∷ xs) more.1 ∙ ap (λ (xs : List Route). xs ++ more.0) (sym (without_later r kept is)),
      more.2,
    )
