-- A route that is found among those of its prefix.
use Rattle.std.proofs.Common.{◌≡◌, ◌≢◌, ℕ, zero, suc, ◌+◌, ◌-◌, ◌/◌, ◌^◌, ◌<◌, ◌≤◌, ◌==◌, ◌&&◌, Bool, true, false, not, nat_lt, ℤ, List, [], ◌∷◌, length, get_or, Option, None, Some, is_some, refl, sym, subst, ap, ◌∙◌, arith}
use Rattle.std.specs.Prelude.{if◌then◌else◌, ◌++◌, reverse, slice_get}
use Rattle.std.specs.List.{fold}
use Rattle.std.proofs.lemmas.Bool.Decides.{nat_tests}
use Rattle.std.proofs.lemmas.List.{length-set, reverse-append}
use Rattle.std.proofs.lemmas.List.Sums.{fold-append}
use Rattle.std.proofs.lemmas.Option.{slice_get_read, slice_get_within}
use Rattle.base_index.specs.Keys.{IsNextWith}
use Rattle.base_index.specs.Put.{put}
use Rattle.base_index.proofs.Puts.{put_within, put_here, put_elsewhere}
use Rattle.ip_wire.specs.Address.{v4_number, v6_number}
use Rattle.ip_wire.specs.AddressTests.{is_in_cidr, is_unicast, are_of_one_family}
use Rattle.ip_wire.specs.Cidr.{cidr_address, cidr_prefix_len}
use Rattle.ip_wire.specs.IpAddress.{IpAddress}
use Rattle.ip_wire.specs.IpAddress.TheVariants as Address
use Rattle.ip_wire.specs.IpCidr.{IpCidr}
use Rattle.ip_wire.specs.IpCidr.TheVariants as Cidr
use Rattle.iface_tables.specs.Best.{better_of}
use Rattle.iface_tables.specs.Prefixes.{sum_of_halves, prefix_key, route_key, AreKeyedBefore, AreKeyed, AreFalling, TellFrom, AreLengths, serves_by, NonePasses, IsLast, IsLongestBelow}
use Rattle.iface_tables.specs.Route.{serves, serving, is_expired, is_longer, best_route}
use Rattle.iface_tables.specs.declared.route.Route.{Route}
use Rattle.iface_tables.proofs.BestOf.{fold_better_of}
use Rattle.iface_tables.proofs.Orders.{IsStrictWeakOrder-is_longer}

abbrev len_of : Route → ℕ
len_of r = cidr_prefix_len r.cidr

less : (a b : ℕ) → a < b → nat_lt a b ≡ true
less a b is = grind (arith, nat_tests)

not_less : (a b : ℕ) → b ≤ a → nat_lt a b ≡ false
not_less a b is = grind (arith, nat_tests)

below : (a b : ℕ) → nat_lt a b ≡ true → a < b
below a b is = grind (arith, nat_tests)

above : (a b : ℕ) → nat_lt a b ≡ false → b ≤ a
above a b is = grind (arith, nat_tests)

equal : (a b : ℕ) → (a == b) ≡ true → a ≡ b
equal a b is = grind (arith, nat_tests)

equal_itself : (a : ℕ) → (a == a) ≡ true
equal_itself a = grind (arith, nat_tests)

front : (a b : Bool) → (a && b) ≡ true → a ≡ true
front true b is = refl
front false b is = is

back : (a b : Bool) → (a && b) ≡ true → b ≡ true
back true b is = is
back false b is = absurd cc

-- THE BEST ROUTE

module _ (address : IpAddress) (instant : ℤ) where
  abbrev step : Option Route → Route → Option Route
  step best r = better_of is_longer best (serving address instant r)

  abbrev best_fold : List Route → Option Route
  best_fold routes = fold (λ best r. better_of is_longer best (serving address instant r)) None (reverse routes)

  one_before : (r : Route) (rs : List Route) → best_fold (r ∷ rs) ≡ step (best_fold rs) r
  one_before r rs =
      ap (fold (λ best s. better_of is_longer best (serving address instant s)) None) (reverse-append (r ∷ []) rs)
      ∙ fold-append (λ best s. better_of is_longer best (serving address instant s)) None (reverse rs) (r ∷ [])

  best_of_none : (routes : List Route) → ((i : ℕ) (r : Route) → slice_get routes i ≡ Some r → serves address instant r ≡ false) → best_fold routes ≡ None
  best_of_none [] none = refl
  best_of_none (r ∷ rs) none =
      one_before r rs ∙ ap (λ (o : Option Route). step o r) (best_of_none rs (λ i x. none (suc i) x))
      ∙ ap (λ (b : Bool). better_of is_longer None (if b then Some r else None)) (none 0 r refl)

  -- a shorter prefix, if any
  abbrev IsShorter : ℕ → Option Route → Type 0
  IsShorter n None = 0 ≤ n
  IsShorter n (Some s) = len_of s < n

  one_more_shorter : (n : ℕ) (r : Route) (o : Option Route) (b : Bool) → IsShorter n o → (b ≡ true → len_of r < n)
      → IsShorter n (better_of is_longer o (if b then Some r else None))
  one_more_shorter n r None false shorter short = shorter
  one_more_shorter n r None true shorter short = short refl
  one_more_shorter n r (Some s) false shorter short = shorter
  one_more_shorter n r (Some s) true shorter short = by (is_longer r s) where
    by : (c : Bool) → IsShorter n (if c then Some r else Some s)
    by true = short refl
    by false = shorter

  all_shorter : (n : ℕ) (routes : List Route)
      → ((i : ℕ) (s : Route) → slice_get routes i ≡ Some s → serves address instant s ≡ true → len_of s < n) → IsShorter n (best_fold routes)
  all_shorter n [] short = omega arith
  all_shorter n (r ∷ rs) short =
      subst (λ (o : Option Route). IsShorter n o) (sym (one_before r rs))
      (one_more_shorter n r (best_fold rs) (serves address instant r) (all_shorter n rs (λ i s. short (suc i) s)) (short 0 r refl))

  wins : (r : Route) (o : Option Route) → IsShorter (len_of r) o → serves address instant r ≡ true → step o r ≡ Some r
  wins r None shorter is = ap (λ (b : Bool). better_of is_longer None (if b then Some r else None)) is
  wins r (Some s) shorter is =
      ap (λ (b : Bool). better_of is_longer (Some s) (if b then Some r else None)) is
      ∙ ap (λ (b : Bool). if b then Some r else Some s) (less (len_of s) (len_of r) shorter)

  stays : (r s : Route) → (serves address instant r ≡ true → len_of r ≤ len_of s) → step (Some s) r ≡ Some s
  stays r s short = by (serves address instant r) short where
    by : (b : Bool) → (b ≡ true → len_of r ≤ len_of s) → better_of is_longer (Some s) (if b then Some r else None) ≡ Some s
    by false h = refl
    by true h = ap (λ (c : Bool). if c then Some r else Some s) (not_less (len_of s) (len_of r) (h refl))

  best_at : (routes : List Route) (at : ℕ) (r : Route) → slice_get routes at ≡ Some r → serves address instant r ≡ true
      → ((i : ℕ) (s : Route) → slice_get routes i ≡ Some s → serves address instant s ≡ true → len_of s ≤ len_of r)
      → ((i : ℕ) (s : Route) → at < i → slice_get routes i ≡ Some s → serves address instant s ≡ true → len_of s < len_of r)
      → best_fold routes ≡ Some r
  best_at [] at r got is most last = absurd cc
  best_at (x ∷ xs) zero r got is most last =
      let same : x ≡ r = cc in
      one_before x xs ∙ ap (step (best_fold xs)) same
      ∙ wins r (best_fold xs) (all_shorter (len_of r) xs (λ i s there. last (suc i) s (omega arith) there)) is
  best_at (x ∷ xs) (suc at) r got is most last =
      one_before x xs
      ∙ ap (λ (o : Option Route). step o x) (best_at xs at r got is (λ i s. most (suc i) s) (λ i s later. last (suc i) s (omega (arith, later))))
      ∙ stays x r (most 0 x refl)

  folded : (routes : List Route) → best_fold routes ≡ best_route routes address instant
  folded routes = fold_better_of (serving address instant) is_longer IsStrictWeakOrder-is_longer (reverse routes)

-- LENGTH BY LENGTH

-- no route with one of the lengths before this one serves
abbrev pub NoneBy : List Route → List ℕ → IpAddress → ℤ → ℕ → Type 0
NoneBy routes lengths address instant end =
    (j n : ℕ) → j < end → slice_get lengths j ≡ Some n → NonePasses (serves_by n address instant) 0 routes

module _ (routes : List Route) (lengths : List ℕ) (address : IpAddress) (instant : ℤ) (are : AreLengths routes lengths) where
  abbrev NoneTo : ℕ → Type 0
  NoneTo end = NoneBy routes lengths address instant end

  passes : (r : Route) → serves address instant r ≡ true → serves_by (len_of r) address instant r ≡ true
  passes r is = ap (λ (b : Bool). b && (len_of r == len_of r)) is ∙ equal_itself (len_of r)

  refused : (j : ℕ) (k : ℕ) (r : Route) (end : ℕ) → NoneTo end → j < end → slice_get lengths j ≡ Some (len_of r) → slice_get routes k ≡ Some r
      → serves address instant r ≡ true → ⊥
  refused j k r end none early told there is =
      let no : serves_by (len_of r) address instant r ≡ false = none j (len_of r) early told k r (omega arith) there in
      let yes : serves_by (len_of r) address instant r ≡ true = passes r is in
      absurd cc

  module _ (i n : ℕ) (none : NoneTo i) (told : slice_get lengths i ≡ Some n) where
    at_most : (k : ℕ) (s : Route) → slice_get routes k ≡ Some s → serves address instant s ≡ true → len_of s ≤ n
    at_most k s there is = by (nat_lt index.0 i) refl where
      index : (j : ℕ) × (slice_get lengths j ≡ Some (len_of s))
      index = are.1 k s there (omega arith)

      by : (early : Bool) → nat_lt index.0 i ≡ early → len_of s ≤ n
      by true early = absurd (refused index.0 k s i none (below index.0 i early) index.1 there is)
      by false late = are.0 i index.0 n (len_of s) (above index.0 i late) told index.1

    found_some : (r : Route) → IsLast (serves_by n address instant) routes (Some r) → Some r ≡ best_route routes address instant
    found_some r last = sym (sym (folded address instant routes) ∙ best_at address instant routes last.0 r last.1 serves_it most following) where
      serves_it : serves address instant r ≡ true
      serves_it = front (serves address instant r) (len_of r == n) last.2

      len_is : len_of r ≡ n
      len_is = equal (len_of r) n (back (serves address instant r) (len_of r == n) last.2)

      most : (k : ℕ) (s : Route) → slice_get routes k ≡ Some s → serves address instant s ≡ true → len_of s ≤ len_of r
      most k s there is = omega (arith, at_most k s there is, len_is)

      following : (k : ℕ) (s : Route) → last.0 < k → slice_get routes k ≡ Some s → serves address instant s ≡ true → len_of s < len_of r
      following k s later there is = by (nat_lt (len_of s) (len_of r)) refl where
        by : (shorter : Bool) → nat_lt (len_of s) (len_of r) ≡ shorter → len_of s < len_of r
        by true e = below (len_of s) (len_of r) e
        by false e =
            let same : len_of s ≡ n = omega (arith, above (len_of s) (len_of r) e, at_most k s there is, len_is) in
            let no : serves_by n address instant s ≡ false = last.3 k s (omega (arith, later)) there in
            let yes : serves_by n address instant s ≡ true = subst (λ (m : ℕ). serves_by m address instant s ≡ true) same (passes s is) in
            absurd cc

    pub found_by : (found : Option Route) → is_some found ≡ true → IsLast (serves_by n address instant) routes found → found ≡ best_route routes address instant
    found_by None is last = absurd cc
    found_by (Some r) is last = found_some r last

    pub none_by : (found : Option Route) → is_some found ≡ false → IsLast (serves_by n address instant) routes found → NoneTo (i + 1)
    none_by (Some r) is last = absurd cc
    none_by None is last = λ j m early there. by j m early there (nat_lt j i) refl where
      by : (j m : ℕ) → j < i + 1 → slice_get lengths j ≡ Some m → (sooner : Bool) → nat_lt j i ≡ sooner → NonePasses (serves_by m address instant) 0 routes
      by j m early there true sooner = none j m (below j i sooner) there
      by j m early there false e =
          let here : j ≡ i = omega (arith, above j i e, early) in
          let same : m ≡ n = cc in
          subst (λ (k : ℕ). NonePasses (serves_by k address instant) 0 routes) (sym same) last

  pub none_at_all : (end : ℕ) → length lengths ≤ end → NoneTo end → None ≡ best_route routes address instant
  none_at_all end whole none = sym (sym (folded address instant routes) ∙ best_of_none address instant routes refuses) where
    refuses : (k : ℕ) (r : Route) → slice_get routes k ≡ Some r → serves address instant r ≡ false
    refuses k r there = by (serves address instant r) refl where
      index : (j : ℕ) × (slice_get lengths j ≡ Some (len_of r))
      index = are.1 k r there (omega arith)

      by : (b : Bool) → serves address instant r ≡ b → serves address instant r ≡ false
      by false is = is
      by true is =
          let early : index.0 < end = omega (arith, slice_get_within lengths index.0 (len_of r) index.1, whole) in
          absurd (refused index.0 k r end none early index.1 there is)

-- THE ROUTES OF A KEY

-- of one block, one key
one_key : (b : IpCidr) (a : IpAddress) → is_in_cidr b a ≡ true → prefix_key (cidr_prefix_len b) (cidr_address b) ≡ prefix_key (cidr_prefix_len b) a
one_key (Cidr.Ipv4 b) (Address.Ipv4 a) is = sym (equal (v4_number a / 2 ^ (32 - b.prefix_len)) (v4_number b.address / 2 ^ (32 - b.prefix_len)) is)
one_key (Cidr.Ipv6 b) (Address.Ipv6 a) is =
    ap sum_of_halves (sym (equal (v6_number a / 2 ^ (128 - b.prefix_len)) (v6_number b.address / 2 ^ (128 - b.prefix_len)) is))
one_key (Cidr.Ipv4 b) (Address.Ipv6 a) is = absurd cc
one_key (Cidr.Ipv6 b) (Address.Ipv4 a) is = absurd cc

-- no route from this place on up to that one passes the test
abbrev pub NoneWithin : (Route → Bool) → ℕ → ℕ → List Route → Type 0
NoneWithin test from end routes = (i : ℕ) (r : Route) → from ≤ i → i < end → slice_get routes i ≡ Some r → test r ≡ false

-- up to this place, the last that passes the test
abbrev pub IsLastUpTo : (Route → Bool) → ℕ → List Route → Option Route → Type 0
IsLastUpTo test end routes None = NoneWithin test 0 end routes
IsLastUpTo test end routes (Some r) = (at : ℕ) × (slice_get routes at ≡ Some r) × (test r ≡ true) × NoneWithin test (at + 1) end routes

module _ (test : Route → Bool) (routes : List Route) where
  onward : (begin from end : ℕ) → NoneWithin test begin from routes → NoneWithin test from end routes → NoneWithin test begin end routes
  onward begin from end none gap i r low high there = by (nat_lt i from) refl where
    by : (early : Bool) → nat_lt i from ≡ early → test r ≡ false
    by true is = none i r low (below i from is) there
    by false is = gap i r (above i from is) high there

  last_onward : (from end : ℕ) (found : Option Route) → IsLastUpTo test from routes found → NoneWithin test from end routes → IsLastUpTo test end routes found
  last_onward from end None none gap = onward 0 from end none gap
  last_onward from end (Some r) last gap = (last.0, last.1, last.2, onward (last.0 + 1) from end last.3 gap)

  last_of_all : (end : ℕ) (found : Option Route) → length routes ≤ end → IsLastUpTo test end routes found → IsLast test routes found
  last_of_all end None whole none = λ i r low there. none i r low (omega (arith, slice_get_within routes i r there, whole)) there
  last_of_all end (Some s) whole last =
      (last.0, last.1, last.2, λ i r low there. last.3 i r low (omega (arith, slice_get_within routes i r there, whole)) there)

  one_onward : (at : ℕ) (r : Route) (found : Option Route) → slice_get routes at ≡ Some r → IsLastUpTo test at routes found
      → IsLastUpTo test (at + 1) routes (if test r then Some r else found)
  one_onward at r found got last = by (test r) refl where
    only : (i : ℕ) (s : Route) → at ≤ i → i < at + 1 → slice_get routes i ≡ Some s → s ≡ r
    only i s low high there = let here : i ≡ at = omega (arith, low, high) in cc

    by : (b : Bool) → test r ≡ b → IsLastUpTo test (at + 1) routes (if b then Some r else found)
    by true is = (at, got, is, λ i s low high there. absurd (omega (arith, low, high)))
    by false is = last_onward at (at + 1) found last (λ i s low high there. ap test (only i s low high there) ∙ is)

-- what a walk over the places of a key has come to: the next of them, and the last route before it that serves
pub record IsSought (routes : List Route) (keys : List ℕ) (len : ℕ) (address : IpAddress) (instant : ℤ) (link : Option ℕ) (found : Option Route) : Type 0 where
  pub from : ℕ
  pub next : IsNextWith (prefix_key len address) from keys link
  pub last : IsLastUpTo (serves_by len address instant) from routes found

-- how many places are left
abbrev pub left_to_go : ℕ → Option ℕ → ℕ
left_to_go size None = 0
left_to_go size (Some at) = size - at

pub sought_first : (routes : List Route) (keys : List ℕ) (len : ℕ) (address : IpAddress) (instant : ℤ) (link : Option ℕ)
    → IsNextWith (prefix_key len address) 0 keys link → IsSought routes keys len address instant link None
sought_first routes keys len address instant link next =
    record { from = 0; next = next; last = λ i r low high there. absurd (omega (arith, high)) }

module _ (routes : List Route) (keys : List ℕ) (len : ℕ) (address : IpAddress) (instant : ℤ) (keyed : AreKeyed routes keys) where
  abbrev test : Route → Bool
  test r = serves_by len address instant r

  has_key : (i : ℕ) (r : Route) → slice_get routes i ≡ Some r → test r ≡ true → slice_get keys i ≡ Some (prefix_key len address)
  has_key i r got is =
      let serves_it : serves address instant r ≡ true = front (serves address instant r) (len_of r == len) is in
      let len_is : len_of r ≡ len = equal (len_of r) len (back (serves address instant r) (len_of r == len) is) in
      let live : Bool = is_in_cidr r.cidr address && not (is_expired r.expires_at instant) in
      let inside : is_in_cidr r.cidr address ≡ true =
      front (is_in_cidr r.cidr address) (not (is_expired r.expires_at instant))
      (front live (is_unicast r.via_router) (front (live && is_unicast r.via_router) (are_of_one_family r.via_router address) serves_it)) in
      keyed i r (slice_get_within routes i r got) got ∙ ap Some (one_key r.cidr address inside ∙ ap (λ (n : ℕ). prefix_key n address) len_is)

  skipped : (from end : ℕ) → ((i : ℕ) → from ≤ i → i < end → slice_get keys i ≡ Some (prefix_key len address) → ⊥) → NoneWithin test from end routes
  skipped from end gap i r low high there = by (test r) refl where
    by : (b : Bool) → test r ≡ b → test r ≡ false
    by false is = is
    by true is = absurd (gap i low high (has_key i r there is))

  before_it : (at : ℕ) (found : Option Route) → IsSought routes keys len address instant (Some at) found → IsLastUpTo test at routes found
  before_it at found s = last_onward test routes s.from at found s.last (skipped s.from at s.next.2)

  at_link : (at : ℕ) (link : Option ℕ) (found : Option Route) → link ≡ Some at → IsSought routes keys len address instant link found
      → IsSought routes keys len address instant (Some at) found
  at_link at link found is s = subst (λ (o : Option ℕ). IsSought routes keys len address instant o found) is s

  module _ (at : ℕ) (link : Option ℕ) (found : Option Route) (is : link ≡ Some at) (s : IsSought routes keys len address instant link found) where
    here : IsSought routes keys len address instant (Some at) found
    here = at_link at link found is s

    pub past_here : length routes ≤ at → IsLast test routes found
    past_here past = last_of_all test routes at found past (before_it at found here)

    pub in_range_here : at < length keys
    in_range_here = slice_get_within keys at (prefix_key len address) here.next.1

    module _ (next : Option ℕ) (leads : (key : ℕ) → slice_get keys at ≡ Some key → IsNextWith key (at + 1) keys next) where
      sought_on : (r : Route) → slice_get routes at ≡ Some r → IsSought routes keys len address instant next (if test r then Some r else found)
      sought_on r got = record {
        from = at + 1;
        next = leads (prefix_key len address) here.next.1;
        last = one_onward test routes at r found got (before_it at found here);
      }

      pub found_on : (r : Route) (new : Option Route) → at < length routes → r ≡ get_or routes at r
          → new ≡ (if test r then Some r else found) → IsSought routes keys len address instant next new
      found_on r new within read value =
          subst (λ (f : Option Route). IsSought routes keys len address instant next f)
          (sym value)
          (sought_on r (slice_get_read routes (length routes) at r refl within read))

      nearer : (to : Option ℕ) → IsNextWith (prefix_key len address) (at + 1) keys to → left_to_go (length keys) to < left_to_go (length keys) (Some at)
      nearer None n = omega (arith, in_range_here)
      nearer (Some to) n = omega (arith, in_range_here, n.0, slice_get_within keys to (prefix_key len address) n.1)

      pub less_to_go : left_to_go (length keys) next < left_to_go (length keys) link
      less_to_go =
          subst (λ (o : Option ℕ). left_to_go (length keys) next < left_to_go (length keys) o) (sym is) (nearer next (leads (prefix_key len address) here.next.1))

  pub ended_here : (link : Option ℕ) (found : Option Route) → link ≡ None → IsSought routes keys len address instant link found → IsLast test routes found
  ended_here link found is s =
      let over : IsSought routes keys len address instant None found = subst (λ (o : Option ℕ). IsSought routes keys len address instant o found) is s in
      last_of_all test routes (length routes) found (omega arith)
      (last_onward test routes over.from (length routes) found over.last (skipped over.from (length routes) (λ i low high. over.next i low)))

-- KEYS THAT ARE GIVEN

module _ (routes : List Route) (keys new : List ℕ) (at key : ℕ) (route : Route) (b : Bool) (before : AreKeyedBefore at routes keys)
    (room : length routes ≤ length keys) (within : at < length routes) (read : route ≡ get_or routes at route)
    (key_is : key ≡ route_key route) (value : new ≡ (if b then put at key keys else keys)) (done : at < length keys → b ≡ true) where
  placed : new ≡ put at key keys
  placed = value ∙ ap (λ (c : Bool). if c then put at key keys else keys) (done (omega (arith, room, within)))

  pub as_long : length new ≡ length keys
  as_long = ap length (placed ∙ sym (put_within keys at key (omega (arith, room, within)))) ∙ length-set keys at key

  pub one_more_key : AreKeyedBefore (at + 1) routes new
  one_more_key i r less_than there = by (nat_lt i at) refl where
    by : (early : Bool) → nat_lt i at ≡ early → slice_get new i ≡ Some (route_key r)
    by true is =
        let early : i < at = below i at is in
        let other : i ≢ at = λ same. absurd (omega (arith, early, same)) in
        ap (λ (ks : List ℕ). slice_get ks i) placed ∙ put_elsewhere keys at i key other ∙ before i r early there
    by false is =
        let here : i ≡ at = omega (arith, above i at is, less_than) in
        let got : slice_get routes at ≡ Some route = slice_get_read routes (length routes) at route refl within read in
        let same : r ≡ route = cc in
        ap (λ (ks : List ℕ). slice_get ks i) placed ∙ ap (slice_get (put at key keys)) here
        ∙ put_here keys at key (omega (arith, room, within)) ∙ ap Some (key_is ∙ ap (λ (x : Route). route_key x) (sym same))

-- LENGTHS

module _ {X : Type 0} where
  split : (xs : List X) (y : X) (i : ℕ) (x : X) (C : Type 0) → slice_get (xs ++ y ∷ []) i ≡ Some x → (slice_get xs i ≡ Some x → C)
      → (i ≡ length xs → x ≡ y → C) → C
  split [] y zero x C got early last = last refl cc
  split [] y (suc i) x C got early last = absurd cc
  split (z ∷ zs) y zero x C got early last = early got
  split (z ∷ zs) y (suc i) x C got early last = split zs y i x C got early (λ e. last (ap suc e))

  kept : (xs : List X) (y : X) (i : ℕ) (x : X) → slice_get xs i ≡ Some x → slice_get (xs ++ y ∷ []) i ≡ Some x
  kept [] y i x got = absurd cc
  kept (z ∷ zs) y zero x got = got
  kept (z ∷ zs) y (suc i) x got = kept zs y i x got

  pushed : (xs : List X) (y : X) → slice_get (xs ++ y ∷ []) (length xs) ≡ Some y
  pushed [] y = refl
  pushed (z ∷ zs) y = pushed zs y

-- the lengths found so far: the longest first, none below this bound, and all from it on
pub record AreFrom (bound : ℕ) (routes : List Route) (lengths : List ℕ) : Type 0 where
  pub falling : AreFalling lengths
  pub least : (i n : ℕ) → slice_get lengths i ≡ Some n → bound ≤ n
  pub all : TellFrom bound routes lengths

at_most_128 : (b : IpCidr) → cidr_prefix_len b ≤ 128
at_most_128 (Cidr.Ipv4 b) = omega (arith, b.in_range)
at_most_128 (Cidr.Ipv6 b) = omega (arith, b.in_range)

module _ (routes : List Route) where
  pub from_the_top : AreFrom 129 routes []
  from_the_top = record {
    falling = λ i j a b order one other. absurd cc;
    least = λ i n got. absurd cc;
    all = λ at r got long. absurd (omega (arith, long, at_most_128 r.cidr));
  }

  module _ (bound : ℕ) (lengths : List ℕ) (s : AreFrom bound routes lengths) where
    pub one_more_length : (n : ℕ) (o : Option ℕ) → o ≡ Some n → IsLongestBelow bound (length routes) routes o → AreFrom n routes (lengths ++ n ∷ [])
    one_more_length n o is longest = record { falling = falling; least = least; all = all } where
      it : IsLongestBelow bound (length routes) routes (Some n)
      it = subst (λ (x : Option ℕ). IsLongestBelow bound (length routes) routes x) is longest

      least : (i m : ℕ) → slice_get (lengths ++ n ∷ []) i ≡ Some m → n ≤ m
      least i m got = split lengths n i m (n ≤ m) got (λ early. omega (arith, s.least i m early, it.0)) (λ index same. omega (arith, same))

      falling : AreFalling (lengths ++ n ∷ [])
      falling i j a b order one other =
          split lengths n j b (b ≤ a) other
          (λ early. split lengths n i a (b ≤ a) one (λ sooner. s.falling i j a b order sooner early)
          (λ index same. absurd (omega (arith, index, order, slice_get_within lengths j b early))))
          (λ index same. omega (arith, same, least i a one))

      all : TellFrom n routes (lengths ++ n ∷ [])
      all at r got long = by (nat_lt (len_of r) bound) refl where
        by : (short : Bool) → nat_lt (len_of r) bound ≡ short → (i : ℕ) × (slice_get (lengths ++ n ∷ []) i ≡ Some (len_of r))
        by true short =
            let same : n ≡ len_of r = omega (arith, long, it.1 at r (slice_get_within routes at r got) got (below (len_of r) bound short)) in
            (length lengths, pushed lengths n ∙ ap Some same)
        by false e =
            let old : (i : ℕ) × (slice_get lengths i ≡ Some (len_of r)) = s.all at r got (above (len_of r) bound e) in
            (old.0, kept lengths n old.0 (len_of r) old.1)

    pub no_more_lengths : (o : Option ℕ) → o ≡ None → IsLongestBelow bound (length routes) routes o → AreLengths routes lengths
    no_more_lengths o is longest = (s.falling, all) where
      it : IsLongestBelow bound (length routes) routes None
      it = subst (λ (x : Option ℕ). IsLongestBelow bound (length routes) routes x) is longest

      all : TellFrom 0 routes lengths
      all at r got long = s.all at r got (it at r (slice_get_within routes at r got) got)
