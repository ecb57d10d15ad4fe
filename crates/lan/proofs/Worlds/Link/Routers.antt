-- The router of a route is an address.
use Rattle.std.proofs.Common.{ℕ, zero, suc, Bool, true, false, cond, List, [], ◌∷◌, ◌++◌, take, drop, Option, Some, None, IfSome, sym, subst}
use Rattle.std.proofs.lemmas.List.{reverse-append}
use Rattle.std.specs.Prelude.{ℤ, reverse, find, position}
use Rattle.std.specs.List.{AllByRecursion, filter_map, cons_option}
use Rattle.iface_ingress.specs.Address.{IsIpAddress}
use Rattle.iface_ingress.specs.IpAddress.{IpAddress}
use Rattle.iface_tables.specs.Best.{is_unbeaten}
use Rattle.iface_tables.specs.Route.{serves, serving, is_longer, best_route, router_of, without_at, without}
use Rattle.iface_tables.specs.declared.route.Route.{Route}
use Rattle.lan.specs.Worlds.Link.Sides.{RoutersAre}
use Rattle.lan.proofs.Worlds.Link.Assemblers.{all_more}

abbrev IsVia : Route → Type 0
IsVia r = IsIpAddress r.via_router

module _ {X : Type 0} (P : X → Type 0) where
  find_is : (test : X → Bool) (xs : List X) → AllByRecursion P xs → IfSome (find test xs) P
  find_is test [] all = tt
  find_is test (x ∷ xs) all = elim (test x) as (λ b. IfSome (cond b (Some x) (find test xs)) P) [ true ↦ all.0 | false ↦ find_is test xs all.1 ]

one_serving : (address : IpAddress) (instant : ℤ) (r : Route) (rest : List Route) → IsVia r → AllByRecursion IsVia rest →
    AllByRecursion IsVia (cons_option (serving address instant r) rest)
one_serving address instant r rest is all =
    elim (serves address instant r) as (λ b. AllByRecursion IsVia (cons_option (cond b (Some r) None) rest)) [ true ↦ (is, all) | false ↦ all ]

serving_are : (address : IpAddress) (instant : ℤ) (routes : List Route) → AllByRecursion IsVia routes →
    AllByRecursion IsVia (filter_map (serving address instant) routes)
serving_are address instant [] all = tt
serving_are address instant (r ∷ routes) all =
    one_serving address instant r (filter_map (serving address instant) routes) all.0 (serving_are address instant routes all.1)

all_reverse : (routes : List Route) → AllByRecursion IsVia routes → AllByRecursion IsVia (reverse routes)
all_reverse [] all = tt
all_reverse (r ∷ routes) all =
    subst (AllByRecursion IsVia) (sym (reverse-append (r ∷ []) routes)) (all_more IsVia (reverse routes) r (all_reverse routes all.1) all.0)

via_is : (o : Option Route) → IfSome o IsVia → IfSome (router_of o) IsIpAddress
via_is None is = tt
via_is (Some r) is = is

-- whichever route a packet takes, its router is an address
pub routers_are : (routes : List Route) → RoutersAre routes → (address : IpAddress) (instant : ℤ) →
    IfSome (router_of (best_route routes address instant)) IsIpAddress
routers_are routes all address instant =
    let candidates : List Route = filter_map (serving address instant) (reverse routes) in
    via_is (best_route routes address instant)
    (find_is IsVia (is_unbeaten is_longer candidates) candidates (serving_are address instant (reverse routes) (all_reverse routes all)))

-- WITHOUT ONE

all_take : (n : ℕ) (xs : List Route) → AllByRecursion IsVia xs → AllByRecursion IsVia (take n xs)
all_take zero xs all = tt
all_take (suc n) [] all = tt
all_take (suc n) (x ∷ xs) all = (all.0, all_take n xs all.1)

all_drop : (n : ℕ) (xs : List Route) → AllByRecursion IsVia xs → AllByRecursion IsVia (drop n xs)
all_drop zero xs all = all
all_drop (suc n) [] all = tt
all_drop (suc n) (x ∷ xs) all = all_drop n xs all.1

all_join : (xs ys : List Route) → AllByRecursion IsVia xs → AllByRecursion IsVia ys → AllByRecursion IsVia (xs ++ ys)
all_join [] ys all more = more
all_join (x ∷ xs) ys all more = (all.0, all_join xs ys all.1 more)

without_is : (o : Option ℕ) (routes : List Route) → AllByRecursion IsVia routes → AllByRecursion IsVia (without_at o routes)
without_is None routes all = all
without_is (Some at) routes all = all_join (take at routes) (drop (suc at) routes) (all_take at routes all) (all_drop (suc at) routes all)

-- a route that is added, in the place of another or not
pub added_routers : (test : Route → Bool) (routes : List Route) (r : Route) → RoutersAre routes → IsIpAddress r.via_router →
    RoutersAre (without test routes ++ r ∷ [])
added_routers test routes r all is = all_more IsVia (without test routes) r (without_is (position test routes) routes all) is
