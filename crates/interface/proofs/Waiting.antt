-- Of the neighbours that are waited for, one comes first.
use Rattle.std.proofs.Common.{◌≡◌, Bool, true, false, not, cond, if◌then◌else◌, List, [], ◌∷◌, Option, Some, None, is_some, refl, ap, subst, arith}
use Rattle.std.specs.Prelude.{ℤ, find}
use Rattle.std.specs.Cmp.{IsStrictWeakOrder}
use Rattle.std.specs.List.{filter_map, list_any}
use Rattle.std.proofs.lemmas.Bool.{or_parts}
use Rattle.ip_wire.specs.AddressTests.{is_same_address}
use Rattle.ip_wire.specs.IpAddress.{IpAddress}
use Rattle.iface_ingress.specs.Socket.{Socket}
use Rattle.iface_tables.specs.Best.{first_best, is_unbeaten}
use Rattle.iface_tables.specs.Inner.{InnerValue}
use Rattle.iface_egress.specs.Departure.{target_of}
use Rattle.iface_egress.specs.declared.frame.NeighborQuery.{NeighborQuery}
use Rattle.iface_egress.specs.declared.plan.Plan.TheVariants as Way
use Rattle.iface_egress.specs.declared.socket_meta.Meta.{Meta}
use Rattle.iface_egress.specs.declared.socket_meta.Waiting.{Waiting}
use Rattle.iface_egress.specs.declared.socket_set.Item.{Item}
use Rattle.iface_egress.specs.declared.socket_set.SocketStorage.{SocketStorage}
use Rattle.iface_egress.specs.declared.egress_path.Sent.{Sent}
use Rattle.iface_egress.specs.declared.egress_path.Sent.TheVariants as Outcome
use Rattle.interface.specs.Awaited.{awaited_by, awaited_at, awaited_in, comes_before, is_before, is_marked, is_marked_at, next_awaited, hop_of, turn_of}
use Rattle.interface.specs.Serve.{held, is_given_up}
use Rattle.interface.specs.declared.awaited.Awaited.{Awaited}

one_way : (a b : Option ℤ) (s t : ℤ) → is_before a b s t ≡ true → is_before b a t s ≡ false
one_way None None s t is = grind (arith)
one_way None (Some b) s t is = refl
one_way (Some a) None s t is = absurd cc
one_way (Some a) (Some b) s t is = grind (arith)

chain : (a b c : Option ℤ) (s t u : ℤ) → is_before a b s t ≡ false → is_before b c t u ≡ false → is_before a c s u ≡ false
chain None None None s t u first second = grind (arith)
chain None None (Some c) s t u first second = absurd cc
chain None (Some b) c s t u first second = absurd cc
chain (Some a) b None s t u first second = refl
chain (Some a) None (Some c) s t u first second = absurd cc
chain (Some a) (Some b) (Some c) s t u first second = grind (arith)

pub IsStrictWeakOrder-comes_before : IsStrictWeakOrder comes_before
IsStrictWeakOrder-comes_before = record {
  one_way = λ x y e. one_way x.last_request y.last_request x.since y.since e;
  chain = λ x y z e f. chain x.last_request y.last_request z.last_request x.since y.since z.since e f;
}

-- what is found passes
some_is : {X : Type 0} (x y : X) → (let o : Option X = Some x in o) ≡ Some y → x ≡ y
some_is x y is = cc

found_if : {X : Type 0} (test : X → Bool) (x y : X) (rest : Option X) (b : Bool) → test y ≡ b → (rest ≡ Some x → test x ≡ true) →
    cond b (Some y) rest ≡ Some x → test x ≡ true
found_if {X} test x y rest true e later is = subst (λ (z : X). test z ≡ true) (some_is y x is) e
found_if test x y rest false e later is = later is

found_by : {X : Type 0} (test : X → Bool) (xs : List X) (x : X) → find test xs ≡ Some x → test x ≡ true
found_by test [] x is = absurd cc
found_by test (y ∷ ys) x is = found_if test x y (find test ys) (test y) refl (found_by test ys x) is

not_by : (b : Bool) → not b ≡ true → b ≡ false
not_by true is = absurd cc
not_by false is = refl

pub none_before : (i : InnerValue) (ps : List (SocketStorage Socket)) (a : Awaited) → next_awaited i ps ≡ Some a →
    list_any (λ b. comes_before b a) (filter_map (awaited_in i) ps) ≡ false
none_before i ps a is =
    not_by (list_any (λ b. comes_before b a) (filter_map (awaited_in i) ps))
    (found_by (is_unbeaten comes_before (filter_map (awaited_in i) ps)) (filter_map (awaited_in i) ps) a is)

in_turn_by : (given_up other : Bool) → (let o : Option Sent = (if given_up then Some Outcome.Dropped else if other then Some Outcome.Waits else None) in o) ≡
    None → other ≡ false
in_turn_by true other is = absurd cc
in_turn_by false true is = absurd cc
in_turn_by false false is = refl

pub asked_in_turn : (hop : IpAddress) (m : Meta) (i : InnerValue) (to : IpAddress) (q : NeighborQuery) → held (Some hop) m i to (Way.Ask q) ≡ None →
    is_same_address hop (target_of q) ≡ true
asked_in_turn hop m i to q is =
    not_not (is_same_address hop (target_of q)) (in_turn_by (is_given_up m i to (Way.Ask q)) (not (is_same_address hop (target_of q))) is) where
      not_not : (b : Bool) → not b ≡ false → b ≡ true
      not_not true e = refl
      not_not false e = absurd cc

-- A PASS OVER ALL PLACES

unmarked_by : (i : InnerValue) (w : Option Waiting) → is_some w ≡ false → awaited_by i w ≡ None
unmarked_by i None is = refl
unmarked_by i (Some w) is = absurd cc

unmarked : (i : InnerValue) (o : Option (Item Socket)) → is_marked_at o ≡ false → awaited_at i o ≡ None
unmarked i None is = refl
unmarked i (Some item) is = unmarked_by i item.meta.waiting is

-- where no socket waits none is found
none_found : (i : InnerValue) (ps : List (SocketStorage Socket)) → list_any is_marked ps ≡ false → filter_map (awaited_in i) ps ≡ []
none_found i [] none = refl
none_found i (p ∷ ps) none =
    let parts : (is_marked p ≡ false) × (list_any is_marked ps ≡ false) = or_parts (is_marked p) (list_any is_marked ps) none in
    rw (unmarked i p.inner parts.0) (none_found i ps parts.1)

pub none_waits : (i : InnerValue) (ps : List (SocketStorage Socket)) → list_any is_marked ps ≡ false → turn_of i ps ≡ None
none_waits i ps none = by i.host_requirements where
  by : (many : Bool) → (if many then None else hop_of (next_awaited i ps)) ≡ None
  by true = refl
  by false = ap (λ (found : List Awaited). hop_of (first_best comes_before found)) (none_found i ps none)
