-- Slots from the oldest on: the order is one, and the first in it passes the test where some do.
use Rattle.std.proofs.Common.{◌≡◌, Bool, true, false, ℤ, int_lt, refl, arith}
use Rattle.std.proofs.lemmas.Int.{ints}
use Rattle.std.specs.Prelude.{◌&&◌, ◌||◌, not}
use Rattle.std.specs.Cmp.{IsStrictWeakOrder}
use Rattle.iface_tables.specs.Reassembly.{AssemblerValue}
use Rattle.iface_tables.specs.Room.{goes_before}

one_way_by : (a b : Bool) (x y : ℤ) → (a && (not b || int_lt x y)) ≡ true → (b && (not a || int_lt y x)) ≡ false
one_way_by true true x y first = grind (arith, ints)
one_way_by true false x y first = refl
one_way_by false b x y first = absurd cc

chain_by : (a b c : Bool) (x y z : ℤ) → (a && (not b || int_lt x y)) ≡ false → (b && (not c || int_lt y z)) ≡ false → (a && (not c || int_lt x z)) ≡ false
chain_by true true true x y z first second = grind (arith, ints)
chain_by true true false x y z first second = absurd cc
chain_by true false c x y z first second = absurd cc
chain_by false b c x y z first second = refl

pub in_order : {K : Type 0} (test : AssemblerValue K → Bool) → IsStrictWeakOrder (goes_before test)
in_order test = record {
  one_way = λ x y e. one_way_by (test x) (test y) x.expires y.expires e;
  chain = λ x y z e f. chain_by (test x) (test y) (test z) x.expires y.expires z.expires e f;
}
