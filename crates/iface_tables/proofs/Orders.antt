-- Lexicographic orders.
use Rattle.std.proofs.Common.{ℕ, Bool, nat_lt, refl, arith}
use Rattle.std.specs.Cmp.{IsStrictWeakOrder}
use Rattle.std.proofs.lemmas.Bool.Decides.{nat_tests}
use Rattle.std.proofs.lemmas.List.MinMax.{IsStrictWeakOrder-flip, IsStrictWeakOrder-by_number}
use Rattle.ip_wire.specs.Cidr.{cidr_prefix_len}
use Rattle.ip_wire.specs.Ipv6Address.{Ipv6Address}
use Rattle.iface_tables.specs.Best.{by_least, no_better}
use Rattle.iface_tables.specs.Route.{is_longer}
use Rattle.iface_tables.specs.Source.{better_for, differs, falls_short, distance, uncommon}
use Rattle.iface_tables.specs.declared.route.Route.{Route}

module _ {X : Type 0} where
  pub IsStrictWeakOrder-no_better : IsStrictWeakOrder (no_better {X = X})
  IsStrictWeakOrder-no_better = record { one_way = λ x y e. refl; chain = λ x y z e f. refl }

  pub IsStrictWeakOrder-by_least : (number : X → ℕ) (rest : X → X → Bool) → IsStrictWeakOrder rest → IsStrictWeakOrder (by_least number rest)
  IsStrictWeakOrder-by_least number rest o = record {
    one_way = λ x y e. grind (arith, nat_tests, o.one_way x y);
    chain = λ x y z e f. grind (arith, nat_tests, o.chain x y z);
  }

pub IsStrictWeakOrder-better_for : (destination : Ipv6Address) → IsStrictWeakOrder (better_for destination)
IsStrictWeakOrder-better_for destination =
    IsStrictWeakOrder-by_least (differs destination) _
    (IsStrictWeakOrder-by_least (falls_short destination) _
    (IsStrictWeakOrder-by_least (distance destination) _ (IsStrictWeakOrder-by_least (uncommon destination) _ IsStrictWeakOrder-no_better)))

pub IsStrictWeakOrder-is_longer : IsStrictWeakOrder is_longer
IsStrictWeakOrder-is_longer =
    IsStrictWeakOrder-flip (λ (x y : Route). nat_lt (cidr_prefix_len x.cidr) (cidr_prefix_len y.cidr))
    (IsStrictWeakOrder-by_number (λ (r : Route). cidr_prefix_len r.cidr))
