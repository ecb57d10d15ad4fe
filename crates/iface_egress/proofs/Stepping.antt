-- A host's numbers, and its silence.
use Rattle.std.proofs.Common.{◌≡◌, ℕ, ◌+◌, ◌%◌, ◌^◌, ◌<◌, Bool, false, ap, subst, arith}
use Rattle.std.specs.Prelude.{int_lt}
use Rattle.ip_wire.specs.IpRepr.{IpRepr}
use Rattle.iface_tables.specs.Inner.{InnerValue, silence_of}
use Rattle.iface_egress.specs.Departure.{target_of}
use Rattle.iface_egress.specs.Plan.{plan_of}
use Rattle.iface_egress.specs.declared.frame.NeighborQuery.{NeighborQuery}
use Rattle.iface_egress.specs.declared.plan.Plan.{Plan}
use Rattle.iface_egress.specs.declared.plan.Plan.TheVariants as Way
use Rattle.iface_egress.proofs.Planned.{MayAskFor, plan_cases, plan_cases_for}

pub asked_late : (i : InnerValue) (busy : Bool) (header : IpRepr) (neighbor_query : NeighborQuery) → plan_of i busy header ≡ Way.Ask neighbor_query →
    i.host_requirements ≡ false → int_lt i.instant i.neighbors.silent ≡ false
asked_late i busy header neighbor_query =
    plan_cases i busy header (λ plan. plan ≡ Way.Ask neighbor_query → i.host_requirements ≡ false → int_lt i.instant i.neighbors.silent ≡ false)
    (λ is. absurd cc) (λ is. absurd cc) (λ is. absurd cc) (λ is. absurd cc) (λ q may from is. may) (λ to short is. absurd cc)
    (λ to long short bare idle is. absurd cc)

abbrev query_in : NeighborQuery → Plan → NeighborQuery
query_in other (Way.Ask q) = q
query_in other plan = other

pub asked_late_for : (i : InnerValue) (busy : Bool) (header : IpRepr) (neighbor_query : NeighborQuery) → plan_of i busy header ≡ Way.Ask neighbor_query →
    int_lt i.instant (silence_of i (target_of neighbor_query)) ≡ false
asked_late_for i busy header neighbor_query =
    plan_cases_for i busy header (λ plan. plan ≡ Way.Ask neighbor_query → int_lt i.instant (silence_of i (target_of neighbor_query)) ≡ false)
    (λ is. absurd cc) (λ is. absurd cc) (λ is. absurd cc) (λ is. absurd cc)
    (λ q over from is. subst (λ (q : NeighborQuery). MayAskFor i (target_of q)) (ap (query_in neighbor_query) is) over) (λ to short is. absurd cc)
    (λ to long short bare idle is. absurd cc)

pub numbers-differ : (first j k : ℕ) → j < 2 ^ 16 → k < 2 ^ 16 → (first + j) % 2 ^ 16 ≡ (first + k) % 2 ^ 16 → j ≡ k
numbers-differ first j k low high same = omega arith
