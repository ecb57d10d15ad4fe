-- A question for a neighbour.
use Rattle.std.specs.Prelude.{◌≡◌, length}
use Rattle.iface_egress.specs.declared.frame.NeighborQuery.{NeighborQuery}
use Rattle.iface_egress.specs.declared.frame.NeighborQuery.TheVariants as Query

-- a question for a neighbour whose address is one
abbrev pub IsAsked : NeighborQuery → Type 0
IsAsked (Query.Arp own source target) = Unit {0}
IsAsked (Query.Neighbor own source target) = length target.0 ≡ 16
