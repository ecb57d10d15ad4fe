-- Where the frames of a plan go: to a host on a medium with hosts.
use Rattle.std.proofs.Common.{ℕ, zero, suc, Bool, true, false, cond, List, [], ◌∷◌, Option, Some, None, IfSome}
use Rattle.std.specs.Prelude.{ℤ, int_lt, nat_le}
use Rattle.std.specs.List.{AllByRecursion}
use Rattle.iface_ingress.specs.Address.{IsIpAddress}
use Rattle.iface_ingress.specs.AddressTests.{is_multicast}
use Rattle.iface_ingress.specs.EthernetAddress.{EthernetAddress}
use Rattle.iface_ingress.specs.HardwareAddress.{HardwareAddress}
use Rattle.iface_ingress.specs.HardwareAddress.TheVariants as Hardware
use Rattle.interface.specs.Ip.{destination_of}
use Rattle.iface_ingress.specs.IpAddress.{IpAddress}
use Rattle.iface_ingress.specs.IpAddress.TheVariants as Address
use Rattle.interface.specs.IpRepr.{IpRepr}
use Rattle.iface_ingress.specs.Ipv4Address.{Ipv4Address}
use Rattle.iface_tables.specs.Best.{at_index}
use Rattle.iface_tables.specs.Inner.{InnerValue, mtu_to, is_local_broadcast, is_on_link, next_hop, link_by, link_of_hop, link_on, link_address}
use Rattle.iface_tables.specs.Inner.{asked_of, group_hardware_addr, all_stations}
use Rattle.iface_tables.specs.Neighbor.{CacheValue, lookup, missing, answer_by, neighbor_index_of, unless_failed, has_failed}
use Rattle.iface_tables.specs.Route.{best_route, router_of}
use Rattle.iface_tables.specs.Source.{source_v4}
use Rattle.iface_tables.specs.declared.link.LinkAddress.{LinkAddress}
use Rattle.iface_tables.specs.declared.link.LinkAddress.TheVariants as Link
use Rattle.iface_tables.specs.declared.neighbor.Answer.{Answer}
use Rattle.iface_tables.specs.declared.neighbor.Answer.TheVariants as Known
use Rattle.iface_tables.specs.declared.neighbor.Neighbor.{Neighbor}
use Rattle.iface_egress.specs.Plan.{total_len, can_be_cut, cut_if_idle, long_plan, solicit_v4, solicit_on, may_solicit, solicit_if, plan_by, never_leaves, plan_of}
use Rattle.iface_egress.specs.declared.plan.Plan.{Plan}
use Rattle.iface_egress.specs.declared.plan.Plan.TheVariants as Way
use Rattle.lan.specs.Worlds.Link.Sides.{IsSameKind, IsNode, IsSound}
use Rattle.lan.proofs.Worlds.Link.Asked.{IsAsked}
use Rattle.lan.proofs.Worlds.Link.Routers.{routers_are}

-- WHAT IS KNOWN OF A NEIGHBOUR

abbrev IsNear : Neighbor → Type 0
IsNear n = IsNode n.hardware_addr

abbrev AnswerKind : Answer → Type 0
AnswerKind (Known.Found hardware) = IsNode hardware
AnswerKind Known.RateLimited = Unit {0}
AnswerKind Known.NotFound = Unit {0}
AnswerKind Known.Unanswered = Unit {0}

abbrev LinkKind : HardwareAddress → LinkAddress → Type 0
LinkKind own (Link.Known to) = IsSameKind own to
LinkKind own Link.NoRoute = Unit {0}
LinkKind own Link.Silent = Unit {0}
LinkKind own Link.Unanswered = Unit {0}
LinkKind own (Link.Unknown hop) = IsIpAddress hop

abbrev pub PlanKind : HardwareAddress → Plan → Type 0
PlanKind own (Way.Go to) = IsSameKind own to
PlanKind own (Way.Cut to) = IsSameKind own to
PlanKind own (Way.Ask question) = IsAsked question
PlanKind own Way.Drop = Unit {0}
PlanKind own Way.NoRoute = Unit {0}
PlanKind own Way.Wait = Unit {0}
PlanKind own Way.Busy = Unit {0}

at : (o : Option ℕ) (entries : List Neighbor) → AllByRecursion IsNear entries → IfSome (at_index o entries) IsNear
at None entries all = tt
at (Some n) [] all = tt
at (Some zero) (entry ∷ entries) all = all.0
at (Some (suc n)) (entry ∷ entries) all = at (Some n) entries all.1

missing_by : (b : Bool) → AnswerKind (cond b Known.RateLimited Known.NotFound)
missing_by true = tt
missing_by false = tt

found_by : (hardware : HardwareAddress) (c : CacheValue) (instant : ℤ) (b : Bool) → IsNode hardware →
    AnswerKind (cond b (Known.Found hardware) (missing c instant))
found_by hardware c instant true is = is
found_by hardware c instant false is = missing_by (int_lt instant c.silent)

answers : (o : Option Neighbor) (c : CacheValue) (instant : ℤ) → IfSome o IsNear → AnswerKind (answer_by o c instant)
answers None c instant is = missing_by (int_lt instant c.silent)
answers (Some entry) c instant is = found_by entry.hardware_addr c instant (int_lt instant entry.expires_at) is

unless_kind : (failed : Bool) (a : Answer) → AnswerKind a → AnswerKind (unless_failed failed a)
unless_kind failed (Known.Found hardware) is = is
unless_kind true Known.RateLimited is = tt
unless_kind false Known.RateLimited is = tt
unless_kind true Known.NotFound is = tt
unless_kind false Known.NotFound is = tt
unless_kind failed Known.Unanswered is = tt

node_kind : (own : EthernetAddress) (to : HardwareAddress) → IsNode to → IsSameKind (Hardware.Ethernet own) to
node_kind own (Hardware.Ethernet to) is = tt
node_kind own Hardware.Ip is = absurd is

links : (own : EthernetAddress) (a : Answer) (hop : IpAddress) → IsIpAddress hop → AnswerKind a → LinkKind (Hardware.Ethernet own) (link_by a hop)
links own (Known.Found hardware) hop to is = node_kind own hardware is
links own Known.RateLimited hop to is = tt
links own Known.NotFound hop to is = to
links own Known.Unanswered hop to is = tt

hop_limit : (own : EthernetAddress) (i : InnerValue) (o : Option IpAddress) → IsSound i → IfSome o IsIpAddress → LinkKind (Hardware.Ethernet own) (link_of_hop i o)
hop_limit own i None sound is = tt
hop_limit own i (Some hop) sound is =
    let entry : Option Neighbor = at_index (neighbor_index_of i.neighbors.entries hop) i.neighbors.entries in
    links own (lookup (asked_of i hop) hop i.instant) hop is
    (unless_kind (has_failed (asked_of i hop) hop i.instant) (answer_by entry (asked_of i hop) i.instant)
    (answers entry (asked_of i hop) i.instant (at (neighbor_index_of i.neighbors.entries hop) i.neighbors.entries sound.neighbors)))

next_is : (i : InnerValue) (address : IpAddress) → IsSound i → IsIpAddress address → IfSome (next_hop i address) IsIpAddress
next_is i address sound is =
    elim (is_on_link i address) as (λ b. IfSome (cond b (Some address) (router_of (best_route i.routes address i.instant))) IsIpAddress) [
      | true ↦ is
      | false ↦ routers_are i.routes sound.routers address i.instant
    ]

-- THE MEDIUM

node_by : (own : EthernetAddress) (b c : Bool) (address : IpAddress) (l : LinkAddress) → LinkKind (Hardware.Ethernet own) l
    → LinkKind (Hardware.Ethernet own)
    (cond b (Link.Known (Hardware.Ethernet all_stations)) (cond c (Link.Known (Hardware.Ethernet (group_hardware_addr address))) l))
node_by own true c address l is = tt
node_by own false true address l is = tt
node_by own false false address l is = is

link_kind : (own : HardwareAddress) (i : InnerValue) (address : IpAddress) → IsSound i → IsIpAddress address → LinkKind own (link_on own i address)
link_kind Hardware.Ip i address sound is = tt
link_kind (Hardware.Ethernet own) i address sound is =
    node_by own (is_local_broadcast i address) (is_multicast address) address (link_of_hop i (next_hop i address))
    (hop_limit own i (next_hop i address) sound (next_is i address sound is))

-- EACH PLAN

idle_by : (own to : HardwareAddress) (b : Bool) → IsSameKind own to → PlanKind own (cut_if_idle b to)
idle_by own to true is = tt
idle_by own to false is = is

long_by : (own to : HardwareAddress) (busy b : Bool) → IsSameKind own to → PlanKind own (cond b (cut_if_idle busy to) Way.Drop)
long_by own to busy true is = idle_by own to busy is
long_by own to busy false is = tt

long_kind : (own to : HardwareAddress) (busy : Bool) (h : IpRepr) → IsSameKind own to → PlanKind own (long_plan busy to h)
long_kind own to busy h is = long_by own to busy (can_be_cut h) is

to_by : (own to : HardwareAddress) (busy : Bool) (h : IpRepr) (b : Bool) → IsSameKind own to → PlanKind own (cond b (Way.Go to) (long_plan busy to h))
to_by own to busy h true is = is
to_by own to busy h false is = long_kind own to busy h is

ask_v4_by : (own : HardwareAddress) (from : EthernetAddress) (o : Option Ipv4Address) (hop : Ipv4Address) → PlanKind own (solicit_v4 from o hop)
ask_v4_by own from None hop = tt
ask_v4_by own from (Some source) hop = tt

ask_by : (own hardware : HardwareAddress) (i : InnerValue) (hop : IpAddress) → IsIpAddress hop → PlanKind own (solicit_on hardware i hop)
ask_by own Hardware.Ip i hop is = tt
ask_by own (Hardware.Ethernet from) i (Address.Ipv4 hop) is = ask_v4_by own from (source_v4 i.addresses hop) hop
ask_by own (Hardware.Ethernet from) i (Address.Ipv6 hop) is = is.0

ask_if_by : (own : HardwareAddress) (i : InnerValue) (hop : IpAddress) (may : Bool) → IsIpAddress hop → PlanKind own (solicit_if may i hop)
ask_if_by own i hop true is = ask_by own i.hardware i hop is
ask_if_by own i hop false is = tt

by_link : (own : HardwareAddress) (i : InnerValue) (busy : Bool) (h : IpRepr) (l : LinkAddress) → LinkKind own l → PlanKind own (plan_by l i busy h)
by_link own i busy h (Link.Known to) is = to_by own to busy h (nat_le (total_len h) (mtu_to i (destination_of h))) is
by_link own i busy h Link.NoRoute is = tt
by_link own i busy h Link.Silent is = tt
by_link own i busy h Link.Unanswered is = tt
by_link own i busy h (Link.Unknown hop) is = ask_if_by own i hop (may_solicit i hop) is

pub plan_kind : (i : InnerValue) (busy : Bool) (h : IpRepr) → IsSound i → IsIpAddress (destination_of h) → PlanKind i.hardware (plan_of i busy h)
plan_kind i busy h sound is = elim (never_leaves i h) as (λ b. PlanKind i.hardware (cond b Way.Drop (plan_by (link_address i (destination_of h)) i busy h))) [
  | true ↦ tt
  | false ↦ by_link i.hardware i busy h (link_address i (destination_of h)) (link_kind i.hardware i (destination_of h) sound is)
]
