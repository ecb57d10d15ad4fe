-- The receivers of a host's frames are on its medium.
use Rattle.std.proofs.Common.{◌≡◌, ℕ, zero, suc, ◌<◌, Bool, true, false, cond, List, [], ◌∷◌, drop, Option, Some, None, IfSome, refl, subst, arith}
use Rattle.std.proofs.Common.{length-drop}
use Rattle.std.specs.Prelude.{ℤ, int_lt, nat_le, slice_index}
use Rattle.std.specs.List.{AllByRecursion}
use Rattle.iface_ingress.specs.Address.{IsEthernetAddress, IsIpAddress}
use Rattle.iface_ingress.specs.AddressTests.{is_multicast}
use Rattle.iface_ingress.specs.EthernetAddress.{EthernetAddress}
use Rattle.iface_ingress.specs.HardwareAddress.{HardwareAddress}
use Rattle.iface_ingress.specs.HardwareAddress.TheVariants as Hardware
use Rattle.wire_ip.specs.Ip.{destination_of}
use Rattle.iface_ingress.specs.IpAddress.{IpAddress}
use Rattle.iface_ingress.specs.IpAddress.TheVariants as Address
use Rattle.wire_ip.specs.declared.ip.repr.IpRepr.{IpRepr}
use Rattle.iface_ingress.specs.Ipv4Address.{Ipv4Address}
use Rattle.iface_ingress.specs.Best.{at_index}
use Rattle.iface_egress.specs.Inner.{asked_of, mtu_to}
use Rattle.iface_egress.specs.Inner.{InnerValue, is_local_broadcast, next_hop, link_by, link_of_hop, link_on, link_address, group_hardware_addr, all_stations}
use Rattle.iface_ingress.specs.Neighbor.{CacheValue, lookup, missing, answer_by, neighbor_index_of, unless_failed, has_failed}
use Rattle.iface_egress.specs.Source.{source_v4}
use Rattle.iface_ingress.specs.LinkAddress.{LinkAddress}
use Rattle.iface_ingress.specs.LinkAddress.TheVariants as Link
use Rattle.iface_ingress.specs.Answer.{Answer}
use Rattle.iface_ingress.specs.Answer.TheVariants as Known
use Rattle.iface_egress.specs.Neighbor.{Neighbor}
use Rattle.iface_egress.specs.Plan.{can_be_cut, total_len, cut_if_idle, long_plan, solicit_v4, solicit_on, may_solicit, solicit_if, plan_by, never_leaves, plan_of}
use Rattle.iface_egress.specs.declared.plan.Plan.{Plan}
use Rattle.iface_egress.specs.declared.plan.Plan.TheVariants as Way
use Rattle.interface.specs.Delivered.{IsOfMedium, AreOfOneMedium}
use Rattle.interface.specs.Medium.{KnowsItsMedium}
use Rattle.interface.proofs.Arrives.{all-bytes, joined, following, repeated}

-- WHAT IS KNOWN OF A NEIGHBOUR

abbrev OfMedium : HardwareAddress → Neighbor → Type 0
OfMedium local n = IsOfMedium local n.hardware_addr

abbrev AnswerStays : HardwareAddress → Answer → Type 0
AnswerStays local (Known.Found hardware) = IsOfMedium local hardware
AnswerStays local Known.RateLimited = Unit {0}
AnswerStays local Known.NotFound = Unit {0}
AnswerStays local Known.Unanswered = Unit {0}

abbrev LinkStays : HardwareAddress → LinkAddress → Type 0
LinkStays local (Link.Known to) = IsOfMedium local to
LinkStays local Link.NoRoute = Unit {0}
LinkStays local Link.Silent = Unit {0}
LinkStays local Link.Unanswered = Unit {0}
LinkStays local (Link.Unknown hop) = Unit {0}

abbrev PlanStays : HardwareAddress → Plan → Type 0
PlanStays local (Way.Go to) = IsOfMedium local to
PlanStays local (Way.Cut to) = IsOfMedium local to
PlanStays local Way.Drop = Unit {0}
PlanStays local Way.NoRoute = Unit {0}
PlanStays local Way.Wait = Unit {0}
PlanStays local Way.Busy = Unit {0}
PlanStays local (Way.Ask neighbor_query) = Unit {0}

at : (local : HardwareAddress) (o : Option ℕ) (entries : List Neighbor) → AllByRecursion (OfMedium local) entries → IfSome (at_index o entries) (OfMedium local)
at local None entries all = tt
at local (Some n) [] all = tt
at local (Some zero) (entry ∷ entries) all = all.0
at local (Some (suc n)) (entry ∷ entries) all = at local (Some n) entries all.1

missing_by : (local : HardwareAddress) (b : Bool) → AnswerStays local (cond b Known.RateLimited Known.NotFound)
missing_by local true = tt
missing_by local false = tt

found_by : (local hardware : HardwareAddress) (c : CacheValue) (instant : ℤ) (b : Bool) → IsOfMedium local hardware →
    AnswerStays local (cond b (Known.Found hardware) (missing c instant))
found_by local hardware c instant true is = is
found_by local hardware c instant false is = missing_by local (int_lt instant c.silent)

answers : (local : HardwareAddress) (o : Option Neighbor) (c : CacheValue) (instant : ℤ) → IfSome o (OfMedium local) → AnswerStays local (answer_by o c instant)
answers local None c instant is = missing_by local (int_lt instant c.silent)
answers local (Some entry) c instant is = found_by local entry.hardware_addr c instant (int_lt instant entry.expires_at) is

unless_stays : (local : HardwareAddress) (failed : Bool) (a : Answer) → AnswerStays local a → AnswerStays local (unless_failed failed a)
unless_stays local failed (Known.Found hardware) is = is
unless_stays local true Known.RateLimited is = tt
unless_stays local false Known.RateLimited is = tt
unless_stays local true Known.NotFound is = tt
unless_stays local false Known.NotFound is = tt
unless_stays local failed Known.Unanswered is = tt

links : (local : HardwareAddress) (a : Answer) (hop : IpAddress) → AnswerStays local a → LinkStays local (link_by a hop)
links local (Known.Found hardware) hop is = is
links local Known.RateLimited hop is = tt
links local Known.NotFound hop is = tt
links local Known.Unanswered hop is = tt

hop_limit : (i : InnerValue) (o : Option IpAddress) → KnowsItsMedium i → LinkStays i.hardware (link_of_hop i o)
hop_limit i None knows = tt
hop_limit i (Some hop) knows =
    links i.hardware (lookup (asked_of i hop) hop i.instant) hop
    (unless_stays i.hardware (has_failed (asked_of i hop) hop i.instant)
    (answer_by (at_index (neighbor_index_of i.neighbors.entries hop) i.neighbors.entries) (asked_of i hop) i.instant)
    (answers i.hardware (at_index (neighbor_index_of i.neighbors.entries hop) i.neighbors.entries) (asked_of i hop) i.instant
    (at i.hardware (neighbor_index_of i.neighbors.entries hop) i.neighbors.entries knows)))

-- GROUPS

all_is : IsEthernetAddress all_stations
all_is = (refl, repeated 6 0xff (omega arith))

group_is : (address : IpAddress) → IsIpAddress address → IsEthernetAddress (group_hardware_addr address)
group_is (Address.Ipv4 a) is =
    let second : slice_index a.0 2 < 256 = is.1 2 in
    let third : slice_index a.0 3 < 256 = is.1 3 in
    (refl, all-bytes (group_hardware_addr (Address.Ipv4 a)).0 (omega arith, (omega arith, (omega arith, (omega arith, (second, (third, tt)))))))
group_is (Address.Ipv6 a) is = (
  omega (arith, is.0, length-drop {A = ℕ} 12 a.0),
  joined (0x33 ∷ 0x33 ∷ []) (drop 12 a.0) (all-bytes (0x33 ∷ 0x33 ∷ []) (omega arith, (omega arith, tt))) (following 12 a.0 is.1),
)

-- THE MEDIUM

hardware_addr_by : (local : EthernetAddress) (b c : Bool) (address : IpAddress) (l : LinkAddress) → IsIpAddress address → LinkStays (Hardware.Ethernet local) l
    → LinkStays (Hardware.Ethernet local)
    (cond b (Link.Known (Hardware.Ethernet all_stations)) (cond c (Link.Known (Hardware.Ethernet (group_hardware_addr address))) l))
hardware_addr_by local true c address l is stays = all_is
hardware_addr_by local false true address l is stays = group_is address is
hardware_addr_by local false false address l is stays = stays

link_stays : (local : HardwareAddress) (i : InnerValue) (address : IpAddress) → IsIpAddress address → ((o : Option IpAddress) → LinkStays local (link_of_hop i o)) →
    LinkStays local (link_on local i address)
link_stays Hardware.Ip i address is stays = tt
link_stays (Hardware.Ethernet local) i address is stays =
    hardware_addr_by local (is_local_broadcast i address) (is_multicast address) address (link_of_hop i (next_hop i address)) is (stays (next_hop i address))

-- EACH PLAN

idle_by : (local to : HardwareAddress) (b : Bool) → IsOfMedium local to → PlanStays local (cut_if_idle b to)
idle_by local to true is = tt
idle_by local to false is = is

short_by : (local to : HardwareAddress) (busy b : Bool) → IsOfMedium local to → PlanStays local (cond b (cut_if_idle busy to) Way.Drop)
short_by local to busy true is = idle_by local to busy is
short_by local to busy false is = tt

long_stays : (local to : HardwareAddress) (busy : Bool) (h : IpRepr) → IsOfMedium local to → PlanStays local (long_plan busy to h)
long_stays local to busy h is = short_by local to busy (can_be_cut h) is

to_by : (local to : HardwareAddress) (busy : Bool) (h : IpRepr) (b : Bool) → IsOfMedium local to → PlanStays local (cond b (Way.Go to) (long_plan busy to h))
to_by local to busy h true is = is
to_by local to busy h false is = long_stays local to busy h is

ask_v4_by : (local : HardwareAddress) (from : EthernetAddress) (o : Option Ipv4Address) (hop : Ipv4Address) → PlanStays local (solicit_v4 from o hop)
ask_v4_by local from None hop = tt
ask_v4_by local from (Some source) hop = tt

ask_by : (local hardware : HardwareAddress) (i : InnerValue) (hop : IpAddress) → PlanStays local (solicit_on hardware i hop)
ask_by local Hardware.Ip i hop = tt
ask_by local (Hardware.Ethernet from) i (Address.Ipv4 hop) = ask_v4_by local from (source_v4 i.addresses hop) hop
ask_by local (Hardware.Ethernet from) i (Address.Ipv6 hop) = tt

ask_if_by : (local : HardwareAddress) (i : InnerValue) (hop : IpAddress) (may : Bool) → PlanStays local (solicit_if may i hop)
ask_if_by local i hop true = ask_by local i.hardware i hop
ask_if_by local i hop false = tt

by_link : (local : HardwareAddress) (i : InnerValue) (busy : Bool) (h : IpRepr) (l : LinkAddress) → LinkStays local l → PlanStays local (plan_by l i busy h)
by_link local i busy h (Link.Known to) is = to_by local to busy h (nat_le (total_len h) (mtu_to i (destination_of h))) is
by_link local i busy h Link.NoRoute is = tt
by_link local i busy h Link.Silent is = tt
by_link local i busy h Link.Unanswered is = tt
by_link local i busy h (Link.Unknown hop) is = ask_if_by local i hop (may_solicit i hop)

plan_stays : (i : InnerValue) (busy : Bool) (h : IpRepr) → KnowsItsMedium i → IsIpAddress (destination_of h) → PlanStays i.hardware (plan_of i busy h)
plan_stays i busy h knows is = elim (never_leaves i h) as (λ b. PlanStays i.hardware (cond b Way.Drop (plan_by (link_address i (destination_of h)) i busy h))) [
  | true ↦ tt
  | false ↦ by_link i.hardware i busy h (link_address i (destination_of h)) (link_stays i.hardware i (destination_of h) is (λ o. hop_limit i o knows))
]

pub go_stays : (i : InnerValue) (busy : Bool) (h : IpRepr) (to : HardwareAddress) → KnowsItsMedium i → IsIpAddress (destination_of h) →
    plan_of i busy h ≡ Way.Go to → IsOfMedium i.hardware to
go_stays i busy h to knows is plan = subst (PlanStays i.hardware) plan (plan_stays i busy h knows is)

pub cut_stays : (i : InnerValue) (busy : Bool) (h : IpRepr) (to : HardwareAddress) → KnowsItsMedium i → IsIpAddress (destination_of h) →
    plan_of i busy h ≡ Way.Cut to → IsOfMedium i.hardware to
cut_stays i busy h to knows is plan = subst (PlanStays i.hardware) plan (plan_stays i busy h knows is)

-- TWO HOSTS

through : (local to other : HardwareAddress) → IsOfMedium other local → IsOfMedium local to → IsOfMedium other to
through (Hardware.Ethernet local) (Hardware.Ethernet to) (Hardware.Ethernet other) from receives = receives
through (Hardware.Ethernet local) Hardware.Ip (Hardware.Ethernet other) from receives = absurd receives
through Hardware.Ip to (Hardware.Ethernet other) from receives = absurd from
through (Hardware.Ethernet local) to Hardware.Ip from receives = absurd from
through Hardware.Ip (Hardware.Ethernet to) Hardware.Ip from receives = absurd receives
through Hardware.Ip Hardware.Ip Hardware.Ip from receives = tt

pub one_medium : (local to other : HardwareAddress) → IsOfMedium other local → IsOfMedium local to → AreOfOneMedium local to other
one_medium local to other from receives = record { from = from; receiver = through local to other from receives }
