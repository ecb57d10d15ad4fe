-- What is known where a packet has a plan.
use Rattle.std.proofs.Common.{◌≡◌, ℕ, ◌+◌, ◌<◌, ◌≤◌, Bool, true, false, cond, if◌then◌else◌, Option, Some, None, is_some, refl, sym, ap, subst, ◌∙◌, arith}
use Rattle.std.specs.Prelude.{ℤ, int_lt, nat_le, ◌&&◌, not}
use Rattle.std.proofs.lemmas.Bool.Decides.{nat_tests}
use Rattle.ip_wire.specs.AddressTests.{is_multicast}
use Rattle.ip_wire.specs.EthernetAddress.{EthernetAddress}
use Rattle.ip_wire.specs.HardwareAddress.{HardwareAddress}
use Rattle.ip_wire.specs.HardwareAddress.TheVariants as Hardware
use Rattle.ip_wire.specs.Ip as Ips
use Rattle.ip_wire.specs.Ip.{destination_of}
use Rattle.ip_wire.specs.IpAddress.{IpAddress}
use Rattle.ip_wire.specs.IpAddress.TheVariants as Address
use Rattle.ip_wire.specs.IpRepr.{IpRepr}
use Rattle.ip_wire.specs.IpRepr.TheVariants as Ip
use Rattle.ip_wire.specs.Ipv4Address.{Ipv4Address}
use Rattle.socket_context.specs.Packet.{PacketValue, IsSendable}
use Rattle.iface_tables.proofs.PathMtu.{mtu_within}
use Rattle.iface_tables.specs.Inner.{asked_of, mtu_to, silence_of}
use Rattle.iface_tables.specs.Inner.{InnerValue, is_local_broadcast, next_hop, link_by, link_of_hop, link_on, link_address, group_hardware_addr, all_stations}
use Rattle.iface_tables.specs.Neighbor.{CacheValue, last_request, own_silence, lookup, missing, answer_by, neighbor_index_of, unless_failed, has_failed}
use Rattle.iface_tables.specs.Best.{at_index}
use Rattle.iface_tables.specs.Source.{source_v4, source_v6}
use Rattle.iface_tables.specs.declared.link.LinkAddress.{LinkAddress}
use Rattle.iface_tables.specs.declared.link.LinkAddress.TheVariants as Link
use Rattle.iface_tables.specs.declared.neighbor.Answer.{Answer}
use Rattle.iface_tables.specs.declared.neighbor.Answer.TheVariants as Known
use Rattle.iface_tables.specs.declared.neighbor.Neighbor.{Neighbor}
use Rattle.iface_egress.specs.Departure.{target_of}
use Rattle.iface_egress.specs.Fragments.{LeftValue}
use Rattle.iface_egress.specs.Plan.{longest_cut, total_len, has_extensions, cut_if_idle, long_plan, solicit_v4, solicit_from, solicit_on, may_solicit, solicit_if, plan_by, never_leaves}
use Rattle.iface_egress.specs.Plan.{plan_of, IsPacket, CanBeCarried}
use Rattle.iface_egress.specs.declared.frame.NeighborQuery.{NeighborQuery}
use Rattle.iface_egress.specs.declared.frame.NeighborQuery.TheVariants as Query
use Rattle.iface_egress.specs.declared.plan.Plan.{Plan}
use Rattle.iface_egress.specs.declared.plan.Plan.TheVariants as Way

-- A NEXT HOP THAT MAY BE ASKED FOR

-- the silence that counts for it is over
abbrev pub MayAskFor : InnerValue → IpAddress → Type 0
MayAskFor i hop = int_lt i.instant (silence_of i hop) ≡ false

-- where there is one silence for all, it is over
abbrev pub MayAsk : InnerValue → Type 0
MayAsk i = i.host_requirements ≡ false → int_lt i.instant i.neighbors.silent ≡ false

may_ask_by : (i : InnerValue) (hop : IpAddress) → MayAskFor i hop → MayAsk i
may_ask_by i hop over alone =
    ap (λ (own : Bool). int_lt i.instant (if own then own_silence (last_request i.neighbors hop) i.neighbors else i.neighbors.silent)) (sym alone) ∙ over

missing_by : (b : Bool) → cond b Known.RateLimited Known.NotFound ≡ Known.NotFound → b ≡ false
missing_by true is = absurd cc
missing_by false is = refl

found_by : (b : Bool) (hardware : HardwareAddress) (a : Answer) → cond b (Known.Found hardware) a ≡ Known.NotFound → a ≡ Known.NotFound
found_by true hardware a is = absurd cc
found_by false hardware a is = is

answer_is : (o : Option Neighbor) (c : CacheValue) (instant : ℤ) → answer_by o c instant ≡ Known.NotFound → int_lt instant c.silent ≡ false
answer_is None c instant is = missing_by (int_lt instant c.silent) is
answer_is (Some entry) c instant is = missing_by (int_lt instant c.silent) (found_by (int_lt instant entry.expires_at) entry.hardware_addr (missing c instant) is)

-- what is asked for has no answer, and doesn't count as without one
limited_by : (failed : Bool) → unless_failed failed Known.RateLimited ≡ Known.NotFound → ⊥
limited_by true is = cc
limited_by false is = cc

unless_is : (failed : Bool) (a : Answer) → unless_failed failed a ≡ Known.NotFound → a ≡ Known.NotFound
unless_is failed (Known.Found hardware) is = absurd cc
unless_is failed Known.NotFound is = refl
unless_is failed Known.RateLimited is = absurd (limited_by failed is)
unless_is failed Known.Unanswered is = absurd cc

link_by_is : (a : Answer) (hop other : IpAddress) → link_by a hop ≡ Link.Unknown other → a ≡ Known.NotFound
link_by_is (Known.Found hardware) hop other is = absurd cc
link_by_is Known.RateLimited hop other is = absurd cc
link_by_is Known.Unanswered hop other is = absurd cc
link_by_is Known.NotFound hop other is = refl

abbrev hop_in : LinkAddress → IpAddress → IpAddress
hop_in (Link.Unknown hop) other = hop
hop_in link other = other

of_hop_is : (i : InnerValue) (o : Option IpAddress) (hop : IpAddress) → link_of_hop i o ≡ Link.Unknown hop → MayAskFor i hop
of_hop_is i None hop is = absurd cc
of_hop_is i (Some next) hop is =
    let entry : Option Neighbor = at_index (neighbor_index_of i.neighbors.entries next) i.neighbors.entries in
    let missed : lookup (asked_of i next) next i.instant ≡ Known.NotFound = link_by_is (lookup (asked_of i next) next i.instant) next hop is in
    let over : int_lt i.instant (asked_of i next).silent ≡ false =
    answer_is entry (asked_of i next) i.instant
    (unless_is (has_failed (asked_of i next) next i.instant) (answer_by entry (asked_of i next) i.instant) missed) in
    let same : next ≡ hop = ap (λ (a : Answer). hop_in (link_by a next) next) (sym missed) ∙ ap (λ (l : LinkAddress). hop_in l next) is in
    subst (MayAskFor i) same over

last_of : (b c : Bool) (x y : HardwareAddress) (z : LinkAddress) (hop : IpAddress) → cond b (Link.Known x) (cond c (Link.Known y) z) ≡ Link.Unknown hop →
    z ≡ Link.Unknown hop
last_of true c x y z hop is = absurd cc
last_of false true x y z hop is = absurd cc
last_of false false x y z hop is = is

on_is : (hardware : HardwareAddress) (i : InnerValue) (address hop : IpAddress) → link_on hardware i address ≡ Link.Unknown hop → MayAskFor i hop
on_is Hardware.Ip i address hop is = absurd cc
on_is (Hardware.Ethernet local) i address hop is =
    of_hop_is i (next_hop i address) hop
    (last_of (is_local_broadcast i address) (is_multicast address) (Hardware.Ethernet all_stations) (Hardware.Ethernet (group_hardware_addr address))
    (link_of_hop i (next_hop i address)) hop is)

-- EACH PLAN

le_by : (a b : ℕ) → nat_le a b ≡ true → a ≤ b
le_by a b is = grind (arith, nat_tests)

lt_by : (a b : ℕ) → nat_le a b ≡ false → b < a
lt_by a b is = grind (arith, nat_tests)

-- a host of this hardware address asks from it
abbrev pub AsksFrom : HardwareAddress → NeighborQuery → Type 0
AsksFrom hardware (Query.Arp local source target) = hardware ≡ Hardware.Ethernet local
AsksFrom hardware (Query.Neighbor local source target) = hardware ≡ Hardware.Ethernet local

module _ (i : InnerValue) (busy : Bool) (h : IpRepr) (P : Plan →
    Type 0) (out : P Way.Drop) (none : P Way.NoRoute) (wait : P Way.Wait) (held : P Way.Busy) (ask : (q : NeighborQuery) → MayAskFor i (target_of q) → AsksFrom i.hardware q →
    P (Way.Ask q)) (go : (to : HardwareAddress) → total_len h ≤ i.mtu → P (Way.Go to)) (cut : (to : HardwareAddress) →
    mtu_to i (destination_of h) < total_len h → total_len h ≤ longest_cut → has_extensions h ≡ false → busy ≡ false → P (Way.Cut to)) where
  cut_by : (to : HardwareAddress) → mtu_to i (destination_of h) < total_len h → total_len h ≤ longest_cut → has_extensions h ≡ false → (b : Bool) →
      busy ≡ b → P (cut_if_idle b to)
  cut_by to long short bare true e = held
  cut_by to long short bare false e = cut to long short bare e

  long_by : (to : HardwareAddress) → mtu_to i (destination_of h) < total_len h → (a b : Bool) → nat_le (total_len h) longest_cut ≡ a →
      has_extensions h ≡ b → P (cond (a && not b) (cut_if_idle busy to) Way.Drop)
  long_by to long true false e bare = cut_by to long (le_by (total_len h) longest_cut e) bare busy refl
  long_by to long true true e has = out
  long_by to long false b e has = out

  to_by : (to : HardwareAddress) (b : Bool) → nat_le (total_len h) (mtu_to i (destination_of h)) ≡ b → P (cond b (Way.Go to) (long_plan busy to h))
  to_by to true e =
      let short = le_by (total_len h) (mtu_to i (destination_of h)) e in
      let within = mtu_within i.paths (destination_of h) i.instant i.mtu in
      go to (omega (arith, short, within))
  to_by to false e =
      long_by to (lt_by (total_len h) (mtu_to i (destination_of h)) e) (nat_le (total_len h) longest_cut) (has_extensions h) refl refl

  ask_v4_by : (local : EthernetAddress) (o : Option Ipv4Address) (hop : Ipv4Address) → MayAskFor i (Address.Ipv4 hop) → i.hardware ≡ Hardware.Ethernet local → P (solicit_v4 local o hop)
  ask_v4_by local None hop may from = none
  ask_v4_by local (Some source) hop may from = ask (Query.Arp local source hop) may from

  ask_from_by : (local : EthernetAddress) (hop : IpAddress) → MayAskFor i hop → i.hardware ≡ Hardware.Ethernet local → P (solicit_from local i hop)
  ask_from_by local (Address.Ipv4 hop) may from = ask_v4_by local (source_v4 i.addresses hop) hop may from
  ask_from_by local (Address.Ipv6 hop) may from = ask (Query.Neighbor local (source_v6 i.addresses hop) hop) may from

  ask_on_by : (hardware : HardwareAddress) (hop : IpAddress) → i.hardware ≡ hardware → MayAskFor i hop → P (solicit_on hardware i hop)
  ask_on_by Hardware.Ip hop is may = none
  ask_on_by (Hardware.Ethernet local) hop is may = ask_from_by local hop may is

  ask_by : (may : Bool) (hop : IpAddress) → MayAskFor i hop → P (solicit_if may i hop)
  ask_by true hop may = ask_on_by i.hardware hop refl may
  ask_by false hop may = none

  link_cases : (l : LinkAddress) → link_address i (destination_of h) ≡ l → P (plan_by l i busy h)
  link_cases (Link.Known to) is = to_by to (nat_le (total_len h) (mtu_to i (destination_of h))) refl
  link_cases Link.NoRoute is = none
  link_cases Link.Silent is = wait
  link_cases Link.Unanswered is = out
  link_cases (Link.Unknown hop) is = ask_by (may_solicit i hop) hop (on_is i.hardware i (destination_of h) hop is)

  pub plan_cases_for : P (plan_of i busy h)
  plan_cases_for = elim (never_leaves i h) as (λ b. P (cond b Way.Drop (plan_by (link_address i (destination_of h)) i busy h))) [
    | true ↦ out
    | false ↦ link_cases (link_address i (destination_of h)) refl
  ]

-- the same where it is of no matter which one is asked for
module _ (i : InnerValue) (busy : Bool) (h : IpRepr) (P : Plan →
    Type 0) (out : P Way.Drop) (none : P Way.NoRoute) (wait : P Way.Wait) (held : P Way.Busy) (ask : (q : NeighborQuery) → MayAsk i → AsksFrom i.hardware q →
    P (Way.Ask q)) (go : (to : HardwareAddress) → total_len h ≤ i.mtu → P (Way.Go to)) (cut : (to : HardwareAddress) →
    mtu_to i (destination_of h) < total_len h → total_len h ≤ longest_cut → has_extensions h ≡ false → busy ≡ false → P (Way.Cut to)) where
  pub plan_cases : P (plan_of i busy h)
  plan_cases = plan_cases_for i busy h P out none wait held (λ q over from. ask q (may_ask_by i (target_of q) over) from) go cut

-- WHAT IS PLANNED CAN BE DONE

fits_by : (h : IpRepr) → total_len h ≤ 65535 → Ips.Fits h
fits_by (Ip.Ipv4 v) short = omega arith
fits_by (Ip.Ipv6 v) short = omega arith

sendable_by : (p : PacketValue) → IsPacket p → total_len p.header ≤ 65535 → IsSendable p
sendable_by p is short =
    let fits = fits_by p.header short in
    record { header = fits; payload = is.payload fits; len = is.len }

none_by : (left : Option LeftValue) → is_some left ≡ false → left ≡ None
none_by None is = refl
none_by (Some l) is = absurd cc

pub planned_can_be_carried : (i : InnerValue) (left : Option LeftValue) (p : PacketValue) → i.mtu ≤ 65535 → IsPacket p →
    CanBeCarried i left p (plan_of i (is_some left) p.header)
planned_can_be_carried i left p high is =
    plan_cases i (is_some left) p.header (CanBeCarried i left p) tt tt tt tt (λ q may from. tt)
    (λ to short. sendable_by p is (omega (arith, high, short)))
    (λ to long short bare idle. record {
      sendable = sendable_by p is (omega (arith, short));
      short = short;
      long = long;
      idle = none_by left idle;
    })
