-- What is known where a packet's plan is to wait.
use Rattle.std.proofs.Common.{◌≡◌, Bool, true, false, if◌then◌else◌, ℤ, pos, ◌+ℤ◌, int_lt, Option, Some, None, refl, sym, ap, ◌∙◌, arith}
use Rattle.std.specs.Prelude.{nat_le}
use Rattle.std.proofs.lemmas.Bool.{cond_both}
use Rattle.ip_wire.specs.AddressTests.{is_multicast}
use Rattle.ip_wire.specs.EthernetAddress.{EthernetAddress}
use Rattle.ip_wire.specs.HardwareAddress.{HardwareAddress}
use Rattle.ip_wire.specs.HardwareAddress.TheVariants as Hardware
use Rattle.ip_wire.specs.Ip.{destination_of}
use Rattle.ip_wire.specs.IpAddress.{IpAddress}
use Rattle.ip_wire.specs.IpAddress.TheVariants as Address
use Rattle.ip_wire.specs.IpRepr.{IpRepr}
use Rattle.ip_wire.specs.Ipv4Address.{Ipv4Address}
use Rattle.iface_tables.specs.Best.{at_index}
use Rattle.iface_tables.specs.Inner.{InnerValue, asked_of, is_local_broadcast, next_hop, next_request, link_by, link_of_hop, link_on, link_address, all_stations}
use Rattle.iface_tables.specs.Inner.{group_hardware_addr, is_known_on, is_known_hop, has_neighbor, mtu_to}
use Rattle.iface_tables.specs.Neighbor.{CacheValue, answer_by, has_failed, is_found, lookup, missing, neighbor_index_of}
use Rattle.iface_tables.specs.Source.{source_v4, source_v6}
use Rattle.iface_tables.specs.declared.link.LinkAddress.{LinkAddress}
use Rattle.iface_tables.specs.declared.link.LinkAddress.TheVariants as Link
use Rattle.iface_tables.specs.declared.neighbor.Answer.{Answer}
use Rattle.iface_tables.specs.declared.neighbor.Answer.TheVariants as Known
use Rattle.iface_tables.specs.declared.neighbor.Neighbor.{Neighbor}
use Rattle.iface_egress.specs.Plan.{total_len, can_be_cut, cut_if_idle, long_plan, solicit_v4, solicit_from, solicit_on, may_solicit, solicit_if, plan_by}
use Rattle.iface_egress.specs.Plan.{never_leaves, plan_of}
use Rattle.iface_egress.specs.declared.frame.NeighborQuery.TheVariants as Query
use Rattle.iface_egress.specs.declared.plan.Plan.{Plan}
use Rattle.iface_egress.specs.declared.plan.Plan.TheVariants as Way
use Rattle.interface.specs.Serve.{waits_until, is_out_of_turn}
use Rattle.interface.proofs.Known.{found_unless}

abbrev pub is_to_wait : Plan → Bool
is_to_wait Way.NoRoute = true
is_to_wait Way.Wait = true
is_to_wait (Way.Ask question) = true
is_to_wait Way.Drop = false
is_to_wait Way.Busy = false
is_to_wait (Way.Go to) = false
is_to_wait (Way.Cut to) = false

abbrev pub is_busy : Plan → Bool
is_busy Way.NoRoute = false
is_busy Way.Wait = false
is_busy (Way.Ask question) = false
is_busy Way.Drop = false
is_busy Way.Busy = true
is_busy (Way.Go to) = false
is_busy (Way.Cut to) = false

pub record Facts (i : InnerValue) (busy : Bool) (h : IpRepr) (plan : Plan) : Type 0 where
  pub unknown : is_to_wait plan ≡ true → has_neighbor i (destination_of h) ≡ false
  pub idle : busy ≡ false → is_busy plan ≡ false

-- A NEXT HOP THAT ISN'T KNOWN

abbrev is_known : LinkAddress → Bool
is_known (Link.Known to) = true
is_known Link.NoRoute = false
is_known Link.Silent = false
is_known Link.Unanswered = false
is_known (Link.Unknown hop) = false

clash : {X : Type 0} → true ≡ false → X
clash {X} e = absurd cc

-- whose silence counts is nothing to who is known
missing_unfound : (silent : Bool) → is_found (if silent then Known.RateLimited else Known.NotFound) ≡ false
missing_unfound true = refl
missing_unfound false = refl

found_by : (o : Option Neighbor) (c d : CacheValue) (t : ℤ) → is_found (answer_by o c t) ≡ is_found (answer_by o d t)
found_by None c d t = missing_unfound (int_lt t c.silent) ∙ sym (missing_unfound (int_lt t d.silent))
found_by (Some e) c d t = by (int_lt t e.expires_at) where
  by : (b : Bool) → is_found (if b then Known.Found e.hardware_addr else missing c t) ≡ is_found (if b then Known.Found e.hardware_addr else missing d t)
  by true = refl
  by false = missing_unfound (int_lt t c.silent) ∙ sym (missing_unfound (int_lt t d.silent))

same_found : (i : InnerValue) (hop : IpAddress) → is_found (lookup i.neighbors hop i.instant) ≡ is_found (lookup (asked_of i hop) hop i.instant)
same_found i hop =
    let entry : Option Neighbor = at_index (neighbor_index_of i.neighbors.entries hop) i.neighbors.entries in
    found_unless (has_failed i.neighbors hop i.instant) (answer_by entry i.neighbors i.instant)
    ∙ found_by entry i.neighbors (asked_of i hop) i.instant
    ∙ sym (found_unless (has_failed (asked_of i hop) hop i.instant) (answer_by entry (asked_of i hop) i.instant))

module _ (i : InnerValue) (address : IpAddress) where
  by_answer : (a : Answer) (hop : IpAddress) → is_known (link_by a hop) ≡ false → is_found a ≡ false
  by_answer (Known.Found hardware) hop e = clash e
  by_answer Known.RateLimited hop e = refl
  by_answer Known.Unanswered hop e = refl
  by_answer Known.NotFound hop e = refl

  of_hop : (own : EthernetAddress) → i.hardware ≡ Hardware.Ethernet own → (o : Option IpAddress) → is_known (link_of_hop i o) ≡ false → is_known_hop i o ≡ false
  of_hop own is None e = refl
  of_hop own is (Some hop) e =
      ap (λ (h : HardwareAddress). is_known_on h i hop) is ∙ same_found i hop ∙ by_answer (lookup (asked_of i hop) hop i.instant) hop e

  on_medium : (hardware : HardwareAddress) → i.hardware ≡ hardware → is_known (link_on hardware i address) ≡ false → has_neighbor i address ≡ false
  on_medium Hardware.Ip is = λ e. clash e
  on_medium (Hardware.Ethernet own) is =
      cond_both (is_local_broadcast i address) (Link.Known (Hardware.Ethernet all_stations))
      (if is_multicast address then Link.Known (Hardware.Ethernet (group_hardware_addr address)) else link_of_hop i (next_hop i address))
      (λ (l : LinkAddress). is_known l ≡ false → has_neighbor i address ≡ false)
      (λ _ e. clash e)
      (λ _. cond_both (is_multicast address) (Link.Known (Hardware.Ethernet (group_hardware_addr address))) (link_of_hop i (next_hop i address))
      (λ (l : LinkAddress). is_known l ≡ false → has_neighbor i address ≡ false)
      (λ _ e. clash e)
      (λ _ e. of_hop own is (next_hop i address) e))

  unknown_by : (l : LinkAddress) → link_address i address ≡ l → is_known l ≡ false → has_neighbor i address ≡ false
  unknown_by l is e = on_medium i.hardware refl (ap is_known is ∙ e)

-- EACH PLAN

module _ (i : InnerValue) (busy : Bool) (h : IpRepr) where
  abbrev P : Plan → Type 0
  P plan = Facts i busy h plan

  drops : P Way.Drop
  drops = record { unknown = λ e. clash (sym e); idle = λ _. refl }

  goes : (to : HardwareAddress) → P (Way.Go to)
  goes to = record { unknown = λ e. clash (sym e); idle = λ _. refl }

  long : (to : HardwareAddress) → P (long_plan busy to h)
  long to =
      cond_both (can_be_cut h) (cut_if_idle busy to) Way.Drop P
      (λ _. cond_both busy Way.Busy (Way.Cut to) P
      (λ is. record { unknown = λ e. clash (sym e); idle = λ no. clash (sym is ∙ no) })
      (λ _. record { unknown = λ e. clash (sym e); idle = λ _. refl }))
      (λ _. drops)

  module _ (none : has_neighbor i (destination_of h) ≡ false) where
    waits : (plan : Plan) → is_busy plan ≡ false → P plan
    waits plan is = record { unknown = λ _. none; idle = λ _. is }

    asks_v4 : (own : EthernetAddress) (o : Option Ipv4Address) (hop : Ipv4Address) → P (solicit_v4 own o hop)
    asks_v4 own None hop = waits Way.NoRoute refl
    asks_v4 own (Some source) hop = waits (Way.Ask (Query.Arp own source hop)) refl

    asks_from : (own : EthernetAddress) (hop : IpAddress) → P (solicit_from own i hop)
    asks_from own (Address.Ipv4 hop) = asks_v4 own (source_v4 i.addresses hop) hop
    asks_from own (Address.Ipv6 hop) = waits (Way.Ask (Query.Neighbor own (source_v6 i.addresses hop) hop)) refl

    asks_on : (hardware : HardwareAddress) (hop : IpAddress) → P (solicit_on hardware i hop)
    asks_on Hardware.Ip hop = waits Way.NoRoute refl
    asks_on (Hardware.Ethernet own) hop = asks_from own hop

    asks : (may : Bool) (hop : IpAddress) → P (solicit_if may i hop)
    asks true hop = asks_on i.hardware hop
    asks false hop = waits Way.NoRoute refl

  by_link : (l : LinkAddress) → link_address i (destination_of h) ≡ l → P (plan_by l i busy h)
  by_link (Link.Known to) is = cond_both (nat_le (total_len h) (mtu_to i (destination_of h))) (Way.Go to) (long_plan busy to h) P (λ _. goes to)
      (λ _. long to)
  by_link Link.NoRoute is = waits (unknown_by i (destination_of h) Link.NoRoute is refl) Way.NoRoute refl
  by_link Link.Silent is = waits (unknown_by i (destination_of h) Link.Silent is refl) Way.Wait refl
  by_link Link.Unanswered is = drops
  by_link (Link.Unknown hop) is = asks (unknown_by i (destination_of h) (Link.Unknown hop) is refl) (may_solicit i hop) hop

  pub plan_facts : P (plan_of i busy h)
  plan_facts =
      cond_both (never_leaves i h) Way.Drop (plan_by (link_address i (destination_of h)) i busy h) P (λ _. drops)
      (λ _. by_link (link_address i (destination_of h)) refl)

-- HOW LONG IT WAITS

second_later : (t : ℤ) → int_lt t (t +ℤ pos 1_000_000) ≡ true
second_later t = grind (arith)

next_later : (i : InnerValue) → int_lt i.instant (next_request i) ≡ true
next_later i =
    cond_both (int_lt i.instant i.neighbors.silent) i.neighbors.silent (i.instant +ℤ pos 1_000_000) (λ (m : ℤ). int_lt i.instant m ≡ true)
    (λ e. e) (λ _. second_later i.instant)

pub waits_later : (plan : Plan) (i : InnerValue) → is_to_wait plan ≡ true → int_lt i.instant (waits_until plan i) ≡ true
waits_later Way.NoRoute i e = second_later i.instant
waits_later Way.Wait i e = next_later i
waits_later (Way.Ask question) i e = next_later i
waits_later Way.Drop i e = clash (sym e)
waits_later Way.Busy i e = clash (sym e)
waits_later (Way.Go to) i e = clash (sym e)
waits_later (Way.Cut to) i e = clash (sym e)

-- what is out of turn waits
pub out_of_turn_waits : (turn : Option IpAddress) (plan : Plan) → is_out_of_turn turn plan ≡ true → is_to_wait plan ≡ true
out_of_turn_waits turn (Way.Ask question) e = refl
out_of_turn_waits turn Way.NoRoute e = refl
out_of_turn_waits turn Way.Wait e = refl
out_of_turn_waits turn Way.Drop e = clash (sym e)
out_of_turn_waits turn Way.Busy e = clash (sym e)
out_of_turn_waits turn (Way.Go to) e = clash (sym e)
out_of_turn_waits turn (Way.Cut to) e = clash (sym e)
