-- A packet whose next hop isn't known, and may be asked for: its plan, and what stays of that after the turns of others.
use Rattle.std.proofs.Common.{◌≡◌, Bool, true, false, ◌&&◌, if◌then◌else◌, List, Option, Some, None, refl, sym, ap, ◌∙◌, subst}
use Rattle.ip_wire.specs.AddressTests.{is_multicast, is_unspecified}
use Rattle.ip_wire.specs.EthernetAddress.{EthernetAddress}
use Rattle.ip_wire.specs.HardwareAddress.{HardwareAddress}
use Rattle.ip_wire.specs.HardwareAddress.TheVariants as Hardware
use Rattle.ip_wire.specs.Ip.{destination_of}
use Rattle.ip_wire.specs.IpRepr.{IpRepr}
use Rattle.ip_wire.specs.IpAddress.{IpAddress}
use Rattle.ip_wire.specs.IpAddress.TheVariants as Address
use Rattle.ip_wire.specs.Ipv4Address.{Ipv4Address}
use Rattle.socket_datagram.specs.Udp.{UdpSettings}
use Rattle.socket_datagram.specs.declared.udp.UdpMetadata.{UdpMetadata}
use Rattle.iface_ingress.specs.Packet.{PacketValue}
use Rattle.iface_tables.specs.Inner.{InnerValue, is_crowded, is_local_broadcast, next_hop, link_of_hop, link_on, link_address, all_stations, group_hardware_addr}
use Rattle.iface_tables.specs.Inner.{mtu_to}
use Rattle.iface_tables.specs.Neighbor.{CacheValue}
use Rattle.iface_tables.specs.Source.{source_v4, source_v6, in_v4, source_for}
use Rattle.iface_tables.specs.declared.link.LinkAddress.{LinkAddress}
use Rattle.iface_tables.specs.declared.link.LinkAddress.TheVariants as Link
use Rattle.iface_egress.specs.Departure.{target_of}
use Rattle.iface_egress.specs.Meta.{has_waited}
use Rattle.iface_egress.specs.Plan.{solicit_v4, solicit_from, solicit_on, solicit_if, can_be_cut, may_solicit, may_be_source_on, never_leaves, plan_by, plan_of, total_len}
use Rattle.iface_egress.specs.declared.frame.NeighborQuery.{NeighborQuery}
use Rattle.iface_egress.specs.declared.frame.NeighborQuery.TheVariants as Query
use Rattle.iface_egress.specs.declared.plan.Plan.{Plan}
use Rattle.iface_egress.specs.declared.plan.Plan.TheVariants as Way
use Rattle.iface_egress.specs.declared.socket_meta.Meta.{Meta}
use Rattle.iface_egress.specs.declared.egress_path.Sent.TheVariants as Outcome
use Rattle.interface.specs.SameHost.{IsSameHost}
use Rattle.interface.specs.Serve.{crowded_time, held, is_given_up, is_other, is_out_of_turn, is_waiting}
use Rattle.interface.proofs.Alone.{same_alone}
use Rattle.proof_stack.specs.Progress.NeighborResolution.{HasToAsk, IsFrom}
use Rattle.proof_stack.proofs.Polls.Ways.{waits_still}
use Rattle.std.specs.Prelude.{ℕ, nat_le}

clash : {X : Type 0} → true ≡ false → X
clash {X} e = absurd cc

-- THE PLAN

abbrev Asking : IpAddress → Plan → Type 0
Asking hop plan = (q : NeighborQuery) × (plan ≡ Way.Ask q) × (target_of q ≡ hop)

module _ (i : InnerValue) (own : EthernetAddress) where
  asks_v4 : (unspecified : Bool) (o : Option Ipv4Address) (hop : Ipv4Address)
      → may_be_source_on (if unspecified then None else in_v4 o) i (Address.Ipv4 hop) ≡ true → Asking (Address.Ipv4 hop) (solicit_v4 own o hop)
  asks_v4 true o hop may = clash (sym may)
  asks_v4 false None hop may = clash (sym may)
  asks_v4 false (Some source) hop may = (Query.Arp own source hop, refl, refl)

  asks_from : (hop : IpAddress) → may_solicit i hop ≡ true → Asking hop (solicit_from own i hop)
  asks_from (Address.Ipv4 hop) may = asks_v4 (is_unspecified (Address.Ipv4 hop)) (source_v4 i.addresses hop) hop may
  asks_from (Address.Ipv6 hop) may = (Query.Neighbor own (source_v6 i.addresses hop) hop, refl, refl)

-- a medium without hardware addresses has no hop that isn't known
asks_on : (i : InnerValue) (to hop : IpAddress) (hardware : HardwareAddress) → link_on hardware i to ≡ Link.Unknown hop → may_solicit i hop ≡ true
    → Asking hop (solicit_on hardware i hop)
asks_on i to hop Hardware.Ip unknown may = absurd (let never : Link.Known Hardware.Ip ≡ Link.Unknown hop = unknown in cc)
asks_on i to hop (Hardware.Ethernet own) unknown may = asks_from i own hop may

pub plan_asks : (i : InnerValue) (busy : Bool) (h : IpRepr) (hop : IpAddress) → never_leaves i h ≡ false
    → link_address i (destination_of h) ≡ Link.Unknown hop → may_solicit i hop ≡ true → Asking hop (plan_of i busy h)
plan_asks i busy h hop leaves unknown asks =
    let is : plan_of i busy h ≡ solicit_on i.hardware i hop =
    ap (λ (never : Bool). if never then Way.Drop else plan_by (link_address i (destination_of h)) i busy h) leaves
    ∙ ap (λ (l : LinkAddress). plan_by l i busy h) unknown
    ∙ ap (λ (may : Bool). solicit_if may i hop) asks in
    let it : Asking hop (solicit_on i.hardware i hop) = asks_on i (destination_of h) hop i.hardware unknown asks in
    (it.0, is ∙ it.1, it.2)

pub asks_plan : (i : InnerValue) (busy : Bool) (settings : UdpSettings) (d : UdpMetadata × List ℕ) (hop : IpAddress) (p : PacketValue)
    → HasToAsk i settings d hop p → Asking hop (plan_of i busy p.header)
asks_plan i busy settings d hop p has = plan_asks i busy p.header hop has.may has.unknown has.asks

-- a question is from the host's host, and from the address that a packet for the neighbour would be sent from
module _ (i : InnerValue) (q : NeighborQuery) where
  abbrev From : Type 0
  From = IsFrom i.hardware i.addresses q

  this : (k : NeighborQuery) → Way.Ask k ≡ Way.Ask q → IsFrom i.hardware i.addresses k → From
  this k is from = subst (λ (x : NeighborQuery). IsFrom i.hardware i.addresses x) (let same : k ≡ q = cc in same) from

  by_source : (own : EthernetAddress) (hop : Ipv4Address) (o : Option Ipv4Address) → i.hardware ≡ Hardware.Ethernet own → source_v4 i.addresses hop ≡ o
      → solicit_v4 own o hop ≡ Way.Ask q → From
  by_source own hop None on source is = absurd cc
  by_source own hop (Some a) on source is = this (Query.Arp own a hop) is (on, source)

  by_hop : (own : EthernetAddress) (hop : IpAddress) → i.hardware ≡ Hardware.Ethernet own → solicit_from own i hop ≡ Way.Ask q → From
  by_hop own (Address.Ipv4 hop) on is = by_source own hop (source_v4 i.addresses hop) on refl is
  by_hop own (Address.Ipv6 hop) on is = this (Query.Neighbor own (source_v6 i.addresses hop) hop) is (on, refl)

  by_hardware : (hardware : HardwareAddress) (hop : IpAddress) → i.hardware ≡ hardware → solicit_on hardware i hop ≡ Way.Ask q → From
  by_hardware Hardware.Ip hop on is = absurd cc
  by_hardware (Hardware.Ethernet own) hop on is = by_hop own hop on is

  by_leave : (may : Bool) (hop : IpAddress) → solicit_if may i hop ≡ Way.Ask q → From
  by_leave true hop is = by_hardware i.hardware hop refl is
  by_leave false hop is = absurd cc

  no_question : (short cuttable busy : Bool) (to : HardwareAddress)
      → (if short then Way.Go to else if cuttable then if busy then Way.Busy else Way.Cut to else Way.Drop) ≡ Way.Ask q → ⊥
  no_question true cuttable busy to is = cc
  no_question false true true to is = cc
  no_question false true false to is = cc
  no_question false false busy to is = cc

  by_link : (l : LinkAddress) (busy : Bool) (h : IpRepr) → plan_by l i busy h ≡ Way.Ask q → From
  by_link (Link.Known to) busy h is = absurd (no_question (nat_le (total_len h) (mtu_to i (destination_of h))) (can_be_cut h) busy to is)
  by_link Link.NoRoute busy h is = absurd cc
  by_link Link.Silent busy h is = absurd cc
  by_link Link.Unanswered busy h is = absurd cc
  by_link (Link.Unknown hop) busy h is = by_leave (may_solicit i hop) hop is

  by_plan : (never busy : Bool) (h : IpRepr) → (if never then Way.Drop else plan_by (link_address i (destination_of h)) i busy h) ≡ Way.Ask q → From
  by_plan true busy h is = absurd cc
  by_plan false busy h is = by_link (link_address i (destination_of h)) busy h is

pub plan_from : (i : InnerValue) (busy : Bool) (h : IpRepr) (q : NeighborQuery) → plan_of i busy h ≡ Way.Ask q → IsFrom i.hardware i.addresses q
plan_from i busy h q is = by_plan i q (never_leaves i h) busy h is

-- and it is for the packet's next hop
module _ (i : InnerValue) (q : NeighborQuery) where
  its_target : (k : NeighborQuery) → Way.Ask k ≡ Way.Ask q → target_of k ≡ target_of q
  its_target k is = ap target_of (let same : k ≡ q = cc in same)

  target_v4 : (own : EthernetAddress) (o : Option Ipv4Address) (hop : Ipv4Address) → solicit_v4 own o hop ≡ Way.Ask q → Address.Ipv4 hop ≡ target_of q
  target_v4 own None hop is = absurd cc
  target_v4 own (Some a) hop is = its_target (Query.Arp own a hop) is

  target_from : (own : EthernetAddress) (hop : IpAddress) → solicit_from own i hop ≡ Way.Ask q → hop ≡ target_of q
  target_from own (Address.Ipv4 hop) is = target_v4 own (source_v4 i.addresses hop) hop is
  target_from own (Address.Ipv6 hop) is = its_target (Query.Neighbor own (source_v6 i.addresses hop) hop) is

  target_on : (hardware : HardwareAddress) (hop : IpAddress) → solicit_on hardware i hop ≡ Way.Ask q → hop ≡ target_of q
  target_on Hardware.Ip hop is = absurd cc
  target_on (Hardware.Ethernet own) hop is = target_from own hop is

  target_if : (may : Bool) (hop : IpAddress) → solicit_if may i hop ≡ Way.Ask q → hop ≡ target_of q
  target_if true hop is = target_on i.hardware hop is
  target_if false hop is = absurd cc

  target_by : (l : LinkAddress) (busy : Bool) (h : IpRepr) → plan_by l i busy h ≡ Way.Ask q → l ≡ Link.Unknown (target_of q)
  target_by (Link.Known to) busy h is = absurd (no_question i q (nat_le (total_len h) (mtu_to i (destination_of h))) (can_be_cut h) busy to is)
  target_by Link.NoRoute busy h is = absurd cc
  target_by Link.Silent busy h is = absurd cc
  target_by Link.Unanswered busy h is = absurd cc
  target_by (Link.Unknown hop) busy h is = ap Link.Unknown (target_if (may_solicit i hop) hop is)

  target_plan : (never busy : Bool) (h : IpRepr) → (if never then Way.Drop else plan_by (link_address i (destination_of h)) i busy h) ≡ Way.Ask q
      → link_address i (destination_of h) ≡ Link.Unknown (target_of q)
  target_plan true busy h is = absurd cc
  target_plan false busy h is = target_by (link_address i (destination_of h)) busy h is

pub plan_for : (i : InnerValue) (busy : Bool) (h : IpRepr) (q : NeighborQuery) → plan_of i busy h ≡ Way.Ask q
    → link_address i (destination_of h) ≡ Link.Unknown (target_of q)
plan_for i busy h q is = target_plan i q (never_leaves i h) busy h is

-- WHAT STAYS

module _ (i : InnerValue) (ident : ℕ) where
  abbrev later : InnerValue
  later = record i { ident = ident }

  hop_kept : (o : Option IpAddress) (hop : IpAddress) → link_of_hop i o ≡ Link.Unknown hop → link_of_hop later o ≡ Link.Unknown hop
  hop_kept None hop is = is
  hop_kept (Some via) hop is = is

  on_kept : (hardware : HardwareAddress) (to hop : IpAddress) → link_on hardware i to ≡ Link.Unknown hop → link_on hardware later to ≡ Link.Unknown hop
  on_kept Hardware.Ip to hop is = is
  on_kept (Hardware.Ethernet own) to hop is = by (is_local_broadcast i to) (is_multicast to) is where
    by : (all group : Bool)
        → (if all then Link.Known (Hardware.Ethernet all_stations)
        else if group then Link.Known (Hardware.Ethernet (group_hardware_addr to)) else link_of_hop i (next_hop i to)) ≡ Link.Unknown hop
        → (if all then Link.Known (Hardware.Ethernet all_stations)
        else if group then Link.Known (Hardware.Ethernet (group_hardware_addr to)) else link_of_hop later (next_hop i to)) ≡ Link.Unknown hop
    by true group e = e
    by false true e = e
    by false false e = hop_kept (next_hop i to) hop e

  may_kept : (o : Option IpAddress) (hop : IpAddress) → may_be_source_on o i hop ≡ true → may_be_source_on o later hop ≡ true
  may_kept None hop is = is
  may_kept (Some source) hop is = is

  kept_by : (settings : UdpSettings) (d : UdpMetadata × List ℕ) (hop : IpAddress) (p : PacketValue) → HasToAsk i settings d hop p
      → HasToAsk later settings d hop p
  kept_by settings d hop p has = record {
    takes = has.takes;
    may = has.may;
    unknown = on_kept i.hardware (destination_of p.header) hop has.unknown;
    asks = may_kept (source_for i.addresses hop) hop has.asks;
    alone = has.alone;
    room = has.room;
  }

pub sought_under : (i : InnerValue) (ident : ℕ) (to hop : IpAddress) → link_address (record i { ident = ident }) to ≡ Link.Unknown hop
    → link_address i to ≡ Link.Unknown hop
sought_under i ident to hop is = on_kept (record i { ident = ident }) i.ident i.hardware to hop is

pub may_under : (i : InnerValue) (ident : ℕ) (hop : IpAddress) → may_solicit i hop ≡ true → may_solicit (record i { ident = ident }) hop ≡ true
may_under i ident hop is = may_kept i ident (source_for i.addresses hop) hop is

pub asks_under : (i : InnerValue) (ident : ℕ) (settings : UdpSettings) (d : UdpMetadata × List ℕ) (hop : IpAddress) (p : PacketValue)
    → HasToAsk i settings d hop p → HasToAsk (record i { ident = ident }) settings d hop p
asks_under i ident settings d hop p has = kept_by i ident settings d hop p has

pub kept_in : (i i' : InnerValue) (settings : UdpSettings) (d : UdpMetadata × List ℕ) (hop : IpAddress) (p : PacketValue) (m : Meta) → IsSameHost i i'
    → i'.neighbors ≡ i.neighbors → HasToAsk i settings d hop p → is_waiting i m ≡ false
    → (HasToAsk i' settings d hop p) × (is_waiting i' m ≡ false)
kept_in i i' settings d hop p m same kept has ready =
    let is : i' ≡ record i { ident = i'.ident } =
    same_alone i i' has.alone same ∙ ap (λ (c : CacheValue). record i {
      ident = i'.ident;
      neighbors = record i.neighbors { silent = c.silent; searches = c.searches };
    }) kept in (
      subst (λ (x : InnerValue). HasToAsk x settings d hop p) (sym is) (kept_by i i'.ident settings d hop p has),
      waits_still i i' m same ready,
    )

-- HELD

held_by : (given_up other : Bool) → (if given_up then Some Outcome.Dropped else if other then Some Outcome.Waits else None) ≡ None → other ≡ false
held_by true other is = absurd (let clash : Some Outcome.Dropped ≡ None = is in cc)
held_by false true is = absurd (let clash : Some Outcome.Waits ≡ None = is in cc)
held_by false false is = refl

pub held_not : (turn : Option IpAddress) (m : Meta) (i : InnerValue) (to : IpAddress) (plan : Plan) → held turn m i to plan ≡ None
    → is_out_of_turn turn plan ≡ false
held_not turn m i to plan is = held_by (is_given_up m i to plan) (is_out_of_turn turn plan) is

pub held_none : (turn : Option IpAddress) (m : Meta) (i : InnerValue) (to : IpAddress) (q : NeighborQuery) → is_crowded i ≡ false
    → is_other turn (target_of q) ≡ false → held turn m i to (Way.Ask q) ≡ None
held_none turn m i to q room whose =
    ap (λ (crowded : Bool). if crowded && has_waited m to crowded_time i.instant then Some Outcome.Dropped
    else if is_other turn (target_of q) then Some Outcome.Waits else None) room
    ∙ ap (λ (other : Bool). if other then Some Outcome.Waits else None) whose
