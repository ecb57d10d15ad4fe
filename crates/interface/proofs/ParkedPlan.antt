-- What is to be done with a packet doesn't depend on the packets that wait for their next hops.
use Rattle.std.proofs.Common.{◌≡◌, Bool, ◌||◌, ◌&&◌, not, if◌then◌else◌, Option, None, Some, refl, ap, ◌∙◌}
use Rattle.ip_wire.specs.AddressTests.{is_loopback, is_multicast}
use Rattle.ip_wire.specs.EthernetAddress.{EthernetAddress}
use Rattle.ip_wire.specs.HardwareAddress.{HardwareAddress}
use Rattle.ip_wire.specs.HardwareAddress.TheVariants as Hardware
use Rattle.ip_wire.specs.Ip.{destination_of, source_of}
use Rattle.ip_wire.specs.IpAddress.{IpAddress}
use Rattle.ip_wire.specs.IpAddress.TheVariants as Address
use Rattle.ip_wire.specs.IpRepr.{IpRepr}
use Rattle.iface_tables.specs.Inner.{InnerValue, all_stations, group_hardware_addr, is_local_broadcast, is_nameless, link_address, link_of_hop, link_on}
use Rattle.iface_tables.specs.Inner.{may_be_source, next_hop}
use Rattle.iface_tables.specs.Parking.{ParkingValue}
use Rattle.iface_tables.specs.Source.{source_for}
use Rattle.iface_tables.specs.declared.link.LinkAddress.{LinkAddress}
use Rattle.iface_tables.specs.declared.link.LinkAddress.TheVariants as Link
use Rattle.iface_egress.specs.Plan.{comes_from_here, may_be_source_on, may_solicit, plan_by, plan_of, solicit_from, solicit_if, solicit_on, stays}
use Rattle.iface_egress.specs.declared.plan.Plan.{Plan}
use Rattle.iface_egress.specs.declared.plan.Plan.TheVariants as Way

module _ (i : InnerValue) (k : ParkingValue) where
  abbrev other : InnerValue
  other = record i { parking = k }

  broadcast_parked : (address : IpAddress) → is_local_broadcast other address ≡ is_local_broadcast i address
  broadcast_parked (Address.Ipv4 a) = refl
  broadcast_parked (Address.Ipv6 a) = refl

  source_parked : (source destination : IpAddress) → may_be_source other source destination ≡ may_be_source i source destination
  source_parked source destination =
      ap (λ (all : Bool). not (all || (is_multicast source || is_nameless i source destination)) && (not (is_loopback source) || is_loopback destination))
      (broadcast_parked source)

  source_on_parked : (o : Option IpAddress) (hop : IpAddress) → may_be_source_on o other hop ≡ may_be_source_on o i hop
  source_on_parked None hop = refl
  source_on_parked (Some source) hop = source_parked source hop

  from_parked : (local : EthernetAddress) (hop : IpAddress) → solicit_from local other hop ≡ solicit_from local i hop
  from_parked local (Address.Ipv4 hop) = refl
  from_parked local (Address.Ipv6 hop) = refl

  on_parked : (hardware : HardwareAddress) (hop : IpAddress) → solicit_on hardware other hop ≡ solicit_on hardware i hop
  on_parked Hardware.Ip hop = refl
  on_parked (Hardware.Ethernet local) hop = from_parked local hop

  asks_parked : (hop : IpAddress) → solicit_if (may_solicit other hop) other hop ≡ solicit_if (may_solicit i hop) i hop
  asks_parked hop =
      ap (λ (may : Bool). solicit_if may other hop) (source_on_parked (source_for i.addresses hop) hop)
      ∙ ap (λ (plan : Plan). if may_solicit i hop then plan else Way.NoRoute) (on_parked i.hardware hop)

  by_parked : (link : LinkAddress) (busy : Bool) (header : IpRepr) → plan_by link other busy header ≡ plan_by link i busy header
  by_parked (Link.Known to) busy header = refl
  by_parked Link.NoRoute busy header = refl
  by_parked Link.Silent busy header = refl
  by_parked Link.Unanswered busy header = refl
  by_parked (Link.Unknown hop) busy header = asks_parked hop

  hop_parked : (o : Option IpAddress) → link_of_hop other o ≡ link_of_hop i o
  hop_parked None = refl
  hop_parked (Some hop) = refl

  link_parked : (hardware : HardwareAddress) (address : IpAddress) → link_on hardware other address ≡ link_on hardware i address
  link_parked Hardware.Ip address = refl
  link_parked (Hardware.Ethernet local) address =
      ap (λ (all : Bool). if all then Link.Known (Hardware.Ethernet all_stations) else if is_multicast address
      then Link.Known (Hardware.Ethernet (group_hardware_addr address)) else link_of_hop other (next_hop other address)) (broadcast_parked address)
      ∙ ap (λ (link : LinkAddress). if is_local_broadcast i address then Link.Known (Hardware.Ethernet all_stations) else if is_multicast address
      then Link.Known (Hardware.Ethernet (group_hardware_addr address)) else link) (hop_parked (next_hop i address))

  pub plan_parked : (busy : Bool) (header : IpRepr) → plan_of other busy header ≡ plan_of i busy header
  plan_parked busy header =
      ap (λ (here : Bool). if stays i here (destination_of header) then Way.Drop else plan_by (link_address other (destination_of header)) other busy header)
      (source_parked (source_of header) (destination_of header))
      ∙ ap (λ (plan : Plan). if stays i (comes_from_here i header) (destination_of header) then Way.Drop else plan)
      (ap (λ (link : LinkAddress). plan_by link other busy header) (link_parked i.hardware (destination_of header))
      ∙ by_parked (link_address i (destination_of header)) busy header)
