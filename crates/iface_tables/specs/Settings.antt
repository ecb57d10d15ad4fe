-- How a host is made, what is set at it, and what is refused.
use Rattle.std.specs.Prelude.{◌≡◌, ℕ, ◌==◌, ◌&&◌, ◌||◌, not, nat_lt, Bool, true, false, if◌then◌else◌, ℤ, pos, int_lt, List, [], Option, None, Some, Result, Ok, Err, MatchResult}
use Rattle.std.specs.List.{list_any}
use Rattle.net_base.specs.Capabilities.{ip_mtu}
use Rattle.net_base.specs.DeviceCapabilities.{DeviceCapabilities}
use Rattle.net_base.specs.Medium.{Medium}
use Rattle.net_base.specs.Medium.TheVariants as Medium
use Rattle.net_base.specs.RandomWords.{next_state, half_word}
use Rattle.net_base.specs.Time.{last_instant}
use Rattle.ip_wire.specs.AddressTests.{is_ethernet_unicast, is_unicast, is_unspecified}
use Rattle.ip_wire.specs.Cidr.{cidr_address}
use Rattle.ip_wire.specs.HardwareAddress.{HardwareAddress}
use Rattle.ip_wire.specs.HardwareAddress.TheVariants as Hardware
use Rattle.ip_wire.specs.IpAddress.{IpAddress}
use Rattle.ip_wire.specs.IpCidr.{IpCidr}
use Rattle.iface_tables.specs.Groups.{group_room, no_groups, join_refusal, joined, leave_refusal, left}
use Rattle.iface_tables.specs.Inner.{InnerValue}
use Rattle.iface_tables.specs.Neighbor.{CacheValue, flushed}
use Rattle.iface_tables.specs.Neighbor as Neighbors
use Rattle.iface_tables.specs.Parking.{empty_parking, room_for_many}
use Rattle.iface_tables.specs.Route.{RoutesValue}
use Rattle.iface_tables.specs.declared.route.Route.{Route}
use Rattle.iface_tables.specs.declared.config.Config.{Config}
use Rattle.iface_tables.specs.declared.config.NewError.{NewError}
use Rattle.iface_tables.specs.declared.config.NewError.TheVariants as New
use Rattle.iface_tables.specs.declared.config.HardwareAddrError.{HardwareAddrError}
use Rattle.iface_tables.specs.declared.config.HardwareAddrError.TheVariants as Set

-- NEW

-- how many neighbours and routes are kept where nothing else is asked for
abbrev pub table_room : ℕ
table_room = 4

abbrev pub default_config : HardwareAddress → Config
default_config hardware =
    record {
      random_seed = 0;
      hardware_addr = hardware;
      isn_key = None;
      neighbor_cache_count = table_room;
      max_route_count = table_room;
      host_requirements = false;
      multicast_reports = false;
      max_group_count = group_room;
    }

-- the same on a network of many, whose switches are told of the groups
abbrev pub network_config : HardwareAddress → Config
network_config hardware = record (default_config hardware) { neighbor_cache_count = 256; host_requirements = true; multicast_reports = true }

abbrev pub is_of_medium : HardwareAddress → Medium → Bool
is_of_medium Hardware.Ip Medium.Ethernet = false
is_of_medium Hardware.Ip Medium.Ip = true
is_of_medium (Hardware.Ethernet a) Medium.Ethernet = true
is_of_medium (Hardware.Ethernet a) Medium.Ip = false

-- one hardware address's, or none at all
abbrev pub is_unicast_hardware : HardwareAddress → Bool
is_unicast_hardware Hardware.Ip = true
is_unicast_hardware (Hardware.Ethernet a) = is_ethernet_unicast a

-- every IPv4 host takes packets of 576 bytes (RFC 791, section 3.1), and none is longer than its length field says
abbrev pub is_mtu : ℕ → Bool
is_mtu size = not (nat_lt size 576) && not (nat_lt 65535 size)

abbrev pub is_moment : ℤ → Bool
is_moment t = not (int_lt t (pos 0)) && not (int_lt (pos last_instant) t)

-- why no host is made, the first reason that there is
abbrev pub refusal : Config → DeviceCapabilities → ℤ → Option NewError
refusal config device instant =
    if is_of_medium config.hardware_addr device.medium
    then (if is_unicast_hardware config.hardware_addr
    then (if is_mtu (ip_mtu device)
    then (if is_moment instant then None else Some New.Moment)
    else Some New.Mtu)
    else Some New.NotUnicast)
    else Some New.Medium

-- the first identification is a random word but 0
abbrev pub first_ident : ℕ → ℕ
first_ident word = if word == 0 then 1 else word

abbrev pub neighbors_for : Bool → CacheValue → CacheValue
neighbors_for many c = if many then Neighbors.for_many c else c

abbrev pub made : Config → DeviceCapabilities → ℤ → InnerValue
made config device instant = record {
  instant = instant;
  random = next_state config.random_seed;
  hardware = config.hardware_addr;
  mtu = ip_mtu device;
  checksums = device.checksum;
  isn_key = config.isn_key;
  addresses = [];
  any_ip = false;
  groups = no_groups config.max_group_count;
  routes = [];
  route_room = config.max_route_count;
  neighbors = neighbors_for config.host_requirements (Neighbors.initial (Neighbors.cache_room config.neighbor_cache_count));
  ident = first_ident (half_word (next_state config.random_seed));
  errors_until = pos 0;
  paths = [];
  initial = true;
  host_requirements = config.host_requirements;
  parking = empty_parking (room_for_many config.host_requirements);
}

-- A refusal has its reason. Without one it is made, or there is no memory for it.
abbrev pub MadeUnless : {X : Type 0} → Option NewError → X → Result X NewError → Type 0
MadeUnless (Some e) new result = result ≡ Err e
MadeUnless None new result = MatchResult result (λ x. x ≡ new) (λ e. e ≡ New.Memory)

abbrev pub unless : {X : Type 0} {E : Type 0} → Option E → X → Result X E
unless None value = Ok value
unless (Some e) value = Err e

-- SETTINGS

-- a medium without hardware addresses has none to set, and one with them takes one hardware address's
abbrev pub hardware_refusal : HardwareAddress → HardwareAddress → Option HardwareAddrError
hardware_refusal Hardware.Ip address = Some Set.Medium
hardware_refusal (Hardware.Ethernet local) Hardware.Ip = Some Set.Medium
hardware_refusal (Hardware.Ethernet local) (Hardware.Ethernet a) = if is_ethernet_unicast a then None else Some Set.NotUnicast

abbrev pub if_none : {E : Type 0} → Option E → InnerValue → InnerValue → InnerValue
if_none None new old = new
if_none (Some e) new old = old

abbrev pub with_hardware : InnerValue → HardwareAddress → InnerValue
with_hardware i address = if_none (hardware_refusal i.hardware address) (record i { hardware = address }) i

-- neither a host's address nor the unspecified one
abbrev pub is_stranger : IpCidr → Bool
is_stranger b = not (is_unicast (cidr_address b) || is_unspecified (cidr_address b))

-- with other addresses the neighbours are others
abbrev pub with_addresses : InnerValue → List IpCidr → InnerValue
with_addresses i blocks =
    if list_any is_stranger blocks then i else record i { addresses = blocks; neighbors = flushed i.neighbors }

abbrev pub with_any_ip : InnerValue → Bool → InnerValue
with_any_ip i any_ip = record i { any_ip = any_ip; initial = false }

-- a host that listens to one group more, or to one less
abbrev pub with_group : InnerValue → IpAddress → InnerValue
with_group i address = if_none (join_refusal i.groups address) (record i { groups = joined i.groups address; initial = false }) i

abbrev pub without_group : InnerValue → IpAddress → InnerValue
without_group i address = if_none (leave_refusal address) (record i { groups = left i.groups address }) i

abbrev pub with_routes : InnerValue → List Route → InnerValue
with_routes i routes = record i { routes = routes }

-- the table of routes, and another in its place
abbrev pub routes_of : InnerValue → RoutesValue
routes_of i = record { entries = i.routes; room = i.route_room }

abbrev pub with_route_table : InnerValue → RoutesValue → InnerValue
with_route_table i rs = record i { routes = rs.entries; route_room = rs.room }

-- a setting or a call that polls
abbrev pub used : InnerValue → InnerValue
used i = record i { initial = false }
