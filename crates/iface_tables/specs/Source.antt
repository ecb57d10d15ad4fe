-- The address that a packet is sent from (RFC 6724, sections 4 and 5, rules 1, 2 and 8; RFC 1122, section 3.3.4.3).
use Rattle.std.specs.Prelude.{ℕ, ◌+◌, ◌-◌, nat_lt, not, ◌&&◌, ◌||◌, Bool, true, false, if◌then◌else◌, min, List, [], ◌∷◌, replicate, ◌++◌, Option, None, Some, find}
use Rattle.std.specs.List.{filter_map}
use Rattle.ip_wire.specs.Address.{scope_of}
use Rattle.ip_wire.specs.AddressTests.{is_in_cidr, is_unspecified, is_unspecified_v6, is_multicast_v6, is_loopback_v6, is_link_local, common_prefix_len}
use Rattle.ip_wire.specs.AddressTests.{is_same_address}
use Rattle.ip_wire.specs.IpAddress.{IpAddress}
use Rattle.ip_wire.specs.IpAddress.TheVariants as Ip
use Rattle.ip_wire.specs.IpCidr.{IpCidr}
use Rattle.ip_wire.specs.IpCidr.TheVariants as Cidr
use Rattle.ip_wire.specs.Ipv4Address.{Ipv4Address}
use Rattle.ip_wire.specs.Ipv6Address.{Ipv6Address}
use Rattle.ip_wire.specs.Ipv6Cidr.{Ipv6Cidr}
use Rattle.iface_tables.specs.Best.{first_that, first_best, by_least, no_better}

-- IPv4

abbrev pub is_v4 : IpCidr → Bool
is_v4 (Cidr.Ipv4 b) = true
is_v4 (Cidr.Ipv6 b) = false

abbrev pub v4_address : Option IpCidr → Option Ipv4Address
v4_address None = None
v4_address (Some (Cidr.Ipv4 b)) = Some b.address
v4_address (Some (Cidr.Ipv6 b)) = None

-- the first IPv4 address
abbrev pub first_v4 : List IpCidr → Option Ipv4Address
first_v4 addresses = v4_address (first_that is_v4 addresses)

abbrev pub or_else : Option IpCidr → Option IpCidr → Option IpCidr
or_else None other = other
or_else (Some b) other = Some b

-- the first address whose network the destination is in, else the first
abbrev pub source_v4 : List IpCidr → Ipv4Address → Option Ipv4Address
source_v4 addresses destination =
    v4_address (or_else (first_that (λ b. is_in_cidr b (Ip.Ipv4 destination)) addresses) (first_that is_v4 addresses))

-- IPv6

abbrev pub is_v6 : IpCidr → Bool
is_v6 (Cidr.Ipv4 b) = false
is_v6 (Cidr.Ipv6 b) = true

abbrev pub v6_address : Option IpCidr → Option Ipv6Address
v6_address None = None
v6_address (Some (Cidr.Ipv4 b)) = None
v6_address (Some (Cidr.Ipv6 b)) = Some b.address

-- the first IPv6 address
abbrev pub first_v6 : List IpCidr → Option Ipv6Address
first_v6 addresses = v6_address (first_that is_v6 addresses)

-- ::1 is the source for loopback destinations alone (RFC 4007, section 4), and a link-local destination is reached from a link-local address
-- alone
abbrev pub may_send : Ipv6Address → Ipv6Cidr → Bool
may_send destination b =
    not (is_unspecified_v6 b.address) && not (is_multicast_v6 b.address) && not (is_loopback_v6 b.address)
    && (not (is_link_local destination) || is_link_local b.address)

abbrev pub candidate : Ipv6Address → IpCidr → Option Ipv6Cidr
candidate destination (Cidr.Ipv4 b) = None
candidate destination (Cidr.Ipv6 b) = if may_send destination b then Some b else None

-- rule 1: the destination itself
abbrev pub differs : Ipv6Address → Ipv6Cidr → ℕ
differs destination b = if is_same_address (Ip.Ipv6 b.address) (Ip.Ipv6 destination) then 0 else 1

-- rule 2: a scope that reaches the destination's, then the nearest one
abbrev pub falls_short : Ipv6Address → Ipv6Cidr → ℕ
falls_short destination b = if nat_lt (scope_of b.address) (scope_of destination) then 1 else 0

abbrev pub distance : Ipv6Address → Ipv6Cidr → ℕ
distance destination b = (scope_of b.address - scope_of destination) + (scope_of destination - scope_of b.address)

-- rule 8: the longest prefix in common, of those bits that name the source's network
abbrev pub uncommon : Ipv6Address → Ipv6Cidr → ℕ
uncommon destination b = 128 - min (common_prefix_len b.address destination) b.prefix_len

-- by these rules in turn
abbrev pub better_for : Ipv6Address → Ipv6Cidr → Ipv6Cidr → Bool
better_for destination =
    by_least (differs destination) (by_least (falls_short destination) (by_least (distance destination) (by_least (uncommon destination) no_better)))

-- the best candidate, the first of equal ones
abbrev pub best_source : List IpCidr → Ipv6Address → Option Ipv6Cidr
best_source addresses destination = first_best (better_for destination) (filter_map (candidate destination) addresses)

abbrev pub localhost : Ipv6Address
localhost = record { 0 = replicate 15 0 ++ 1 ∷ [] }

abbrev pub address_or : Option Ipv6Cidr → Option Ipv6Address → Ipv6Address
address_or (Some b) first = b.address
address_or None (Some first) = first
address_or None None = localhost

-- an IPv6 address by which a host is known beyond itself
abbrev pub is_abroad : IpCidr → Bool
is_abroad (Cidr.Ipv4 b) = false
is_abroad (Cidr.Ipv6 b) = not (is_loopback_v6 b.address)

-- the first of them
abbrev pub first_abroad : List IpCidr → Option Ipv6Address
first_abroad addresses = v6_address (find is_abroad addresses)

-- ::1 for a loopback destination and where there is no other IPv6 address; the best candidate; with no candidate the first other address
abbrev pub source_v6 : List IpCidr → Ipv6Address → Ipv6Address
source_v6 addresses destination =
    if is_loopback_v6 destination then localhost else address_or (best_source addresses destination) (first_abroad addresses)

-- BOTH

abbrev pub in_v4 : Option Ipv4Address → Option IpAddress
in_v4 None = None
in_v4 (Some a) = Some (Ip.Ipv4 a)

abbrev pub source_by : List IpCidr → IpAddress → Option IpAddress
source_by addresses (Ip.Ipv4 a) = in_v4 (source_v4 addresses a)
source_by addresses (Ip.Ipv6 a) = Some (Ip.Ipv6 (source_v6 addresses a))

abbrev pub source_for : List IpCidr → IpAddress → Option IpAddress
source_for addresses destination = if is_unspecified destination then None else source_by addresses destination
