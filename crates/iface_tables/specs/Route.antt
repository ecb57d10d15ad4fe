-- Routes, and the one that a packet takes (RFC 1812, section 5.2.4.3).
use Rattle.std.specs.Prelude.{◌≡◌, ℕ, ◌==◌, ◌||◌, nat_lt, not, ◌&&◌, Bool, true, false, if◌then◌else◌, ℤ, int_lt, List, [], ◌∷◌, ◌++◌, length, remove, reverse}
use Rattle.std.specs.Prelude.{position, replicate, Option, None, Some, is_some}
use Rattle.std.specs.List.{filter_map}
use Rattle.std.specs.Str.{bytes_eq}
use Rattle.ip_wire.specs.AddressTests.{is_in_cidr, is_unicast, are_of_one_family}
use Rattle.ip_wire.specs.Cidr.{cidr_address, cidr_prefix_len, IsCidr}
use Rattle.ip_wire.specs.IpAddress.{IpAddress}
use Rattle.ip_wire.specs.IpAddress.TheVariants as Address
use Rattle.ip_wire.specs.IpCidr.{IpCidr}
use Rattle.ip_wire.specs.IpCidr.TheVariants as Cidr
use Rattle.iface_tables.specs.Best.{first_best}
use Rattle.iface_tables.specs.declared.route.Route.{Route}

-- the routes, in the order in which they were added, and how many there can be
pub record RoutesValue : Type 0 where
  pub entries : List Route
  pub room : ℕ

abbrev pub no_routes : ℕ → RoutesValue
no_routes room = record { entries = []; room = room }

-- LOOKUP

-- a route counts until its expiry, that instant included
abbrev pub is_expired : Option ℤ → ℤ → Bool
is_expired None instant = false
is_expired (Some end) instant = int_lt end instant

-- the destination is in the block, the route hasn't expired, and its router is one host of that family
abbrev pub serves : IpAddress → ℤ → Route → Bool
serves address instant r =
    is_in_cidr r.cidr address && not (is_expired r.expires_at instant) && is_unicast r.via_router
    && are_of_one_family r.via_router address

abbrev pub serving : IpAddress → ℤ → Route → Option Route
serving address instant r = if serves address instant r then Some r else None

abbrev pub is_longer : Route → Route → Bool
is_longer r s = nat_lt (cidr_prefix_len s.cidr) (cidr_prefix_len r.cidr)

-- of the routes that serve the destination, from the last one to the first, the first with the longest prefix
abbrev pub best_route : List Route → IpAddress → ℤ → Option Route
best_route routes address instant = first_best is_longer (filter_map (serving address instant) (reverse routes))

abbrev pub router_of : Option Route → Option IpAddress
router_of None = None
router_of (Some r) = Some r.via_router

-- DEFAULT ROUTES

-- 0.0.0.0/0
abbrev pub is_all_v4 : IpCidr → Bool
is_all_v4 (Cidr.Ipv4 b) = bytes_eq b.address.0 (replicate 4 0) && (b.prefix_len == 0)
is_all_v4 (Cidr.Ipv6 b) = false

-- ::/0
abbrev pub is_all_v6 : IpCidr → Bool
is_all_v6 (Cidr.Ipv4 b) = false
is_all_v6 (Cidr.Ipv6 b) = bytes_eq b.address.0 (replicate 16 0) && (b.prefix_len == 0)

abbrev pub is_gateway_v4 : Route → Bool
is_gateway_v4 r = is_all_v4 r.cidr

abbrev pub is_gateway_v6 : Route → Bool
is_gateway_v6 r = is_all_v6 r.cidr

-- the route for every destination of its family, forever
pub record IsGateway (r : Route) (any : List ℕ) (router : IpAddress) : Type 0 where
  pub cidr : IsCidr r.cidr any 0
  pub family : are_of_one_family (cidr_address r.cidr) router ≡ true
  pub via : r.via_router ≡ router
  pub preferred : r.preferred_until ≡ None
  pub expires : r.expires_at ≡ None

-- what stands in an unused place of a table: the route of all IPv4 packets to 0.0.0.0
abbrev pub IsBlank : Route → Type 0
IsBlank r = IsGateway r (replicate 4 0) (Address.Ipv4 (record { 0 = replicate 4 0 }))

abbrev pub without_at : Option ℕ → List Route → List Route
without_at None routes = routes
without_at (Some at) routes = remove routes at

-- the routes without the first one that passes the test
abbrev pub without : (Route → Bool) → List Route → List Route
without test routes = without_at (position test routes) routes

-- a default route is added where there is room without the one that was there, if there was one; a full table stays as it is
abbrev pub has_room : ℕ → (Route → Bool) → List Route → Bool
has_room room test routes = is_some (position test routes) || nat_lt (length routes) room

-- the new route stands last
abbrev pub IsAdded : (Route → Bool) → (Route → Type 0) → List Route → List Route → Type 0
IsAdded test IsNew old new = (r : Route) × IsNew r × (new ≡ without test old ++ r ∷ [])
