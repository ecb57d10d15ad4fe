-- Routes by their prefixes: a route is found among those of its key, once for each prefix length that occurs.
use Rattle.std.specs.Prelude.{◌≡◌, ℕ, ◌+◌, ◌-◌, ◌/◌, ◌%◌, ◌^◌, ◌<◌, ◌≤◌, ◌==◌, nat_lt, if◌then◌else◌, ◌&&◌, Bool, true, false, ℤ, List, length, slice_get, Option, None, Some}
use Rattle.ip_wire.specs.Address.{v4_number, v6_number}
use Rattle.ip_wire.specs.Cidr.{cidr_address, cidr_prefix_len}
use Rattle.ip_wire.specs.IpAddress.{IpAddress}
use Rattle.ip_wire.specs.IpAddress.TheVariants as Address
use Rattle.iface_tables.specs.Route.{serves}
use Rattle.iface_tables.specs.declared.route.Route.{Route}

-- the sum of a number's 64-bit halves
abbrev pub sum_of_halves : ℕ → ℕ
sum_of_halves x = (x / 2 ^ 64 + x % 2 ^ 64) % 2 ^ 64

-- the first bits of an address, so many, as a key
abbrev pub prefix_key : ℕ → IpAddress → ℕ
prefix_key len (Address.Ipv4 a) = v4_number a / 2 ^ (32 - len)
prefix_key len (Address.Ipv6 a) = sum_of_halves (v6_number a / 2 ^ (128 - len))

-- the key of a route's prefix
abbrev pub route_key : Route → ℕ
route_key r = prefix_key (cidr_prefix_len r.cidr) (cidr_address r.cidr)

-- the place of each route before this one has the key of its prefix
abbrev pub AreKeyedBefore : ℕ → List Route → List ℕ → Type 0
AreKeyedBefore end routes keys =
    (at : ℕ) (r : Route) → at < end → slice_get routes at ≡ Some r → slice_get keys at ≡ Some (route_key r)

-- each route's place has the key of its prefix
abbrev pub AreKeyed : List Route → List ℕ → Type 0
AreKeyed routes keys = AreKeyedBefore (length routes) routes keys

-- no length is longer than one before it
abbrev pub AreFalling : List ℕ → Type 0
AreFalling lengths = (i j a b : ℕ) → i ≤ j → slice_get lengths i ≡ Some a → slice_get lengths j ≡ Some b → b ≤ a

-- each prefix length of this number of bits or more that a route has is among the lengths
abbrev pub TellFrom : ℕ → List Route → List ℕ → Type 0
TellFrom least routes lengths =
    (at : ℕ) (r : Route) → slice_get routes at ≡ Some r → least ≤ cidr_prefix_len r.cidr
    → (i : ℕ) × (slice_get lengths i ≡ Some (cidr_prefix_len r.cidr))

-- the prefix lengths that routes have, the longest first
abbrev pub AreLengths : List Route → List ℕ → Type 0
AreLengths routes lengths = AreFalling lengths × TellFrom 0 routes lengths

-- a route with a prefix of this length serves the destination
abbrev pub serves_by : ℕ → IpAddress → ℤ → Route → Bool
serves_by len address instant r = serves address instant r && (cidr_prefix_len r.cidr == len)

-- the longer one of the two, where the other is shorter than the bound
abbrev pub longer_below : Option ℕ → ℕ → ℕ → Option ℕ
longer_below None other bound = if nat_lt other bound then Some other else None
longer_below (Some len) other bound = if nat_lt other bound && nat_lt len other then Some other else Some len

-- no route from this place on passes the test
abbrev pub NonePasses : (Route → Bool) → ℕ → List Route → Type 0
NonePasses test from routes = (i : ℕ) (r : Route) → from ≤ i → slice_get routes i ≡ Some r → test r ≡ false

-- the last route that passes the test, if there is one
abbrev pub IsLast : (Route → Bool) → List Route → Option Route → Type 0
IsLast test routes None = NonePasses test 0 routes
IsLast test routes (Some r) = (at : ℕ) × (slice_get routes at ≡ Some r) × (test r ≡ true) × NonePasses test (at + 1) routes

-- the longest prefix shorter than this that a route has, if there is one
abbrev pub IsLongestBelow : ℕ → ℕ → List Route → Option ℕ → Type 0
IsLongestBelow bound end routes None =
    (i : ℕ) (r : Route) → i < end → slice_get routes i ≡ Some r → bound ≤ cidr_prefix_len r.cidr
IsLongestBelow bound end routes (Some len) =
    (len < bound) × ((i : ℕ) (r : Route) → i < end → slice_get routes i ≡ Some r → cidr_prefix_len r.cidr < bound → cidr_prefix_len r.cidr ≤ len)
