-- The own addresses of a host and its routes, with one more or one less, or why not.
use Rattle.std.specs.Prelude.{◌≡◌, ℕ, ◌==◌, nat_le, nat_lt, Bool, not, ◌&&◌, if◌then◌else◌, List, [], ◌∷◌, ◌++◌, length, position, remove, Option, None, Some}
use Rattle.std.specs.Prelude.{ℤ, pos, Result, Ok, Err, MatchResult}
use Rattle.std.specs.List.{list_any}
use Rattle.ip_wire.specs.Cidr.{cidr_address, cidr_prefix_len}
use Rattle.ip_wire.specs.EthernetAddress.{EthernetAddress}
use Rattle.ip_wire.specs.HardwareAddress.TheVariants as Hardware
use Rattle.ip_wire.specs.IpAddress.{IpAddress}
use Rattle.ip_wire.specs.IpCidr.{IpCidr}
use Rattle.sockets.specs.Addresses.{is_same_address, are_of_one_family}
use Rattle.interface.specs.Host.{HostValue}
use Rattle.interface.specs.Announced.{TellsUnless}
pub use Rattle.interface.specs.Made.{with_inner, with_timeout}
use Rattle.interface.specs.Made.{with_assemblers}
use Rattle.interface.specs.Inner.{InnerValue}
use Rattle.interface.specs.Route.{Route}
pub use Rattle.interface.specs.Groups.{leave_refusal}
pub use Rattle.interface.specs.Reports.{host_join_refusal, with_joined, with_left}
use Rattle.interface.specs.Reports.{with_own_addresses}
pub use Rattle.interface.specs.Settings.{hardware_refusal, with_any_ip, with_hardware}
use Rattle.interface.specs.Settings.{is_stranger, with_routes}
use Rattle.interface.specs.HardwareAddrError.{HardwareAddrError}
use Rattle.interface.specs.HardwareAddrError.TheVariants as No
use Rattle.interface.specs.MulticastError.{MulticastError}
use Rattle.interface.specs.MulticastError.TheVariants as Group
use Rattle.c_calls.specs.Link.{LinkMove}
use Rattle.c_calls.specs.Codes.{coded}
use Rattle.c_calls.specs.declared.code.Code.{Code}
use Rattle.c_calls.specs.declared.code.Code.TheVariants as Is
use Rattle.c_calls.specs.Host.{StackValue}

-- how many own addresses a host has at most
abbrev pub address_room : ℕ
address_room = 4

abbrev pub is_done : {A : Type 0} → Result A Code → Result (Unit {0}) Code
is_done (Ok made) = Ok tt
is_done (Err code) = Err code

module _ {A : Type 0} where
  -- one more, where there is room
  abbrev pub pushed : ℕ → List A → A → List A
  pushed room entries entry = if nat_lt (length entries) room then entries ++ entry ∷ [] else entries

  -- without the one at the slot, where there is one
  abbrev pub removed : List A → ℕ → List A
  removed entries slot = if nat_lt slot (length entries) then remove entries slot else entries

-- ADDRESSES

abbrev pub is_address : IpAddress → IpCidr → Bool
is_address address cidr = is_same_address (cidr_address cidr) address

-- each is one host's or unspecified
abbrev pub checked : List IpCidr → Result (List IpCidr) Code
checked blocks = if list_any is_stranger blocks then Err Is.NotUnicast else Ok blocks

abbrev pub own_with : List IpCidr → IpCidr → Result (List IpCidr) Code
own_with own cidr = if nat_le address_room (length own) then Err Is.TableFull else checked (own ++ cidr ∷ [])

abbrev pub own_without_at : List IpCidr → Option ℕ → Result (List IpCidr) Code
own_without_at own None = Err Is.NotFound
own_without_at own (Some slot) = checked (remove own slot)

-- without the first block of this address
abbrev pub own_without : List IpCidr → IpAddress → Result (List IpCidr) Code
own_without own address = own_without_at own (position (is_address address) own)

-- these addresses, or nothing changed
abbrev pub own_in : HostValue → Result (List IpCidr) Code → HostValue
own_in h (Ok blocks) = with_own_addresses h blocks
own_in h (Err code) = h

abbrev pub with_own : StackValue → Result (List IpCidr) Code → StackValue
with_own s blocks = record s { host = own_in s.host blocks }

-- ROUTES

-- it is the route of this block
abbrev pub is_cidr : IpCidr → Route → Bool
is_cidr cidr route =
    is_same_address (cidr_address route.cidr) (cidr_address cidr) && (cidr_prefix_len route.cidr == cidr_prefix_len cidr)

abbrev pub route_to : IpCidr → IpAddress → Route
route_to network router = record { cidr = network; via_router = router; preferred_until = None; expires_at = None }

-- after the others, if its router is of its family and there is room
abbrev pub routes_with : InnerValue → Route → Result (List Route) Code
routes_with i route =
    if not (are_of_one_family (cidr_address route.cidr) route.via_router) then Err Is.BadArgument
    else if nat_le i.route_room (length i.routes) then Err Is.TableFull
    else Ok (i.routes ++ route ∷ [])

abbrev pub routes_without_at : List Route → Option ℕ → Result (List Route) Code
routes_without_at routes None = Err Is.NotFound
routes_without_at routes (Some slot) = Ok (remove routes slot)

-- without the first route of exactly this block
abbrev pub routes_without : List Route → IpCidr → Result (List Route) Code
routes_without routes cidr = routes_without_at routes (position (is_cidr cidr) routes)

abbrev pub table_in : HostValue → Result (List Route) Code → HostValue
table_in h (Ok routes) = with_inner h (with_routes h.inner routes)
table_in h (Err code) = h

abbrev pub with_table : StackValue → Result (List Route) Code → StackValue
with_table s routes = record s { host = table_in s.host routes }

-- HARDWARE ADDRESS

abbrev pub of_hardware : HardwareAddrError → Code
of_hardware No.Medium = Is.Medium
of_hardware No.NotUnicast = Is.NotUnicast

abbrev pub hardware_answer : Option HardwareAddrError → Result (Unit {0}) Code
hardware_answer None = Ok tt
hardware_answer (Some error) = Err (of_hardware error)

-- the address is set, and each own address that neighbours may know is told of, as long as there is room for frames: of so many
abbrev pub UpdatesHardware : EthernetAddress → StackValue → Result ℕ Code → StackValue → Type 0
UpdatesHardware own s result s' =
    (told : Result ℕ HardwareAddrError)
    × TellsUnless LinkMove (pos 0) (with_hardware s.host.inner (Hardware.Ethernet own)) (hardware_refusal s.host.inner.hardware (Hardware.Ethernet own))
    s.link told s'.link
    × (result ≡ coded of_hardware told)
    × (s' ≡ record s { link = s'.link; host = with_inner s.host (with_hardware s.host.inner (Hardware.Ethernet own)) })

-- GROUPS

abbrev pub of_group : MulticastError → Code
of_group Group.GroupTableFull = Is.TableFull
of_group Group.Unaddressable = Is.Unaddressable

abbrev pub group_answer : Option MulticastError → Result (Unit {0}) Code
group_answer None = Ok tt
group_answer (Some error) = Err (of_group error)

-- PIECES

-- there is slot for so many datagrams in pieces, or no memory for it
abbrev pub SetsSlots : ℕ → StackValue → Result (Unit {0}) Code → StackValue → Type 0
SetsSlots count s result s' =
    MatchResult result (λ done. s' ≡ record s { host = with_assemblers s.host count }) (λ code. (code ≡ Is.Memory) × (s' ≡ s))
