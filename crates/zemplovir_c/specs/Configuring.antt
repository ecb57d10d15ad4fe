-- What C gets of the clients of DHCP and DNS.
use Rattle.std.specs.Prelude.{◌≡◌, ℕ, ◌<◌, ◌≤◌, ◌==◌, ◌-◌, ◌^◌, ℤ, pos, if◌then◌else◌, List, [], ◌∷◌, length, slice_index_or, Option, None, Some, Result, Ok, Err}
use Rattle.std.specs.Str.{IsUtf8}
use Rattle.socket_datagram.specs.declared.dhcpv4.config.Config.{Config}
use Rattle.socket_datagram.specs.declared.dhcpv4.config.Event.{Event}
use Rattle.socket_datagram.specs.declared.dhcpv4.config.Event.TheVariants.{Configured, Deconfigured}
use Rattle.wire_dns.specs.declared.codes.DnsQueryType.{DnsQueryType}
use Rattle.wire_dns.specs.declared.codes.DnsQueryType.TheVariants as Query
use Rattle.ip_wire.specs.IpAddress.{IpAddress}
use Rattle.ip_wire.specs.IpAddress.TheVariants as Ip
use Rattle.ip_wire.specs.Ipv4Address.{Ipv4Address}
use Rattle.sockets.specs.PollAt.{PollAt}
use Rattle.sockets.specs.PollAt.TheVariants as At
use Rattle.c_calls.specs.Configuring.{AsksName}
use Rattle.c_calls.specs.Host.{StackValue}
use Rattle.c_calls.specs.Names.{most_name}
use Rattle.c_calls.specs.declared.carrying.Sending.{Sending}
use Rattle.c_calls.specs.declared.code.Code.{Code}
use Rattle.c_calls.specs.declared.code.Code.TheVariants as Is
use Rattle.zemplovir_c.specs.Answers.{no_host, number_by, given, mapped}
use Rattle.zemplovir_c.specs.Values.{address_out, address_or_none, no_address, endpoint_out}
use Rattle.zemplovir_c.specs.declared.types.Address.{Address}
use Rattle.zemplovir_c.specs.declared.types.Addresses.{Addresses}
use Rattle.zemplovir_c.specs.declared.types.Endpoint.{Endpoint}
use Rattle.zemplovir_c.specs.declared.types.Lease.{Lease}

-- A LEASE

abbrev pub v4_out : Ipv4Address → Address
v4_out address = address_out (Ip.Ipv4 address)

abbrev pub v4_or_none : Option Ipv4Address → Address
v4_or_none None = no_address
v4_or_none (Some address) = v4_out address

abbrev pub no_names : List Address
no_names = no_address ∷ no_address ∷ no_address ∷ []

abbrev pub server_at : Config → ℕ → Option Ipv4Address
server_at c n = slice_index_or c.dns_servers n None

abbrev pub configured_out : Config → Lease
configured_out c = record {
  event = 1;
  prefix = c.address.prefix_len;
  address = v4_out c.address.address;
  router = v4_or_none c.router;
  server = v4_out c.server.address;
  names = v4_or_none (server_at c 0) ∷ v4_or_none (server_at c 1) ∷ v4_or_none (server_at c 2) ∷ [];
}

-- without a lease the addresses are none
abbrev pub without_lease : ℕ → Lease
without_lease event =
    record { event = event; prefix = 0; address = no_address; router = no_address; server = no_address; names = no_names }

-- 0 where nothing happened, 1 for a lease, 2 for none
abbrev pub lease_out : Option Event → Lease
lease_out None = without_lease 0
lease_out (Some (Configured config)) = configured_out config
lease_out (Some Deconfigured) = without_lease 2

-- the instant, 0 for now, the largest number for never
abbrev pub due_out : PollAt → ℤ
due_out At.Now = pos 0
due_out (At.Time instant) = instant
due_out At.Ingress = pos (2 ^ 63 - 1)

-- A NAME

-- the first servers, up to one that is none
abbrev pub servers_of : Option IpAddress → Option IpAddress → Option IpAddress → List IpAddress
servers_of None second third = []
servers_of (Some first) None third = first ∷ []
servers_of (Some first) (Some second) None = first ∷ second ∷ []
servers_of (Some first) (Some second) (Some third) = first ∷ second ∷ third ∷ []

-- the records that hold addresses of family 4 or 6
abbrev pub kind_of : ℕ → Result DnsQueryType Code
kind_of family = if family == 4 then Ok Query.A else if family == 6 then Ok Query.Aaaa else Err Is.BadArgument

-- a name that is too long isn't asked for, nor one that is no text
pub record NameIsAsked (name : List ℕ) (kind : DnsQueryType) (s : StackValue) (result : Result (Unit {0}) Code) (s' : StackValue) : Type 0 where
  pub long : most_name < length name → (result ≡ Err Is.NameTooLong) × (s' ≡ s)
  pub text : length name ≤ most_name → (IsUtf8 name → ⊥) → (result ≡ Err Is.InvalidName) × (s' ≡ s)
  pub asks : length name ≤ most_name → IsUtf8 name → AsksName name kind s result s'

abbrev pub address_at : List (Option IpAddress) → ℕ → Address
address_at found n = address_or_none (slice_index_or found n None)

abbrev pub addresses_out : List (Option IpAddress) → Addresses
addresses_out found = record { at = address_at found 0 ∷ address_at found 1 ∷ address_at found 2 ∷ address_at found 3 ∷ [] }

-- A DATAGRAM THAT GOES

-- a buffer, and how many bytes of it, where to, and from where
pub record Carried : Type 0 where
  pub bytes : List ℕ
  pub count : ℕ
  pub remote : Endpoint
  pub local : Endpoint

abbrev pub carried : List ℕ → ℕ → Endpoint → Endpoint → Carried
carried bytes count remote local = record { bytes = bytes; count = count; remote = remote; local = local }

abbrev pub count_given : Result Sending Code → ℕ → ℕ
count_given answer before = given (mapped (λ (s : Sending). s.len) answer) before

abbrev pub remote_given : Result Sending Code → Endpoint → Endpoint
remote_given answer before = given (mapped (λ (s : Sending). endpoint_out s.remote) answer) before

abbrev pub local_given : Result Sending Code → Endpoint → Endpoint
local_given answer before = given (mapped (λ (s : Sending). endpoint_out s.local) answer) before

-- a call that lends a client's datagram to C
abbrev pub Carries : (List ℕ → StackValue → Result Sending Code → List ℕ → StackValue → Type 0) → Option StackValue → ℕ → Carried → Carried →
    Option StackValue → Type 0
Carries Does None result before after inside = (result ≡ no_host) × (after ≡ before) × (inside ≡ None)
Carries Does (Some host) result before after inside =
    (answer : Result Sending Code) × ((left : StackValue) × Does before.bytes host answer after.bytes left × (result ≡ number_by answer)
    × (after.count ≡ count_given answer before.count) × (after.remote ≡ remote_given answer before.remote)
    × (after.local ≡ local_given answer before.local) × (inside ≡ Some left))
