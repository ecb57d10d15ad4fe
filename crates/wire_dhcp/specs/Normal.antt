-- What a reader makes of a message that was sent, and what can be sent.
use Rattle.std.specs.Prelude.{◌≡◌, ◌==◌, ◌||◌, ℕ, ◌<◌, ◌^◌, Bool, false, IsTrue, Option, Some, None, List, [], ◌∷◌, ◌++◌, length}
use Rattle.wire_address.specs.Fields.{IsNumber}
use Rattle.wire_address.specs.Address.{IsIpv4Address, IsEthernetAddress}
use Rattle.wire_address.specs.declared.ipv4.Ipv4Address.{Ipv4Address}
use Rattle.wire_address.specs.declared.ethernet.EthernetAddress.{EthernetAddress}
use Rattle.wire_dhcp.specs.Options.{OptionValue, are_options, options_in}
use Rattle.wire_dhcp.specs.declared.repr.DhcpRepr.{DhcpRepr}

-- three addresses, if they are there, before others that aren't
abbrev pub closed_up : List (Option Ipv4Address) → List (Option Ipv4Address)
closed_up (None ∷ None ∷ c ∷ []) = c ∷ None ∷ None ∷ []
closed_up (None ∷ Some b ∷ c ∷ []) = Some b ∷ c ∷ None ∷ []
closed_up (Some a ∷ None ∷ c ∷ []) = Some a ∷ c ∷ None ∷ []
closed_up addresses = addresses

-- what a reader makes of a message that was sent: the addresses of servers are closed up
abbrev pub normal : DhcpRepr → DhcpRepr
normal v = record v { dns_servers = closed_up v.dns_servers }

-- each field has its width
abbrev pub IsAddress : Option Ipv4Address → Type 0
IsAddress None = Unit {0}
IsAddress (Some address) = IsIpv4Address address

abbrev pub IsHardwareAddr : Option EthernetAddress → Type 0
IsHardwareAddr None = Unit {0}
IsHardwareAddr (Some hardware_addr) = IsEthernetAddress hardware_addr

abbrev pub AreServers : List (Option Ipv4Address) → Type 0
AreServers (a ∷ b ∷ c ∷ []) = IsAddress a × IsAddress b × IsAddress c
AreServers _ = ⊥

-- a reader looks for this code: of the network, of names, of what client and server agree on, and of times
abbrev pub is_read : ℕ → Bool
is_read kind =
    (kind == 1) || (kind == 3) || (kind == 6) || (kind == 12) || (kind == 55) || (kind == 50) || (kind == 52) || (kind == 53)
    || (kind == 54) || (kind == 57) || (kind == 61) || (kind == 51) || (kind == 58) || (kind == 59)

abbrev pub AreUnread : List OptionValue → Type 0
AreUnread [] = Unit {0}
AreUnread (o ∷ os) = (is_read o.kind ≡ false) × AreUnread os

-- whole options, none of a code that a reader looks for
pub record AreFurther (bytes : List ℕ) : Type 0 where
  pub whole : IsTrue (are_options 0 bytes)
  pub unread : AreUnread (options_in 0 bytes)

pub record IsValue (v : DhcpRepr) : Type 0 where
  pub transaction_id : v.transaction_id < 2 ^ 32
  pub secs : v.secs < 2 ^ 16
  pub client_hardware_address : IsEthernetAddress v.client_hardware_address
  pub client_ip : IsIpv4Address v.client_ip
  pub your_ip : IsIpv4Address v.your_ip
  pub server_ip : IsIpv4Address v.server_ip
  pub relay_agent_ip : IsIpv4Address v.relay_agent_ip
  pub router : IsAddress v.router
  pub subnet_mask : IsAddress v.subnet_mask
  pub requested_ip : IsAddress v.requested_ip
  pub client_identifier : IsHardwareAddr v.client_identifier
  pub server_identifier : IsAddress v.server_identifier
  pub dns_servers : AreServers v.dns_servers
  pub max_size : IsNumber (2 ^ 16) v.max_size
  pub lease_duration : IsNumber (2 ^ 32) v.lease_duration
  pub renew_duration : IsNumber (2 ^ 32) v.renew_duration
  pub rebind_duration : IsNumber (2 ^ 32) v.rebind_duration
  pub additional_options : AreFurther v.additional_options.now
