-- What is promised of the client.
use Rattle.std.specs.Prelude.{◌≡◌, ◌≢◌, ℕ, ◌/◌, Bool, true, false, List, replicate, slice_index, Option, Some, None, ◌⊎◌, ℤ, ◌≤ℤ◌}
use Rattle.ip_wire.specs.AddressTests.{broadcast_in}
use Rattle.ip_wire.specs.IpRepr.{IpRepr}
use Rattle.ip_wire.specs.Ipv4Cidr.{Ipv4Cidr}
use Rattle.ip_wire.specs.UdpRepr.{UdpRepr}
use Rattle.socket_context.specs.Context.{ContextValue}
use Rattle.socket_context.specs.declared.offer.Offer.{Offer}
use Rattle.wire_dhcp.specs.declared.option.DhcpOption.{DhcpOption}
use Rattle.wire_dhcp.specs.Dhcp.{IsDhcp}
use Rattle.wire_dhcp.specs.declared.message_type.DhcpMessageType.TheVariants as Kinds
use Rattle.wire_dhcp.specs.declared.repr.DhcpRepr.{DhcpRepr}
use Rattle.socket_datagram.specs.DhcpClient.Answers.{Processed}
use Rattle.socket_datagram.specs.DhcpClient.Events.{initial, untold}
use Rattle.socket_datagram.specs.DhcpClient.Leases.{IsCidrOf, lease_span}
use Rattle.socket_datagram.specs.DhcpClient.Moments.{later}
use Rattle.socket_datagram.specs.DhcpClient.Offers.{Offers}
use Rattle.socket_datagram.specs.DhcpClient.States.{is_asked, lease_of}
use Rattle.socket_datagram.specs.DhcpClient.Value.{DhcpValue, accepts, begun, settled, with_settings, with_parameters, with_options}
use Rattle.socket_datagram.specs.declared.dhcpv4.config.Settings.{Settings}
use Rattle.socket_datagram.specs.declared.dhcpv4.lease.Lease.{Lease}
use Rattle.socket_datagram.specs.declared.dhcpv4.state.ClientState.{ClientState}
use Rattle.socket_datagram.specs.declared.dhcpv4.state.ClientState.TheVariants.{Init, Selecting, Requesting, Bound, Renewing, Rebinding}

-- A host can have this address in its network (RFC 1122, section 3.2.1.3; RFC 1112, section 4; RFC 3021): it is none of the network 0, of
-- the loopback network or of the groups, nor that of all hosts, there or everywhere.
pub record IsHostAddress (b : Ipv4Cidr) : Type 0 where
  pub this_network : slice_index b.address.0 0 ≢ 0
  pub loopback : slice_index b.address.0 0 ≢ 127
  pub group : slice_index b.address.0 0 / 16 ≢ 14
  pub all_hosts : b.address.0 ≢ replicate 4 255
  pub all_of_network : broadcast_in b ≢ Some b.address

-- Why a lease stands where another one, or none, stood before: a datagram from a server's port to the client's was an
-- acknowledgement, which names the number of the last message that was sent, this hardware address, and the server that was asked (any, in
-- REBINDING). The lease's address is the one that it gives, with its network, and its end comes after the time that it tells of, counted
-- from this instant.
pub record IsAcknowledged (now : ℤ) (v : DhcpValue) (ip : IpRepr) (repr : UdpRepr) (payload : List ℕ) (lease : Lease) : Type 0 where
  pub message : DhcpRepr
  pub accepted : accepts v ip repr ≡ true
  pub read : IsDhcp payload message
  pub acknowledges : message.message_type ≡ Kinds.Ack
  pub transaction : message.transaction_id ≡ v.transaction_id
  pub link_addr : message.client_hardware_address.0 ≡ v.link_addr.0
  pub named : message.server_identifier ≡ Some lease.config.server.identifier
  pub asked : is_asked v.state lease.config.server ≡ true
  pub address : lease.config.address.address ≡ message.your_ip
  pub network : IsCidrOf message (Some lease.config.address)
  pub host : IsHostAddress lease.config.address
  pub end : lease.expires_at ≡ later now (lease_span message.lease_duration v.settings.max_lease_duration)

-- the lease of a client, after a datagram arrived, is the one that it had, or was acknowledged
abbrev pub IsGiven : ℤ → DhcpValue → IpRepr → UdpRepr → List ℕ → DhcpValue → Type 0
IsGiven now v ip repr payload v' =
    (lease : Lease) → lease_of v'.state ≡ Some lease → (lease_of v.state ≡ Some lease) ⊎ IsAcknowledged now v ip repr payload lease

-- a lease that a call leaves is the one that was there
abbrev pub IsKept : DhcpValue → DhcpValue → Type 0
IsKept v v' = (lease : Lease) → lease_of v'.state ≡ Some lease → lease_of v.state ≡ Some lease

-- What may come over a client from an instant on, so long as no message goes: any datagrams, at any later instants; calls, in any order;
-- messages that are offered and not sent. The host keeps the requirements.
pub data Comes (since : ℤ) : DhcpValue → DhcpValue → Type 0 where
  nothing : {v : DhcpValue} → Comes since v v
  arrives : {v w u : DhcpValue} (now : ℤ) (ip : IpRepr) (repr : UdpRepr) (payload : List ℕ)
      → Comes since v w → since ≤ℤ now → Processed now w ip repr payload u → Comes since v u
  begins : {v w : DhcpValue} → Comes since v w → Comes since v (begun w)
  tells : {v w : DhcpValue} (now : ℤ) → Comes since v w → Comes since v (untold (initial now w))
  offers : {v w : DhcpValue} (u : DhcpValue) (cx : ContextValue) (answer : Offer) → Comes since v w → Offers cx w answer u → Comes since v (settled false u)
  sets : {v w : DhcpValue} (settings : Settings) → Comes since v w → settings.host_requirements ≡ true → Comes since v (with_settings w settings)
  asks_for : {v w : DhcpValue} (codes : List ℕ) (taken : Bool) → Comes since v w → Comes since v (with_parameters w codes taken)
  carries : {v w : DhcpValue} (options : List DhcpOption) (taken : Bool) → Comes since v w → Comes since v (with_options w options taken)

-- the first request for an offer is due
abbrev pub IsFirstRequest : ClientState → Type 0
IsFirstRequest (Init begins_at) = ⊥
IsFirstRequest (Selecting s) = ⊥
IsFirstRequest (Requesting s) = s.retry ≡ 0
IsFirstRequest (Bound lease) = ⊥
IsFirstRequest (Renewing lease retry_at) = ⊥
IsFirstRequest (Rebinding lease retry_at) = ⊥
