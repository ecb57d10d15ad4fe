-- What messages from servers do (RFC 2131, section 4.4 and figure 5).
use Rattle.std.specs.Prelude.{◌≡◌, ℕ, ◌==◌, ◌&&◌, not, Bool, true, false, List, Option, Some, None, if◌then◌else◌, ℤ, ◌⊎◌}
use Rattle.std.specs.Str.{bytes_eq}
use Rattle.ip_wire.specs.IpRepr.{IpRepr}
use Rattle.ip_wire.specs.IpRepr.TheVariants as Ip
use Rattle.ip_wire.specs.Ipv4Address.{Ipv4Address}
use Rattle.ip_wire.specs.Ipv4Cidr.{Ipv4Cidr}
use Rattle.ip_wire.specs.UdpRepr.{UdpRepr}
use Rattle.wire_dhcp.specs.Dhcp.{IsDhcp, IsMessage}
use Rattle.wire_dhcp.specs.declared.message_type.DhcpMessageType.{DhcpMessageType}
use Rattle.wire_dhcp.specs.declared.message_type.DhcpMessageType.TheVariants.{Discover, Offer, Request, Decline, Ack, Nak, Release, Inform}
use Rattle.wire_dhcp.specs.declared.repr.DhcpRepr.{DhcpRepr}
use Rattle.socket_datagram.specs.DhcpClient.Leases.{IsCidrOf, is_leasable, server_in, lease_in}
use Rattle.socket_datagram.specs.DhcpClient.Moments.{first_wait}
use Rattle.socket_datagram.specs.DhcpClient.States.{is_asked}
use Rattle.socket_datagram.specs.DhcpClient.Value.{DhcpValue, accepts, begun, least_wait, unoffered}
use Rattle.socket_datagram.specs.declared.dhcpv4.config.ServerInfo.{ServerInfo}
use Rattle.socket_datagram.specs.declared.dhcpv4.lease.Lease.{Lease}
use Rattle.socket_datagram.specs.declared.dhcpv4.state.ClientState.{ClientState}
use Rattle.socket_datagram.specs.declared.dhcpv4.state.ClientState.TheVariants as S

-- the message names the number of the last one that was sent, and this hardware address
abbrev pub is_answer : DhcpValue → DhcpRepr → Bool
is_answer v m = (m.transaction_id == v.transaction_id) && bytes_eq m.client_hardware_address.0 v.link_addr.0

-- the client takes an offer of an address that one host can have, and asks its server at once
abbrev pub chosen : ℤ → ServerInfo → DhcpValue → DhcpRepr → Option Ipv4Cidr → DhcpValue
chosen now server v m cidr =
    if is_leasable m.your_ip cidr
    then record v {
      state = S.Requesting (record {
        retry_at = now;
        wait = first_wait v.settings.retry.initial_request_timeout;
        retry = 0;
        server = server;
        requested_ip = m.your_ip;
      });
    }
    else v

-- it does so in SELECTING alone
abbrev pub offer_in : ℤ → ServerInfo → DhcpValue → DhcpRepr → Option Ipv4Cidr → ClientState → DhcpValue
offer_in now server v m cidr (S.Init begins_at) = v
offer_in now server v m cidr (S.Selecting s) = chosen now server v m cidr
offer_in now server v m cidr (S.Requesting s) = v
offer_in now server v m cidr (S.Bound lease) = v
offer_in now server v m cidr (S.Renewing lease retry_at) = v
offer_in now server v m cidr (S.Rebinding lease retry_at) = v

abbrev pub offer_taken : ℤ → ServerInfo → DhcpValue → DhcpRepr → Option Ipv4Cidr → DhcpValue
offer_taken now server v m cidr = offer_in now server v m cidr v.state

-- bound to a lease, if there is one
abbrev pub bound_to : DhcpValue → Option Lease → DhcpValue
bound_to v None = v
bound_to v (Some lease) = record v { state = S.Bound lease; changed = true }

-- an acknowledgement counts where the client waits for one of this server
abbrev pub acknowledged : ℤ → ServerInfo → DhcpValue → DhcpRepr → Option Ipv4Cidr → DhcpValue
acknowledged now server v m cidr =
    if is_asked v.state server
    then bound_to v (lease_in now server m cidr v.settings.max_lease_duration (least_wait v.settings))
    else v

-- so does a refusal, unless these are ignored
abbrev pub refused : ServerInfo → DhcpValue → DhcpValue
refused server v = if is_asked v.state server && not v.settings.ignore_naks then begun v else v

abbrev pub told_by : DhcpMessageType → ℤ → ServerInfo → DhcpValue → DhcpRepr → Option Ipv4Cidr → DhcpValue
told_by Offer now server v m cidr = offer_taken now server v m cidr
told_by Ack now server v m cidr = acknowledged now server v m cidr
told_by Nak now server v m cidr = refused server v
told_by Discover now server v m cidr = v
told_by Request now server v m cidr = v
told_by Decline now server v m cidr = v
told_by Release now server v m cidr = v
told_by Inform now server v m cidr = v

-- a message that names its server
abbrev pub told_from : Option ServerInfo → ℤ → DhcpValue → DhcpRepr → Option Ipv4Cidr → DhcpValue
told_from None now v m cidr = v
told_from (Some server) now v m cidr = told_by m.message_type now server v m cidr

-- a message from this source, with the network that it tells of
abbrev pub told : ℤ → Ipv4Address → DhcpValue → DhcpRepr → Option Ipv4Cidr → DhcpValue
told now source v m cidr = if is_answer v m then told_from (server_in source m) now v m cidr else v

-- the bytes are a message, and it is taken
pub record Takes (now : ℤ) (v : DhcpValue) (source : Ipv4Address) (payload : List ℕ) (v' : DhcpValue) : Type 0 where
  pub message : DhcpRepr
  pub cidr : Option Ipv4Cidr
  pub read : IsDhcp payload message
  pub network : IsCidrOf message cidr
  pub taken : v' ≡ told now source (unoffered v) message cidr

-- a datagram that is for the client is taken where its bytes are a message; any other changes nothing
abbrev pub ProcessedFrom : Bool → ℤ → DhcpValue → IpRepr → List ℕ → DhcpValue → Type 0
ProcessedFrom true now v (Ip.Ipv4 header) payload v' =
    Takes now v header.src_addr payload v' ⊎ ((IsMessage payload → ⊥) × (v' ≡ unoffered v))
ProcessedFrom true now v (Ip.Ipv6 header) payload v' = v' ≡ unoffered v
ProcessedFrom false now v ip payload v' = v' ≡ unoffered v

abbrev pub Processed : ℤ → DhcpValue → IpRepr → UdpRepr → List ℕ → DhcpValue → Type 0
Processed now v ip repr payload v' = ProcessedFrom (accepts v ip repr) now v ip payload v'
