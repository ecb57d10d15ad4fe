-- What the client sends (RFC 2131, sections 4.4.1 and 4.4.5 and table 5).
use Rattle.std.specs.Prelude.{◌≡◌, ℕ, ◌+◌, ◌-◌, min, max, Bool, true, false, Option, Some, None, List, [], ◌∷◌}
use Rattle.ip_wire.specs.EthernetAddress.{EthernetAddress}
use Rattle.ip_wire.specs.IpProtocol.TheVariants as Protocol
use Rattle.ip_wire.specs.IpRepr.{IpRepr}
use Rattle.ip_wire.specs.IpRepr.TheVariants as Ip
use Rattle.ip_wire.specs.Ipv4Address.{Ipv4Address}
use Rattle.wire_dhcp.specs.Options.{seen}
use Rattle.wire_dhcp.specs.declared.message_type.DhcpMessageType.{DhcpMessageType}
use Rattle.wire_dhcp.specs.declared.message_type.DhcpMessageType.TheVariants as Kinds
use Rattle.wire_dhcp.specs.declared.repr.DhcpRepr.{DhcpRepr}
use Rattle.socket_datagram.specs.DhcpClient.Extras.{asked_inside}
use Rattle.socket_datagram.specs.declared.dhcpv4.request.Kind.{Kind}
use Rattle.socket_datagram.specs.declared.dhcpv4.request.Kind.TheVariants.{Discover, Request, Renew, Rebind}

abbrev pub no_address : Ipv4Address
no_address = record { 0 = 0 ∷ 0 ∷ 0 ∷ 0 ∷ [] }

abbrev pub all_hosts : Ipv4Address
all_hosts = record { 0 = 255 ∷ 255 ∷ 255 ∷ 255 ∷ [] }

-- the longest message that the client takes: what an IP packet holds after the longest headers, and at least 576 bytes
-- (RFC 2132, section 9.10)
abbrev pub size_for : ℕ → ℕ
size_for mtu = min (max (mtu - 68) 576) 65535

-- what each kind of message is: the first asks for offers, the others for an address or more of a lease
abbrev pub type_for : Kind → DhcpMessageType
type_for Discover = Kinds.Discover
type_for (Request s) = Kinds.Request
type_for (Renew lease) = Kinds.Request
type_for (Rebind lease) = Kinds.Request

-- without an address the client asks for a broadcast answer
abbrev pub broadcast_for : Kind → Bool
broadcast_for Discover = true
broadcast_for (Request s) = true
broadcast_for (Renew lease) = false
broadcast_for (Rebind lease) = false

-- with a lease it names its address
abbrev pub client_for : Kind → Ipv4Address
client_for Discover = no_address
client_for (Request s) = no_address
client_for (Renew lease) = lease.config.address.address
client_for (Rebind lease) = lease.config.address.address

-- a request to a server says what that offered, and to whom it goes
abbrev pub requested_for : Kind → Option Ipv4Address
requested_for Discover = None
requested_for (Request s) = Some s.requested_ip
requested_for (Renew lease) = None
requested_for (Rebind lease) = None

abbrev pub server_for : Kind → Option Ipv4Address
server_for Discover = None
server_for (Request s) = Some s.server.identifier
server_for (Renew lease) = None
server_for (Rebind lease) = None

-- the message of a hardware address. It asks for these codes, if there are any, and carries these further options.
pub record IsRequest (kind : Kind) (link_addr : EthernetAddress) (number mtu : ℕ) (parameters options : List ℕ) (m : DhcpRepr) : Type 0 where
  pub message_type : m.message_type ≡ type_for kind
  pub transaction_id : m.transaction_id ≡ number
  pub secs : m.secs ≡ 0
  pub client_hardware_address : m.client_hardware_address ≡ link_addr
  pub client_ip : m.client_ip ≡ client_for kind
  pub your_ip : m.your_ip ≡ no_address
  pub server_ip : m.server_ip ≡ no_address
  pub relay_agent_ip : m.relay_agent_ip ≡ no_address
  pub broadcast : m.broadcast ≡ broadcast_for kind
  pub router : m.router ≡ None
  pub subnet_mask : m.subnet_mask ≡ None
  pub requested_ip : m.requested_ip ≡ requested_for kind
  pub client_identifier : m.client_identifier ≡ Some link_addr
  pub server_identifier : m.server_identifier ≡ server_for kind
  pub parameter_request_list : seen m.parameter_request_list ≡ asked_inside parameters
  pub host_name : seen m.host_name ≡ None
  pub dns_servers : m.dns_servers ≡ None ∷ None ∷ None ∷ []
  pub max_size : m.max_size ≡ Some (size_for mtu)
  pub lease_duration : m.lease_duration ≡ None
  pub renew_duration : m.renew_duration ≡ None
  pub rebind_duration : m.rebind_duration ≡ None
  pub additional_options : m.additional_options.now ≡ options

-- the header of a message of so many bytes after that of UDP
abbrev pub header_between : Ipv4Address → Ipv4Address → ℕ → IpRepr
header_between source destination len = Ip.Ipv4 (record {
  src_addr = source;
  dst_addr = destination;
  next_header = Protocol.Udp;
  payload_len = 8 + len;
  hop_limit = 64;
  ident = 0;
  dont_frag = false;
})

-- to all from no address; for more of a lease from the client's address, to the lease's server or to all
abbrev pub header_for : Kind → ℕ → IpRepr
header_for Discover len = header_between no_address all_hosts len
header_for (Request s) len = header_between no_address all_hosts len
header_for (Renew lease) len = header_between lease.config.address.address lease.config.server.identifier len
header_for (Rebind lease) len = header_between lease.config.address.address all_hosts len
