-- The socket as a value, and what its calls leave.
use Rattle.std.specs.Prelude.{ℕ, ◌==◌, ◌&&◌, ◌||◌, Bool, true, false, ℤ, List, [], ◌∷◌, Option, Some, None, is_some, if◌then◌else◌}
use Rattle.net_base.specs.RandomWords.{next_state, word}
use Rattle.net_base.specs.Time.{longest}
use Rattle.ip_wire.specs.EthernetAddress.{EthernetAddress}
use Rattle.ip_wire.specs.IpRepr.{IpRepr}
use Rattle.ip_wire.specs.IpRepr.TheVariants as Ip
use Rattle.ip_wire.specs.UdpRepr.{UdpRepr}
use Rattle.socket_context.specs.Packet.{PacketValue, packet_of, Datagram}
use Rattle.wire_dhcp.specs.Written.{encoded}
use Rattle.wire_dhcp.specs.declared.option.DhcpOption.{DhcpOption}
use Rattle.socket_datagram.specs.DhcpClient.States.{lease_of}
use Rattle.socket_datagram.specs.declared.dhcpv4.config.RetryConfig.{RetryConfig}
use Rattle.socket_datagram.specs.declared.dhcpv4.config.Settings.{Settings}
use Rattle.socket_datagram.specs.declared.dhcpv4.socket.Pending.{Pending}
use Rattle.socket_datagram.specs.declared.dhcpv4.state.ClientState.{ClientState}
use Rattle.socket_datagram.specs.declared.dhcpv4.state.ClientState.TheVariants.{Init}

-- a packet that is offered, the number of its transaction, the state after it, and from when on the client may begin again then
pub record Open : Type 0 where
  pub packet : PacketValue
  pub transaction_id : ℕ
  pub next : ClientState
  pub restart_at : Option ℤ

-- The hardware address, the settings, the codes that it asks for, the bytes of further options, the state, from when on the client may begin
-- again, the number that answers have to name, whether there is something to tell, the generator of random words with the next two, and the
-- open offer.
pub record DhcpValue : Type 0 where
  pub link_addr : EthernetAddress
  pub settings : Settings
  pub parameters : List ℕ
  pub options : List ℕ
  pub state : ClientState
  pub restart_at : Option ℤ
  pub transaction_id : ℕ
  pub changed : Bool
  pub random : ℕ
  pub next_id : ℕ
  pub next_word : ℕ
  pub offered : Option Open

-- how long the client waits at least between two messages, in microseconds, the first request for an offer apart: a second under the host
-- requirements (RFC 2131, section 4.1)
abbrev pub least_wait : Settings → ℕ
least_wait s = if s.host_requirements then 1_000_000 else 0

-- from the client's port to the servers'
abbrev pub ports_of : Settings → UdpRepr
ports_of s = record { src_port = s.client_port; dst_port = s.server_port }

-- what is kept of an offer, and its message
abbrev pub open_of : Settings → Option Pending → List ℕ → Option Open
open_of settings None message = None
open_of settings (Some p) message = Some (record {
  packet = packet_of p.header (Datagram (ports_of settings) message);
  transaction_id = p.transaction_id;
  next = p.next;
  restart_at = p.restart_at;
})

-- what the client waits with, unless it is told (RFC 2131, section 4.1: four seconds at first)
abbrev pub default_retry : RetryConfig
default_retry = record {
  discover_timeout = 4_000_000;
  initial_request_timeout = 4_000_000;
  request_retries = 5;
  min_renew_timeout = 60_000_000;
  max_renew_timeout = longest;
}

abbrev pub default_settings : Settings
default_settings = record {
  retry = default_retry;
  max_lease_duration = None;
  ignore_naks = false;
  host_requirements = false;
  server_port = 67;
  client_port = 68;
}

-- at first the client asks for the subnet mask, routers and servers of names
abbrev pub made : EthernetAddress → ℕ → DhcpValue
made link_addr seed = record {
  link_addr = link_addr;
  settings = default_settings;
  parameters = 1 ∷ 3 ∷ 6 ∷ [];
  options = [];
  state = Init None;
  restart_at = None;
  transaction_id = 0;
  changed = true;
  random = next_state (next_state seed);
  next_id = word (next_state seed);
  next_word = word (next_state (next_state seed));
  offered = None;
}

-- CALLS. Each of them first settles an open offer as not sent; one that is refused changes nothing.

abbrev pub unoffered : DhcpValue → DhcpValue
unoffered v = record v { offered = None }

abbrev pub with_settings : DhcpValue → Settings → DhcpValue
with_settings v settings = record v { settings = settings; offered = None }

-- where these are taken; else nothing changes
abbrev pub with_parameters : DhcpValue → List ℕ → Bool → DhcpValue
with_parameters v codes taken = if taken then record v { parameters = codes; offered = None } else v

abbrev pub with_options : DhcpValue → List DhcpOption → Bool → DhcpValue
with_options v options taken = if taken then record v { options = encoded options; offered = None } else v

-- begun again, as soon as it may: that a lease is given up is to be told
abbrev pub begun : DhcpValue → DhcpValue
begun v = record v { state = Init v.restart_at; changed = is_some (lease_of v.state) || v.changed; offered = None }

-- the datagram is from a server's port to the client's, over IPv4
abbrev pub accepts : DhcpValue → IpRepr → UdpRepr → Bool
accepts v (Ip.Ipv4 header) repr = (repr.src_port == v.settings.server_port) && (repr.dst_port == v.settings.client_port)
accepts v (Ip.Ipv6 header) repr = false

abbrev pub packet_in : Option Open → Option PacketValue
packet_in None = None
packet_in (Some o) = Some o.packet

abbrev pub offered_packet : DhcpValue → Option PacketValue
offered_packet v = packet_in v.offered

-- after a message that was sent
abbrev pub sent_from : DhcpValue → Option Open → DhcpValue
sent_from v None = unoffered v
sent_from v (Some o) = record v {
  state = o.next;
  restart_at = o.restart_at;
  transaction_id = o.transaction_id;
  random = next_state (next_state v.random);
  next_id = word (next_state v.random);
  next_word = word (next_state (next_state v.random));
  offered = None;
}

abbrev pub settled : Bool → DhcpValue → DhcpValue
settled sent v = if sent then sent_from v v.offered else unoffered v
