-- The socket as a value, and what its calls leave.
use Rattle.std.specs.Prelude.{ℕ, Bool, true, false, if◌then◌else◌, ℤ, Option, Some, None, is_some, List, [], slice_get, Result, Ok, Err}
use Rattle.ip_wire.specs.IpAddress.{IpAddress}
use Rattle.ip_wire.specs.UdpRepr.{UdpRepr}
use Rattle.socket_context.specs.Packet.{PacketValue, packet_of, Datagram}
use Rattle.socket_datagram.specs.DnsClient.Records.{padded}
use Rattle.socket_datagram.specs.DnsClient.Turns.{next_offset, asked_next, sent_as}
use Rattle.socket_datagram.specs.declared.dns.error.GetQueryResultError.{GetQueryResultError}
use Rattle.socket_datagram.specs.declared.dns.error.GetQueryResultError.TheVariants as Why
use Rattle.socket_datagram.specs.declared.dns.query.Query.{Query}
use Rattle.socket_datagram.specs.declared.dns.query.Sending.{Sending}
use Rattle.socket_datagram.specs.declared.dns.state.State.{State}
use Rattle.socket_datagram.specs.declared.dns.state.State.TheVariants.{Idle, Pending, Completed, Failed, Unanswered}

-- a packet that is offered, and what sending it makes of the query
pub record Open : Type 0 where
  pub packet : PacketValue
  pub sending : Sending

-- the servers, the hop limit, whether it tells what no server answered, how the last query stands, its bytes, and the open offer
pub record DnsValue : Type 0 where
  pub servers : List (Option IpAddress)
  pub hop_limit : Option ℕ
  pub host_requirements : Bool
  pub state : State
  pub message : List ℕ
  pub offered : Option Open

-- from the query's port to that of servers
abbrev pub ports_of : Query → UdpRepr
ports_of q = record { src_port = q.port; dst_port = 53 }

abbrev pub open_as : Query → List ℕ → Sending → Open
open_as q message s = record { packet = packet_of s.header (Datagram (ports_of q) message); sending = s }

abbrev pub open_in : State → List ℕ → Sending → Option Open
open_in Idle message s = None
open_in (Pending q) message s = Some (open_as q message s)
open_in (Completed found) message s = None
open_in Failed message s = None
open_in Unanswered message s = None

-- what is kept of an offer, and its message
abbrev pub open_of : Option Sending → State → List ℕ → Option Open
open_of None state message = None
open_of (Some s) state message = open_in state message s

abbrev pub made : List IpAddress → DnsValue
made servers = record { servers = padded 3 servers; hop_limit = None; host_requirements = false; state = Idle; message = []; offered = None }

-- CALLS. Each of them first settles an open offer as not sent.

abbrev pub unoffered : DnsValue → DnsValue
unoffered v = record v { offered = None }

abbrev pub with_servers : DnsValue → List IpAddress → DnsValue
with_servers v servers = record v { servers = padded 3 servers; offered = None }

abbrev pub with_hop_limit : DnsValue → Option ℕ → DnsValue
with_hop_limit v hop_limit = record v { hop_limit = hop_limit; offered = None }

abbrev pub with_host_requirements : DnsValue → Bool → DnsValue
with_host_requirements v host_requirements = record v { host_requirements = host_requirements; offered = None }

abbrev pub in_state : DnsValue → State → DnsValue
in_state v state = record v { state = state; offered = None }

abbrev pub cancelled : DnsValue → DnsValue
cancelled v = in_state v Idle

-- the result, which is told once
abbrev pub result_of : State → Result (List (Option IpAddress)) GetQueryResultError
result_of Idle = Err Why.Failed
result_of (Pending q) = Err Why.Pending
result_of (Completed found) = Ok found
result_of Failed = Err Why.Failed
result_of Unanswered = Err Why.Unanswered

-- no answer came yet
abbrev pub is_pending : State → Bool
is_pending Idle = false
is_pending (Pending q) = true
is_pending (Completed found) = false
is_pending Failed = false
is_pending Unanswered = false

abbrev pub told : DnsValue → DnsValue
told v = in_state v (if is_pending v.state then v.state else Idle)

-- the server at a slot, if there is one
abbrev pub slot_of : Option (Option IpAddress) → Option IpAddress
slot_of None = None
slot_of (Some server) = server

abbrev pub server_at : List (Option IpAddress) → ℕ → Option IpAddress
server_at servers n = slot_of (slice_get servers n)

-- there is another server to ask
abbrev pub has_next : List (Option IpAddress) → State → Bool
has_next servers Idle = false
has_next servers (Pending q) = is_some (server_at servers (next_offset q))
has_next servers (Completed found) = false
has_next servers Failed = false
has_next servers Unanswered = false

abbrev pub ask_next : ℤ → State → State
ask_next now Idle = Idle
ask_next now (Pending q) = Pending (asked_next now q)
ask_next now (Completed found) = Completed found
ask_next now Failed = Failed
ask_next now Unanswered = Unanswered

-- what a query is that no server answered: under the host requirements it is told apart from one of a name without an address
abbrev pub unanswered : Bool → State
unanswered host_requirements = if host_requirements then Unanswered else Failed

-- a query turns to the next server; after the last one nobody answered it
abbrev pub next_state : ℤ → List (Option IpAddress) → Bool → State → State
next_state now servers host_requirements state = if has_next servers state then ask_next now state else unanswered host_requirements

abbrev pub turned : ℤ → DnsValue → DnsValue
turned now v = in_state v (next_state now v.servers v.host_requirements v.state)

abbrev pub packet_in : Option Open → Option PacketValue
packet_in None = None
packet_in (Some o) = Some o.packet

abbrev pub offered_packet : DnsValue → Option PacketValue
offered_packet v = packet_in v.offered

-- after a query that was sent
abbrev pub sent_by : State → Sending → State
sent_by Idle s = Idle
sent_by (Pending q) s = Pending (sent_as q s)
sent_by (Completed found) s = Completed found
sent_by Failed s = Failed
sent_by Unanswered s = Unanswered

abbrev pub sent_state : State → Option Open → State
sent_state state None = state
sent_state state (Some o) = sent_by state o.sending

abbrev pub settled : Bool → DnsValue → DnsValue
settled sent v = if sent then in_state v (sent_state v.state v.offered) else unoffered v
