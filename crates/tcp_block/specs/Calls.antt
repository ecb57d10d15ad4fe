-- The calls of a user (RFC 9293, 3.9.1 and 3.10.1 to 3.10.5): what each answers and leaves. Each of them first settles an open
-- offer as not sent.
use Rattle.std.specs.Prelude.{ℕ, ◌+◌, ◌%◌, ◌==◌, not, ◌&&◌, ◌||◌, min, Bool, true, false, if◌then◌else◌, List, ◌++◌, length, take, drop, Option, Some, None}
use Rattle.std.specs.Prelude.{is_some, Result, Ok, Err, is_ok}
use Rattle.net_base.specs.Ring.{Ring, anchored, enqueued}
use Rattle.ip_wire.specs.IpAddress.{IpAddress}
use Rattle.ip_wire.specs.IpEndpoint.{IpEndpoint}
use Rattle.ip_wire.specs.IpListenEndpoint.{IpListenEndpoint}
use Rattle.ip_wire.specs.AddressTests.{is_unspecified}
use Rattle.tcp_state.specs.Context.{ContextValue}
use Rattle.tcp_ranges.specs.ReceiveMap.{space}
use Rattle.tcp_state.specs.declared.endpoints.AddressPair.{AddressPair}
use Rattle.tcp_block.specs.declared.tcb.Tcb.{Tcb}
use Rattle.tcp_state.specs.declared.endpoints.FourTuple.{FourTuple}
use Rattle.tcp_state.specs.declared.error.ConnectError.{ConnectError}
use Rattle.tcp_state.specs.declared.error.ConnectError.TheVariants as Connect
use Rattle.tcp_state.specs.declared.error.ListenError.{ListenError}
use Rattle.tcp_state.specs.declared.error.ListenError.TheVariants as Listen
use Rattle.tcp_state.specs.declared.error.RecvError.{RecvError}
use Rattle.tcp_state.specs.declared.error.RecvError.TheVariants as Recv
use Rattle.tcp_state.specs.declared.error.SendError.{SendError}
use Rattle.tcp_state.specs.declared.error.SendError.TheVariants as Send
use Rattle.tcp_state.specs.declared.state.State.TheVariants as In
use Rattle.tcp_block.specs.TcbRules.{initial_tcb, initial_sender, nowhere}
use Rattle.tcp_state.specs.Endpoints.{pair_of, is_same_listener}
use Rattle.tcp_state.specs.Isn.{number_for, draws_number}
use Rattle.tcp_state.specs.States.{is_closed, is_time_wait, is_listening, is_opening, takes_writes, accepts_data, after_close}
use Rattle.tcp_block.specs.Value.{TcpValue, Received, received_of, with_tcb, unoffered, ended, opened, room_of}

-- LISTEN: a passive OPEN

-- the socket in LISTEN on this endpoint, with nothing left of an earlier connection
abbrev pub listening : TcpValue → IpListenEndpoint → TcpValue
listening v endpoint =
    opened v (record (initial_tcb v.tcb.settings) { state = In.Listen; names = record { listen = endpoint; pair = None } })

abbrev pub listens_on : Tcb → IpListenEndpoint → Bool
listens_on b endpoint = is_listening b.state && is_same_listener b.names.listen endpoint

abbrev pub listen_answer : TcpValue → IpListenEndpoint → Result (Unit {0}) ListenError
listen_answer v endpoint =
    if endpoint.port == 0 then Err Listen.Unaddressable
    else if is_closed v.tcb.state || listens_on v.tcb endpoint then Ok tt
    else Err Listen.InvalidState

abbrev pub listen_after : TcpValue → IpListenEndpoint → TcpValue
listen_after v endpoint =
    if is_closed v.tcb.state && not (endpoint.port == 0) then listening v endpoint else unoffered v

-- CONNECT: an active OPEN

-- the source of what is sent there: the address that is named, else the interface's, if it is specified
abbrev pub source_by : ContextValue → Option IpAddress → IpAddress → Option IpAddress
source_by cx None remote = cx.source_for remote
source_by cx (Some local) remote = if is_unspecified local then None else Some local

abbrev pub addresses_by : Option IpAddress → IpAddress → Option AddressPair
addresses_by None remote = None
addresses_by (Some local) remote = pair_of local remote

abbrev pub pair_by : Option AddressPair → ℕ → ℕ → Option FourTuple
pair_by None local_port remote_port = None
pair_by (Some addresses) local_port remote_port =
    Some (record { addresses = addresses; local_port = local_port; remote_port = remote_port })

-- the endpoints of the connection, if both have a port and a specified address, of one family
abbrev pub four_tuple_for : ContextValue → IpEndpoint → IpListenEndpoint → Option FourTuple
four_tuple_for cx remote local =
    if (remote.port == 0) || (is_unspecified remote.addr || (local.port == 0)) then None
    else pair_by (addresses_by (source_by cx local.addr remote.addr) remote.addr) local.port remote.port

abbrev pub found_answer : Option FourTuple → Result (Unit {0}) ConnectError
found_answer None = Err Connect.Unaddressable
found_answer (Some pair) = Ok tt

abbrev pub connect_answer : ContextValue → TcpValue → IpEndpoint → IpListenEndpoint → Result (Unit {0}) ConnectError
connect_answer cx v remote local =
    if is_closed v.tcb.state then found_answer (four_tuple_for cx remote local) else Err Connect.InvalidState

-- the socket in SYN-SENT, with this initial sequence number
abbrev pub connecting : TcpValue → FourTuple → ℕ → TcpValue
connecting v pair number =
    opened v (record (initial_tcb v.tcb.settings) {
      state = In.SynSent;
      names = record { listen = nowhere; pair = Some pair };
      sender = initial_sender (record { 0 = number }) true;
    })

abbrev pub connected_by : TcpValue → Option FourTuple → ℕ → TcpValue
connected_by v None number = unoffered v
connected_by v (Some pair) number = connecting v pair number

-- an accepted connect
abbrev pub connect_after : ContextValue → TcpValue → IpEndpoint → IpListenEndpoint → TcpValue
connect_after cx v remote local =
    if is_closed v.tcb.state then connected_by v (four_tuple_for cx remote local) (number_for cx (four_tuple_for cx remote local)) else unoffered v

-- it draws a random word for its initial sequence number, unless a key tells it
abbrev pub connect_draws : ContextValue → TcpValue → IpEndpoint → IpListenEndpoint → Bool
connect_draws cx v remote local = is_ok (connect_answer cx v remote local) && draws_number cx

-- SEND

-- how many of so many bytes are taken
abbrev pub send_answer : TcpValue → ℕ → Result ℕ SendError
send_answer v count =
    if takes_writes v.tcb.state then Ok (min count (length v.queued.free)) else Err Send.InvalidState

-- with a send ring that has more bytes
abbrev pub sent_more : TcpValue → Ring ℕ → TcpValue
sent_more v queued = record v { queued = queued; offered = None }

abbrev pub send_after : TcpValue → List ℕ → TcpValue
send_after v bytes =
    if takes_writes v.tcb.state
    then sent_more v (enqueued (anchored v.queued) (take (min (length bytes) (length v.queued.free)) bytes))
    else unoffered v

-- RECEIVE

-- where nothing waits: the end was reached, if the remote's FIN was taken
abbrev pub nothing_left : Bool → RecvError
nothing_left true = Recv.Finished
nothing_left false = Recv.InvalidState

abbrev pub recv_refusal : TcpValue → Option RecvError
recv_refusal v =
    if accepts_data v.tcb.state || not (length v.received.waiting == 0) then None else Some (nothing_left v.tcb.receiver.took_fin)

abbrev pub or_count : Option RecvError → ℕ → Result ℕ RecvError
or_count None count = Ok count
or_count (Some refusal) count = Err refusal

-- how many bytes are read where so many may be
abbrev pub recv_answer : TcpValue → ℕ → Result ℕ RecvError
recv_answer v room = or_count (recv_refusal v) (min room (length v.received.waiting))

-- so many of the waiting bytes are taken out
abbrev pub read_from : Received → ℕ → Received
read_from r count =
    received_of (drop count r.waiting) (r.map ++ space (length (take count r.waiting))) ((r.start + count) % room_of r)

abbrev pub recv_after : TcpValue → ℕ → TcpValue
recv_after v count = record v { received = read_from v.received count; offered = None }

-- CLOSE and ABORT

abbrev pub close_after : TcpValue → TcpValue
close_after v =
    if is_opening v.tcb.state then ended (unoffered v)
    else with_tcb (unoffered v) (record v.tcb { state = after_close v.tcb.state })

-- a reset is due if there is a remote endpoint; in TIME-WAIT the remote has all that it waits for
abbrev pub abort_after : TcpValue → TcpValue
abort_after v =
    if is_time_wait v.tcb.state then ended (unoffered v)
    else with_tcb (unoffered v) (record v.tcb { state = In.Closed; sender = record v.tcb.sender { reset_due = is_some v.tcb.names.pair } })
