-- The calls of TCP sockets that answer nothing but whether they were done.
use Rattle.std.specs.Prelude.{ℕ, ◌-◌, ◌^◌, ◌==◌, if◌then◌else◌, List, ◌++◌, length, take, drop, min, Option, None, Some, Result, Ok, Err}
use Rattle.sockets.specs.TcpCalls.{listen_answer, listen_after, close_after, abort_after, recv_refusal, recv_after}
use Rattle.sockets.specs.TcpSettings.{set_timeout, set_keep_alive, set_ack_delay, set_nagle_enabled, set_hop_limit, set_tsval_generator, pause_synack}
use Rattle.sockets.specs.TcpSettings.{set_retries, set_congestion_control, set_min_rto, set_fine_timer}
use Rattle.sockets.specs.TcpReceive.{unbroken, lent}
use Rattle.sockets.specs.TcpValue.{TcpValue, unoffered, queued_in}
use Rattle.ip_wire.specs.IpEndpoint.{IpEndpoint}
use Rattle.sockets.specs.TcpSocket.{local_in, remote_in}
use Rattle.tcp_state.specs.declared.error.RecvError.{RecvError}
use Rattle.tcp_state.specs.declared.state.State.{State}
use Rattle.c_calls.specs.Codes.{coded, of_listen, of_stream_recv}
use Rattle.c_calls.specs.declared.code.Code.{Code}
use Rattle.c_calls.specs.declared.code.Code.TheVariants as Is
use Rattle.c_calls.specs.declared.streams.Act.{Act}
use Rattle.c_calls.specs.declared.streams.Act.TheVariants as To

-- no hop limit is 0: that stands for none
abbrev pub limit_of : ℕ → Option ℕ
limit_of n = if n == 0 then None else Some n

abbrev pub act_answer : Act → TcpValue → Result (Unit {0}) Code
act_answer (To.Listen endpoint) v = coded of_listen (listen_answer v endpoint)
act_answer act v = Ok tt

abbrev pub act_after : Act → TcpValue → TcpValue
act_after (To.Listen endpoint) v = listen_after v endpoint
act_after To.Close v = close_after v
act_after To.Abort v = abort_after v
act_after (To.Timeout duration) v = set_timeout v duration
act_after (To.KeepAlive interval) v = set_keep_alive v interval
act_after (To.AckDelay delay) v = set_ack_delay v delay
act_after (To.MinRto duration) v = set_min_rto v duration
act_after (To.FineTimer fine) v = set_fine_timer v fine
act_after (To.Nagle enabled) v = set_nagle_enabled v enabled
act_after (To.HopLimit limit) v = set_hop_limit v (limit_of limit)
act_after (To.Retries limit) v = set_retries v limit
act_after (To.Timestamps generator) v = set_tsval_generator v generator
act_after (To.PauseSynack paused) v = pause_synack v paused
act_after (To.Congestion control) v = set_congestion_control v control

-- READING

abbrev pub read_after_unless : Option RecvError → TcpValue → ℕ → TcpValue
read_after_unless None v room = recv_after v (min room (length v.received.waiting))
read_after_unless (Some refusal) v room = unoffered v

-- so many of the waiting bytes are read as there is room for
abbrev pub read_after : TcpValue → ℕ → TcpValue
read_after v room = read_after_unless (recv_refusal v) v room

abbrev pub read_written_unless : Option RecvError → List ℕ → List ℕ → List ℕ
read_written_unless None waiting out = take (min (length out) (length waiting)) waiting ++ drop (min (length out) (length waiting)) out
read_written_unless (Some refusal) waiting out = out

-- they stand at the front of the buffer
abbrev pub read_written : TcpValue → List ℕ → List ℕ
read_written v out = read_written_unless (recv_refusal v) v.received.waiting out

-- LENDING

abbrev pub lent_unless : Option RecvError → List ℕ → Result (List ℕ) Code
lent_unless None waiting = Ok waiting
lent_unless (Some refusal) waiting = Err (of_stream_recv refusal)

-- the first waiting bytes, as many as lie after one another
abbrev pub peeked : TcpValue → Result (List ℕ) Code
peeked v = lent_unless (recv_refusal v) (take (unbroken v.received 0 (2 ^ 64 - 1)) v.received.waiting)

abbrev pub done_unless : Option RecvError → ℕ → Result ℕ Code
done_unless None count = Ok count
done_unless (Some refusal) count = Err (of_stream_recv refusal)

-- so many of the bytes that may be lent are given up, at most as many as there are
abbrev pub done_answer : ℕ → TcpValue → Result ℕ Code
done_answer count v = done_unless (recv_refusal v) (min (length (lent v.received)) count)

abbrev pub done_after_unless : Option RecvError → ℕ → TcpValue → TcpValue
done_after_unless None count v = recv_after v count
done_after_unless (Some refusal) count v = unoffered v

abbrev pub done_after : ℕ → TcpValue → TcpValue
done_after count v = done_after_unless (recv_refusal v) (min (length (lent v.received)) count) v

-- WHAT A SOCKET TELLS

abbrev pub state_in : TcpValue → Result State Code
state_in v = Ok v.tcb.state

abbrev pub ends : Option IpEndpoint → Option IpEndpoint → Result (IpEndpoint × IpEndpoint) Code
ends None remote = Err Is.InvalidState
ends (Some own) None = Err Is.InvalidState
ends (Some own) (Some remote) = Ok (own, remote)

-- the own endpoint of the connection, and the remote's
abbrev pub ends_in : TcpValue → Result (IpEndpoint × IpEndpoint) Code
ends_in v = ends (local_in v.tcb.names.pair) (remote_in v.tcb.names.pair)

-- how many bytes wait to be read, and how many are queued that aren't acknowledged
abbrev pub queues_in : TcpValue → Result (ℕ × ℕ) Code
queues_in v = Ok (length v.received.waiting, queued_in v)

-- how many bytes more can be queued
abbrev pub room_in : TcpValue → Result ℕ Code
room_in v = Ok (length v.queued.free)
