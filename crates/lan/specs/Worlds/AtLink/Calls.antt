-- What a socket does at a call of its application.
use Rattle.std.specs.Prelude.{◌≡◌, ℕ, nat_lt, if◌then◌else◌, List, length, take, Option, Some, None, Result, Ok, Err}
use Rattle.ip_wire.specs.IpListenEndpoint.{IpListenEndpoint}
use Rattle.net_base.specs.Packets.{first}
use Rattle.sockets.specs.Context.{ContextValue}
use Rattle.socket_datagram.specs.SocketValue as Datagrams
use Rattle.socket_datagram.specs.Udp as Udps
use Rattle.socket_datagram.specs.Udp.{UdpValue, metadata_to}
use Rattle.socket_datagram.specs.declared.error.BindError.{BindError}
use Rattle.socket_datagram.specs.declared.error.BindError.TheVariants as Bind
use Rattle.socket_datagram.specs.declared.error.SendError.{SendError}
use Rattle.socket_datagram.specs.declared.error.SendError.TheVariants as SendTo
use Rattle.socket_datagram.specs.declared.udp.UdpMetadata.{UdpMetadata}
use Rattle.tcp_block.specs.ConnectError.{ConnectError}
use Rattle.tcp_block.specs.ConnectError.TheVariants as Connect
use Rattle.tcp_block.specs.ListenError.{ListenError}
use Rattle.tcp_block.specs.ListenError.TheVariants as Listen
use Rattle.tcp_block.specs.RecvError.{RecvError}
use Rattle.tcp_block.specs.RecvError.TheVariants as Recv
use Rattle.tcp_block.specs.SendError as Writes
use Rattle.tcp_block.specs.SendError.TheVariants as Send
use Rattle.tcp_block.specs.State.{State}
use Rattle.tcp_block.specs.Calls.{listen_answer, listen_after, connect_answer, connect_after, send_answer, send_after, recv_answer, recv_after, close_after}
use Rattle.tcp_block.specs.Calls.{abort_after}
use Rattle.tcp_block.specs.Settings.{set_timeout, set_ack_delay, set_keep_alive, set_nagle_enabled, set_hop_limit, set_congestion_control, set_tsval_generator}
use Rattle.tcp_block.specs.Settings.{pause_synack}
use Rattle.tcp_block.specs.Value.{TcpValue, unoffered}
use Rattle.lan.specs.declared.at_link.history.answer.Answer.{Answer}
use Rattle.lan.specs.declared.at_link.history.answer.Answer.TheVariants as To
use Rattle.lan.specs.declared.at_link.history.answer.Fault.{Fault}
use Rattle.lan.specs.declared.at_link.history.answer.Fault.TheVariants as For
use Rattle.lan.specs.declared.at_link.history.event.TcpSetting.{TcpSetting}
use Rattle.lan.specs.declared.at_link.history.event.TcpSetting.TheVariants as Changed
use Rattle.lan.specs.Worlds.AtLink.Call.{SocketCall}
use Rattle.lan.specs.Worlds.AtLink.Call as Call

-- ANSWERS

abbrev pub done_or : {E : Type 0} → (E → Fault) → Result (Unit {0}) E → Answer
done_or name (Ok done) = To.Done
done_or name (Err e) = To.Error (name e)

abbrev pub count_or : {E : Type 0} → (E → Fault) → Result ℕ E → Answer
count_or name (Ok n) = To.Count n
count_or name (Err e) = To.Error (name e)

abbrev pub listen_fault : ListenError → Fault
listen_fault Listen.InvalidState = For.InvalidState
listen_fault Listen.Unaddressable = For.Unaddressable

abbrev pub connect_fault : ConnectError → Fault
connect_fault Connect.InvalidState = For.InvalidState
connect_fault Connect.Unaddressable = For.Unaddressable

abbrev pub write_fault : Writes.SendError → Fault
write_fault Send.InvalidState = For.InvalidState

abbrev pub recv_fault : RecvError → Fault
recv_fault Recv.InvalidState = For.InvalidState
recv_fault Recv.Finished = For.Finished

abbrev pub bind_fault : BindError → Fault
bind_fault Bind.InvalidState = For.InvalidState
bind_fault Bind.Unaddressable = For.Unaddressable

abbrev pub send_fault : SendError → Fault
send_fault SendTo.Unaddressable = For.Unaddressable
send_fault SendTo.BufferFull = For.BufferFull

-- a local port, at whatever address
abbrev pub at_port : ℕ → IpListenEndpoint
at_port port = record { addr = None; port = port }

-- A TCP SOCKET

-- the bytes that a read gives, and the socket after it
abbrev pub bytes_or : TcpValue → Result ℕ RecvError → Answer
bytes_or v (Ok count) = To.Bytes (take count v.received.waiting)
bytes_or v (Err e) = To.Error (recv_fault e)

abbrev pub read_by : TcpValue → Result ℕ RecvError → TcpValue
read_by v (Ok count) = recv_after v count
read_by v (Err e) = unoffered v

-- a hop limit of 0 counts as none
abbrev pub hop_limit_or_none : Option ℕ → Option ℕ
hop_limit_or_none None = None
hop_limit_or_none (Some n) = if nat_lt 0 n then Some n else None

abbrev pub setting_after : TcpValue → TcpSetting → TcpValue
setting_after v (Changed.Timeout duration) = set_timeout v duration
setting_after v (Changed.AckDelay duration) = set_ack_delay v duration
setting_after v (Changed.KeepAlive interval) = set_keep_alive v interval
setting_after v (Changed.NagleEnabled enabled) = set_nagle_enabled v enabled
setting_after v (Changed.HopLimit hop_limit) = set_hop_limit v (hop_limit_or_none hop_limit)
setting_after v (Changed.CongestionControl control) = set_congestion_control v control
setting_after v (Changed.TsvalGenerator generator) = set_tsval_generator v generator
setting_after v (Changed.PauseSynack paused) = pause_synack v paused

-- the answer, the state that a close found, and the socket after a call
pub record Did (V : Type 0) : Type 0 where
  pub answer : Answer
  pub found : Option State
  pub socket : V

abbrev pub did : {V : Type 0} → Answer → V → Did V
did answer socket = record { answer = answer; found = None; socket = socket }

-- none where a TCP socket hasn't the call
abbrev pub tcp_does : ContextValue → TcpValue → SocketCall → Option (Did TcpValue)
tcp_does cx v (Call.Listen port) = Some (did (done_or listen_fault (listen_answer v (at_port port))) (listen_after v (at_port port)))
tcp_does cx v (Call.Connect remote port) =
    Some (did (done_or connect_fault (connect_answer cx v remote (at_port port))) (connect_after cx v remote (at_port port)))
tcp_does cx v (Call.Send bytes) = Some (did (count_or write_fault (send_answer v (length bytes))) (send_after v bytes))
tcp_does cx v (Call.Recv limit) = Some (did (bytes_or v (recv_answer v limit)) (read_by v (recv_answer v limit)))
tcp_does cx v Call.Close = Some (record { answer = To.Done; found = Some v.tcb.state; socket = close_after v })
tcp_does cx v Call.Abort = Some (did To.Done (abort_after v))
tcp_does cx v Call.State = Some (did (To.State v.tcb.state) v)
tcp_does cx v (Call.Set setting) = Some (did To.Done (setting_after v setting))
tcp_does cx v call = None

-- A UDP SOCKET

-- the first datagram that waits, where it isn't longer
abbrev pub datagram_or : Option (UdpMetadata × List ℕ) → ℕ → Answer
datagram_or None limit = To.Error For.Exhausted
datagram_or (Some d) limit = if nat_lt limit (length d.1) then To.Error For.Truncated else To.FromEndpoint d.0.endpoint d.1

-- none where a UDP socket hasn't the call
abbrev pub udp_does : UdpValue → SocketCall → Option (Did UdpValue)
udp_does v (Call.Bind port) = Some (did (done_or bind_fault (Udps.bind_answer v (at_port port))) (Udps.bind_after v (at_port port)))
udp_does v Call.Close = Some (did To.Done (Udps.closed v))
udp_does v (Call.SendTo remote bytes) =
    Some (did (done_or send_fault (Udps.send_answer v (metadata_to remote) (length bytes))) (Udps.send_after v (metadata_to remote) bytes))
udp_does v (Call.RecvFrom limit) = Some (did (datagram_or (first v.received) limit) (Datagrams.recv_after v))
udp_does v call = None
