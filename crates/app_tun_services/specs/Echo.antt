-- What the echo services make of their sockets (RFC 862).
use Rattle.std.specs.Prelude.{ℕ, nat_lt, min, if◌then◌else◌, List, length, take, Option, None, Some}
use Rattle.sockets.specs.Packets.{first}
use Rattle.socket_datagram.specs.SocketValue as Datagrams
use Rattle.socket_datagram.specs.Udp.{UdpValue, send_after}
use Rattle.socket_datagram.specs.declared.udp.UdpMetadata.{UdpMetadata}
use Rattle.tcp_block.specs.Calls as Streams
use Rattle.tcp_block.specs.RecvError.{RecvError}
use Rattle.tcp_block.specs.RecvError.TheVariants as Recv
use Rattle.tcp_block.specs.States.{takes_writes}
use Rattle.tcp_block.specs.Value.{TcpValue, unoffered}

-- DATAGRAMS

-- a datagram that isn't longer than the room goes back to where it came from
abbrev pub sent_back : ℕ → Option (UdpMetadata × List ℕ) → UdpValue → UdpValue
sent_back room None v = v
sent_back room (Some d) v = if nat_lt room (length d.1) then v else send_after v d.0 d.1

-- the first datagram is taken, and sent back
abbrev pub datagram_echoed : ℕ → UdpValue → UdpValue
datagram_echoed room v = sent_back room (first v.received) (Datagrams.recv_after v)

-- STREAMS

-- for how many bytes more the send queue has room, at most so many
abbrev pub room_left : ℕ → TcpValue → ℕ
room_left most v = min most (length v.queued.free)

-- how many of the waiting bytes go back
abbrev pub echo_len : ℕ → TcpValue → ℕ
echo_len room v = min room (length v.received.waiting)

abbrev pub echoed_unless : Option RecvError → ℕ → TcpValue → TcpValue
echoed_unless None room v = Streams.send_after (Streams.recv_after v (echo_len room v)) (take (echo_len room v) v.received.waiting)
echoed_unless (Some Recv.Finished) room v = Streams.close_after (unoffered v)
echoed_unless (Some Recv.InvalidState) room v = unoffered v

-- one that takes writes sends back what waits, and closes at the end of it; another waits
abbrev pub stream_echoed : ℕ → TcpValue → TcpValue
stream_echoed most v = if takes_writes v.tcb.state then echoed_unless (Streams.recv_refusal v) (room_left most v) v else v
