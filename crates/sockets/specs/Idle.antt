-- Sockets that have nothing to do until they are called, or something arrives.
use Rattle.std.specs.Prelude.{ℕ, ◌==◌, ◌&&◌, Bool, true, false, is_none}
use Rattle.socket_context.specs.declared.poll_at.PollAt.{PollAt}
use Rattle.socket_context.specs.declared.poll_at.PollAt.TheVariants as At
use Rattle.tcp_block.specs.Due as Tcps
use Rattle.tcp_block.specs.Value.{TcpValue, queued_in}
use Rattle.socket_datagram.specs.SocketValue as Datagrams
use Rattle.socket_datagram.specs.Udp.{UdpValue}
use Rattle.sockets.specs.declared.socket.Socket.{Socket}
use Rattle.sockets.specs.declared.socket.Socket.TheVariants as Kind

-- nothing but an arrival makes it want to be polled
abbrev pub waits_for_arrival : PollAt → Bool
waits_for_arrival At.Ingress = true
waits_for_arrival at = false

-- An IP MTU. When a connection with nothing queued wants to be polled is the same at each.
abbrev pub some_ip_mtu : ℕ
some_ip_mtu = 1500

-- nothing is queued or offered, and it waits for an arrival
abbrev pub is_idle_connection : TcpValue → Bool
is_idle_connection v = (queued_in v == 0) && (is_none v.offered && waits_for_arrival (Tcps.poll_of some_ip_mtu v))

-- nothing is queued or offered
abbrev pub is_idle_port : UdpValue → Bool
is_idle_port v = waits_for_arrival (Datagrams.poll_of v) && is_none v.offered

-- Only UDP and TCP sockets are ever idle. Few of another kind are in a set, and each of them is asked every time.
abbrev pub is_idle : Socket → Bool
is_idle (Kind.Udp v) = is_idle_port v
is_idle (Kind.Tcp v) = is_idle_connection v
is_idle s = false

-- a UDP or a TCP socket
abbrev pub IsOfPorts : Socket → Type 0
IsOfPorts (Kind.Udp v) = Unit {0}
IsOfPorts (Kind.Tcp v) = Unit {0}
IsOfPorts s = ⊥
