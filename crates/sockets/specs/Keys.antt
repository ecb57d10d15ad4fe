-- By which key a socket is found when something arrives for it: its kind, and the ports that it has.
use Rattle.std.specs.Prelude.{ℕ, ◌+◌, ◌*◌, if◌then◌else◌, Option, Some, None}
use Rattle.tcp_block.specs.FourTuple.{FourTuple}
use Rattle.tcp_block.specs.States.{is_listening}
use Rattle.tcp_block.specs.declared.tcb.Tcb.{Tcb}
use Rattle.sockets.specs.declared.socket.Socket.{Socket}
use Rattle.sockets.specs.declared.socket.Socket.TheVariants as Kind

abbrev pub key_with : ℕ → ℕ → ℕ → ℕ
key_with kind own remote = (kind * 65536 + own) * 65536 + remote

-- raw sockets
abbrev pub of_raw : ℕ
of_raw = key_with 0 0 0

-- ICMP sockets
abbrev pub of_icmp : ℕ
of_icmp = key_with 1 0 0

-- the clients of DHCP and DNS
abbrev pub of_clients : ℕ
of_clients = key_with 2 0 0

-- UDP sockets that are bound to this port
abbrev pub of_port : ℕ → ℕ
of_port own = key_with 3 own 0

-- TCP sockets that listen on this port
abbrev pub of_listeners : ℕ → ℕ
of_listeners own = key_with 4 own 0

-- connections between these ports
abbrev pub of_ports : ℕ → ℕ → ℕ
of_ports own remote = key_with 5 own remote

abbrev pub of_pair : Option FourTuple → ℕ
of_pair None = of_ports 0 0
of_pair (Some pair) = of_ports pair.local_port pair.remote_port

abbrev pub of_cidr : Tcb → ℕ
of_cidr b = if is_listening b.state then of_listeners b.names.listen.port else of_pair b.names.pair

abbrev pub key_of : Socket → ℕ
key_of (Kind.Raw v) = of_raw
key_of (Kind.Icmp v) = of_icmp
key_of (Kind.Udp v) = of_port v.settings.endpoint.port
key_of (Kind.Tcp v) = of_cidr v.tcb
key_of (Kind.Dhcpv4 v) = of_clients
key_of (Kind.Dns v) = of_clients
