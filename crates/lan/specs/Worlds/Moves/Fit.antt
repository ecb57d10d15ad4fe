-- Sockets whose packets another host can read: no raw one queues a packet of TCP or UDP, and no packet goes from or to port 0. There is
-- no client of DHCP or DNS.
use Rattle.std.specs.Prelude.{◌≡◌, ◌≢◌, ℕ, Some}
use Rattle.std.specs.List.{AllByRecursion}
use Rattle.base_buffer.specs.Packets.{contents}
use Rattle.sockets.specs.declared.socket.Socket.{Socket}
use Rattle.sockets.specs.declared.socket.Socket.TheVariants as Is
use Rattle.tcp_block.specs.FourTuple.{FourTuple}
use Rattle.lan.specs.Worlds.AtLink.Side.{Side}
use Rattle.lan.specs.Worlds.AtLink.Node.{Nodes, node}
use Rattle.lan.specs.Worlds.Moves.Raws.{OfEach, QueuesForeign}

-- neither port is 0
abbrev pub AreNamed : ℕ → ℕ → Type 0
AreNamed source destination = (source ≢ 0) × (destination ≢ 0)

-- no queued datagram goes to port 0, and no end of a connection has it
abbrev pub NamesPorts : Socket → Type 0
NamesPorts (Is.Raw v) = Unit {0}
NamesPorts (Is.Icmp v) = Unit {0}
NamesPorts (Is.Udp v) = AllByRecursion (λ q. q.0.endpoint.port ≢ 0) (contents v.queued)
NamesPorts (Is.Dhcpv4 v) = ⊥
NamesPorts (Is.Dns v) = ⊥
NamesPorts (Is.Tcp v) = (pair : FourTuple) → v.tcb.names.pair ≡ Some pair → AreNamed pair.local_port pair.remote_port

abbrev pub IsFit : Socket → Type 0
IsFit s = QueuesForeign s × NamesPorts s

-- so are all sockets of both hosts
abbrev pub AreFit : Nodes → Type 0
AreFit hosts = (side : Side) → OfEach IsFit (node hosts side).slots
