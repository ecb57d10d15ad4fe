-- Of each socket of a host: raw sockets that queue no packet of TCP or UDP and no clients of DHCP and DNS, whose datagrams no application
-- sends; and hosts that send no datagram.
use Rattle.std.specs.Prelude.{◌≡◌, false, List, Option, None, Some}
use Rattle.std.specs.List.{AllByRecursion}
use Rattle.sim_link.specs.Medium.TheVariants as Medium
use Rattle.base_buffer.specs.Packets.{contents}
use Rattle.iface_egress.specs.declared.socket_set.Item.{Item}
use Rattle.iface_egress.specs.declared.socket_set.SocketStorage.{SocketStorage}
use Rattle.sockets.specs.declared.socket.Socket.{Socket}
use Rattle.sockets.specs.declared.socket.Socket.TheVariants as Is
use Rattle.sim_link.specs.PacketInFrame.{names_tcp_or_udp}

-- it holds of the socket of each slot that has one
abbrev pub OfItem : (Socket → Type 0) → Option (Item Socket) → Type 0
OfItem W None = Unit {0}
OfItem W (Some item) = W item.socket

abbrev pub OfEach : (Socket → Type 0) → List (SocketStorage Socket) → Type 0
OfEach W slots = AllByRecursion (λ p. OfItem W p.inner) slots

-- each queued packet of a raw socket names neither TCP nor UDP; and it is no client
abbrev pub QueuesForeign : Socket → Type 0
QueuesForeign (Is.Raw v) = AllByRecursion (λ q. names_tcp_or_udp Medium.Ip q.1 ≡ false) (contents v.queued)
QueuesForeign (Is.Icmp v) = Unit {0}
QueuesForeign (Is.Udp v) = Unit {0}
QueuesForeign (Is.Tcp v) = Unit {0}
QueuesForeign (Is.Dhcpv4 v) = ⊥
QueuesForeign (Is.Dns v) = ⊥

-- neither a UDP socket nor a client that sends datagrams
abbrev pub HasNoUdp : Socket → Type 0
HasNoUdp (Is.Udp v) = ⊥
HasNoUdp (Is.Raw v) = Unit {0}
HasNoUdp (Is.Icmp v) = Unit {0}
HasNoUdp (Is.Tcp v) = Unit {0}
HasNoUdp (Is.Dhcpv4 v) = ⊥
HasNoUdp (Is.Dns v) = ⊥
