-- Two hosts on numerals that meet what the laws of queued datagrams ask for. A has 192.168.1.1, B has 192.168.1.2, and each has one UDP socket with room
-- for two datagrams of 8 bytes each way.
use Rattle.std.specs.Prelude.{◌≡◌, ℕ, ◌-◌, ℤ, pos, true, List, [], ◌∷◌, length}
use Rattle.ip_wire.specs.IpProtocol.TheVariants as Protocol
use Rattle.net_base.specs.Device.{Move, Took, Empty, Allowed, Emitted, Denied}
use Rattle.net_base.specs.Medium.{Medium}
use Rattle.sim_link.specs.Port.{PortValue, unused_end, added, ready_after}
use Rattle.socket_datagram.specs.SocketValue.{settled}
use Rattle.socket_datagram.specs.Udp.{UdpValue, datagram_following, metadata_to}
use Rattle.socket_datagram.specs.declared.udp.UdpMetadata.{UdpMetadata}
use Rattle.iface_ingress.specs.Packet.{PacketValue}
use Rattle.iface_ingress.specs.Socket.TheVariants as Kind
use Rattle.iface_tables.specs.Inner.{InnerValue, at_instant, with_next_ident}
use Rattle.iface_egress.specs.Set.{unmarked}
use Rattle.interface.specs.Host.{maintained}
use Rattle.interface.specs.State.{State, state}
use Rattle.lan.specs.Hosts.{device_of, hardware_of, interface_of}
use Rattle.lan.specs.declared.at_link.history.event.Side.{Side}
use Rattle.lan.specs.declared.at_link.history.event.Side.TheVariants.{A, B}
use Rattle.proof_stack.specs.Worlds.Datagrams.{bound_b, offered_a, queued_a, waiting_b}
use Rattle.proof_stack.specs.Worlds.Hosts.{endpoint, packet_to, text}
use Rattle.proof_stack.specs.Progress.Queued.{frame_under}

-- A QUEUE OF FRAMES that gives leave whatever comes: a look takes the first of them, and what is transmitted or is refused leaves them

abbrev pub QueueMove : List (List ℕ) → Move → List (List ℕ) → Type 0
QueueMove old (Took t frame) new = old ≡ frame ∷ new
QueueMove old (Empty t) new = (old ≡ []) × (new ≡ old)
QueueMove old (Allowed t leave) new = (leave ≡ true) × (new ≡ old)
QueueMove old (Emitted frame) new = new ≡ old
QueueMove old (Denied len) new = new ≡ old

-- THE DATAGRAM: abc, from A's port 48896 to B's port 53

abbrev pub datagram : UdpMetadata × List ℕ
datagram = (metadata_to (endpoint B 53), text)

-- the packet that takes it
abbrev pub packet : PacketValue
packet = datagram_following queued_a.settings.endpoint (packet_to B Protocol.Udp 11) datagram

-- THE HOSTS, as a script starts them

abbrev pub longest_frame : ℕ
longest_frame = 1514

-- a port of a link over which nothing has gone yet, at which these frames wait
abbrev pub port_with : Medium → List (List ℕ) → PortValue
port_with medium waiting = record {
  link = record (unused_end (device_of medium longest_frame)) { waiting = waiting };
  ready = 0;
  size = 0;
}

-- a host with this socket, at such a port
abbrev pub host_with : Medium → Side → UdpValue → List (List ℕ) → State PortValue
host_with medium side socket waiting =
    state (port_with medium waiting) (interface_of medium longest_frame side) (unmarked (Kind.Udp socket) ∷ [])

-- POLLS, a second later

abbrev pub now : ℤ
now = pos 1_000_000

-- a port after a frame that went
abbrev pub port_following : PortValue → List ℕ → PortValue
port_following port frame = record port {
  link = record (added port.link frame) { room = port.link.room - 1 };
  ready = ready_after port (length frame);
}

-- ON A MEDIUM OF BARE PACKETS

-- A, at which the datagram is queued
abbrev pub queuing : State PortValue
queuing = host_with Medium.Ip A queued_a []

abbrev pub sender : InnerValue
sender = at_instant now queuing.host.inner

-- its frame
abbrev pub frame : List ℕ
frame = frame_under sender sender.ident (hardware_of Medium.Ip B) packet

-- A after the poll in which it goes
abbrev pub relieved : State PortValue
relieved = state
    (port_following queuing.device frame)
    (record (maintained now queuing.host) { inner = with_next_ident sender })
    (unmarked (Kind.Udp (settled true offered_a)) ∷ [])

-- B, at whose port the frame waits
abbrev pub expecting : State PortValue
expecting = host_with Medium.Ip B bound_b (frame ∷ [])

-- B after the poll that reads it
abbrev pub reached : State PortValue
reached = state (port_with Medium.Ip []) (maintained now expecting.host) (unmarked (Kind.Udp waiting_b) ∷ [])
