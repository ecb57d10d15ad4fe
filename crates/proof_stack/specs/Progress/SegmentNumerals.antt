-- Two hosts on numerals that meet what the laws of segments ask for, on a medium of bare packets: A has 192.168.1.1, B has 192.168.1.2, and each has one
-- TCP socket, between which a connection is open. A's user wrote abc.
use Rattle.std.specs.Prelude.{ℕ, true, List, [], ◌∷◌, replicate, Some}
use Rattle.ip_wire.specs.IpProtocol.TheVariants as Protocol
use Rattle.ip_wire.specs.IpRepr.{IpRepr}
use Rattle.ip_wire.specs.Options.{no_options}
use Rattle.ip_wire.specs.TcpControl.TheVariants as Bits
use Rattle.ip_wire.specs.TcpHeader.{TcpHeader}
use Rattle.net_base.specs.Medium.TheVariants as Medium
use Rattle.net_base.specs.Ring.{ring}
use Rattle.tcp_block.specs.Arrival.{arrives}
use Rattle.tcp_block.specs.Settled.{settled}
use Rattle.tcp_block.specs.Value.{TcpValue}
use Rattle.sim_link.specs.Port.{PortValue}
use Rattle.iface_ingress.specs.Packet.{PacketValue, Segment, packet_of}
use Rattle.iface_ingress.specs.Socket.TheVariants as Kind
use Rattle.iface_tables.specs.Inner.{InnerValue, at_instant, context_of, with_next_ident}
use Rattle.iface_egress.specs.IsTransmitted.{numbered_header}
use Rattle.iface_egress.specs.Set.{unmarked}
use Rattle.interface.specs.Host.{maintained}
use Rattle.interface.specs.State.{State, state}
use Rattle.lan.specs.Hosts.{hardware_of, interface_of}
use Rattle.lan.specs.declared.at_link.history.event.Side.{Side}
use Rattle.lan.specs.declared.at_link.history.event.Side.TheVariants.{A, B}
use Rattle.proof_stack.specs.Progress.Numerals.{longest_frame, now, port_following, port_with}
use Rattle.proof_stack.specs.Progress.Queued.{frame_under}
use Rattle.proof_stack.specs.Progress.Segments.{asked_by}
use Rattle.proof_stack.specs.Worlds.Hosts.{packet_to, text}
use Rattle.proof_stack.specs.Worlds.Open.{idle, number}

-- THE SEGMENT: abc, from A's port 49500 to B's port 80

abbrev pub writing : TcpValue
writing = record (idle A) { queued = ring text (replicate 5 0) 0 }

abbrev pub push : TcpHeader
push = record {
  src_port = 49_500;
  dst_port = 80;
  control = Bits.Psh;
  seq_number = number 4;
  ack_number = Some (number 4);
  window_len = 8;
  options = no_options;
}

abbrev pub header : IpRepr
header = packet_to B Protocol.Tcp 23

abbrev pub packet : PacketValue
packet = packet_of header (Segment push text)

-- THE HOSTS

-- a host with this socket, at a port of a link at which these frames wait
abbrev pub host_of : Side → TcpValue → List (List ℕ) → State PortValue
host_of side socket waiting = state (port_with Medium.Ip waiting) (interface_of Medium.Ip longest_frame side) (unmarked (Kind.Tcp socket) ∷ [])

-- A, whose socket has the segment to send
abbrev pub offering : State PortValue
offering = host_of A writing []

abbrev pub sender : InnerValue
sender = at_instant now offering.host.inner

-- its frame
abbrev pub frame : List ℕ
frame = frame_under sender sender.ident (hardware_of Medium.Ip B) packet

-- A after the poll in which it goes
abbrev pub sent : State PortValue
sent = state
    (port_following offering.device frame)
    (record (maintained now offering.host) { inner = with_next_ident sender })
    (unmarked (Kind.Tcp (settled true (asked_by sender writing))) ∷ [])

-- B, at whose port the frame waits
abbrev pub awaiting : State PortValue
awaiting = host_of B (idle B) (frame ∷ [])

abbrev pub reader : InnerValue
reader = at_instant now awaiting.host.inner

-- its socket as the segment comes
abbrev pub taken : TcpValue
taken = (arrives (context_of reader) (idle B) (numbered_header sender header) push text).socket

-- B after the poll that reads it, in which the socket is asked, too
abbrev pub reached : State PortValue
reached = state (port_with Medium.Ip []) (maintained now awaiting.host) (unmarked (Kind.Tcp (asked_by reader taken)) ∷ [])
