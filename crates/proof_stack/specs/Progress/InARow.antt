-- Two datagrams in a row on numerals: abc and de are queued at A, and B's socket has room for both, whatever so many frames and slots for fragments may bring.
use Rattle.std.specs.Prelude.{ℕ, true, List, [], ◌∷◌, None, Some}
use Rattle.ip_wire.specs.HardwareAddress.TheVariants as Hardware
use Rattle.ip_wire.specs.IpProtocol.TheVariants as Protocol
use Rattle.net_base.specs.Medium.TheVariants as Medium
use Rattle.net_base.specs.Packets.{packets_in}
use Rattle.sim_link.specs.Port.{PortValue}
use Rattle.socket_datagram.specs.SocketValue.{settled}
use Rattle.socket_datagram.specs.Udp.{UdpValue, bind_after, datagram_following, made, metadata_to, process_after, send_after}
use Rattle.socket_datagram.specs.declared.udp.UdpMetadata.{UdpMetadata}
use Rattle.iface_ingress.specs.Packet.{PacketValue}
use Rattle.iface_ingress.specs.Socket.TheVariants as Kind
use Rattle.iface_tables.specs.Inner.{with_next_ident}
use Rattle.iface_egress.specs.Set.{unmarked}
use Rattle.interface.specs.Host.{maintained}
use Rattle.interface.specs.State.{State, state}
use Rattle.lan.specs.declared.at_link.history.event.Side.TheVariants.{A, B}
use Rattle.proof_stack.specs.Worlds.Datagrams.{queued_a}
use Rattle.proof_stack.specs.Worlds.Hosts.{endpoint, packet_to, text}
use Rattle.proof_stack.specs.Progress.Numerals.{frame, host_with, now, packet, port_following, port_with, sender}
use Rattle.proof_stack.specs.Progress.Queued.{frame_under}

-- de, after abc
abbrev pub next_datagram : UdpMetadata × List ℕ
next_datagram = (metadata_to (endpoint B 53), 100 ∷ 101 ∷ [])

abbrev pub queued_both : UdpValue
queued_both = send_after queued_a next_datagram.0 next_datagram.1

-- the packet that takes it
abbrev pub next_packet : PacketValue
next_packet = datagram_following queued_a.settings.endpoint (packet_to B Protocol.Udp 10) next_datagram

-- A, at which both are queued; the one went; and the other
abbrev pub queuing_both : State PortValue
queuing_both = host_with Medium.Ip A queued_both []

abbrev pub queued_then : UdpValue
queued_then = settled true (record queued_both { offered = Some packet })

abbrev pub one_gone : State PortValue
one_gone = state
    (port_following queuing_both.device frame)
    (record (maintained now queuing_both.host) { inner = with_next_ident sender })
    (unmarked (Kind.Udp queued_then) ∷ [])

abbrev pub next_frame : List ℕ
next_frame = frame_under sender one_gone.host.inner.ident Hardware.Ip next_packet

abbrev pub both_gone : State PortValue
both_gone = state
    (port_following one_gone.device next_frame)
    (record one_gone.host { inner = with_next_ident one_gone.host.inner })
    (unmarked (Kind.Udp (settled true (record queued_then { offered = Some next_packet }))) ∷ [])

-- B's socket
abbrev pub roomy : UdpValue
roomy = bind_after (made (packets_in [] 0 4 16_384) (packets_in [] 0 2 8)) (record { addr = None; port = 53 })

-- B, at whose port both frames wait; the one is read; and the other
abbrev pub expecting_both : State PortValue
expecting_both = host_with Medium.Ip B roomy (frame ∷ next_frame ∷ [])

abbrev pub one_waits : UdpValue
one_waits = process_after roomy (packet_to B Protocol.Udp 11) (record { src_port = 48_896; dst_port = 53 }) text

abbrev pub one_reached : State PortValue
one_reached = state (port_with Medium.Ip (next_frame ∷ [])) (maintained now expecting_both.host) (unmarked (Kind.Udp one_waits) ∷ [])

abbrev pub both_wait_there : UdpValue
both_wait_there = process_after one_waits (packet_to B Protocol.Udp 10) (record { src_port = 48_896; dst_port = 53 }) next_datagram.1

abbrev pub both_reached : State PortValue
both_reached = state (port_with Medium.Ip []) one_reached.host (unmarked (Kind.Udp both_wait_there) ∷ [])
