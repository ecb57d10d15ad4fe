-- A datagram between bound ports: each host has a UDP socket with room for two datagrams of 8 bytes each way.
use Rattle.std.specs.Prelude.{ℕ, true, false, List, [], ◌∷◌, Option, Some, None}
use Rattle.ip_wire.specs.IpProtocol.TheVariants as Protocol
use Rattle.ip_wire.specs.IpRepr.{IpRepr}
use Rattle.sockets.specs.Packets.{packets_in}
use Rattle.socket_datagram.specs.Offers.{left_with}
use Rattle.socket_datagram.specs.Udp as Udps
use Rattle.socket_datagram.specs.Udp.{UdpValue, metadata_to}
use Rattle.tcp_block.specs.Offer.TheVariants as Offer
use Rattle.lan.specs.declared.at_link.history.answer.Answer.TheVariants as To
use Rattle.lan.specs.declared.at_link.history.event.Side.{Side}
use Rattle.lan.specs.declared.at_link.history.event.Side.TheVariants.{A, B}
use Rattle.lan.specs.Worlds.AtLink.Call as Call
use Rattle.lan.specs.Worlds.AtLink.Call.{SocketCall}
use Rattle.lan.specs.Worlds.AtLink.Calls.{Did, did, udp_does}
use Rattle.lan.specs.Worlds.AtLink.Parties.{Net}
use Rattle.lan.specs.Worlds.AtLink.Parties.Socket.{Udp}
use Rattle.lan.specs.Worlds.AtLink.Moves.{Step}
use Rattle.lan.specs.Worlds.AtLink.Moves.Move.{Invokes, Gives, Receives}
use Rattle.proof_stack.specs.Worlds.Hosts.{context, endpoint, packet_to, host, text, entry_of}

abbrev pub initial : UdpValue
initial = Udps.made (packets_in [] 0 2 8) (packets_in [] 0 2 8)

abbrev pub hosts : Net
hosts = record { a = host (Some (Udp initial) ∷ []); b = host (Some (Udp initial) ∷ []); history = [] }

abbrev pub at_port : ℕ → UdpValue
at_port port = Udps.bind_after initial (record { addr = None; port = port })

abbrev pub or_else : UdpValue → Option (Did UdpValue) → Did UdpValue
or_else v None = did To.Done v
or_else v (Some d) = d

abbrev pub does : UdpValue → SocketCall → Did UdpValue
does v call = or_else v (udp_does v call)

-- a socket is called, as its contract says
abbrev pub invokes : Side → UdpValue → SocketCall → Step
invokes side v call = record {
  side = side;
  move = Invokes 0 (context side) (Udp v) (entry_of side 0 call (does v call)) call (Udp (does v call).socket);
}

abbrev pub bound_a : UdpValue
bound_a = at_port 48_896

abbrev pub bound_b : UdpValue
bound_b = at_port 53

abbrev pub queued_a : UdpValue
queued_a = (does bound_a (Call.SendTo (endpoint B 53) text)).socket

abbrev pub header : Option IpRepr
header = Udps.header_for (context A) queued_a.settings (metadata_to (endpoint B 53)) 3

abbrev pub offered_a : UdpValue
offered_a = left_with (Udps.offered_in queued_a.settings.endpoint header (Some (metadata_to (endpoint B 53), text))) queued_a

abbrev pub waiting_b : UdpValue
waiting_b = Udps.process_after bound_b (packet_to B Protocol.Udp 11) (record { src_port = 48_896; dst_port = 53 }) text

abbrev pub steps : List Step
steps =
    invokes A initial (Call.Bind 48_896)
    ∷ invokes B initial (Call.Bind 53)
    ∷ invokes A bound_a (Call.SendTo (endpoint B 53) text)
    ∷ record { side = A; move = Gives 0 (context A) queued_a (Offer.Packet false) offered_a true }
    ∷ record { side = B; move = Receives 0 (context B) bound_b (packet_to B Protocol.Udp 11) (record { src_port = 48_896; dst_port = 53 }) text }
    ∷ invokes B waiting_b (Call.RecvFrom 8)
    ∷ []
