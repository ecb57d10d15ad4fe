-- TCP sockets on numerals, with room for 8 bytes each way, and the steps that they take.
use Rattle.std.specs.Prelude.{ℕ, ◌+◌, true, List, [], replicate, Option, Some, None}
use Rattle.ip_wire.specs.IpAddress.TheVariants as Address
use Rattle.ip_wire.specs.IpProtocol.TheVariants as Protocol
use Rattle.ip_wire.specs.Options.{no_options}
use Rattle.ip_wire.specs.SeqNumber.{SeqNumber}
use Rattle.ip_wire.specs.TcpControl.TheVariants as Bits
use Rattle.ip_wire.specs.TcpHeader.{TcpHeader}
use Rattle.net_base.specs.Ring.{ring}
use Rattle.sockets.specs.Packet.{PacketValue, PayloadValue}
use Rattle.sockets.specs.Packet as Carried
use Rattle.tcp_refinement.specs.Host.{made_of}
use Rattle.tcp_block.specs.Arrival.{arrives}
use Rattle.tcp_block.specs.Offers.{offer_of, offered_packet}
use Rattle.tcp_block.specs.Settled.{settled}
use Rattle.tcp_block.specs.Value.{TcpValue, new_socket}
use Rattle.lan.specs.declared.at_link.history.answer.Answer.TheVariants as To
use Rattle.lan.specs.declared.at_link.history.event.Side.{Side}
use Rattle.lan.specs.Worlds.AtLink.Call.{SocketCall}
use Rattle.lan.specs.Worlds.AtLink.Kinds.{other}
use Rattle.lan.specs.Worlds.AtLink.Calls.{Did, did, tcp_does}
use Rattle.lan.specs.Worlds.AtLink.Parties.{Socket, socket_at, Net, party}
use Rattle.lan.specs.Worlds.AtLink.Parties.Socket.{Tcp}
use Rattle.lan.specs.Worlds.AtLink.Moves.{Step}
use Rattle.lan.specs.Worlds.AtLink.Moves.Move.{Invokes, Offers, Takes, Resets}
use Rattle.proof_stack.specs.Worlds.Hosts.{address, context, packet_to, entry_of}

abbrev pub initial : TcpValue
initial = new_socket 8 (ring [] (replicate 8 0) 0)

abbrev pub or_else : TcpValue → Option (Did TcpValue) → Did TcpValue
or_else v None = did To.Done v
or_else v (Some d) = d

abbrev pub does : Side → TcpValue → SocketCall → Did TcpValue
does side v call = or_else v (tcp_does (context side) v call)

-- the socket at a slot is called, as its contract says
abbrev pub invokes : Side → ℕ → TcpValue → SocketCall → Step
invokes side i v call = record {
  side = side;
  move = Invokes i (context side) (Tcp v) (entry_of side i call (does side v call)) call (Tcp (does side v call).socket);
}

abbrev pub called : Side → TcpValue → SocketCall → TcpValue
called side v call = (does side v call).socket

-- it is asked for a segment, which is sent from its host's address
abbrev pub asks : Side → ℕ → TcpValue → Step
asks side i v = record { side = side; move = Offers i (context side) v (Address.Ipv4 (address side)) true }

abbrev pub asked : Side → TcpValue → TcpValue
asked side v = settled true (offer_of (context side) v).socket

-- a segment: its header and its bytes
abbrev pub TcpSegment : Type 0
TcpSegment = TcpHeader × List ℕ

-- a reset between two ports
abbrev pub reset : ℕ → ℕ → ℕ → Option SeqNumber → TcpSegment
reset source destination seq ack = (
  record {
    src_port = source;
    dst_port = destination;
    control = Bits.Rst;
    seq_number = record { 0 = seq };
    ack_number = ack;
    window_len = 0;
    options = no_options;
  },
  [],
)

abbrev pub segment_in : PayloadValue → TcpSegment
segment_in (Carried.Segment header bytes) = (header, bytes)
segment_in payload = reset 0 0 0 None

abbrev pub segment_of : Option PacketValue → TcpSegment
segment_of None = reset 0 0 0 None
segment_of (Some p) = segment_in p.payload

-- the segment that it sends when it is asked
abbrev pub sent_by : Side → TcpValue → TcpSegment
sent_by side v = segment_of (offered_packet (offer_of (context side) v).socket)

-- a segment comes to it
abbrev pub comes : Side → ℕ → TcpValue → TcpSegment → Step
comes side i v x = record { side = side; move = Takes i (context side) v (packet_to side Protocol.Tcp 20) x.0 x.1 }

abbrev pub reached : Side → TcpValue → TcpSegment → TcpValue
reached side v x = (arrives (context side) v (packet_to side Protocol.Tcp 20) x.0 x.1).socket

-- a host makes a reset of its own, for the other one
abbrev pub resets : Side → TcpSegment → Step
resets side x = record { side = side; move = Resets (made_of (Address.Ipv4 (address side)) (Address.Ipv4 (address (other side))) x.0 x.1) }

abbrev pub number_after : TcpSegment → SeqNumber
number_after x = record { 0 = x.0.seq_number.0 + 1 }

abbrev pub in_tcp : Option Socket → TcpValue
in_tcp (Some (Tcp v)) = v
in_tcp other = initial

-- the TCP socket at a slot
abbrev pub tcp_at : Net → Side → ℕ → TcpValue
tcp_at net side i = in_tcp (socket_at (party net side) i)
