-- Runs on numerals: two sockets with room for 8 bytes each way hand each other their segments. Socket a sends from number 100 on,
-- socket b from 300 on.
use Rattle.std.specs.Prelude.{ℕ, ℤ, true, false, [], ◌∷◌, replicate, Option, Some, None}
use Rattle.ip_wire.specs.Ipv4Address.{Ipv4Address}
use Rattle.ip_wire.specs.IpRepr.{IpRepr}
use Rattle.net_base.specs.Capabilities.{all_checksums}
use Rattle.net_base.specs.Checksum.TheVariants as Checksum
use Rattle.net_base.specs.Ring.{ring}
use Rattle.tcp_state.specs.Context.{ContextValue}
use Rattle.tcp_state.specs.Packet.{PacketValue, PayloadValue, Segment}
use Rattle.tcp_state.specs.declared.endpoints.FourTuple.{FourTuple}
use Rattle.tcp_state.specs.declared.endpoints.AddressPair.TheVariants as Pair
use Rattle.tcp_state.specs.declared.offer.Reply.{Reply}
use Rattle.tcp_block.specs.Arrival.{arrives}
use Rattle.tcp_block.specs.Calls.{connecting, listening}
use Rattle.tcp_block.specs.Offers.{offer_of, offered_packet}
use Rattle.tcp_block.specs.Settled.{settled}
use Rattle.tcp_block.specs.Value.{TcpValue, Arrived, new_socket, dropped}

-- at this instant, over a link that holds packets of 1500 bytes
abbrev pub at : ℤ → ContextValue
at now = record {
  instant = now;
  has_ip_addr = λ _. true;
  source_for = λ _. None;
  is_broadcast = λ _. false;
  ip_mtu = 1500;
  checksums = all_checksums Checksum.Both;
  isn_key = None;
  random = 0;
}

abbrev pub address : ℕ → Ipv4Address
address n = record { 0 = 192 ∷ 168 ∷ 1 ∷ n ∷ [] }

abbrev pub from_a : FourTuple
from_a = record { addresses = Pair.Ipv4 (address 1) (address 2); local_port = 49_500; remote_port = 80 }

abbrev pub from_b : FourTuple
from_b = record { addresses = Pair.Ipv4 (address 2) (address 1); local_port = 80; remote_port = 49_500 }

abbrev pub socket : TcpValue
socket = new_socket 8 (ring [] (replicate 8 0) 0)

abbrev pub caller_a : TcpValue
caller_a = connecting socket from_a 100

abbrev pub caller_b : TcpValue
caller_b = connecting socket from_b 300

abbrev pub listener : TcpValue
listener = listening socket (record { addr = None; port = 80 })

-- the segment of a packet comes
abbrev pub carried : ContextValue → TcpValue → IpRepr → PayloadValue → Arrived
carried cx v ip (Segment header bytes) = arrives cx v ip header bytes
carried cx v ip other = dropped v

abbrev pub delivered : ContextValue → TcpValue → Option PacketValue → Arrived
delivered cx v None = dropped v
delivered cx v (Some packet) = carried cx v packet.header packet.payload

-- the answer to a segment comes
abbrev pub answer_arrives : ContextValue → TcpValue → Option Reply → TcpValue
answer_arrives cx v None = v
answer_arrives cx v (Some reply) = (arrives cx v reply.header reply.segment []).socket

-- who sends, and who takes what is sent
pub record Two : Type 0 where
  pub one : TcpValue
  pub other : TcpValue

abbrev pub two : TcpValue → TcpValue → Two
two one other = record { one = one; other = other }

-- the segment that a socket offers is sent
abbrev pub sends : ℤ → TcpValue → TcpValue
sends now v = settled true (offer_of (at now) v).socket

abbrev pub packet_at : ℤ → TcpValue → Option PacketValue
packet_at now v = offered_packet (offer_of (at now) v).socket

-- it is sent and comes, and what answers it comes back
abbrev pub exchanged : ℤ → TcpValue → Arrived → Two
exchanged now sender arrived = two (answer_arrives (at now) sender arrived.answer) arrived.socket

abbrev pub hands_over : ℤ → Two → Two
hands_over now s = exchanged now (sends now s.one) (delivered (at now) s.other (packet_at now s.one))

abbrev pub turned : Two → Two
turned s = two s.other s.one
