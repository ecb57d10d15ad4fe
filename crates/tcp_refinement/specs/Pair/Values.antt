-- A pair of sockets as a value.
use Rattle.std.specs.Prelude.{ℕ, ◌<◌, ℤ, pos, Bool, List, [], ◌∷◌, ◌++◌, map, Option, Some, None}
use Rattle.net_base.specs.Capabilities.{all_checksums}
use Rattle.net_base.specs.Checksum.TheVariants as Checksum
use Rattle.net_base.specs.ChecksumCapabilities.{ChecksumCapabilities}
use Rattle.ip_wire.specs.AddressTests.{is_same_address}
use Rattle.ip_wire.specs.IpAddress.{IpAddress}
use Rattle.ip_wire.specs.IpAddress.TheVariants as Ip
use Rattle.ip_wire.specs.Ipv4Address.{Ipv4Address}
use Rattle.tcp_block.specs.Context.{ContextValue}
use Rattle.tcp_theory.specs.Segment.{Segment}
use Rattle.tcp_block.specs.OpenOffer.{OpenOffer}
use Rattle.tcp_block.specs.Reply.{Reply}
use Rattle.tcp_block.specs.Offers.{payload_of}
use Rattle.tcp_block.specs.Value.{TcpValue}
use Rattle.tcp_refinement.specs.Tie.{Past, segment_of}
use Rattle.tcp_refinement.specs.declared.pair.event.Side.{Side}
use Rattle.tcp_refinement.specs.declared.pair.event.Side.TheVariants.{A, B}
use Rattle.tcp_refinement.specs.declared.pair.event.SentSegment.{SentSegment}
use Rattle.tcp_refinement.specs.Pair.History.{Entry, pasts}
use Rattle.tcp_refinement.specs.Pair.Sides.{Both, at}

-- WHAT A SOCKET KNOWS

-- What a side knows of its host, whatever happens: a context but for the instant and the random words.
pub record HostContext : Type 0 where
  pub has_ip_addr : IpAddress → Bool
  pub source_for : IpAddress → Option IpAddress
  pub is_broadcast : IpAddress → Bool
  pub ip_mtu : ℕ
  pub checksums : ChecksumCapabilities
  pub isn_key : Option (List ℕ)

-- A packet holds an IPv6 header of 40 octets, a TCP header of 20, and payload. Each link has more: 68 octets for IPv4 (RFC 791), 1280 for IPv6
-- (RFC 8200).
abbrev pub HoldsPayload : HostContext → Type 0
HoldsPayload host = 60 < host.ip_mtu

abbrev pub context_on : HostContext → ℤ → ℕ → ContextValue
context_on host instant random = record {
  instant = instant;
  has_ip_addr = host.has_ip_addr;
  source_for = host.source_for;
  is_broadcast = host.is_broadcast;
  ip_mtu = host.ip_mtu;
  checksums = host.checksums;
  random = random;
  isn_key = host.isn_key;
}

-- A PAIR

-- a socket, its host, the segments that it sent, oldest first, its last instant, and the state of its random words
pub record PairSide : Type 0 where
  pub socket : TcpValue
  pub host : HostContext
  pub sent : List SentSegment
  pub instant : ℤ
  pub random : ℕ

pub record PairValue : Type 0 where
  pub sides : Both PairSide
  pub history : List Entry

abbrev pub context_at : Side → PairSide → ContextValue
context_at side s = context_on s.host s.instant s.random

-- a socket to which nothing happened yet, on any host, with any random words
abbrev pub new_side : HostContext → ℕ → TcpValue → PairSide
new_side host random socket = record { socket = socket; host = host; sent = []; instant = pos 0; random = random }

abbrev pub beginning : PairSide → PairSide → PairValue
beginning a b = record { sides = record { a = a; b = b }; history = [] }

-- THE TWO HOSTS OF THE PAIR THAT RUNS

-- 192.168.1.1 and 192.168.1.2
abbrev pub address_of : Side → Ipv4Address
address_of A = record { 0 = 192 ∷ 168 ∷ 1 ∷ 1 ∷ [] }
address_of B = record { 0 = 192 ∷ 168 ∷ 1 ∷ 2 ∷ [] }

abbrev pub broadcast : Ipv4Address
broadcast = record { 0 = 255 ∷ 255 ∷ 255 ∷ 255 ∷ [] }

-- the own address is the source for IPv4 destinations
abbrev pub source_at : Side → IpAddress → Option IpAddress
source_at side (Ip.Ipv4 remote) = Some (Ip.Ipv4 (address_of side))
source_at side (Ip.Ipv6 remote) = None

abbrev pub host_of : Side → HostContext
host_of side = record {
  has_ip_addr = λ address. is_same_address address (Ip.Ipv4 (address_of side));
  source_for = source_at side;
  is_broadcast = λ address. is_same_address address (Ip.Ipv4 broadcast);
  ip_mtu = 1500;
  checksums = all_checksums Checksum.Both;
  isn_key = None;
}

-- two sockets to which nothing happened yet
abbrev pub new_pair : TcpValue → TcpValue → PairValue
new_pair a b = beginning (new_side (host_of A) 1 a) (new_side (host_of B) 2 b)

-- SEGMENTS SENT

abbrev pub seen_of : SentSegment → Segment
seen_of x = segment_of x.segment x.bytes

abbrev pub segments_of : List SentSegment → List Segment
segments_of sent = map seen_of sent

-- what answers a segment is sent
abbrev pub and_reply : List SentSegment → Option Reply → List SentSegment
and_reply sent None = sent
and_reply sent (Some reply) = sent ++ record { header = reply.header; segment = reply.segment; bytes = [] } ∷ []

-- an offer that was settled as sent, with its part of the send queue
abbrev pub and_offer : List SentSegment → Option OpenOffer → List ℕ → List SentSegment
and_offer sent None queue = sent
and_offer sent (Some o) queue = sent ++ record { header = o.header; segment = o.segment; bytes = payload_of o o.kind queue } ∷ []

-- what was seen of a socket, with the segments that it sent
abbrev pub with_segments : Past → List SentSegment → Past
with_segments p sent = record p { sent = segments_of sent }

abbrev pub past_at : PairValue → Side → Past
past_at pair side = with_segments (at (pasts pair.history) side) (at pair.sides side).sent
