-- The segments of a host, and a socket's past as they tell it.
use Rattle.std.specs.Prelude.{◌≡◌, ℕ, ◌==◌, if◌then◌else◌, List, [], ◌∷◌, ◌++◌, Option, Some, None, slice_get}
use Rattle.ip_wire.specs.Ip.{source_of, destination_of}
use Rattle.ip_wire.specs.IpAddress.{IpAddress}
use Rattle.ip_wire.specs.Tcp.{normal}
use Rattle.ip_wire.specs.TcpHeader.{TcpHeader}
use Rattle.tcp_theory.specs.Segment.{Segment}
use Rattle.tcp_block.specs.OpenOffer.{OpenOffer}
use Rattle.tcp_block.specs.Reply.{Reply}
use Rattle.tcp_block.specs.Offers.{payload_of}
use Rattle.tcp_refinement.specs.Tie.{Past, segment_of}

-- A segment that a host made, for one of its sockets or a reset of its own: the addresses, the header as it is written, and the bytes.
pub record Made : Type 0 where
  pub from : IpAddress
  pub to : IpAddress
  pub header : TcpHeader
  pub bytes : List ℕ

abbrev pub made_of : (from to : IpAddress) → TcpHeader → List ℕ → Made
made_of from to header bytes = record { from = from; to = to; header = header; bytes = bytes }

abbrev pub source_port : Made → ℕ
source_port x = x.header.src_port

abbrev pub destination_port : Made → ℕ
destination_port x = x.header.dst_port

-- what the machine sees of it
abbrev pub seen_of : Made → Segment
seen_of x = segment_of x.header x.bytes

-- of all that the host made, oldest first, what went from this port
abbrev pub sent_from : ℕ → List Made → List Segment
sent_from port [] = []
sent_from port (x ∷ more) = if source_port x == port then seen_of x ∷ sent_from port more else sent_from port more

-- what was seen of a socket at this port of the host
abbrev pub past_at : ℕ → List Made → Past → Past
past_at port made p = record p { sent = sent_from port made }

abbrev pub IsAmong : List Made → Made → Type 0
IsAmong made x = (k : ℕ) × (slice_get made k ≡ Some x)

-- A segment may come: one that was made between these addresses is read as this header and these bytes. A reader has the header's normal
-- form, in which a scale ends at 14 (RFC 7323, section 2.3).
pub record MayCome (made : List Made) (from to : IpAddress) (header : TcpHeader) (bytes : List ℕ) : Type 0 where
  pub written : TcpHeader
  pub among : IsAmong made (made_of from to written bytes)
  pub read : header ≡ normal written

-- A segment that comes is seen as one that was made: its ports, its numbers and its bytes, whatever else of it a network rewrites.
pub record IsSeenAmong (made : List Made) (header : TcpHeader) (bytes : List ℕ) : Type 0 where
  pub segment : Made
  pub among : IsAmong made segment
  pub source : source_port segment ≡ header.src_port
  pub destination : destination_port segment ≡ header.dst_port
  pub seen : seen_of segment ≡ segment_of header bytes

-- what answers a segment was made
abbrev pub made_by : Reply → Made
made_by reply = made_of (source_of reply.header) (destination_of reply.header) reply.segment []

abbrev pub and_answer : List Made → Option Reply → List Made
and_answer made None = made
and_answer made (Some reply) = made ++ made_by reply ∷ []

-- what a socket offered and left from this address, with its part of the send queue
abbrev pub and_offer : List Made → IpAddress → Option OpenOffer → List ℕ → List Made
and_offer made from None queue = made
and_offer made from (Some o) queue = made ++ made_of from (destination_of o.header) o.segment (payload_of o o.kind queue) ∷ []
