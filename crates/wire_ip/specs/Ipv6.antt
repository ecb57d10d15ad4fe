-- IPv6 packets (RFC 8200, section 3): version, traffic class and flow label in four bytes, payload length,
-- next header, hop limit and the addresses; then the payload, which ends where the length says. What lies
-- after it is padding.
use Rattle.std.specs.Prelude.{◌≡◌, ℕ, ◌+◌, ◌*◌, ◌/◌, ◌%◌, ◌<◌, ◌≤◌, ◌^◌, List, ◌∷◌, ◌++◌, length, slice_index, slice_range}
use Rattle.std.specs.Int.{w16, w32, to_be_bytes}
use Rattle.std.specs.Borrow.{GName}
use Rattle.wire_address.specs.Address.{IsIpv6Address}
use Rattle.wire_address.specs.Fields.{be16, be32}
use Rattle.wire_address.specs.Protocol.{protocol_number, protocol_of}
use Rattle.wire_ip.specs.declared.ipv6.packet.Ipv6Packet.{Ipv6Packet}
use Rattle.wire_ip.specs.declared.ipv6.packet_mut.Ipv6PacketMut.{Ipv6PacketMut}
use Rattle.wire_ip.specs.declared.ipv6.repr.Ipv6Repr.{Ipv6Repr}

-- the bytes that a view reads
abbrev pub bytes_of : Ipv6Packet → List ℕ
bytes_of view = view.buffer.now

-- the bytes that a writing view holds
abbrev pub bytes_in : Ipv6PacketMut → List ℕ
bytes_in view = view.buffer.now

-- which buffer it is that a writing view holds
abbrev pub name_of : Ipv6PacketMut → GName
name_of view = view.buffer.ghost_name

-- what the packet carries
abbrev pub payload_of : List ℕ → List ℕ
payload_of bytes = slice_range bytes 40 (40 + be16 bytes 4)

-- the header is there, and the payload that its length names
pub record IsWhole (bytes : List ℕ) : Type 0 where
  pub room : 40 ≤ length bytes
  pub within : 40 + be16 bytes 4 ≤ length bytes

-- the bytes are a packet with this header, and padding
pub record IsIpv6 (bytes : List ℕ) (v : Ipv6Repr) : Type 0 where
  pub whole : IsWhole bytes
  pub version : slice_index bytes 0 / 16 ≡ 6
  pub source : v.src_addr.0 ≡ slice_range bytes 8 24
  pub destination : v.dst_addr.0 ≡ slice_range bytes 24 40
  pub protocol : v.next_header ≡ protocol_of (slice_index bytes 6)
  pub payload : v.payload_len ≡ be16 bytes 4
  pub hop_limit : v.hop_limit ≡ slice_index bytes 7

-- the bytes begin with a header of this length, as an error message quotes it (RFC 4443, section 2.4): the
-- payload need not be there
pub record IsQuoted (bytes : List ℕ) (v : Ipv6Repr) (header_len : ℕ) : Type 0 where
  pub room : 40 ≤ length bytes
  pub version : slice_index bytes 0 / 16 ≡ 6
  pub header : header_len ≡ 40
  pub source : v.src_addr.0 ≡ slice_range bytes 8 24
  pub destination : v.dst_addr.0 ≡ slice_range bytes 24 40
  pub protocol : v.next_header ≡ protocol_of (slice_index bytes 6)
  pub payload : v.payload_len ≡ be16 bytes 4
  pub hop_limit : v.hop_limit ≡ slice_index bytes 7

-- traffic class and flow label, which a value doesn't keep
abbrev pub class_and_flow : List ℕ → ℕ
class_and_flow bytes = be32 bytes 0 % 2 ^ 28

-- a header with this value
abbrev pub spelling : Ipv6Repr → ℕ → List ℕ
spelling v free =
    to_be_bytes w32 (6 * 2 ^ 28 + free) ++ (to_be_bytes w16 v.payload_len ++ protocol_number v.next_header ∷ v.hop_limit ∷ (v.src_addr.0 ++ v.dst_addr.0))

-- the header that is sent: class and flow are 0
abbrev pub written : Ipv6Repr → List ℕ
written v = spelling v 0

-- what can be sent: the payload's length fits its field
abbrev pub Fits : Ipv6Repr → Type 0
Fits v = v.payload_len < 2 ^ 16

-- each field is a number of its width
pub record IsValue (v : Ipv6Repr) : Type 0 where
  pub source : IsIpv6Address v.src_addr
  pub destination : IsIpv6Address v.dst_addr
  pub protocol : protocol_number v.next_header < 256
  pub hop_limit : v.hop_limit < 256

-- what a reader makes of a value that was sent: a protocol by its number is that protocol
abbrev pub normal : Ipv6Repr → Ipv6Repr
normal v = record v { next_header = protocol_of (protocol_number v.next_header) }
