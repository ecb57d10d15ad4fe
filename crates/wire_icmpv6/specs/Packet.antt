-- What stands in each ICMPv6 message: type and code, of one byte each, a checksum of two bytes, and the rest,
-- which the type decides (RFC 4443, section 2.1).
use Rattle.std.specs.Prelude.{ℕ, ◌+◌, ◌≤◌, List, length, drop, slice_index}
use Rattle.std.specs.Borrow.{GName}
use Rattle.wire_address.specs.Fields.{put16}
use Rattle.wire_address.specs.Pseudo.{pseudo_v6}
use Rattle.wire_address.specs.Sum.{word_sum, ChecksumHolds, complement}
use Rattle.wire_address.specs.declared.ipv6.Ipv6Address.{Ipv6Address}
use Rattle.wire_icmpv6.specs.Message.{message_of, header_len_of, IsKnown}
use Rattle.wire_icmpv6.specs.declared.message.Icmpv6Message.{Icmpv6Message}
use Rattle.wire_icmpv6.specs.declared.packet.Icmpv6Packet.{Icmpv6Packet}
use Rattle.wire_icmpv6.specs.declared.packet_mut.Icmpv6PacketMut.{Icmpv6PacketMut}

-- the bytes that a view reads
abbrev pub bytes_of : Icmpv6Packet → List ℕ
bytes_of view = view.buffer.now

-- the bytes that a writing view holds
abbrev pub bytes_in : Icmpv6PacketMut → List ℕ
bytes_in view = view.buffer.now

-- which buffer it is that a writing view holds
abbrev pub name_of : Icmpv6PacketMut → GName
name_of view = view.buffer.ghost_name

-- what the message is for
abbrev pub type_of : List ℕ → Icmpv6Message
type_of bytes = message_of (slice_index bytes 0)

-- the type is a known one, and its header is there
pub record IsWhole (bytes : List ℕ) : Type 0 where
  pub front : 4 ≤ length bytes
  pub known : IsKnown (type_of bytes)
  pub header : header_len_of (type_of bytes) ≤ length bytes

-- what stands after the header
abbrev pub payload_of : List ℕ → List ℕ
payload_of bytes = drop (header_len_of (type_of bytes)) bytes

-- the word sum of the pseudo header, of protocol 58, and the message (RFC 4443, section 2.3)
abbrev pub covered : Ipv6Address → Ipv6Address → List ℕ → ℕ
covered source destination bytes = word_sum (pseudo_v6 source.0 destination.0 58 (length bytes)) + word_sum bytes

-- the checksum holds
abbrev pub IsChecked : Ipv6Address → Ipv6Address → List ℕ → Type 0
IsChecked source destination bytes = ChecksumHolds (covered source destination bytes)

-- the complement of the sum of a message whose checksum field holds 0
abbrev pub checksum_of : Ipv6Address → Ipv6Address → List ℕ → ℕ
checksum_of source destination bytes = complement (covered source destination bytes)

-- the bytes with the message's checksum in its field
abbrev pub with_checksum : Ipv6Address → Ipv6Address → List ℕ → List ℕ
with_checksum source destination bytes = put16 bytes 2 (checksum_of source destination (put16 bytes 2 0))
