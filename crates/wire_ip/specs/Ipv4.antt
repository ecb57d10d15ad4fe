-- IPv4 packets (RFC 791, section 3.1): version and header length in units of four bytes, services, total
-- length, identification, flags and offset in units of eight bytes, time to live, protocol, checksum, the
-- addresses and options; then the payload, which ends where the total length says. What lies after it is
-- padding.
use Rattle.std.specs.Prelude.{◌≡◌, ℕ, ◌+◌, ◌-◌, ◌*◌, ◌/◌, ◌%◌, ◌<◌, ◌≤◌, ◌^◌, Bool, false, IsTrue, if◌then◌else◌, List, [], ◌∷◌, ◌++◌, length, take}
use Rattle.std.specs.Prelude.{slice_index, slice_range}
use Rattle.std.specs.Int.{w16, to_be_bytes}
use Rattle.std.specs.Borrow.{GName}
use Rattle.wire_address.specs.Address.{IsIpv4Address}
use Rattle.wire_address.specs.Fields.{be16, put16}
use Rattle.wire_address.specs.Protocol.{protocol_number, protocol_of}
use Rattle.wire_address.specs.Sum.{word_sum, ChecksumHolds, complement}
use Rattle.wire_address.specs.declared.ipv4.Ipv4FragKey.{Ipv4FragKey}
use Rattle.wire_ip.specs.Parts.{has_flag}
use Rattle.wire_ip.specs.declared.ipv4.packet.Ipv4Packet.{Ipv4Packet}
use Rattle.wire_ip.specs.declared.ipv4.packet_mut.Ipv4PacketMut.{Ipv4PacketMut}
use Rattle.wire_ip.specs.declared.ipv4.fragment.Ipv4Fragment.{Ipv4Fragment}
use Rattle.wire_ip.specs.declared.ipv4.repr.Ipv4Repr.{Ipv4Repr}

-- the bytes that a view reads
abbrev pub bytes_of : Ipv4Packet → List ℕ
bytes_of view = view.buffer.now

-- the bytes that a writing view holds
abbrev pub bytes_in : Ipv4PacketMut → List ℕ
bytes_in view = view.buffer.now

-- which buffer it is that a writing view holds
abbrev pub name_of : Ipv4PacketMut → GName
name_of view = view.buffer.ghost_name

-- the length of the header with its options
abbrev pub header_len_of : List ℕ → ℕ
header_len_of bytes = 4 * (slice_index bytes 0 % 16)

-- the header with its options
abbrev pub header_of : List ℕ → List ℕ
header_of bytes = take (header_len_of bytes) bytes

-- what the packet carries
abbrev pub payload_of : List ℕ → List ℕ
payload_of bytes = slice_range bytes (header_len_of bytes) (be16 bytes 2)

-- the header is there, the total length covers it, and no more than there is
pub record IsWhole (bytes : List ℕ) : Type 0 where
  pub room : 20 ≤ length bytes
  pub header : 20 ≤ header_len_of bytes
  pub least : header_len_of bytes ≤ be16 bytes 2
  pub within : be16 bytes 2 ≤ length bytes

-- the header's checksum holds
abbrev pub IsChecked : List ℕ → Type 0
IsChecked bytes = ChecksumHolds (word_sum (header_of bytes))

-- the bytes are a packet with this header, and padding
pub record IsIpv4 (tested : Bool) (bytes : List ℕ) (v : Ipv4Repr) : Type 0 where
  pub whole : IsWhole bytes
  pub version : slice_index bytes 0 / 16 ≡ 4
  pub checked : IsTrue tested → IsChecked bytes
  pub identification : v.ident ≡ be16 bytes 4
  pub dont_frag : v.dont_frag ≡ has_flag (slice_index bytes 6) 64
  pub source : v.src_addr.0 ≡ slice_range bytes 12 16
  pub destination : v.dst_addr.0 ≡ slice_range bytes 16 20
  pub protocol : v.next_header ≡ protocol_of (slice_index bytes 9)
  pub payload : header_len_of bytes + v.payload_len ≡ be16 bytes 2
  pub hop_limit : v.hop_limit ≡ slice_index bytes 8

-- the bytes begin with a header of this length, as an error message quotes it (RFC 792): what it says of
-- the whole packet isn't tested, and a total length below the header's leaves no payload
pub record IsQuoted (bytes : List ℕ) (v : Ipv4Repr) (header_len : ℕ) : Type 0 where
  pub room : 20 ≤ length bytes
  pub version : slice_index bytes 0 / 16 ≡ 4
  pub header : header_len ≡ header_len_of bytes
  pub least : 20 ≤ header_len
  pub within : header_len ≤ length bytes
  pub identification : v.ident ≡ be16 bytes 4
  pub dont_frag : v.dont_frag ≡ has_flag (slice_index bytes 6) 64
  pub source : v.src_addr.0 ≡ slice_range bytes 12 16
  pub destination : v.dst_addr.0 ≡ slice_range bytes 16 20
  pub protocol : v.next_header ≡ protocol_of (slice_index bytes 9)
  pub payload : v.payload_len ≡ be16 bytes 2 - header_len
  pub hop_limit : v.hop_limit ≡ slice_index bytes 8

-- what the fragments of one datagram have in common (RFC 791, section 3.2)
pub record IsKeyOf (bytes : List ℕ) (key : Ipv4FragKey) : Type 0 where
  pub identification : key.id ≡ be16 bytes 4
  pub source : key.src_addr.0 ≡ slice_range bytes 12 16
  pub destination : key.dst_addr.0 ≡ slice_range bytes 16 20
  pub protocol : key.protocol ≡ protocol_of (slice_index bytes 9)

-- what the fragments of a datagram with this header have in common
abbrev pub key_of : Ipv4Repr → Ipv4FragKey
key_of v = record { id = v.ident; src_addr = v.src_addr; dst_addr = v.dst_addr; protocol = v.next_header }

-- which fragment of its datagram the packet is: at this offset in bytes, and whether more fragments follow
abbrev pub fragment_of : List ℕ → Ipv4Fragment
fragment_of bytes = record { offset = 8 * (be16 bytes 6 % 2 ^ 13); more = has_flag (slice_index bytes 6) 32 }

-- the field of the flags, reserved, don't-fragment and more-fragments, and of the offset in units of eight bytes
abbrev pub flags_and_offset : Bool → Bool → Ipv4Fragment → ℕ
flags_and_offset reserved dont_frag fragment = (if reserved then 2 ^ 15 else 0) + (if dont_frag then 2 ^ 14 else 0) + (if fragment.more then 2 ^ 13 else 0) +
    fragment.offset / 8

-- what a header has alongside its value
pub record Free : Type 0 where
  pub services : ℕ
  pub reserved : Bool
  pub fragment : Ipv4Fragment
  pub checksum : ℕ
  pub options : List ℕ

-- these fields of a packet
abbrev pub free_fields : List ℕ → Free
free_fields bytes = record {
  services = slice_index bytes 1;
  reserved = has_flag (slice_index bytes 6) 128;
  fragment = fragment_of bytes;
  checksum = be16 bytes 10;
  options = slice_range bytes 20 (header_len_of bytes);
}

-- these fields as they are sent: which fragment it is, the checksum, and else zeros
abbrev pub sent_fields : Ipv4Fragment → ℕ → Free
sent_fields fragment check = record { services = 0; reserved = false; fragment = fragment; checksum = check; options = [] }

-- a header with this value
abbrev pub spelling : Ipv4Repr → Free → List ℕ
spelling v free =
    (64 + (20 + length free.options) / 4) ∷ free.services ∷
    (to_be_bytes w16 (20 + length free.options + v.payload_len) ++
    (to_be_bytes w16 v.ident ++
    (to_be_bytes w16 (flags_and_offset free.reserved v.dont_frag free.fragment) ++ v.hop_limit ∷ protocol_number v.next_header ∷
    (to_be_bytes w16 free.checksum ++ (v.src_addr.0 ++ (v.dst_addr.0 ++ free.options))))))

-- the header of a fragment that is sent: with a checksum that holds, or with 0
abbrev pub written_as : Bool → Ipv4Repr → Ipv4Fragment → List ℕ
written_as sealed v fragment = spelling v (sent_fields fragment (if sealed then complement (word_sum (spelling v (sent_fields fragment 0))) else 0))

-- the header of the fragment at this offset in bytes, that more fragments follow or not
abbrev pub written_fragment : Bool → Ipv4Repr → ℕ → Bool → List ℕ
written_fragment sealed v offset more = written_as sealed v (record { offset = offset; more = more })

-- the header that is sent of a datagram that nobody cut
abbrev pub written : Bool → Ipv4Repr → List ℕ
written sealed v = written_fragment sealed v 0 false

-- the bytes with the header's checksum in its field
abbrev pub with_checksum : List ℕ → List ℕ
with_checksum bytes = put16 bytes 10 (complement (word_sum (header_of (put16 bytes 10 0))))

-- what can be sent: the total length fits its field
abbrev pub Fits : Ipv4Repr → Type 0
Fits v = 20 + v.payload_len < 2 ^ 16

-- each field is a number of its width
pub record IsValue (v : Ipv4Repr) : Type 0 where
  pub source : IsIpv4Address v.src_addr
  pub destination : IsIpv4Address v.dst_addr
  pub identification : v.ident < 2 ^ 16
  pub protocol : protocol_number v.next_header < 256
  pub hop_limit : v.hop_limit < 256

-- what a reader makes of a value that was sent: a protocol by its number is that protocol
abbrev pub normal : Ipv4Repr → Ipv4Repr
normal v = record v { next_header = protocol_of (protocol_number v.next_header) }
