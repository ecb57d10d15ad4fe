-- User datagrams (RFC 768): source port, destination port, length and checksum, of two bytes each, then
-- the payload, which ends where the length says. What lies after it is padding.
use Rattle.std.specs.Prelude.{◌≡◌, ◌≢◌, ℕ, ◌+◌, ◌<◌, ◌≤◌, ◌^◌, ◌==◌, Bool, IsTrue, ◌⊎◌, if◌then◌else◌, List, ◌++◌, length, take, slice_range}
use Rattle.std.specs.Int.{w16, to_be_bytes}
use Rattle.std.specs.Borrow.{GName}
use Rattle.wire_address.specs.Address.{version_of}
use Rattle.wire_address.specs.Fields.{be16, put16}
use Rattle.wire_address.specs.Sum.{ChecksumHolds, complement}
use Rattle.wire_address.specs.declared.ip.IpAddress.{IpAddress}
use Rattle.wire_address.specs.declared.ip.IpAddress.TheVariants as Ip
use Rattle.wire_address.specs.Pseudo.{covered}
use Rattle.wire_ip.specs.declared.udp.packet.UdpPacket.{UdpPacket}
use Rattle.wire_ip.specs.declared.udp.packet_mut.UdpPacketMut.{UdpPacketMut}
use Rattle.wire_ip.specs.declared.udp.repr.UdpRepr.{UdpRepr}

-- the bytes that a view reads
abbrev pub bytes_of : UdpPacket → List ℕ
bytes_of view = view.buffer.now

-- the bytes that a writing view holds
abbrev pub bytes_in : UdpPacketMut → List ℕ
bytes_in view = view.buffer.now

-- which buffer it is that a writing view holds
abbrev pub name_of : UdpPacketMut → GName
name_of view = view.buffer.ghost_name

-- the header is there, and the length field covers it and no more than there is
pub record IsWhole (bytes : List ℕ) : Type 0 where
  pub header : 8 ≤ length bytes
  pub least : 8 ≤ be16 bytes 4
  pub within : be16 bytes 4 ≤ length bytes

-- the datagram without its padding
abbrev pub datagram_of : List ℕ → List ℕ
datagram_of bytes = take (be16 bytes 4) bytes

-- what the datagram carries
abbrev pub payload_of : List ℕ → List ℕ
payload_of bytes = slice_range bytes 8 (be16 bytes 4)

-- what a datagram carries for the complement of its sum: ffff in place of 0, which would mean no checksum (RFC 768)
abbrev pub nonzero_complement : ℕ → ℕ
nonzero_complement sum = if complement sum == 0 then 65535 else complement sum

-- over IPv4 a checksum of 0 means that there is none (RFC 768); over IPv6 there is always one (RFC 8200,
-- section 8.1)
abbrev pub HasNoChecksum : IpAddress → List ℕ → Type 0
HasNoChecksum (Ip.Ipv4 source) bytes = be16 bytes 6 ≡ 0
HasNoChecksum (Ip.Ipv6 source) bytes = ⊥

-- the checksum, if there is one, holds
abbrev pub IsChecked : IpAddress → IpAddress → List ℕ → Type 0
IsChecked source destination bytes =
    HasNoChecksum source bytes ⊎ ChecksumHolds (covered source destination 17 (datagram_of bytes))

-- the bytes are a datagram with these ports, and padding
pub record IsUdp (source destination : IpAddress) (tested : Bool) (bytes : List ℕ) (v : UdpRepr) : Type 0 where
  pub whole : IsWhole bytes
  pub checked : IsTrue tested → IsChecked source destination bytes
  pub source_port : v.src_port ≡ be16 bytes 0
  pub destination_port : v.dst_port ≡ be16 bytes 2
  pub accepted : be16 bytes 2 ≢ 0

-- a datagram with these ports, payload and checksum
abbrev pub spelling : UdpRepr → List ℕ → ℕ → List ℕ
spelling v payload check =
    to_be_bytes w16 v.src_port ++ to_be_bytes w16 v.dst_port ++ to_be_bytes w16 (8 + length payload) ++ to_be_bytes w16 check ++ payload

-- what is sent: with a checksum that holds, or with none
abbrev pub written : IpAddress → IpAddress → Bool → UdpRepr → List ℕ → List ℕ
written source destination sealed v payload =
    spelling v payload (if sealed then nonzero_complement (covered source destination 17 (spelling v payload 0)) else 0)

-- the bytes with the datagram's checksum in its field
abbrev pub with_checksum : IpAddress → IpAddress → List ℕ → List ℕ
with_checksum source destination bytes =
    put16 bytes 6 (nonzero_complement (covered source destination 17 (datagram_of (put16 bytes 6 0))))

-- what can be sent: the length fits its field, and the addresses are of one family
pub record Fits (source destination : IpAddress) (payload : List ℕ) : Type 0 where
  pub len : 8 + length payload < 2 ^ 16
  pub family : version_of source ≡ version_of destination

-- the ports of a datagram that a receiver takes
pub record IsAccepted (v : UdpRepr) : Type 0 where
  pub source_port : v.src_port < 2 ^ 16
  pub destination_port : v.dst_port < 2 ^ 16
  pub nonzero : v.dst_port ≢ 0
