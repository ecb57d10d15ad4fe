-- Ethernet II frames (RFC 894): destination, source and the number of what is carried; then the payload
-- and padding, which nothing here tells apart.
use Rattle.std.specs.Prelude.{◌≡◌, ℕ, ◌<◌, ◌≤◌, ◌^◌, List, ◌++◌, length, drop, slice_range}
use Rattle.std.specs.Int.{w16, to_be_bytes}
use Rattle.std.specs.Borrow.{GName}
use Rattle.wire_address.specs.Address.{IsEthernetAddress}
use Rattle.wire_address.specs.Fields.{be16}
use Rattle.wire_address.specs.Protocol.{ether_number, ether_of}
use Rattle.ip_wire.specs.declared.ethernet.packet.EthernetFrame.{EthernetFrame}
use Rattle.ip_wire.specs.declared.ethernet.packet_mut.EthernetFrameMut.{EthernetFrameMut}
use Rattle.ip_wire.specs.declared.ethernet.repr.EthernetRepr.{EthernetRepr}

-- the bytes that a view reads
abbrev pub bytes_of : EthernetFrame → List ℕ
bytes_of view = view.buffer.now

-- the bytes that a writing view holds
abbrev pub bytes_in : EthernetFrameMut → List ℕ
bytes_in view = view.buffer.now

-- which buffer it is that a writing view holds
abbrev pub name_of : EthernetFrameMut → GName
name_of view = view.buffer.ghost_name

-- what the frame carries, and padding
abbrev pub payload_of : List ℕ → List ℕ
payload_of bytes = drop 14 bytes

-- the header is there
pub record IsWhole (bytes : List ℕ) : Type 0 where
  pub header : 14 ≤ length bytes

-- the bytes are a frame with this header
pub record IsEthernet (bytes : List ℕ) (v : EthernetRepr) : Type 0 where
  pub whole : IsWhole bytes
  pub destination : v.dst_addr.0 ≡ slice_range bytes 0 6
  pub source : v.src_addr.0 ≡ slice_range bytes 6 12
  pub carried : v.ethertype ≡ ether_of (be16 bytes 12)

-- the header with this value
abbrev pub written : EthernetRepr → List ℕ
written v = v.dst_addr.0 ++ (v.src_addr.0 ++ to_be_bytes w16 (ether_number v.ethertype))

-- each field is a number of its width
pub record IsValue (v : EthernetRepr) : Type 0 where
  pub source : IsEthernetAddress v.src_addr
  pub destination : IsEthernetAddress v.dst_addr
  pub carried : ether_number v.ethertype < 2 ^ 16

-- what a reader makes of a value that was sent: a protocol by its number is that protocol
abbrev pub normal : EthernetRepr → EthernetRepr
normal v = record v { ethertype = ether_of (ether_number v.ethertype) }
