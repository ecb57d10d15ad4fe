-- ARP packets (RFC 826): the kinds and lengths of both sorts of addresses, the operation, and the two
-- addresses of the sender and of the target.
use Rattle.std.specs.Prelude.{◌≡◌, ℕ, ◌+◌, ◌<◌, ◌≤◌, ◌^◌, ◌==◌, if◌then◌else◌, List, ◌∷◌, ◌++◌, length, slice_index, slice_range}
use Rattle.std.specs.Int.{w16, to_be_bytes}
use Rattle.std.specs.Borrow.{GName}
use Rattle.wire_address.specs.Address.{IsEthernetAddress, IsIpv4Address}
use Rattle.wire_address.specs.Fields.{be16}
use Rattle.wire_address.specs.declared.ethernet.EthernetAddress.{EthernetAddress}
use Rattle.wire_address.specs.declared.ipv4.Ipv4Address.{Ipv4Address}
use Rattle.ip_wire.specs.declared.arp.kinds.ArpHardware.{ArpHardware}
use Rattle.ip_wire.specs.declared.arp.kinds.ArpHardware.TheVariants as Hardware
use Rattle.ip_wire.specs.declared.arp.kinds.ArpOperation.{ArpOperation}
use Rattle.ip_wire.specs.declared.arp.kinds.ArpOperation.TheVariants as Operation
use Rattle.ip_wire.specs.declared.arp.packet.ArpPacket.{ArpPacket}
use Rattle.ip_wire.specs.declared.arp.packet_mut.ArpPacketMut.{ArpPacketMut}
use Rattle.ip_wire.specs.declared.arp.repr.ArpRepr.{ArpRepr}
use Rattle.ip_wire.specs.declared.arp.repr.ArpRepr.TheVariants as Arp

-- the number of a kind of hardware addresses
abbrev pub hardware_number : ArpHardware → ℕ
hardware_number Hardware.Ethernet = 1
hardware_number (Hardware.Unknown n) = n

-- the kind of hardware addresses of this number
abbrev pub hardware_of : ℕ → ArpHardware
hardware_of n = if n == 1 then Hardware.Ethernet else Hardware.Unknown n

-- the number of an operation
abbrev pub operation_number : ArpOperation → ℕ
operation_number Operation.Request = 1
operation_number Operation.Reply = 2
operation_number (Operation.Unknown n) = n

-- the operation of this number
abbrev pub operation_of : ℕ → ArpOperation
operation_of n = if n == 1 then Operation.Request else if n == 2 then Operation.Reply else Operation.Unknown n

-- the bytes that a view reads
abbrev pub bytes_of : ArpPacket → List ℕ
bytes_of view = view.buffer.now

-- the bytes that a writing view holds
abbrev pub bytes_in : ArpPacketMut → List ℕ
bytes_in view = view.buffer.now

-- which buffer it is that a writing view holds
abbrev pub name_of : ArpPacketMut → GName
name_of view = view.buffer.ghost_name

-- where the addresses begin: the sender's protocol address, the target's hardware address, the target's
-- protocol address, and where they end
abbrev pub source_protocol_at : List ℕ → ℕ
source_protocol_at bytes = 8 + slice_index bytes 4

abbrev pub target_hardware_at : List ℕ → ℕ
target_hardware_at bytes = source_protocol_at bytes + slice_index bytes 5

abbrev pub target_protocol_at : List ℕ → ℕ
target_protocol_at bytes = target_hardware_at bytes + slice_index bytes 4

abbrev pub packet_end : List ℕ → ℕ
packet_end bytes = target_protocol_at bytes + slice_index bytes 5

-- the header is there, and the four addresses of the lengths that it gives
pub record IsWhole (bytes : List ℕ) : Type 0 where
  pub header : 8 ≤ length bytes
  pub within : packet_end bytes ≤ length bytes

-- the bytes begin with a packet over Ethernet for IPv4, with these fields
pub record IsEthernetIpv4 (bytes : List ℕ) (operation : ArpOperation) (source_hardware : EthernetAddress) (source_protocol : Ipv4Address)
    (target_hardware : EthernetAddress) (target_protocol : Ipv4Address) : Type 0 where
  pub room : 28 ≤ length bytes
  pub hardware_kind : be16 bytes 0 ≡ 1
  pub protocol_kind : be16 bytes 2 ≡ 0x0800
  pub hardware_len : slice_index bytes 4 ≡ 6
  pub protocol_len : slice_index bytes 5 ≡ 4
  pub operation_is : operation ≡ operation_of (be16 bytes 6)
  pub source_hardware_is : source_hardware.0 ≡ slice_range bytes 8 14
  pub source_protocol_is : source_protocol.0 ≡ slice_range bytes 14 18
  pub target_hardware_is : target_hardware.0 ≡ slice_range bytes 18 24
  pub target_protocol_is : target_protocol.0 ≡ slice_range bytes 24 28

-- the bytes begin with this packet
abbrev pub IsArp : List ℕ → ArpRepr → Type 0
IsArp bytes (Arp.EthernetIpv4 operation source_hardware source_protocol target_hardware target_protocol) =
    IsEthernetIpv4 bytes operation source_hardware source_protocol target_hardware target_protocol

-- the packet with this value
abbrev pub written : ArpRepr → List ℕ
written (Arp.EthernetIpv4 operation source_hardware source_protocol target_hardware target_protocol) =
    0 ∷ 1 ∷ 8 ∷ 0 ∷ 6 ∷ 4 ∷ (to_be_bytes w16 (operation_number operation) ++
    (source_hardware.0 ++ (source_protocol.0 ++ (target_hardware.0 ++ target_protocol.0))))

-- each field is a number of its width
abbrev pub IsValue : ArpRepr → Type 0
IsValue (Arp.EthernetIpv4 operation source_hardware source_protocol target_hardware target_protocol) =
    (operation_number operation < 2 ^ 16)
    × IsEthernetAddress source_hardware
    × IsIpv4Address source_protocol
    × IsEthernetAddress target_hardware
    × IsIpv4Address target_protocol

-- what a reader makes of a value that was sent: an operation by its number is that operation
abbrev pub normal : ArpRepr → ArpRepr
normal (Arp.EthernetIpv4 operation source_hardware source_protocol target_hardware target_protocol) =
    Arp.EthernetIpv4 (operation_of (operation_number operation)) source_hardware source_protocol target_hardware target_protocol
