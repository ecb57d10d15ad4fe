-- What a frame carries, by the formats alone. Whom an Ethernet frame is for is no part of it.
use Rattle.std.specs.Prelude.{◌≡◌, ℕ, List, length, Option, Some, None}
use Rattle.net_base.specs.Capabilities.{verifies}
use Rattle.net_base.specs.ChecksumCapabilities.{ChecksumCapabilities}
use Rattle.ip_wire.specs.Arp as Arps
use Rattle.ip_wire.specs.declared.arp.repr.ArpRepr.{ArpRepr}
use Rattle.ip_wire.specs.Ethernet as Ethernet
use Rattle.ip_wire.specs.EthernetProtocol.{EthernetProtocol}
use Rattle.ip_wire.specs.EthernetProtocol.TheVariants as Ether
use Rattle.ip_wire.specs.declared.ethernet.repr.EthernetRepr.{EthernetRepr}
use Rattle.ip_wire.specs.HardwareAddress.{HardwareAddress}
use Rattle.ip_wire.specs.HardwareAddress.TheVariants as Hardware
use Rattle.ip_wire.specs.Ipv4 as Ipv4
use Rattle.ip_wire.specs.Ipv4Fragment.{Ipv4Fragment}
use Rattle.ip_wire.specs.Ipv4Repr.{Ipv4Repr}
use Rattle.ip_wire.specs.Ipv6 as Ipv6
use Rattle.ip_wire.specs.Ipv6Repr.{Ipv6Repr}
use Rattle.iface_ingress.specs.declared.incoming.Incoming.{Incoming}
use Rattle.iface_ingress.specs.declared.incoming.Incoming.TheVariants as In

-- An ARP packet, or an IP packet with its payload: of IPv4 also which fragment of its datagram it is. A link header stands
-- before it on Ethernet alone.
pub data IncomingValue : Type 0 where
  Arp : EthernetRepr → ArpRepr → IncomingValue
  Ip4 : Option EthernetRepr → Ipv4Repr → Ipv4Fragment → List ℕ → IncomingValue
  Ip6 : Option EthernetRepr → Ipv6Repr → List ℕ → IncomingValue

-- THE FORMATS

-- an IPv4 packet (RFC 791, section 3.1), which fragment it is, and its payload, which ends where the total length says
pub record IsPacketV4 (caps : ChecksumCapabilities) (bytes : List ℕ) (header : Ipv4Repr) (fragment : Ipv4Fragment) (payload : List ℕ) : Type 0 where
  pub format : Ipv4.IsIpv4 (verifies caps.ipv4) bytes header
  pub fragment_is : fragment ≡ Ipv4.fragment_of bytes
  pub payload_is : payload ≡ Ipv4.payload_of bytes

-- an IPv6 packet (RFC 8200, section 3), and its payload, which ends where the payload length says
pub record IsPacketV6 (bytes : List ℕ) (header : Ipv6Repr) (payload : List ℕ) : Type 0 where
  pub format : Ipv6.IsIpv6 bytes header
  pub payload_is : payload ≡ Ipv6.payload_of bytes

-- an Ethernet frame whose header says that it carries this (RFC 894; RFC 826; RFC 2464)
pub record IsFramed (frame : List ℕ) (link : EthernetRepr) (carried : EthernetProtocol) : Type 0 where
  pub format : Ethernet.IsEthernet frame link
  pub carried_is : link.ethertype ≡ carried

-- BOTH MEDIA

-- on Ethernet the link header says what stands after it
abbrev pub OnEthernet : ChecksumCapabilities → List ℕ → IncomingValue → Type 0
OnEthernet caps frame (Arp link packet) = IsFramed frame link Ether.Arp × Arps.IsArp (Ethernet.payload_of frame) packet
OnEthernet caps frame (Ip4 (Some link) header fragment payload) =
    IsFramed frame link Ether.Ipv4 × IsPacketV4 caps (Ethernet.payload_of frame) header fragment payload
OnEthernet caps frame (Ip4 None header fragment payload) = ⊥
OnEthernet caps frame (Ip6 (Some link) header payload) = IsFramed frame link Ether.Ipv6 × IsPacketV6 (Ethernet.payload_of frame) header payload
OnEthernet caps frame (Ip6 None header payload) = ⊥

-- on a medium of bare packets a packet's first four bits say its version
abbrev pub Bare : ChecksumCapabilities → List ℕ → IncomingValue → Type 0
Bare caps frame (Arp link packet) = ⊥
Bare caps frame (Ip4 (Some link) header fragment payload) = ⊥
Bare caps frame (Ip4 None header fragment payload) = IsPacketV4 caps frame header fragment payload
Bare caps frame (Ip6 (Some link) header payload) = ⊥
Bare caps frame (Ip6 None header payload) = IsPacketV6 frame header payload

-- the frame carries this to a host whose medium has such addresses
abbrev pub IsIncoming : HardwareAddress → ChecksumCapabilities → List ℕ → IncomingValue → Type 0
IsIncoming (Hardware.Ethernet local) caps frame v = OnEthernet caps frame v
IsIncoming Hardware.Ip caps frame v = Bare caps frame v

-- the one value of which this holds, or none where it holds of none
abbrev pub IsOnly : {A : Type 0} → (A → Type 0) → Option A → Type 0
IsOnly P (Some v) = P v
IsOnly {A} P None = (v : A) → P v → ⊥

-- the content of a frame
abbrev pub IsContent : HardwareAddress → ChecksumCapabilities → List ℕ → Option IncomingValue → Type 0
IsContent hardware caps frame content = IsOnly (IsIncoming hardware caps frame) content

-- WHAT WAS READ

abbrev pub incoming_value : Incoming → IncomingValue
incoming_value (In.Arp link packet) = Arp link packet
incoming_value (In.Ipv4 link header fragment payload) = Ip4 link header fragment payload.now
incoming_value (In.Ipv6 link header payload) = Ip6 link header payload.now

abbrev pub content_of : Option Incoming → Option IncomingValue
content_of None = None
content_of (Some incoming) = Some (incoming_value incoming)

-- a payload is as long as its header says, whose lengths fit their fields
abbrev pub IsMeasured : IncomingValue → Type 0
IsMeasured (Arp link packet) = Unit {0}
IsMeasured (Ip4 link header fragment payload) = (length payload ≡ header.payload_len) × Ipv4.Fits header
IsMeasured (Ip6 link header payload) = (length payload ≡ header.payload_len) × Ipv6.Fits header

abbrev pub AreMeasured : Option IncomingValue → Type 0
AreMeasured None = Unit {0}
AreMeasured (Some v) = IsMeasured v

-- EACH READER, after a link header that was read or without one

abbrev pub IsArpFollowing : EthernetRepr → List ℕ → IncomingValue → Type 0
IsArpFollowing link bytes (Arp before packet) = (before ≡ link) × Arps.IsArp bytes packet
IsArpFollowing link bytes _ = ⊥

abbrev pub IsV4Following : ChecksumCapabilities → Option EthernetRepr → List ℕ → IncomingValue → Type 0
IsV4Following caps link bytes (Ip4 before header fragment payload) = (before ≡ link) × IsPacketV4 caps bytes header fragment payload
IsV4Following caps link bytes _ = ⊥

abbrev pub IsV6Following : Option EthernetRepr → List ℕ → IncomingValue → Type 0
IsV6Following link bytes (Ip6 before header payload) = (before ≡ link) × IsPacketV6 bytes header payload
IsV6Following link bytes _ = ⊥
