-- The frames that a host sends, and those that the link makes of them.
use Rattle.std.specs.Prelude.{◌≡◌, ◌⊎◌, ◌%◌, ◌^◌, ◌+◌, ◌<◌, ◌≤◌, ℕ, true, false, List, [], ◌∷◌, ◌++◌, length, Option, Some}
use Rattle.std.specs.Int.{w32, to_be_bytes}
use Rattle.sim_link.specs.Medium.{Medium}
use Rattle.wire_address.specs.Protocol.{protocol_number}
use Rattle.wire_address.specs.declared.ipv4.Ipv4FragKey.{Ipv4FragKey}
use Rattle.iface_ingress.specs.HardwareAddress.{HardwareAddress}
use Rattle.iface_ingress.specs.HardwareAddress.TheVariants as Hardware
use Rattle.iface_ingress.specs.IpProtocol.{IpProtocol}
use Rattle.interface.specs.IpRepr.{IpRepr}
use Rattle.interface.specs.IpRepr.TheVariants as Ip
use Rattle.interface.specs.Ipv4 as Ipv4
use Rattle.interface.specs.Ip as Ips
use Rattle.interface.specs.Ipv4Repr.{Ipv4Repr}
use Rattle.interface.specs.Ipv6 as Ipv6
use Rattle.interface.specs.Ipv6Repr.{Ipv6Repr}
use Rattle.sockets.specs.Packet.{PacketValue}
use Rattle.iface_tables.specs.FragmentList as FragmentList
use Rattle.iface_tables.specs.declared.key.FragKey.{FragKey}
use Rattle.iface_tables.specs.declared.key.FragKey.TheVariants as Keys
use Rattle.iface_tables.specs.declared.key.Ipv6FragKey.{Ipv6FragKey}
use Rattle.iface_egress.specs.Departure.{fragment_v6, fragment_header}
use Rattle.iface_ingress.specs.Headers.{is_extension}
use Rattle.iface_ingress.specs.Incoming.{IncomingValue, Arp, Ip4, Ip6, IsIncoming}
use Rattle.iface_ingress.specs.Reassembled.{FragmentValue, part_v4, part_in}
use Rattle.sim_link.specs.Parts.{may_carry}
use Rattle.sim_link.specs.Slices.{Slice, IsSliceOf, IsLinkHeader, frame_of_slice}
use Rattle.sim_link.specs.Capabilities.{frame_header}
use Rattle.lan.specs.Worlds.Link.Made.{Makes, sealed, bytes_of, IsWholeMade, IsGoing}

-- the medium that has such addresses
abbrev pub medium_on : HardwareAddress → Medium
medium_on (Hardware.Ethernet own) = Medium.Ethernet
medium_on Hardware.Ip = Medium.Ip

-- A packet of which a host sent the first frame at least; of IPv6, which has none in its header, the identification of its fragments,
-- where it was cut
pub record Outgoing : Type 0 where
  pub packet : PacketValue
  pub cut_as : Option ℕ

-- the number that it took
abbrev pub number_by : IpRepr → Option ℕ → Option ℕ
number_by (Ip.Ipv4 v) cut_as = Some v.ident
number_by (Ip.Ipv6 v) cut_as = cut_as

abbrev pub number_of : Outgoing → Option ℕ
number_of o = number_by o.packet.header o.cut_as

-- `out` are all of a host's, the newest first
abbrev pub IsAmong : PacketValue → List Outgoing → Type 0
IsAmong p [] = ⊥
IsAmong p (o ∷ out) = (p ≡ o.packet) ⊎ IsAmong p out

-- the packet is one of them, with this number
abbrev pub IsNumbered : PacketValue → ℕ → List Outgoing → Type 0
IsNumbered p n [] = ⊥
IsNumbered p n (o ∷ out) = ((p ≡ o.packet) × (number_of o ≡ Some n)) ⊎ IsNumbered p n out

-- one of them is an IPv4 packet with this header and these bytes after it
pub record IsSentV4 (out : List Outgoing) (v : Ipv4Repr) (bytes : List ℕ) : Type 0 where
  pub packet : PacketValue
  pub among : IsAmong packet out
  pub header : packet.header ≡ Ip.Ipv4 v
  pub bytes_are : bytes ≡ bytes_of packet
  pub value : Ipv4.IsValue v
  pub short : 20 + length bytes < 2 ^ 16

pub record IsSentV6 (out : List Outgoing) (v : Ipv6Repr) (bytes : List ℕ) : Type 0 where
  pub packet : PacketValue
  pub among : IsAmong packet out
  pub header : packet.header ≡ Ip.Ipv6 v
  pub bytes_are : bytes ≡ bytes_of packet
  pub value : Ipv6.IsValue v
  pub len : v.payload_len ≡ length bytes
  pub fits : Ipv6.Fits v

-- one of them is an IPv6 packet with this header and these bytes after it, without extension headers, which was cut under this number
pub record IsCutV6 (out : List Outgoing) (v : Ipv6Repr) (number : ℕ) (bytes : List ℕ) : Type 0 where
  pub sent : IsSentV6 out v bytes
  pub numbered : IsNumbered sent.packet number out
  pub small : number < 2 ^ 32
  pub bare : is_extension (Ipv6.normal v).next_header ≡ false
  pub short : 48 + length bytes < 2 ^ 16

-- FRAMES

-- a frame of a slice of an IPv4 packet: the whole of it, a fragment that its host cut, or one that the link cut
pub record IsSlice (medium : Medium) (out : List Outgoing) (frame : List ℕ) : Type 0 where
  pub link : List ℕ
  pub header : Ipv4Repr
  pub bytes : List ℕ
  pub slice : Slice
  pub sent : IsSentV4 out header bytes
  pub is_link : IsLinkHeader medium link
  pub within : IsSliceOf bytes slice
  pub unit : slice.at % 8 ≡ 0
  pub frame_is : frame ≡ frame_of_slice link header bytes slice

-- a link header of this medium, before an IPv6 packet
pub record IsLinkHeader6 (medium : Medium) (link : List ℕ) : Type 0 where
  pub len : length link ≡ frame_header medium
  pub carries : may_carry medium 0x86dd link ≡ true

-- a frame of an IPv6 packet
pub record IsWhole6 (medium : Medium) (out : List Outgoing) (frame : List ℕ) : Type 0 where
  pub link : List ℕ
  pub header : Ipv6Repr
  pub bytes : List ℕ
  pub sent : IsSentV6 out header bytes
  pub is_link : IsLinkHeader6 medium link
  pub frame_is : frame ≡ link ++ (Ipv6.written header ++ bytes)

-- a frame of a fragment of an IPv6 packet that its host cut (RFC 8200, section 4.5)
pub record IsFragment6 (medium : Medium) (out : List Outgoing) (frame : List ℕ) : Type 0 where
  pub link : List ℕ
  pub header : Ipv6Repr
  pub number : ℕ
  pub bytes : List ℕ
  pub fragment : FragmentList.FragmentPart
  pub cut : IsCutV6 out header number bytes
  pub is_link : IsLinkHeader6 medium link
  pub within : FragmentList.IsSliceOf bytes fragment
  pub room : fragment.offset + length fragment.bytes ≤ length bytes
  pub unit : fragment.offset % 8 ≡ 0
  pub units : fragment.more ≡ true → length fragment.bytes % 8 ≡ 0
  pub frame_is : frame ≡ link ++ (Ipv6.written (fragment_v6 header fragment) ++ (fragment_header header.next_header number fragment ++ fragment.bytes))

-- DATAGRAMS as slots hold them, by their keys

-- the payload of an IPv4 packet that was sent, of its identification, addresses and protocol
pub record IsDatagramV4 (out : List Outgoing) (key : Ipv4FragKey) (bytes : List ℕ) : Type 0 where
  pub header : Ipv4Repr
  pub sent : IsSentV4 out header bytes
  pub key_is : key ≡ Ipv4.key_of (Ipv4.normal header)

-- the fragment header of a datagram that is whole, and its payload
abbrev pub following_fragment : IpProtocol → (number : ℕ) → List ℕ → List ℕ
following_fragment carried number payload = protocol_number carried ∷ 0 ∷ 0 ∷ 0 ∷ (to_be_bytes w32 number ++ payload)

-- the payload of an IPv6 packet that was cut under the key's number, of its addresses, after such a header
pub record IsDatagramV6 (out : List Outgoing) (key : Ipv6FragKey) (bytes : List ℕ) : Type 0 where
  pub header : Ipv6Repr
  pub payload : List ℕ
  pub cut : IsCutV6 out header key.id payload
  pub source : key.src_addr ≡ header.src_addr
  pub destination : key.dst_addr ≡ header.dst_addr
  pub bytes_are : bytes ≡ following_fragment header.next_header key.id payload

abbrev pub IsDatagram : List Outgoing → FragKey → List ℕ → Type 0
IsDatagram out (Keys.Ipv4 key) bytes = IsDatagramV4 out key bytes
IsDatagram out (Keys.Ipv6 key) bytes = IsDatagramV6 out key bytes

-- CONTENTS

-- a fragment, or the whole, of a datagram that was sent: its bytes at their slot
pub record IsFragmentOf (out : List Outgoing) (p : FragmentValue) : Type 0 where
  pub bytes : List ℕ
  pub sent : IsDatagram out p.key bytes
  pub slice : FragmentList.IsSliceOf bytes (record { offset = p.offset; more = p.more; bytes = p.bytes })

-- such a fragment of an IPv6 datagram, which isn't whole
pub record BringsFragment (out : List Outgoing) (v : IncomingValue) : Type 0 where
  pub part : FragmentValue
  pub part_is : part_in v ≡ Some part
  pub of : IsFragmentOf out part

abbrev pub IsFragment : List Outgoing → IncomingValue → Type 0
IsFragment out (Arp link packet) = ⊥
IsFragment out (Ip4 link header fragment payload) = IsFragmentOf out (part_v4 header fragment payload)
IsFragment out (Ip6 link header payload) = BringsFragment out (Ip6 link header payload)

-- what a frame brings was made, or is a fragment of what was sent
abbrev pub IsFrom : Makes → List Outgoing → IncomingValue → Type 0
IsFrom made out v = IsWholeMade made v ⊎ IsFragment out v

-- a host with such an address reads nothing else in this frame
abbrev pub BringsFrom : Makes → List Outgoing → HardwareAddress → List ℕ → Type 0
BringsFrom made out hardware frame = (v : IncomingValue) → IsIncoming hardware sealed frame v → IsFrom made out v

-- each packet that was sent is one that a host sends, and its lengths fit
pub record IsOut (made : Makes) (p : PacketValue) : Type 0 where
  pub going : IsGoing made p
  pub fits : Ips.Fits p.header

abbrev pub AreOut : Makes → List Outgoing → Type 0
AreOut made out = (p : PacketValue) → IsAmong p out → IsOut made p
