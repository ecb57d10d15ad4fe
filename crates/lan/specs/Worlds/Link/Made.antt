-- What a host made, and what a frame brings of it. `made` says what TCP segments and UDP datagrams the host made from one address to
-- another, with the header that a reader makes of it.
use Rattle.std.specs.Prelude.{◌≡◌, ◌⊎◌, ℕ, true, false, List, slice_get, Option, None, Some}
use Rattle.sim_link.specs.Capabilities.{all_checksums}
use Rattle.sim_link.specs.Checksum.TheVariants as Checksum
use Rattle.sim_link.specs.ChecksumCapabilities.{ChecksumCapabilities}
use Rattle.interface.specs.Ip as Ips
use Rattle.interface.specs.Ip.{carried_in, source_of, destination_of}
use Rattle.interface.specs.IpRepr.{IpRepr}
use Rattle.interface.specs.IpRepr.TheVariants as Ip
use Rattle.iface_ingress.specs.IpAddress.{IpAddress}
use Rattle.sockets.specs.Packet.{PacketValue, PayloadValue, ControlV4, ControlV6, Bytes, Datagram, Segment, payload_written}
use Rattle.iface_ingress.specs.UpperLayer.{IsCarried}
use Rattle.iface_ingress.specs.Upper.{upper_header, upper_payload}
use Rattle.iface_ingress.specs.Incoming.{IncomingValue, Arp, Ip4, Ip6}
use Rattle.iface_ingress.specs.Reassembled.{is_fragment, is_fragment_v6}
use Rattle.iface_ingress.specs.Sent.{CanBeRead, normal_payload}
use Rattle.interface.specs.Delivered.{NamesNoPorts}
use Rattle.interface.specs.TransmittedFrame.{IsOffered}

-- which payloads a host made, from one address to another
abbrev pub Makes : Type 1
Makes = IpAddress → IpAddress → PayloadValue → Type 0

-- a payload with the addresses of its packet
pub record Addressed : Type 0 where
  pub source : IpAddress
  pub destination : IpAddress
  pub payload : PayloadValue

-- it is one of these
abbrev pub IsIn : List Addressed → IpAddress → IpAddress → PayloadValue → Type 0
IsIn made source destination x = (k : ℕ) × (slice_get made k ≡ Some (record { source = source; destination = destination; payload = x }))

-- every checksum is written and tested
abbrev pub sealed : ChecksumCapabilities
sealed = all_checksums Checksum.Both

-- an IPv6 packet is no fragment of a datagram: another fragment may say what that carries (RFC 8200, section 4.5)
abbrev pub IsWholeV6 : IpRepr → List ℕ → Type 0
IsWholeV6 (Ip.Ipv4 header) payload = Unit {0}
IsWholeV6 (Ip.Ipv6 header) payload = is_fragment_v6 header payload ≡ false

-- neither TCP nor UDP, after extension headers either, nor a fragment of IPv6 that may carry them
abbrev pub CarriesNone : IpRepr → List ℕ → Type 0
CarriesNone ip payload = NamesNoPorts (carried_in (upper_header ip payload)) × IsWholeV6 ip payload

module _ (made : Makes) where
  -- a segment or a datagram was made between these addresses; of anything else nothing is asked
  abbrev pub WasMade : IpAddress → IpAddress → PayloadValue → Type 0
  WasMade source destination (Datagram udp bytes) = made source destination (Datagram udp bytes)
  WasMade source destination (Segment header bytes) = made source destination (Segment header bytes)
  WasMade source destination (ControlV4 message bytes) = Unit {0}
  WasMade source destination (ControlV6 message bytes) = Unit {0}
  WasMade source destination (Bytes bytes) = Unit {0}

  -- whatever is read after this header, and its extension headers, was made between its addresses
  abbrev pub HandsMade : IpRepr → List ℕ → Type 0
  HandsMade ip payload = (x : PayloadValue) → IsCarried sealed (upper_header ip payload) (upper_payload ip payload) x →
      WasMade (source_of ip) (destination_of ip) x

  -- what is whole brings what was made
  abbrev pub BringsMade : Option IncomingValue → Type 0
  BringsMade None = Unit {0}
  BringsMade (Some (Arp link packet)) = Unit {0}
  BringsMade (Some (Ip4 link header fragment payload)) = HandsMade (Ip.Ipv4 header) payload
  BringsMade (Some (Ip6 link header payload)) = HandsMade (Ip.Ipv6 header) payload

  -- A content that brings what was made, and is no fragment of an IPv4 datagram of TCP or UDP, nor any of an IPv6 datagram
  abbrev pub IsWholeMade : IncomingValue → Type 0
  IsWholeMade (Arp link packet) = Unit {0}
  IsWholeMade (Ip4 link header fragment payload) = (is_fragment fragment ≡ true → NamesNoPorts header.next_header) × HandsMade (Ip.Ipv4 header) payload
  IsWholeMade (Ip6 link header payload) = (is_fragment_v6 header payload ≡ false) × HandsMade (Ip.Ipv6 header) payload

  -- A packet that a host sends: its lengths fit, its fields are numbers of their widths, and it carries neither TCP nor UDP and is no fragment
  -- of IPv6, or it carries what the host made between its addresses.
  pub record IsGoing (p : PacketValue) : Type 0 where
    pub offered : IsOffered p
    pub carries : CarriesNone (Ips.normal p.header) (payload_written sealed p.header p.payload)
        ⊎ (CanBeRead p.header p.payload × made (source_of p.header) (destination_of p.header) (normal_payload p.payload))

-- the bytes after a packet's IP header
abbrev pub bytes_of : PacketValue → List ℕ
bytes_of p = payload_written sealed p.header p.payload
