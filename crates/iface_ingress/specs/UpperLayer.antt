-- What a packet's payload is, by the protocol that its header names and that protocol's format.
use Rattle.std.specs.Prelude.{◌≡◌, ℕ, List, Option, Some, None}
use Rattle.net_base.specs.Capabilities.{verifies}
use Rattle.net_base.specs.ChecksumCapabilities.{ChecksumCapabilities}
use Rattle.wire_icmpv4.specs.Icmpv4 as Icmpv4
use Rattle.wire_icmpv4.specs.declared.header.Icmpv4Header.{Icmpv4Header}
use Rattle.wire_icmpv6.specs.Icmpv6 as Icmpv6
use Rattle.ip_wire.specs.Ip.{source_of, destination_of, carried_in}
use Rattle.ip_wire.specs.IpProtocol.TheVariants as Protocol
use Rattle.ip_wire.specs.IpRepr.{IpRepr}
use Rattle.ip_wire.specs.IpRepr.TheVariants as Ip
use Rattle.ip_wire.specs.Ipv4Repr.{Ipv4Repr}
use Rattle.ip_wire.specs.Ipv6Repr.{Ipv6Repr}
use Rattle.ip_wire.specs.Tcp as Tcp
use Rattle.ip_wire.specs.TcpHeader.{TcpHeader}
use Rattle.ip_wire.specs.Udp as Udp
use Rattle.ip_wire.specs.UdpRepr.{UdpRepr}
use Rattle.socket_context.specs.Packet.{PayloadValue, ControlV4, ControlV6, Bytes, Datagram, Segment, payload_value}
use Rattle.socket_context.specs.declared.packet.IpPayload.{IpPayload}
use Rattle.iface_ingress.specs.Incoming.{IsOnly}

-- a control message of IPv4 (RFC 792), up to the payload's end
pub record IsControlV4 (caps : ChecksumCapabilities) (header : Ipv4Repr) (payload : List ℕ) (message : Icmpv4Header) (bytes : List ℕ) : Type 0 where
  pub protocol : header.next_header ≡ Protocol.Icmp
  pub format : Icmpv4.IsIcmpv4 (verifies caps.icmpv4) payload message bytes

-- a control message of IPv6 (RFC 4443) or of neighbour discovery (RFC 4861), up to the payload's end
pub record IsControlV6 (caps : ChecksumCapabilities) (header : Ipv6Repr) (payload : List ℕ) (message : Icmpv6.MessageValue) (bytes : List ℕ) : Type 0 where
  pub protocol : header.next_header ≡ Protocol.Icmpv6
  pub format : Icmpv6.IsIcmpv6 header.src_addr header.dst_addr (verifies caps.icmpv6) payload message
  pub bytes_are : bytes ≡ Icmpv6.carried_in payload message

-- a user datagram (RFC 768), up to the end that its own length says
pub record IsDatagram (caps : ChecksumCapabilities) (header : IpRepr) (payload : List ℕ) (udp : UdpRepr) (bytes : List ℕ) : Type 0 where
  pub protocol : carried_in header ≡ Protocol.Udp
  pub format : Udp.IsUdp (source_of header) (destination_of header) (verifies caps.udp) payload udp
  pub bytes_are : bytes ≡ Udp.payload_of payload

-- a segment (RFC 9293, section 3.1), up to the payload's end
pub record IsSegment (caps : ChecksumCapabilities) (header : IpRepr) (payload : List ℕ) (tcp : TcpHeader) (bytes : List ℕ) : Type 0 where
  pub protocol : carried_in header ≡ Protocol.Tcp
  pub format : Tcp.IsTcp (source_of header) (destination_of header) (verifies caps.tcp) payload tcp
  pub bytes_are : bytes ≡ Tcp.payload_of payload

-- each family has control messages of its own
abbrev pub CarriesV4 : ChecksumCapabilities → IpRepr → List ℕ → Icmpv4Header → List ℕ → Type 0
CarriesV4 caps (Ip.Ipv4 header) payload message bytes = IsControlV4 caps header payload message bytes
CarriesV4 caps (Ip.Ipv6 header) payload message bytes = ⊥

abbrev pub CarriesV6 : ChecksumCapabilities → IpRepr → List ℕ → Icmpv6.MessageValue → List ℕ → Type 0
CarriesV6 caps (Ip.Ipv4 header) payload message bytes = ⊥
CarriesV6 caps (Ip.Ipv6 header) payload message bytes = IsControlV6 caps header payload message bytes

-- the payload after this header is this; bytes of no known format are none of them
abbrev pub IsCarried : ChecksumCapabilities → IpRepr → List ℕ → PayloadValue → Type 0
IsCarried caps header payload (ControlV4 message bytes) = CarriesV4 caps header payload message bytes
IsCarried caps header payload (ControlV6 message bytes) = CarriesV6 caps header payload message bytes
IsCarried caps header payload (Bytes bytes) = ⊥
IsCarried caps header payload (Datagram udp bytes) = IsDatagram caps header payload udp bytes
IsCarried caps header payload (Segment tcp bytes) = IsSegment caps header payload tcp bytes

-- what is carried, or none: the header names another protocol, or the bytes are none of the one that it names
abbrev pub IsCarriedContent : ChecksumCapabilities → IpRepr → List ℕ → Option PayloadValue → Type 0
IsCarriedContent caps header payload content = IsOnly (IsCarried caps header payload) content

-- what was read
abbrev pub carried_of : Option IpPayload → Option PayloadValue
carried_of None = None
carried_of (Some payload) = Some (payload_value payload)
