-- How many bytes a packet's payload is written in.
use Rattle.std.proofs.Common.{◌≡◌, ℕ, ◌+◌, Bool, List, length, refl}
use Rattle.net_base.specs.Capabilities.{computes}
use Rattle.net_base.specs.ChecksumCapabilities.{ChecksumCapabilities}
use Rattle.ip_wire.specs.Ip.{source_of, destination_of}
use Rattle.ip_wire.specs.IpAddress.{IpAddress}
use Rattle.ip_wire.specs.Ipv6Address.{Ipv6Address}
use Rattle.ip_wire.specs.IpRepr.{IpRepr}
use Rattle.ip_wire.specs.IpRepr.TheVariants as Ip
use Rattle.ip_wire.specs.Udp as Udp
use Rattle.ip_wire.specs.UdpRepr.{UdpRepr}
use Rattle.ip_wire.specs.Tcp as Tcp
use Rattle.ip_wire.specs.TcpHeader.{TcpHeader}
use Rattle.control_wire.specs.Icmpv4 as Icmpv4
use Rattle.control_wire.specs.Icmpv4Header.{Icmpv4Header}
use Rattle.control_wire.specs.Icmpv6 as Icmpv6
use Rattle.socket_context.specs.Packet.{PayloadValue, ControlV4, ControlV6, Bytes, Datagram, Segment, PayloadFits, payload_len, payload_written}
use Rattle.socket_context.specs.Widths.{IsPayload}

-- the formats' laws
pub record Lengths : Type 0 where
  pub udp : (source destination : IpAddress) (sealed : Bool) (v : UdpRepr) (payload : List ℕ) →
      length (Udp.written source destination sealed v payload) ≡ 8 + length payload
  pub tcp : (source destination : IpAddress) (sealed : Bool) (v : TcpHeader) (payload : List ℕ) →
      length (Tcp.written source destination sealed v payload) ≡ Tcp.header_len v + length payload
  pub icmpv4 : (quote_sealed sealed : Bool) (v : Icmpv4Header) (payload : List ℕ) → Icmpv4.IsValue v →
      length (Icmpv4.written quote_sealed sealed v payload) ≡ Icmpv4.header_len v + length payload
  pub icmpv6 : (source destination : Ipv6Address) (sealed : Bool) (v : Icmpv6.MessageValue) (carried : List ℕ) → Icmpv6.IsValue v → Icmpv6.CanCarry v carried →
      length (Icmpv6.written source destination sealed v carried) ≡ Icmpv6.header_len v + length carried

pub length-payload : Lengths → (caps : ChecksumCapabilities) (ip : IpRepr) (v : PayloadValue) → PayloadFits ip v → IsPayload v →
    length (payload_written caps ip v) ≡ payload_len v
length-payload laws caps ip (ControlV4 message bytes) fits value = laws.icmpv4 (computes caps.ipv4) (computes caps.icmpv4) message bytes value
length-payload laws caps (Ip.Ipv4 header) (ControlV6 message bytes) fits value = absurd fits
length-payload laws caps (Ip.Ipv6 header) (ControlV6 message bytes) fits value =
    laws.icmpv6 header.src_addr header.dst_addr (computes caps.icmpv6) message bytes value.0 value.1
length-payload laws caps ip (Bytes bytes) fits value = refl
length-payload laws caps ip (Datagram header bytes) fits value = laws.udp (source_of ip) (destination_of ip) (computes caps.udp) header bytes
length-payload laws caps ip (Segment header bytes) fits value = laws.tcp (source_of ip) (destination_of ip) (computes caps.tcp) header bytes
