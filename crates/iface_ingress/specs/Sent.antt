-- What one host sends to another, for the law that the other reads it.
use Rattle.std.specs.Prelude.{◌≡◌, ℕ, false, IsTrue, List, ◌++◌, Option, Some, None}
use Rattle.net_base.specs.Capabilities.{verifies, computes}
use Rattle.net_base.specs.ChecksumCapabilities.{ChecksumCapabilities}
use Rattle.wire_icmpv4.specs.Icmpv4 as Icmpv4
use Rattle.wire_icmpv6.specs.Icmpv6 as Icmpv6
use Rattle.ip_wire.specs.Ethernet as Ethernet
use Rattle.ip_wire.specs.EthernetProtocol.{EthernetProtocol}
use Rattle.ip_wire.specs.EthernetProtocol.TheVariants as Ether
use Rattle.ip_wire.specs.declared.ethernet.repr.EthernetRepr.{EthernetRepr}
use Rattle.ip_wire.specs.HardwareAddress.{HardwareAddress}
use Rattle.ip_wire.specs.HardwareAddress.TheVariants as Hardware
use Rattle.ip_wire.specs.Ip.{carried_in}
use Rattle.ip_wire.specs.IpProtocol.TheVariants as Protocol
use Rattle.ip_wire.specs.IpRepr.{IpRepr}
use Rattle.ip_wire.specs.IpRepr.TheVariants as Ip
use Rattle.ip_wire.specs.Tcp as Tcp
use Rattle.ip_wire.specs.Udp as Udp
use Rattle.socket_context.specs.Packet.{PayloadValue, ControlV4, ControlV6, Bytes, Datagram, Segment}
use Rattle.iface_ingress.specs.Incoming.{IncomingValue, Ip4, Ip6}

-- a packet after its link header, or without one
abbrev pub framed : Option EthernetRepr → List ℕ → List ℕ
framed (Some link) packet = Ethernet.written link ++ packet
framed None packet = packet

-- the receiver's medium has this link header before what is carried, or none
abbrev pub CanFrame : HardwareAddress → Option EthernetRepr → EthernetProtocol → Type 0
CanFrame (Hardware.Ethernet local) (Some link) carried = Ethernet.IsValue link × (link.ethertype ≡ carried)
CanFrame (Hardware.Ethernet local) None carried = ⊥
CanFrame Hardware.Ip (Some link) carried = ⊥
CanFrame Hardware.Ip None carried = Unit {0}

-- what a link header says of a packet
abbrev pub ether_for : IpRepr → EthernetProtocol
ether_for (Ip.Ipv4 header) = Ether.Ipv4
ether_for (Ip.Ipv6 header) = Ether.Ipv6

-- each checksum that the receiver tests was written by the sender
pub record AreSealed (sender receiver : ChecksumCapabilities) : Type 0 where
  pub ipv4 : IsTrue (verifies receiver.ipv4) → IsTrue (computes sender.ipv4)
  pub icmpv4 : IsTrue (verifies receiver.icmpv4) → IsTrue (computes sender.icmpv4)
  pub icmpv6 : IsTrue (verifies receiver.icmpv6) → IsTrue (computes sender.icmpv6)
  pub udp : IsTrue (verifies receiver.udp) → IsTrue (computes sender.udp)
  pub tcp : IsTrue (verifies receiver.tcp) → IsTrue (computes sender.tcp)

-- a packet that nobody cut
abbrev pub uncut : Option EthernetRepr → IpRepr → List ℕ → IncomingValue
uncut link (Ip.Ipv4 header) payload = Ip4 link header (record { offset = 0; more = false }) payload
uncut link (Ip.Ipv6 header) payload = Ip6 link header payload

-- the header is of IPv4
abbrev pub IsV4 : IpRepr → Type 0
IsV4 (Ip.Ipv4 header) = Unit {0}
IsV4 (Ip.Ipv6 header) = ⊥

-- the header names what is carried, whose fields are numbers of their widths, with ports that a reader takes
abbrev pub CanBeRead : IpRepr → PayloadValue → Type 0
CanBeRead header (ControlV4 message bytes) = (carried_in header ≡ Protocol.Icmp) × Icmpv4.IsValue message × IsV4 header
CanBeRead header (ControlV6 message bytes) = (carried_in header ≡ Protocol.Icmpv6) × Icmpv6.IsValue message × Icmpv6.CanCarry message bytes
CanBeRead header (Bytes bytes) = ⊥
CanBeRead header (Datagram udp bytes) = (carried_in header ≡ Protocol.Udp) × Udp.IsAccepted udp
CanBeRead header (Segment tcp bytes) = (carried_in header ≡ Protocol.Tcp) × Tcp.IsValue tcp

-- what a reader makes of a payload that was sent
abbrev pub normal_payload : PayloadValue → PayloadValue
normal_payload (ControlV4 message bytes) = ControlV4 (Icmpv4.normal message) bytes
normal_payload (ControlV6 message bytes) = ControlV6 (Icmpv6.normal message) bytes
normal_payload (Bytes bytes) = Bytes bytes
normal_payload (Datagram udp bytes) = Datagram udp bytes
normal_payload (Segment tcp bytes) = Segment (Tcp.normal tcp) bytes
