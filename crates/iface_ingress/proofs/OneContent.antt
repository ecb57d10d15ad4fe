-- What bytes carry is determined.
use Rattle.std.proofs.Common.{◌≡◌, ℕ, List, refl, sym, ap, ◌∙◌, arith}
use Rattle.std.specs.Prelude.{Option, Some, None}
use Rattle.net_base.specs.Capabilities.{verifies}
use Rattle.net_base.specs.ChecksumCapabilities.{ChecksumCapabilities}
use Rattle.wire_icmpv4.specs.declared.header.Icmpv4Header.{Icmpv4Header}
use Rattle.wire_icmpv6.specs.Icmpv6 as Icmpv6
use Rattle.wire_tcp.proofs.Read.{IsTcp-one}
use Rattle.ip_wire.specs.Ethernet as Ethernet
use Rattle.ip_wire.specs.EthernetProtocol.{EthernetProtocol}
use Rattle.ip_wire.specs.declared.ethernet.repr.EthernetRepr.{EthernetRepr}
use Rattle.ip_wire.specs.HardwareAddress.{HardwareAddress}
use Rattle.ip_wire.specs.HardwareAddress.TheVariants as Hardware
use Rattle.ip_wire.specs.Ip.{source_of, destination_of, carried_in}
use Rattle.ip_wire.specs.IpProtocol.{IpProtocol}
use Rattle.ip_wire.specs.IpProtocol.TheVariants as Protocol
use Rattle.ip_wire.specs.IpRepr.{IpRepr}
use Rattle.ip_wire.specs.IpRepr.TheVariants as Ip
use Rattle.ip_wire.specs.Ipv4Fragment.{Ipv4Fragment}
use Rattle.ip_wire.specs.Ipv4Repr.{Ipv4Repr}
use Rattle.ip_wire.specs.Ipv6Repr.{Ipv6Repr}
use Rattle.ip_wire.specs.TcpHeader.{TcpHeader}
use Rattle.ip_wire.specs.UdpRepr.{UdpRepr}
use Rattle.socket_context.specs.Packet.{PayloadValue, ControlV4, ControlV6, Bytes, Datagram, Segment}
use Rattle.iface_ingress.specs.UpperLayer.{IsCarried, IsCarriedContent}
use Rattle.iface_ingress.specs.Incoming.{IncomingValue, Arp, Ip4, Ip6, IsPacketV4, IsPacketV6, IsFramed, OnEthernet, Bare, IsIncoming, IsOnly, IsContent}
use Rattle.iface_ingress.proofs.One.{one-link, one-arp, one-v4, one-v6, one-udp, one-icmpv4}
use Rattle.iface_ingress.proofs.OneMessage.{one-icmpv6}
use Rattle.iface_ingress.proofs.Readers.{one-carried}

-- what holds of one value at most has one content
one-only : {A : Type 0} (P : A → Type 0) → ((v w : A) → P v → P w → v ≡ w) → (one other : Option A) → IsOnly P one → IsOnly P other → one ≡ other
one-only {A} P same (Some v) (Some w) one other = ap (λ (x : A). Some x) (same v w one other)
one-only P same (Some v) None one none = absurd (none v one)
one-only P same None (Some w) none other = absurd (none w other)
one-only P same None None one other = refl

-- FRAMES

same-v4 : (k l : Option EthernetRepr) (h i : Ipv4Repr) (p q : Ipv4Fragment) (x y : List ℕ) → k ≡ l → h ≡ i → p ≡ q → x ≡ y → Ip4 k h p x ≡ Ip4 l i q y
same-v4 k l h i p q x y link header fragment payload = rw (link, header, fragment, payload) refl

same-v6 : (k l : Option EthernetRepr) (h i : Ipv6Repr) (x y : List ℕ) → k ≡ l → h ≡ i → x ≡ y → Ip6 k h x ≡ Ip6 l i y
same-v6 k l h i x y link header payload = rw (link, header, payload) refl

packet-v4 : (caps : ChecksumCapabilities) (bytes : List ℕ) (k l : Option EthernetRepr) (h i : Ipv4Repr) (p q : Ipv4Fragment) (x y : List ℕ) → k ≡ l →
    IsPacketV4 caps bytes h p x → IsPacketV4 caps bytes i q y
    → Ip4 k h p x ≡ Ip4 l i q y
packet-v4 caps bytes k l h i p q x y link one other =
    same-v4 k l h i p q x y link (one-v4 (verifies caps.ipv4) bytes h i one.format other.format) (one.fragment_is ∙ sym other.fragment_is) (one.payload_is ∙
    sym other.payload_is)

packet-v6 : (bytes : List ℕ) (k l : Option EthernetRepr) (h i : Ipv6Repr) (x y : List ℕ) → k ≡ l → IsPacketV6 bytes h x → IsPacketV6 bytes i y →
    Ip6 k h x ≡ Ip6 l i y
packet-v6 bytes k l h i x y link one other = same-v6 k l h i x y link (one-v6 bytes h i one.format other.format) (one.payload_is ∙ sym other.payload_is)

some-link : (frame : List ℕ) (k l : EthernetRepr) (p q : EthernetProtocol) → IsFramed frame k p → IsFramed frame l q → Some k ≡ Some l
some-link frame k l p q one other = ap (λ (h : EthernetRepr). Some h) (one-link frame k l one.format other.format)

one-on-ethernet : (caps : ChecksumCapabilities) (frame : List ℕ) (v w : IncomingValue) → OnEthernet caps frame v → OnEthernet caps frame w → v ≡ w
one-on-ethernet caps frame (Arp k x) (Arp l y) one other =
    ap (λ (h : EthernetRepr). Arp h x) (one-link frame k l one.0.format other.0.format) ∙ ap (Arp l) (one-arp (Ethernet.payload_of frame) x y one.1 other.1)
one-on-ethernet caps frame (Arp k x) (Ip4 (Some l) i q y) one other = absurd (let e = one-carried frame k l _ _ one.0 other.0 in cc e)
one-on-ethernet caps frame (Arp k x) (Ip4 None i q y) one other = absurd other
one-on-ethernet caps frame (Arp k x) (Ip6 (Some l) i y) one other = absurd (let e = one-carried frame k l _ _ one.0 other.0 in cc e)
one-on-ethernet caps frame (Arp k x) (Ip6 None i y) one other = absurd other
one-on-ethernet caps frame (Ip4 None h p x) w one other = absurd one
one-on-ethernet caps frame (Ip4 (Some k) h p x) (Arp l y) one other = absurd (let e = one-carried frame k l _ _ one.0 other.0 in cc e)
one-on-ethernet caps frame (Ip4 (Some k) h p x) (Ip4 (Some l) i q y) one other =
    packet-v4 caps (Ethernet.payload_of frame) (Some k) (Some l) h i p q x y (some-link frame k l _ _ one.0 other.0) one.1 other.1
one-on-ethernet caps frame (Ip4 (Some k) h p x) (Ip4 None i q y) one other = absurd other
one-on-ethernet caps frame (Ip4 (Some k) h p x) (Ip6 (Some l) i y) one other = absurd (let e = one-carried frame k l _ _ one.0 other.0 in cc e)
one-on-ethernet caps frame (Ip4 (Some k) h p x) (Ip6 None i y) one other = absurd other
one-on-ethernet caps frame (Ip6 None h x) w one other = absurd one
one-on-ethernet caps frame (Ip6 (Some k) h x) (Arp l y) one other = absurd (let e = one-carried frame k l _ _ one.0 other.0 in cc e)
one-on-ethernet caps frame (Ip6 (Some k) h x) (Ip4 (Some l) i q y) one other = absurd (let e = one-carried frame k l _ _ one.0 other.0 in cc e)
one-on-ethernet caps frame (Ip6 (Some k) h x) (Ip4 None i q y) one other = absurd other
one-on-ethernet caps frame (Ip6 (Some k) h x) (Ip6 (Some l) i y) one other =
    packet-v6 (Ethernet.payload_of frame) (Some k) (Some l) h i x y (some-link frame k l _ _ one.0 other.0) one.1 other.1
one-on-ethernet caps frame (Ip6 (Some k) h x) (Ip6 None i y) one other = absurd other

one-bare : (caps : ChecksumCapabilities) (frame : List ℕ) (v w : IncomingValue) → Bare caps frame v → Bare caps frame w → v ≡ w
one-bare caps frame (Arp k x) w one other = absurd one
one-bare caps frame (Ip4 (Some k) h p x) w one other = absurd one
one-bare caps frame (Ip6 (Some k) h x) w one other = absurd one
one-bare caps frame (Ip4 None h p x) (Arp l y) one other = absurd other
one-bare caps frame (Ip4 None h p x) (Ip4 (Some l) i q y) one other = absurd other
one-bare caps frame (Ip4 None h p x) (Ip4 None i q y) one other = packet-v4 caps frame None None h i p q x y refl one other
one-bare caps frame (Ip4 None h p x) (Ip6 (Some l) i y) one other = absurd other
one-bare caps frame (Ip4 None h p x) (Ip6 None i y) one other = absurd (omega (arith, one.format.version, other.format.version))
one-bare caps frame (Ip6 None h x) (Arp l y) one other = absurd other
one-bare caps frame (Ip6 None h x) (Ip4 (Some l) i q y) one other = absurd other
one-bare caps frame (Ip6 None h x) (Ip4 None i q y) one other = absurd (omega (arith, one.format.version, other.format.version))
one-bare caps frame (Ip6 None h x) (Ip6 (Some l) i y) one other = absurd other
one-bare caps frame (Ip6 None h x) (Ip6 None i y) one other = packet-v6 frame None None h i x y refl one other

pub one-incoming : (hardware : HardwareAddress) (caps : ChecksumCapabilities) (frame : List ℕ) (v w : IncomingValue) → IsIncoming hardware caps frame v →
    IsIncoming hardware caps frame w → v ≡ w
one-incoming (Hardware.Ethernet local) caps frame v w one other = one-on-ethernet caps frame v w one other
one-incoming Hardware.Ip caps frame v w one other = one-bare caps frame v w one other

pub one-content : (hardware : HardwareAddress) (caps : ChecksumCapabilities) (frame : List ℕ) (one other : Option IncomingValue) →
    IsContent hardware caps frame one → IsContent hardware caps frame other → one ≡ other
one-content hardware caps frame one other = one-only (IsIncoming hardware caps frame) (one-incoming hardware caps frame) one other

-- PAYLOADS

-- the protocol that a header names before this
abbrev named : PayloadValue → Option IpProtocol
named (ControlV4 message bytes) = Some Protocol.Icmp
named (ControlV6 message bytes) = Some Protocol.Icmpv6
named (Bytes bytes) = None
named (Datagram udp bytes) = Some Protocol.Udp
named (Segment tcp bytes) = Some Protocol.Tcp

some-protocol : (p q : IpProtocol) → p ≡ q → Some p ≡ Some q
some-protocol p q same = ap (λ (x : IpProtocol). Some x) same

names : (caps : ChecksumCapabilities) (header : IpRepr) (payload : List ℕ) (v : PayloadValue) → IsCarried caps header payload v →
    named v ≡ Some (carried_in header)
names caps (Ip.Ipv4 h) payload (ControlV4 message bytes) is = some-protocol _ _ (sym is.protocol)
names caps (Ip.Ipv6 h) payload (ControlV4 message bytes) is = absurd is
names caps (Ip.Ipv4 h) payload (ControlV6 message bytes) is = absurd is
names caps (Ip.Ipv6 h) payload (ControlV6 message bytes) is = some-protocol _ _ (sym is.protocol)
names caps header payload (Bytes bytes) is = absurd is
names caps header payload (Datagram udp bytes) is = some-protocol _ _ (sym is.protocol)
names caps header payload (Segment tcp bytes) is = some-protocol _ _ (sym is.protocol)

-- two payloads after one header are of one protocol
one-name : (caps : ChecksumCapabilities) (header : IpRepr) (payload : List ℕ) (v w : PayloadValue) → IsCarried caps header payload v →
    IsCarried caps header payload w → named v ≡ named w
one-name caps header payload v w one other = names caps header payload v one ∙ sym (names caps header payload w other)

one-control-v4 : (caps : ChecksumCapabilities) (header : IpRepr) (payload : List ℕ) (m n : Icmpv4Header) (x y : List ℕ) →
    IsCarried caps header payload (ControlV4 m x) → IsCarried caps header payload (ControlV4 n y) → ControlV4 m x ≡ ControlV4 n y
one-control-v4 caps (Ip.Ipv6 h) payload m n x y one other = absurd one
one-control-v4 caps (Ip.Ipv4 h) payload m n x y one other =
    let same = one-icmpv4 (verifies caps.icmpv4) payload m n x y one.format other.format in
    ap (λ (k : Icmpv4Header). ControlV4 k x) same.0 ∙ ap (ControlV4 n) same.1

one-control-v6 : (caps : ChecksumCapabilities) (header : IpRepr) (payload : List ℕ) (m n : Icmpv6.MessageValue) (x y : List ℕ) →
    IsCarried caps header payload (ControlV6 m x) → IsCarried caps header payload (ControlV6 n y) → ControlV6 m x ≡ ControlV6 n y
one-control-v6 caps (Ip.Ipv4 h) payload m n x y one other = absurd one
one-control-v6 caps (Ip.Ipv6 h) payload m n x y one other =
    let same : m ≡ n = one-icmpv6 h.src_addr h.dst_addr (verifies caps.icmpv6) payload m n one.format other.format in
    ap (λ (k : Icmpv6.MessageValue). ControlV6 k x) same ∙ ap (ControlV6 n) (one.bytes_are ∙ ap (Icmpv6.carried_in payload) same ∙ sym other.bytes_are)

one-payload : (caps : ChecksumCapabilities) (header : IpRepr) (payload : List ℕ) (v w : PayloadValue) → IsCarried caps header payload v →
    IsCarried caps header payload w → v ≡ w
one-payload caps header payload (ControlV4 m x) (ControlV4 n y) one other = one-control-v4 caps header payload m n x y one other
one-payload caps header payload (ControlV6 m x) (ControlV6 n y) one other = one-control-v6 caps header payload m n x y one other
one-payload caps header payload (Datagram m x) (Datagram n y) one other =
    ap (λ (k : UdpRepr). Datagram k x) (one-udp (source_of header) (destination_of header) (verifies caps.udp) payload m n one.format other.format) ∙
    ap (Datagram n) (one.bytes_are ∙ sym other.bytes_are)
one-payload caps header payload (Segment m x) (Segment n y) one other =
    ap (λ (k : TcpHeader). Segment k x) (IsTcp-one (source_of header) (destination_of header) (verifies caps.tcp) payload m n one.format other.format) ∙
    ap (Segment n) (one.bytes_are ∙ sym other.bytes_are)
one-payload caps header payload (Bytes x) w one other = absurd one
one-payload caps header payload v (Bytes y) one other = absurd other
one-payload caps header payload v w one other = absurd (let e = one-name caps header payload v w one other in cc e)

pub one-carried-content : (caps : ChecksumCapabilities) (header : IpRepr) (payload : List ℕ) (one other : Option PayloadValue) →
    IsCarriedContent caps header payload one → IsCarriedContent caps header payload other → one ≡ other
one-carried-content caps header payload one other = one-only (IsCarried caps header payload) (one-payload caps header payload) one other
