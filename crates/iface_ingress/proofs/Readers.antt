-- What the readers of the formats answer is what a frame, or a payload, carries.
use Rattle.std.proofs.Common.{◌≡◌, ℕ, ◌+◌, ◌/◌, List, length, refl, sym, ap, ◌∙◌, subst, arith}
use Rattle.std.specs.Prelude.{slice_index, Bool, Option, Some, None}
use Rattle.net_base.specs.Capabilities.{verifies}
use Rattle.net_base.specs.ChecksumCapabilities.{ChecksumCapabilities}
use Rattle.wire_address.proofs.Peel.{length-slice_range}
use Rattle.wire_ip.proofs.IpLaws.{fits-v4, fits-v6}
use Rattle.ip_wire.specs.Ethernet as Ethernet
use Rattle.ip_wire.specs.EthernetProtocol.{EthernetProtocol}
use Rattle.ip_wire.specs.EthernetProtocol.TheVariants as Ether
use Rattle.ip_wire.specs.declared.ethernet.repr.EthernetRepr.{EthernetRepr}
use Rattle.ip_wire.specs.Fields.{IsBytes, be16}
use Rattle.ip_wire.specs.Ip.{source_of, destination_of, carried_in}
use Rattle.ip_wire.specs.IpAddress.{IpAddress}
use Rattle.ip_wire.specs.IpProtocol.TheVariants as Protocol
use Rattle.ip_wire.specs.IpRepr.{IpRepr}
use Rattle.ip_wire.specs.IpRepr.TheVariants as Ip
use Rattle.ip_wire.specs.Ipv4 as Ipv4
use Rattle.ip_wire.specs.Ipv4Repr.{Ipv4Repr}
use Rattle.ip_wire.specs.Ipv6 as Ipv6
use Rattle.ip_wire.specs.Ipv6Repr.{Ipv6Repr}
use Rattle.ip_wire.specs.Udp as Udp
use Rattle.ip_wire.specs.UdpRepr.{UdpRepr}
use Rattle.socket_context.specs.Packet.{PayloadValue, ControlV4, ControlV6, Bytes, Datagram, Segment}
use Rattle.iface_ingress.specs.UpperLayer.{IsCarried}
use Rattle.iface_ingress.specs.Incoming.{IncomingValue, Arp, Ip4, Ip6, IsFramed, OnEthernet, Bare, IsOnly, IsArpFollowing, IsV4Following, IsV6Following}
use Rattle.iface_ingress.proofs.One.{one-link}

-- PACKETS

pub refused-v4 : (caps : ChecksumCapabilities) (link : Option EthernetRepr) (bytes : List ℕ) → ((h : Ipv4Repr) → Ipv4.IsIpv4 (verifies caps.ipv4) bytes h → ⊥) →
    (v : IncomingValue) → IsV4Following caps link bytes v → ⊥
refused-v4 caps link bytes none (Arp before packet) is = is
refused-v4 caps link bytes none (Ip4 before header fragment payload) is = none header is.1.format
refused-v4 caps link bytes none (Ip6 before header payload) is = is

pub refused-v6 : (link : Option EthernetRepr) (bytes : List ℕ) → ((h : Ipv6Repr) → Ipv6.IsIpv6 bytes h → ⊥) → (v : IncomingValue) → IsV6Following link bytes v → ⊥
refused-v6 link bytes none (Arp before packet) is = is
refused-v6 link bytes none (Ip4 before header fragment payload) is = is
refused-v6 link bytes none (Ip6 before header payload) is = none header is.1.format

-- a payload is as long as its header says
pub measured-v4 : (tested : Bool) (bytes payload : List ℕ) (h : Ipv4Repr) → IsBytes bytes → Ipv4.IsIpv4 tested bytes h → payload ≡ Ipv4.payload_of bytes →
    (length payload ≡ h.payload_len) × Ipv4.Fits h
measured-v4 tested bytes payload h small is same =
    let len : Ipv4.header_len_of bytes + length (Ipv4.payload_of bytes) ≡ be16 bytes 2 =
    length-slice_range bytes (Ipv4.header_len_of bytes) (be16 bytes 2) is.whole.least is.whole.within in
    (omega (arith, len, ap length same, is.payload), (fits-v4 tested bytes h small is).0)

pub measured-v6 : (bytes payload : List ℕ) (h : Ipv6Repr) → IsBytes bytes → Ipv6.IsIpv6 bytes h → payload ≡ Ipv6.payload_of bytes →
    (length payload ≡ h.payload_len) × Ipv6.Fits h
measured-v6 bytes payload h small is same =
    let len : 40 + length (Ipv6.payload_of bytes) ≡ 40 + be16 bytes 4 = length-slice_range bytes 40 (40 + be16 bytes 4) (omega arith) is.whole.within in
    (omega (arith, len, ap length same, is.payload), (fits-v6 bytes h small is).0)

-- A MEDIUM OF BARE PACKETS

none-bare-v4 : (caps : ChecksumCapabilities) (frame : List ℕ) → slice_index frame 0 / 16 ≡ 4 → ((v : IncomingValue) → IsV4Following caps None frame v → ⊥) →
    (v : IncomingValue) → Bare caps frame v → ⊥
none-bare-v4 caps frame first none (Arp link packet) is = is
none-bare-v4 caps frame first none (Ip4 (Some link) header fragment payload) is = is
none-bare-v4 caps frame first none (Ip4 None header fragment payload) is = none (Ip4 None header fragment payload) (refl, is)
none-bare-v4 caps frame first none (Ip6 (Some link) header payload) is = is
none-bare-v4 caps frame first none (Ip6 None header payload) is = omega (arith, first, is.format.version)

pub bare-v4 : (caps : ChecksumCapabilities) (frame : List ℕ) (content : Option IncomingValue) → slice_index frame 0 / 16 ≡ 4 →
    IsOnly (IsV4Following caps None frame) content → IsOnly (Bare caps frame) content
bare-v4 caps frame None first none = none-bare-v4 caps frame first none
bare-v4 caps frame (Some (Arp link packet)) first is = absurd is
bare-v4 caps frame (Some (Ip4 (Some link) header fragment payload)) first is = absurd (let e = is.0 in cc e)
bare-v4 caps frame (Some (Ip4 None header fragment payload)) first is = is.1
bare-v4 caps frame (Some (Ip6 link header payload)) first is = absurd is

none-bare-v6 : (caps : ChecksumCapabilities) (frame : List ℕ) → slice_index frame 0 / 16 ≡ 6 → ((v : IncomingValue) → IsV6Following None frame v → ⊥) →
    (v : IncomingValue) → Bare caps frame v → ⊥
none-bare-v6 caps frame first none (Arp link packet) is = is
none-bare-v6 caps frame first none (Ip4 (Some link) header fragment payload) is = is
none-bare-v6 caps frame first none (Ip4 None header fragment payload) is = omega (arith, first, is.format.version)
none-bare-v6 caps frame first none (Ip6 (Some link) header payload) is = is
none-bare-v6 caps frame first none (Ip6 None header payload) is = none (Ip6 None header payload) (refl, is)

pub bare-v6 : (caps : ChecksumCapabilities) (frame : List ℕ) (content : Option IncomingValue) → slice_index frame 0 / 16 ≡ 6 →
    IsOnly (IsV6Following None frame) content → IsOnly (Bare caps frame) content
bare-v6 caps frame None first none = none-bare-v6 caps frame first none
bare-v6 caps frame (Some (Arp link packet)) first is = absurd is
bare-v6 caps frame (Some (Ip4 link header fragment payload)) first is = absurd is
bare-v6 caps frame (Some (Ip6 (Some link) header payload)) first is = absurd (let e = is.0 in cc e)
bare-v6 caps frame (Some (Ip6 None header payload)) first is = is.1

-- ETHERNET

pub refused-link : (caps : ChecksumCapabilities) (frame : List ℕ) → ((l : EthernetRepr) → Ethernet.IsEthernet frame l → ⊥) → (v : IncomingValue) →
    OnEthernet caps frame v → ⊥
refused-link caps frame none (Arp link packet) is = none link is.0.format
refused-link caps frame none (Ip4 (Some link) header fragment payload) is = none link is.0.format
refused-link caps frame none (Ip4 None header fragment payload) is = is
refused-link caps frame none (Ip6 (Some link) header payload) is = none link is.0.format
refused-link caps frame none (Ip6 None header payload) is = is

-- a frame says of one protocol that it carries it
pub one-carried : (frame : List ℕ) (l m : EthernetRepr) (p q : EthernetProtocol) → IsFramed frame l p → IsFramed frame m q → p ≡ q
one-carried frame l m p q one other = sym one.carried_is ∙ ap (λ (h : EthernetRepr). h.ethertype) (one-link frame l m one.format other.format) ∙
    other.carried_is

moved : (frame : List ℕ) (l m : EthernetRepr) (p : EthernetProtocol) → l ≡ m → IsFramed frame m p → IsFramed frame l p
moved frame l m p same framed = subst (λ (h : EthernetRepr). IsFramed frame h p) (sym same) framed

none-framed-arp : (caps : ChecksumCapabilities) (frame : List ℕ) (link : EthernetRepr) → IsFramed frame link Ether.Arp →
    ((v : IncomingValue) → IsArpFollowing link (Ethernet.payload_of frame) v → ⊥)
    → (v : IncomingValue) → OnEthernet caps frame v → ⊥
none-framed-arp caps frame link framed none (Arp l packet) is = none (Arp l packet) (one-link frame l link is.0.format framed.format, is.1)
none-framed-arp caps frame link framed none (Ip4 (Some l) header fragment payload) is = absurd (let e = one-carried frame link l _ _ framed is.0 in cc e)
none-framed-arp caps frame link framed none (Ip4 None header fragment payload) is = is
none-framed-arp caps frame link framed none (Ip6 (Some l) header payload) is = absurd (let e = one-carried frame link l _ _ framed is.0 in cc e)
none-framed-arp caps frame link framed none (Ip6 None header payload) is = is

pub framed-arp : (caps : ChecksumCapabilities) (frame : List ℕ) (link : EthernetRepr) (content : Option IncomingValue) → IsFramed frame link Ether.Arp →
    IsOnly (IsArpFollowing link (Ethernet.payload_of frame)) content → IsOnly (OnEthernet caps frame) content
framed-arp caps frame link None framed none = none-framed-arp caps frame link framed none
framed-arp caps frame link (Some (Arp l packet)) framed is = (moved frame l link Ether.Arp is.0 framed, is.1)
framed-arp caps frame link (Some (Ip4 l header fragment payload)) framed is = absurd is
framed-arp caps frame link (Some (Ip6 l header payload)) framed is = absurd is

none-framed-v4 : (caps : ChecksumCapabilities) (frame : List ℕ) (link : EthernetRepr) → IsFramed frame link Ether.Ipv4 →
    ((v : IncomingValue) → IsV4Following caps (Some link) (Ethernet.payload_of frame) v → ⊥)
    → (v : IncomingValue) → OnEthernet caps frame v → ⊥
none-framed-v4 caps frame link framed none (Arp l packet) is = absurd (let e = one-carried frame link l _ _ framed is.0 in cc e)
none-framed-v4 caps frame link framed none (Ip4 (Some l) header fragment payload) is =
    none (Ip4 (Some l) header fragment payload) (ap (λ (h : EthernetRepr). Some h) (one-link frame l link is.0.format framed.format), is.1)
none-framed-v4 caps frame link framed none (Ip4 None header fragment payload) is = is
none-framed-v4 caps frame link framed none (Ip6 (Some l) header payload) is = absurd (let e = one-carried frame link l _ _ framed is.0 in cc e)
none-framed-v4 caps frame link framed none (Ip6 None header payload) is = is

pub framed-v4 : (caps : ChecksumCapabilities) (frame : List ℕ) (link : EthernetRepr) (content : Option IncomingValue) → IsFramed frame link Ether.Ipv4 →
    IsOnly (IsV4Following caps (Some link) (Ethernet.payload_of frame)) content
    → IsOnly (OnEthernet caps frame) content
framed-v4 caps frame link None framed none = none-framed-v4 caps frame link framed none
framed-v4 caps frame link (Some (Arp l packet)) framed is = absurd is
framed-v4 caps frame link (Some (Ip4 (Some l) header fragment payload)) framed is = let same : l ≡ link = let e =
    is.0 in cc e in (moved frame l link Ether.Ipv4 same framed, is.1)
framed-v4 caps frame link (Some (Ip4 None header fragment payload)) framed is = absurd (let e = is.0 in cc e)
framed-v4 caps frame link (Some (Ip6 l header payload)) framed is = absurd is

none-framed-v6 : (caps : ChecksumCapabilities) (frame : List ℕ) (link : EthernetRepr) → IsFramed frame link Ether.Ipv6 →
    ((v : IncomingValue) → IsV6Following (Some link) (Ethernet.payload_of frame) v → ⊥)
    → (v : IncomingValue) → OnEthernet caps frame v → ⊥
none-framed-v6 caps frame link framed none (Arp l packet) is = absurd (let e = one-carried frame link l _ _ framed is.0 in cc e)
none-framed-v6 caps frame link framed none (Ip4 (Some l) header fragment payload) is = absurd (let e = one-carried frame link l _ _ framed is.0 in cc e)
none-framed-v6 caps frame link framed none (Ip4 None header fragment payload) is = is
none-framed-v6 caps frame link framed none (Ip6 (Some l) header payload) is =
    none (Ip6 (Some l) header payload) (ap (λ (h : EthernetRepr). Some h) (one-link frame l link is.0.format framed.format), is.1)
none-framed-v6 caps frame link framed none (Ip6 None header payload) is = is

pub framed-v6 : (caps : ChecksumCapabilities) (frame : List ℕ) (link : EthernetRepr) (content : Option IncomingValue) → IsFramed frame link Ether.Ipv6 →
    IsOnly (IsV6Following (Some link) (Ethernet.payload_of frame)) content
    → IsOnly (OnEthernet caps frame) content
framed-v6 caps frame link None framed none = none-framed-v6 caps frame link framed none
framed-v6 caps frame link (Some (Arp l packet)) framed is = absurd is
framed-v6 caps frame link (Some (Ip4 l header fragment payload)) framed is = absurd is
framed-v6 caps frame link (Some (Ip6 (Some l) header payload)) framed is = let same : l ≡ link = let e =
    is.0 in cc e in (moved frame l link Ether.Ipv6 same framed, is.1)
framed-v6 caps frame link (Some (Ip6 None header payload)) framed is = absurd (let e = is.0 in cc e)

-- USER DATAGRAMS

pub moved-udp : (tested : Bool) (s t d e : IpAddress) (xs ys : List ℕ) (v : UdpRepr) → s ≡ t → d ≡ e → xs ≡ ys → Udp.IsUdp t e tested ys v →
    Udp.IsUdp s d tested xs v
moved-udp tested s t d e xs ys v source destination bytes is = rw (source, destination, bytes) is

pub refused-udp : (caps : ChecksumCapabilities) (header : IpRepr) (payload : List ℕ) → carried_in header ≡ Protocol.Udp →
    ((u : UdpRepr) → Udp.IsUdp (source_of header) (destination_of header) (verifies caps.udp) payload u → ⊥)
    → (v : PayloadValue) → IsCarried caps header payload v → ⊥
refused-udp caps (Ip.Ipv4 h) payload protocol none (ControlV4 message bytes) is = absurd (let e = sym protocol ∙ is.protocol in cc e)
refused-udp caps (Ip.Ipv6 h) payload protocol none (ControlV4 message bytes) is = is
refused-udp caps (Ip.Ipv4 h) payload protocol none (ControlV6 message bytes) is = is
refused-udp caps (Ip.Ipv6 h) payload protocol none (ControlV6 message bytes) is = absurd (let e = sym protocol ∙ is.protocol in cc e)
refused-udp caps header payload protocol none (Bytes bytes) is = is
refused-udp caps header payload protocol none (Datagram udp bytes) is = none udp is.format
refused-udp caps header payload protocol none (Segment tcp bytes) is = absurd (let e = sym protocol ∙ is.protocol in cc e)
