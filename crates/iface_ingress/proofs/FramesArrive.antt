-- What one host sent is what another reads.
use Rattle.std.proofs.Common.{◌≡◌, ℕ, ◌-◌, ◌%◌, ◌^◌, ◌<◌, Bool, false, IsTrue, List, [], ◌++◌, length, drop, take, length-append, append_assoc, append-nil}
use Rattle.std.proofs.Common.{refl, sym, subst, ap, ◌∙◌, arith}
use Rattle.std.proofs.lemmas.List.{take_at, drop_at}
use Rattle.std.specs.Int.{w16, to_be_bytes}
use Rattle.std.specs.Prelude.{Option, Some, None}
use Rattle.net_base.specs.Capabilities.{verifies, computes}
use Rattle.net_base.specs.ChecksumCapabilities.{ChecksumCapabilities}
use Rattle.wire_icmpv4.proofs.Written.{IsIcmpv4-written}
use Rattle.wire_icmpv4.proofs.Lengths as Lengths4
use Rattle.wire_icmpv6.proofs.Written.{IsIcmpv6-written, carried_in-written}
use Rattle.wire_icmpv6.proofs.Lengths as Lengths6
use Rattle.wire_ip.proofs.Ipv4Laws as V4
use Rattle.wire_ip.proofs.Ipv6Laws as V6
use Rattle.wire_ip.proofs.Lengths.{length-datagram}
use Rattle.wire_ip.proofs.UdpLaws as Udps
use Rattle.wire_tcp.proofs.Lengths.{length-segment}
use Rattle.wire_tcp.proofs.Written as Tcps
use Rattle.ip_wire.proofs.ArpLaws.{IsArp-written}
use Rattle.ip_wire.proofs.EthernetLaws.{IsEthernet-written}
use Rattle.ip_wire.specs.Arp as Arps
use Rattle.ip_wire.specs.declared.arp.repr.ArpRepr.{ArpRepr}
use Rattle.ip_wire.specs.Ethernet as Ethernet
use Rattle.ip_wire.specs.EthernetProtocol.{EthernetProtocol}
use Rattle.ip_wire.specs.EthernetProtocol.TheVariants as Ether
use Rattle.ip_wire.specs.declared.ethernet.repr.EthernetRepr.{EthernetRepr}
use Rattle.ip_wire.specs.Fields.{be16}
use Rattle.ip_wire.specs.HardwareAddress.{HardwareAddress}
use Rattle.ip_wire.specs.HardwareAddress.TheVariants as Hardware
use Rattle.ip_wire.specs.Ip as Ips
use Rattle.ip_wire.specs.Ip.{source_of, destination_of}
use Rattle.ip_wire.specs.IpAddress.{IpAddress}
use Rattle.ip_wire.specs.IpProtocol.{IpProtocol}
use Rattle.ip_wire.specs.IpRepr.{IpRepr}
use Rattle.ip_wire.specs.IpRepr.TheVariants as Ip
use Rattle.ip_wire.specs.Ipv4 as Ipv4
use Rattle.ip_wire.specs.Ipv4Fragment.{Ipv4Fragment}
use Rattle.ip_wire.specs.Ipv4Repr.{Ipv4Repr}
use Rattle.ip_wire.specs.Ipv6 as Ipv6
use Rattle.ip_wire.specs.Ipv6Repr.{Ipv6Repr}
use Rattle.ip_wire.specs.Protocol.{ether_number, ether_of, protocol_number, protocol_of}
use Rattle.ip_wire.specs.Udp as Udp
use Rattle.ip_wire.specs.UdpRepr.{UdpRepr}
use Rattle.socket_context.proofs.Lengths.{Lengths, length-payload}
use Rattle.socket_context.specs.Packet.{PacketValue, PayloadValue, ControlV4, ControlV6, Bytes, Datagram, Segment, PayloadFits, IsSendable, payload_written}
use Rattle.socket_context.specs.Widths.{IsPayload}
use Rattle.iface_ingress.specs.UpperLayer.{IsCarried}
use Rattle.iface_ingress.specs.Upper.{upper_payload, IsBrought}
use Rattle.iface_ingress.proofs.Bare.{IsBare}
use Rattle.iface_ingress.specs.Processed.{is_known_v6}
use Rattle.iface_ingress.proofs.Bare.{bare_v4, bare_v6}
use Rattle.iface_ingress.specs.Incoming.{Arp, Ip4, Ip6, IsPacketV4, IsPacketV6, IsIncoming}
use Rattle.iface_ingress.specs.Sent.{framed, CanFrame, ether_for, AreSealed, uncut, CanBeRead, normal_payload}

-- THE LINK HEADER

length-link : (v : EthernetRepr) → Ethernet.IsValue v → length (Ethernet.written v) ≡ 14
length-link v value =
    let last : List ℕ = to_be_bytes w16 (ether_number v.ethertype) in
    omega (arith, value.destination.0, value.source.0, length-append v.dst_addr.0 (v.src_addr.0 ++ last), length-append v.src_addr.0 last)

-- a link header that names a known protocol is read as itself, and after it stands what was sent, with the padding
linked : (v : EthernetRepr) (carried : EthernetProtocol) (rest padding : List ℕ) → Ethernet.IsValue v → v.ethertype ≡ carried →
    ether_of (ether_number carried) ≡ carried
    → Ethernet.IsEthernet ((Ethernet.written v ++ rest) ++ padding) v × (Ethernet.payload_of ((Ethernet.written v ++ rest) ++ padding) ≡ rest ++ padding)
linked v carried rest padding value kind known =
    let again : ether_of (ether_number v.ethertype) ≡ v.ethertype = ap (λ (p : EthernetProtocol). ether_of (ether_number p)) kind ∙ known ∙ sym kind in
    let joined : (Ethernet.written v ++ rest) ++ padding ≡ Ethernet.written v ++ (rest ++ padding) = append_assoc (Ethernet.written v) rest padding in
    let same : Ethernet.normal v ≡ v = ap (λ (p : EthernetProtocol). record v { ethertype = p }) again in
    let len : length (Ethernet.written v) ≡ 14 = length-link v value in (
      subst (λ (frame : List ℕ). Ethernet.IsEthernet frame v) (sym joined)
          (subst (λ (w : EthernetRepr). Ethernet.IsEthernet (Ethernet.written v ++ (rest ++ padding)) w) same (IsEthernet-written v (rest ++ padding) value)),
      ap (drop 14) joined ∙ drop_at (Ethernet.written v) (rest ++ padding) 14 len,
    )

following-v4 : (hardware : HardwareAddress) (caps : ChecksumCapabilities) (link : Option EthernetRepr) (bytes padding : List ℕ) (h : Ipv4Repr) (p : Ipv4Fragment)
    (x : List ℕ) → CanFrame hardware link Ether.Ipv4
    → IsPacketV4 caps (bytes ++ padding) h p x → IsIncoming hardware caps (framed link bytes ++ padding) (Ip4 link h p x)
following-v4 (Hardware.Ethernet local) caps (Some link) bytes padding h p x can is =
    let front = linked link Ether.Ipv4 bytes padding can.0 can.1 refl in
    (record { format = front.0; carried_is = can.1 }, subst (λ (b : List ℕ). IsPacketV4 caps b h p x) (sym front.1) is)
following-v4 (Hardware.Ethernet local) caps None bytes padding h p x can is = absurd can
following-v4 Hardware.Ip caps (Some link) bytes padding h p x can is = absurd can
following-v4 Hardware.Ip caps None bytes padding h p x can is = is

following-v6 : (hardware : HardwareAddress) (caps : ChecksumCapabilities) (link : Option EthernetRepr) (bytes padding : List ℕ) (h : Ipv6Repr) (x : List ℕ) →
    CanFrame hardware link Ether.Ipv6
    → IsPacketV6 (bytes ++ padding) h x → IsIncoming hardware caps (framed link bytes ++ padding) (Ip6 link h x)
following-v6 (Hardware.Ethernet local) caps (Some link) bytes padding h x can is =
    let front = linked link Ether.Ipv6 bytes padding can.0 can.1 refl in
    (record { format = front.0; carried_is = can.1 }, subst (λ (b : List ℕ). IsPacketV6 b h x) (sym front.1) is)
following-v6 (Hardware.Ethernet local) caps None bytes padding h x can is = absurd can
following-v6 Hardware.Ip caps (Some link) bytes padding h x can is = absurd can
following-v6 Hardware.Ip caps None bytes padding h x can is = is

pub arp-arrives : (hardware : HardwareAddress) (caps : ChecksumCapabilities) (link : EthernetRepr) (packet : ArpRepr) (padding : List ℕ) →
    CanFrame hardware (Some link) Ether.Arp → Arps.IsValue packet
    → IsIncoming hardware caps (framed (Some link) (Arps.written packet) ++ padding) (Arp link (Arps.normal packet))
arp-arrives (Hardware.Ethernet local) caps link packet padding can value =
    let front = linked link Ether.Arp (Arps.written packet) padding can.0 can.1 refl in (
      record { format = front.0; carried_is = can.1 },
      subst (λ (b : List ℕ). Arps.IsArp b (Arps.normal packet)) (sym front.1) (IsArp-written packet padding value),
    )
arp-arrives Hardware.Ip caps link packet padding can value = absurd can

-- PACKETS

length-v4 : (sealed : Bool) (v : Ipv4Repr) (offset : ℕ) (more : Bool) → Ipv4.IsValue v → length (Ipv4.written_fragment sealed v offset more) ≡ 20
length-v4 sealed v offset more value =
    omega (arith, value.source.0, value.destination.0, length-append v.src_addr.0 (v.dst_addr.0 ++ []), length-append v.dst_addr.0 [])

packet-v4 : (sealed : Bool) (caps : ChecksumCapabilities) (v : Ipv4Repr) (fragment : Ipv4Fragment) (payload padding : List ℕ) → Ipv4.Fits v → Ipv4.IsValue v →
    v.payload_len ≡ length payload → fragment.offset < 2 ^ 16 → fragment.offset % 8 ≡ 0
    → (IsTrue (verifies caps.ipv4) → IsTrue sealed) →
    IsPacketV4 caps ((Ipv4.written_fragment sealed v fragment.offset fragment.more ++ payload) ++ padding) (Ipv4.normal v) fragment payload
packet-v4 sealed caps v fragment payload padding fits value len short whole both =
    let w : List ℕ = Ipv4.written_fragment sealed v fragment.offset fragment.more in
    let joined : (w ++ payload) ++ padding ≡ w ++ (payload ++ padding) = append_assoc w payload padding in
    let read = V4.reads-back (verifies caps.ipv4) sealed v fragment (payload ++
    padding) fits value short whole (omega (arith, len, length-append payload padding)) both in
    let size : be16 (w ++ (payload ++ padding)) 2 - 20 ≡ length payload = omega (arith, read.0.payload, len) in
    record {
      format = subst (λ (b : List ℕ). Ipv4.IsIpv4 (verifies caps.ipv4) b (Ipv4.normal v)) (sym joined) read.0;
      fragment_is = sym (ap Ipv4.fragment_of joined ∙ read.1);
      payload_is = sym (
          ap Ipv4.payload_of joined ∙ ap (λ n. take n (drop 20 (w ++ (payload ++ padding)))) size ∙
          ap (take (length payload)) (drop_at w (payload ++ padding) 20 (length-v4 sealed v fragment.offset fragment.more value))
          ∙ take_at payload padding (length payload) refl
          );
    }

packet-v6 : (v : Ipv6Repr) (payload padding : List ℕ) → Ipv6.Fits v → Ipv6.IsValue v → v.payload_len ≡ length payload →
    IsPacketV6 ((Ipv6.written v ++ payload) ++ padding) (Ipv6.normal v) payload
packet-v6 v payload padding fits value len =
    let w : List ℕ = Ipv6.written v in
    let joined : (w ++ payload) ++ padding ≡ w ++ (payload ++ padding) = append_assoc w payload padding in
    record {
      format = subst (λ (b : List ℕ). Ipv6.IsIpv6 b (Ipv6.normal v)) (sym joined)
          (V6.IsIpv6-written v (payload ++ padding) fits value (omega (arith, len, length-append payload padding)));
      payload_is = sym (ap Ipv6.payload_of joined ∙ V6.payload_of-written v (payload ++ padding) fits value ∙ take_at payload padding v.payload_len (sym len));
    }

pub fragment-arrives :
    (hardware : HardwareAddress) (sender receiver : ChecksumCapabilities) (link : Option EthernetRepr) (v : Ipv4Repr) (fragment : Ipv4Fragment)
    (payload padding : List ℕ) →
    CanFrame hardware link Ether.Ipv4 → Ipv4.Fits v → Ipv4.IsValue v → v.payload_len ≡ length payload → fragment.offset < 2 ^ 16 → fragment.offset % 8 ≡ 0 →
    AreSealed sender receiver →
    IsIncoming hardware receiver (framed link (Ipv4.written_fragment (computes sender.ipv4) v fragment.offset fragment.more ++ payload) ++
    padding) (Ip4 link (Ipv4.normal v) fragment payload)
fragment-arrives hardware sender receiver link v fragment payload padding can fits value len short whole sealed =
    following-v4 hardware receiver link (Ipv4.written_fragment (computes sender.ipv4) v fragment.offset fragment.more ++ payload) padding (Ipv4.normal v) fragment payload can
    (packet-v4 (computes sender.ipv4) receiver v fragment payload padding fits value len short whole sealed.ipv4)

abbrev all_of_it : Ipv4Fragment
all_of_it = record { offset = 0; more = false }

pub packet-arrives :
    (hardware : HardwareAddress) (sender receiver : ChecksumCapabilities) (link : Option EthernetRepr) (header : IpRepr) (payload padding : List ℕ) →
    CanFrame hardware link (ether_for header) → Ips.Fits header → Ips.IsValue header → Ips.payload_len_of header ≡ length payload → AreSealed sender receiver →
    IsIncoming hardware receiver (framed link (Ips.written (computes sender.ipv4) header ++ payload) ++ padding) (uncut link (Ips.normal header) payload)
packet-arrives hardware sender receiver link (Ip.Ipv4 v) payload padding can fits value len sealed =
    fragment-arrives hardware sender receiver link v all_of_it payload padding can fits value len (omega arith) refl sealed
packet-arrives hardware sender receiver link (Ip.Ipv6 v) payload padding can fits value len sealed =
    following-v6 hardware receiver link (Ipv6.written v ++ payload) padding (Ipv6.normal v) payload can (packet-v6 v payload padding fits value len)

-- PAYLOADS

-- a known protocol is read as itself
named : (p q : IpProtocol) → p ≡ q → protocol_of (protocol_number q) ≡ q → protocol_of (protocol_number p) ≡ q
named p q is known = ap (λ (x : IpProtocol). protocol_of (protocol_number x)) is ∙ known

read-udp : (source destination : IpAddress) (tested sealed : Bool) (v : UdpRepr) (payload : List ℕ) → Udp.Fits source destination payload → Udp.IsAccepted v →
    (IsTrue tested → IsTrue sealed)
    → Udp.IsUdp source destination tested (Udp.written source destination sealed v payload) v ×
    (payload ≡ Udp.payload_of (Udp.written source destination sealed v payload))
read-udp source destination tested sealed v payload fits accepted both =
    let w : List ℕ = Udp.written source destination sealed v payload in (
      subst (λ (b : List ℕ). Udp.IsUdp source destination tested b v) (append-nil w)
          (Udps.IsUdp-written source destination tested sealed v payload [] fits accepted both),
      sym (Udps.payload_of-written source destination sealed v payload [] fits) ∙ ap Udp.payload_of (append-nil w),
    )

pub payload-arrives : (sender receiver : ChecksumCapabilities) (header : IpRepr) (v : PayloadValue) → PayloadFits header v → CanBeRead header v →
    AreSealed sender receiver
    → IsCarried receiver (Ips.normal header) (payload_written sender header v) (normal_payload v)
payload-arrives sender receiver (Ip.Ipv4 h) (ControlV4 message bytes) fits can sealed = record {
  protocol = named _ _ can.0 refl;
  format = IsIcmpv4-written (verifies receiver.icmpv4) (computes sender.ipv4) (computes sender.icmpv4) message bytes can.1 fits sealed.icmpv4;
}
payload-arrives sender receiver (Ip.Ipv6 h) (ControlV4 message bytes) fits can sealed = absurd can.2
payload-arrives sender receiver (Ip.Ipv4 h) (ControlV6 message bytes) fits can sealed = absurd fits
payload-arrives sender receiver (Ip.Ipv6 h) (ControlV6 message bytes) fits can sealed = record {
  protocol = named _ _ can.0 refl;
  format = IsIcmpv6-written h.src_addr h.dst_addr (verifies receiver.icmpv6) (computes sender.icmpv6) message bytes can.1 fits.0 sealed.icmpv6;
  bytes_are = sym (carried_in-written h.src_addr h.dst_addr (computes sender.icmpv6) message bytes can.1 can.2);
}
payload-arrives sender receiver header (Bytes bytes) fits can sealed = absurd can
payload-arrives sender receiver (Ip.Ipv4 h) (Datagram udp bytes) fits can sealed =
    let read = read-udp (source_of (Ip.Ipv4 h)) (destination_of (Ip.Ipv4 h)) (verifies receiver.udp) (computes sender.udp) udp bytes fits can.1 sealed.udp in
    record { protocol = named _ _ can.0 refl; format = read.0; bytes_are = read.1 }
payload-arrives sender receiver (Ip.Ipv6 h) (Datagram udp bytes) fits can sealed =
    let read = read-udp (source_of (Ip.Ipv6 h)) (destination_of (Ip.Ipv6 h)) (verifies receiver.udp) (computes sender.udp) udp bytes fits can.1 sealed.udp in
    record { protocol = named _ _ can.0 refl; format = read.0; bytes_are = read.1 }
payload-arrives sender receiver (Ip.Ipv4 h) (Segment tcp bytes) fits can sealed = record {
  protocol = named _ _ can.0 refl;
  format = Tcps.IsTcp-written (source_of (Ip.Ipv4 h)) (destination_of (Ip.Ipv4 h)) (verifies receiver.tcp) (computes sender.tcp) tcp bytes can.1 sealed.tcp;
  bytes_are = sym (Tcps.payload_of-written (source_of (Ip.Ipv4 h)) (destination_of (Ip.Ipv4 h)) (computes sender.tcp) tcp bytes);
}
payload-arrives sender receiver (Ip.Ipv6 h) (Segment tcp bytes) fits can sealed = record {
  protocol = named _ _ can.0 refl;
  format = Tcps.IsTcp-written (source_of (Ip.Ipv6 h)) (destination_of (Ip.Ipv6 h)) (verifies receiver.tcp) (computes sender.tcp) tcp bytes can.1 sealed.tcp;
  bytes_are = sym (Tcps.payload_of-written (source_of (Ip.Ipv6 h)) (destination_of (Ip.Ipv6 h)) (computes sender.tcp) tcp bytes);
}

-- such a payload stands right after the header
bare : (header : IpRepr) (v : PayloadValue) (payload : List ℕ) → CanBeRead header v → IsBare (Ips.normal header) payload
bare (Ip.Ipv4 h) v payload can = bare_v4 (Ipv4.normal h) payload
bare (Ip.Ipv6 h) (ControlV4 message bytes) payload can = absurd can.2
bare (Ip.Ipv6 h) (ControlV6 message bytes) payload can = bare_v6 (Ipv6.normal h) payload (ap is_known_v6 (named _ _ can.0 refl))
bare (Ip.Ipv6 h) (Bytes bytes) payload can = absurd can
bare (Ip.Ipv6 h) (Datagram udp bytes) payload can = bare_v6 (Ipv6.normal h) payload (ap is_known_v6 (named _ _ can.0 refl))
bare (Ip.Ipv6 h) (Segment tcp bytes) payload can = bare_v6 (Ipv6.normal h) payload (ap is_known_v6 (named _ _ can.0 refl))

pub brought : (caps : ChecksumCapabilities) (ip : IpRepr) (payload : List ℕ) (v : PayloadValue) → IsBare ip payload → IsCarried caps ip payload v →
    IsBrought caps ip payload (Some v)
brought caps ip payload v direct is =
    subst (λ (h : IpRepr). IsCarried caps h (upper_payload ip payload) v) (sym direct.0)
    (subst (λ (bytes : List ℕ). IsCarried caps ip bytes v) (sym direct.1) is)

pub payload-brought : (sender receiver : ChecksumCapabilities) (header : IpRepr) (v : PayloadValue) → PayloadFits header v → CanBeRead header v →
    AreSealed sender receiver
    → IsBrought receiver (Ips.normal header) (payload_written sender header v) (Some (normal_payload v))
payload-brought sender receiver header v fits can sealed =
    brought receiver (Ips.normal header) (payload_written sender header v) (normal_payload v) (bare header v (payload_written sender header v) can)
    (payload-arrives sender receiver header v fits can sealed)

-- BOTH

lengths : Lengths
lengths = record { udp = length-datagram; tcp = length-segment; icmpv4 = Lengths4.length-message; icmpv6 = Lengths6.length-message }

widths : (header : IpRepr) (v : PayloadValue) → CanBeRead header v → IsPayload v
widths header (ControlV4 message bytes) can = can.1
widths header (ControlV6 message bytes) can = (can.1, can.2)
widths header (Bytes bytes) can = absurd can
widths header (Datagram udp bytes) can = tt
widths header (Segment tcp bytes) can = tt

pub length-carried : (sender : ChecksumCapabilities) (p : PacketValue) → IsSendable p → CanBeRead p.header p.payload →
    Ips.payload_len_of p.header ≡ length (payload_written sender p.header p.payload)
length-carried sender p sendable can = sendable.len ∙ sym (length-payload lengths sender p.header p.payload sendable.payload (widths p.header p.payload can))
