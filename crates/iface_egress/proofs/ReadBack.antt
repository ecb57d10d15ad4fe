-- What was sent in a frame is read in it.
use Rattle.std.proofs.Common.{◌≡◌, ℕ, ◌+◌, ◌-◌, ◌/◌, ◌%◌, ◌^◌, ◌<◌, ◌≤◌, Bool, IsTrue, List, [], ◌++◌, length, drop, take, length-append, append_assoc, refl, sym}
use Rattle.std.proofs.Common.{subst, ap, ◌∙◌, arith}
use Rattle.std.proofs.lemmas.List.{take_at, drop_at}
use Rattle.std.specs.Int.{w16, to_be_bytes}
use Rattle.net_base.specs.Capabilities.{computes}
use Rattle.net_base.specs.ChecksumCapabilities.{ChecksumCapabilities}
use Rattle.ip_wire.specs.Address.{IsEthernetAddress}
use Rattle.ip_wire.specs.Arp as Arps
use Rattle.ip_wire.specs.declared.arp.repr.ArpRepr.{ArpRepr}
use Rattle.ip_wire.specs.declared.arp.repr.ArpRepr.TheVariants as Arp
use Rattle.ip_wire.specs.Ethernet as Ethernet
use Rattle.ip_wire.specs.Protocol.{ether_number, ether_of}
use Rattle.ip_wire.specs.EthernetAddress.{EthernetAddress}
use Rattle.ip_wire.specs.EthernetProtocol.{EthernetProtocol}
use Rattle.ip_wire.specs.EthernetProtocol.TheVariants as Ether
use Rattle.ip_wire.specs.declared.ethernet.repr.EthernetRepr.{EthernetRepr}
use Rattle.ip_wire.specs.Fields.{be16}
use Rattle.ip_wire.specs.HardwareAddress.TheVariants as Hardware
use Rattle.ip_wire.specs.Ip as Ips
use Rattle.ip_wire.specs.Ip.{header_len_in, payload_len_of}
use Rattle.ip_wire.specs.IpRepr.{IpRepr}
use Rattle.ip_wire.specs.IpRepr.TheVariants as Ip
use Rattle.ip_wire.specs.Ipv4 as Ipv4
use Rattle.ip_wire.specs.Ipv4Repr.{Ipv4Repr}
use Rattle.ip_wire.specs.Ipv6 as Ipv6
use Rattle.ip_wire.specs.Ipv6Repr.{Ipv6Repr}
use Rattle.ip_wire.specs.Fragment as Fragment
use Rattle.ip_wire.specs.declared.ipv6_fragment.repr.Ipv6FragmentRepr.{Ipv6FragmentRepr}
use Rattle.ip_wire.proofs.EthernetLaws.{IsEthernet-written}
use Rattle.ip_wire.proofs.ArpLaws.{IsArp-written}
use Rattle.wire_ip.proofs.IpLaws.{IsIp-written}
use Rattle.wire_ip.proofs.Ipv4Laws.{reads-back}
use Rattle.wire_ip.proofs.Ipv6Laws.{IsIpv6-written, payload_of-written}
use Rattle.ip_wire.proofs.FragmentLaws.{IsFragment-written}
use Rattle.socket_context.specs.Packet.{PacketValue, IsSendable, payload_len, payload_written}
use Rattle.iface_tables.specs.FragmentList.{FragmentPart}
use Rattle.iface_egress.specs.Departure.{ether_for, ether_in, packet_frame, fragment_v6, fragment_header, fragment_packet_header, fragment_frame, arp_link, arp_frame}
use Rattle.iface_egress.specs.declared.frame.CutHeader.{CutHeader}
use Rattle.iface_egress.specs.declared.frame.CutHeader.TheVariants as Cut

-- THE LINK HEADER

length-link : (v : EthernetRepr) → Ethernet.IsValue v → length (Ethernet.written v) ≡ 14
length-link v value =
    let last : List ℕ = to_be_bytes w16 (ether_number v.ethertype) in
    omega (arith, value.destination.0, value.source.0, length-append v.dst_addr.0 (v.src_addr.0 ++ last), length-append v.src_addr.0 last)

-- a known protocol is read as itself
framed : (v : EthernetRepr) (rest padding : List ℕ) → Ethernet.IsValue v → ether_of (ether_number v.ethertype) ≡ v.ethertype
    → Ethernet.IsEthernet ((Ethernet.written v ++ rest) ++ padding) v × (Ethernet.payload_of ((Ethernet.written v ++ rest) ++ padding) ≡ rest ++ padding)
framed v rest padding value again =
    let joined : (Ethernet.written v ++ rest) ++ padding ≡ Ethernet.written v ++ (rest ++ padding) = append_assoc (Ethernet.written v) rest padding in
    let same : Ethernet.normal v ≡ v = ap (λ (p : EthernetProtocol). record v { ethertype = p }) again in
    let len : length (Ethernet.written v) ≡ 14 = length-link v value in (
      subst (λ (frame : List ℕ). Ethernet.IsEthernet frame v) (sym joined)
          (subst (λ (w : EthernetRepr). Ethernet.IsEthernet (Ethernet.written v ++ (rest ++ padding)) w) same (IsEthernet-written v (rest ++ padding) value)),
      ap (drop 14) joined ∙ drop_at (Ethernet.written v) (rest ++ padding) 14 len,
    )

abbrev link_value : EthernetAddress → EthernetAddress → EthernetProtocol → EthernetRepr
link_value local to carried = record { src_addr = local; dst_addr = to; ethertype = carried }

small : (h : IpRepr) → ether_number (ether_for h) < 2 ^ 16
small (Ip.Ipv4 v) = omega arith
small (Ip.Ipv6 v) = omega arith

again : (h : IpRepr) → ether_of (ether_number (ether_for h)) ≡ ether_for h
again (Ip.Ipv4 v) = refl
again (Ip.Ipv6 v) = refl

small_fragment : (h : CutHeader) → ether_number (ether_in h) < 2 ^ 16
small_fragment (Cut.Ipv4 v) = omega arith
small_fragment (Cut.Ipv6 v number) = omega arith

again_fragment : (h : CutHeader) → ether_of (ether_number (ether_in h)) ≡ ether_in h
again_fragment (Cut.Ipv4 v) = refl
again_fragment (Cut.Ipv6 v number) = refl

pub link-packet : (caps : ChecksumCapabilities) (local to : EthernetAddress) (p : PacketValue) (padding : List ℕ) → IsEthernetAddress local → IsEthernetAddress to
    → Ethernet.IsEthernet (packet_frame caps (Hardware.Ethernet local) (Hardware.Ethernet to) p ++ padding) (link_value local to (ether_for p.header))
    × (Ethernet.payload_of (packet_frame caps (Hardware.Ethernet local) (Hardware.Ethernet to) p ++ padding) ≡
    packet_frame caps Hardware.Ip Hardware.Ip p ++ padding)
link-packet caps local to p padding is_local is_to =
    framed (link_value local to (ether_for p.header)) (Ips.written (computes caps.ipv4) p.header ++ payload_written caps p.header p.payload) padding
    (record { source = is_local; destination = is_to; carried = small p.header }) (again p.header)

pub link-fragment : (caps : ChecksumCapabilities) (local to : EthernetAddress) (header : CutHeader) (p : FragmentPart) (padding : List ℕ) → IsEthernetAddress local →
    IsEthernetAddress to
    → Ethernet.IsEthernet (fragment_frame caps (Hardware.Ethernet local) (Hardware.Ethernet to) header p ++ padding) (link_value local to (ether_in header))
    × (Ethernet.payload_of (fragment_frame caps (Hardware.Ethernet local) (Hardware.Ethernet to) header p ++ padding) ≡
    fragment_frame caps Hardware.Ip Hardware.Ip header p ++ padding)
link-fragment caps local to header p padding is_local is_to =
    framed (link_value local to (ether_in header)) (fragment_packet_header caps header p ++ p.bytes) padding
    (record { source = is_local; destination = is_to; carried = small_fragment header }) (again_fragment header)

pub arp-read : (packet : ArpRepr) (padding : List ℕ) → Arps.IsValue packet
    → Ethernet.IsEthernet (arp_frame packet ++ padding) (arp_link packet) × Arps.IsArp (Ethernet.payload_of (arp_frame packet ++ padding)) (Arps.normal packet)
arp-read (Arp.EthernetIpv4 operation source source_protocol target target_protocol) padding value =
    let packet : ArpRepr = Arp.EthernetIpv4 operation source source_protocol target target_protocol in
    let read = framed (link_value source target Ether.Arp) (Arps.written packet) padding (record {
      source = value.1;
      destination = value.3;
      carried =
          omega arith;
    }) refl in
    (read.0, subst (λ (bytes : List ℕ). Arps.IsArp bytes (Arps.normal packet)) (sym read.1) (IsArp-written packet padding value))

-- A PACKET

header-len : (sealed : Bool) (h : IpRepr) → Ips.IsValue h → length (Ips.written sealed h) ≡ header_len_in h
header-len sealed (Ip.Ipv4 v) value =
    omega (arith, value.source.0, value.destination.0, length-append v.src_addr.0 (v.dst_addr.0 ++ []), length-append v.dst_addr.0 [])
header-len sealed (Ip.Ipv6 v) value = omega (arith, value.source.0, value.destination.0, length-append v.src_addr.0 v.dst_addr.0)

pub packet-read : (caps : ChecksumCapabilities) (tested : Bool) (p : PacketValue) (padding : List ℕ) → IsSendable p → Ips.IsValue p.header →
    length (payload_written caps p.header p.payload) ≡ payload_len p.payload
    → (IsTrue tested → IsTrue (computes caps.ipv4))
    → Ips.IsIp tested (packet_frame caps Hardware.Ip Hardware.Ip p ++ padding) (Ips.normal p.header)
    × (take (payload_len p.payload) (drop (header_len_in p.header) (packet_frame caps Hardware.Ip Hardware.Ip p ++ padding)) ≡
    payload_written caps p.header p.payload)
packet-read caps tested p padding sendable value len both =
    let header : List ℕ = Ips.written (computes caps.ipv4) p.header in
    let bytes : List ℕ = payload_written caps p.header p.payload in
    let joined : (header ++ bytes) ++ padding ≡ header ++ (bytes ++ padding) = append_assoc header bytes padding in
    let within : payload_len_of p.header ≤ length (bytes ++ padding) = omega (arith, sendable.len, len, length-append bytes padding) in (
      subst (λ (frame : List ℕ). Ips.IsIp tested frame (Ips.normal p.header)) (sym joined)
          (IsIp-written tested (computes caps.ipv4) p.header (bytes ++ padding) sendable.header value within both),
      ap (λ (frame : List ℕ). take (payload_len p.payload) (drop (header_len_in p.header) frame)) joined
          ∙ ap (take (payload_len p.payload)) (drop_at header (bytes ++ padding) (header_len_in p.header) (header-len (computes caps.ipv4) p.header value))
          ∙ take_at bytes padding (payload_len p.payload) len,
    )

pub fragment-read : (caps : ChecksumCapabilities) (tested : Bool) (header : Ipv4Repr) (p : FragmentPart) (padding : List ℕ) → Ipv4.IsValue header →
    20 + length p.bytes < 2 ^ 16 → p.offset < 2 ^ 16 → p.offset % 8 ≡ 0
    → (IsTrue tested → IsTrue (computes caps.ipv4))
    → Ipv4.IsIpv4 tested (fragment_frame caps Hardware.Ip Hardware.Ip (Cut.Ipv4 header) p ++ padding) (Ipv4.normal (record header { payload_len = length p.bytes }))
    × (Ipv4.fragment_of (fragment_frame caps Hardware.Ip Hardware.Ip (Cut.Ipv4 header) p ++ padding) ≡ record { offset = p.offset; more = p.more })
    × (Ipv4.payload_of (fragment_frame caps Hardware.Ip Hardware.Ip (Cut.Ipv4 header) p ++ padding) ≡ p.bytes)
fragment-read caps tested header p padding value fits short whole both =
    let v : Ipv4Repr = record header { payload_len = length p.bytes } in
    let w : List ℕ = Ipv4.written_fragment (computes caps.ipv4) v p.offset p.more in
    let joined : (w ++ p.bytes) ++ padding ≡ w ++ (p.bytes ++ padding) = append_assoc w p.bytes padding in
    let value_of_v : Ipv4.IsValue v =
    record {
      source = value.source;
      destination = value.destination;
      identification = value.identification;
      protocol = value.protocol;
      hop_limit =
          value.hop_limit;
    } in
    let read = reads-back tested (computes caps.ipv4) v (record { offset = p.offset; more = p.more }) (p.bytes ++
    padding) fits value_of_v short whole (omega (arith, length-append p.bytes padding)) both in
    let size : be16 (w ++ (p.bytes ++ padding)) 2 - 20 ≡ length p.bytes = omega (arith, read.0.payload) in
    let len : length w ≡ 20 =
    omega (arith, value.source.0, value.destination.0, length-append header.src_addr.0 (header.dst_addr.0 ++ []), length-append header.dst_addr.0 []) in (
      subst (λ (frame : List ℕ). Ipv4.IsIpv4 tested frame (Ipv4.normal v)) (sym joined) read.0,
      ap Ipv4.fragment_of joined ∙ read.1,
      ap Ipv4.payload_of joined
          ∙ ap (λ (n : ℕ). take n (drop 20 (w ++ (p.bytes ++ padding)))) size
          ∙ ap (take (length p.bytes)) (drop_at w (p.bytes ++ padding) 20 len)
          ∙ take_at p.bytes padding (length p.bytes) refl,
    )

-- a slot is of 13 bits
same_slot : (p : FragmentPart) (number : ℕ) → p.offset < 2 ^ 16 →
    Fragment.normal (record { frag_offset = p.offset / 8; more_frags = p.more; ident = number }) ≡ record {
      frag_offset = p.offset / 8;
      more_frags = p.more;
      ident = number;
    }
same_slot p number within =
    ap (λ (n : ℕ). let v : Ipv6FragmentRepr = record { frag_offset = n; more_frags = p.more; ident = number } in v)
    (let small : p.offset / 8 % 2 ^ 13 ≡ p.offset / 8 = omega (arith, within) in small)

pub fragment-read6 : (caps : ChecksumCapabilities) (header : Ipv6Repr) (number : ℕ) (p : FragmentPart) (padding : List ℕ) → Ipv6.IsValue header →
    number < 2 ^ 32 → 8 + length p.bytes < 2 ^ 16 → p.offset < 2 ^ 16
    → Ipv6.IsIpv6 (fragment_frame caps Hardware.Ip Hardware.Ip (Cut.Ipv6 header number) p ++ padding) (Ipv6.normal (fragment_v6 header p))
    × (Ipv6.payload_of (fragment_frame caps Hardware.Ip Hardware.Ip (Cut.Ipv6 header number) p ++ padding) ≡
    fragment_header header.next_header number p ++ p.bytes)
    × Fragment.IsFragment (drop 2 (fragment_header header.next_header number p ++ p.bytes))
    (record { frag_offset = p.offset / 8; more_frags = p.more; ident = number })
fragment-read6 caps header number p padding value small fits within =
    let v : Ipv6Repr = fragment_v6 header p in
    let w : List ℕ = Ipv6.written v in
    let front : List ℕ = fragment_header header.next_header number p in
    let slot : Ipv6FragmentRepr = record { frag_offset = p.offset / 8; more_frags = p.more; ident = number } in
    let joined : ((w ++ front) ++ p.bytes) ++ padding ≡ w ++ ((front ++ p.bytes) ++ padding) =
    ap (λ (bytes : List ℕ). bytes ++ padding) (append_assoc w front p.bytes) ∙ append_assoc w (front ++ p.bytes) padding in
    let long : length (front ++ p.bytes) ≡ 8 + length p.bytes = omega (arith, length-append front p.bytes) in
    let value_of_v : Ipv6.IsValue v =
    record { source = value.source; destination = value.destination; protocol = omega arith; hop_limit = value.hop_limit } in
    let enough : v.payload_len ≤ length ((front ++ p.bytes) ++ padding) = omega (arith, long, length-append (front ++ p.bytes) padding) in (
      subst (λ (frame : List ℕ). Ipv6.IsIpv6 frame (Ipv6.normal v)) (sym joined) (IsIpv6-written v ((front ++ p.bytes) ++ padding) fits value_of_v enough),
      ap Ipv6.payload_of joined
          ∙ payload_of-written v ((front ++ p.bytes) ++ padding) fits value_of_v
          ∙ take_at (front ++ p.bytes) padding (8 + length p.bytes) long,
      subst (Fragment.IsFragment (drop 2 (front ++ p.bytes))) (same_slot p number within)
          (IsFragment-written slot p.bytes (record { offset = omega (arith, within); identification = small })),
    )
