-- What left in a frame is read in it.
use Rattle.std.proofs.Common.{◌≡◌, ℕ, zero, suc, ◌+◌, ◌<◌, List, [], ◌∷◌, ◌++◌, length, drop, replicate, Some, None, refl, sym, ◌∙◌, length-append, length-drop}
use Rattle.std.proofs.Common.{append_assoc, subst, arith}
use Rattle.std.proofs.lemmas.List.{get_or-drop}
use Rattle.std.specs.List.{AllByRecursion}
use Rattle.net_base.specs.ChecksumCapabilities.{ChecksumCapabilities}
use Rattle.wire_icmpv4.proofs.Lengths as Lengths4
use Rattle.wire_icmpv6.proofs.Lengths as Lengths6
use Rattle.wire_ip.proofs.Lengths.{length-datagram}
use Rattle.wire_tcp.proofs.Lengths.{length-segment}
use Rattle.iface_ingress.specs.Address.{IsEthernetAddress, IsIpv4Address, IsIpv6Address, solicited_of, solicited_prefix}
use Rattle.iface_ingress.specs.Fields.{IsBytes}
use Rattle.iface_egress.specs.Arp as Arps
use Rattle.iface_ingress.specs.ArpRepr.{ArpRepr}
use Rattle.iface_ingress.specs.ArpRepr.TheVariants as Arp
use Rattle.iface_ingress.specs.EthernetAddress.{EthernetAddress}
use Rattle.iface_ingress.specs.EthernetProtocol.TheVariants as Ether
use Rattle.iface_ingress.specs.HardwareAddress.{HardwareAddress}
use Rattle.iface_ingress.specs.HardwareAddress.TheVariants as Hardware
use Rattle.wire_ip.specs.Ip as Ips
use Rattle.wire_ip.specs.declared.ip.repr.IpRepr.{IpRepr}
use Rattle.wire_ip.specs.declared.ip.repr.IpRepr.TheVariants as Ip
use Rattle.wire_ip.specs.Ipv4 as Ipv4
use Rattle.wire_ip.specs.Ipv6 as Ipv6
use Rattle.wire_ip.specs.declared.ipv6.repr.Ipv6Repr.{Ipv6Repr}
use Rattle.iface_ingress.specs.EthernetRepr.{EthernetRepr}
use Rattle.wire_ip.specs.declared.ipv4.fragment.Ipv4Fragment.{Ipv4Fragment}
use Rattle.wire_ip.specs.declared.ipv4.repr.Ipv4Repr.{Ipv4Repr}
use Rattle.iface_ingress.specs.Ipv4Address.{Ipv4Address}
use Rattle.iface_ingress.specs.Ipv6Address.{Ipv6Address}
use Rattle.socket_context.specs.Packet.{PacketValue, PayloadValue, packet_of, payload_written}
use Rattle.socket_context.proofs.Lengths.{Lengths, length-payload}
use Rattle.iface_egress.specs.Inner.{InnerValue}
use Rattle.iface_ingress.specs.FragmentList.{FragmentPart}
use Rattle.iface_ingress.specs.Incoming.{IsIncoming}
use Rattle.iface_ingress.specs.Incoming as Heard
use Rattle.iface_ingress.specs.Sent as Sent
use Rattle.iface_ingress.specs.Sent.{framed, CanFrame, AreSealed}
use Rattle.iface_ingress.proofs.FramesArrive.{packet-arrives, fragment-arrives, arp-arrives}
use Rattle.iface_egress.specs.Departure.{Departure, Asks, Tells, Whole, Part, packet_frame, fragment_frame, solicitation_frame, arp_frame, arp_link, arp_request}
use Rattle.iface_egress.specs.Departure.{every_hardware_addr, solicited_node, solicited_hardware_addr, solicitation, fragment_v6, fragment_header}
use Rattle.iface_egress.specs.declared.frame.CutHeader.{CutHeader}
use Rattle.iface_egress.specs.declared.frame.CutHeader.TheVariants as Cut
use Rattle.iface_egress.specs.IsTransmitted.{frame_of}
use Rattle.iface_egress.specs.declared.frame.NeighborQuery.{NeighborQuery}
use Rattle.iface_egress.specs.declared.frame.NeighborQuery.TheVariants as Query
use Rattle.interface.specs.Delivered.{IsOfMedium, link_of, packet_read, fragment_read, neighbor_query_read, read_of, IsOnEthernet, IsWritable, IsWritableFragment}
use Rattle.interface.specs.Delivered.{IsNeighborQuery, CanArrive}

lengths : Lengths
lengths = record { udp = length-datagram; tcp = length-segment; icmpv4 = Lengths4.length-message; icmpv6 = Lengths6.length-message }

pub length-written : (caps : ChecksumCapabilities) (p : PacketValue) → IsWritable p →
    Ips.payload_len_of p.header ≡ length (payload_written caps p.header p.payload)
length-written caps p writable =
    writable.sendable.len ∙ sym (length-payload lengths caps p.header p.payload writable.sendable.payload writable.payload)

-- PACKETS

-- a link header between Ethernet addresses can stand before a packet
can_frame : (local to other : EthernetAddress) (h : IpRepr) → IsEthernetAddress local → IsEthernetAddress to
    → CanFrame (Hardware.Ethernet other) (link_of (Hardware.Ethernet local) (Hardware.Ethernet to) (Sent.ether_for h)) (Sent.ether_for h)
can_frame local to other (Ip.Ipv4 v) from receives = (record { source = from; destination = receives; carried = omega arith }, refl)
can_frame local to other (Ip.Ipv6 v) from receives = (record { source = from; destination = receives; carried = omega arith }, refl)

abbrev Reads : HardwareAddress → HardwareAddress → HardwareAddress → ChecksumCapabilities → ChecksumCapabilities → List ℕ → PacketValue → Type 0
Reads local to other sender receiver padding p = IsIncoming other receiver (packet_frame sender local to p ++ padding) (packet_read sender local to p)

on-ethernet : (local to other : EthernetAddress) (sender receiver : ChecksumCapabilities) (h : IpRepr) (x : PayloadValue) (padding : List ℕ) →
    AreSealed sender receiver
    → IsEthernetAddress local → IsEthernetAddress to → IsWritable (packet_of h x)
    → Reads (Hardware.Ethernet local) (Hardware.Ethernet to) (Hardware.Ethernet other) sender receiver padding (packet_of h x)
on-ethernet local to other sender receiver (Ip.Ipv4 v) x padding sealed from receives w =
    packet-arrives (Hardware.Ethernet other) sender receiver (link_of (Hardware.Ethernet local) (Hardware.Ethernet to) Ether.Ipv4) (Ip.Ipv4 v)
    (payload_written sender (Ip.Ipv4 v) x) padding
    (can_frame local to other (Ip.Ipv4 v) from receives) w.sendable.header w.header (length-written sender (packet_of (Ip.Ipv4 v) x) w) sealed
on-ethernet local to other sender receiver (Ip.Ipv6 v) x padding sealed from receives w =
    packet-arrives (Hardware.Ethernet other) sender receiver (link_of (Hardware.Ethernet local) (Hardware.Ethernet to) Ether.Ipv6) (Ip.Ipv6 v)
    (payload_written sender (Ip.Ipv6 v) x) padding
    (can_frame local to other (Ip.Ipv6 v) from receives) w.sendable.header w.header (length-written sender (packet_of (Ip.Ipv6 v) x) w) sealed

bare : (sender receiver : ChecksumCapabilities) (h : IpRepr) (x : PayloadValue) (padding : List ℕ) → AreSealed sender receiver → IsWritable (packet_of h x)
    → Reads Hardware.Ip Hardware.Ip Hardware.Ip sender receiver padding (packet_of h x)
bare sender receiver (Ip.Ipv4 v) x padding sealed w =
    packet-arrives Hardware.Ip sender receiver None (Ip.Ipv4 v) (payload_written sender (Ip.Ipv4 v) x) padding tt w.sendable.header w.header
    (length-written sender (packet_of (Ip.Ipv4 v) x) w) sealed
bare sender receiver (Ip.Ipv6 v) x padding sealed w =
    packet-arrives Hardware.Ip sender receiver None (Ip.Ipv6 v) (payload_written sender (Ip.Ipv6 v) x) padding tt w.sendable.header w.header
    (length-written sender (packet_of (Ip.Ipv6 v) x) w) sealed

pub whole : (local to other : HardwareAddress) (sender receiver : ChecksumCapabilities) (p : PacketValue) (padding : List ℕ) → AreSealed sender receiver
    → IsOfMedium other local → IsOfMedium other to → IsWritable p → Reads local to other sender receiver padding p
whole (Hardware.Ethernet local) (Hardware.Ethernet to) (Hardware.Ethernet other) sender receiver p padding sealed from receives w =
    on-ethernet local to other sender receiver p.header p.payload padding sealed from receives w
whole (Hardware.Ethernet local) Hardware.Ip (Hardware.Ethernet other) sender receiver p padding sealed from receives w = absurd receives
whole Hardware.Ip to (Hardware.Ethernet other) sender receiver p padding sealed from receives w = absurd from
whole (Hardware.Ethernet local) to Hardware.Ip sender receiver p padding sealed from receives w = absurd from
whole Hardware.Ip (Hardware.Ethernet to) Hardware.Ip sender receiver p padding sealed from receives w = absurd receives
whole Hardware.Ip Hardware.Ip Hardware.Ip sender receiver p padding sealed from receives w = bare sender receiver p.header p.payload padding sealed w

-- PIECES

abbrev cut_header : Ipv4Repr → FragmentPart → Ipv4Repr
cut_header header p = record header { payload_len = length p.bytes }

cut_value : (header : Ipv4Repr) (p : FragmentPart) → Ipv4.IsValue header → Ipv4.IsValue (cut_header header p)
cut_value header p value =
    record { source = value.source; destination = value.destination; identification = value.identification; protocol = value.protocol; hop_limit = value.hop_limit }

abbrev slot_of : FragmentPart → Ipv4Fragment
slot_of p = record { offset = p.offset; more = p.more }

abbrev ReadsFragment : HardwareAddress → HardwareAddress → HardwareAddress → ChecksumCapabilities → ChecksumCapabilities → List ℕ → CutHeader → FragmentPart → Type 0
ReadsFragment local to other sender receiver padding header p =
    IsIncoming other receiver (fragment_frame sender local to header p ++ padding) (fragment_read local to header p)

fragment4 : (local to other : HardwareAddress) (sender receiver : ChecksumCapabilities) (header : Ipv4Repr) (p : FragmentPart) (padding : List ℕ) →
    AreSealed sender receiver
    → IsOfMedium other local → IsOfMedium other to → IsWritableFragment (Cut.Ipv4 header) p → ReadsFragment local to other sender receiver padding (Cut.Ipv4 header) p
fragment4 (Hardware.Ethernet local) (Hardware.Ethernet to) (Hardware.Ethernet other) sender receiver header p padding sealed from receives w =
    fragment-arrives (Hardware.Ethernet other) sender receiver (link_of (Hardware.Ethernet local) (Hardware.Ethernet to) Ether.Ipv4) (cut_header header p)
    (slot_of p) p.bytes padding
    (can_frame local to other (Ip.Ipv4 header) from receives) w.short (cut_value header p w.header_is) refl w.within w.unit sealed
fragment4 (Hardware.Ethernet local) Hardware.Ip (Hardware.Ethernet other) sender receiver header p padding sealed from receives w = absurd receives
fragment4 Hardware.Ip to (Hardware.Ethernet other) sender receiver header p padding sealed from receives w = absurd from
fragment4 (Hardware.Ethernet local) to Hardware.Ip sender receiver header p padding sealed from receives w = absurd from
fragment4 Hardware.Ip (Hardware.Ethernet to) Hardware.Ip sender receiver header p padding sealed from receives w = absurd receives
fragment4 Hardware.Ip Hardware.Ip Hardware.Ip sender receiver header p padding sealed from receives w =
    fragment-arrives Hardware.Ip sender receiver None (cut_header header p) (slot_of p) p.bytes padding tt w.short (cut_value header p w.header_is) refl w.within
    w.unit sealed

module _ (sender receiver : ChecksumCapabilities) (header : Ipv6Repr) (number : ℕ) (p : FragmentPart) (padding : List ℕ) (sealed : AreSealed sender receiver)
    (w : IsWritableFragment (Cut.Ipv6 header number) p) where
  abbrev v : Ipv6Repr
  v = fragment_v6 header p

  abbrev front : List ℕ
  front = fragment_header header.next_header number p

  value6 : Ipv6.IsValue v
  value6 = record { source = w.header_is.0.source; destination = w.header_is.0.destination; protocol = omega arith; hop_limit = w.header_is.0.hop_limit }

  long6 : v.payload_len ≡ length (front ++ p.bytes)
  long6 = omega (arith, length-append front p.bytes)

  fits6 : Ipv6.Fits v
  fits6 = omega (arith, w.short)

  split6 : (Ipv6.written v ++ front) ++ p.bytes ≡ Ipv6.written v ++ (front ++ p.bytes)
  split6 = append_assoc (Ipv6.written v) front p.bytes

  fragment6 : (local to other : HardwareAddress) → IsOfMedium other local → IsOfMedium other to →
      ReadsFragment local to other sender receiver padding (Cut.Ipv6 header number) p
  fragment6 (Hardware.Ethernet local) (Hardware.Ethernet to) (Hardware.Ethernet other) from receives =
      let link : EthernetRepr = record { src_addr = local; dst_addr = to; ethertype = Ether.Ipv6 } in
      subst (λ (b : List ℕ). IsIncoming (Hardware.Ethernet other) receiver (framed (Some link) b ++ padding) (Heard.Ip6 (Some link) (Ipv6.normal v)
      (front ++ p.bytes))) (sym split6)
      (packet-arrives (Hardware.Ethernet other) sender receiver (Some link) (Ip.Ipv6 v) (front ++ p.bytes) padding
      (can_frame local to other (Ip.Ipv6 v) from receives) fits6 value6 long6 sealed)
  fragment6 (Hardware.Ethernet local) Hardware.Ip (Hardware.Ethernet other) from receives = absurd receives
  fragment6 Hardware.Ip to (Hardware.Ethernet other) from receives = absurd from
  fragment6 (Hardware.Ethernet local) to Hardware.Ip from receives = absurd from
  fragment6 Hardware.Ip (Hardware.Ethernet to) Hardware.Ip from receives = absurd receives
  fragment6 Hardware.Ip Hardware.Ip Hardware.Ip from receives =
      subst (λ (b : List ℕ). IsIncoming Hardware.Ip receiver (b ++ padding) (Heard.Ip6 None (Ipv6.normal v) (front ++ p.bytes))) (sym split6)
      (packet-arrives Hardware.Ip sender receiver None (Ip.Ipv6 v) (front ++ p.bytes) padding tt fits6 value6 long6 sealed)

pub fragment : (local to other : HardwareAddress) (sender receiver : ChecksumCapabilities) (header : CutHeader) (p : FragmentPart) (padding : List ℕ) →
    AreSealed sender receiver
    → IsOfMedium other local → IsOfMedium other to → IsWritableFragment header p → ReadsFragment local to other sender receiver padding header p
fragment local to other sender receiver (Cut.Ipv4 header) p padding sealed from receives w = fragment4 local to other sender receiver header p padding sealed from receives w
fragment local to other sender receiver (Cut.Ipv6 header number) p padding sealed from receives w =
    fragment6 sender receiver header number p padding sealed w local to other from receives

-- QUESTIONS AND ANSWERS

arp : (other : HardwareAddress) (receiver : ChecksumCapabilities) (packet : ArpRepr) (padding : List ℕ) → IsOnEthernet other → Arps.IsValue packet
    → IsIncoming other receiver (arp_frame packet ++ padding) (Heard.Arp (arp_link packet) (Arps.normal packet))
arp (Hardware.Ethernet other) receiver (Arp.EthernetIpv4 operation source source_protocol target target_protocol) padding on value =
    let packet : ArpRepr = Arp.EthernetIpv4 operation source source_protocol target target_protocol in
    arp-arrives (Hardware.Ethernet other) receiver (arp_link packet) packet padding (
      record {
        source = value.1;
        destination = value.3;
        carried =
            omega arith;
      },
      refl,
    ) value
arp Hardware.Ip receiver packet padding on value = absurd on

-- the bytes of an address that is made of others
pub all-bytes : (bytes : List ℕ) → AllByRecursion (λ (b : ℕ). b < 256) bytes → IsBytes bytes
all-bytes [] small i = omega arith
all-bytes (b ∷ bytes) small zero = small.0
all-bytes (b ∷ bytes) small (suc i) = all-bytes bytes small.1 i

pub joined : (a b : List ℕ) → IsBytes a → IsBytes b → IsBytes (a ++ b)
joined [] b small rest i = rest i
joined (x ∷ a) b small rest zero = small zero
joined (x ∷ a) b small rest (suc i) = joined a b (λ j. small (suc j)) rest i

pub following : (n : ℕ) (bytes : List ℕ) → IsBytes bytes → IsBytes (drop n bytes)
following n bytes small = λ i. rw (get_or-drop n bytes i 0) (small (n + i))

pub repeated : (n b : ℕ) → b < 256 → IsBytes (replicate n b)
repeated zero b small i = omega arith
repeated (suc n) b small zero = small
repeated (suc n) b small (suc i) = repeated n b small i

every_hardware_addr_is : IsEthernetAddress every_hardware_addr
every_hardware_addr_is = (refl, repeated 6 0xff (omega arith))

request_is : (local : EthernetAddress) (source target : Ipv4Address) → IsEthernetAddress local → IsIpv4Address source → IsIpv4Address target →
    Arps.IsValue (arp_request local source target)
request_is local source target is_local is_source is_target = (omega arith, is_local, is_source, every_hardware_addr_is, is_target)

prefix_is : IsBytes solicited_prefix
prefix_is = all-bytes solicited_prefix (
  omega arith,
  (
    omega arith,
    (
      omega arith,
      (omega arith, (omega arith, (omega arith, (omega arith, (omega arith, (omega arith, (omega arith, (omega arith, (omega arith, (omega arith, tt)))))))))),
    ),
  ),
)

group_is : (target : Ipv6Address) → IsIpv6Address target → IsIpv6Address (solicited_node target)
group_is target is = (
  omega (arith, is.0, length-append solicited_prefix (drop 13 target.0), length-drop {A = ℕ} 13 target.0),
  joined solicited_prefix (drop 13 target.0) prefix_is (following 13 target.0 is.1),
)

hardware_addr_is : (target : Ipv6Address) → IsIpv6Address target → IsEthernetAddress (solicited_hardware_addr target)
hardware_addr_is target is = (
  omega (arith, (group_is target is).0, length-drop {A = ℕ} 12 (solicited_of target)),
  joined (0x33 ∷ 0x33 ∷ []) (drop 12 (solicited_of target)) (all-bytes (0x33 ∷ 0x33 ∷ []) (omega arith, (omega arith, tt)))
      (following 12 (solicited_of target) (group_is target is).1),
)

-- a solicitation can be written
pub solicitation_is : (local : EthernetAddress) (source target : Ipv6Address) → IsEthernetAddress local → IsIpv6Address source → IsIpv6Address target →
    IsWritable (solicitation local source target)
solicitation_is local source target is_local is_source is_target = record {
  sendable = record { header = omega arith; payload = (tt, omega arith); len = refl };
  header = record { source = is_source; destination = group_is target is_target; protocol = omega arith; hop_limit = omega arith };
  payload = ((is_target, (omega (arith, is_local.0), is_local.1)), refl);
}

neighbor_query : (other : HardwareAddress) (sender receiver : ChecksumCapabilities) (q : NeighborQuery) (padding : List ℕ) → AreSealed sender receiver →
    IsOnEthernet other → IsNeighborQuery q
    → IsIncoming other receiver (solicitation_frame sender q ++ padding) (neighbor_query_read sender q)
neighbor_query other sender receiver (Query.Arp local source target) padding sealed on is =
    arp other receiver (arp_request local source target) padding on (request_is local source target is.0 is.1 is.2)
neighbor_query (Hardware.Ethernet other) sender receiver (Query.Neighbor local source target) padding sealed on is =
    whole (Hardware.Ethernet local) (Hardware.Ethernet (solicited_hardware_addr target)) (Hardware.Ethernet other) sender receiver (solicitation local source target)
    padding sealed is.0 (hardware_addr_is target is.2)
    (solicitation_is local source target is.0 is.1 is.2)
neighbor_query Hardware.Ip sender receiver (Query.Neighbor local source target) padding sealed on is = absurd on

-- ALL FRAMES

pub arrives : (i : InnerValue) (other : HardwareAddress) (receiver : ChecksumCapabilities) (d : Departure) (padding : List ℕ) → AreSealed i.checksums receiver →
    CanArrive i.hardware other d
    → IsIncoming other receiver (frame_of i d ++ padding) (read_of i d)
arrives i other receiver (Asks q) padding sealed can = neighbor_query other i.checksums receiver q padding sealed can.0 can.1
arrives i other receiver (Tells packet) padding sealed can = arp other receiver packet padding can.0 can.1
arrives i other receiver (Whole to p) padding sealed can = whole i.hardware to other i.checksums receiver p padding sealed can.0.from can.0.receiver can.1
arrives i other receiver (Part to header p) padding sealed can =
    fragment i.hardware to other i.checksums receiver header p padding sealed can.0.from can.0.receiver can.1
