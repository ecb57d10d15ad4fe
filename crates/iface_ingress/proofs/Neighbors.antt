-- What an arrival changes of the neighbours.
use Rattle.std.proofs.Common.{◌≡◌, Bool, true, false, if◌then◌else◌, List, refl, sym, ap, ◌∙◌, subst, inl, inr}
use Rattle.std.specs.Prelude.{ℕ, Option, Some, None}
use Rattle.ip_wire.specs.Ip.{carried_in}
use Rattle.wire_icmpv6.specs.Icmpv6 as Icmpv6
use Rattle.ip_wire.specs.IpProtocol.{IpProtocol}
use Rattle.ip_wire.specs.IpProtocol.TheVariants as Protocol
use Rattle.ip_wire.specs.IpRepr.{IpRepr}
use Rattle.ip_wire.specs.IpRepr.TheVariants as Ip
use Rattle.ip_wire.specs.Ipv4Fragment.{Ipv4Fragment}
use Rattle.ip_wire.specs.Ipv4Repr.{Ipv4Repr}
use Rattle.ip_wire.specs.Ipv6Repr.{Ipv6Repr}
use Rattle.ip_wire.specs.TcpHeader.{TcpHeader}
use Rattle.ip_wire.specs.declared.arp.repr.ArpRepr.{ArpRepr}
use Rattle.ip_wire.specs.declared.ethernet.repr.EthernetRepr.{EthernetRepr}
use Rattle.socket_context.specs.Packet.{PayloadValue, ControlV4, ControlV6, Bytes, Datagram, Segment}
use Rattle.iface_ingress.specs.Incoming.{Arp, Ip4, Ip6}
use Rattle.iface_ingress.specs.Arp.{teaches, learned, arp_arrived}
use Rattle.iface_tables.specs.Inner.{InnerValue, context_of}
use Rattle.iface_tables.specs.Neighbor.{CacheValue}
use Rattle.iface_ingress.specs.Arrives.{Arrived, ArrivesV4, ArrivesV6, Brings, is_direct, sender_of, renewed, renewed_by}
use Rattle.iface_ingress.specs.Delivered.{Slots, drawn_if, is_taken_raw, packet_delivered, segment_draws}
use Rattle.iface_ingress.specs.Processed.{handed_host, handed_reply, is_unclaimed, limited_host, message_host, names_no_endpoint, segment_host}
use Rattle.iface_ingress.proofs.Limit.{counted_neighbors}
use Rattle.iface_ingress.proofs.PathTold.{path_v4_so, path_v6_so}
use Rattle.iface_ingress.specs.Ndisc.{neighbor_learned}
use Rattle.iface_ingress.specs.Reassembled.{is_control_v6}
use Rattle.iface_ingress.specs.FragmentStored.{RenewsOnly, LearnsOnly}

drawn_neighbors : (draws : Bool) (i : InnerValue) → (drawn_if draws i).neighbors ≡ i.neighbors
drawn_neighbors true i = refl
drawn_neighbors false i = refl

segment_neighbors : (i : InnerValue) (slots : Slots) (ip : IpRepr) (header : TcpHeader) (bytes : List ℕ) →
    (segment_host i slots ip header bytes).neighbors ≡ i.neighbors
segment_neighbors i slots ip header bytes =
    elim (names_no_endpoint i ip) as (λ b. (if b then i else drawn_if (segment_draws (context_of i) ip header bytes slots) i).neighbors ≡ i.neighbors) [
      | true ↦ refl
      | false ↦ drawn_neighbors (segment_draws (context_of i) ip header bytes slots) i
    ]

-- no control message of IPv6 comes in such a packet
abbrev IsOther : IpRepr → Type 0
IsOther ip = carried_in ip ≡ Protocol.Icmpv6 → ⊥

limited_neighbors : (i : InnerValue) (slots : Slots) (ip : IpRepr) (payload : List ℕ) (taken : Bool) (carried : Option PayloadValue) →
    (limited_host i slots ip payload taken carried).neighbors ≡ (handed_host i slots ip payload carried).neighbors
limited_neighbors i slots ip payload taken carried =
    counted_neighbors (is_unclaimed i slots ip carried) i (handed_reply i slots ip payload taken carried) (handed_host i slots ip payload carried)

handed_v4 : (i : InnerValue) (slots : Slots) (header : Ipv4Repr) (payload : List ℕ) (carried : Option PayloadValue) →
    (handed_host i slots (Ip.Ipv4 header) payload carried).neighbors ≡ i.neighbors
handed_v4 i slots header payload (Some (ControlV4 message bytes)) =
    path_v4_so (λ (x : InnerValue). x.neighbors ≡ i.neighbors) i refl (λ address told. refl) slots payload message bytes
handed_v4 i slots header payload (Some (ControlV6 message bytes)) = refl
handed_v4 i slots header payload (Some (Bytes bytes)) = refl
handed_v4 i slots header payload (Some (Datagram udp bytes)) = refl
handed_v4 i slots header payload (Some (Segment tcp bytes)) = segment_neighbors i slots (Ip.Ipv4 header) tcp bytes
handed_v4 i slots header payload None = refl

-- neighbour messages count right after the IPv6 header alone
not_control : (protocol : IpProtocol) → (protocol ≡ Protocol.Icmpv6 → ⊥) → is_control_v6 protocol ≡ false
not_control Protocol.Icmpv6 other = absurd (other refl)
not_control protocol other = refl

message_neighbors : (i : InnerValue) (slots : Slots) (header : Ipv6Repr) (message : Icmpv6.MessageValue) (bytes : List ℕ) → IsOther (Ip.Ipv6 header) →
    (message_host i slots header message bytes).neighbors ≡ i.neighbors
message_neighbors i slots header (Icmpv6.Ndisc message) bytes other =
    ap (λ b. (if b then (neighbor_learned i header message).inner else i).neighbors) (not_control header.next_header other)
message_neighbors i slots header (Icmpv6.DstUnreachable reason about) bytes other = refl
message_neighbors i slots header (Icmpv6.PktTooBig mtu about) bytes other =
    path_v6_so (λ (x : InnerValue). x.neighbors ≡ i.neighbors) i refl (λ address told. refl) slots (Icmpv6.PktTooBig mtu about) bytes
message_neighbors i slots header (Icmpv6.TimeExceeded reason about) bytes other = refl
message_neighbors i slots header (Icmpv6.ParamProblem reason pointer about) bytes other = refl
message_neighbors i slots header (Icmpv6.EchoRequest ident seq_no) bytes other = refl
message_neighbors i slots header (Icmpv6.EchoReply ident seq_no) bytes other = refl

handed_v6 : (i : InnerValue) (slots : Slots) (header : Ipv6Repr) (payload : List ℕ) (carried : Option PayloadValue) → IsOther (Ip.Ipv6 header) →
    (handed_host i slots (Ip.Ipv6 header) payload carried).neighbors ≡ i.neighbors
handed_v6 i slots header payload (Some (ControlV4 message bytes)) other = refl
handed_v6 i slots header payload (Some (ControlV6 message bytes)) other = message_neighbors i slots header message bytes other
handed_v6 i slots header payload (Some (Bytes bytes)) other = refl
handed_v6 i slots header payload (Some (Datagram udp bytes)) other = refl
handed_v6 i slots header payload (Some (Segment tcp bytes)) other = segment_neighbors i slots (Ip.Ipv6 header) tcp bytes
handed_v6 i slots header payload None other = refl

unrenewed : (i : InnerValue) (link : Option EthernetRepr) (ip : IpRepr) (n : CacheValue) → n ≡ i.neighbors → RenewsOnly i link (sender_of ip) n
unrenewed i None ip n same = same
unrenewed i (Some link) ip n same = inl same

renewed_at : (i : InnerValue) (link : Option EthernetRepr) (ip : IpRepr) → RenewsOnly i link (sender_of ip) (renewed_by i link (sender_of ip)).neighbors
renewed_at i None ip = refl
renewed_at i (Some link) ip = inr refl

renews : (i : InnerValue) (link : Option EthernetRepr) (ip : IpRepr) → RenewsOnly i link (sender_of ip) (renewed i link ip).neighbors
renews i link ip =
    elim (is_direct i ip) as (λ b. RenewsOnly i link (sender_of ip) (if b then renewed_by i link (sender_of ip) else i).neighbors) [
      | true ↦ renewed_at i link ip
      | false ↦ unrenewed i link ip i.neighbors refl
    ]

renews_along : (i : InnerValue) (link : Option EthernetRepr) (ip : IpRepr) (n : CacheValue) → n ≡ (renewed i link ip).neighbors →
    RenewsOnly i link (sender_of ip) n
renews_along i link ip n same = let P : CacheValue → Type 0 = λ c. RenewsOnly i link (sender_of ip) c in subst P (sym same) (renews i link ip)

abbrev neighbors_in : InnerValue → CacheValue
neighbors_in i = i.neighbors

v4_renews : (ours : Bool) (i : InnerValue) (slots : Slots) (link : Option EthernetRepr) (header : Ipv4Repr) (payload : List ℕ) (a : Arrived) →
    ArrivesV4 ours i slots link (Ip.Ipv4 header) payload a → RenewsOnly i link (sender_of (Ip.Ipv4 header)) a.inner.neighbors
v4_renews true i slots link header payload a (carried, is, handed) =
    renews_along i link (Ip.Ipv4 header) a.inner.neighbors
    (ap neighbors_in handed.inner
    ∙ limited_neighbors (renewed i link (Ip.Ipv4 header)) (packet_delivered (Ip.Ipv4 header) payload slots) (Ip.Ipv4 header) payload
    (is_taken_raw (Ip.Ipv4 header) slots) carried
    ∙ handed_v4 (renewed i link (Ip.Ipv4 header)) (packet_delivered (Ip.Ipv4 header) payload slots) header payload carried)
v4_renews false i slots link header payload a h = unrenewed i link (Ip.Ipv4 header) a.inner.neighbors (ap neighbors_in h.inner)

v6_renews : (ours : Bool) (i : InnerValue) (slots : Slots) (link : Option EthernetRepr) (header : Ipv6Repr) (payload : List ℕ) (a : Arrived) →
    ArrivesV6 ours i slots link (Ip.Ipv6 header) payload a → IsOther (Ip.Ipv6 header) → RenewsOnly i link (sender_of (Ip.Ipv6 header)) a.inner.neighbors
v6_renews true i slots link header payload a (carried, is, handed) other =
    renews_along i link (Ip.Ipv6 header) a.inner.neighbors
    (ap neighbors_in handed.inner
    ∙ limited_neighbors (renewed i link (Ip.Ipv6 header)) (packet_delivered (Ip.Ipv6 header) payload slots) (Ip.Ipv6 header) payload
    (is_taken_raw (Ip.Ipv6 header) slots) carried
    ∙ handed_v6 (renewed i link (Ip.Ipv6 header)) (packet_delivered (Ip.Ipv6 header) payload slots) header payload carried other)
v6_renews false i slots link header payload a h other = unrenewed i link (Ip.Ipv6 header) a.inner.neighbors (ap neighbors_in h.inner)

pub renews_v4 : (i : InnerValue) (slots : Slots) (link : Option EthernetRepr) (header : Ipv4Repr) (fragment : Ipv4Fragment) (payload : List ℕ) (a : Arrived) →
    Brings i slots (Some (Ip4 link header fragment payload)) a → RenewsOnly i link (sender_of (Ip.Ipv4 header)) a.inner.neighbors
renews_v4 i slots link header fragment payload a h = v4_renews _ i slots link header payload a h

pub renews_v6 : (i : InnerValue) (slots : Slots) (link : Option EthernetRepr) (header : Ipv6Repr) (payload : List ℕ) (a : Arrived) →
    Brings i slots (Some (Ip6 link header payload)) a → IsOther (Ip.Ipv6 header) → RenewsOnly i link (sender_of (Ip.Ipv6 header)) a.inner.neighbors
renews_v6 i slots link header payload a h other = v6_renews _ i slots link header payload a h other

learns_at : (i : InnerValue) (packet : ArpRepr) → LearnsOnly i packet (arp_arrived i packet)
learns_at i packet = elim (teaches i packet) as (λ b. LearnsOnly i packet (if b then learned i packet else i)) [ true ↦ inr refl | false ↦ inl refl ]

pub learns : (i : InnerValue) (slots : Slots) (link : EthernetRepr) (packet : ArpRepr) (a : Arrived) → Brings i slots (Some (Arp link packet)) a →
    LearnsOnly i packet a.inner
learns i slots link packet a h = let P : InnerValue → Type 0 = λ v. LearnsOnly i packet v in subst P (sym h.inner) (learns_at i packet)
