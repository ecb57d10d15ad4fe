-- How long frames are.
use Rattle.std.proofs.Common.{◌≡◌, ◌+◌, ◌≤◌, Bool, drop, Option, Some, refl, subst, arith}
use Rattle.std.proofs.lemmas.List.{length-take}
use Rattle.ip_wire.specs.EthernetAddress.{EthernetAddress}
use Rattle.ip_wire.specs.declared.arp.repr.ArpRepr.{ArpRepr}
use Rattle.ip_wire.specs.HardwareAddress.{HardwareAddress}
use Rattle.ip_wire.specs.HardwareAddress.TheVariants as Hardware
use Rattle.ip_wire.specs.Ip.{header_len_in, payload_len_of}
use Rattle.ip_wire.specs.IpRepr.{IpRepr}
use Rattle.ip_wire.specs.IpRepr.TheVariants as Ip
use Rattle.socket_context.specs.Packet.{PacketValue, payload_len}
use Rattle.iface_tables.specs.Inner.{InnerValue}
use Rattle.iface_tables.proofs.PathMtu.{mtu_low, mtu_within}
use Rattle.iface_egress.specs.Departure.{Departure, Asks, Tells, Whole, link_len, fragment_header_len, destination_in, solicitation_len}
use Rattle.iface_egress.specs.Fragments.{LeftValue, fragment_room, cut_mtu, departure_from}
use Rattle.iface_egress.specs.Plan.{plan_of}
use Rattle.iface_egress.specs.IsTransmitted.{numbered, numbered_header, cut_of, frame_len_of}
use Rattle.iface_egress.specs.Departing.{departure_by, link_room}
use Rattle.iface_egress.specs.declared.frame.CutHeader.{CutHeader}
use Rattle.iface_egress.specs.declared.frame.CutHeader.TheVariants as Cut
use Rattle.iface_egress.specs.declared.frame.NeighborQuery.{NeighborQuery}
use Rattle.iface_egress.specs.declared.frame.NeighborQuery.TheVariants as Query
use Rattle.iface_egress.proofs.Planned.{AsksFrom, plan_cases}

link_short : (from to : HardwareAddress) → link_len from to ≤ link_room from
link_short Hardware.Ip to = omega arith
link_short (Hardware.Ethernet local) Hardware.Ip = omega arith
link_short (Hardware.Ethernet local) (Hardware.Ethernet to) = omega arith

header_same : (i : InnerValue) (h : IpRepr) → header_len_in (numbered_header i h) ≡ header_len_in h
header_same i (Ip.Ipv4 v) = refl
header_same i (Ip.Ipv6 v) = refl

pub fragment_header_short : (h : CutHeader) → fragment_header_len h ≤ 48
fragment_header_short (Cut.Ipv4 v) = omega arith
fragment_header_short (Cut.Ipv6 v number) = omega arith

neighbor_query_short : (q : NeighborQuery) → solicitation_len q ≤ 86
neighbor_query_short (Query.Arp local source target) = omega arith
neighbor_query_short (Query.Neighbor local source target) = omega arith

room_of : (hardware : HardwareAddress) (local : EthernetAddress) → hardware ≡ Hardware.Ethernet local → link_room hardware ≡ 14
room_of hardware local is = rw is refl

asks_room : (hardware : HardwareAddress) (q : NeighborQuery) → AsksFrom hardware q → link_room hardware ≡ 14
asks_room hardware (Query.Arp local source target) is = room_of hardware local is
asks_room hardware (Query.Neighbor local source target) is = room_of hardware local is

pub fragment_short : (i : InnerValue) (l : LeftValue) → 576 ≤ i.mtu → frame_len_of i (departure_from i l) ≤ link_room i.hardware + i.mtu
fragment_short i l low =
    let mtu = cut_mtu i l in
    let least = mtu_low i.paths (destination_in l.header) i.instant i.mtu low in
    let within = mtu_within i.paths (destination_in l.header) i.instant i.mtu in
    omega (arith, least, within, link_short i.hardware l.to, fragment_header_short l.header, length-take (fragment_room l.header mtu) (drop l.at l.payload))

pub arp_short : (i : InnerValue) (local : EthernetAddress) (packet : ArpRepr) → 576 ≤ i.mtu → i.hardware ≡ Hardware.Ethernet local →
    frame_len_of i (Tells packet) ≤ link_room i.hardware + i.mtu
arp_short i local packet low is = omega (arith, room_of i.hardware local is)

IsShort : InnerValue → Departure → Type 0
IsShort i d = frame_len_of i d ≤ link_room i.hardware + i.mtu

some_is : (x d : Departure) → (let o : Option Departure = Some x in o) ≡ Some d → x ≡ d
some_is x d is = cc

pub planned_short : (i : InnerValue) (busy : Bool) (p : PacketValue) (d : Departure) → 576 ≤ i.mtu → payload_len_of p.header ≡ payload_len p.payload
    → departure_by i p (plan_of i busy p.header) ≡ Some d → frame_len_of i d ≤ link_room i.hardware + i.mtu
planned_short i busy p d low len =
    plan_cases i busy p.header (λ plan. departure_by i p plan ≡ Some d → frame_len_of i d ≤ link_room i.hardware + i.mtu)
    (λ is. absurd cc) (λ is. absurd cc) (λ is. absurd cc) (λ is. absurd cc)
    (λ q may from is. subst (λ e. frame_len_of i e ≤ link_room i.hardware + i.mtu) (some_is (Asks q) d is)
    (omega (arith, low, neighbor_query_short q, asks_room i.hardware q from)))
    (λ to short is. subst (λ e. frame_len_of i e ≤ link_room i.hardware + i.mtu) (some_is (Whole to (numbered i p)) d is)
    (omega (arith, short, len, header_same i p.header, link_short i.hardware to)))
    (λ to long short bare idle is. subst (λ e. frame_len_of i e ≤ link_room i.hardware + i.mtu) (some_is (departure_from i (cut_of i to p)) d is)
    (fragment_short i (cut_of i to p) low))
