-- The protocol that a frame names is the one that was sent.
use Rattle.std.proofs.Common.{◌≡◌, ℕ, List, ◌++◌, Option, Some, refl, sym, subst, ap, ◌∙◌}
use Rattle.net_base.specs.ChecksumCapabilities.{ChecksumCapabilities}
use Rattle.iface_ingress.specs.HardwareAddress.{HardwareAddress}
use Rattle.wire_ip.specs.declared.ip.repr.IpRepr.{IpRepr}
use Rattle.wire_ip.specs.declared.ip.repr.IpRepr.TheVariants as Ip
use Rattle.socket_context.specs.Packet.{PacketValue, PayloadValue, packet_of, payload_written}
use Rattle.iface_egress.specs.Inner.{InnerValue}
use Rattle.iface_ingress.specs.Incoming.{IncomingValue, IsContent}
use Rattle.iface_ingress.specs.Sent.{AreSealed}
use Rattle.iface_ingress.proofs.OneContent.{one-content}
use Rattle.iface_egress.specs.Departure.{Departure, Asks, Tells, Whole, Part}
use Rattle.iface_egress.specs.IsTransmitted.{frame_of}
use Rattle.iface_egress.specs.declared.frame.CutHeader.TheVariants as Cut
use Rattle.iface_egress.specs.declared.frame.NeighborQuery.TheVariants as Query
use Rattle.interface.specs.Delivered.{CanArrive, packet_read, read_from, read_of, protocol_read, protocol_sent, NamesNoPorts, HasNoPorts, SendsNoPorts}
use Rattle.iface_ingress.proofs.Bare.{bare_v6}
use Rattle.iface_egress.specs.Departure.{solicitation, solicitation_header}
use Rattle.wire_ip.specs.Ip.{carried_in}
use Rattle.wire_ip.specs.Ipv6 as Ipv6
use Rattle.wire_ip.specs.declared.ipv6.repr.Ipv6Repr.{Ipv6Repr}
use Rattle.interface.proofs.Arrives.{arrives}

packet_names : (caps : ChecksumCapabilities) (local to : HardwareAddress) (h : IpRepr) (x : PayloadValue) →
    protocol_read (packet_read caps local to (packet_of h x)) ≡ protocol_sent (Whole to (packet_of h x))
packet_names caps local to (Ip.Ipv4 v) x = refl
packet_names caps local to (Ip.Ipv6 v) x = refl

names : (local : HardwareAddress) (caps : ChecksumCapabilities) (d : Departure) → protocol_read (read_from local caps d) ≡ protocol_sent d
names local caps (Asks (Query.Arp from source target)) = refl
names local caps (Asks (Query.Neighbor from source target)) = refl
names local caps (Tells packet) = refl
names local caps (Whole to p) = packet_names caps local to p.header p.payload
names local caps (Part to (Cut.Ipv4 header) p) = refl
names local caps (Part to (Cut.Ipv6 header number) p) = refl

packet_free : (caps : ChecksumCapabilities) (local to : HardwareAddress) (h : IpRepr) (x : PayloadValue) → SendsNoPorts caps (Whole to (packet_of h x)) →
    HasNoPorts (packet_read caps local to (packet_of h x))
packet_free caps local to (Ip.Ipv4 v) x free = free
packet_free caps local to (Ip.Ipv6 v) x free = free

is_free : (local : HardwareAddress) (caps : ChecksumCapabilities) (d : Departure) → SendsNoPorts caps d → HasNoPorts (read_from local caps d)
is_free local caps (Asks (Query.Arp from source target)) free = tt
is_free local caps (Asks (Query.Neighbor from source target)) free =
    let packet : PacketValue = solicitation from source target in
    let header : Ipv6Repr = Ipv6.normal (solicitation_header source target) in
    let direct = bare_v6 header (payload_written caps packet.header packet.payload) refl in
    subst (λ (h : IpRepr). NamesNoPorts (carried_in h)) (sym direct.0) (λ is. absurd cc, λ is. absurd cc)
is_free local caps (Tells packet) free = tt
is_free local caps (Whole to p) free = packet_free caps local to p.header p.payload free
is_free local caps (Part to (Cut.Ipv4 header) p) free = free
is_free local caps (Part to (Cut.Ipv6 header number) p) free = free

some_is : (x y : IncomingValue) → (let o : Option IncomingValue = Some x in o) ≡ Some y → x ≡ y
some_is x y is = cc

-- what is read is what arrives
is_that : (i : InnerValue) (other : HardwareAddress) (receiver : ChecksumCapabilities) (d : Departure) (padding : List ℕ) (v : IncomingValue) →
    AreSealed i.checksums receiver → CanArrive i.hardware other d
    → IsContent other receiver (frame_of i d ++ padding) (Some v) → read_of i d ≡ v
is_that i other receiver d padding v sealed can content =
    some_is (read_of i d) v (one-content other receiver (frame_of i d ++
    padding) (Some (read_of i d)) (Some v) (arrives i other receiver d padding sealed can) content)

pub names-same : (i : InnerValue) (other : HardwareAddress) (receiver : ChecksumCapabilities) (d : Departure) (padding : List ℕ) (v : IncomingValue) →
    AreSealed i.checksums receiver → CanArrive i.hardware other d
    → IsContent other receiver (frame_of i d ++ padding) (Some v) → protocol_read v ≡ protocol_sent d
names-same i other receiver d padding v sealed can content =
    ap protocol_read (sym (is_that i other receiver d padding v sealed can content)) ∙ names i.hardware i.checksums d

pub names-none : (i : InnerValue) (other : HardwareAddress) (receiver : ChecksumCapabilities) (d : Departure) (padding : List ℕ) (v : IncomingValue) →
    AreSealed i.checksums receiver → CanArrive i.hardware other d
    → SendsNoPorts i.checksums d → IsContent other receiver (frame_of i d ++ padding) (Some v) → HasNoPorts v
names-none i other receiver d padding v sealed can free content =
    subst HasNoPorts (is_that i other receiver d padding v sealed can content) (is_free i.hardware i.checksums d free)
