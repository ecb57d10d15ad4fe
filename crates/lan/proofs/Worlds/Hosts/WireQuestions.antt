-- The frames of a host's own questions pass: requests and solicitations are known by their bytes.
use Rattle.std.proofs.Common.{◌≡◌, ℕ, ◌+◌, ◌==◌, ◌&&◌, ◌||◌, Bool, true, false, List, [], ◌∷◌, ◌++◌, length, slice_index, refl, sym, ◌∙◌, ap}
use Rattle.std.proofs.Common.{arith, length-append}
use Rattle.std.proofs.Common.{length-drop}
use Rattle.std.specs.Int.{w16, to_be_bytes}
use Rattle.std.proofs.lemmas.List.{drop_at}
use Rattle.wire_address.specs.Protocol.{ether_number}
use Rattle.sim_link.specs.ChecksumCapabilities.{ChecksumCapabilities}
use Rattle.sim_link.proofs.Named.{byte_following}
use Rattle.iface_egress.specs.Arp as Arps
use Rattle.iface_egress.specs.Departure.{arp_frame, arp_request, link_header, solicitation_frame, solicitation, solicitation_header, solicited_hardware_addr}
use Rattle.iface_egress.specs.declared.frame.NeighborQuery.TheVariants as Query
use Rattle.iface_ingress.specs.EthernetAddress.{EthernetAddress}
use Rattle.iface_ingress.specs.EthernetProtocol.TheVariants as Ether
use Rattle.iface_ingress.specs.Fields.{be16}
use Rattle.iface_ingress.specs.HardwareAddress.TheVariants as Hardware
use Rattle.iface_ingress.specs.Ipv4Address.{Ipv4Address}
use Rattle.iface_ingress.specs.Ipv6Address.{Ipv6Address}
use Rattle.interface.specs.Ipv6 as Ipv6
use Rattle.interface.specs.Ipv6Repr.{Ipv6Repr}
use Rattle.sockets.specs.Packet.{payload_written}
use Rattle.lan.specs.Worlds.Hosts.Wire.{asks, is_request, is_solicitation}
use Rattle.lan.proofs.Worlds.Hosts.WireFrames.{ether_following}
use Rattle.lan.proofs.Worlds.Hosts.WireTests.{be16_of, byte_of}

both_hold : (n m k l : ℕ) → n ≡ m → k ≡ l → (let b : Bool = m == m && l == l in b) ≡ true → n == m && k == l ≡ true
both_hold n m k l one two holds = rw (one, two) holds

all_hold : (n k l : ℕ) → n ≡ 0x86dd → k ≡ 58 → l ≡ 135 → n == 0x86dd && (k == 58 && l == 135) ≡ true
all_hold n k l one two three = rw (one, two, three) refl

or_right : (a b : Bool) → b ≡ true → a || b ≡ true
or_right true b is = refl
or_right false b is = is

pub request_passes : (own : EthernetAddress) (source target : Ipv4Address) → length own.0 ≡ 6 → is_request (arp_frame (arp_request own source target)) ≡ true
request_passes own source target six =
    let packet = arp_request own source target in
    let every : EthernetAddress = record { 0 = 0xff ∷ 0xff ∷ 0xff ∷ 0xff ∷ 0xff ∷ 0xff ∷ [] } in
    let rest : List ℕ = Arps.written packet in
    let tail : List ℕ = to_be_bytes w16 (ether_number Ether.Arp) in
    let link : List ℕ = link_header (Hardware.Ethernet own) (Hardware.Ethernet every) Ether.Arp in
    let count : length every.0 + length own.0 ≡ 12 = omega (arith, six) in
    let len : length link ≡ 14 = omega (arith, count, length-append every.0 (own.0 ++ tail), length-append own.0 tail) in
    let kind : be16 (link ++ rest) 12 ≡ 0x0806 = ether_following own every Ether.Arp rest count in
    let operation : be16 (link ++ rest) 20 ≡ 1 = be16_of link rest len in
    both_hold (be16 (link ++ rest) 12) 0x0806 (be16 (link ++ rest) 20) 1 kind operation refl

pub solicitation_passes : (caps : ChecksumCapabilities) (own : EthernetAddress) (source target : Ipv6Address) → length own.0 ≡ 6 → length source.0 ≡ 16 →
    length target.0 ≡ 16 → asks (solicitation_frame caps (Query.Neighbor own source target)) ≡ true
solicitation_passes caps own source target six from_len to_len =
    let p = solicitation own source target in
    let v : Ipv6Repr = solicitation_header source target in
    let bytes : List ℕ = payload_written caps p.header p.payload in
    let packet : List ℕ = Ipv6.written v ++ bytes in
    let node : EthernetAddress = solicited_hardware_addr target in
    let tail : List ℕ = to_be_bytes w16 (ether_number Ether.Ipv6) in
    let link : List ℕ = link_header (Hardware.Ethernet own) (Hardware.Ethernet node) Ether.Ipv6 in
    let to_six : length node.0 ≡ 6 = omega (arith, to_len, length-drop 13 target.0) in
    let count : length node.0 + length own.0 ≡ 12 = omega (arith, to_six, six) in
    let len : length link ≡ 14 = omega (arith, count, length-append node.0 (own.0 ++ tail), length-append own.0 tail) in
    let group : length v.dst_addr.0 ≡ 16 = omega (arith, to_len, length-drop 13 target.0) in
    let forty : length (Ipv6.written v) ≡ 40 = omega (arith, from_len, group, length-append v.src_addr.0 v.dst_addr.0) in
    let kind : be16 (link ++ packet) 12 ≡ 0x86dd = ether_following own node Ether.Ipv6 packet count in
    let next : slice_index (link ++ packet) 20 ≡ 58 = byte_of link packet 6 len in
    let message : slice_index (link ++ packet) 54 ≡ 135 =
    byte_of link packet 40 len ∙ sym (byte_following packet 40 0) ∙ ap (λ (l : List ℕ). slice_index l 0) (drop_at (Ipv6.written v) bytes 40 forty) in
    or_right (is_request (link ++ packet)) (is_solicitation (link ++ packet))
    (all_hold (be16 (link ++ packet) 12) (slice_index (link ++ packet) 20) (slice_index (link ++ packet) 54) kind next message)
