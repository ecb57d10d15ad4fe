-- The link header of a frame that left.
use Rattle.std.proofs.Common.{◌≡◌, ℕ, ◌+◌, ◌==◌, List, ◌++◌, length, drop, slice_index, refl, sym, ◌∙◌, ap, arith, length-append, append_assoc}
use Rattle.std.specs.Int.{w16, to_be_bytes}
use Rattle.std.proofs.lemmas.List.{drop_at}
use Rattle.iface_ingress.specs.EthernetAddress.{EthernetAddress}
use Rattle.iface_ingress.specs.EthernetProtocol.{EthernetProtocol}
use Rattle.iface_ingress.specs.EthernetProtocol.TheVariants as Ether
use Rattle.iface_ingress.specs.Fields.{be16}
use Rattle.iface_ingress.specs.HardwareAddress.{HardwareAddress}
use Rattle.iface_ingress.specs.HardwareAddress.TheVariants as Hardware
use Rattle.wire_address.specs.Protocol.{ether_number}
use Rattle.iface_egress.specs.Departure.{link_header, link_len}
use Rattle.sim_link.specs.Slices.{IsLinkHeader}
use Rattle.sim_link.proofs.Named.{byte_following}
use Rattle.lan.specs.Worlds.Link.Frames.{medium_on, IsLinkHeader6}
use Rattle.lan.specs.Worlds.Link.Sides.{IsSameKind}

-- a number after twelve bytes
pub number_following : (a b tail : List ℕ) → length a + length b ≡ 12 → be16 (a ++ (b ++ tail)) 12 ≡ be16 tail 0
number_following a b tail len =
    let long : length (a ++ b) ≡ 12 = length-append a b ∙ len in
    let rest : drop 12 (a ++ (b ++ tail)) ≡ tail = ap (drop 12) (sym (append_assoc a b tail)) ∙ drop_at (a ++ b) tail 12 long in
    let high : slice_index (a ++ (b ++ tail)) 12 ≡ slice_index tail 0 = sym (byte_following (a ++ (b ++ tail)) 12 0) ∙ ap (λ (l : List ℕ). slice_index l 0) rest in
    let low : slice_index (a ++ (b ++ tail)) 13 ≡ slice_index tail 1 = sym (byte_following (a ++ (b ++ tail)) 12 1) ∙ ap (λ (l : List ℕ). slice_index l 1) rest in
    rw (high, low) refl

-- an address of each side before the EtherType
pub addresses : (from to : EthernetAddress) (p : EthernetProtocol) → length (link_header (Hardware.Ethernet from) (Hardware.Ethernet to) p) ≡ 14 →
    length to.0 + length from.0 ≡ 12
addresses from to p len =
    omega (arith, len, length-append to.0 (from.0 ++ to_be_bytes w16 (ether_number p)), length-append from.0 (to_be_bytes w16 (ether_number p)))

pub link4 : (own to : HardwareAddress) → IsSameKind own to → length (link_header own to Ether.Ipv4) ≡ link_len own to →
    IsLinkHeader (medium_on own) (link_header own to Ether.Ipv4)
link4 (Hardware.Ethernet own) (Hardware.Ethernet to) same len =
    let number : be16 (link_header (Hardware.Ethernet own) (Hardware.Ethernet to) Ether.Ipv4) 12 ≡ 0x0800 =
    number_following to.0 own.0 (to_be_bytes w16 (ether_number Ether.Ipv4)) (addresses own to Ether.Ipv4 len) in
    record { len = len; carries = ap (λ (n : ℕ). n == 0x0800) number }
link4 (Hardware.Ethernet own) Hardware.Ip same len = absurd same
link4 Hardware.Ip (Hardware.Ethernet to) same len = absurd same
link4 Hardware.Ip Hardware.Ip same len = record { len = refl; carries = refl }

pub link6 : (own to : HardwareAddress) → IsSameKind own to → length (link_header own to Ether.Ipv6) ≡ link_len own to →
    IsLinkHeader6 (medium_on own) (link_header own to Ether.Ipv6)
link6 (Hardware.Ethernet own) (Hardware.Ethernet to) same len =
    let number : be16 (link_header (Hardware.Ethernet own) (Hardware.Ethernet to) Ether.Ipv6) 12 ≡ 0x86dd =
    number_following to.0 own.0 (to_be_bytes w16 (ether_number Ether.Ipv6)) (addresses own to Ether.Ipv6 len) in
    record { len = len; carries = ap (λ (n : ℕ). n == 0x86dd) number }
link6 (Hardware.Ethernet own) Hardware.Ip same len = absurd same
link6 Hardware.Ip (Hardware.Ethernet to) same len = absurd same
link6 Hardware.Ip Hardware.Ip same len = record { len = refl; carries = refl }
