-- Bytes that name neither TCP nor UDP bring nothing of them.
use Rattle.std.proofs.Common.{◌≡◌, ℕ, ◌/◌, false, ◌&&◌, ◌==◌, List, slice_index, Some, None, drop, sym, ◌∙◌, ap, subst}
use Rattle.iface_ingress.specs.EthernetAddress.{EthernetAddress}
use Rattle.iface_ingress.specs.Fields.{be16}
use Rattle.iface_ingress.specs.HardwareAddress.{HardwareAddress}
use Rattle.iface_ingress.specs.HardwareAddress.TheVariants as Hardware
use Rattle.interface.specs.IpRepr.TheVariants as Ip
use Rattle.wire_address.specs.Protocol.{protocol_of}
use Rattle.sim_link.specs.Medium.TheVariants as Medium
use Rattle.iface_ingress.specs.Incoming.{IncomingValue, Arp, Ip4, Ip6, IsIncoming}
use Rattle.interface.specs.Ipv6.{payload_of}
use Rattle.interface.specs.Ipv6Repr.{Ipv6Repr}
use Rattle.iface_ingress.specs.Headers.{go_through}
use Rattle.sim_link.specs.PacketInFrame.{IsNeitherFollowing, is_tcp_or_udp, has_ports_following, names_tcp_or_udp}
use Rattle.sim_link.proofs.Named.{neither_first, neither_second, following_named, ether_is, byte_following}
use Rattle.lan.specs.Worlds.Link.Made.{Makes, sealed, CarriesNone, IsWholeMade}
use Rattle.lan.specs.Worlds.Link.Frames.{medium_on}
use Rattle.lan.specs.Worlds.Link.Sides.{BringsNone}
use Rattle.lan.proofs.Worlds.Link.Hands.{hands_none}

neither_following : (packet : List ℕ) (h : Ipv6Repr) (x : List ℕ) → h.next_header ≡ protocol_of (slice_index packet 6) → x ≡ payload_of packet
    → IsNeitherFollowing (go_through (protocol_of (slice_index packet 6)) (payload_of packet)) → CarriesNone (Ip.Ipv6 h) x
neither_following packet h x names carried none =
    subst (λ (b : List ℕ). CarriesNone (Ip.Ipv6 h) b) (sym carried) (following_named packet h.next_header names none)

on_ethernet : (own : EthernetAddress) (bytes : List ℕ) (v : IncomingValue) → names_tcp_or_udp Medium.Ethernet bytes ≡ false →
    IsIncoming (Hardware.Ethernet own) sealed bytes v → BringsNone v
on_ethernet own bytes (Arp link packet) none is = (tt, tt)
on_ethernet own bytes (Ip4 None h p x) none is = absurd is
on_ethernet own bytes (Ip4 (Some link) h p x) none is = (
  neither_first (be16 bytes 12) 0x0800 (slice_index bytes 23) ((be16 bytes 12 == 0x86dd) && has_ports_following (drop 14 bytes)) h.next_header
      (ether_is (be16 bytes 12) 0x0800 (sym is.0.format.carried ∙ is.0.carried_is)) none (is.1.format.protocol ∙ ap protocol_of (byte_following bytes 14 9)),
  tt,
)
on_ethernet own bytes (Ip6 None h x) none is = absurd is
on_ethernet own bytes (Ip6 (Some link) h x) none is =
    neither_following (drop 14 bytes) h x is.1.format.protocol is.1.payload_is
    (neither_second (be16 bytes 12) 0x86dd ((be16 bytes 12 == 0x0800) && is_tcp_or_udp (slice_index bytes 23)) _
    (ether_is (be16 bytes 12) 0x86dd (sym is.0.format.carried ∙ is.0.carried_is)) none)

bare : (bytes : List ℕ) (v : IncomingValue) → names_tcp_or_udp Medium.Ip bytes ≡ false → IsIncoming Hardware.Ip sealed bytes v → BringsNone v
bare bytes (Arp link packet) none is = absurd is
bare bytes (Ip4 (Some link) h p x) none is = absurd is
bare bytes (Ip4 None h p x) none is = (
  neither_first (slice_index bytes 0 / 16) 4 (slice_index bytes 9) ((slice_index bytes 0 / 16 == 6) && has_ports_following bytes) h.next_header
      is.format.version none is.format.protocol,
  tt,
)
bare bytes (Ip6 (Some link) h x) none is = absurd is
bare bytes (Ip6 None h x) none is =
    neither_following bytes h x is.format.protocol is.payload_is
    (neither_second (slice_index bytes 0 / 16) 6 ((slice_index bytes 0 / 16 == 4) && is_tcp_or_udp (slice_index bytes 9)) _ is.format.version none)

-- no content of TCP or UDP, nor a fragment of IPv6, whatever medium and version
pub noise_names_neither : (hardware : HardwareAddress) (bytes : List ℕ) (v : IncomingValue) → names_tcp_or_udp (medium_on hardware) bytes ≡ false →
    IsIncoming hardware sealed bytes v → BringsNone v
noise_names_neither (Hardware.Ethernet own) bytes v none is = on_ethernet own bytes v none is
noise_names_neither Hardware.Ip bytes v none is = bare bytes v none is

-- so it brings nothing of them
pub whole_where_none : (made : Makes) (v : IncomingValue) → BringsNone v → IsWholeMade made v
whole_where_none made (Arp link packet) none = tt
whole_where_none made (Ip4 link h p x) none = (λ _. none.0, hands_none made (Ip.Ipv4 h) x none.0)
whole_where_none made (Ip6 link h x) none = (none.1, hands_none made (Ip.Ipv6 h) x none.0)
