-- What advertisements and probes teach.
use Rattle.std.proofs.Common.{◌≡◌, Bool, true, false, if◌then◌else◌, ◌⊎◌, List, refl, ap, ◌∙◌, inl, inr}
use Rattle.std.specs.Prelude.{ℕ, Option, Some, None, ◌&&◌, ◌||◌, not}
use Rattle.wire_icmpv6.specs.Ndisc.{Advertisement}
use Rattle.wire_icmpv6.specs.declared.ndisc_flags.NdiscNeighborFlags.{NdiscNeighborFlags}
use Rattle.ip_wire.specs.AddressTests.{is_ethernet_unicast, is_unicast_v4, is_unspecified_v4, is_multicast_v4, is_broadcast_v4}
use Rattle.ip_wire.specs.EthernetAddress.{EthernetAddress}
use Rattle.ip_wire.specs.HardwareAddress.{HardwareAddress}
use Rattle.ip_wire.specs.HardwareAddress.TheVariants as Hardware
use Rattle.ip_wire.specs.IpAddress.TheVariants as Address
use Rattle.ip_wire.specs.Ipv4Address.{Ipv4Address}
use Rattle.ip_wire.specs.Ipv6Address.{Ipv6Address}
use Rattle.ip_wire.specs.Ipv6Repr.{Ipv6Repr}
use Rattle.ip_wire.specs.declared.arp.kinds.ArpOperation.{ArpOperation}
use Rattle.ip_wire.specs.declared.arp.repr.ArpRepr.{ArpRepr}
use Rattle.ip_wire.specs.declared.arp.repr.ArpRepr.TheVariants as Arp
use Rattle.iface_tables.specs.Inner.{InnerValue, is_on_local_network}
use Rattle.iface_ingress.specs.Acquaintance.{knows, seeks}
use Rattle.iface_ingress.specs.Arp.{is_known, is_for_local, is_from_known, learned as kept, arp_arrived}
use Rattle.iface_ingress.specs.Ndisc.{heard, learned, tells, replaces, advertised, heard_on, neighbor_learned}
use Rattle.iface_ingress.specs.Taught.{TellsOf}

-- ADVERTISEMENTS

for_host : (known sought override : Bool) → (if known then override else sought) ≡ true →
    ((known ≡ false) × (sought ≡ true)) ⊎ ((known ≡ true) × (override ≡ true))
for_host true sought override is = inr (refl, is)
for_host false sought override is = inl (refl, is)

told_if : (i : InnerValue) (flags : NdiscNeighborFlags) (target : Ipv6Address) (link : Option (List ℕ)) (b : Bool) → replaces i flags target ≡ b →
    TellsOf i flags target link (if b then learned i target link else i)
told_if i flags target link true is = inr (for_host (knows i (Address.Ipv6 target)) (seeks i (Address.Ipv6 target)) flags.overrides is, refl)
told_if i flags target link false is = inl refl

told_on : (hardware : HardwareAddress) (i : InnerValue) (header : Ipv6Repr) (flags : NdiscNeighborFlags) (target : Ipv6Address) (link : Option (List ℕ)) →
    TellsOf i flags target link (heard_on hardware i header (Advertisement flags target link)).inner
told_on Hardware.Ip i header flags target link = inl refl
told_on (Hardware.Ethernet local) i header flags target link =
    elim (tells header flags target link) as
    (λ (b : Bool). TellsOf i flags target link (if b then heard (advertised i flags target link) None else heard i None).inner) [
      | true ↦ told_if i flags target link (replaces i flags target) refl
      | false ↦ inl refl
    ]

pub told : (i : InnerValue) (header : Ipv6Repr) (flags : NdiscNeighborFlags) (target : Ipv6Address) (link : Option (List ℕ)) →
    TellsOf i flags target link (neighbor_learned i header (Advertisement flags target link)).inner
told i header flags target link = told_on i.hardware i header flags target link

-- PROBES

nowhere : (x k e n : Bool) → (x && ((k && (false && e)) && n)) ≡ false
nowhere true true e n = refl
nowhere true false e n = refl
nowhere false k e n = refl

not_unicast : (a : Ipv4Address) → is_unspecified_v4 a ≡ true → is_unicast_v4 a ≡ false
not_unicast a is = ap (λ (b : Bool). not (b || is_multicast_v4 a || is_broadcast_v4 a)) is

pub untaught : (i : InnerValue) (operation : ArpOperation) (hardware_addr other : EthernetAddress) (source target : Ipv4Address) →
    is_unspecified_v4 source ≡ true → arp_arrived i (Arp.EthernetIpv4 operation hardware_addr source other target) ≡ i
untaught i operation hardware_addr other source target nobody =
    let packet : ArpRepr = Arp.EthernetIpv4 operation hardware_addr source other target in
    let no : ((is_for_local i packet || is_from_known i packet) &&
    ((is_known operation && (is_unicast_v4 source && is_ethernet_unicast hardware_addr)) && is_on_local_network i (Address.Ipv4 source))) ≡ false =
    ap (λ (b : Bool). (is_for_local i packet || is_from_known i packet) &&
    ((is_known operation && (b && is_ethernet_unicast hardware_addr)) && is_on_local_network i (Address.Ipv4 source))) (not_unicast source nobody)
    ∙ nowhere (is_for_local i packet || is_from_known i packet) (is_known operation) (is_ethernet_unicast hardware_addr) (is_on_local_network i (Address.Ipv4 source)) in
    ap (λ (b : Bool). if b then kept i packet else i) no
