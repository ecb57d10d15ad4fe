-- What an announcement does to a neighbour that knows the address.
use Rattle.std.proofs.Common.{◌≡◌, Bool, true, false, if◌then◌else◌, refl, ap, ◌∙◌, eq-eqb}
use Rattle.std.specs.Prelude.{◌&&◌, ◌||◌, ◌==◌, not, length, None}
use Rattle.ip_wire.specs.Address.{IsEthernetAddress}
use Rattle.ip_wire.specs.AddressTests.{is_ethernet_unicast, is_unicast_v4, is_unicast_v6, is_unspecified_v6, is_multicast_v6}
use Rattle.ip_wire.specs.EthernetAddress.{EthernetAddress}
use Rattle.ip_wire.specs.HardwareAddress.{HardwareAddress}
use Rattle.ip_wire.specs.HardwareAddress.TheVariants as Hardware
use Rattle.ip_wire.specs.IpAddress.TheVariants as Address
use Rattle.ip_wire.specs.Ipv4Address.{Ipv4Address}
use Rattle.ip_wire.specs.Ipv6Address.{Ipv6Address}
use Rattle.iface_tables.specs.Inner.{InnerValue, is_local, is_on_local_network, with_neighbor}
use Rattle.iface_egress.specs.Announcement.{unsolicited_header, unsolicited_message}
use Rattle.iface_egress.specs.Departure.{arp_request}
use Rattle.iface_ingress.specs.Acquaintance.{knows, seeks}
use Rattle.iface_ingress.specs.Arp.{arp_arrived, learned}
use Rattle.iface_ingress.specs.Ndisc.{heard, heard_on, neighbor_learned}
use Rattle.iface_ingress.proofs.LocalSources.{clash}

teaches_so : (local known seeks one hardware_addr net : Bool) → known ≡ true → net ≡ true → one ≡ true → hardware_addr ≡ true
    → ((local || (known || seeks)) && (true && (one && hardware_addr) && net)) ≡ true
teaches_so local false seeks one hardware_addr net k n o s = clash false k refl
teaches_so local true seeks false hardware_addr net k n o s = clash false o refl
teaches_so local true seeks true false net k n o s = clash false s refl
teaches_so local true seeks true true false k n o s = clash false n refl
teaches_so true true seeks true true true k n o s = refl
teaches_so false true seeks true true true k n o s = refl

pub heard_v4 : (i : InnerValue) (local : EthernetAddress) (a : Ipv4Address) → knows i (Address.Ipv4 a) ≡ true → is_on_local_network i (Address.Ipv4 a) ≡ true
    → is_unicast_v4 a ≡ true → is_ethernet_unicast local ≡ true
    → arp_arrived i (arp_request local a a) ≡ with_neighbor i (Address.Ipv4 a) (Hardware.Ethernet local)
heard_v4 i local a known near one hardware_addr =
    ap (λ (b : Bool). if b then learned i (arp_request local a a) else i)
    (teaches_so (is_local i (Address.Ipv4 a)) (knows i (Address.Ipv4 a)) (seeks i (Address.Ipv4 a)) (is_unicast_v4 a) (is_ethernet_unicast local)
    (is_on_local_network i (Address.Ipv4 a)) known near one hardware_addr)

counts_so : (long hardware_addr none many : Bool) → long ≡ true → hardware_addr ≡ true → not (none || many) ≡ true
    → (((long && hardware_addr) && not (none || many) && not none) && true) ≡ true
counts_so false hardware_addr none many l s o = clash false l refl
counts_so true false none many l s o = clash false s refl
counts_so true true true many l s o = clash false o refl
counts_so true true false true l s o = clash false o refl
counts_so true true false false l s o = refl

pub heard_v6 : (i : InnerValue) (local other : EthernetAddress) (a : Ipv6Address) → i.hardware ≡ Hardware.Ethernet other → knows i (Address.Ipv6 a) ≡ true
    → is_unicast_v6 a ≡ true → is_ethernet_unicast local ≡ true → IsEthernetAddress local
    → (neighbor_learned i (unsolicited_header a) (unsolicited_message local a)).inner ≡ with_neighbor i (Address.Ipv6 a) (Hardware.Ethernet local)
heard_v6 i local other a on known one hardware_addr six =
    ap (λ (h : HardwareAddress). (heard_on h i (unsolicited_header a) (unsolicited_message local a)).inner) on
    ∙ ap (λ (b : Bool). (if b then heard (if (if knows i (Address.Ipv6 a) then true else seeks i (Address.Ipv6 a))
    then with_neighbor i (Address.Ipv6 a) (Hardware.Ethernet local) else i) None else heard i None).inner)
    (counts_so (length local.0 == 6) (is_ethernet_unicast local) (is_unspecified_v6 a) (is_multicast_v6 a) (eq-eqb (length local.0) 6 six.0) hardware_addr one)
    ∙ ap (λ (k : Bool). if (if k then true else seeks i (Address.Ipv6 a)) then with_neighbor i (Address.Ipv6 a) (Hardware.Ethernet local) else i) known
