-- What follows from how neighbour messages are heard.
use Rattle.std.proofs.Common.{◌≡◌, ◌≢◌, ◌∙◌, ℕ, Bool, true, false, IsTrue, if◌then◌else◌, List, refl, ap, subst, inl, inr}
use Rattle.std.specs.Prelude.{Option, Some, None, ◌&&◌, ◌||◌, not}
use Rattle.std.specs.List.{list_any}
use Rattle.std.proofs.lemmas.Bool.Decides.{eqb_tells}
use Rattle.wire_icmpv6.specs.Ndisc.{NeighborMessage, Solicitation, Advertisement}
use Rattle.wire_icmpv6.specs.declared.ndisc_flags.NdiscNeighborFlags.{NdiscNeighborFlags}
use Rattle.ip_wire.specs.AddressTests.{is_unicast_v6, is_multicast_v6, is_unspecified_v6, is_loopback_v6}
use Rattle.ip_wire.specs.EthernetAddress.{EthernetAddress}
use Rattle.ip_wire.specs.HardwareAddress.{HardwareAddress}
use Rattle.ip_wire.specs.HardwareAddress.TheVariants as Hardware
use Rattle.ip_wire.specs.Ip.{source_of, destination_of, hop_limit_in}
use Rattle.ip_wire.specs.IpAddress.TheVariants as Address
use Rattle.ip_wire.specs.Ipv6Address.{Ipv6Address}
use Rattle.ip_wire.specs.Ipv6Repr.{Ipv6Repr}
use Rattle.socket_context.specs.Packet.{PacketValue}
use Rattle.iface_tables.specs.Inner.{InnerValue, is_local, is_address_of, is_local_solicited_node, is_probed, solicits}
use Rattle.iface_ingress.specs.Ndisc.{Heard, heard, counts, asks_host, tells, learned, advertised}
use Rattle.iface_ingress.specs.Ndisc.{replaces, is_asked, told_at, advertisement, answer, heard_at, heard_on}
use Rattle.iface_ingress.specs.Ndisc.{neighbor_learned, with_entries_of}

-- ENTRIES ALONE

abbrev KeepsRest : InnerValue → InnerValue → Type 0
KeepsRest i new = new ≡ with_entries_of new i

learned-rest : (i : InnerValue) (source : Ipv6Address) (link : Option (List ℕ)) → KeepsRest i (learned i source link)
learned-rest i source None = refl
learned-rest i source (Some link) = refl

advertised-rest : (i : InnerValue) (flags : NdiscNeighborFlags) (target : Ipv6Address) (link : Option (List ℕ)) → KeepsRest i (advertised i flags target link)
advertised-rest i flags target link =
    elim (replaces i flags target) as (λ (b : Bool). KeepsRest i (if b then learned i target link else i)) [ true ↦ learned-rest i target link | false ↦ refl ]

abbrev Rest : InnerValue → Heard → Type 0
Rest i h = KeepsRest i h.inner

heard-rest : (local : EthernetAddress) (i : InnerValue) (header : Ipv6Repr) (message : NeighborMessage) → Rest i (heard_at local i header message)
heard-rest local i header (Solicitation target link) =
    elim (asks_host i header target link) as
    (λ (b : Bool). Rest i (if b then heard (learned i header.src_addr link) (answer local i header target) else heard i None)) [
      | true ↦ learned-rest i header.src_addr link
      | false ↦ refl
    ]
heard-rest local i header (Advertisement flags target link) =
    elim (tells header flags target link) as (λ (b : Bool). Rest i (if b then heard (advertised i flags target link) None else heard i None)) [
      | true ↦ advertised-rest i flags target link
      | false ↦ refl
    ]

on-rest : (hardware : HardwareAddress) (i : InnerValue) (header : Ipv6Repr) (message : NeighborMessage) → Rest i (heard_on hardware i header message)
on-rest Hardware.Ip i header message = refl
on-rest (Hardware.Ethernet local) i header message = heard-rest local i header message

pub entries-alone : (i : InnerValue) (header : Ipv6Repr) (message : NeighborMessage) → Rest i (neighbor_learned i header message)
entries-alone i header message = on-rest i.hardware i header message

-- WHICH COUNT

other-hop_limit : (header : Ipv6Repr) (target : Ipv6Address) (link : Option (List ℕ)) → header.hop_limit ≢ 255 → counts header target link ≡ false
other-hop_limit header target link other = elim (eqb_tells header.hop_limit 255) [ inl hit ↦ absurd (other hit.1) | inr miss ↦ rw miss.0 refl ]

passed-at : (local : EthernetAddress) (i : InnerValue) (header : Ipv6Repr) (message : NeighborMessage) → header.hop_limit ≢ 255 →
    heard_at local i header message ≡ heard i None
passed-at local i header (Solicitation target link) other =
    ap (λ (b : Bool). if b && is_local i (Address.Ipv6 target) then heard (learned i header.src_addr link) (answer local i header target) else heard i None)
    (other-hop_limit header target link other)
passed-at local i header (Advertisement flags target link) other =
    ap (λ (b : Bool). if b && not (flags.solicited && is_multicast_v6 header.dst_addr) then heard (advertised i flags target link) None else heard i None)
    (other-hop_limit header target link other)

passed-on-medium : (hardware : HardwareAddress) (i : InnerValue) (header : Ipv6Repr) (message : NeighborMessage) → header.hop_limit ≢ 255 →
    heard_on hardware i header message ≡ heard i None
passed-on-medium Hardware.Ip i header message other = refl
passed-on-medium (Hardware.Ethernet local) i header message other = passed-at local i header message other

pub passed-on : (i : InnerValue) (header : Ipv6Repr) (message : NeighborMessage) → header.hop_limit ≢ 255 → neighbor_learned i header message ≡ heard i None
passed-on i header message other = passed-on-medium i.hardware i header message other

pub medium : (i : InnerValue) (header : Ipv6Repr) (message : NeighborMessage) → i.hardware ≡ Hardware.Ip → neighbor_learned i header message ≡ heard i None
medium i header message bare = ap (λ (h : HardwareAddress). heard_on h i header message) bare

-- A SOLICITATION for another's address

for-other-on : (hardware : HardwareAddress) (i : InnerValue) (header : Ipv6Repr) (target : Ipv6Address) (link : Option (List ℕ)) →
    is_local i (Address.Ipv6 target) ≡ false → heard_on hardware i header (Solicitation target link) ≡ heard i None
for-other-on Hardware.Ip i header target link other = refl
for-other-on (Hardware.Ethernet local) i header target link other =
    let h : Heard = heard (learned i header.src_addr link) (answer local i header target) in
    ap (λ (b : Bool). if counts header target link && b then h else heard i None) other
    ∙ elim (counts header target link) as (λ (b : Bool). (if b && false then h else heard i None) ≡ heard i None) [ true ↦ refl | false ↦ refl ]

pub for-other : (i : InnerValue) (header : Ipv6Repr) (target : Ipv6Address) (link : Option (List ℕ)) → is_local i (Address.Ipv6 target) ≡ false →
    neighbor_learned i header (Solicitation target link) ≡ heard i None
for-other i header target link other = for-other-on i.hardware i header target link other

-- ANSWERS

abbrev IsAnswer : InnerValue → Ipv6Repr → PacketValue → Type 0
IsAnswer i header p = (destination_of p.header ≡ Address.Ipv6 (told_at header.src_addr)) × IsTrue (is_local i (source_of p.header)) × (hop_limit_in p.header ≡ 255)

second : (a b : Bool) → IsTrue (a && b) → IsTrue b
second true b both = both
second false b both = absurd (cc both)

either : (a b : Bool) → IsTrue b → IsTrue (a || b)
either true b is = refl
either false b is = is

-- what is asked for is own
asked-local : (i : InnerValue) (header : Ipv6Repr) (target : Ipv6Address) (b : Bool)
    → IsTrue (if b then is_probed i header.dst_addr target
    else (is_local_solicited_node i header.dst_addr || is_local i (Address.Ipv6 header.dst_addr)) && is_local i (Address.Ipv6 target))
    → IsTrue (is_local i (Address.Ipv6 target))
asked-local i header target true asked =
    either i.any_ip (list_any (is_address_of (Address.Ipv6 target)) i.addresses)
    (second (is_unicast_v6 target && not (is_loopback_v6 target) && solicits header.dst_addr target)
    (list_any (is_address_of (Address.Ipv6 target)) i.addresses) asked)
asked-local i header target false asked =
    second (is_local_solicited_node i header.dst_addr || is_local i (Address.Ipv6 header.dst_addr)) (is_local i (Address.Ipv6 target)) asked

answer-by : (local : EthernetAddress) (i : InnerValue) (header : Ipv6Repr) (target : Ipv6Address) (p : PacketValue) (b : Bool) → is_asked i header target ≡ b
    → (if b then Some (advertisement i.host_requirements local target header.src_addr) else None) ≡ Some p → IsAnswer i header p
answer-by local i header target p true asked is =
    let packet : advertisement i.host_requirements local target header.src_addr ≡ p = cc is in
    subst (IsAnswer i header) packet (refl, asked-local i header target (is_unspecified_v6 header.src_addr) asked, refl)
answer-by local i header target p false asked is = absurd (cc is)

solicited-by : (local : EthernetAddress) (i : InnerValue) (header : Ipv6Repr) (target : Ipv6Address) (link : Option (List ℕ)) (p : PacketValue) (b : Bool)
    → (if b then heard (learned i header.src_addr link) (answer local i header target) else heard i None).reply ≡ Some p → IsAnswer i header p
solicited-by local i header target link p true is = answer-by local i header target p (is_asked i header target) refl is
solicited-by local i header target link p false is = absurd (cc is)

advertised-by : (i : InnerValue) (flags : NdiscNeighborFlags) (header : Ipv6Repr) (target : Ipv6Address) (link : Option (List ℕ)) (p : PacketValue) (b : Bool)
    → (if b then heard (advertised i flags target link) None else heard i None).reply ≡ Some p → IsAnswer i header p
advertised-by i flags header target link p true is = absurd (cc is)
advertised-by i flags header target link p false is = absurd (cc is)

answers-at : (local : EthernetAddress) (i : InnerValue) (header : Ipv6Repr) (message : NeighborMessage) (p : PacketValue) →
    (heard_at local i header message).reply ≡ Some p → IsAnswer i header p
answers-at local i header (Solicitation target link) p is = solicited-by local i header target link p (asks_host i header target link) is
answers-at local i header (Advertisement flags target link) p is = advertised-by i flags header target link p (tells header flags target link) is

answers-on : (hardware : HardwareAddress) (i : InnerValue) (header : Ipv6Repr) (message : NeighborMessage) (p : PacketValue) →
    (heard_on hardware i header message).reply ≡ Some p → IsAnswer i header p
answers-on Hardware.Ip i header message p is = absurd (cc is)
answers-on (Hardware.Ethernet local) i header message p is = answers-at local i header message p is

pub answers-the-sender : (i : InnerValue) (header : Ipv6Repr) (message : NeighborMessage) (p : PacketValue) → (neighbor_learned i header message).reply ≡ Some p →
    IsAnswer i header p
answers-the-sender i header message p is = answers-on i.hardware i header message p is
