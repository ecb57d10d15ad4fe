-- A neighbour solicitation is answered, and who is told of by the answer is known.
use Rattle.std.proofs.Common.{◌≡◌, Bool, true, false, if◌then◌else◌, not, ◌&&◌, ◌||◌, Option, Some, None, refl, sym, ap, ◌∙◌, eq-eqb}
use Rattle.std.specs.Prelude.{◌==◌, length}
use Rattle.control_wire.specs.Ndisc.{Solicitation, Advertisement}
use Rattle.ip_wire.specs.Address.{IsEthernetAddress}
use Rattle.ip_wire.specs.AddressTests.{is_ethernet_unicast, is_multicast_v6, is_unicast_v6, is_unspecified_v6}
use Rattle.ip_wire.specs.EthernetAddress.{EthernetAddress}
use Rattle.ip_wire.specs.HardwareAddress.{HardwareAddress}
use Rattle.ip_wire.specs.HardwareAddress.TheVariants as Hardware
use Rattle.ip_wire.specs.IpAddress.{IpAddress}
use Rattle.ip_wire.specs.IpAddress.TheVariants as Address
use Rattle.ip_wire.specs.Ipv6Address.{Ipv6Address}
use Rattle.iface_ingress.specs.Acquaintance.{knows, seeks}
use Rattle.iface_ingress.specs.Ndisc.{advertisement, advertisement_header, all_nodes, answer, flags_for, heard, heard_on, learned, neighbor_learned, told_at}
use Rattle.iface_ingress.specs.Packet.{PacketValue}
use Rattle.iface_tables.specs.Inner.{InnerValue, is_local, is_local_solicited_node, is_probed, link_address, with_neighbor}
use Rattle.iface_tables.specs.declared.link.LinkAddress.TheVariants as Link
use Rattle.iface_egress.specs.Departure.{solicitation_header, solicited_node}
use Rattle.proof_stack.specs.Progress.NeighborResolution.{IsVia}
use Rattle.proof_stack.proofs.Polls.Answered.{goes_there}

no : {X : Type 0} (b : Bool) → b ≡ true → b ≡ false → X
no b is not = absurd (let clash : true ≡ false = sym is ∙ not in cc)

-- an address of one host is specified, and no group's
specified : (none many : Bool) → not (none || many) ≡ true → none ≡ false
specified true many one = absurd (let clash : false ≡ true = one in cc)
specified false many one = refl

single : (none many : Bool) → not (none || many) ≡ true → many ≡ false
single true many one = absurd (let clash : false ≡ true = one in cc)
single false true one = absurd (let clash : false ≡ true = one in cc)
single false false one = refl

counts_so : (long node one sender : Bool) → long ≡ true → node ≡ true → one ≡ true → sender ≡ true → ((long && node) && one && sender) ≡ true
counts_so true true true sender l s o is = is
counts_so true true false sender l s o is = no false o refl
counts_so true false one sender l s o is = no false s refl
counts_so false node one sender l s o is = no false l refl

module _ (own node : EthernetAddress) (sound : is_ethernet_unicast node ≡ true) (six : IsEthernetAddress node) where
  pub solicitation_answered : (i : InnerValue) (source target : Ipv6Address) → i.hardware ≡ Hardware.Ethernet own
      → is_local i (Address.Ipv6 target) ≡ true → is_local_solicited_node i (solicited_node target) ≡ true → is_unicast_v6 target ≡ true
      → is_unicast_v6 source ≡ true
      → (neighbor_learned i (solicitation_header source target) (Solicitation target (Some node.0))).reply ≡ Some (advertisement i.host_requirements own target source)
  solicitation_answered i source target on mine group one from =
      let told : Option PacketValue = Some (advertisement i.host_requirements own target source) in
      let none : is_unspecified_v6 source ≡ false = specified (is_unspecified_v6 source) (is_multicast_v6 source) from in
      ap (λ (h : HardwareAddress). (heard_on h i (solicitation_header source target) (Solicitation target (Some node.0))).reply) on
      ∙ ap (λ (b : Bool). (if b && is_local i (Address.Ipv6 target) then heard (learned i source (Some node.0))
      (answer own i (solicitation_header source target) target) else heard i None).reply)
      (counts_so (length node.0 == 6) (is_ethernet_unicast node) (is_unicast_v6 target) (not (is_unspecified_v6 source))
      (eq-eqb (length node.0) 6 six.0) sound one (ap not none))
      ∙ ap (λ (o : Bool). (if o then heard (learned i source (Some node.0)) (answer own i (solicitation_header source target) target)
      else heard i None).reply) mine
      ∙ ap (λ (u : Bool). if (if u then is_probed i (solicited_node target) target
      else (is_local_solicited_node i (solicited_node target) || is_local i (Address.Ipv6 (solicited_node target))) && is_local i (Address.Ipv6 target))
      then told else None) none
      ∙ ap (λ (g : Bool). if (g || is_local i (Address.Ipv6 (solicited_node target))) && is_local i (Address.Ipv6 target) then told else None) group
      ∙ ap (λ (o : Bool). if o then told else None) mine

  tells_so : (counts solicited many : Bool) → counts ≡ true → many ≡ false → (counts && not (solicited && many)) ≡ true
  tells_so true true true c m = no true refl m
  tells_so true true false c m = refl
  tells_so true false many c m = refl
  tells_so false solicited many c m = no false c refl

  advertised_so : (i : InnerValue) (overrides : Bool) (a asked : Ipv6Address) → i.hardware ≡ Hardware.Ethernet own → knows i (Address.Ipv6 asked) ≡ false
      → seeks i (Address.Ipv6 asked) ≡ true → is_unicast_v6 asked ≡ true → is_unicast_v6 a ≡ true
      → (neighbor_learned i (advertisement_header asked (told_at a)) (Advertisement (flags_for overrides a) asked (Some node.0))).inner
      ≡ with_neighbor i (Address.Ipv6 asked) (Hardware.Ethernet node)
  advertised_so i overrides a asked on unknown sought one mine =
      let new : InnerValue = with_neighbor i (Address.Ipv6 asked) (Hardware.Ethernet node) in
      let none : is_unspecified_v6 a ≡ false = specified (is_unspecified_v6 a) (is_multicast_v6 a) mine in
      let to : is_multicast_v6 (told_at a) ≡ false =
      ap (λ (u : Bool). is_multicast_v6 (if u then all_nodes else a)) none ∙ single (is_unspecified_v6 a) (is_multicast_v6 a) mine in
      ap (λ (h : HardwareAddress). (heard_on h i (advertisement_header asked (told_at a)) (Advertisement (flags_for overrides a) asked (Some node.0))).inner) on
      ∙ ap (λ (b : Bool). (if b then heard (if (if knows i (Address.Ipv6 asked) then overrides else seeks i (Address.Ipv6 asked)) then new else i) None
      else heard i None).inner)
      (tells_so ((length node.0 == 6 && is_ethernet_unicast node) && is_unicast_v6 asked && not (is_unspecified_v6 asked))
      (not (is_unspecified_v6 a)) (is_multicast_v6 (told_at a))
      (counts_so (length node.0 == 6) (is_ethernet_unicast node) (is_unicast_v6 asked) (not (is_unspecified_v6 asked))
      (eq-eqb (length node.0) 6 six.0) sound one (ap not (specified (is_unspecified_v6 asked) (is_multicast_v6 asked) one))) to)
      ∙ ap (λ (k : Bool). if (if k then overrides else seeks i (Address.Ipv6 asked)) then new else i) unknown
      ∙ ap (λ (s : Bool). if s then new else i) sought

  pub advertisement_known : (i : InnerValue) (overrides : Bool) (a asked : Ipv6Address) (to : IpAddress) → i.hardware ≡ Hardware.Ethernet own
      → knows i (Address.Ipv6 asked) ≡ false → seeks i (Address.Ipv6 asked) ≡ true → is_unicast_v6 asked ≡ true → is_unicast_v6 a ≡ true
      → IsVia i to (Address.Ipv6 asked)
      → link_address (neighbor_learned i (advertisement_header asked (told_at a)) (Advertisement (flags_for overrides a) asked (Some node.0))).inner to
      ≡ Link.Known (Hardware.Ethernet node)
  advertisement_known i overrides a asked to on unknown sought one mine via =
      ap (λ (x : InnerValue). link_address x to) (advertised_so i overrides a asked on unknown sought one mine)
      ∙ goes_there i own node (Address.Ipv6 asked) to on via
