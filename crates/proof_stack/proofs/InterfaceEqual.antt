-- When values of an interface are equal, by the laws of their addresses, headers and packets.
use Rattle.std.proofs.Common.{◌≡◌, ℕ, refl, ap, ap₂}
use Rattle.std.specs.Bool.{Decides}
use Rattle.std.proofs.lemmas.Bool.Decides.{Decides-and}
use Rattle.std.proofs.lemmas.Slice.Eq.{bytes_eq-Decides}
use Rattle.ip_wire.specs.EthernetAddress.{EthernetAddress}
use Rattle.ip_wire.specs.HardwareAddress.{HardwareAddress}
use Rattle.ip_wire.specs.IpAddress.{IpAddress}
use Rattle.ip_wire.specs.Ipv4Address.{Ipv4Address}
use Rattle.ip_wire.specs.Ipv4Repr.{Ipv4Repr}
use Rattle.ip_wire.specs.Ipv6Address.{Ipv6Address}
use Rattle.ip_wire.specs.Ipv6Repr.{Ipv6Repr}
use Rattle.ip_wire.specs.declared.arp.repr.ArpRepr.{ArpRepr}
use Rattle.iface_tables.specs.contracts.link.LinkAddressPartialEq.TheImpl as Links
use Rattle.iface_tables.specs.contracts.neighbor.AnswerPartialEq.TheImpl as Answers
use Rattle.iface_tables.specs.declared.link.LinkAddress.{LinkAddress}
use Rattle.iface_tables.specs.declared.link.LinkAddress.TheVariants as Link
use Rattle.iface_tables.specs.declared.neighbor.Answer.{Answer}
use Rattle.iface_tables.specs.declared.neighbor.Answer.TheVariants as Known
use Rattle.iface_egress.specs.contracts.fragmenter.CutPartialEq.TheImpl as Cuts
use Rattle.iface_egress.specs.contracts.fragmenter.LeftPartialEq.TheImpl as Lefts
use Rattle.iface_egress.specs.contracts.frame.ArpFramePartialEq.TheImpl as Frames
use Rattle.iface_egress.specs.contracts.frame.CutHeaderPartialEq.TheImpl as Headers
use Rattle.iface_egress.specs.contracts.frame.NeighborQueryPartialEq.TheImpl as Questions
use Rattle.iface_egress.specs.contracts.plan.PlanPartialEq.TheImpl as Plans
use Rattle.iface_egress.specs.declared.fragmenter.Cut.{Cut}
use Rattle.iface_egress.specs.declared.fragmenter.Left.{Left}
use Rattle.iface_egress.specs.declared.frame.ArpFrame.{ArpFrame}
use Rattle.iface_egress.specs.declared.frame.CutHeader.{CutHeader}
use Rattle.iface_egress.specs.declared.frame.CutHeader.TheVariants as Cutting
use Rattle.iface_egress.specs.declared.frame.NeighborQuery.{NeighborQuery}
use Rattle.iface_egress.specs.declared.frame.NeighborQuery.TheVariants as Asks
use Rattle.iface_egress.specs.declared.plan.Plan.{Plan}
use Rattle.iface_egress.specs.declared.plan.Plan.TheVariants as Planned
use Rattle.proof_stack.proofs.Told.{both, front, back}

-- an answer about a neighbour, and a link's, by what `==` of their addresses says
pub Decides-answer : ((a b : HardwareAddress) → Decides (Answers.ghosts.eq (Known.Found a) (Known.Found b)) (a ≡ b))
    → (a b : Answer) → Decides (Answers.ghosts.eq a b) (a ≡ b)
Decides-answer hardware (Known.Found a) (Known.Found b) =
    let same = hardware a b in (λ yes. ap Known.Found (same.0 yes), λ e. same.1 (cc))
Decides-answer hardware Known.NotFound Known.NotFound = (λ yes. refl, λ e. refl)
Decides-answer hardware Known.RateLimited Known.RateLimited = (λ yes. refl, λ e. refl)
Decides-answer hardware Known.Unanswered Known.Unanswered = (λ yes. refl, λ e. refl)
Decides-answer hardware a b = (λ yes. absurd (cc), λ e. absurd (cc))

pub Decides-link : ((a b : HardwareAddress) → Decides (Links.ghosts.eq (Link.Known a) (Link.Known b)) (a ≡ b))
    → ((a b : IpAddress) → Decides (Links.ghosts.eq (Link.Unknown a) (Link.Unknown b)) (a ≡ b))
    → (a b : LinkAddress) → Decides (Links.ghosts.eq a b) (a ≡ b)
Decides-link hardware address (Link.Known a) (Link.Known b) =
    let same = hardware a b in (λ yes. ap Link.Known (same.0 yes), λ e. same.1 (cc))
Decides-link hardware address Link.NoRoute Link.NoRoute = (λ yes. refl, λ e. refl)
Decides-link hardware address Link.Silent Link.Silent = (λ yes. refl, λ e. refl)
Decides-link hardware address Link.Unanswered Link.Unanswered = (λ yes. refl, λ e. refl)
Decides-link hardware address (Link.Unknown a) (Link.Unknown b) =
    let same = address a b in (λ yes. ap Link.Unknown (same.0 yes), λ e. same.1 (cc))
Decides-link hardware address a b = (λ yes. absurd (cc), λ e. absurd (cc))

-- questions are compared by the bytes of their addresses
pub Decides-question : (a b : NeighborQuery) → Decides (Questions.ghosts.eq a b) (a ≡ b)
Decides-question (Asks.Arp o s t) (Asks.Arp p u v) =
    let same = Decides-and _ _ (bytes_eq-Decides o.0 p.0) (Decides-and _ _ (bytes_eq-Decides s.0 u.0) (bytes_eq-Decides t.0 v.0)) in (
      λ yes. λ i. Asks.Arp (record { 0 = (front (same.0 yes)) i }) (record { 0 = (front (back (same.0 yes))) i }) (record { 0 = (back (back (same.0 yes))) i }),
      λ e.
          let first : o ≡ p = cc in
          let second : s ≡ u = cc in
          let third : t ≡ v = cc in
          same.1 (both (ap (λ (x : EthernetAddress). x.0) first) (both (ap (λ (x : Ipv4Address). x.0) second) (ap (λ (x : Ipv4Address). x.0) third))),
    )
Decides-question (Asks.Neighbor o s t) (Asks.Neighbor p u v) =
    let same = Decides-and _ _ (bytes_eq-Decides o.0 p.0) (Decides-and _ _ (bytes_eq-Decides s.0 u.0) (bytes_eq-Decides t.0 v.0)) in (
      λ yes. λ i. Asks.Neighbor (record { 0 = (front (same.0 yes)) i }) (record { 0 = (front (back (same.0 yes))) i })
          (record { 0 = (back (back (same.0 yes))) i }),
      λ e.
          let first : o ≡ p = cc in
          let second : s ≡ u = cc in
          let third : t ≡ v = cc in
          same.1 (both (ap (λ (x : EthernetAddress). x.0) first) (both (ap (λ (x : Ipv6Address). x.0) second) (ap (λ (x : Ipv6Address). x.0) third))),
    )
Decides-question a b = (λ yes. absurd (cc), λ e. absurd (cc))

pub Decides-plan : ((a b : HardwareAddress) → Decides (Plans.ghosts.eq (Planned.Go a) (Planned.Go b)) (a ≡ b))
    → ((a b : HardwareAddress) → Decides (Plans.ghosts.eq (Planned.Cut a) (Planned.Cut b)) (a ≡ b))
    → (a b : Plan) → Decides (Plans.ghosts.eq a b) (a ≡ b)
Decides-plan hardware cut Planned.Drop Planned.Drop = (λ yes. refl, λ e. refl)
Decides-plan hardware cut Planned.NoRoute Planned.NoRoute = (λ yes. refl, λ e. refl)
Decides-plan hardware cut Planned.Wait Planned.Wait = (λ yes. refl, λ e. refl)
Decides-plan hardware cut Planned.Busy Planned.Busy = (λ yes. refl, λ e. refl)
Decides-plan hardware cut (Planned.Ask a) (Planned.Ask b) =
    let same = Decides-question a b in (λ yes. ap Planned.Ask (same.0 yes), λ e. same.1 (cc))
Decides-plan hardware cut (Planned.Go a) (Planned.Go b) =
    let same = hardware a b in (λ yes. ap Planned.Go (same.0 yes), λ e. same.1 (cc))
Decides-plan hardware cut (Planned.Cut a) (Planned.Cut b) =
    let same = cut a b in (λ yes. ap Planned.Cut (same.0 yes), λ e. same.1 (cc))
Decides-plan hardware cut a b = (λ yes. absurd (cc), λ e. absurd (cc))

-- the header of a datagram that goes in fragments, by what `==` of a packet's header says
pub Decides-header : ((h k : Ipv4Repr) → Decides (Headers.ghosts.eq (Cutting.Ipv4 h) (Cutting.Ipv4 k)) (h ≡ k))
    → ((h k : Ipv6Repr) (m n : ℕ) → Decides (Headers.ghosts.eq (Cutting.Ipv6 h m) (Cutting.Ipv6 k n)) ((h ≡ k) × (m ≡ n)))
    → (a b : CutHeader) → Decides (Headers.ghosts.eq a b) (a ≡ b)
Decides-header four six (Cutting.Ipv4 h) (Cutting.Ipv4 k) =
    let same = four h k in (λ yes. ap Cutting.Ipv4 (same.0 yes), λ e. same.1 (cc))
Decides-header four six (Cutting.Ipv6 h m) (Cutting.Ipv6 k n) =
    let same = six h k m n in
    (λ yes. ap₂ Cutting.Ipv6 (same.0 yes).0 (same.0 yes).1, λ e. let first : h ≡ k = cc in let second : m ≡ n = cc in same.1 (both first second))
Decides-header four six a b = (λ yes. absurd (cc), λ e. absurd (cc))

-- a frame with an ARP packet is that packet
pub Decides-arp_frame : ((a b : ArpFrame) → Decides (Frames.ghosts.eq a b) (a.packet ≡ b.packet))
    → (a b : ArpFrame) → Decides (Frames.ghosts.eq a b) (a ≡ b)
Decides-arp_frame parts a b =
    let same = parts a b in
    let make : ArpRepr → ArpFrame = λ p. record { packet = p } in
    (λ yes. ap make (same.0 yes), λ e. same.1 (ap (λ (f : ArpFrame). f.packet) e))

same-cut : (a b : Cut) → a.from ≡ b.from → a.mtu ≡ b.mtu → a.checksums ≡ b.checksums → a ≡ b
same-cut a b e f g = λ i. record { from = e i; mtu = f i; checksums = g i }

-- how a datagram is cut is compared by its parts
pub Decides-cut : ((a b : Cut) → Decides (Cuts.ghosts.eq a b) ((a.from ≡ b.from) × ((a.mtu ≡ b.mtu) × (a.checksums ≡ b.checksums))))
    → (a b : Cut) → Decides (Cuts.ghosts.eq a b) (a ≡ b)
Decides-cut parts a b =
    let same = parts a b in (
      λ yes. same-cut a b (front (same.0 yes)) (front (back (same.0 yes))) (back (back (same.0 yes))),
      λ e. same.1 (both (ap (λ (c : Cut). c.from) e) (both (ap (λ (c : Cut). c.mtu) e) (ap (λ (c : Cut). c.checksums) e))),
    )

same-left : (a b : Left) → a.header ≡ b.header → a.to ≡ b.to → a.len ≡ b.len → a.at ≡ b.at → a ≡ b
same-left a b e f g h = λ i. record { header = e i; to = f i; len = g i; at = h i }

pub Decides-left : ((a b : Left) → Decides (Lefts.ghosts.eq a b) ((a.header ≡ b.header) × ((a.to ≡ b.to) × ((a.len ≡ b.len) × (a.at ≡ b.at)))))
    → (a b : Left) → Decides (Lefts.ghosts.eq a b) (a ≡ b)
Decides-left parts a b =
    let same = parts a b in (
      λ yes. same-left a b (front (same.0 yes)) (front (back (same.0 yes))) (front (back (back (same.0 yes)))) (back (back (back (same.0 yes)))),
      λ e. same.1 (both (ap (λ (l : Left). l.header) e) (both (ap (λ (l : Left). l.to) e) (both (ap (λ (l : Left). l.len) e) (ap (λ (l : Left). l.at) e)))),
    )
