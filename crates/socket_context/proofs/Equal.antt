-- When packets are equal.
use Rattle.std.proofs.Common.{rules, ◌≡◌, ℕ, List, ap, ap₂}
use Rattle.std.specs.Bool.{Decides}
use Rattle.std.specs.Borrow.{Bor}
use Rattle.std.proofs.lemmas.Slice.Eq.{bytes_eq-Decides}
use Rattle.control_wire.specs.Icmpv4 as Icmpv4
use Rattle.control_wire.specs.Icmpv4Repr.{Icmpv4Repr}
use Rattle.control_wire.specs.Icmpv6 as Icmpv6
use Rattle.control_wire.specs.Icmpv6Repr.{Icmpv6Repr}
use Rattle.ip_wire.specs.IpRepr.{IpRepr}
use Rattle.ip_wire.specs.TcpHeader.{TcpHeader}
use Rattle.ip_wire.specs.UdpRepr.{UdpRepr}
use Rattle.socket_context.specs.Packet.{PacketValue, ControlV4, ControlV6, Bytes, Datagram, Segment, payload_value, packet_value, packet_of}
use Rattle.socket_context.specs.contracts.offer.OfferPartialEq.TheImpl as Offers
use Rattle.socket_context.specs.contracts.packet.IpPayloadPartialEq.TheImpl as Payloads
use Rattle.socket_context.specs.contracts.packet.PacketPartialEq.TheImpl as Packets
use Rattle.socket_context.specs.contracts.poll_at.PollAtPartialEq.TheImpl as Dues
use Rattle.socket_context.specs.declared.offer.Offer.{Offer}
use Rattle.socket_context.specs.declared.packet.IpPayload.{IpPayload}
use Rattle.socket_context.specs.declared.packet.IpPayload.TheVariants as Payload
use Rattle.socket_context.specs.declared.packet.Packet.{Packet}
use Rattle.socket_context.specs.declared.poll_at.PollAt.{PollAt}
use Rattle.socket_context.specs.declared.segment_payload.SegmentPayload.{SegmentPayload}
use Rattle.socket_context.specs.SegmentPayload.{payload_bytes}

both : {P Q : Type 0} → P → Q → P × Q
both p q = (p, q)

pub Decides-offer : (a b : Offer) → Decides (Offers.ghosts.eq a b) (a ≡ b)
Decides-offer a b = search rules

pub Decides-due : (a b : PollAt) → Decides (Dues.ghosts.eq a b) (a ≡ b)
Decides-due a b = search rules

-- the formats' laws
pub record Laws : Type 0 where
  pub icmpv4 : (a b : Icmpv4Repr) →
      Decides (Payloads.ghosts.eq (Payload.Icmpv4 a) (Payload.Icmpv4 b)) ((Icmpv4.header_of a ≡ Icmpv4.header_of b) ×
      (Icmpv4.payload_of a ≡ Icmpv4.payload_of b))
  pub icmpv6 : (a b : Icmpv6Repr) →
      Decides (Payloads.ghosts.eq (Payload.Icmpv6 a) (Payload.Icmpv6 b)) ((Icmpv6.value_of (Icmpv6.header_of a) ≡ Icmpv6.value_of (Icmpv6.header_of b)) ×
      (Icmpv6.carried_by a ≡ Icmpv6.carried_by b))
  pub tcp : (a b : TcpHeader) (s t : SegmentPayload) →
      Decides (Payloads.ghosts.eq (Payload.Tcp a s) (Payload.Tcp b t)) ((a ≡ b) × (payload_bytes s ≡ payload_bytes t))
  pub udp : (a b : UdpRepr) (xs ys : Bor (List ℕ)) → Decides (Payloads.ghosts.eq (Payload.Udp a xs) (Payload.Udp b ys)) ((a ≡ b) × (xs.now ≡ ys.now))

pub Decides-payload : Laws → (a b : IpPayload) → Decides (Payloads.ghosts.eq a b) (payload_value a ≡ payload_value b)
Decides-payload laws (Payload.Icmpv4 a) (Payload.Icmpv4 b) =
    let same = laws.icmpv4 a b in (
      λ yes. ap₂ ControlV4 (same.0 yes).0 (same.0 yes).1,
      λ e. let first : Icmpv4.header_of a ≡ Icmpv4.header_of b =
          cc in let second : Icmpv4.payload_of a ≡ Icmpv4.payload_of b = cc in same.1 (both first second),
    )
Decides-payload laws (Payload.Icmpv6 a) (Payload.Icmpv6 b) =
    let same = laws.icmpv6 a b in (
      λ yes. ap₂ ControlV6 (same.0 yes).0 (same.0 yes).1,
      λ e. let first : Icmpv6.value_of (Icmpv6.header_of a) ≡ Icmpv6.value_of (Icmpv6.header_of b) =
          cc in let second : Icmpv6.carried_by a ≡ Icmpv6.carried_by b = cc in same.1 (both first second),
    )
Decides-payload laws (Payload.Raw xs) (Payload.Raw ys) =
    let same = bytes_eq-Decides xs.now ys.now in (λ yes. ap Bytes (same.0 yes), λ e. same.1 (cc))
Decides-payload laws (Payload.Udp a xs) (Payload.Udp b ys) =
    let same = laws.udp a b xs ys in
    (λ yes. ap₂ Datagram (same.0 yes).0 (same.0 yes).1, λ e. let first : a ≡ b = cc in let second : xs.now ≡ ys.now = cc in same.1 (both first second))
Decides-payload laws (Payload.Tcp a s) (Payload.Tcp b t) =
    let same = laws.tcp a b s t in (
      λ yes. ap₂ Segment (same.0 yes).0 (same.0 yes).1,
      λ e. let first : a ≡ b = cc in let second : payload_bytes s ≡ payload_bytes t = cc in same.1 (both first second),
    )
Decides-payload laws a b = (λ yes. absurd (cc), λ e. absurd (cc))

-- packets are compared by header and payload
pub Decides-packet : ((a b : Packet) → Decides (Packets.ghosts.eq a b) ((a.header ≡ b.header) × (payload_value a.payload ≡ payload_value b.payload)))
    → (a b : Packet) → Decides (Packets.ghosts.eq a b) (packet_value a ≡ packet_value b)
Decides-packet parts a b =
    let same = parts a b in
    (λ yes. ap₂ packet_of (same.0 yes).0 (same.0 yes).1, λ e. same.1 (both (ap (λ (p : PacketValue). p.header) e) (ap (λ (p : PacketValue). p.payload) e)))
