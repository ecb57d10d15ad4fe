-- When messages are equal.
use Rattle.std.proofs.Common.{rules, ◌≡◌, ℕ, refl, ap, ap₂, Option, Some, None}
use Rattle.std.specs.Bool.{Decides}
use Rattle.std.specs.Option.{option_eq}
use Rattle.std.specs.Prelude.{List}
use Rattle.std.proofs.lemmas.Bool.Decides.{Decides-and, Decides-eqb}
use Rattle.std.proofs.lemmas.Slice.Eq.{bytes_eq-Decides}
use Rattle.wire_address.specs.declared.hardware.RawHardwareAddress.{RawHardwareAddress}
use Rattle.wire_address.specs.declared.ipv6.Ipv6Address.{Ipv6Address}
use Rattle.wire_address.specs.contracts.hardware.RawHardwareAddressPartialEq.TheImpl as Raw
use Rattle.wire_address.specs.contracts.ipv6.Ipv6AddressPartialEq.TheImpl as Address
use Rattle.wire_address.proofs.Orders.{Decides-raw}
use Rattle.wire_ip.proofs.Equal.{Decides-v6}
use Rattle.wire_icmpv6.specs.Icmpv6.{value_of, header_of, carried_by}
use Rattle.wire_icmpv6.specs.Icmpv6 as Value
use Rattle.wire_icmpv6.specs.Ndisc.{NeighborMessage, neighbor_message, Solicitation, Advertisement}
use Rattle.wire_icmpv6.specs.NdiscOption.{link_bytes}
use Rattle.wire_icmpv6.specs.contracts.header.Icmpv6HeaderPartialEq.TheImpl as Headers
use Rattle.wire_icmpv6.specs.contracts.ndisc.NdiscReprPartialEq.TheImpl as Neighbors
use Rattle.wire_icmpv6.specs.contracts.ndisc_flags.NdiscNeighborFlagsPartialEq.TheImpl as Flags
use Rattle.wire_icmpv6.specs.contracts.reason.Icmpv6DstUnreachablePartialEq.TheImpl as Unreachable
use Rattle.wire_icmpv6.specs.contracts.reason.Icmpv6ParamProblemPartialEq.TheImpl as Problem
use Rattle.wire_icmpv6.specs.contracts.reason.Icmpv6TimeExceededPartialEq.TheImpl as Exceeded
use Rattle.wire_icmpv6.specs.contracts.repr.Icmpv6ReprPartialEq.TheImpl as Messages
use Rattle.wire_icmpv6.specs.declared.header.Icmpv6Header.{Icmpv6Header}
use Rattle.wire_icmpv6.specs.declared.header.Icmpv6Header.TheVariants as Header
use Rattle.wire_icmpv6.specs.declared.ndisc.NdiscRepr.{NdiscRepr}
use Rattle.wire_icmpv6.specs.declared.ndisc.NdiscRepr.TheVariants as Ndisc
use Rattle.wire_icmpv6.specs.declared.ndisc_flags.NdiscNeighborFlags.{NdiscNeighborFlags}
use Rattle.wire_icmpv6.specs.declared.reason.Icmpv6DstUnreachable.{Icmpv6DstUnreachable}
use Rattle.wire_icmpv6.specs.declared.reason.Icmpv6ParamProblem.{Icmpv6ParamProblem}
use Rattle.wire_icmpv6.specs.declared.reason.Icmpv6TimeExceeded.{Icmpv6TimeExceeded}
use Rattle.wire_icmpv6.specs.declared.repr.Icmpv6Repr.{Icmpv6Repr}
use Rattle.wire_icmpv6.specs.declared.repr.Icmpv6Repr.TheVariants as Repr

both : {P Q : Type 0} → P → Q → P × Q
both p q = (p, q)

Decides-unreachable : (a b : Icmpv6DstUnreachable) → Decides (Unreachable.ghosts.eq a b) (a ≡ b)
Decides-unreachable a b = search rules

Decides-problem : (a b : Icmpv6ParamProblem) → Decides (Problem.ghosts.eq a b) (a ≡ b)
Decides-problem a b = search rules

Decides-exceeded : (a b : Icmpv6TimeExceeded) → Decides (Exceeded.ghosts.eq a b) (a ≡ b)
Decides-exceeded a b = search rules

Decides-flags : (a b : NdiscNeighborFlags) → Decides (Flags.ghosts.eq a b) (a ≡ b)
Decides-flags a b = search rules

Decides-target : (a b : Ipv6Address) → Decides (Address.ghosts.eq a b) (a ≡ b)
Decides-target a b =
    let same = bytes_eq-Decides a.0 b.0 in
    let make : List ℕ → Ipv6Address = λ octets. record { 0 = octets } in
    (λ yes. ap make (same.0 yes), λ e. same.1 (ap (λ (x : Ipv6Address). x.0) e))

-- link addresses are compared by their bytes
Decides-link : (a b : Option RawHardwareAddress) → Decides (option_eq (λ x y. Raw.ghosts.eq x y) a b) (link_bytes a ≡ link_bytes b)
Decides-link None None = (λ _. refl, λ _. refl)
Decides-link None (Some b) = (λ yes. absurd (cc), λ e. absurd (cc))
Decides-link (Some a) None = (λ yes. absurd (cc), λ e. absurd (cc))
Decides-link (Some a) (Some b) = let same = Decides-raw a b in (λ yes. ap Some (same.0 yes), λ e. same.1 (cc))

-- neighbour messages are compared by their values
pub Decides-neighbor : (a b : NdiscRepr) → Decides (Neighbors.ghosts.eq a b) (neighbor_message a ≡ neighbor_message b)
Decides-neighbor (Ndisc.NeighborSolicit t l) (Ndisc.NeighborSolicit u m) =
    let same = Decides-and _ _ (Decides-target t u) (Decides-link l m) in (
      λ yes. ap₂ Solicitation (same.0 yes).0 (same.0 yes).1,
      λ e. let first : t ≡ u = cc in let second : link_bytes l ≡ link_bytes m =
          cc in same.1 (both first second),
    )
Decides-neighbor (Ndisc.NeighborAdvert f t l) (Ndisc.NeighborAdvert g u m) =
    let same = Decides-and _ _ (Decides-flags f g) (Decides-and _ _ (Decides-target t u) (Decides-link l m)) in (
      λ yes. λ i. Advertisement ((same.0 yes).0 i) ((same.0 yes).1.0 i) ((same.0 yes).1.1 i),
      λ e. let flags : f ≡ g = cc in let first : t ≡ u =
          cc in let second : link_bytes l ≡ link_bytes m = cc in same.1 (both flags (both first second)),
    )
Decides-neighbor a b = (λ yes. absurd (cc), λ e. absurd (cc))

-- headers are compared by their values
pub Decides-header : (a b : Icmpv6Header) → Decides (Headers.ghosts.eq a b) (value_of a ≡ value_of b)
Decides-header (Header.DstUnreachable r h) (Header.DstUnreachable s k) =
    let same = Decides-and _ _ (Decides-unreachable r s) (Decides-v6 h k) in
    (λ yes. ap₂ Value.DstUnreachable (same.0 yes).0 (same.0 yes).1, λ e. let first : r ≡ s = cc in let second : h ≡ k = cc in same.1 (both first second))
Decides-header (Header.PktTooBig m h) (Header.PktTooBig n k) =
    let same = Decides-and _ _ (Decides-eqb m n) (Decides-v6 h k) in
    (λ yes. ap₂ Value.PktTooBig (same.0 yes).0 (same.0 yes).1, λ e. let first : m ≡ n = cc in let second : h ≡ k = cc in same.1 (both first second))
Decides-header (Header.TimeExceeded r h) (Header.TimeExceeded s k) =
    let same = Decides-and _ _ (Decides-exceeded r s) (Decides-v6 h k) in
    (λ yes. ap₂ Value.TimeExceeded (same.0 yes).0 (same.0 yes).1, λ e. let first : r ≡ s = cc in let second : h ≡ k = cc in same.1 (both first second))
Decides-header (Header.ParamProblem r p h) (Header.ParamProblem s q k) =
    let same = Decides-and _ _ (Decides-problem r s) (Decides-and _ _ (Decides-eqb p q) (Decides-v6 h k)) in (
      λ yes. λ i. Value.ParamProblem ((same.0 yes).0 i) ((same.0 yes).1.0 i) ((same.0 yes).1.1 i),
      λ e. let first : r ≡ s = cc in let offset : p ≡ q =
          cc in let second : h ≡ k = cc in same.1 (both first (both offset second)),
    )
Decides-header (Header.EchoRequest i m) (Header.EchoRequest j n) =
    let same = Decides-and _ _ (Decides-eqb i j) (Decides-eqb m n) in
    (λ yes. ap₂ Value.EchoRequest (same.0 yes).0 (same.0 yes).1, λ e. let first : i ≡ j = cc in let second : m ≡ n = cc in same.1 (both first second))
Decides-header (Header.EchoReply i m) (Header.EchoReply j n) =
    let same = Decides-and _ _ (Decides-eqb i j) (Decides-eqb m n) in
    (λ yes. ap₂ Value.EchoReply (same.0 yes).0 (same.0 yes).1, λ e. let first : i ≡ j = cc in let second : m ≡ n = cc in same.1 (both first second))
Decides-header (Header.Ndisc x) (Header.Ndisc y) =
    let same = Decides-neighbor x y in (λ yes. ap Value.Ndisc (same.0 yes), λ e. same.1 (cc))
Decides-header a b = (λ yes. absurd (cc), λ e. absurd (cc))

-- messages are compared by their values and the bytes that they carry
pub Decides-message : (a b : Icmpv6Repr) → Decides (Messages.ghosts.eq a b) ((value_of (header_of a) ≡ value_of (header_of b)) × (carried_by a ≡ carried_by b))
Decides-message (Repr.DstUnreachable r h xs) (Repr.DstUnreachable s k ys) =
    let same = Decides-and _ _ (Decides-unreachable r s) (Decides-and _ _ (Decides-v6 h k) (bytes_eq-Decides xs.now ys.now)) in (
      λ yes. both (ap₂ Value.DstUnreachable (same.0 yes).0 (same.0 yes).1.0) (same.0 yes).1.1,
      λ e. let header = e.0 in let first : r ≡ s =
          cc in let second : h ≡ k = cc in same.1 (both first (both second e.1)),
    )
Decides-message (Repr.PktTooBig m h xs) (Repr.PktTooBig n k ys) =
    let same = Decides-and _ _ (Decides-eqb m n) (Decides-and _ _ (Decides-v6 h k) (bytes_eq-Decides xs.now ys.now)) in (
      λ yes. both (ap₂ Value.PktTooBig (same.0 yes).0 (same.0 yes).1.0) (same.0 yes).1.1,
      λ e. let header = e.0 in let first : m ≡ n = cc in let second : h ≡ k =
          cc in same.1 (both first (both second e.1)),
    )
Decides-message (Repr.TimeExceeded r h xs) (Repr.TimeExceeded s k ys) =
    let same = Decides-and _ _ (Decides-exceeded r s) (Decides-and _ _ (Decides-v6 h k) (bytes_eq-Decides xs.now ys.now)) in (
      λ yes. both (ap₂ Value.TimeExceeded (same.0 yes).0 (same.0 yes).1.0) (same.0 yes).1.1,
      λ e. let header = e.0 in let first : r ≡ s =
          cc in let second : h ≡ k = cc in same.1 (both first (both second e.1)),
    )
Decides-message (Repr.ParamProblem r p h xs) (Repr.ParamProblem s q k ys) =
    let following = Decides-and _ _ (Decides-v6 h k) (bytes_eq-Decides xs.now ys.now) in
    let same = Decides-and _ _ (Decides-problem r s) (Decides-and _ _ (Decides-eqb p q) following) in (
      λ yes. both (λ i. Value.ParamProblem ((same.0 yes).0 i) ((same.0 yes).1.0 i) ((same.0 yes).1.1.0 i)) (same.0 yes).1.1.1,
      λ e. let header =
          e.0 in let first : r ≡ s = cc in let offset : p ≡ q = cc in let second : h ≡ k = cc in same.1 (both first (both offset (both second e.1))),
    )
Decides-message (Repr.EchoRequest i m xs) (Repr.EchoRequest j n ys) =
    let same = Decides-and _ _ (Decides-eqb i j) (Decides-and _ _ (Decides-eqb m n) (bytes_eq-Decides xs.now ys.now)) in (
      λ yes. both (ap₂ Value.EchoRequest (same.0 yes).0 (same.0 yes).1.0) (same.0 yes).1.1,
      λ e. let header = e.0 in let first : i ≡ j =
          cc in let second : m ≡ n = cc in same.1 (both first (both second e.1)),
    )
Decides-message (Repr.EchoReply i m xs) (Repr.EchoReply j n ys) =
    let same = Decides-and _ _ (Decides-eqb i j) (Decides-and _ _ (Decides-eqb m n) (bytes_eq-Decides xs.now ys.now)) in (
      λ yes. both (ap₂ Value.EchoReply (same.0 yes).0 (same.0 yes).1.0) (same.0 yes).1.1,
      λ e. let header = e.0 in let first : i ≡ j = cc in let second : m ≡ n =
          cc in same.1 (both first (both second e.1)),
    )
Decides-message (Repr.Ndisc x) (Repr.Ndisc y) =
    let same = Decides-neighbor x y in (λ yes. both (ap Value.Ndisc (same.0 yes)) refl, λ e. let header = e.0 in same.1 (cc))
Decides-message a b = (λ yes. absurd (cc), λ e. let header = e.0 in absurd (cc))
