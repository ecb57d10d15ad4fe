-- When messages are equal.
use Rattle.std.proofs.Common.{rules, ◌≡◌, ℕ, ap₂}
use Rattle.std.specs.Bool.{Decides}
use Rattle.std.proofs.lemmas.Bool.Decides.{Decides-and, Decides-eqb}
use Rattle.std.proofs.lemmas.Slice.Eq.{bytes_eq-Decides}
use Rattle.wire_ip.proofs.Equal.{Decides-v4}
use Rattle.wire_icmpv4.specs.Icmpv4.{header_of, payload_of}
use Rattle.wire_icmpv4.specs.contracts.header.Icmpv4HeaderPartialEq.TheImpl as Headers
use Rattle.wire_icmpv4.specs.contracts.message.Icmpv4DstUnreachablePartialEq.TheImpl as Unreachable
use Rattle.wire_icmpv4.specs.contracts.message.Icmpv4TimeExceededPartialEq.TheImpl as Exceeded
use Rattle.wire_icmpv4.specs.contracts.repr.Icmpv4ReprPartialEq.TheImpl as Messages
use Rattle.wire_icmpv4.specs.declared.header.Icmpv4Header.{Icmpv4Header}
use Rattle.wire_icmpv4.specs.declared.header.Icmpv4Header.TheVariants as Header
use Rattle.wire_icmpv4.specs.declared.message.Icmpv4DstUnreachable.{Icmpv4DstUnreachable}
use Rattle.wire_icmpv4.specs.declared.message.Icmpv4TimeExceeded.{Icmpv4TimeExceeded}
use Rattle.wire_icmpv4.specs.declared.repr.Icmpv4Repr.{Icmpv4Repr}
use Rattle.wire_icmpv4.specs.declared.repr.Icmpv4Repr.TheVariants as Repr

both : {P Q : Type 0} → P → Q → P × Q
both p q = (p, q)

Decides-unreachable : (a b : Icmpv4DstUnreachable) → Decides (Unreachable.ghosts.eq a b) (a ≡ b)
Decides-unreachable a b = search rules

Decides-exceeded : (a b : Icmpv4TimeExceeded) → Decides (Exceeded.ghosts.eq a b) (a ≡ b)
Decides-exceeded a b = search rules

-- headers are compared whole
pub Decides-header : (a b : Icmpv4Header) → Decides (Headers.ghosts.eq a b) (a ≡ b)
Decides-header (Header.EchoRequest i m) (Header.EchoRequest j n) =
    let same = Decides-and _ _ (Decides-eqb i j) (Decides-eqb m n) in
    (λ yes. ap₂ Header.EchoRequest (same.0 yes).0 (same.0 yes).1, λ e. let first : i ≡ j = cc in let second : m ≡ n = cc in same.1 (both first second))
Decides-header (Header.EchoReply i m) (Header.EchoReply j n) =
    let same = Decides-and _ _ (Decides-eqb i j) (Decides-eqb m n) in
    (λ yes. ap₂ Header.EchoReply (same.0 yes).0 (same.0 yes).1, λ e. let first : i ≡ j = cc in let second : m ≡ n = cc in same.1 (both first second))
Decides-header (Header.DstUnreachable r h) (Header.DstUnreachable s k) =
    let same = Decides-and _ _ (Decides-unreachable r s) (Decides-v4 h k) in
    (λ yes. ap₂ Header.DstUnreachable (same.0 yes).0 (same.0 yes).1, λ e. let first : r ≡ s = cc in let second : h ≡ k = cc in same.1 (both first second))
Decides-header (Header.TimeExceeded r h) (Header.TimeExceeded s k) =
    let same = Decides-and _ _ (Decides-exceeded r s) (Decides-v4 h k) in
    (λ yes. ap₂ Header.TimeExceeded (same.0 yes).0 (same.0 yes).1, λ e. let first : r ≡ s = cc in let second : h ≡ k = cc in same.1 (both first second))
Decides-header a b = (λ yes. absurd (cc), λ e. absurd (cc))

-- messages are compared by their headers and the bytes that they carry
pub Decides-message : (a b : Icmpv4Repr) → Decides (Messages.ghosts.eq a b) ((header_of a ≡ header_of b) × (payload_of a ≡ payload_of b))
Decides-message (Repr.EchoRequest i m xs) (Repr.EchoRequest j n ys) =
    let same = Decides-and _ _ (Decides-eqb i j) (Decides-and _ _ (Decides-eqb m n) (bytes_eq-Decides xs.now ys.now)) in (
      λ yes. both (ap₂ Header.EchoRequest (same.0 yes).0 (same.0 yes).1.0) (same.0 yes).1.1,
      λ e. let header = e.0 in let first : i ≡ j =
          cc in let second : m ≡ n = cc in same.1 (both first (both second e.1)),
    )
Decides-message (Repr.EchoReply i m xs) (Repr.EchoReply j n ys) =
    let same = Decides-and _ _ (Decides-eqb i j) (Decides-and _ _ (Decides-eqb m n) (bytes_eq-Decides xs.now ys.now)) in (
      λ yes. both (ap₂ Header.EchoReply (same.0 yes).0 (same.0 yes).1.0) (same.0 yes).1.1,
      λ e. let header = e.0 in let first : i ≡ j =
          cc in let second : m ≡ n = cc in same.1 (both first (both second e.1)),
    )
Decides-message (Repr.DstUnreachable r h xs) (Repr.DstUnreachable s k ys) =
    let same = Decides-and _ _ (Decides-unreachable r s) (Decides-and _ _ (Decides-v4 h k) (bytes_eq-Decides xs.now ys.now)) in (
      λ yes. both (ap₂ Header.DstUnreachable (same.0 yes).0 (same.0 yes).1.0) (same.0 yes).1.1,
      λ e. let header = e.0 in let first : r ≡ s =
          cc in let second : h ≡ k = cc in same.1 (both first (both second e.1)),
    )
Decides-message (Repr.TimeExceeded r h xs) (Repr.TimeExceeded s k ys) =
    let same = Decides-and _ _ (Decides-exceeded r s) (Decides-and _ _ (Decides-v4 h k) (bytes_eq-Decides xs.now ys.now)) in (
      λ yes. both (ap₂ Header.TimeExceeded (same.0 yes).0 (same.0 yes).1.0) (same.0 yes).1.1,
      λ e. let header = e.0 in let first : r ≡ s =
          cc in let second : h ≡ k = cc in same.1 (both first (both second e.1)),
    )
Decides-message a b = (λ yes. absurd (cc), λ e. let header = e.0 in absurd (cc))
