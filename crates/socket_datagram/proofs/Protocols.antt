-- Protocols are told apart by a number.
use Rattle.std.proofs.Common.{◌≡◌, ◌↔◌, ℕ, ◌+◌, ◌-◌, ◌==◌, nat_lt, Bool, true, false, IsTrue, if◌then◌else◌, refl, sym, ap, ◌∙◌, arith}
use Rattle.std.proofs.lemmas.Bool.Decides.{same_from_decides, Decides-eqb, Decides-like}
use Rattle.std.proofs.lemmas.Bool.{ltb-true}
use Rattle.wire_address.specs.declared.ip.IpProtocol.{IpProtocol}
use Rattle.wire_address.specs.declared.ip.IpProtocol.TheVariants as Protocol
use Rattle.wire_address.specs.Protocol.{protocol_of}
use Rattle.socket_datagram.specs.Same.{told_apart, is_protocol}

-- the protocol of such a number
abbrev named : ℕ → IpProtocol
named n = if nat_lt n 256 then protocol_of n else Protocol.Unknown (n - 256)

named_unknown : (n : ℕ) (b : Bool) → nat_lt (256 + n) 256 ≡ b → (if b then protocol_of (256 + n) else Protocol.Unknown (256 + n - 256)) ≡ Protocol.Unknown n
named_unknown n true is =
    let no : ⊥ = omega (arith, ltb-true (256 + n) 256 is) in absurd no
named_unknown n false is = ap Protocol.Unknown (omega arith)

named-told_apart : (p : IpProtocol) → named (told_apart p) ≡ p
named-told_apart Protocol.HopByHop = refl
named-told_apart Protocol.Icmp = refl
named-told_apart Protocol.Igmp = refl
named-told_apart Protocol.Tcp = refl
named-told_apart Protocol.Udp = refl
named-told_apart Protocol.Ipv6Route = refl
named-told_apart Protocol.Ipv6Frag = refl
named-told_apart Protocol.IpSecEsp = refl
named-told_apart Protocol.IpSecAh = refl
named-told_apart Protocol.Icmpv6 = refl
named-told_apart Protocol.Ipv6NoNxt = refl
named-told_apart Protocol.Ipv6Opts = refl
named-told_apart (Protocol.Unknown n) = named_unknown n (nat_lt (256 + n) 256) refl

pub same : (a b : IpProtocol) (answer : Bool) → IsTrue answer ↔ (a ≡ b) → answer ≡ is_protocol a b
same a b answer means =
    let back : told_apart a ≡ told_apart b → a ≡ b = λ e. sym (named-told_apart a) ∙ ap named e ∙ named-told_apart b in
    same_from_decides answer _ means (Decides-like (told_apart a == told_apart b) back (ap told_apart) (Decides-eqb (told_apart a) (told_apart b)))
