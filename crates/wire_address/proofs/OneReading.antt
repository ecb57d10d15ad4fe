-- A text spells at most one address.
use Rattle.std.proofs.Common.{◌≡◌, ℕ, inl, inr, List, [], ◌∷◌, ◌++◌, suc, sym, refl, ◌∙◌, ap, ap₂, arith, subst}
use Rattle.std.specs.Net.Addr.{octets_of}
use Rattle.std.specs.declared.net.ipv6_addr.Ipv6Addr.{Ipv6Addr}
use Rattle.std.proofs.NetLemmas.Theorems.{IsIpv6Text_unique}
use Rattle.wire_address.specs.Text.{Lacks, IsOctetBefore, IsDottedText, IsIpv4Text, two_groups, IsHexGroups, IsDottedEnd, IsIpv6Text, IsIpText}
use Rattle.wire_address.specs.declared.ip.IpAddress.{IpAddress}
use Rattle.wire_address.specs.declared.ip.IpAddress.TheVariants as Ip
use Rattle.wire_address.specs.declared.ipv4.Ipv4Address.{Ipv4Address}
use Rattle.wire_address.specs.declared.ipv6.Ipv6Address.{Ipv6Address}
use Rattle.wire_address.proofs.Families.{IsIpText-apart}
use Rattle.wire_address.proofs.Ipv6Texts.{Lacks-dot, IsCutAtLast-end}
use Rattle.wire_address.proofs.Texts.{Lacks-digits, IsCutAtLast-unique}

-- the parts at the first place of a byte are determined
IsCut-unique : (byte : ℕ) (front back first second : List ℕ) → front ++ byte ∷ back ≡ first ++ byte ∷ second → Lacks front byte → Lacks first byte →
    (front ≡ first) × (back ≡ second)
IsCut-unique byte [] back [] second same lacks other = (refl, cc)
IsCut-unique byte [] back (b ∷ first) second same lacks other = let head : b ≡ byte = cc in absurd (other 0 (omega arith) head)
IsCut-unique byte (a ∷ front) back [] second same lacks other = let head : a ≡ byte = cc in absurd (lacks 0 (omega arith) head)
IsCut-unique byte (a ∷ front) back (b ∷ first) second same lacks other =
    let tail : front ++ byte ∷ back ≡ first ++ byte ∷ second = cc in
    let head : a ≡ b = cc in
    let both = IsCut-unique byte front back first second tail (λ i less. lacks (suc i) (omega arith)) (λ i less. other (suc i) (omega arith)) in
    (ap₂ ◌∷◌ head both.0, both.1)

-- a part of an IPv4 address and what stands after its dot
IsOctetBefore-unique : (text : List ℕ) (m n : ℕ) (rest other : List ℕ) → IsOctetBefore text m rest → IsOctetBefore text n other → (m ≡ n) × (rest ≡ other)
IsOctetBefore-unique text m n rest other h k =
    let both = IsCut-unique 46 h.0 rest k.0 other (sym h.1 ∙ k.1) (Lacks-digits 10 46 h.0 h.2.0.0.0.1 (omega arith))
    (Lacks-digits 10 46 k.0 k.2.0.0.0.1 (omega arith)) in
    let first = h.2.0.0.1 in
    let second = k.2.0.0.1 in
    let digits = both.0 in
    (cc, both.1)

-- the four parts
IsDottedText-unique : (text octets others : List ℕ) → IsDottedText text octets → IsDottedText text others → octets ≡ others
IsDottedText-unique text octets others h k =
    let first = IsOctetBefore-unique text h.a k.a h.after_a k.after_a h.first k.first in
    let second = IsOctetBefore-unique h.after_a h.b k.b h.after_b k.after_b h.second (rw first.1 k.second) in
    let third = IsOctetBefore-unique h.after_b h.c k.c h.after_c k.after_c h.third (rw second.1 k.third) in
    let left = h.fourth.0.0.1 in
    let right = k.fourth.0.0.1 in
    let fourth : h.d ≡ k.d = let rest = third.1 in cc in
    h.value ∙ ap₂ ◌∷◌ first.0 (ap₂ ◌∷◌ second.0 (ap₂ ◌∷◌ third.0 (ap (λ d. d ∷ []) fourth))) ∙ sym k.value

-- groups of hex digits alone
IsHexGroups-unique : (text segments others : List ℕ) → IsHexGroups text segments → IsHexGroups text others → segments ≡ others
IsHexGroups-unique text segments others h k =
    let first : Ipv6Addr = record { segments = segments } in
    let second : Ipv6Addr = record { segments = others } in
    ap (λ (a : Ipv6Addr). a.segments) (IsIpv6Text_unique text first second h.1 k.1)

-- the text with its dotted end in hex
IsDottedEnd-unique : (text hex other : List ℕ) → IsDottedEnd text hex → IsDottedEnd text other → hex ≡ other
IsDottedEnd-unique text hex other h k =
    let first = IsCutAtLast-end text hex h in
    let second = IsCutAtLast-end text other k in
    let both = IsCutAtLast-unique 58 h.front h.tail k.front k.tail (sym h.spelled ∙ k.spelled) first.last second.last in
    let octets = IsDottedText-unique h.tail h.octets k.octets h.of_tail (rw both.1 k.of_tail) in
    h.in_hex ∙ ap₂ (λ f o. f ++ 58 ∷ two_groups o) both.0 octets ∙ sym k.in_hex

-- IPv4
pub IsIpv4Text-unique : (text : List ℕ) (a b : Ipv4Address) → IsIpv4Text text a → IsIpv4Text text b → a ≡ b
IsIpv4Text-unique text a b h k =
    let make : List ℕ → Ipv4Address = λ o. record { 0 = o } in
    ap make (IsDottedText-unique text a.0 b.0 h k)

-- IPv6
pub IsIpv6Text-unique : (text : List ℕ) (a b : Ipv6Address) → IsIpv6Text text a → IsIpv6Text text b → a ≡ b
IsIpv6Text-unique text a b h k =
    let make : List ℕ → Ipv6Address = λ o. record { 0 = o } in
    let segments : h.0 ≡ k.0 =
    elim h.1 [
      | inl g ↦ elim k.1 [
        | inl e ↦ IsHexGroups-unique text h.0 k.0 g e
        | inr e ↦ absurd (Lacks-dot text e.0 e.1 g.0)
      ]
      | inr g ↦ elim k.1 [
        | inl e ↦ absurd (Lacks-dot text g.0 g.1 e.0)
        | inr e ↦ IsHexGroups-unique e.0 h.0 k.0 (let P : List ℕ → Type 0 = λ t. IsHexGroups t h.0 in subst P (IsDottedEnd-unique text g.0 e.0 g.1 e.1) g.2) e.2
      ]
    ] in
    ap make (h.2 ∙ ap octets_of segments ∙ sym k.2)

-- both families
pub IsIpText-unique : (text : List ℕ) (a b : IpAddress) → IsIpText text a → IsIpText text b → a ≡ b
IsIpText-unique text (Ip.Ipv4 a) (Ip.Ipv4 b) h k = ap Ip.Ipv4 (IsIpv4Text-unique text a b h k)
IsIpText-unique text (Ip.Ipv4 a) (Ip.Ipv6 b) h k = absurd (IsIpText-apart text a b h k)
IsIpText-unique text (Ip.Ipv6 a) (Ip.Ipv4 b) h k = absurd (IsIpText-apart text b a k h)
IsIpText-unique text (Ip.Ipv6 a) (Ip.Ipv6 b) h k = ap Ip.Ipv6 (IsIpv6Text-unique text a b h k)
