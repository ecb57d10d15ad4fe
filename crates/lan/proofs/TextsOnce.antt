-- A text is one endpoint, one Ethernet address, one block.
use Rattle.std.proofs.Common.{◌≡◌, ◌≤◌, ◌⊎◌, ℕ, suc, List, [], ◌∷◌, ◌++◌, inl, inr, refl, sym, ◌∙◌, ap, ap₂, subst, arith}
use mathlib.Core.HLevel.{is_prop→PathP}
use native.Mathlib.Bridge.{le_prop}
use Rattle.std.specs.Char.{digit_value}
use Rattle.wire_address.specs.Text.{Lacks, IsDecimal, IsIpv4Text, IsIpv6Text, IsIpText, IsIpv4EndpointText, IsIpv6EndpointText, IsAddressAndPort, IsEndpointText}
use Rattle.wire_address.specs.Text.{IsHexPair, IsHexPairBefore, IsSixPairs, IsEthernetText, IsIpCidrText}
use Rattle.wire_address.specs.Cidr.{cidr_address, cidr_prefix_len, width_of}
use Rattle.wire_address.specs.declared.ethernet.EthernetAddress.{EthernetAddress}
use Rattle.wire_address.specs.declared.ip.IpAddress.{IpAddress}
use Rattle.wire_address.specs.declared.ip.IpAddress.TheVariants as Ip
use Rattle.wire_address.specs.declared.ip.IpCidr.{IpCidr}
use Rattle.wire_address.specs.declared.ip.IpCidr.TheVariants as Tcb
use Rattle.wire_address.specs.declared.ip.IpEndpoint.{IpEndpoint}
use Rattle.wire_address.specs.declared.ipv4.Ipv4Address.{Ipv4Address}
use Rattle.wire_address.specs.declared.ipv4.Ipv4Cidr.{Ipv4Cidr}
use Rattle.wire_address.specs.declared.ipv6.Ipv6Address.{Ipv6Address}
use Rattle.wire_address.specs.declared.ipv6.Ipv6Cidr.{Ipv6Cidr}
use Rattle.wire_address.proofs.Texts.{Lacks-digits, Lacks-cons, IsCutAtLast-unique}
use Rattle.wire_address.proofs.Families.{IsEndpointText-apart}
use Rattle.wire_address.proofs.OneReading.{IsIpv4Text-unique, IsIpv6Text-unique, IsIpText-unique}

-- ENDPOINTS

-- digits are one number
number_once : (most other : ℕ) (digits again : List ℕ) (n m : ℕ) → IsDecimal most digits n → IsDecimal other again m → digits ≡ again → n ≡ m
number_once most other digits again n m h k same =
    let left = h.0.1 in
    let right = k.0.1 in
    cc

ipv4_once : (text : List ℕ) (a b : Ipv4Address) (port again : ℕ) → IsIpv4EndpointText text a port → IsIpv4EndpointText text b again → (a ≡ b) × (port ≡ again)
ipv4_once text a b port again h k =
    let parts = IsCutAtLast-unique 58 h.address h.digits k.address k.digits (sym h.spelled ∙ k.spelled)
    (Lacks-digits 10 58 h.digits h.of_port.0.0.1 (omega arith)) (Lacks-digits 10 58 k.digits k.of_port.0.0.1 (omega arith)) in
    let address : IsIpv4Text h.address b = subst (λ (t : List ℕ). IsIpv4Text t b) (sym parts.0) k.of_address in
    (IsIpv4Text-unique h.address a b h.of_address address, number_once 65535 65535 h.digits k.digits port again h.of_port k.of_port parts.1)

-- a colon and a port have no bracket
no_bracket : (digits : List ℕ) (port : ℕ) → IsDecimal 65535 digits port → Lacks (58 ∷ digits) 93
no_bracket digits port h = Lacks-cons 93 58 digits (λ e. omega arith) (Lacks-digits 10 93 digits h.0.0.1 (omega arith))

ipv6_once : (text : List ℕ) (a b : Ipv6Address) (port again : ℕ) → IsIpv6EndpointText text a port → IsIpv6EndpointText text b again → (a ≡ b) × (port ≡ again)
ipv6_once text a b port again h k =
    let parts = IsCutAtLast-unique 93 (91 ∷ h.address) (58 ∷ h.digits) (91 ∷ k.address) (58 ∷ k.digits) (sym h.spelled ∙ k.spelled)
    (no_bracket h.digits port h.of_port) (no_bracket k.digits again k.of_port) in
    let front = parts.0 in
    let back = parts.1 in
    let same : h.address ≡ k.address = cc in
    let digits : h.digits ≡ k.digits = cc in
    let address : IsIpv6Text h.address b = subst (λ (t : List ℕ). IsIpv6Text t b) (sym same) k.of_address in
    (IsIpv6Text-unique h.address a b h.of_address address, number_once 65535 65535 h.digits k.digits port again h.of_port k.of_port digits)

address_once : (text : List ℕ) (a b : IpAddress) (port again : ℕ) → IsAddressAndPort text a port → IsAddressAndPort text b again → (a ≡ b) × (port ≡ again)
address_once text (Ip.Ipv4 a) (Ip.Ipv4 b) port again h k = let both = ipv4_once text a b port again h k in (ap Ip.Ipv4 both.0, both.1)
address_once text (Ip.Ipv4 a) (Ip.Ipv6 b) port again h k = absurd (IsEndpointText-apart text a port b again h k)
address_once text (Ip.Ipv6 a) (Ip.Ipv4 b) port again h k = absurd (IsEndpointText-apart text b again a port k h)
address_once text (Ip.Ipv6 a) (Ip.Ipv6 b) port again h k = let both = ipv6_once text a b port again h k in (ap Ip.Ipv6 both.0, both.1)

same_endpoint : (a b : IpAddress) (port again : ℕ) → a ≡ b → port ≡ again →
    record { addr = a; port = port } ≡ (let e : IpEndpoint = record { addr = b; port = again } in e)
same_endpoint a b port again address number = rw (address, number) refl

pub endpoint_once : (text : List ℕ) (a b : IpEndpoint) → IsEndpointText text a → IsEndpointText text b → a ≡ b
endpoint_once text a b h k =
    let both = address_once text a.addr b.addr a.port b.port h k in
    same_endpoint a.addr b.addr a.port b.port both.0 both.1

-- ETHERNET ADDRESSES

-- the parts at the first place of a byte are determined
cut_once : (byte : ℕ) (front back first second : List ℕ) → front ++ byte ∷ back ≡ first ++ byte ∷ second → Lacks front byte → Lacks first byte →
    (front ≡ first) × (back ≡ second)
cut_once byte [] back [] second same lacks other = (refl, cc)
cut_once byte [] back (b ∷ first) second same lacks other = let head : b ≡ byte = cc in absurd (other 0 (omega arith) head)
cut_once byte (a ∷ front) back [] second same lacks other = let head : a ≡ byte = cc in absurd (lacks 0 (omega arith) head)
cut_once byte (a ∷ front) back (b ∷ first) second same lacks other =
    let tail : front ++ byte ∷ back ≡ first ++ byte ∷ second = cc in
    let head : a ≡ b = cc in
    let both = cut_once byte front back first second tail (λ i less. lacks (suc i) (omega arith)) (λ i less. other (suc i) (omega arith)) in
    (ap₂ ◌∷◌ head both.0, both.1)

pair_once : (digits again : List ℕ) (m n : ℕ) → IsHexPair digits m → IsHexPair again n → digits ≡ again → m ≡ n
pair_once digits again m n h k same =
    let left = h.0.1 in
    let right = k.0.1 in
    cc

module _ (separator : ℕ) (apart : 16 ≤ digit_value separator) where
  before_once : (text : List ℕ) (m n : ℕ) (rest other : List ℕ) → IsHexPairBefore separator text m rest → IsHexPairBefore separator text n other →
      (m ≡ n) × (rest ≡ other)
  before_once text m n rest other h k =
      let both = cut_once separator h.0 rest k.0 other (sym h.1 ∙ k.1) (Lacks-digits 16 separator h.0 h.2.0.0.1 apart)
      (Lacks-digits 16 separator k.0 k.2.0.0.1 apart) in
      (pair_once h.0 k.0 m n h.2 k.2 both.0, both.1)

  six_once : (text octets others : List ℕ) → IsSixPairs separator text octets → IsSixPairs separator text others → octets ≡ others
  six_once text octets others h k =
      let first = before_once text h.a k.a h.after_a k.after_a h.first k.first in
      let second = before_once h.after_a h.b k.b h.after_b k.after_b h.second (rw first.1 k.second) in
      let third = before_once h.after_b h.c k.c h.after_c k.after_c h.third (rw second.1 k.third) in
      let fourth = before_once h.after_c h.d k.d h.after_d k.after_d h.fourth (rw third.1 k.fourth) in
      let fifth = before_once h.after_d h.e k.e h.after_e k.after_e h.fifth (rw fourth.1 k.fifth) in
      let sixth = pair_once h.after_e k.after_e h.f k.f h.sixth k.sixth fifth.1 in
      h.value ∙ ap₂ ◌∷◌ first.0 (ap₂ ◌∷◌ second.0 (ap₂ ◌∷◌ third.0 (ap₂ ◌∷◌ fourth.0 (ap₂ ◌∷◌ fifth.0 (ap (λ (f : ℕ). f ∷ []) sixth))))) ∙ sym k.value

-- two texts that begin with digits go on with one separator
one_separator : (p q : ℕ) (front back first second : List ℕ) → front ++ p ∷ back ≡ first ++ q ∷ second → Lacks front q → Lacks first p → p ≡ q
one_separator p q [] back [] second same lacks other = cc
one_separator p q [] back (b ∷ first) second same lacks other = let head : b ≡ p = cc in absurd (other 0 (omega arith) head)
one_separator p q (a ∷ front) back [] second same lacks other = let head : a ≡ q = cc in absurd (lacks 0 (omega arith) head)
one_separator p q (a ∷ front) back (b ∷ first) second same lacks other =
    let tail : front ++ p ∷ back ≡ first ++ q ∷ second = cc in
    one_separator p q front back first second tail (λ i less. lacks (suc i) (omega arith)) (λ i less. other (suc i) (omega arith))

two_separators : (text octets others : List ℕ) → IsSixPairs 45 text octets → IsSixPairs 58 text others → ⊥
two_separators text octets others h k =
    let same = one_separator 45 58 h.first.0 h.after_a k.first.0 k.after_a (sym h.first.1 ∙ k.first.1)
    (Lacks-digits 16 58 h.first.0 h.first.2.0.0.1 (omega arith)) (Lacks-digits 16 45 k.first.0 k.first.2.0.0.1 (omega arith)) in
    absurd (omega (arith, same))

octets_once : (text octets others : List ℕ) → IsSixPairs 45 text octets ⊎ IsSixPairs 58 text octets → IsSixPairs 45 text others ⊎ IsSixPairs 58 text others →
    octets ≡ others
octets_once text octets others (inl h) (inl k) = six_once 45 (omega arith) text octets others h k
octets_once text octets others (inr h) (inr k) = six_once 58 (omega arith) text octets others h k
octets_once text octets others (inl h) (inr k) = absurd (two_separators text octets others h k)
octets_once text octets others (inr h) (inl k) = absurd (two_separators text others octets k h)

pub ethernet_once : (text : List ℕ) (a b : EthernetAddress) → IsEthernetText text a → IsEthernetText text b → a ≡ b
ethernet_once text a b h k = let make : List ℕ → EthernetAddress = λ o. record { 0 = o } in ap make (octets_once text a.0 b.0 h k)

-- BLOCKS

same_v4 : (a b : Ipv4Cidr) → a.address ≡ b.address → a.prefix_len ≡ b.prefix_len → a ≡ b
same_v4 a b e f = λ i. record {
  address = e i;
  prefix_len = f i;
  in_range = is_prop→PathP (λ j. f j ≤ 32) (λ j. le_prop) a.in_range b.in_range i;
}

same_v6 : (a b : Ipv6Cidr) → a.address ≡ b.address → a.prefix_len ≡ b.prefix_len → a ≡ b
same_v6 a b e f = λ i. record {
  address = e i;
  prefix_len = f i;
  in_range = is_prop→PathP (λ j. f j ≤ 128) (λ j. le_prop) a.in_range b.in_range i;
}

-- a block is its address and its prefix length
pub same_tcb : (a b : IpCidr) → cidr_address a ≡ cidr_address b → cidr_prefix_len a ≡ cidr_prefix_len b → a ≡ b
same_tcb (Tcb.Ipv4 a) (Tcb.Ipv4 b) addresses lens = let same : a.address ≡ b.address = cc in ap Tcb.Ipv4 (same_v4 a b same lens)
same_tcb (Tcb.Ipv4 a) (Tcb.Ipv6 b) addresses lens = absurd cc
same_tcb (Tcb.Ipv6 a) (Tcb.Ipv4 b) addresses lens = absurd cc
same_tcb (Tcb.Ipv6 a) (Tcb.Ipv6 b) addresses lens = let same : a.address ≡ b.address = cc in ap Tcb.Ipv6 (same_v6 a b same lens)

block_parts_once : (text : List ℕ) (a b : IpAddress) (m n : ℕ) → IsIpCidrText text a m → IsIpCidrText text b n → (a ≡ b) × (m ≡ n)
block_parts_once text a b m n h k =
    let parts = IsCutAtLast-unique 47 h.address h.digits k.address k.digits (sym h.spelled ∙ k.spelled)
    (Lacks-digits 10 47 h.digits h.of_len.0.0.1 (omega arith)) (Lacks-digits 10 47 k.digits k.of_len.0.0.1 (omega arith)) in
    let address : IsIpText h.address b = subst (λ (t : List ℕ). IsIpText t b) (sym parts.0) k.of_address in
    (IsIpText-unique h.address a b h.of_address address, number_once (width_of a) (width_of b) h.digits k.digits m n h.of_len k.of_len parts.1)

pub block_once : (text : List ℕ) (a b : IpCidr) → IsIpCidrText text (cidr_address a) (cidr_prefix_len a) →
    IsIpCidrText text (cidr_address b) (cidr_prefix_len b) → a ≡ b
block_once text a b h k =
    let both = block_parts_once text (cidr_address a) (cidr_address b) (cidr_prefix_len a) (cidr_prefix_len b) h k in
    same_tcb a b both.0 both.1
