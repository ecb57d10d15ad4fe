-- Texts of addresses and endpoints of both families.
use Rattle.std.proofs.Common.{◌≡◌, ℕ, ◌∷◌, ◌++◌, List, [], sym, ap, subst, arith, Some, None}
use Rattle.wire_address.specs.Text.{Lacks, IsIpText, IsIpv4Text, IsIpv6Text, IsIpv4EndpointText, IsIpv6EndpointText, IsAddressAndPort}
use Rattle.wire_address.specs.declared.ip.IpAddress.{IpAddress}
use Rattle.wire_address.specs.declared.ip.IpAddress.TheVariants as Ip
use Rattle.wire_address.specs.declared.ipv4.Ipv4Address.{Ipv4Address}
use Rattle.wire_address.specs.declared.ipv6.Ipv6Address.{Ipv6Address}
use Rattle.wire_address.proofs.Ipv6Texts.{Lacks-ipv6, Lacks-colon}
use Rattle.wire_address.proofs.Texts.{Lacks-digits, Lacks-cons, Lacks-append, Lacks-joined, Lacks-dotted, some_inside}

-- an address of either family has no slash
pub Lacks-slash : (text : List ℕ) (a : IpAddress) → IsIpText text a → Lacks text 47
Lacks-slash text (Ip.Ipv4 a) h = Lacks-dotted 47 text a.0 (omega arith) (λ e. omega arith) h
Lacks-slash text (Ip.Ipv6 a) h = Lacks-ipv6 47 text a (omega arith) (λ e. omega arith) (λ e. omega arith) h

-- no text is an address of both families
pub IsIpText-apart : (text : List ℕ) (a : Ipv4Address) (b : Ipv6Address) → IsIpv4Text text a → IsIpv6Text text b → ⊥
IsIpText-apart text a b h k = Lacks-colon text b k (Lacks-dotted 58 text a.0 (omega arith) (λ e. omega arith) h)

-- no text is an endpoint of both families
pub IsEndpointText-apart : (text : List ℕ) (a : Ipv4Address) (port : ℕ) (b : Ipv6Address) (other : ℕ) → IsIpv4EndpointText text a port →
    IsIpv6EndpointText text b other → ⊥
IsEndpointText-apart text a port b other h k =
    let P : List ℕ → Type 0 = λ t. Lacks t 91 in
    let lacks : Lacks text 91 =
    subst P (sym h.spelled) (Lacks-append 91 h.address (58 ∷ h.digits) (Lacks-dotted 91 h.address a.0 (omega arith) (λ e. omega arith) h.of_address)
    (Lacks-cons 91 58 h.digits (λ e. omega arith) (Lacks-digits 10 91 h.digits h.of_port.0.0.1 (omega arith)))) in
    Lacks-joined 91 [] (k.address ++ 93 ∷ 58 ∷ k.digits) (subst P k.spelled lacks)

-- reading an address of either family: an IPv4 address was read
pub ip_v4 : (text : List ℕ) (x : Ipv4Address) → IsIpv4Text text x → ((y : Ipv4Address) → IsIpv4Text text y → Some x ≡ Some y) → (a : IpAddress) →
    IsIpText text a → Some (Ip.Ipv4 x) ≡ Some a
ip_v4 text x found only (Ip.Ipv4 y) h = ap (λ z. Some (Ip.Ipv4 z)) (some_inside x y (only y h))
ip_v4 text x found only (Ip.Ipv6 y) h = absurd (IsIpText-apart text x y found h)

-- no IPv4 address was read, and an IPv6 address was
pub ip_v6 : (text : List ℕ) (x : Ipv6Address) → ((y : Ipv4Address) → IsIpv4Text text y → None ≡ Some y) →
    ((y : Ipv6Address) → IsIpv6Text text y → Some x ≡ Some y) → (a : IpAddress) → IsIpText text a → Some (Ip.Ipv6 x) ≡ Some a
ip_v6 text x first only (Ip.Ipv4 y) h = let e : None ≡ Some y = first y h in absurd (cc)
ip_v6 text x first only (Ip.Ipv6 y) h = ap (λ z. Some (Ip.Ipv6 z)) (some_inside x y (only y h))

-- neither was
pub ip_none : (text : List ℕ) → ((y : Ipv4Address) → IsIpv4Text text y → None ≡ Some y) → ((y : Ipv6Address) → IsIpv6Text text y → None ≡ Some y) →
    (a : IpAddress) → IsIpText text a → None ≡ Some a
ip_none text first second (Ip.Ipv4 y) h = let e : None ≡ Some y = first y h in absurd (cc)
ip_none text first second (Ip.Ipv6 y) h = let e : None ≡ Some y = second y h in absurd (cc)

-- an IPv4 endpoint was read
pub endpoint_v4 : (text : List ℕ) (x : Ipv4Address) (port : ℕ) → IsIpv4EndpointText text x port →
    ((y : Ipv4Address) (q : ℕ) → IsIpv4EndpointText text y q → (x ≡ y) × (port ≡ q))
    → (a : IpAddress) (q : ℕ) → IsAddressAndPort text a q → (Ip.Ipv4 x ≡ a) × (port ≡ q)
endpoint_v4 text x port found only (Ip.Ipv4 y) q h = let both = only y q h in (ap Ip.Ipv4 both.0, both.1)
endpoint_v4 text x port found only (Ip.Ipv6 y) q h = absurd (IsEndpointText-apart text x port y q found h)
