-- When comparisons and hashes agree with equality.
use Rattle.std.proofs.Common.{◌≡◌, ◌≤◌, ◌↔◌, ℕ, List, IsTrue, ap, sym, ◌∙◌}
use mathlib.Core.HLevel.{is_prop→PathP}
use native.Mathlib.Bridge.{le_prop}
use Rattle.std.specs.Prelude.{◌==◌, ◌&&◌, ◌-◌, ◌++◌, length, take, replicate, bytes_eq}
use Rattle.std.specs.Bool.{Decides}
use Rattle.std.specs.declared.cmp.Ordering.TheVariants.{Equal}
use Rattle.std.proofs.lemmas.Bool.Decides.{Decides-and, Decides-eqb}
use Rattle.std.proofs.lemmas.Slice.Eq.{bytes_eq-Decides}
use Rattle.wire_address.specs.Hardware.{raw_bytes}
use Rattle.wire_address.specs.Order.{Agree}
use Rattle.wire_address.specs.contracts.ip.IpCidrPartialEq.TheImpl.{ghosts}
use Rattle.wire_address.specs.declared.hardware.RawHardwareAddress.{RawHardwareAddress}
use Rattle.wire_address.specs.declared.ip.IpCidr.{IpCidr}
use Rattle.wire_address.specs.declared.laws.Comparison.{Comparison}
use Rattle.wire_address.specs.declared.ip.IpCidr.TheVariants as Cidr
use Rattle.wire_address.specs.declared.ipv4.Ipv4Address.{Ipv4Address}
use Rattle.wire_address.specs.declared.ipv4.Ipv4Cidr.{Ipv4Cidr}
use Rattle.wire_address.specs.declared.ipv6.Ipv6Address.{Ipv6Address}
use Rattle.wire_address.specs.declared.ipv6.Ipv6Cidr.{Ipv6Cidr}

-- an answer of `==` that tells whether two values are the same, with what orders and hashes promise of it
pub Agree-from : {A : Type 0} (a b : A) (said : Comparison)
    → Decides said.equal (a ≡ b) → (said.order ≡ Equal) ↔ IsTrue said.equal → (IsTrue said.equal → said.hashes.0 ≡ said.hashes.1) → Agree a b said
Agree-from a b said tells tie hashes = record {
  same = tells;
  tie = (λ e. tells.0 (tie.0 e), λ e. tie.1 (tells.1 e));
  alike = λ e. hashes (tells.1 e);
}

-- blocks that have the same address and the same prefix length are the same
same-v4 : (a b : Ipv4Cidr) → a.address ≡ b.address → a.prefix_len ≡ b.prefix_len → a ≡ b
same-v4 a b e f = λ i. record {
  address = e i;
  prefix_len = f i;
  in_range = is_prop→PathP (λ j. f j ≤ 32) (λ j. le_prop) a.in_range b.in_range i;
}

same-v6 : (a b : Ipv6Cidr) → a.address ≡ b.address → a.prefix_len ≡ b.prefix_len → a ≡ b
same-v6 a b e f = λ i. record {
  address = e i;
  prefix_len = f i;
  in_range = is_prop→PathP (λ j. f j ≤ 128) (λ j. le_prop) a.in_range b.in_range i;
}

-- what `==` of two blocks compares
pub Decides-v4 : (a b : Ipv4Cidr) → Decides (bytes_eq a.address.0 b.address.0 && (a.prefix_len == b.prefix_len)) (a ≡ b)
Decides-v4 a b =
    let both = Decides-and _ _ (bytes_eq-Decides a.address.0 b.address.0) (Decides-eqb a.prefix_len b.prefix_len) in
    let make : List ℕ → Ipv4Address = λ o. record { 0 = o } in (
      λ yes. same-v4 a b (ap make (both.0 yes).0) (both.0 yes).1,
      λ same. both.1 (ap (λ (x : Ipv4Cidr). x.address.0) same, ap (λ (x : Ipv4Cidr). x.prefix_len) same),
    )

pub Decides-v6 : (a b : Ipv6Cidr) → Decides (bytes_eq a.address.0 b.address.0 && (a.prefix_len == b.prefix_len)) (a ≡ b)
Decides-v6 a b =
    let both = Decides-and _ _ (bytes_eq-Decides a.address.0 b.address.0) (Decides-eqb a.prefix_len b.prefix_len) in
    let make : List ℕ → Ipv6Address = λ o. record { 0 = o } in (
      λ yes. same-v6 a b (ap make (both.0 yes).0) (both.0 yes).1,
      λ same. both.1 (ap (λ (x : Ipv6Cidr). x.address.0) same, ap (λ (x : Ipv6Cidr). x.prefix_len) same),
    )

pub Decides-cidr : (a b : IpCidr) → Decides (ghosts.eq a b) (a ≡ b)
Decides-cidr (Cidr.Ipv4 a) (Cidr.Ipv4 b) =
    let same = Decides-v4 a b in (λ yes. ap Cidr.Ipv4 (same.0 yes), λ e. same.1 (cc))
Decides-cidr (Cidr.Ipv4 a) (Cidr.Ipv6 b) = (λ yes. absurd (cc), λ e. absurd (cc))
Decides-cidr (Cidr.Ipv6 a) (Cidr.Ipv4 b) = (λ yes. absurd (cc), λ e. absurd (cc))
Decides-cidr (Cidr.Ipv6 a) (Cidr.Ipv6 b) =
    let same = Decides-v6 a b in (λ yes. ap Cidr.Ipv6 (same.0 yes), λ e. same.1 (cc))

-- of raw addresses all six bytes, with zeros after those of the address, and the lengths are compared
pub Decides-raw : (a b : RawHardwareAddress) → Decides (bytes_eq a.bytes b.bytes && (a.len == b.len)) (raw_bytes a ≡ raw_bytes b)
Decides-raw a b =
    let both = Decides-and _ _ (bytes_eq-Decides a.bytes b.bytes) (Decides-eqb a.len b.len) in (
      λ yes. ap (λ n. take n a.bytes) (both.0 yes).1 ∙ ap (λ xs. take b.len xs) (both.0 yes).0,
      λ same.
          let len : a.len ≡ b.len = sym a.whole ∙ ap length same ∙ b.whole in
          let bytes : a.bytes ≡ b.bytes = sym a.zeros ∙ ap (λ xs. xs ++ replicate (6 - a.len) 0) same ∙
          ap (λ n. raw_bytes b ++ replicate (6 - n) 0) len ∙ b.zeros in
          both.1 (bytes, len),
    )
