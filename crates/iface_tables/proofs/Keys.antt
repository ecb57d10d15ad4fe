-- When the keys of fragments are equal.
use Rattle.std.proofs.Common.{◌≡◌, ap}
use Rattle.std.specs.Bool.{Decides}
use Rattle.std.proofs.lemmas.Bool.Decides.{Decides-and, Decides-eqb}
use Rattle.std.proofs.lemmas.Slice.Eq.{bytes_eq-Decides}
use Rattle.wire_address.proofs.Keys.{Decides-key}
use Rattle.iface_tables.specs.Assemblers.{IsTest}
use Rattle.iface_tables.specs.contracts.key.FragKeyPartialEq.TheImpl as Key
use Rattle.iface_tables.specs.contracts.key.Ipv6FragKeyPartialEq.TheImpl as Key6
use Rattle.iface_tables.specs.declared.key.FragKey.TheVariants as Keys
use Rattle.iface_tables.specs.declared.key.Ipv6FragKey.{Ipv6FragKey}

front : {P Q : Type 0} → P × Q → P
front p = p.0

back : {P Q : Type 0} → P × Q → Q
back p = p.1

both : {P Q : Type 0} → P → Q → P × Q
both p q = (p, q)

same : (a b : Ipv6FragKey) → a.id ≡ b.id → a.src_addr.0 ≡ b.src_addr.0 → a.dst_addr.0 ≡ b.dst_addr.0 → a ≡ b
same a b e f g = λ i. record {
  id = e i;
  src_addr = record { 0 = f i };
  dst_addr = record { 0 = g i };
}

Decides-v6 : (a b : Ipv6FragKey) → Decides (Key6.ghosts.eq a b) (a ≡ b)
Decides-v6 a b =
    let second = Decides-and _ _ (bytes_eq-Decides a.src_addr.0 b.src_addr.0) (bytes_eq-Decides a.dst_addr.0 b.dst_addr.0) in
    let all = Decides-and _ _ (Decides-eqb a.id b.id) second in (
      λ yes. same a b (front (all.0 yes)) (front (back (all.0 yes))) (back (back (all.0 yes))),
      λ e. all.1 (both (ap (λ (k : Ipv6FragKey). k.id) e)
          (both (ap (λ (k : Ipv6FragKey). k.src_addr.0) e) (ap (λ (k : Ipv6FragKey). k.dst_addr.0) e))),
    )

-- the test tells equal keys
pub key_test : IsTest Key.ghosts.eq
key_test (Keys.Ipv4 a) (Keys.Ipv4 b) =
    (λ yes. ap Keys.Ipv4 ((Decides-key a b).0 yes), λ e. (Decides-key a b).1 (let same_key : a ≡ b = cc in same_key))
key_test (Keys.Ipv6 a) (Keys.Ipv6 b) =
    (λ yes. ap Keys.Ipv6 ((Decides-v6 a b).0 yes), λ e. (Decides-v6 a b).1 (let same_key : a ≡ b = cc in same_key))
key_test (Keys.Ipv4 a) (Keys.Ipv6 b) = (λ yes. absurd cc, λ e. absurd cc)
key_test (Keys.Ipv6 a) (Keys.Ipv4 b) = (λ yes. absurd cc, λ e. absurd cc)
