-- When the keys of fragments are equal.
use Rattle.std.proofs.Common.{rules, ◌≡◌, ap}
use Rattle.std.specs.Bool.{Decides}
use Rattle.std.proofs.lemmas.Bool.Decides.{Decides-and, Decides-eqb}
use Rattle.std.proofs.lemmas.Slice.Eq.{bytes_eq-Decides}
use Rattle.wire_address.specs.contracts.ip.IpProtocolPartialEq.TheImpl as Protocol
use Rattle.wire_address.specs.contracts.ipv4.Ipv4FragKeyPartialEq.TheImpl as Key
use Rattle.wire_address.specs.declared.ip.IpProtocol.{IpProtocol}
use Rattle.wire_address.specs.declared.ipv4.Ipv4FragKey.{Ipv4FragKey}

-- protocols are compared whole
Decides-protocol : (a b : IpProtocol) → Decides (Protocol.ghosts.eq a b) (a ≡ b)
Decides-protocol a b = search rules

front : {P Q : Type 0} → P × Q → P
front p = p.0

back : {P Q : Type 0} → P × Q → Q
back p = p.1

both : {P Q : Type 0} → P → Q → P × Q
both p q = (p, q)

-- keys that have the same parts are the same
same : (a b : Ipv4FragKey) → a.id ≡ b.id → a.src_addr.0 ≡ b.src_addr.0 → a.dst_addr.0 ≡ b.dst_addr.0 → a.protocol ≡ b.protocol → a ≡ b
same a b e f g h = λ i. record {
  id = e i;
  src_addr = record { 0 = f i };
  dst_addr = record { 0 = g i };
  protocol = h i;
}

pub Decides-key : (a b : Ipv4FragKey) → Decides (Key.ghosts.eq a b) (a ≡ b)
Decides-key a b =
    let third = Decides-and _ _ (bytes_eq-Decides a.dst_addr.0 b.dst_addr.0) (Decides-protocol a.protocol b.protocol) in
    let second = Decides-and _ _ (bytes_eq-Decides a.src_addr.0 b.src_addr.0) third in
    let all = Decides-and _ _ (Decides-eqb a.id b.id) second in (
      λ yes. same a b (front (all.0 yes)) (front (back (all.0 yes))) (front (back (back (all.0 yes)))) (back (back (back (all.0 yes)))),
      λ e. all.1 (both (ap (λ (k : Ipv4FragKey). k.id) e)
          (both (ap (λ (k : Ipv4FragKey). k.src_addr.0) e) (both (ap (λ (k : Ipv4FragKey). k.dst_addr.0) e) (ap (λ (k : Ipv4FragKey). k.protocol) e)))),
    )
