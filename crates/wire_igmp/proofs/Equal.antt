-- When messages are equal.
use Rattle.std.proofs.Common.{rules, ◌≡◌, ap}
use Rattle.std.specs.Bool.{Decides}
use Rattle.std.specs.Cmp.{booleans_Decides}
use Rattle.std.proofs.lemmas.Bool.Decides.{Decides-and, Decides-eqb}
use Rattle.std.proofs.lemmas.Slice.Eq.{bytes_eq-Decides}
use Rattle.wire_address.specs.declared.ipv4.Ipv4Address.{Ipv4Address}
use Rattle.wire_igmp.specs.contracts.message.IgmpVersionPartialEq.TheImpl as Versions
use Rattle.wire_igmp.specs.contracts.repr.IgmpReprPartialEq.TheImpl as Messages
use Rattle.wire_igmp.specs.declared.message.IgmpVersion.{IgmpVersion}
use Rattle.wire_igmp.specs.declared.repr.IgmpRepr.{IgmpRepr}
use Rattle.wire_igmp.specs.declared.repr.IgmpRepr.TheVariants as Repr

both : {P Q : Type 0} → P → Q → P × Q
both p q = (p, q)

same-address : (a b : Ipv4Address) → a.0 ≡ b.0 → a ≡ b
same-address a b e = λ i. record { 0 = e i }

Decides-version : (a b : IgmpVersion) → Decides (Versions.ghosts.eq a b) (a ≡ b)
Decides-version a b = search rules

-- messages are compared whole
pub Decides-igmp : (a b : IgmpRepr) → Decides (Messages.ghosts.eq a b) (a ≡ b)
Decides-igmp (Repr.MembershipQuery c a) (Repr.MembershipQuery d b) =
    let same = Decides-and _ _ (Decides-eqb c d) (bytes_eq-Decides a.0 b.0) in (
      λ yes. let first : c ≡ d = (same.0 yes).0 in let second : a ≡ b = same-address a b (same.0 yes).1 in cc,
      λ e. let first : c ≡ d = cc in let second : a ≡ b = cc in same.1 (both first (ap (λ (g : Ipv4Address). g.0) second)),
    )
Decides-igmp (Repr.MembershipQueryV3 c a s f g h) (Repr.MembershipQueryV3 d b t k l m) =
    let numbers = Decides-and _ _ (Decides-eqb f k) (Decides-and _ _ (Decides-eqb g l) (Decides-eqb h m)) in
    let same = Decides-and _ _ (Decides-eqb c d) (Decides-and _ _ (bytes_eq-Decides a.0 b.0) (Decides-and _ _ (booleans_Decides s t) numbers)) in (
      λ yes.
          let first : c ≡ d = (same.0 yes).0 in
          let second : a ≡ b = same-address a b (same.0 yes).1.0 in
          let third : s ≡ t = (same.0 yes).1.1.0 in
          let fourth : f ≡ k = (same.0 yes).1.1.1.0 in
          let fifth : g ≡ l = (same.0 yes).1.1.1.1.0 in let sixth : h ≡ m = (same.0 yes).1.1.1.1.1 in cc,
      λ e.
          let first : c ≡ d = cc in
          let second : a ≡ b = cc in
          let third : s ≡ t = cc in
          let fourth : f ≡ k = cc in
          let fifth : g ≡ l = cc in
          let sixth : h ≡ m = cc in same.1 (both first (both (ap (λ (g : Ipv4Address). g.0) second) (both third (both fourth (both fifth sixth))))),
    )
Decides-igmp (Repr.MembershipReport a v) (Repr.MembershipReport b w) =
    let same = Decides-and _ _ (bytes_eq-Decides a.0 b.0) (Decides-version v w) in (
      λ yes. let first : a ≡ b = same-address a b (same.0 yes).0 in let second : v ≡ w = (same.0 yes).1 in cc,
      λ e. let first : a ≡ b = cc in let second : v ≡ w = cc in same.1 (both (ap (λ (g : Ipv4Address). g.0) first) second),
    )
Decides-igmp (Repr.LeaveGroup a) (Repr.LeaveGroup b) =
    let same = bytes_eq-Decides a.0 b.0 in (
      λ yes. let first : a ≡ b = same-address a b (same.0 yes) in cc,
      λ e. let first : a ≡ b = cc in same.1 (ap (λ (g : Ipv4Address). g.0) first),
    )
Decides-igmp (Repr.MembershipReportV3 m) (Repr.MembershipReportV3 n) =
    let same = Decides-eqb m n in (λ yes. ap Repr.MembershipReportV3 (same.0 yes), λ e. let first : m ≡ n = cc in same.1 first)
Decides-igmp a b = (λ yes. absurd (cc), λ e. absurd (cc))
