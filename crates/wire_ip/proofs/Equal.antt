-- When headers are equal.
use Rattle.std.proofs.Common.{rules, ◌≡◌, ap}
use Rattle.std.specs.Bool.{Decides}
use Rattle.std.specs.Cmp.{booleans_Decides}
use Rattle.std.proofs.lemmas.Bool.Decides.{Decides-and, Decides-eqb}
use Rattle.std.proofs.lemmas.Slice.Eq.{bytes_eq-Decides}
use Rattle.wire_address.specs.contracts.ip.IpProtocolPartialEq.TheImpl as Protocol
use Rattle.wire_address.specs.declared.ip.IpProtocol.{IpProtocol}
use Rattle.wire_ip.specs.contracts.ip.repr.IpReprPartialEq.TheImpl as Either
use Rattle.wire_ip.specs.contracts.ipv4.fragment.Ipv4FragmentPartialEq.TheImpl as FragmentPart
use Rattle.wire_ip.specs.contracts.ipv4.repr.Ipv4ReprPartialEq.TheImpl as V4
use Rattle.wire_ip.specs.contracts.ipv6.repr.Ipv6ReprPartialEq.TheImpl as V6
use Rattle.wire_ip.specs.contracts.udp.repr.UdpReprPartialEq.TheImpl as Udp
use Rattle.wire_ip.specs.declared.ip.repr.IpRepr.{IpRepr}
use Rattle.wire_ip.specs.declared.ip.repr.IpRepr.TheVariants as Ip
use Rattle.wire_ip.specs.declared.ipv4.fragment.Ipv4Fragment.{Ipv4Fragment}
use Rattle.wire_ip.specs.declared.ipv4.repr.Ipv4Repr.{Ipv4Repr}
use Rattle.wire_ip.specs.declared.ipv6.repr.Ipv6Repr.{Ipv6Repr}
use Rattle.wire_ip.specs.declared.udp.repr.UdpRepr.{UdpRepr}

front : {P Q : Type 0} → P × Q → P
front p = p.0

back : {P Q : Type 0} → P × Q → Q
back p = p.1

both : {P Q : Type 0} → P → Q → P × Q
both p q = (p, q)

-- protocols are compared whole
Decides-protocol : (a b : IpProtocol) → Decides (Protocol.ghosts.eq a b) (a ≡ b)
Decides-protocol a b = search rules

pub Decides-udp : (a b : UdpRepr) → Decides (Udp.ghosts.eq a b) (a ≡ b)
Decides-udp a b = search rules

pub Decides-fragment : (a b : Ipv4Fragment) → Decides (FragmentPart.ghosts.eq a b) (a ≡ b)
Decides-fragment a b = search rules

same-v4 : (a b : Ipv4Repr) → a.src_addr.0 ≡ b.src_addr.0 → a.dst_addr.0 ≡ b.dst_addr.0 → a.next_header ≡ b.next_header → a.payload_len ≡ b.payload_len →
    a.hop_limit ≡ b.hop_limit → a.ident ≡ b.ident
    → a.dont_frag ≡ b.dont_frag → a ≡ b
same-v4 a b e f g h k l m = λ i. record {
  src_addr = record { 0 = e i };
  dst_addr = record { 0 = f i };
  next_header = g i;
  payload_len = h i;
  hop_limit = k i;
  ident = l i;
  dont_frag = m i;
}

-- headers are compared whole
pub Decides-v4 : (a b : Ipv4Repr) → Decides (V4.ghosts.eq a b) (a ≡ b)
Decides-v4 a b =
    let ident = Decides-and _ _ (Decides-eqb a.ident b.ident) (booleans_Decides a.dont_frag b.dont_frag) in
    let hop_limit = Decides-and _ _ (Decides-eqb a.hop_limit b.hop_limit) ident in
    let payload = Decides-and _ _ (Decides-eqb a.payload_len b.payload_len) hop_limit in
    let protocol = Decides-and _ _ (Decides-protocol a.next_header b.next_header) payload in
    let destination = Decides-and _ _ (bytes_eq-Decides a.dst_addr.0 b.dst_addr.0) protocol in
    let all = Decides-and _ _ (bytes_eq-Decides a.src_addr.0 b.src_addr.0) destination in (
      λ yes.
          let two = back (back (all.0 yes)) in
          let four = back (back two) in
          same-v4 a b (front (all.0 yes)) (front (back (all.0 yes))) (front two) (front (back two)) (front four) (front (back four)) (back (back four)),
      λ e.
          let last = both (ap (λ (v : Ipv4Repr). v.hop_limit) e) (both (ap (λ (v : Ipv4Repr). v.ident) e) (ap (λ (v : Ipv4Repr). v.dont_frag) e)) in
          let middle = both (ap (λ (v : Ipv4Repr). v.next_header) e) (both (ap (λ (v : Ipv4Repr). v.payload_len) e) last) in
          all.1 (both (ap (λ (v : Ipv4Repr). v.src_addr.0) e) (both (ap (λ (v : Ipv4Repr). v.dst_addr.0) e) middle)),
    )

same-v6 : (a b : Ipv6Repr) → a.src_addr.0 ≡ b.src_addr.0 → a.dst_addr.0 ≡ b.dst_addr.0 → a.next_header ≡ b.next_header → a.payload_len ≡ b.payload_len →
    a.hop_limit ≡ b.hop_limit → a ≡ b
same-v6 a b e f g h k = λ i. record {
  src_addr = record { 0 = e i };
  dst_addr = record { 0 = f i };
  next_header = g i;
  payload_len = h i;
  hop_limit = k i;
}

pub Decides-v6 : (a b : Ipv6Repr) → Decides (V6.ghosts.eq a b) (a ≡ b)
Decides-v6 a b =
    let payload = Decides-and _ _ (Decides-eqb a.payload_len b.payload_len) (Decides-eqb a.hop_limit b.hop_limit) in
    let protocol = Decides-and _ _ (Decides-protocol a.next_header b.next_header) payload in
    let destination = Decides-and _ _ (bytes_eq-Decides a.dst_addr.0 b.dst_addr.0) protocol in
    let all = Decides-and _ _ (bytes_eq-Decides a.src_addr.0 b.src_addr.0) destination in (
      λ yes.
          let two = back (back (all.0 yes)) in
          same-v6 a b (front (all.0 yes)) (front (back (all.0 yes))) (front two) (front (back two)) (back (back two)),
      λ e.
          let middle = both (ap (λ (v : Ipv6Repr). v.next_header) e) (both (ap (λ (v : Ipv6Repr). v.payload_len) e) (ap (λ (v : Ipv6Repr). v.hop_limit) e)) in
          all.1 (both (ap (λ (v : Ipv6Repr). v.src_addr.0) e) (both (ap (λ (v : Ipv6Repr). v.dst_addr.0) e) middle)),
    )

pub Decides-ip : (a b : IpRepr) → Decides (Either.ghosts.eq a b) (a ≡ b)
Decides-ip (Ip.Ipv4 a) (Ip.Ipv4 b) = let inside = Decides-v4 a b in (λ yes. ap Ip.Ipv4 (inside.0 yes), λ same. inside.1 (cc))
Decides-ip (Ip.Ipv6 a) (Ip.Ipv6 b) = let inside = Decides-v6 a b in (λ yes. ap Ip.Ipv6 (inside.0 yes), λ same. inside.1 (cc))
Decides-ip (Ip.Ipv4 a) (Ip.Ipv6 b) = (λ yes. absurd (cc), λ same. absurd (cc))
Decides-ip (Ip.Ipv6 a) (Ip.Ipv4 b) = (λ yes. absurd (cc), λ same. absurd (cc))
