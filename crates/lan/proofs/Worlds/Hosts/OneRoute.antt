-- A default route that is added is one.
use Rattle.std.proofs.Common.{◌≡◌, ◌≤◌, ℕ, Bool, true, false, List, [], ◌∷◌, ◌++◌, sym, ap, ◌∙◌}
use Rattle.std.specs.Prelude.{replicate}
use mathlib.Core.HLevel.{is_prop→PathP}
use native.Mathlib.Bridge.{le_prop}
use Rattle.iface_ingress.specs.AddressTests.{are_of_one_family}
use Rattle.wire_address.specs.Cidr.{cidr_address, IsCidr}
use Rattle.iface_ingress.specs.IpAddress.{IpAddress}
use Rattle.iface_ingress.specs.IpAddress.TheVariants as Address
use Rattle.iface_ingress.specs.Ipv4Address.{Ipv4Address}
use Rattle.wire_address.specs.declared.ipv4.Ipv4Cidr.{Ipv4Cidr}
use Rattle.iface_ingress.specs.Ipv6Address.{Ipv6Address}
use Rattle.wire_address.specs.declared.ipv6.Ipv6Cidr.{Ipv6Cidr}
use Rattle.wire_address.specs.declared.ip.IpCidr.{IpCidr}
use Rattle.wire_address.specs.declared.ip.IpCidr.TheVariants as Tcb
use Rattle.iface_tables.specs.Route.{is_gateway_v4, is_gateway_v6, IsGateway, IsAdded, without}
use Rattle.iface_tables.specs.declared.route.Route.{Route}
use Rattle.lan.specs.Worlds.AtLink.Sets.{RoutedIf}

-- BLOCKS

same-v4 : (a b : Ipv4Cidr) → a.address ≡ b.address → a.prefix_len ≡ b.prefix_len → a ≡ b
same-v4 a b e f = λ i. record {
  address = e i;
  prefix_len = f i;
  in_range = is_prop→PathP (λ j. f j ≤ 32) (λ j. le_prop) a.in_range b.in_range i;
}

same-v6 : (a b : Ipv6Cidr) → a.address ≡ b.address → a.prefix_len ≡ b.prefix_len → a ≡ b
same-v6 a b e f = λ i. record {
  address = e i;
  prefix_len = f i;
  in_range = is_prop→PathP (λ j. f j ≤ 128) (λ j. le_prop) a.in_range b.in_range i;
}

-- two blocks of these bytes, both of one family with an address
abbrev OneCidr : List ℕ → IpAddress → Type 0
OneCidr any router = (a b : IpCidr) → IsCidr a any 0 → IsCidr b any 0
    → are_of_one_family (cidr_address a) router ≡ true → are_of_one_family (cidr_address b) router ≡ true → a ≡ b

one_v4 : (any : List ℕ) (router : Ipv4Address) → OneCidr any (Address.Ipv4 router)
one_v4 any router (Tcb.Ipv4 c) (Tcb.Ipv4 d) one other left right =
    ap Tcb.Ipv4 (same-v4 c d (ap (λ (xs : List ℕ). let a : Ipv4Address = record { 0 = xs } in a) (one.0 ∙ sym other.0)) (one.1 ∙ sym other.1))
one_v4 any router (Tcb.Ipv6 c) b one other left right = absurd cc
one_v4 any router (Tcb.Ipv4 c) (Tcb.Ipv6 d) one other left right = absurd cc

one_v6 : (any : List ℕ) (router : Ipv6Address) → OneCidr any (Address.Ipv6 router)
one_v6 any router (Tcb.Ipv6 c) (Tcb.Ipv6 d) one other left right =
    ap Tcb.Ipv6 (same-v6 c d (ap (λ (xs : List ℕ). let a : Ipv6Address = record { 0 = xs } in a) (one.0 ∙ sym other.0)) (one.1 ∙ sym other.1))
one_v6 any router (Tcb.Ipv4 c) b one other left right = absurd cc
one_v6 any router (Tcb.Ipv6 c) (Tcb.Ipv4 d) one other left right = absurd cc

-- ROUTES

same_route : (any : List ℕ) (router : IpAddress) (r s : Route) → IsGateway r any router → IsGateway s any router → r.cidr ≡ s.cidr → r ≡ s
same_route any router r s one other blocks =
    let via = one.via ∙ sym other.via in
    let preferred = one.preferred ∙ sym other.preferred in
    let expires = one.expires ∙ sym other.expires in
    λ k. record { cidr = blocks k; via_router = via k; preferred_until = preferred k; expires_at = expires k }

added_once : (test : Route → Bool) (any : List ℕ) (router : IpAddress) → OneCidr any router → (old one other : List Route)
    → IsAdded test (λ r. IsGateway r any router) old one → IsAdded test (λ r. IsGateway r any router) old other → one ≡ other
added_once test any router one_cidr old one other first second =
    let r = first.0 in
    let s = second.0 in
    let blocks = one_cidr r.cidr s.cidr first.1.cidr second.1.cidr first.1.family second.1.family in
    first.2 ∙ ap (λ (x : Route). without test old ++ x ∷ []) (same_route any router r s first.1 second.1 blocks) ∙ sym second.2

pub routed_once : (room : Bool) (router : IpAddress) (old one other : List Route) → RoutedIf room router old one → RoutedIf room router old other → one ≡ other
routed_once true (Address.Ipv4 router) old one other first second =
    added_once is_gateway_v4 (replicate 4 0) (Address.Ipv4 router) (one_v4 (replicate 4 0) router) old one other first second
routed_once true (Address.Ipv6 router) old one other first second =
    added_once is_gateway_v6 (replicate 16 0) (Address.Ipv6 router) (one_v6 (replicate 16 0) router) old one other first second
routed_once false router old one other first second = first ∙ sym second
