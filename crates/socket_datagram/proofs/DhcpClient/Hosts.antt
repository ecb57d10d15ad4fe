-- An address that passes the test is one that a host can have.
use Rattle.std.proofs.Common.{◌≡◌, ◌≢◌, ℕ, ◌/◌, Bool, true, false, ◌&&◌, ◌||◌, not, List, Option, Some, None, refl, sym, ap, ◌∙◌, subst}
use Rattle.std.specs.Prelude.{◌==◌, slice_index, replicate}
use Rattle.std.specs.Str.{bytes_eq}
use Rattle.std.proofs.lemmas.Slice.Eq.{bytes_eq-Decides}
use Rattle.ip_wire.specs.AddressTests.{is_unspecified_v4, is_multicast_v4, is_broadcast_v4, is_loopback_v4, broadcast_in}
use Rattle.ip_wire.specs.Ipv4Address.{Ipv4Address}
use Rattle.ip_wire.specs.Ipv4Cidr.{Ipv4Cidr}
use Rattle.socket_datagram.specs.DhcpClient.Laws.{IsHostAddress}
use Rattle.socket_datagram.specs.DhcpClient.Leases.{is_leasable, is_of_all, is_of_all_in}

-- none of the tests holds
record AreNone (u m b z l o : Bool) : Type 0 where
  groups : m ≡ false
  all : b ≡ false
  this : z ≡ false
  loopback : l ≡ false
  of_all : o ≡ false

none_of : (u m b z l o : Bool) → (not (u || m || b) && not (z || l || o)) ≡ true → AreNone u m b z l o
none_of true m b z l o e = absurd (cc)
none_of false true b z l o e = absurd (cc)
none_of false false true z l o e = absurd (cc)
none_of false false false true l o e = absurd (cc)
none_of false false false false true o e = absurd (cc)
none_of false false false false false true e = absurd (cc)
none_of false false false false false false e = record { groups = refl; all = refl; this = refl; loopback = refl; of_all = refl }

clash : true ≡ false → ⊥
clash e = cc

not_this : (n : ℕ) → (n == 0) ≡ false → n ≢ 0
not_this n e is = clash (subst (λ (k : ℕ). (k == 0) ≡ false) is e)

not_loopback : (n : ℕ) → (n == 127) ≡ false → n ≢ 127
not_loopback n e is = clash (subst (λ (k : ℕ). (k == 127) ≡ false) is e)

not_group : (n : ℕ) → (n == 14) ≡ false → n ≢ 14
not_group n e is = clash (subst (λ (k : ℕ). (k == 14) ≡ false) is e)

not_bytes : (bytes others : List ℕ) → bytes_eq bytes others ≡ false → bytes ≢ others
not_bytes bytes others e is = clash (sym ((bytes_eq-Decides bytes others).1 is) ∙ e)

not_of_all : (all : Option Ipv4Address) (a : Ipv4Address) → is_of_all all a ≡ false → all ≢ Some a
not_of_all all a e is =
    let at_own : bytes_eq a.0 a.0 ≡ false = subst (λ (o : Option Ipv4Address). is_of_all o a ≡ false) is e in
    clash (sym ((bytes_eq-Decides a.0 a.0).1 refl) ∙ at_own)

own : (b : Ipv4Cidr) → is_leasable b.address (Some b) ≡ true → IsHostAddress b
own b can =
    let none = none_of (is_unspecified_v4 b.address) (is_multicast_v4 b.address) (is_broadcast_v4 b.address) (slice_index b.address.0 0 == 0)
    (is_loopback_v4 b.address) (is_of_all_in (Some b) b.address) can in
    record {
      this_network = not_this (slice_index b.address.0 0) none.this;
      loopback = not_loopback (slice_index b.address.0 0) none.loopback;
      group = not_group (slice_index b.address.0 0 / 16) none.groups;
      all_hosts = not_bytes b.address.0 (replicate 4 255) none.all;
      all_of_network = not_of_all (broadcast_in b) b.address none.of_all;
    }

pub can_have : (a : Ipv4Address) (b : Ipv4Cidr) → b.address ≡ a → is_leasable a (Some b) ≡ true → IsHostAddress b
can_have a b same can = own b (subst (λ (c : Ipv4Address). is_leasable c (Some b) ≡ true) (sym same) can)
