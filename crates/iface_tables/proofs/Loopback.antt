-- ::1 is no source beyond the host, where there is another.
use Rattle.std.proofs.Common.{◌≡◌, Bool, true, false, if◌then◌else◌, List, [], ◌∷◌, Option, None, Some, refl, subst, ap, ◌∙◌}
use Rattle.std.specs.Prelude.{◌&&◌, ◌||◌, not, find}
use Rattle.std.specs.List.{list_any, filter_map, cons_option}
use Rattle.ip_wire.specs.AddressTests.{is_unspecified_v6, is_multicast_v6, is_loopback_v6, is_link_local}
use Rattle.ip_wire.specs.IpCidr.{IpCidr}
use Rattle.ip_wire.specs.IpCidr.TheVariants as Cidr
use Rattle.ip_wire.specs.Ipv6Address.{Ipv6Address}
use Rattle.ip_wire.specs.Ipv6Cidr.{Ipv6Cidr}
use Rattle.iface_tables.specs.Best.{is_unbeaten}
use Rattle.iface_tables.specs.Source.{v6_address, may_send, candidate, better_for, best_source, is_abroad, first_abroad, address_or, localhost, source_v6}

-- A CANDIDATE

not_loop : (one loop near : Bool) → ((one && not loop) && near) ≡ true → loop ≡ false
not_loop true false near is = refl
not_loop true true near is = absurd (cc is)
not_loop false loop near is = absurd (cc is)

found_here : (test : Ipv6Cidr → Bool) (c b : Ipv6Cidr) (rest : List Ipv6Cidr) (passes : Bool) → is_loopback_v6 c.address ≡ false
    → (find test rest ≡ Some b → is_loopback_v6 b.address ≡ false)
    → (if passes then Some c else find test rest) ≡ Some b → is_loopback_v6 b.address ≡ false
found_here test c b rest true here later is =
    let same : c ≡ b = cc is in subst (λ (x : Ipv6Cidr). is_loopback_v6 x.address ≡ false) same here
found_here test c b rest false here later is = later is

found_first : (test : Ipv6Cidr → Bool) (c b : Ipv6Cidr) (rest : List Ipv6Cidr) (may : Bool) → (may ≡ true → is_loopback_v6 c.address ≡ false)
    → (find test rest ≡ Some b → is_loopback_v6 b.address ≡ false)
    → find test (cons_option (if may then Some c else None) rest) ≡ Some b → is_loopback_v6 b.address ≡ false
found_first test c b rest true here later is = found_here test c b rest (test c) (here refl) later is
found_first test c b rest false here later is = later is

found_abroad : (test : Ipv6Cidr → Bool) (to : Ipv6Address) (blocks : List IpCidr) (b : Ipv6Cidr)
    → find test (filter_map (candidate to) blocks) ≡ Some b → is_loopback_v6 b.address ≡ false
found_abroad test to [] b is = absurd (cc is)
found_abroad test to (Cidr.Ipv4 c ∷ blocks) b is = found_abroad test to blocks b is
found_abroad test to (Cidr.Ipv6 c ∷ blocks) b is =
    found_first test c b (filter_map (candidate to) blocks) (may_send to c)
    (not_loop (not (is_unspecified_v6 c.address) && not (is_multicast_v6 c.address)) (is_loopback_v6 c.address)
    (not (is_link_local to) || is_link_local c.address))
    (found_abroad test to blocks b) is

-- THE FIRST ADDRESS

first_is_abroad : (blocks : List IpCidr) → list_any is_abroad blocks ≡ true → is_loopback_v6 (address_or None (first_abroad blocks)) ≡ false
first_is_abroad [] some = absurd (cc some)
first_is_abroad (Cidr.Ipv4 b ∷ blocks) some = first_is_abroad blocks some
first_is_abroad (Cidr.Ipv6 b ∷ blocks) some = by (is_loopback_v6 b.address) refl some (first_is_abroad blocks) where
  by : (loop : Bool) → is_loopback_v6 b.address ≡ loop → (not loop || list_any is_abroad blocks) ≡ true
      → (list_any is_abroad blocks ≡ true → is_loopback_v6 (address_or None (first_abroad blocks)) ≡ false)
      → is_loopback_v6 (address_or None (v6_address (if not loop then Some (Cidr.Ipv6 b) else find is_abroad blocks))) ≡ false
  by true was some later = later some
  by false was some later = was

-- EITHER

pub stays_inside : (addresses : List IpCidr) (to : Ipv6Address) → is_loopback_v6 to ≡ false → list_any is_abroad addresses ≡ true
    → is_loopback_v6 (source_v6 addresses to) ≡ false
stays_inside addresses to beyond some =
    ap (λ (b : Bool). is_loopback_v6 (if b then localhost else address_or (best_source addresses to) (first_abroad addresses))) beyond
    ∙ by (best_source addresses to) (found_abroad (is_unbeaten (better_for to) (filter_map (candidate to) addresses)) to addresses)
  where
    by : (best : Option Ipv6Cidr) → ((b : Ipv6Cidr) → best ≡ Some b → is_loopback_v6 b.address ≡ false)
        → is_loopback_v6 (address_or best (first_abroad addresses)) ≡ false
    by None found = first_is_abroad addresses some
    by (Some b) found = found b refl
