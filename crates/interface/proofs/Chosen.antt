-- A source that is chosen is a local address, where the packet leaves at all.
use Rattle.std.proofs.Common.{◌≡◌, ℕ, Bool, true, false, if◌then◌else◌, List, [], ◌∷◌, Option, None, Some, refl, ap, ◌∙◌, sym}
use Rattle.std.proofs.lemmas.Slice.Eq.{bytes_eq-Decides}
use Rattle.std.specs.Prelude.{◌&&◌, ◌||◌, not, find, position}
use Rattle.std.specs.List.{list_any, filter_map, cons_option}
use Rattle.std.specs.Str.{bytes_eq}
use Rattle.ip_wire.specs.AddressTests.{is_in_cidr, is_loopback_v4, is_loopback_v6, is_unspecified}
use Rattle.ip_wire.specs.Ip.{source_of, destination_of}
use Rattle.ip_wire.specs.IpAddress.{IpAddress}
use Rattle.ip_wire.specs.IpAddress.TheVariants as Address
use Rattle.ip_wire.specs.IpCidr.{IpCidr}
use Rattle.ip_wire.specs.IpCidr.TheVariants as Tcb
use Rattle.ip_wire.specs.IpRepr.{IpRepr}
use Rattle.ip_wire.specs.Ipv4Address.{Ipv4Address}
use Rattle.ip_wire.specs.Ipv6Address.{Ipv6Address}
use Rattle.ip_wire.specs.Ipv6Cidr.{Ipv6Cidr}
use Rattle.iface_ingress.specs.Packet.{PacketValue}
use Rattle.iface_ingress.proofs.LocalSources.{clash, or_first, or_later, at_some}
use Rattle.iface_tables.specs.Best.{at_index, is_unbeaten}
use Rattle.iface_tables.specs.Inner.{InnerValue, is_address_of, is_local, is_loopback_of, is_foreign_loopback, may_be_source}
use Rattle.iface_tables.specs.Source.{source_for, source_by, source_v4, source_v6, in_v4, v4_address, v6_address, or_else, is_v4, is_abroad, first_abroad}
use Rattle.iface_tables.specs.Source.{best_source, better_for, candidate, may_send, address_or, localhost}
use Rattle.iface_egress.specs.Plan.{never_leaves}
use Rattle.interface.specs.Serve.{is_raw, keeps_source, sourced}
use Rattle.interface.proofs.Sourced.{sourced_same, sourced_chosen, sourced_none}

-- IPv4

of_either : (blocks : List IpCidr) (x : Option ℕ) (y : Option ℕ) (f : Ipv4Address)
    → v4_address (or_else (at_index x blocks) (at_index y blocks)) ≡ Some f → list_any (is_address_of (Address.Ipv4 f)) blocks ≡ true
of_either blocks x y f is = by (at_index x blocks) (λ g found. at_some blocks x g found) is where
  by : (o : Option IpCidr) → ((g : Ipv4Address) → v4_address o ≡ Some g → list_any (is_address_of (Address.Ipv4 g)) blocks ≡ true)
      → v4_address (or_else o (at_index y blocks)) ≡ Some f → list_any (is_address_of (Address.Ipv4 f)) blocks ≡ true
  by None first is = at_some blocks y f is
  by (Some b) first is = first f is

chosen_v4 : (addresses : List IpCidr) (to f : Ipv4Address) → source_v4 addresses to ≡ Some f → list_any (is_address_of (Address.Ipv4 f)) addresses ≡ true
chosen_v4 addresses to f is =
    of_either addresses (position (λ b. is_in_cidr b (Address.Ipv4 to)) addresses) (position is_v4 addresses) f is

-- IPv6

first_local : (blocks : List IpCidr) (f : Ipv6Address) → first_abroad blocks ≡ Some f → list_any (is_address_of (Address.Ipv6 f)) blocks ≡ true
first_local [] f is = absurd (cc is)
first_local (Tcb.Ipv4 b ∷ blocks) f is = first_local blocks f is
first_local (Tcb.Ipv6 b ∷ blocks) f is = by (not (is_loopback_v6 b.address)) is (first_local blocks f) where
  by : (here : Bool) → v6_address (if here then Some (Tcb.Ipv6 b) else find is_abroad blocks) ≡ Some f
      → (first_abroad blocks ≡ Some f → list_any (is_address_of (Address.Ipv6 f)) blocks ≡ true)
      → list_any (is_address_of (Address.Ipv6 f)) (Tcb.Ipv6 b ∷ blocks) ≡ true
  by true is later =
      or_first (bytes_eq b.address.0 f.0) (list_any (is_address_of (Address.Ipv6 f)) blocks)
      ((bytes_eq-Decides b.address.0 f.0).1 (let same : b.address ≡ f = cc is in ap (λ (a : Ipv6Address). a.0) same))
  by false is later = or_later (bytes_eq b.address.0 f.0) (list_any (is_address_of (Address.Ipv6 f)) blocks) (later is)

-- of a first candidate, or of the rest
found_here : (test : Ipv6Cidr → Bool) (c b : Ipv6Cidr) (rest : List Ipv6Cidr) (blocks : List IpCidr) (passes : Bool)
    → (find test rest ≡ Some b → list_any (is_address_of (Address.Ipv6 b.address)) blocks ≡ true)
    → (if passes then Some c else find test rest) ≡ Some b
    → list_any (is_address_of (Address.Ipv6 b.address)) (Tcb.Ipv6 c ∷ blocks) ≡ true
found_here test c b rest blocks true later is =
    or_first (bytes_eq c.address.0 b.address.0) (list_any (is_address_of (Address.Ipv6 b.address)) blocks)
    ((bytes_eq-Decides c.address.0 b.address.0).1 (let same : c ≡ b = cc is in ap (λ (x : Ipv6Cidr). x.address.0) same))
found_here test c b rest blocks false later is =
    or_later (bytes_eq c.address.0 b.address.0) (list_any (is_address_of (Address.Ipv6 b.address)) blocks) (later is)

found_first : (test : Ipv6Cidr → Bool) (c b : Ipv6Cidr) (rest : List Ipv6Cidr) (blocks : List IpCidr) (may : Bool)
    → (find test rest ≡ Some b → list_any (is_address_of (Address.Ipv6 b.address)) blocks ≡ true)
    → find test (cons_option (if may then Some c else None) rest) ≡ Some b
    → list_any (is_address_of (Address.Ipv6 b.address)) (Tcb.Ipv6 c ∷ blocks) ≡ true
found_first test c b rest blocks true later is = found_here test c b rest blocks (test c) later is
found_first test c b rest blocks false later is =
    or_later (bytes_eq c.address.0 b.address.0) (list_any (is_address_of (Address.Ipv6 b.address)) blocks) (later is)

-- what a search among the candidates finds is a local address
found_local : (test : Ipv6Cidr → Bool) (to : Ipv6Address) (blocks : List IpCidr) (b : Ipv6Cidr)
    → find test (filter_map (candidate to) blocks) ≡ Some b → list_any (is_address_of (Address.Ipv6 b.address)) blocks ≡ true
found_local test to [] b is = absurd (cc is)
found_local test to (Tcb.Ipv4 c ∷ blocks) b is = found_local test to blocks b is
found_local test to (Tcb.Ipv6 c ∷ blocks) b is =
    found_first test c b (filter_map (candidate to) blocks) blocks (may_send to c) (found_local test to blocks b) is

-- a host with an IPv6 loopback address has ::1
no_four : (a : Bool) → (a && false) ≡ true → ⊥
no_four true is = cc is
no_four false is = cc is

and_first : (a b : Bool) → (a && b) ≡ true → a ≡ true
and_first true b is = refl
and_first false b is = clash false is refl

or_cases : {X : Type 0} (a b : Bool) → (a || b) ≡ true → (a ≡ true → X) → (b ≡ true → X) → X
or_cases true b is first later = first refl
or_cases false b is first later = later is

has_localhost : (to : Ipv6Address) (blocks : List IpCidr) → list_any (is_loopback_of (Address.Ipv6 to)) blocks ≡ true
    → list_any (is_address_of (Address.Ipv6 localhost)) blocks ≡ true
has_localhost to [] is = clash false is refl
has_localhost to (Tcb.Ipv4 b ∷ blocks) is =
    or_cases (is_loopback_v4 b.address && false) (list_any (is_loopback_of (Address.Ipv6 to)) blocks) is
    (λ first. absurd (no_four (is_loopback_v4 b.address) first)) (has_localhost to blocks)
has_localhost to (Tcb.Ipv6 b ∷ blocks) is =
    or_cases (is_loopback_v6 b.address && true) (list_any (is_loopback_of (Address.Ipv6 to)) blocks) is
    (λ first. or_first (bytes_eq b.address.0 localhost.0) (list_any (is_address_of (Address.Ipv6 localhost)) blocks)
    (and_first (is_loopback_v6 b.address) true first))
    (λ later. or_later (bytes_eq b.address.0 localhost.0) (list_any (is_address_of (Address.Ipv6 localhost)) blocks) (has_localhost to blocks later))

not_foreign : (loops here : Bool) → (loops && not here) ≡ false → loops ≡ true → here ≡ true
not_foreign true true is loops = refl
not_foreign true false is loops = clash true refl is
not_foreign false here is loops = clash false loops refl

-- from ::1 nothing goes but to a loopback address
no_loop : (many : Bool) → (not many && (false || false)) ≡ true → ⊥
no_loop true is = cc is
no_loop false is = cc is

module _ (i : InnerValue) (to : Ipv6Address) where
  chosen_v6 : (loops : Bool) (best : Option Ipv6Cidr) (first : Option Ipv6Address) → is_loopback_v6 to ≡ loops
      → ((b : Ipv6Cidr) → best ≡ Some b → list_any (is_address_of (Address.Ipv6 b.address)) i.addresses ≡ true)
      → ((f : Ipv6Address) → first ≡ Some f → list_any (is_address_of (Address.Ipv6 f)) i.addresses ≡ true)
      → may_be_source i (Address.Ipv6 (if loops then localhost else address_or best first)) (Address.Ipv6 to) ≡ true
      → is_foreign_loopback i (Address.Ipv6 to) ≡ false
      → list_any (is_address_of (Address.Ipv6 (if loops then localhost else address_or best first))) i.addresses ≡ true
  chosen_v6 true best first loops of_best of_first may foreign =
      has_localhost to i.addresses
      (not_foreign (is_loopback_v6 to) (list_any (is_loopback_of (Address.Ipv6 to)) i.addresses) foreign loops)
  chosen_v6 false (Some b) first loops of_best of_first may foreign = of_best b refl
  chosen_v6 false None (Some f) loops of_best of_first may foreign = of_first f refl
  chosen_v6 false None None loops of_best of_first may foreign =
      absurd (no_loop false (ap (λ (l : Bool). not false && (false || l)) (sym loops) ∙ may))

-- BOTH

pub chosen_local : (i : InnerValue) (to a : IpAddress) → source_for i.addresses to ≡ Some a → may_be_source i a to ≡ true
    → is_foreign_loopback i to ≡ false → is_local i a ≡ true
chosen_local i to a is may foreign = or_later i.any_ip (list_any (is_address_of a) i.addresses) (by to a may foreign (is_unspecified to) is) where
  by : (to a : IpAddress) → may_be_source i a to ≡ true → is_foreign_loopback i to ≡ false → (none : Bool)
      → (if none then None else source_by i.addresses to) ≡ Some a → list_any (is_address_of a) i.addresses ≡ true
  by to a may foreign true is = absurd (cc is)
  by (Address.Ipv4 d) (Address.Ipv4 f) may foreign false is = four (source_v4 i.addresses d) refl is where
    four : (o : Option Ipv4Address) → source_v4 i.addresses d ≡ o → in_v4 o ≡ Some (Address.Ipv4 f) → list_any (is_address_of (Address.Ipv4 f)) i.addresses ≡ true
    four None was is = absurd (cc is)
    four (Some g) was is = chosen_v4 i.addresses d f (was ∙ (let same : g ≡ f = cc is in ap Some same))
  by (Address.Ipv4 d) (Address.Ipv6 f) may foreign false is = four (source_v4 i.addresses d) is where
    four : (o : Option Ipv4Address) → in_v4 o ≡ Some (Address.Ipv6 f) → list_any (is_address_of (Address.Ipv6 f)) i.addresses ≡ true
    four None is = absurd (cc is)
    four (Some g) is = absurd (cc is)
  by (Address.Ipv6 d) (Address.Ipv4 f) may foreign false is = absurd (cc is)
  by (Address.Ipv6 d) (Address.Ipv6 f) may foreign false is =
      let same : source_v6 i.addresses d ≡ f = cc is in
      ap (λ (x : Ipv6Address). list_any (is_address_of (Address.Ipv6 x)) i.addresses) (sym same)
      ∙ chosen_v6 i d (is_loopback_v6 d) (best_source i.addresses d) (first_abroad i.addresses) refl
      (λ b found. found_local (is_unbeaten (better_for d) (filter_map (candidate d) i.addresses)) d i.addresses b found)
      (first_local i.addresses)
      (ap (λ (x : Ipv6Address). may_be_source i (Address.Ipv6 x) (Address.Ipv6 d)) same ∙ may) foreign

-- A PACKET FROM ANOTHER SOURCE THAN ITS OWN

leaves_parts : (none foreign may : Bool) → (none || (foreign || not may)) ≡ false → (foreign ≡ false) × (may ≡ true)
leaves_parts true foreign may is = clash true refl is
leaves_parts false true may is = clash true refl is
leaves_parts false false true is = (refl, refl)
leaves_parts false false false is = clash true refl is

raw_or : (raw may : Bool) → (raw || may) ≡ false → may ≡ false
raw_or true may is = clash true refl is
raw_or false may is = is

pub packet_local : (i : InnerValue) (p : PacketValue) → keeps_source i p ≡ false → never_leaves i (sourced i p).header ≡ false
    → is_local i (source_of (sourced i p).header) ≡ true
packet_local i p keeps leaves = by (source_for i.addresses to) refl where
  to : IpAddress
  to = destination_of p.header

  h : IpRepr
  h = (sourced i p).header

  parts : (is_foreign_loopback i (destination_of h) ≡ false) × (may_be_source i (source_of h) (destination_of h) ≡ true)
  parts = leaves_parts (is_unspecified (destination_of h)) (is_foreign_loopback i (destination_of h))
      (may_be_source i (source_of h) (destination_of h)) leaves

  by : (o : Option IpAddress) → source_for i.addresses to ≡ o → is_local i (source_of h) ≡ true
  by None is =
      let same : sourced i p ≡ p = sourced_none i p is in
      clash (may_be_source i (source_of p.header) to)
      (ap (λ (q : PacketValue). may_be_source i (source_of q.header) (destination_of q.header)) (sym same) ∙ parts.1)
      (raw_or (is_raw p.payload) (may_be_source i (source_of p.header) to) keeps)
  by (Some a) is =
      let from : source_of h ≡ a = sourced_chosen i p a keeps is in
      let there : destination_of h ≡ to = (sourced_same i p).0 in
      ap (is_local i) from
      ∙ chosen_local i to a is
      (ap (λ (x : IpAddress). may_be_source i x to) (sym from) ∙ ap (may_be_source i (source_of h)) (sym there) ∙ parts.1)
      (ap (is_foreign_loopback i) (sym there) ∙ parts.0)
