-- As time goes, what isn't known stays so: entries expire, and no other next hop is found.
use Rattle.std.proofs.Common.{◌≡◌, Bool, true, false, if◌then◌else◌, ℤ, ◌≤ℤ◌, int_lt, Option, Some, None, refl, sym, ◌∙◌, subst, arith}
use Rattle.ip_wire.specs.HardwareAddress.{HardwareAddress}
use Rattle.ip_wire.specs.HardwareAddress.TheVariants as Hardware
use Rattle.ip_wire.specs.IpAddress.{IpAddress}
use Rattle.iface_tables.specs.Best.{at_index}
use Rattle.iface_tables.specs.Inner.{InnerValue, at_instant, is_known_on, is_known_hop, next_hop}
use Rattle.iface_tables.specs.Neighbor.{CacheValue, answer_by, missing, is_found, neighbor_index_of, has_failed, unless_failed}
use Rattle.iface_tables.specs.declared.neighbor.Neighbor.{Neighbor}
use Rattle.iface_tables.specs.declared.neighbor.Answer.{Answer}
use Rattle.iface_tables.specs.declared.neighbor.Answer.TheVariants as Known
use Rattle.iface_egress.specs.declared.socket_meta.Meta.{Meta}
use Rattle.iface_egress.specs.Meta.{neighbor_of}
use Rattle.interface.specs.Serve.{is_known, passes_filter}
use Rattle.interface.specs.QuietStep.{RoutesStay}

missing_unfound : (c : CacheValue) (instant : ℤ) → is_found (missing c instant) ≡ false
missing_unfound c instant = by (int_lt instant c.silent) where
  by : (test : Bool) → is_found (if test then Known.RateLimited else Known.NotFound) ≡ false
  by true = refl
  by false = refl

found_where : (test : Bool) (hardware : HardwareAddress) (c : CacheValue) (instant : ℤ) →
    is_found (if test then Known.Found hardware else missing c instant) ≡ test
found_where true hardware c instant = refl
found_where false hardware c instant = missing_unfound c instant

-- who is without answer isn't found
pub found_unless : (failed : Bool) (a : Answer) → is_found (unless_failed failed a) ≡ is_found a
found_unless failed (Known.Found hardware) = refl
found_unless true Known.NotFound = refl
found_unless false Known.NotFound = refl
found_unless true Known.RateLimited = refl
found_unless false Known.RateLimited = refl
found_unless failed Known.Unanswered = refl

expired_later : (a b end : ℤ) → a ≤ℤ b → int_lt a end ≡ false → int_lt b end ≡ false
expired_later a b end since past = grind (arith)

pub unfound_by : (entry : Option Neighbor) (c : CacheValue) (a b : ℤ) → a ≤ℤ b → is_found (answer_by entry c a) ≡ false → is_found (answer_by entry c b) ≡ false
unfound_by None c a b since unfound = missing_unfound c b
unfound_by (Some e) c a b since unfound =
    found_where (int_lt b e.expires_at) e.hardware_addr c b
    ∙ expired_later a b e.expires_at since (sym (found_where (int_lt a e.expires_at) e.hardware_addr c a) ∙ unfound)

module _ (asked : InnerValue) (t : ℤ) (since : asked.instant ≤ℤ t) (routes : RoutesStay asked t) where
  unknown_on : (hardware : HardwareAddress) (hop : IpAddress) → is_known_on hardware asked hop ≡ false → is_known_on hardware (at_instant t asked) hop ≡ false
  unknown_on Hardware.Ip hop unknown = unknown
  unknown_on (Hardware.Ethernet local) hop unknown =
      let entry : Option Neighbor = at_index (neighbor_index_of asked.neighbors.entries hop) asked.neighbors.entries in
      let before : is_found (answer_by entry asked.neighbors asked.instant) ≡ false =
      sym (found_unless (has_failed asked.neighbors hop asked.instant) (answer_by entry asked.neighbors asked.instant)) ∙ unknown in
      found_unless (has_failed asked.neighbors hop t) (answer_by entry asked.neighbors t) ∙ unfound_by entry asked.neighbors asked.instant t since before

  unknown_hop : (hop : Option IpAddress) → is_known_hop asked hop ≡ false → is_known_hop (at_instant t asked) hop ≡ false
  unknown_hop None unknown = refl
  unknown_hop (Some hop) unknown = unknown_on asked.hardware hop unknown

  unknown_by : (neighbor : Option IpAddress) → is_known asked neighbor ≡ false → is_known (at_instant t asked) neighbor ≡ false
  unknown_by None unknown = refl
  unknown_by (Some address) unknown =
      subst (λ (hop : Option IpAddress). is_known_hop (at_instant t asked) hop ≡ false) (sym (routes address)) (unknown_hop (next_hop asked address) unknown)

  pub stays_unknown : (m : Meta) → passes_filter asked m ≡ false → passes_filter (at_instant t asked) m ≡ false
  stays_unknown m unknown = unknown_by (neighbor_of m) unknown
