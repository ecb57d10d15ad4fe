-- What is known of a neighbour after a question for it: it isn't known, and for a second nobody is asked for.
use Rattle.std.proofs.Common.{◌≡◌, ℕ, Bool, true, false, not, ◌&&◌, if◌then◌else◌, cond, ℤ, pos, ◌+ℤ◌, int_lt, List, [], ◌∷◌, ◌++◌, length}
use Rattle.std.proofs.Common.{Option, Some, None, refl, sym, ap, ◌∙◌, subst, arith}
use Rattle.std.specs.Prelude.{nat_lt, find, position, remove}
use Rattle.ip_wire.specs.AddressTests.{is_multicast}
use Rattle.ip_wire.specs.EthernetAddress.{EthernetAddress}
use Rattle.ip_wire.specs.HardwareAddress.{HardwareAddress}
use Rattle.ip_wire.specs.HardwareAddress.TheVariants as Hardware
use Rattle.ip_wire.specs.IpAddress.{IpAddress}
use Rattle.iface_tables.specs.Best.{at_index}
use Rattle.iface_tables.specs.Inner.{InnerValue, is_local_broadcast, next_hop, link_by, link_of_hop, link_on, link_address, all_stations}
use Rattle.iface_tables.specs.Inner.{group_hardware_addr}
use Rattle.iface_tables.specs.Neighbor.{CacheValue, lookup, missing, answer_by, neighbor_index_of, unless_failed, has_failed, has_failed_by, is_failed}
use Rattle.iface_tables.specs.Neighbor.{is_found}
use Rattle.iface_tables.specs.Neighbor.{answer_of, first_search, is_search_for, last_request, most_requests, oldest_search}
use Rattle.iface_tables.specs.Neighbor.{one_more, requested, searched_at, silent_time}
use Rattle.iface_tables.specs.declared.link.LinkAddress.{LinkAddress}
use Rattle.iface_tables.specs.declared.link.LinkAddress.TheVariants as Link
use Rattle.iface_tables.specs.declared.neighbor.Answer.{Answer}
use Rattle.iface_tables.specs.declared.neighbor.Answer.TheVariants as Known
use Rattle.iface_tables.specs.declared.neighbor.Neighbor.{Neighbor}
use Rattle.iface_tables.specs.declared.neighbor.Search.{Search}
use Rattle.iface_tables.proofs.PathMtu as Paths
use Rattle.iface_tables.proofs.PathMtu.{at_first, find_last, itself, none_found, none_removed}
use Rattle.interface.proofs.Alone.{asked_alone}
use Rattle.proof_stack.proofs.Polls.Answered.{lives}

-- SEARCHES

find_passes : {X : Type 0} (test : X → Bool) (xs : List X) (x : X) → find test xs ≡ Some x → test x ≡ true
find_passes {X} test [] x is = absurd (let never : (let none : Option X = None in none) ≡ Some x = is in cc)
find_passes {X} test (y ∷ ys) x is = by (test y) refl is (λ rest. find_passes test ys x rest) where
  by : (b : Bool) → test y ≡ b → cond b (Some y) (find test ys) ≡ Some x → (find test ys ≡ Some x → test x ≡ true) → test x ≡ true
  by true passes this later = subst (λ (z : X). test z ≡ true) (let same : Some y ≡ Some x = this in let at : y ≡ x = cc in at) passes
  by false fails this later = later this

abbrev no_search : Option Search
no_search = None

module _ (c : CacheValue) (hop : IpAddress) (instant : ℤ) where
  abbrev asked : CacheValue
  asked = requested c hop instant

  abbrev ours : Search → Bool
  ours = is_search_for hop

  pub later : int_lt instant (instant +ℤ pos silent_time) ≡ true
  later = lives instant silent_time (omega arith)

  -- a search whose last request is still to be answered
  recent : (s : Search) → s.answer_by ≡ instant +ℤ pos silent_time → is_failed s instant ≡ false
  recent s is = by (not (nat_lt s.requests most_requests)) where
    early : int_lt instant s.answer_by ≡ true
    early = ap (int_lt instant) is ∙ later

    by : (b : Bool) → (b && (not (int_lt instant s.answer_by) && int_lt instant s.failed_until)) ≡ false
    by true = ap (λ (e : Bool). not e && int_lt instant s.failed_until) early
    by false = refl

  record Searched (xs : List Search) : Type 0 where
    new : Search
    found : find ours xs ≡ Some new
    when : new.answer_by ≡ instant +ℤ pos silent_time

  added : find ours c.searches ≡ None
      → Searched (if nat_lt (length c.searches) c.search_room then c.searches ++ first_search hop instant ∷ []
      else remove c.searches (oldest_search c.searches) ++ first_search hop instant ∷ [])
  added none = by (nat_lt (length c.searches) c.search_room) where
    by : (b : Bool) → Searched (if b then c.searches ++ first_search hop instant ∷ [] else remove c.searches (oldest_search c.searches) ++ first_search hop instant ∷ [])
    by true = record { new = first_search hop instant; found = find_last ours c.searches (first_search hop instant) none (itself hop); when = refl }
    by false = record {
      new = first_search hop instant;
      found = find_last ours (remove c.searches (oldest_search c.searches)) (first_search hop instant)
          (none_removed ours c.searches (oldest_search c.searches) none) (itself hop);
      when = refl;
    }

  searched : (o : Option ℕ) (s : Option Search) → position ours c.searches ≡ o → at_index o c.searches ≡ s → Searched (searched_at c.search_room o s c.searches hop instant)
  searched (Some at) (Some s) is there = record {
    new = one_more s instant;
    found = Paths.is_found ours c.searches at (one_more s instant) is
        (find_passes ours c.searches s (sym (at_first ours c.searches) ∙ ap (λ (o : Option ℕ). at_index o c.searches) is ∙ there));
    when = refl;
  }
  searched (Some at) None is there = added (sym (at_first ours c.searches) ∙ ap (λ (o : Option ℕ). at_index o c.searches) is ∙ there)
  searched None None is there = added (none_found ours c.searches is)
  searched None (Some s) is there = absurd (let never : no_search ≡ Some s = there in cc)

  ours_then : Searched asked.searches
  ours_then = searched (position ours c.searches) (at_index (position ours c.searches) c.searches) refl refl

  -- the question counts
  pub counted : last_request asked hop ≡ Some (instant +ℤ pos silent_time)
  counted =
      ap answer_of (at_first ours asked.searches ∙ ours_then.found) ∙ ap (λ (m : ℤ). Some m) ours_then.when

  pub not_failed : has_failed asked hop instant ≡ false
  not_failed = ap (λ (o : Option Search). has_failed_by o instant) (at_first ours asked.searches ∙ ours_then.found) ∙ recent ours_then.new ours_then.when

  -- LOOKUPS

  pub not_known : (failed : Bool) (a : Answer) → unless_failed failed a ≡ Known.NotFound → is_found a ≡ false
  not_known failed (Known.Found hardware) is = absurd (let never : Known.Found hardware ≡ Known.NotFound = is in cc)
  not_known failed Known.NotFound is = refl
  not_known failed Known.RateLimited is = refl
  not_known failed Known.Unanswered is = refl

  silent_now : missing asked instant ≡ Known.RateLimited
  silent_now = ap (λ (b : Bool). if b then Known.RateLimited else Known.NotFound) later

  pub limited : (o : Option Neighbor) → is_found (answer_by o c instant) ≡ false → answer_by o asked instant ≡ Known.RateLimited
  limited None unknown = silent_now
  limited (Some entry) unknown = by (int_lt instant entry.expires_at) unknown where
    by : (b : Bool) → is_found (if b then Known.Found entry.hardware_addr else missing c instant) ≡ false
        → (if b then Known.Found entry.hardware_addr else missing asked instant) ≡ Known.RateLimited
    by true found = absurd (let clash : true ≡ false = found in cc)
    by false none = silent_now

  -- it is still asked for, and not again yet
  pub silent_lookup : lookup c hop instant ≡ Known.NotFound → lookup asked hop instant ≡ Known.RateLimited
  silent_lookup is =
      let entry : Option Neighbor = at_index (neighbor_index_of c.entries hop) c.entries in
      ap (λ (b : Bool). unless_failed b (answer_by entry asked instant)) not_failed
      ∙ ap (unless_failed false) (limited entry (not_known (has_failed c hop instant) (answer_by entry c instant) is))

  loud_missing : (c' : CacheValue) → missing c' instant ≡ Known.NotFound → int_lt instant c'.silent ≡ false
  loud_missing c' = by (int_lt instant c'.silent) where
    by : (b : Bool) → (if b then Known.RateLimited else Known.NotFound) ≡ Known.NotFound → b ≡ false
    by true is = absurd (let never : Known.RateLimited ≡ Known.NotFound = is in cc)
    by false is = refl

  loud_answer : (c' : CacheValue) (o : Option Neighbor) → answer_by o c' instant ≡ Known.NotFound → int_lt instant c'.silent ≡ false
  loud_answer c' None is = loud_missing c' is
  loud_answer c' (Some entry) is = by (int_lt instant entry.expires_at) is where
    by : (b : Bool) → (if b then Known.Found entry.hardware_addr else missing c' instant) ≡ Known.NotFound → int_lt instant c'.silent ≡ false
    by true found = absurd (let never : Known.Found entry.hardware_addr ≡ Known.NotFound = found in cc)
    by false none = loud_missing c' none

  loud_unless : (failed : Bool) (a : Answer) → unless_failed failed a ≡ Known.NotFound → a ≡ Known.NotFound
  loud_unless failed (Known.Found hardware) is = is
  loud_unless failed Known.NotFound is = refl
  loud_unless true Known.RateLimited is = absurd (let never : Known.Unanswered ≡ Known.NotFound = is in cc)
  loud_unless false Known.RateLimited is = absurd (let never : Known.RateLimited ≡ Known.NotFound = is in cc)
  loud_unless failed Known.Unanswered is = absurd (let never : Known.Unanswered ≡ Known.NotFound = is in cc)

  -- who may be asked for is so where the silence is over
  pub loud : (c' : CacheValue) (other : IpAddress) → lookup c' other instant ≡ Known.NotFound → int_lt instant c'.silent ≡ false
  loud c' other is =
      let entry : Option Neighbor = at_index (neighbor_index_of c'.entries other) c'.entries in
      loud_answer c' entry (loud_unless (has_failed c' other instant) (answer_by entry c' instant) is)

  -- nobody else is asked for, either
  pub no_lookup : (other : IpAddress) → lookup asked other instant ≡ Known.NotFound → ⊥
  no_lookup other is =
      let clash : true ≡ false = sym later ∙ loud asked other is in
      cc

-- LINKS

pub not_found : (a : Answer) (via hop : IpAddress) → link_by a via ≡ Link.Unknown hop → (a ≡ Known.NotFound) × (via ≡ hop)
not_found (Known.Found hardware) via hop is = absurd (let never : Link.Known hardware ≡ Link.Unknown hop = is in cc)
not_found Known.RateLimited via hop is = absurd (let never : Link.Silent ≡ Link.Unknown hop = is in cc)
not_found Known.Unanswered via hop is = absurd (let never : Link.Unanswered ≡ Link.Unknown hop = is in cc)
not_found Known.NotFound via hop is = (refl, (let same : Link.Unknown via ≡ Link.Unknown hop = is in let at : via ≡ hop = cc in at))

-- on Ethernet a destination, which is one host's, has a next hop that isn't known
pub record IsSought (i : InnerValue) (to hop : IpAddress) : Type 0 where
  pub own : EthernetAddress
  pub on : i.hardware ≡ Hardware.Ethernet own
  pub one : is_local_broadcast i to ≡ false
  pub group : is_multicast to ≡ false
  pub hop_is : next_hop i to ≡ Some hop
  pub unknown : lookup i.neighbors hop i.instant ≡ Known.NotFound

module _ (i : InnerValue) (to hop : IpAddress) (alone : i.host_requirements ≡ false) where
  abbrev everyone : LinkAddress
  everyone = Link.Known (Hardware.Ethernet all_stations)

  abbrev the_group : LinkAddress
  the_group = Link.Known (Hardware.Ethernet (group_hardware_addr to))

  of_hop : (o : Option IpAddress) → next_hop i to ≡ o → link_of_hop i o ≡ Link.Unknown hop
      → (next_hop i to ≡ Some hop) × (lookup i.neighbors hop i.instant ≡ Known.NotFound)
  of_hop None is unknown = absurd (let never : Link.NoRoute ≡ Link.Unknown hop = unknown in cc)
  of_hop (Some via) is unknown =
      let both : (lookup i.neighbors via i.instant ≡ Known.NotFound) × (via ≡ hop) = not_found (lookup i.neighbors via i.instant) via hop
      (ap (λ (c : CacheValue). link_by (lookup c via i.instant) via) (sym (asked_alone i via alone)) ∙ unknown) in (
        is ∙ ap (λ (x : IpAddress). Some x) both.1,
        subst (λ (x : IpAddress). lookup i.neighbors x i.instant ≡ Known.NotFound) both.1 both.0,
      )

  by_kind : (own : EthernetAddress) → i.hardware ≡ Hardware.Ethernet own → (all group : Bool) → is_local_broadcast i to ≡ all → is_multicast to ≡ group
      → (if all then everyone else if group then the_group else link_of_hop i (next_hop i to)) ≡ Link.Unknown hop → IsSought i to hop
  by_kind own on true group one many unknown = absurd (let never : everyone ≡ Link.Unknown hop = unknown in cc)
  by_kind own on false true one many unknown = absurd (let never : the_group ≡ Link.Unknown hop = unknown in cc)
  by_kind own on false false one many unknown =
      let both : (next_hop i to ≡ Some hop) × (lookup i.neighbors hop i.instant ≡ Known.NotFound) = of_hop (next_hop i to) refl unknown in
      record { own = own; on = on; one = one; group = many; hop_is = both.0; unknown = both.1 }

  by_medium : (hardware : HardwareAddress) → i.hardware ≡ hardware → link_on hardware i to ≡ Link.Unknown hop → IsSought i to hop
  by_medium Hardware.Ip on unknown = absurd (let never : Link.Known Hardware.Ip ≡ Link.Unknown hop = unknown in cc)
  by_medium (Hardware.Ethernet own) on unknown = by_kind own on (is_local_broadcast i to) (is_multicast to) refl refl unknown

  pub sought : link_address i to ≡ Link.Unknown hop → IsSought i to hop
  sought unknown = by_medium i.hardware refl unknown

  -- after the question, under whatever identification
  pub silent_link : (ident : ℕ) → IsSought i to hop
      → link_address (record i { ident = ident; neighbors = requested i.neighbors hop i.instant }) to ≡ Link.Silent
  silent_link ident is =
      let j : InnerValue = record i { ident = ident; neighbors = requested i.neighbors hop i.instant } in
      ap (λ (h : HardwareAddress). link_on h j to) is.on
      ∙ ap (λ (all : Bool). if all then everyone else if is_multicast to then the_group else link_of_hop j (next_hop i to)) is.one
      ∙ ap (λ (group : Bool). if group then the_group else link_of_hop j (next_hop i to)) is.group
      ∙ ap (link_of_hop j) is.hop_is
      ∙ ap (λ (c : CacheValue). link_by (lookup c hop i.instant) hop) (asked_alone j hop alone)
      ∙ ap (λ (a : Answer). link_by a hop) (silent_lookup i.neighbors hop i.instant is.unknown)

-- after a question nobody else is asked for
pub nobody_sought : (i : InnerValue) (hop other to : IpAddress) (c : CacheValue) → i.host_requirements ≡ false → i.neighbors ≡ requested c hop i.instant
    → link_address i to ≡ Link.Unknown other → ⊥
nobody_sought i hop other to c alone is unknown =
    no_lookup c hop i.instant other (subst (λ (k : CacheValue). lookup k other i.instant ≡ Known.NotFound) is (sought i to other alone unknown).unknown)
