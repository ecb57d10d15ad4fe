-- A next hop that isn't known stays so while others are asked for, where each has a silence of its own and there is room.
use Rattle.std.proofs.Common.{◌≡◌, ◌≤◌, ◌<◌, ℕ, ◌+◌, Bool, true, false, if◌then◌else◌, ℤ, pos, int_lt, List, [], ◌∷◌, ◌++◌, length, Option, Some, None}
use Rattle.std.proofs.Common.{refl, sym, ap, ◌∙◌, subst, arith, length-append}
use Rattle.std.specs.Prelude.{nat_lt, position, slice_get, remove}
use Rattle.std.proofs.lemmas.List.{length-set}
use Rattle.net_base.specs.Device.{Move}
use Rattle.ip_wire.specs.AddressTests.{is_multicast, is_same_address}
use Rattle.ip_wire.specs.EthernetAddress.{EthernetAddress}
use Rattle.ip_wire.specs.HardwareAddress.{HardwareAddress}
use Rattle.ip_wire.specs.HardwareAddress.TheVariants as Hardware
use Rattle.ip_wire.specs.IpAddress.{IpAddress}
use Rattle.ip_wire.specs.IpRepr.{IpRepr}
use Rattle.iface_tables.specs.Best.{at_index}
use Rattle.iface_tables.specs.Inner.{InnerValue, all_stations, asked_of, group_hardware_addr, is_local_broadcast, link_address, link_by, link_of_hop, link_on}
use Rattle.iface_tables.specs.Inner.{next_hop, silence_of, with_request}
use Rattle.iface_tables.specs.Neighbor.{CacheValue, answer_by, answer_due, first_search, has_failed, is_search_for, last_request, lookup, neighbor_index_of, oldest_search}
use Rattle.iface_tables.specs.Neighbor.{one_more, own_silence, requested, search_of, searched_at, unless_failed}
use Rattle.iface_tables.specs.Parking.{ParkingValue}
use Rattle.iface_tables.specs.Source.{source_for}
use Rattle.iface_tables.specs.declared.link.LinkAddress.{LinkAddress}
use Rattle.iface_tables.specs.declared.link.LinkAddress.TheVariants as Link
use Rattle.iface_tables.specs.declared.neighbor.Answer.{Answer}
use Rattle.iface_tables.specs.declared.neighbor.Answer.TheVariants as Known
use Rattle.iface_tables.specs.declared.neighbor.Neighbor.{Neighbor}
use Rattle.iface_tables.specs.declared.neighbor.Search.{Search}
use Rattle.iface_egress.specs.Plan.{may_be_source_on, may_solicit, never_leaves}
use Rattle.interface.specs.SameHost.{IsSameHost, parking_from}
use Rattle.proof_stack.specs.Progress.Exchanged.{AsksFor}
use Rattle.proof_stack.proofs.Polls.Searches.{others_fail_so, others_stay}
use Rattle.proof_stack.proofs.Polls.Silenced.{not_found}

-- A QUESTION FOR ANOTHER ONE

room_so : (n room : ℕ) → n < room → nat_lt n room ≡ true
room_so n room few = grind (arith, few)

answer_same : (o : Option Neighbor) (a b : CacheValue) (t : ℤ) → a.silent ≡ b.silent → answer_by o a t ≡ answer_by o b t
answer_same None a b t is = ap (λ (s : ℤ). if int_lt t s then Known.RateLimited else Known.NotFound) is
answer_same (Some e) a b t is =
    ap (λ (s : ℤ). if int_lt t e.expires_at then Known.Found e.hardware_addr else if int_lt t s then Known.RateLimited else Known.NotFound) is

module _ (c : CacheValue) (x : IpAddress) (t : ℤ) (few : length c.searches + 1 < c.search_room) where
  abbrev then_asked : CacheValue
  then_asked = requested c x t

  here : nat_lt (length c.searches) c.search_room ≡ true
  here = room_so (length c.searches) c.search_room (omega (arith, few))

  -- one more is asked for at most
  added : length (if nat_lt (length c.searches) c.search_room then c.searches ++ first_search x t ∷ []
      else remove c.searches (oldest_search c.searches) ++ first_search x t ∷ []) ≤ length c.searches + 1
  added =
      subst (λ (b : Bool). length (if b then c.searches ++ first_search x t ∷ [] else remove c.searches (oldest_search c.searches) ++ first_search x t ∷ [])
      ≤ length c.searches + 1) (sym here) (let parts = length-append c.searches (first_search x t ∷ []) in omega (arith, parts))

  grown : (o : Option ℕ) (s : Option Search) → length (searched_at c.search_room o s c.searches x t) ≤ length c.searches + 1
  grown (Some at) (Some s) = let same = length-set c.searches at (one_more s t) in omega (arith, same)
  grown (Some at) None = added
  grown None s = added

  pub one_more_asked : length then_asked.searches ≤ length c.searches + 1
  one_more_asked = grown (position (is_search_for x) c.searches) (search_of c.searches x)

  there : nat_lt (length then_asked.searches) then_asked.search_room ≡ true
  there = room_so (length then_asked.searches) c.search_room (let grew = one_more_asked in omega (arith, grew, few))

  -- the silence of one that wasn't asked for is what it was
  none_same : own_silence None then_asked ≡ own_silence None c
  none_same =
      ap (λ (b : Bool). if b then pos 0 else answer_due (slice_get then_asked.searches (oldest_search then_asked.searches))) there
      ∙ sym (ap (λ (b : Bool). if b then pos 0 else answer_due (slice_get c.searches (oldest_search c.searches))) here)

  own_same : (o : Option ℤ) → own_silence o then_asked ≡ own_silence o c
  own_same None = none_same
  own_same (Some until) = refl

module _ (j : InnerValue) (x hop : IpAddress) (many : j.host_requirements ≡ true) (apart : is_same_address x hop ≡ false)
    (few : length j.neighbors.searches + 1 < j.neighbors.search_room) where
  abbrev then_host : InnerValue
  then_host = with_request j x

  silence_same : silence_of then_host hop ≡ silence_of j hop
  silence_same =
      ap (λ (b : Bool). if b then own_silence (last_request then_host.neighbors hop) then_host.neighbors else then_host.neighbors.silent) many
      ∙ ap (λ (o : Option ℤ). own_silence o then_host.neighbors) (others_stay j.neighbors x hop j.instant apart (here j.neighbors x j.instant few))
      ∙ own_same j.neighbors x j.instant few (last_request j.neighbors hop)
      ∙ sym (ap (λ (b : Bool). if b then own_silence (last_request j.neighbors hop) j.neighbors else j.neighbors.silent) many)

  pub lookup_same : lookup (asked_of then_host hop) hop j.instant ≡ lookup (asked_of j hop) hop j.instant
  lookup_same =
      let entry : Option Neighbor = at_index (neighbor_index_of j.neighbors.entries hop) j.neighbors.entries in
      ap (λ (failed : Bool). unless_failed failed (answer_by entry (asked_of then_host hop) j.instant))
      (others_fail_so j.neighbors x hop j.instant apart (here j.neighbors x j.instant few) j.instant)
      ∙ ap (unless_failed (has_failed j.neighbors hop j.instant)) (answer_same entry (asked_of then_host hop) (asked_of j hop) j.instant silence_same)

-- WHOSE NEXT HOP IT IS

-- on Ethernet a destination, which is one host's, has a next hop
pub record IsVia (i : InnerValue) (to hop : IpAddress) : Type 0 where
  pub own : EthernetAddress
  pub on : i.hardware ≡ Hardware.Ethernet own
  pub one : is_local_broadcast i to ≡ false
  pub group : is_multicast to ≡ false
  pub hop_is : next_hop i to ≡ Some hop

abbrev pub IsUnknown : InnerValue → IpAddress → Type 0
IsUnknown j hop = lookup (asked_of j hop) hop j.instant ≡ Known.NotFound

module _ (i : InnerValue) (to hop : IpAddress) where
  abbrev everyone : LinkAddress
  everyone = Link.Known (Hardware.Ethernet all_stations)

  abbrev the_group : LinkAddress
  the_group = Link.Known (Hardware.Ethernet (group_hardware_addr to))

  of_hop : (o : Option IpAddress) → next_hop i to ≡ o → link_of_hop i o ≡ Link.Unknown hop → (next_hop i to ≡ Some hop) × IsUnknown i hop
  of_hop None is unknown = absurd (let never : Link.NoRoute ≡ Link.Unknown hop = unknown in cc)
  of_hop (Some via) is unknown =
      let both : (lookup (asked_of i via) via i.instant ≡ Known.NotFound) × (via ≡ hop) = not_found (lookup (asked_of i via) via i.instant) via hop unknown in (
        is ∙ ap (λ (x : IpAddress). Some x) both.1,
        subst (λ (x : IpAddress). IsUnknown i x) both.1 both.0,
      )

  by_kind : (own : EthernetAddress) → i.hardware ≡ Hardware.Ethernet own → (all group : Bool) → is_local_broadcast i to ≡ all → is_multicast to ≡ group
      → (if all then everyone else if group then the_group else link_of_hop i (next_hop i to)) ≡ Link.Unknown hop → IsVia i to hop × IsUnknown i hop
  by_kind own on true group one many unknown = absurd (let never : everyone ≡ Link.Unknown hop = unknown in cc)
  by_kind own on false true one many unknown = absurd (let never : the_group ≡ Link.Unknown hop = unknown in cc)
  by_kind own on false false one many unknown =
      let both : (next_hop i to ≡ Some hop) × IsUnknown i hop = of_hop (next_hop i to) refl unknown in
      (record { own = own; on = on; one = one; group = many; hop_is = both.0 }, both.1)

  by_medium : (hardware : HardwareAddress) → i.hardware ≡ hardware → link_on hardware i to ≡ Link.Unknown hop → IsVia i to hop × IsUnknown i hop
  by_medium Hardware.Ip on unknown = absurd (let never : Link.Known Hardware.Ip ≡ Link.Unknown hop = unknown in cc)
  by_medium (Hardware.Ethernet own) on unknown = by_kind own on (is_local_broadcast i to) (is_multicast to) refl refl unknown

  pub via_of : link_address i to ≡ Link.Unknown hop → IsVia i to hop × IsUnknown i hop
  via_of unknown = by_medium i.hardware refl unknown

  -- whoever else was asked for
  module _ (via : IsVia i to hop) (ident : ℕ) (silent : ℤ) (searches : List Search) (parking : ParkingValue) where
    abbrev later : InnerValue
    later = record i { ident = ident; neighbors = record i.neighbors { silent = silent; searches = searches }; parking = parking }

    link_later : IsUnknown later hop → link_address later to ≡ Link.Unknown hop
    link_later unknown =
        ap (λ (h : HardwareAddress). link_on h later to) via.on
        ∙ ap (λ (all : Bool). if all then everyone else if is_multicast to then the_group else link_of_hop later (next_hop i to)) via.one
        ∙ ap (λ (group : Bool). if group then the_group else link_of_hop later (next_hop i to)) via.group
        ∙ ap (link_of_hop later) via.hop_is
        ∙ ap (λ (a : Answer). link_by a hop) unknown

    source_later : (o : Option IpAddress) → may_be_source_on o i hop ≡ true → may_be_source_on o later hop ≡ true
    source_later None may = may
    source_later (Some source) may = may

    never_later : (h : IpRepr) → never_leaves i h ≡ false → never_leaves later h ≡ false
    never_later h may = may

    asks_later : (all : List Move) → AsksFor later hop all → AsksFor i hop all
    asks_later all it = record { question = it.question; from = it.from; sent = it.sent; whom = it.whom }

module _ (i j : InnerValue) (to hop : IpAddress) (via : IsVia i to hop) (same : IsSameHost i j) where
  pub link_then : IsUnknown j hop → link_address j to ≡ Link.Unknown hop
  link_then = subst (λ (k : InnerValue). IsUnknown k hop → link_address k to ≡ Link.Unknown hop) (sym same)
      (link_later i to hop via j.ident j.neighbors.silent j.neighbors.searches (parking_from i j))

  pub source_then : may_solicit i hop ≡ true → may_solicit j hop ≡ true
  source_then may = subst (λ (k : InnerValue). may_solicit k hop ≡ true) (sym same)
      (source_later i to hop via j.ident j.neighbors.silent j.neighbors.searches (parking_from i j) (source_for i.addresses hop) may)

  pub never_then : (h : IpRepr) → never_leaves i h ≡ false → never_leaves j h ≡ false
  never_then h may = subst (λ (k : InnerValue). never_leaves k h ≡ false) (sym same)
      (never_later i to hop via j.ident j.neighbors.silent j.neighbors.searches (parking_from i j) h may)

  pub asks_then : (all : List Move) → AsksFor j hop all → AsksFor i hop all
  asks_then all = subst (λ (k : InnerValue). AsksFor k hop all → AsksFor i hop all) (sym same)
      (asks_later i to hop via j.ident j.neighbors.silent j.neighbors.searches (parking_from i j) all)
