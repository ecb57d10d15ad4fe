-- A packet whose next hop can't be asked for yet waits on, and where all that wait do nothing happens.
use Rattle.std.proofs.Common.{◌≡◌, Bool, true, false, ◌&&◌, not, if◌then◌else◌, ℤ, pos, ◌≤ℤ◌, ◌<ℤ◌, int_lt, List, [], ◌∷◌, ◌++◌, Option, Some, None, is_some, refl}
use Rattle.std.proofs.Common.{sym, ap, ◌∙◌, subst, arith, append_assoc, append-nil}
use Rattle.std.specs.List.{fold}
use Rattle.std.specs.Prelude.{nat_le, nat_lt}
use Rattle.net_base.specs.Device.{Move}
use Rattle.ip_wire.specs.AddressTests.{is_multicast}
use Rattle.ip_wire.specs.EthernetAddress.{EthernetAddress}
use Rattle.ip_wire.specs.HardwareAddress.{HardwareAddress}
use Rattle.ip_wire.specs.HardwareAddress.TheVariants as Hardware
use Rattle.ip_wire.specs.Ip.{destination_of}
use Rattle.ip_wire.specs.IpAddress.{IpAddress}
use Rattle.ip_wire.specs.IpAddress.TheVariants as Address
use Rattle.ip_wire.specs.IpRepr.{IpRepr}
use Rattle.ip_wire.specs.Ipv4Address.{Ipv4Address}
use Rattle.iface_tables.specs.Best.{at_index}
use Rattle.iface_tables.specs.Inner as Tables
use Rattle.iface_tables.specs.Inner.{InnerValue, asked_of, at_instant, is_local_broadcast, link_address, link_by, link_of_hop, link_on, mtu_to, next_hop, silence_of}
use Rattle.iface_tables.specs.Inner.{all_stations, group_hardware_addr}
use Rattle.iface_tables.specs.Neighbor.{CacheValue, answer_by, answer_of, has_failed, has_failed_by, is_found, last_request, lookup, missing, most_requests}
use Rattle.iface_tables.specs.Neighbor.{neighbor_index_of, own_silence, search_of, unless_failed}
use Rattle.iface_tables.specs.Parking.{ParkedValue, empty_parking, headers_of}
use Rattle.iface_tables.specs.declared.link.LinkAddress.{LinkAddress}
use Rattle.iface_tables.specs.declared.link.LinkAddress.TheVariants as Link
use Rattle.iface_tables.specs.declared.neighbor.Answer.{Answer}
use Rattle.iface_tables.specs.declared.neighbor.Answer.TheVariants as Known
use Rattle.iface_tables.specs.declared.neighbor.Neighbor.{Neighbor}
use Rattle.iface_tables.specs.declared.neighbor.Search.{Search}
use Rattle.iface_tables.specs.Source.{source_v4}
use Rattle.iface_egress.specs.Fragments.{LeftValue}
use Rattle.iface_egress.specs.Parked.{GoesOn, LeavesBy, ServesEach, ServesParked, lent, packet_in, put_back}
use Rattle.iface_egress.specs.Plan.{can_be_cut, comes_from_here, cut_if_idle, may_solicit, plan_by, plan_of, solicit_from, solicit_if}
use Rattle.iface_egress.specs.Plan.{solicit_on, solicit_v4, stays, total_len}
use Rattle.iface_egress.specs.declared.plan.Plan.{Plan}
use Rattle.iface_egress.specs.declared.plan.Plan.TheVariants as Way
use Rattle.iface_egress.specs.declared.egress_path.Sent.{Sent}
use Rattle.iface_egress.specs.declared.egress_path.Sent.TheVariants as Outcome
use Rattle.interface.specs.Host.{Sender}
use Rattle.interface.specs.Instant.{due_by, earlier, parked_due}
use Rattle.interface.specs.QuietStep.{IsEarlier, RoutesStay}
use Rattle.interface.proofs.Due.{both_early}
use Rattle.interface.proofs.Known.{found_unless, unfound_by}
use Rattle.interface.proofs.ParkedPlan.{plan_parked}

-- WHO WAITS

abbrev waits : Plan → Bool
waits Way.Wait = true
waits plan = false

abbrev is_silent : LinkAddress → Bool
is_silent Link.Silent = true
is_silent link = false

cut_goes : (busy : Bool) (to : HardwareAddress) → waits (cut_if_idle busy to) ≡ false
cut_goes true to = refl
cut_goes false to = refl

to_goes : (short can busy : Bool) (to : HardwareAddress) → waits (if short then Way.Go to else if can then cut_if_idle busy to else Way.Drop) ≡ false
to_goes true can busy to = refl
to_goes false true busy to = cut_goes busy to
to_goes false false busy to = refl

v4_asks : (local : EthernetAddress) (o : Option Ipv4Address) (hop : Ipv4Address) → waits (solicit_v4 local o hop) ≡ false
v4_asks local None hop = refl
v4_asks local (Some source) hop = refl

from_asks : (local : EthernetAddress) (i : InnerValue) (hop : IpAddress) → waits (solicit_from local i hop) ≡ false
from_asks local i (Address.Ipv4 hop) = v4_asks local (source_v4 i.addresses hop) hop
from_asks local i (Address.Ipv6 hop) = refl

on_asks : (hardware : HardwareAddress) (i : InnerValue) (hop : IpAddress) → waits (solicit_on hardware i hop) ≡ false
on_asks Hardware.Ip i hop = refl
on_asks (Hardware.Ethernet local) i hop = from_asks local i hop

asks : (may : Bool) (i : InnerValue) (hop : IpAddress) → waits (solicit_if may i hop) ≡ false
asks true i hop = on_asks i.hardware i hop
asks false i hop = refl

by_link : (link : LinkAddress) (i : InnerValue) (busy : Bool) (header : IpRepr) → waits (plan_by link i busy header) ≡ is_silent link
by_link (Link.Known to) i busy header = to_goes (nat_le (total_len header) (mtu_to i (destination_of header))) (can_be_cut header) busy to
by_link Link.NoRoute i busy header = refl
by_link Link.Silent i busy header = refl
by_link Link.Unanswered i busy header = refl
by_link (Link.Unknown hop) i busy header = asks (may_solicit i hop) i hop

silent_is : (link : LinkAddress) → is_silent link ≡ true → link ≡ Link.Silent
silent_is Link.Silent is = refl
silent_is (Link.Known to) is = absurd cc
silent_is Link.NoRoute is = absurd cc
silent_is Link.Unanswered is = absurd cc
silent_is (Link.Unknown hop) is = absurd cc

-- ITS NEXT HOP STAYS UNKNOWN

both_sides : (t end : ℤ) → t <ℤ end → int_lt t end ≡ true
both_sides t end early = grind (arith)

not_failed : (o : Option Search) (c : CacheValue) (t : ℤ) → t <ℤ own_silence (answer_of o) c → has_failed_by o t ≡ false
not_failed None c t early = refl
not_failed (Some s) c t early = by (not (nat_lt s.requests most_requests)) (int_lt t s.answer_by) (both_sides t s.answer_by early) where
  by : (often over : Bool) → over ≡ true → (often && (not over && int_lt t s.failed_until)) ≡ false
  by true true is = refl
  by false over is = refl
  by true false is = absurd cc

answer_missing : (o : Option Neighbor) (c : CacheValue) (t : ℤ) → is_found (answer_by o c t) ≡ false → answer_by o c t ≡ missing c t
answer_missing None c t unfound = refl
answer_missing (Some e) c t unfound = by (int_lt t e.expires_at) unfound where
  by : (b : Bool) → is_found (if b then Known.Found e.hardware_addr else missing c t) ≡ false →
      (if b then Known.Found e.hardware_addr else missing c t) ≡ missing c t
  by true off = absurd cc
  by false off = refl

limited : (c : CacheValue) (t : ℤ) → t <ℤ c.silent → missing c t ≡ Known.RateLimited
limited c t early = ap (λ (b : Bool). if b then Known.RateLimited else Known.NotFound) (both_sides t c.silent early)

unfound_link : (a : Answer) (hop : IpAddress) → is_silent (link_by a hop) ≡ true → is_found a ≡ false
unfound_link (Known.Found hardware) hop is = absurd cc
unfound_link Known.RateLimited hop is = refl
unfound_link Known.Unanswered hop is = refl
unfound_link Known.NotFound hop is = refl

module _ (asked : InnerValue) (t : ℤ) (since : asked.instant ≤ℤ t) (routes : RoutesStay asked t) (many : asked.host_requirements ≡ true) where
  abbrev now : InnerValue
  now = at_instant t asked

  own_is : (hop : IpAddress) → silence_of asked hop ≡ own_silence (last_request asked.neighbors hop) asked.neighbors
  own_is hop = ap (λ (b : Bool). if b then own_silence (last_request asked.neighbors hop) asked.neighbors else asked.neighbors.silent) many

  hop_silent : (hop : IpAddress) → t <ℤ silence_of asked hop → is_silent (link_of_hop asked (Some hop)) ≡ true →
      is_silent (link_of_hop now (Some hop)) ≡ true
  hop_silent hop early is =
      let c : CacheValue = asked_of asked hop in
      let entry : Option Neighbor = at_index (neighbor_index_of c.entries hop) c.entries in
      let unfound : is_found (answer_by entry c asked.instant) ≡ false =
      sym (found_unless (has_failed c hop asked.instant) (answer_by entry c asked.instant)) ∙ unfound_link (lookup c hop asked.instant) hop is in
      let still : answer_by entry c t ≡ Known.RateLimited =
      answer_missing entry c t (unfound_by entry c asked.instant t since unfound) ∙ limited c t early in
      let calm : has_failed c hop t ≡ false =
      not_failed (search_of c.searches hop) asked.neighbors t (subst (λ (end : ℤ). t <ℤ end) (own_is hop) early) in
      ap (λ (a : Answer). is_silent (link_by a hop))
      (ap (λ (failed : Bool). unless_failed failed (answer_by entry c t)) calm ∙ ap (unless_failed false) still)

  on_silent : (hardware : HardwareAddress) (address hop : IpAddress) → next_hop asked address ≡ Some hop → t <ℤ silence_of asked hop →
      is_silent (link_on hardware asked address) ≡ true → is_silent (link_on hardware now address) ≡ true
  on_silent Hardware.Ip address hop next early is = absurd cc
  on_silent (Hardware.Ethernet local) address hop next early is = by (is_local_broadcast asked address) (is_multicast address) is where
    further : is_silent (link_of_hop asked (next_hop asked address)) ≡ true → is_silent (link_of_hop now (next_hop now address)) ≡ true
    further silent =
        subst (λ (o : Option IpAddress). is_silent (link_of_hop now o) ≡ true) (sym (routes address ∙ next))
        (hop_silent hop early (subst (λ (o : Option IpAddress). is_silent (link_of_hop asked o) ≡ true) next silent))

    at : Bool → Bool → InnerValue → LinkAddress
    at all group i =
        if all then Link.Known (Hardware.Ethernet all_stations)
        else if group then Link.Known (Hardware.Ethernet (group_hardware_addr address)) else link_of_hop i (next_hop i address)

    by : (all group : Bool) → is_silent (at all group asked) ≡ true → is_silent (at all group now) ≡ true
    by true group silent = absurd cc
    by false true silent = absurd cc
    by false false silent = further silent

  -- a packet that has to wait still has to
  plan_waits : (header : IpRepr) (hop : IpAddress) → next_hop asked (destination_of header) ≡ Some hop → t <ℤ silence_of asked hop →
      plan_of asked false header ≡ Way.Wait → plan_of now false header ≡ Way.Wait
  plan_waits header hop next early is = by (stays asked (comes_from_here asked header) (destination_of header)) is where
    link : InnerValue → LinkAddress
    link i = link_address i (destination_of header)

    by : (off : Bool) → (if off then Way.Drop else plan_by (link_address asked (destination_of header)) asked false header) ≡ Way.Wait
        → (if off then Way.Drop else plan_by (link_address now (destination_of header)) now false header) ≡ Way.Wait
    by true same = absurd cc
    by false same =
        let silent : is_silent (link_address asked (destination_of header)) ≡ true =
        sym (by_link (link_address asked (destination_of header)) asked false header) ∙ ap waits same in
        ap (λ (l : LinkAddress). plan_by l now false header)
        (silent_is (link_address now (destination_of header)) (on_silent asked.hardware (destination_of header) hop next early silent))

  -- one that isn't due
  waits_on : (header : IpRepr) → pos 0 ≤ℤ t → t <ℤ parked_due asked header → plan_of now false header ≡ Way.Wait
  waits_on header instant early = by (plan_of asked false header) (next_hop asked (destination_of header)) refl refl early where
    negative : t <ℤ pos 0 → ⊥
    negative below = grind (arith, instant)

    by_link_of : (hop : IpAddress) (l : LinkAddress) → t <ℤ Tables.due_by l asked hop → t <ℤ silence_of asked hop
    by_link_of hop Link.Silent before = before
    by_link_of hop (Link.Known to) before = absurd (negative before)
    by_link_of hop Link.NoRoute before = absurd (negative before)
    by_link_of hop Link.Unanswered before = absurd (negative before)
    by_link_of hop (Link.Unknown via) before = absurd (negative before)

    by : (plan : Plan) (o : Option IpAddress) → plan_of asked false header ≡ plan → next_hop asked (destination_of header) ≡ o →
        t <ℤ due_by plan o asked header → plan_of now false header ≡ Way.Wait
    by Way.Wait (Some hop) is next before = plan_waits header hop next (by_link_of hop (link_address asked (destination_of header)) before) is
    by Way.Wait None is next before = absurd (negative before)
    by Way.Drop o is next before = absurd (negative before)
    by Way.NoRoute o is next before = absurd (negative before)
    by Way.Busy o is next before = absurd (negative before)
    by (Way.Ask query) o is next before = absurd (negative before)
    by (Way.Go to) o is next before = absurd (negative before)
    by (Way.Cut to) o is next before = absurd (negative before)

  -- ALL OF THEM

  abbrev AllWait : List ParkedValue → Type 0
  AllWait [] = Unit {0}
  AllWait (k ∷ ks) = (plan_of now false k.header ≡ Way.Wait) × AllWait ks

  all_wait : (best : Option ℤ) (ks : List ParkedValue) → pos 0 ≤ℤ t →
      IsEarlier t (fold (λ b h. earlier b (Some (parked_due asked h.header))) best (headers_of ks)) → IsEarlier t best × AllWait ks
  all_wait best [] instant early = (early, tt)
  all_wait best (k ∷ ks) instant early =
      let rest = all_wait (earlier best (Some (parked_due asked k.header))) ks instant early in
      let both = both_early t best (Some (parked_due asked k.header)) rest.0 in
      (both.0, (waits_on k.header instant both.1, rest.1))

  module _ {D : Type 0} (moves : D → Move → D → Type 0) where
    one_waits : (plan : Plan) (x : Sender D) (k : ParkedValue) (sent : Sent) (x' : Sender D) → plan ≡ Way.Wait → LeavesBy moves plan x (packet_in k) sent x' →
        (sent ≡ Outcome.Waits) × (x' ≡ x)
    one_waits plan x k sent x' is leaves = subst (λ (w : Plan). LeavesBy moves w x (packet_in k) sent x') is leaves

    each_waits : (rest kept : List ParkedValue) (x : Sender D) (all : Bool) (x' : Sender D) (left : List ParkedValue)
        → ((header : IpRepr) → plan_of x.inner false header ≡ plan_of now false header) → x.left ≡ None → AllWait rest
        → ServesEach moves rest kept x all x' left → (all ≡ true) × (x' ≡ x) × (left ≡ kept ++ rest)
    each_waits [] kept x all x' left here idle wait serves = (serves.0, serves.1, serves.2 ∙ sym (append-nil kept))
    each_waits (k ∷ rest) kept x all x' left here idle wait serves =
        let plan : plan_of x.inner (is_some x.left) k.header ≡ Way.Wait =
        ap (λ (o : Option LeftValue). plan_of x.inner (is_some o) k.header) idle ∙ here k.header ∙ wait.0 in
        let one = one_waits (plan_of x.inner (is_some x.left) k.header) x k serves.0 serves.1 plan serves.2 in
        let goes : ServesEach moves rest (kept ++ k ∷ []) serves.1 all x' left =
        subst (λ (s : Sent). GoesOn moves s (ServesEach moves rest kept serves.1 all x' left) (ServesEach moves rest (kept ++ k ∷ []) serves.1 all x' left)
        ((all ≡ false) × (x' ≡ serves.1) × (left ≡ kept ++ k ∷ rest))) one.0 serves.3 in
        let same : ServesEach moves rest (kept ++ k ∷ []) x all x' left =
        subst (λ (y : Sender D). ServesEach moves rest (kept ++ k ∷ []) y all x' left) one.1 goes in
        let end = each_waits rest (kept ++ k ∷ []) x all x' left here idle wait.1 same in
        (end.0, end.1, end.2 ∙ append_assoc kept (k ∷ []) rest)

    -- nothing happens
    pub parked_wait : (x x' : Sender D) (all : Bool) → pos 0 ≤ℤ t → x.inner ≡ now → x.left ≡ None
        → IsEarlier t (fold (λ b h. earlier b (Some (parked_due asked h.header))) None (headers_of asked.parking.packets))
        → ServesParked moves x all x' → (all ≡ true) × (x' ≡ x)
    parked_wait x x' all instant here idle early serves =
        let wait : AllWait x.inner.parking.packets =
        subst (λ (i : InnerValue). AllWait i.parking.packets) (sym here) ((all_wait None asked.parking.packets instant early).1) in
        let end = each_waits x.inner.parking.packets [] (lent moves x) all serves.0 serves.1
        (λ header. plan_parked x.inner (empty_parking 0) false header ∙ ap (λ (i : InnerValue). plan_of i false header) here) idle wait serves.2 in (
          end.0,
          serves.3 ∙ ap (λ (y : Sender D). put_back moves x.inner.parking.room serves.1 y) end.1
              ∙ ap (λ (ks : List ParkedValue). put_back moves x.inner.parking.room ks (lent moves x)) end.2,
        )
