-- Packets that wait for their next hops, where no frame goes and none is refused: some are dropped, and none that is left is due.
use Rattle.std.proofs.Common.{◌≡◌, ℕ, Bool, true, false, if◌then◌else◌, ◌⊎◌, inl, inr, ℤ, ◌<ℤ◌, int_lt, List, [], ◌∷◌, ◌++◌, Option, Some, None, is_some, refl, sym, ap, ◌∙◌}
use Rattle.std.proofs.Common.{subst, arith}
use Rattle.std.specs.Prelude.{nat_le}
use Rattle.std.specs.List.{fold}
use Rattle.net_base.specs.Device.{Move, Allowed, Emitted, Denied}
use Rattle.ip_wire.specs.AddressTests.{is_multicast}
use Rattle.ip_wire.specs.EthernetAddress.{EthernetAddress}
use Rattle.ip_wire.specs.HardwareAddress.{HardwareAddress}
use Rattle.ip_wire.specs.HardwareAddress.TheVariants as Hardware
use Rattle.ip_wire.specs.Ip.{destination_of}
use Rattle.ip_wire.specs.IpAddress.{IpAddress}
use Rattle.ip_wire.specs.IpAddress.TheVariants as Address
use Rattle.ip_wire.specs.IpRepr.{IpRepr}
use Rattle.ip_wire.specs.Ipv4Address.{Ipv4Address}
use Rattle.iface_tables.specs.Best.{at_index}
use Rattle.iface_tables.specs.Inner as Tables
use Rattle.iface_tables.specs.Inner.{InnerValue, all_stations, asked_of, group_hardware_addr, is_local_broadcast, link_address, link_by, link_of_hop, link_on, mtu_to, next_hop}
use Rattle.iface_tables.specs.Inner.{silence_of}
use Rattle.iface_tables.specs.Neighbor.{CacheValue, answer_by, has_failed, lookup, missing, neighbor_index_of, unless_failed}
use Rattle.iface_tables.specs.Parking.{ParkedValue, ParkingValue, headers_of}
use Rattle.iface_tables.specs.Source.{source_v4}
use Rattle.iface_tables.specs.declared.link.LinkAddress.{LinkAddress}
use Rattle.iface_tables.specs.declared.link.LinkAddress.TheVariants as Link
use Rattle.iface_tables.specs.declared.neighbor.Answer.{Answer}
use Rattle.iface_tables.specs.declared.neighbor.Answer.TheVariants as Known
use Rattle.iface_tables.specs.declared.neighbor.Neighbor.{Neighbor}
use Rattle.iface_egress.specs.Departure as Departures
use Rattle.iface_egress.specs.Departure.{Departure}
use Rattle.iface_egress.specs.Fragments.{LeftValue, departure_from}
use Rattle.iface_egress.specs.IsTransmitted.{Asked, WasCut, WasSent, cut_of, frame_len_of, frame_of, numbered}
use Rattle.iface_egress.specs.Parked.{GoesOn, LeavesBy, ServesEach, ServesParked, lent, packet_in}
use Rattle.iface_egress.specs.Plan.{can_be_cut, may_solicit, never_leaves, plan_by, plan_of, solicit_from, solicit_if, solicit_on, solicit_v4, total_len}
use Rattle.iface_egress.specs.declared.egress_path.Sent.{Sent}
use Rattle.iface_egress.specs.declared.egress_path.Sent.TheVariants as Outcome
use Rattle.iface_egress.specs.declared.frame.NeighborQuery.{NeighborQuery}
use Rattle.iface_egress.specs.declared.plan.Plan.{Plan}
use Rattle.iface_egress.specs.declared.plan.Plan.TheVariants as Way
use Rattle.interface.specs.Host.{Sender}
use Rattle.interface.specs.Instant.{due_by, earlier, parked_due, soonest_if, soonest_parked}
use Rattle.interface.specs.QuietStep.{IsEarlier}
use Rattle.interface.proofs.ParkedPlan.{plan_parked}
use Rattle.proof_stack.specs.Progress.Moves.{AreMoves}
use Rattle.proof_stack.specs.Progress.OfUse.{Stirs}
use Rattle.proof_stack.proofs.Polls.Plans.{is_busy, plan_facts}
use Rattle.proof_stack.proofs.Polls.Turns.{earlier_later}
use Rattle.proof_stack.proofs.Polls.Walks.{joined, stirs_before, stirs_following}

clash : {X : Type 0} → true ≡ false → X
clash {X} e = absurd cc

-- THEY WAIT

abbrev pub AllWait : InnerValue → List ParkedValue → Type 0
AllWait i [] = Unit {0}
AllWait i (k ∷ ks) = (plan_of i false k.header ≡ Way.Wait) × AllWait i ks

and_last : (i : InnerValue) (ks : List ParkedValue) (k : ParkedValue) → AllWait i ks → plan_of i false k.header ≡ Way.Wait → AllWait i (ks ++ k ∷ [])
and_last i [] k wait last = (last, tt)
and_last i (q ∷ ks) k wait last = (wait.0, and_last i ks k wait.1 last)

-- whatever else waits
wait_apart : (i : InnerValue) (parking : ParkingValue) (ks : List ParkedValue) → AllWait i ks → AllWait (record i { parking = parking }) ks
wait_apart i parking [] wait = tt
wait_apart i parking (k ∷ ks) wait = (plan_parked i parking false k.header ∙ wait.0, wait_apart i parking ks wait.1)

-- UNTIL WHEN

module _ (i : InnerValue) where
  goes_never : (short can busy : Bool) (to : HardwareAddress)
      → (if short then Way.Go to else if can then if busy then Way.Busy else Way.Cut to else Way.Drop) ≡ Way.Wait → ⊥
  goes_never true can busy to is = cc
  goes_never false true true to is = cc
  goes_never false true false to is = cc
  goes_never false false busy to is = cc

  v4_never : (own : EthernetAddress) (o : Option Ipv4Address) (hop : Ipv4Address) → solicit_v4 own o hop ≡ Way.Wait → ⊥
  v4_never own None hop is = cc
  v4_never own (Some source) hop is = cc

  from_never : (own : EthernetAddress) (hop : IpAddress) → solicit_from own i hop ≡ Way.Wait → ⊥
  from_never own (Address.Ipv4 hop) is = v4_never own (source_v4 i.addresses hop) hop is
  from_never own (Address.Ipv6 hop) is = cc

  on_never : (hardware : HardwareAddress) (hop : IpAddress) → solicit_on hardware i hop ≡ Way.Wait → ⊥
  on_never Hardware.Ip hop is = cc
  on_never (Hardware.Ethernet own) hop is = from_never own hop is

  asks_never : (may : Bool) (hop : IpAddress) → solicit_if may i hop ≡ Way.Wait → ⊥
  asks_never true hop is = on_never i.hardware hop is
  asks_never false hop is = cc

  silent_by : (l : LinkAddress) (h : IpRepr) → plan_by l i false h ≡ Way.Wait → l ≡ Link.Silent
  silent_by Link.Silent h is = refl
  silent_by (Link.Known to) h is = absurd (goes_never (nat_le (total_len h) (mtu_to i (destination_of h))) (can_be_cut h) false to is)
  silent_by Link.NoRoute h is = absurd cc
  silent_by Link.Unanswered h is = absurd cc
  silent_by (Link.Unknown hop) h is = absurd (asks_never (may_solicit i hop) hop is)

  silent_plan : (never : Bool) (h : IpRepr) → (if never then Way.Drop else plan_by (link_address i (destination_of h)) i false h) ≡ Way.Wait
      → link_address i (destination_of h) ≡ Link.Silent
  silent_plan true h is = absurd cc
  silent_plan false h is = silent_by (link_address i (destination_of h)) h is

  wait_silent : (h : IpRepr) → plan_of i false h ≡ Way.Wait → link_address i (destination_of h) ≡ Link.Silent
  wait_silent h is = silent_plan (never_leaves i h) h is

  -- the silence is still to last
  limited : (a : Answer) (hop : IpAddress) → link_by a hop ≡ Link.Silent → a ≡ Known.RateLimited
  limited Known.RateLimited hop is = refl
  limited (Known.Found hardware) hop is = absurd cc
  limited Known.NotFound hop is = absurd cc
  limited Known.Unanswered hop is = absurd cc

  unless_limited : (failed : Bool) (a : Answer) → unless_failed failed a ≡ Known.RateLimited → a ≡ Known.RateLimited
  unless_limited failed (Known.Found hardware) is = absurd cc
  unless_limited true Known.NotFound is = absurd cc
  unless_limited false Known.NotFound is = absurd cc
  unless_limited failed Known.RateLimited is = refl
  unless_limited failed Known.Unanswered is = absurd cc

  missing_limited : (silent : Bool) → (if silent then Known.RateLimited else Known.NotFound) ≡ Known.RateLimited → silent ≡ true
  missing_limited true is = refl
  missing_limited false is = absurd cc

  answer_limited : (o : Option Neighbor) (c : CacheValue) (t : ℤ) → answer_by o c t ≡ Known.RateLimited → int_lt t c.silent ≡ true
  answer_limited None c t is = missing_limited (int_lt t c.silent) is
  answer_limited (Some e) c t is = by (int_lt t e.expires_at) is where
    by : (b : Bool) → (if b then Known.Found e.hardware_addr else missing c t) ≡ Known.RateLimited → int_lt t c.silent ≡ true
    by true is = absurd cc
    by false is = missing_limited (int_lt t c.silent) is

  hop_later : (hop : IpAddress) → link_of_hop i (Some hop) ≡ Link.Silent → i.instant <ℤ silence_of i hop
  hop_later hop is =
      let entry : Option Neighbor = at_index (neighbor_index_of i.neighbors.entries hop) i.neighbors.entries in
      let silent : lookup (asked_of i hop) hop i.instant ≡ Known.RateLimited = limited (lookup (asked_of i hop) hop i.instant) hop is in
      later (answer_limited entry (asked_of i hop) i.instant
      (unless_limited (has_failed (asked_of i hop) hop i.instant) (answer_by entry (asked_of i hop) i.instant) silent))
    where
      later : int_lt i.instant (silence_of i hop) ≡ true → i.instant <ℤ silence_of i hop
      later before = grind (arith)

  -- by its next hop
  hop_silent : (hardware : HardwareAddress) (address : IpAddress) → link_on hardware i address ≡ Link.Silent → link_of_hop i (next_hop i address) ≡ Link.Silent
  hop_silent Hardware.Ip address is = absurd cc
  hop_silent (Hardware.Ethernet own) address is = by (is_local_broadcast i address) (is_multicast address) is where
    by : (all group : Bool)
        → (if all then Link.Known (Hardware.Ethernet all_stations)
        else if group then Link.Known (Hardware.Ethernet (group_hardware_addr address)) else link_of_hop i (next_hop i address)) ≡ Link.Silent
        → link_of_hop i (next_hop i address) ≡ Link.Silent
    by true group same = absurd cc
    by false true same = absurd cc
    by false false same = same

  due_later : (h : IpRepr) → plan_of i false h ≡ Way.Wait → i.instant <ℤ parked_due i h
  due_later h is =
      subst (λ (plan : Plan). i.instant <ℤ due_by plan (next_hop i (destination_of h)) i h) (sym is)
      (by (next_hop i (destination_of h)) (hop_silent i.hardware (destination_of h) silent))
    where
      silent : link_address i (destination_of h) ≡ Link.Silent
      silent = wait_silent h is

      by : (o : Option IpAddress) → link_of_hop i o ≡ Link.Silent → i.instant <ℤ due_by Way.Wait o i h
      by None silences = absurd cc
      by (Some hop) silences = subst (λ (l : LinkAddress). i.instant <ℤ Tables.due_by l i hop) (sym silent) (hop_later hop silences)

  from_best : (t : ℤ) (best : Option ℤ) (ks : List ParkedValue) → i.instant ≡ t → IsEarlier t best → AllWait i ks
      → IsEarlier t (fold (λ b h. earlier b (Some (parked_due i h.header))) best (headers_of ks))
  from_best t best [] now one wait = one
  from_best t best (k ∷ ks) now one wait =
      from_best t (earlier best (Some (parked_due i k.header))) ks now
      (earlier_later t best (Some (parked_due i k.header)) one (subst (λ (m : ℤ). m <ℤ parked_due i k.header) now (due_later k.header wait.0))) wait.1

pub parked_later : (t : ℤ) (i : InnerValue) → i.host_requirements ≡ true → i.instant ≡ t → AllWait i i.parking.packets → IsEarlier t (soonest_parked i)
parked_later t i many now wait =
    subst (λ (b : Bool). IsEarlier t (soonest_if b i)) (sym many) (from_best i t None i.parking.packets now tt wait)

module _ {D : Type 0} (moves : D → Move → D → Type 0) where
  -- WHAT BECOMES OF ONE

  record OneEnds (x : Sender D) (k : ParkedValue) (plan : Plan) (sent : Sent) (x' : Sender D) : Type 0 where
    all : List Move
    are : AreMoves moves all x.device x'.device
    what : Stirs all ⊎ (x.left ≡ None → (x' ≡ x) × ((sent ≡ Outcome.Dropped) ⊎ ((sent ≡ Outcome.Waits) × (plan ≡ Way.Wait))))

  module _ (x : Sender D) (k : ParkedValue) (x' : Sender D) where
    module _ (mid : D) (leave : moves x.device (Allowed x.inner.instant true) mid) where
      went : (frame : List ℕ) (plan : Plan) (sent : Sent) → moves mid (Emitted frame) x'.device → OneEnds x k plan sent x'
      went frame plan sent move = record {
        all = Allowed x.inner.instant true ∷ Emitted frame ∷ [];
        are = (mid, leave, (x'.device, move, refl));
        what = inl (inl refl);
      }

      denied : (len : ℕ) (plan : Plan) (sent : Sent) → moves mid (Denied len) x'.device → OneEnds x k plan sent x'
      denied len plan sent move = record {
        all = Allowed x.inner.instant true ∷ Denied len ∷ [];
        are = (mid, leave, (x'.device, move, refl));
        what = inl (inr refl);
      }

      asked : (q : NeighborQuery) (plan : Plan) (sent : Sent) → Asked moves mid x.inner q sent x'.device x'.inner → OneEnds x k plan sent x'
      asked q plan Outcome.Waits goes = went (frame_of x.inner (Departures.Asks q)) plan Outcome.Waits goes.0.0
      asked q plan Outcome.Refused goes = denied (frame_len_of x.inner (Departures.Asks q)) plan Outcome.Refused goes.0
      asked q plan Outcome.Gone goes = absurd goes
      asked q plan Outcome.Dropped goes = absurd goes
      asked q plan Outcome.Busy goes = absurd goes

      whole : (d : Departure) (plan : Plan) (sent : Sent) → WasSent moves mid x.inner k.header d sent x'.device x'.inner → OneEnds x k plan sent x'
      whole d plan Outcome.Gone goes = went (frame_of x.inner d) plan Outcome.Gone goes.0.0
      whole d plan Outcome.Refused goes = denied (frame_len_of x.inner d) plan Outcome.Refused goes.0
      whole d plan Outcome.Waits goes = absurd goes
      whole d plan Outcome.Dropped goes = absurd goes
      whole d plan Outcome.Busy goes = absurd goes

      cut : (c : LeftValue) (plan : Plan) (sent : Sent) → WasCut moves mid x.inner x.left c sent x'.device x'.inner x'.left → OneEnds x k plan sent x'
      cut c plan Outcome.Gone goes = went (frame_of x.inner (departure_from x.inner c)) plan Outcome.Gone goes.0.0
      cut c plan Outcome.Refused goes = denied (frame_len_of x.inner (departure_from x.inner c)) plan Outcome.Refused goes.0
      cut c plan Outcome.Waits goes = absurd goes
      cut c plan Outcome.Dropped goes = absurd goes
      cut c plan Outcome.Busy goes = absurd goes

    no_leave : (plan : Plan) (sent : Sent) → moves x.device (Allowed x.inner.instant false) x'.device → OneEnds x k plan sent x'
    no_leave plan sent move = record { all = Allowed x.inner.instant false ∷ []; are = (x'.device, move, refl); what = inl (inr refl) }

    unmoved : (plan : Plan) (sent : Sent) → x' ≡ x → (x.left ≡ None → (sent ≡ Outcome.Dropped) ⊎ ((sent ≡ Outcome.Waits) × (plan ≡ Way.Wait)))
        → OneEnds x k plan sent x'
    unmoved plan sent same why = record { all = []; are = ap (λ (y : Sender D). y.device) same; what = inr (λ none. (same, why none)) }

    one_ends : (plan : Plan) (sent : Sent) → (x.left ≡ None → is_busy plan ≡ false) → LeavesBy moves plan x (packet_in k) sent x' → OneEnds x k plan sent x'
    one_ends Way.Wait sent idle goes = unmoved Way.Wait sent goes.1 (λ none. inr (goes.0, refl))
    one_ends Way.Busy sent idle goes = unmoved Way.Busy sent goes.1 (λ none. clash (idle none))
    one_ends Way.NoRoute sent idle goes = unmoved Way.NoRoute sent goes.1 (λ none. inl goes.0)
    one_ends Way.Drop sent idle goes = unmoved Way.Drop sent goes.1 (λ none. inl goes.0)
    one_ends (Way.Ask q) sent idle (inl refused) = no_leave (Way.Ask q) sent refused.0
    one_ends (Way.Ask q) sent idle (inr goes) = asked goes.0 goes.1 q (Way.Ask q) sent goes.2.0
    one_ends (Way.Go to) sent idle (inl refused) = no_leave (Way.Go to) sent refused.0
    one_ends (Way.Go to) sent idle (inr goes) =
        whole goes.0 goes.1 (Departures.Whole to (numbered x.inner (packet_in k))) (Way.Go to) sent goes.2.0
    one_ends (Way.Cut to) sent idle (inl refused) = no_leave (Way.Cut to) sent refused.0
    one_ends (Way.Cut to) sent idle (inr goes) = cut goes.0 goes.1 (cut_of x.inner to (packet_in k)) (Way.Cut to) sent goes.2

  -- OF ALL

  record EachEnds (kept : List ParkedValue) (x : Sender D) (all : Bool) (x' : Sender D) (left : List ParkedValue) : Type 0 where
    moved : List Move
    are : AreMoves moves moved x.device x'.device
    what : Stirs moved ⊎ (x.left ≡ None → AllWait x.inner kept → (all ≡ true) × (x' ≡ x) × AllWait x.inner left)

  each_ends : (rest kept : List ParkedValue) (x : Sender D) (all : Bool) (x' : Sender D) (left : List ParkedValue)
      → ServesEach moves rest kept x all x' left → EachEnds kept x all x' left
  each_ends [] kept x all x' left serves = record {
    moved = [];
    are = ap (λ (y : Sender D). y.device) serves.1;
    what = inr (λ none wait. (serves.0, serves.1, subst (AllWait x.inner) (sym serves.2) wait));
  }
  each_ends (k ∷ rest) kept x all x' left serves =
      by serves.0 (one_ends x k mid plan serves.0 (λ none. (plan_facts x.inner (is_some x.left) k.header).idle (ap is_some none)) serves.2) serves.3
      (λ on later. each_ends rest on mid all x' left later)
    where
      mid : Sender D
      mid = serves.1

      plan : Plan
      plan = plan_of x.inner (is_some x.left) k.header

      idle_plan : x.left ≡ None → plan ≡ Way.Wait → plan_of x.inner false k.header ≡ Way.Wait
      idle_plan none is = subst (λ (o : Option LeftValue). plan_of x.inner (is_some o) k.header ≡ Way.Wait) none is

      -- one that waits on is behind those before it
      further : (sent : Sent) (on : List ParkedValue) → OneEnds x k plan sent mid → EachEnds on mid all x' left
          → (x.left ≡ None → AllWait x.inner kept → (sent ≡ Outcome.Dropped) ⊎ ((sent ≡ Outcome.Waits) × (plan ≡ Way.Wait)) → AllWait x.inner on)
          → EachEnds kept x all x' left
      further sent on one rest stays = record {
        moved = one.all ++ rest.moved;
        are = joined moves one.all rest.moved x.device mid.device x'.device one.are rest.are;
        what = both one.what rest.what;
      } where
        both : Stirs one.all ⊎ (x.left ≡ None → (mid ≡ x) × ((sent ≡ Outcome.Dropped) ⊎ ((sent ≡ Outcome.Waits) × (plan ≡ Way.Wait))))
            → Stirs rest.moved ⊎ (mid.left ≡ None → AllWait mid.inner on → (all ≡ true) × (x' ≡ mid) × AllWait mid.inner left)
            → Stirs (one.all ++ rest.moved) ⊎ (x.left ≡ None → AllWait x.inner kept → (all ≡ true) × (x' ≡ x) × AllWait x.inner left)
        both (inl stirs) more = inl (stirs_before one.all rest.moved stirs)
        both (inr calm) (inl stirs) = inl (stirs_following one.all rest.moved stirs)
        both (inr calm) (inr more) = inr (λ none wait.
            let end = more (ap (λ (y : Sender D). y.left) (calm none).0 ∙ none)
            (subst (λ (y : Sender D). AllWait y.inner on) (sym (calm none).0) (stays none wait (calm none).1)) in
            (end.0, end.1 ∙ (calm none).0, subst (λ (y : Sender D). AllWait y.inner left) (calm none).0 end.2))

      by : (sent : Sent) → OneEnds x k plan sent mid
          → GoesOn moves sent (ServesEach moves rest kept mid all x' left) (ServesEach moves rest (kept ++ k ∷ []) mid all x' left)
          ((all ≡ false) × (x' ≡ mid) × (left ≡ kept ++ k ∷ rest))
          → ((on : List ParkedValue) → ServesEach moves rest on mid all x' left → EachEnds on mid all x' left) → EachEnds kept x all x' left
      by Outcome.Gone one later more = further Outcome.Gone kept one (more kept later) (λ none wait why. wait)
      by Outcome.Dropped one later more = further Outcome.Dropped kept one (more kept later) (λ none wait why. wait)
      by Outcome.Waits one later more =
          further Outcome.Waits (kept ++ k ∷ []) one (more (kept ++ k ∷ []) later) (λ none wait why. and_last x.inner kept k wait (idle_plan none (waits why)))
        where
          waits : (Outcome.Waits ≡ Outcome.Dropped) ⊎ ((Outcome.Waits ≡ Outcome.Waits) × (plan ≡ Way.Wait)) → plan ≡ Way.Wait
          waits (inl is) = absurd cc
          waits (inr is) = is.1
      by Outcome.Busy one later more =
          further Outcome.Busy (kept ++ k ∷ []) one (more (kept ++ k ∷ []) later) (λ none wait why. never why)
        where
          never : (Outcome.Busy ≡ Outcome.Dropped) ⊎ ((Outcome.Busy ≡ Outcome.Waits) × (plan ≡ Way.Wait)) → AllWait x.inner (kept ++ k ∷ [])
          never (inl is) = absurd cc
          never (inr is) = absurd (let clash : Outcome.Busy ≡ Outcome.Waits = is.0 in cc)
      by Outcome.Refused one later more = record {
        moved = one.all;
        are = subst (λ (d : D). AreMoves moves one.all x.device d) (sym (ap (λ (y : Sender D). y.device) later.1)) one.are;
        what = never one.what;
      } where
        none_so : (Outcome.Refused ≡ Outcome.Dropped) ⊎ ((Outcome.Refused ≡ Outcome.Waits) × (plan ≡ Way.Wait)) → ⊥
        none_so (inl is) = cc
        none_so (inr is) = let clash : Outcome.Refused ≡ Outcome.Waits = is.0 in cc

        never : Stirs one.all ⊎ (x.left ≡ None → (mid ≡ x) × ((Outcome.Refused ≡ Outcome.Dropped) ⊎ ((Outcome.Refused ≡ Outcome.Waits) × (plan ≡ Way.Wait))))
            → Stirs one.all ⊎ (x.left ≡ None → AllWait x.inner kept → (all ≡ true) × (x' ≡ x) × AllWait x.inner left)
        never (inl stirs) = inl stirs
        never (inr calm) = inr (λ none wait. absurd (none_so (calm none).1))

  -- what waits is put back, and nothing else isn't what it was
  pub record ParkedCalm (x x' : Sender D) (all : Bool) : Type 0 where
    pub all_went : all ≡ true
    pub left : x'.left ≡ x.left
    pub inner : x'.inner ≡ record x.inner { parking = x'.inner.parking }
    pub wait : AllWait x'.inner x'.inner.parking.packets

  pub record ParkedEnds (x x' : Sender D) (all : Bool) : Type 0 where
    pub moved : List Move
    pub are : AreMoves moves moved x.device x'.device
    pub what : Stirs moved ⊎ (x.left ≡ None → ParkedCalm x x' all)

  pub parked_ends : (x x' : Sender D) (all : Bool) → ServesParked moves x all x' → ParkedEnds x x' all
  parked_ends x x' all serves =
      let each : EachEnds [] (lent moves x) all serves.0 serves.1 =
      each_ends x.inner.parking.packets [] (lent moves x) all serves.0 serves.1 serves.2 in
      record {
        moved = each.moved;
        are = subst (λ (d : D). AreMoves moves each.moved x.device d) (sym (ap (λ (y : Sender D). y.device) serves.3)) each.are;
        what = by each.moved each.what;
      }
    where
      mid : Sender D
      mid = serves.0

      left : List ParkedValue
      left = serves.1

      parking : ParkingValue
      parking = record { packets = left; room = x.inner.parking.room }

      calm : mid ≡ lent moves x → all ≡ true → AllWait (lent moves x).inner left → ParkedCalm x x' all
      calm same went wait =
          let is : x' ≡ record x { inner = record x.inner { parking = parking } } =
          serves.3 ∙ ap (λ (y : Sender D). record y { inner = record y.inner { parking = parking } }) same in
          record {
            all_went = went;
            left = ap (λ (y : Sender D). y.left) is;
            inner = subst (λ (y : Sender D). y.inner ≡ record x.inner { parking = y.inner.parking }) (sym is) refl;
            wait = subst (λ (y : Sender D). AllWait y.inner y.inner.parking.packets) (sym is) (wait_apart (lent moves x).inner parking left wait);
          }

      by : (moved : List Move) → Stirs moved ⊎ ((lent moves x).left ≡ None → Unit {0} → (all ≡ true) × (mid ≡ lent moves x) × AllWait (lent moves x).inner left)
          → Stirs moved ⊎ (x.left ≡ None → ParkedCalm x x' all)
      by moved (inl stirs) = inl stirs
      by moved (inr ends) = inr (λ none. let end = ends none tt in calm end.1 end.0 end.2)
