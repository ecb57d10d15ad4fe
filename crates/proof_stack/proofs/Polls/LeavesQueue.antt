-- With host requirements a datagram that fits in one frame leaves its socket's queue at its turn, whoever its next hop is.
use Rattle.std.proofs.Common.{◌≡◌, ◌≤◌, ℕ, zero, suc, ◌+◌, Bool, true, false, not, ◌&&◌, ◌||◌, if◌then◌else◌, ◌⊎◌, inl, inr, ℤ, List, [], ◌∷◌, ◌++◌, length, drop, Option, Some, None}
use Rattle.std.proofs.Common.{is_some, refl, sym, ap, ◌∙◌, subst, arith, append_assoc, append-nil, length-append}
use Rattle.std.specs.Prelude.{slice_get}
use Rattle.std.specs.List.{list_any}
use Rattle.std.proofs.lemmas.Bool.{le-leb}
use Rattle.net_base.specs.Device.{Move}
use Rattle.net_base.specs.Packets.{contents, unpadded}
use Rattle.base_buffer.proofs.PacketLaws.{contents-without_first, contents-unpadded}
use Rattle.ip_wire.specs.EthernetAddress.{EthernetAddress}
use Rattle.ip_wire.specs.HardwareAddress.{HardwareAddress}
use Rattle.ip_wire.specs.HardwareAddress.TheVariants as Hardware
use Rattle.ip_wire.specs.Ip.{destination_of}
use Rattle.ip_wire.specs.IpAddress.{IpAddress}
use Rattle.ip_wire.specs.IpAddress.TheVariants as Address
use Rattle.ip_wire.specs.IpRepr.{IpRepr}
use Rattle.ip_wire.specs.Ipv4Address.{Ipv4Address}
use Rattle.socket_datagram.specs.Offers.{left_with}
use Rattle.socket_datagram.specs.SocketValue as Datagrams
use Rattle.socket_datagram.specs.Udp.{UdpValue, TakesDatagram}
use Rattle.socket_datagram.specs.declared.udp.UdpMetadata.{UdpMetadata}
use Rattle.iface_ingress.specs.Context.{ContextValue}
use Rattle.iface_ingress.specs.Offer as Answer
use Rattle.iface_ingress.specs.Offer.TheVariants as Offer
use Rattle.iface_ingress.specs.Packet.{PacketValue}
use Rattle.iface_ingress.specs.Socket.{Socket}
use Rattle.iface_ingress.specs.Socket.TheVariants as Kind
use Rattle.iface_ingress.specs.Sockets as Sockets
use Rattle.iface_tables.specs.Inner.{InnerValue, at_instant, context_of, link_address, mtu_to}
use Rattle.iface_tables.specs.Parking.{ParkingValue}
use Rattle.iface_tables.specs.Source.{source_v4}
use Rattle.iface_tables.specs.declared.link.LinkAddress.{LinkAddress}
use Rattle.iface_tables.specs.declared.link.LinkAddress.TheVariants as Link
use Rattle.iface_tables.specs.declared.neighbor.Search.{Search}
use Rattle.iface_egress.specs.Departure.{Departure, Whole}
use Rattle.iface_egress.specs.Fragments.{LeftValue}
use Rattle.iface_egress.specs.IsTransmitted.{Asked, IsTransmitted, WasCut, WasSent, cut_of, numbered}
use Rattle.iface_egress.specs.Meta.{has_waited, unmarked}
use Rattle.iface_egress.specs.Parked.{is_searched, is_segment, outcome_of, parks, waits}
use Rattle.iface_egress.specs.Plan.{long_plan, may_solicit, never_leaves, plan_by, plan_of, solicit_from, solicit_if, solicit_on, solicit_v4, total_len}
use Rattle.iface_egress.specs.declared.egress_path.Sent.{Sent}
use Rattle.iface_egress.specs.declared.egress_path.Sent.TheVariants as Outcome
use Rattle.iface_egress.specs.declared.frame.NeighborQuery.{NeighborQuery}
use Rattle.iface_egress.specs.declared.plan.Plan.{Plan}
use Rattle.iface_egress.specs.declared.plan.Plan.TheVariants as Way
use Rattle.iface_egress.specs.declared.socket_meta.Meta.{Meta}
use Rattle.iface_egress.specs.declared.socket_set.Item.{Item}
use Rattle.iface_egress.specs.declared.socket_set.SocketStorage.{SocketStorage}
use Rattle.interface.specs.Awaited.{hop_of, next_awaited, turn_of}
use Rattle.interface.specs.Egress.{EgressStep, if_changed, sending}
use Rattle.interface.specs.EgressPath.{Egress}
use Rattle.interface.specs.Host.{Sender}
use Rattle.interface.specs.Pass.{Pass, Passed}
use Rattle.interface.specs.Remote.{context_for}
use Rattle.interface.specs.SameHost.{IsSameHost, parking_from}
use Rattle.interface.specs.Serve.{Answers, ItemTurns, Leaves, LeavesIf, LeavesOrParks, SendsAs, SendsBy, ServesSlot, TurnsIf, held, is_given_up, is_out_of_turn, is_waiting}
use Rattle.interface.specs.Serve.{lost_time}
use Rattle.interface.specs.Serve.{let_through, outcome_by, plan_at, settled_by, turned_by, waits_until}
use Rattle.interface.specs.State.{State}
use Rattle.interface.specs.declared.serve.Served.{Served}
use Rattle.interface.specs.declared.serve.Served.TheVariants as Turn
use Rattle.interface.proofs.SameHost.{clears_all_same, leaves_same, same_flag, slot_same}
use Rattle.proof_stack.specs.Progress.Moves.{AreMoves, is_refused}
use Rattle.proof_stack.specs.Progress.Parked.{HasLeftQueue, LeavesQueue}
use Rattle.proof_stack.specs.Progress.Queued.{HasTurn}
use Rattle.proof_stack.proofs.Polls.AnyLeave.{OffersOnly, source_stays}
use Rattle.proof_stack.proofs.Polls.AnyTurn.{Moved, Next, Through, clears_through, pass_through, slot_through}
use Rattle.proof_stack.proofs.Polls.Goes.{only_still, stands_at}
use Rattle.proof_stack.proofs.Polls.OurLeave.{offering_with, offers_it}
use Rattle.proof_stack.proofs.Polls.Plans.{is_busy}
use Rattle.proof_stack.proofs.Polls.Walks.{joined, refused_before, refused_following}
use Rattle.proof_stack.proofs.Polls.Ways.{waits_still}

abbrev Place : Type 0
Place = SocketStorage Socket

abbrev no_slot : Option Place
no_slot = None

abbrev slot_with : Option (Item Socket) → Place
slot_with o = record { inner = o }

clash : {X : Type 0} → true ≡ false → X
clash {X} e = absurd cc

or_true : (a b : Bool) → b ≡ true → (a || b) ≡ true
or_true true b e = refl
or_true false b e = e

or_first : (a b : Bool) → a ≡ true → (a || b) ≡ true
or_first true b e = refl
or_first false b e = clash (sym e)

-- THE HOST ISN'T BUSY

module _ (i : InnerValue) (busy : Bool) (h : IpRepr) (short : total_len h ≤ mtu_to i (destination_of h)) where
  v4_idle : (own : EthernetAddress) (o : Option Ipv4Address) (hop : Ipv4Address) → is_busy (solicit_v4 own o hop) ≡ false
  v4_idle own None hop = refl
  v4_idle own (Some source) hop = refl

  from_idle : (own : EthernetAddress) (hop : IpAddress) → is_busy (solicit_from own i hop) ≡ false
  from_idle own (Address.Ipv4 hop) = v4_idle own (source_v4 i.addresses hop) hop
  from_idle own (Address.Ipv6 hop) = refl

  on_idle : (hardware : HardwareAddress) (hop : IpAddress) → is_busy (solicit_on hardware i hop) ≡ false
  on_idle Hardware.Ip hop = refl
  on_idle (Hardware.Ethernet own) hop = from_idle own hop

  asks_idle : (may : Bool) (hop : IpAddress) → is_busy (solicit_if may i hop) ≡ false
  asks_idle true hop = on_idle i.hardware hop
  asks_idle false hop = refl

  link_idle : (l : LinkAddress) → is_busy (plan_by l i busy h) ≡ false
  link_idle (Link.Known to) =
      ap (λ (fits : Bool). is_busy (if fits then Way.Go to else long_plan busy to h)) (le-leb (total_len h) (mtu_to i (destination_of h)) short)
  link_idle Link.NoRoute = refl
  link_idle Link.Silent = refl
  link_idle Link.Unanswered = refl
  link_idle (Link.Unknown hop) = asks_idle (may_solicit i hop) hop

  plan_idle : is_busy (plan_of i busy h) ≡ false
  plan_idle = by (never_leaves i h) where
    by : (never : Bool) → is_busy (if never then Way.Drop else plan_by (link_address i (destination_of h)) i busy h) ≡ false
    by true = refl
    by false = link_idle (link_address i (destination_of h))

-- WHAT BECOMES OF THE PACKET

-- it left its socket, or the device refused
abbrev IsOut : Sent → Type 0
IsOut Outcome.Gone = Unit {0}
IsOut Outcome.Dropped = Unit {0}
IsOut Outcome.Refused = Unit {0}
IsOut Outcome.Waits = ⊥
IsOut Outcome.Busy = ⊥

-- or it waits for its next hop
abbrev IsOutOr : Bool → Sent → Type 0
IsOutOr searched sent = IsOut sent ⊎ ((sent ≡ Outcome.Waits) × (searched ≡ true))

abbrev no_one : Option Sent
no_one = None

own_turn : (plan : Plan) → is_out_of_turn None plan ≡ false
own_turn (Way.Ask q) = refl
own_turn Way.NoRoute = refl
own_turn Way.Wait = refl
own_turn Way.Drop = refl
own_turn Way.Busy = refl
own_turn (Way.Go to) = refl
own_turn (Way.Cut to) = refl

-- whose turn it is to be asked for doesn't count
pub no_turn : (i : InnerValue) (ps : List Place) → i.host_requirements ≡ true → turn_of i ps ≡ None
no_turn i ps many = ap (λ (b : Bool). if b then None else hop_of (next_awaited i ps)) many

module _ {D : Type 0} (moves : D → Move → D → Type 0) (x : Sender D) (p : PacketValue) (many : x.inner.host_requirements ≡ true)
    (bytes : is_segment p.payload ≡ false) (idle : is_busy (plan_at x p) ≡ false) where
  abbrev plan : Plan
  plan = plan_at x p

  held_out : (m : Meta) (given : Bool) (came : Sent) → outcome_by given (held None m x.inner (destination_of p.header) plan) ≡ Some came → IsOut came
  held_out m false came is = let same : Outcome.Refused ≡ came = (let both : Some Outcome.Refused ≡ Some came = is in cc) in subst IsOut same tt
  held_out m true came is = by (is_given_up m x.inner (destination_of p.header) plan) (is_out_of_turn None plan) (own_turn plan) is where
    by : (given_up other : Bool) → other ≡ false → (if given_up then Some Outcome.Dropped else if other then Some Outcome.Waits else None) ≡ Some came → IsOut came
    by true other none this = let same : Outcome.Dropped ≡ came = (let both : Some Outcome.Dropped ≡ Some came = this in cc) in subst IsOut same tt
    by false false none this = absurd (let never : no_one ≡ Some came = this in cc)
    by false true none this = clash none

  asked : (mid : D) (q : NeighborQuery) (y : Sender D) (came : Sent) → Asked moves mid x.inner q came y.device y.inner → IsOutOr true came
  asked mid q y Outcome.Waits goes = inr (refl, refl)
  asked mid q y Outcome.Refused goes = inl tt
  asked mid q y Outcome.Gone goes = absurd goes
  asked mid q y Outcome.Dropped goes = absurd goes
  asked mid q y Outcome.Busy goes = absurd goes

  whole : (mid : D) (d : Departure) (y : Sender D) (came : Sent) → WasSent moves mid x.inner p.header d came y.device y.inner → IsOut came
  whole mid d y Outcome.Gone goes = tt
  whole mid d y Outcome.Refused goes = tt
  whole mid d y Outcome.Waits goes = absurd goes
  whole mid d y Outcome.Dropped goes = absurd goes
  whole mid d y Outcome.Busy goes = absurd goes

  cut : (mid : D) (c : LeftValue) (y : Sender D) (came : Sent) → WasCut moves mid x.inner x.left c came y.device y.inner y.left → IsOut came
  cut mid c y Outcome.Gone goes = tt
  cut mid c y Outcome.Refused goes = tt
  cut mid c y Outcome.Waits goes = absurd goes
  cut mid c y Outcome.Dropped goes = absurd goes
  cut mid c y Outcome.Busy goes = absurd goes

  -- what has no route is given up at once
  routeless : (m : Meta) → held None m x.inner (destination_of p.header) Way.NoRoute ≡ None → ⊥
  routeless m none =
      let given_up : is_given_up m x.inner (destination_of p.header) Way.NoRoute ≡ true =
      or_first x.inner.host_requirements (has_waited m (destination_of p.header) lost_time x.inner.instant) many in
      let never : Some Outcome.Dropped ≡ no_one = sym (ap (λ (b : Bool). if b then Some Outcome.Dropped else no_one) given_up) ∙ none in cc

  out : (w : Plan) (mid : D) (m : Meta) (y : Sender D) (came : Sent) → is_busy w ≡ false → held None m x.inner (destination_of p.header) w ≡ None
      → IsTransmitted moves mid x.inner x.left p w came y.device y.inner y.left → IsOutOr (is_searched w) came
  out Way.Drop mid m y came free none goes = inl (subst IsOut (sym goes.0) tt)
  out Way.NoRoute mid m y came free none goes = absurd (routeless m none)
  out Way.Wait mid m y came free none goes = inr (goes.0, refl)
  out Way.Busy mid m y came free none goes = clash free
  out (Way.Ask q) mid m y came free none goes = asked mid q y came goes.0
  out (Way.Go to) mid m y came free none goes = inl (whole mid (Whole to (numbered x.inner p)) y came goes.0)
  out (Way.Cut to) mid m y came free none goes = inl (cut mid (cut_of x.inner to p) y came goes)

  came_out : (m : Meta) (y : Sender D) (came : Sent) → Leaves moves None x m p came y → IsOutOr (is_searched plan) came
  came_out m y came (inl rests) = inl (held_out m rests.0 came rests.4)
  came_out m y came (inr goes) = out plan goes.0 m y came idle goes.3 goes.2

  -- what waits is parked
  parked_out : (flag segment searched b : Bool) (came : Sent) → flag ≡ true → segment ≡ false → b ≡ (flag && (waits came && (searched && not segment)))
      → IsOutOr searched came → IsOut (outcome_of b came)
  parked_out flag segment searched true came now none is so = tt
  parked_out flag segment searched false came now none is (inl so) = so
  parked_out flag segment searched false came now none is (inr (wait, sought)) =
      clash (sym (is ∙ ap (λ (f : Bool). f && (waits came && (searched && not segment))) now ∙ ap (λ (s : Sent). waits s && (searched && not segment)) wait
      ∙ ap (λ (s : Bool). s && not segment) sought ∙ ap not none))

  leaves_out : (x' : Sender D) (m : Meta) (sent : Sent) → LeavesOrParks moves None x m p sent x' → IsOut sent
  leaves_out x' m sent goes = by (subst (λ (b : Bool). LeavesIf moves None b x m p sent x') many goes) where
    by : LeavesIf moves None true x m p sent x' → IsOut sent
    by (came, mid, leaves, outcome, after) =
        subst IsOut (sym outcome)
        (parked_out mid.inner.host_requirements (is_segment p.payload) (is_searched plan) (parks mid.inner p plan came) came
        (same_flag x.inner mid.inner (leaves_same moves None x mid m p came leaves) ∙ many) bytes refl (came_out m mid came leaves))

-- THE TURN

module _ {D : Type 0} (moves : D → Move → D → Type 0) (turn : Option IpAddress) (x x' : Sender D) (offering : Socket) (p : PacketValue) where
  -- the packet is offered, and leaves, stays or is parked
  pub record Offered (turned : Served) (o : Option (Item Socket)) : Type 0 where
    pub meta : Meta
    pub changed : Bool
    pub sent : Sent
    pub leaves : LeavesOrParks moves turn x meta p sent x'
    pub next : turned ≡ turned_by sent changed
    pub became : o ≡ Some (settled_by sent x.inner.instant (waits_until (plan_at x p) x'.inner) (destination_of p.header) (record { meta = meta; socket = offering }))

  module _ (s : Socket) (changed : Bool) (only : OffersOnly x.inner s changed offering p) (may : never_leaves x.inner p.header ≡ false) where
    sends : (meta : Meta) (item' : Item Socket) (turned : Served) → SendsBy moves turn (Some p) x (record { meta = meta; socket = offering }) changed turned x' item'
        → Offered turned (Some item')
    sends meta item' turned goes =
        let done : SendsAs moves turn p x (record { meta = meta; socket = offering }) changed turned x' item' =
        subst (λ (q : PacketValue). SendsAs moves turn q x (record { meta = meta; socket = offering }) changed turned x' item')
        (goes.1 ∙ source_stays x.inner p may) goes.3 in
        record { meta = meta; changed = changed; sent = done.0; leaves = done.1; next = done.2; became = ap (λ (it : Item Socket). Some it) done.3 }

    asks : (meta : Meta) (item' : Item Socket) (turned : Served) (s' : Socket) (answer : Answer.Offer) → Sockets.Offers (context_for x.inner s) s answer s'
        → Answers moves turn answer x (record { meta = meta; socket = s' }) turned x' item' → Offered turned (Some item')
    asks meta item' turned s' answer given goes =
        let both = only.asked answer s' given in
        let offers : Answers moves turn (Offer.Packet changed) x (record { meta = meta; socket = offering }) turned x' item' =
        subst (λ (y : Socket). Answers moves turn (Offer.Packet changed) x (record { meta = meta; socket = y }) turned x' item') both.1
        (subst (λ (a : Answer.Offer). Answers moves turn a x (record { meta = meta; socket = s' }) turned x' item') both.0 goes) in
        sends meta item' turned
        (subst (λ (o : Option PacketValue). SendsBy moves turn o x (record { meta = meta; socket = offering }) changed turned x' item') only.packet offers)

    turns : (meta : Meta) (item' : Item Socket) (turned : Served) → is_waiting x.inner meta ≡ false
        → TurnsIf moves turn (is_waiting x.inner meta) x (let_through x.inner (record { meta = meta; socket = s })) turned x' item' → Offered turned (Some item')
    turns meta item' turned ready goes =
        let let_in : Item Socket = let_through x.inner (record { meta = meta; socket = s }) in
        let asked : TurnsIf moves turn false x let_in turned x' item' =
        subst (λ (waits : Bool). TurnsIf moves turn waits x let_in turned x' item') ready goes in
        asks let_in.meta item' turned asked.1 asked.0 asked.2 asked.3

    pub item_turns : (meta : Meta) (o : Option (Item Socket)) (turned : Served) → is_waiting x.inner meta ≡ false
        → ItemTurns moves turn (Some (record { meta = meta; socket = s })) x turned x' o → Offered turned o
    item_turns meta None turned ready goes = absurd goes
    item_turns meta (Some item') turned ready goes = turns meta item' turned ready goes

next_is : (b c : Bool) → Turn.Next b ≡ Turn.Next c → b ≡ c
next_is b c same = cc

stops_not : (b c : Bool) → Turn.Stop b ≡ Turn.Next c → ⊥
stops_not b c same = cc

module _ {D : Type 0} (moves : D → Move → D → Type 0) (socket offering : Socket) (says : Bool) (p : PacketValue) (meta : Meta)
    (bytes : is_segment p.payload ≡ false) where
  -- the packet may leave this host whole, which the socket offers it when it asks
  record Can (i : InnerValue) : Type 0 where
    many : i.host_requirements ≡ true
    may : never_leaves i p.header ≡ false
    short : total_len p.header ≤ mtu_to i (destination_of p.header)
    only : OffersOnly i socket says offering p

  may_still : (i : InnerValue) (ident : ℕ) (silent : ℤ) (searches : List Search) (parking : ParkingValue) → never_leaves i p.header ≡ false
      → never_leaves (record i { ident = ident; neighbors = record i.neighbors { silent = silent; searches = searches }; parking = parking }) p.header ≡ false
  may_still i ident silent searches parking may = may

  short_still : (i : InnerValue) (ident : ℕ) (silent : ℤ) (searches : List Search) (parking : ParkingValue)
      → total_len p.header ≤ mtu_to i (destination_of p.header)
      → total_len p.header ≤ mtu_to (record i {
        ident = ident;
        neighbors = record i.neighbors { silent = silent; searches = searches };
        parking = parking;
      }) (destination_of p.header)
  short_still i ident silent searches parking short = short

  still : (i j : InnerValue) → IsSameHost i j → Can i → Can j
  still i j same can = record {
    many = same_flag i j same ∙ can.many;
    may = subst (λ (k : InnerValue). never_leaves k p.header ≡ false) (sym same)
        (may_still i j.ident j.neighbors.silent j.neighbors.searches (parking_from i j) can.may);
    short = subst (λ (k : InnerValue). total_len p.header ≤ mtu_to k (destination_of p.header)) (sym same)
        (short_still i j.ident j.neighbors.silent j.neighbors.searches (parking_from i j) can.short);
    only = only_still i j socket offering says p same can.only;
  }

  abbrev ours : Place
  ours = record { inner = Some (record { meta = meta; socket = socket }) }

  -- it is gone from its socket
  abbrev gone : Item Socket
  gone = record { meta = unmarked; socket = Sockets.settled true offering }

  record TurnEnds (old new : D) (turned : Served) (o : Option (Item Socket)) : Type 0 where
    all : List Move
    are : AreMoves moves all old new
    what : (list_any is_refused all ≡ true) ⊎ ((turned ≡ Turn.Next true) × (o ≡ Some gone))

  our_turn : (turn : Option IpAddress) (x x' : Sender D) (slot : Place) (turned : Served) → turn ≡ None → Can x.inner → is_waiting x.inner meta ≡ false
      → ServesSlot moves turn x ours turned x' slot → TurnEnds x.device x'.device turned slot.inner
  our_turn turn x x' slot turned none can ready goes =
      let through : Through moves (Next moves turned) x.device x'.device = slot_through moves turn x x' ours slot turned goes in
      let offered : Offered moves turn x x' offering p turned slot.inner =
      item_turns moves turn x x' offering p socket says can.only can.may meta slot.inner turned ready goes in
      record {
        all = through.all;
        are = through.are;
        what = by through.all offered.meta (waits_until (plan_at x p) x'.inner) offered.changed offered.sent
            (leaves_out moves x p can.many bytes (plan_idle x.inner (is_some x.left) p.header can.short) x' offered.meta offered.sent
            (subst (λ (o : Option IpAddress). LeavesOrParks moves o x offered.meta p offered.sent x') none offered.leaves))
            offered.next offered.became through.what;
      }
    where
      by : (all : List Move) (m : Meta) (until : ℤ) (b : Bool) (sent : Sent) → IsOut sent → turned ≡ turned_by sent b
          → slot.inner ≡ Some (settled_by sent x.inner.instant until (destination_of p.header) (record { meta = m; socket = offering }))
          → (list_any is_refused all ≡ true) ⊎ Next moves turned → (list_any is_refused all ≡ true) ⊎ ((turned ≡ Turn.Next true) × (slot.inner ≡ Some gone))
      by all m until b Outcome.Gone so next became what = inr (next, became)
      by all m until b Outcome.Dropped so next became what = inr (next, became)
      by all m until b Outcome.Refused so next became (inl refused) = inl refused
      by all m until b Outcome.Refused so next became (inr on) = absurd (stops_not b on.0 (sym next ∙ on.1))
      by all m until b Outcome.Waits so next became what = absurd so
      by all m until b Outcome.Busy so next became what = absurd so

  -- THE PASS

  record Ends (k : ℕ) (old : D) (e : Passed D) : Type 0 where
    all : List Move
    are : AreMoves moves all old e.sender.device
    what : (list_any is_refused all ≡ true) ⊎ ((e.changed ≡ true) × (slice_get e.slots k ≡ Some (slot_with (Some gone))))

  kept : (turn : Option IpAddress) (s : Sender D) (before : List Place) (changed : Bool) (ps : List Place) (e : Passed D)
      → Pass moves turn s before changed ps e → (more : List Place) × (e.slots ≡ before ++ more)
  kept turn s before changed [] e ends = ([], ap (λ (x : Passed D). x.slots) ends ∙ sym (append-nil before))
  kept turn s before changed (p ∷ ps) e (inl goes) =
      let more = kept turn goes.1 (before ++ goes.2 ∷ []) (changed || goes.0) ps e goes.4 in
      (goes.2 ∷ more.0, more.1 ∙ append_assoc before (goes.2 ∷ []) more.0)
  kept turn s before changed (p ∷ ps) e (inr stops) = (stops.2 ∷ ps, ap (λ (x : Passed D). x.slots) stops.4)

  said : (turn : Option IpAddress) (s : Sender D) (before : List Place) (changed : Bool) (ps : List Place) (e : Passed D)
      → Pass moves turn s before changed ps e → changed ≡ true → e.changed ≡ true
  said turn s before changed [] e ends is = ap (λ (x : Passed D). x.changed) ends ∙ is
  said turn s before changed (p ∷ ps) e (inl goes) is = said turn goes.1 (before ++ goes.2 ∷ []) (changed || goes.0) ps e goes.4 (or_first changed goes.0 is)
  said turn s before changed (p ∷ ps) e (inr stops) is = ap (λ (x : Passed D). x.changed) stops.4 ∙ or_first changed stops.0 is

  at_our_slot : (turn : Option IpAddress) (s mid : Sender D) (before : List Place) (changed b : Bool) (p' : Place) (ps : List Place) (k : ℕ) (e : Passed D)
      → TurnEnds s.device mid.device (Turn.Next b) p'.inner → k ≡ length before → Pass moves turn mid (before ++ p' ∷ []) (changed || b) ps e → Ends k s.device e
  at_our_slot turn s mid before changed b p' ps k e took is goes =
      let rest : Moved moves mid.device e.sender.device = pass_through moves turn mid (before ++ p' ∷ []) (changed || b) ps e goes in
      record {
        all = took.all ++ rest.all;
        are = joined moves took.all rest.all s.device mid.device e.sender.device took.are rest.are;
        what = by took.all rest.all took.what;
      }
    where
      by : (xs ys : List Move) → (list_any is_refused xs ≡ true) ⊎ ((Turn.Next b ≡ Turn.Next true) × (p'.inner ≡ Some gone))
          → (list_any is_refused (xs ++ ys) ≡ true) ⊎ ((e.changed ≡ true) × (slice_get e.slots k ≡ Some (slot_with (Some gone))))
      by xs ys (inl refused) = inl (refused_before xs ys refused)
      by xs ys (inr went) =
          let tail = kept turn mid (before ++ p' ∷ []) (changed || b) ps e goes in
          let here : slice_get e.slots k ≡ Some p' =
          ap (λ (all : List Place). slice_get all k) (tail.1 ∙ append_assoc before (p' ∷ []) tail.0)
          ∙ ap (λ (n : ℕ). slice_get (before ++ p' ∷ tail.0) n) is ∙ stands_at before tail.0 p' in
          inr (
            said turn mid (before ++ p' ∷ []) (changed || b) ps e goes (or_true changed b (next_is b true went.0)),
            here ∙ ap (λ (o : Option (Item Socket)). Some (slot_with o)) went.1,
          )

  stopped : (s mid : Sender D) (b : Bool) (p' : Place) (k : ℕ) (e : Passed D) → TurnEnds s.device mid.device (Turn.Stop b) p'.inner
      → e.sender.device ≡ mid.device → Ends k s.device e
  stopped s mid b p' k e took is = record {
    all = took.all;
    are = subst (λ (x : D). AreMoves moves took.all s.device x) (sym is) took.are;
    what = by took.all took.what;
  }
    where
      by : (xs : List Move) → (list_any is_refused xs ≡ true) ⊎ ((Turn.Stop b ≡ Turn.Next true) × (p'.inner ≡ Some gone))
          → (list_any is_refused xs ≡ true) ⊎ ((e.changed ≡ true) × (slice_get e.slots k ≡ Some (slot_with (Some gone))))
      by xs (inl refused) = inl refused
      by xs (inr went) = absurd (stops_not b true went.0)

  is_ours : (q : Place) → Some q ≡ Some ours → q ≡ ours
  is_ours q stands = cc

  none_more : (m : ℕ) → m + 0 ≡ m
  none_more m = omega arith

  one_more : (xs : List Place) (x : Place) (n : ℕ) → length xs + suc n ≡ length (xs ++ x ∷ []) + n
  one_more xs x n = let both = length-append xs (x ∷ []) in omega (arith, both)

  pass_goes : (turn : Option IpAddress) (s : Sender D) (before : List Place) (changed : Bool) (ps : List Place) (n k : ℕ) (e : Passed D) → turn ≡ None
      → slice_get ps n ≡ Some ours → k ≡ length before + n → Can s.inner → is_waiting s.inner meta ≡ false
      → Pass moves turn s before changed ps e → Ends k s.device e
  pass_goes turn s before changed [] n k e none stands is can ready goes = absurd (let never : no_slot ≡ Some ours = stands in cc)
  pass_goes turn s before changed (q ∷ ps) zero k e none stands is can ready (inl goes) =
      at_our_slot turn s goes.1 before changed goes.0 goes.2 ps k e
      (our_turn turn s goes.1 goes.2 (Turn.Next goes.0) none can ready
      (subst (λ (slot : Place). ServesSlot moves turn s slot (Turn.Next goes.0) goes.1 goes.2) (is_ours q stands) goes.3))
      (is ∙ none_more (length before)) goes.4
  pass_goes turn s before changed (q ∷ ps) zero k e none stands is can ready (inr stops) =
      stopped s stops.1 stops.0 stops.2 k e
      (our_turn turn s stops.1 stops.2 (Turn.Stop stops.0) none can ready
      (subst (λ (slot : Place). ServesSlot moves turn s slot (Turn.Stop stops.0) stops.1 stops.2) (is_ours q stands) stops.3))
      (ap (λ (x : Passed D). x.sender.device) stops.4)
  pass_goes turn s before changed (q ∷ ps) (suc n) k e none stands is can ready (inl goes) =
      let took : Through moves (Next moves (Turn.Next goes.0)) s.device goes.1.device = slot_through moves turn s goes.1 q goes.2 (Turn.Next goes.0) goes.3 in
      let same : IsSameHost s.inner goes.1.inner = slot_same moves turn s goes.1 q goes.2 (Turn.Next goes.0) goes.3 in
      let rest : Ends k goes.1.device e =
      pass_goes turn goes.1 (before ++ goes.2 ∷ []) (changed || goes.0) ps n k e none stands (is ∙ one_more before goes.2 n)
      (still s.inner goes.1.inner same can) (waits_still s.inner goes.1.inner meta same ready) goes.4 in
      record {
        all = took.all ++ rest.all;
        are = joined moves took.all rest.all s.device goes.1.device e.sender.device took.are rest.are;
        what = later took.all rest.all rest.what;
      }
    where
      later : (xs ys : List Move) → (list_any is_refused ys ≡ true) ⊎ ((e.changed ≡ true) × (slice_get e.slots k ≡ Some (slot_with (Some gone))))
          → (list_any is_refused (xs ++ ys) ≡ true) ⊎ ((e.changed ≡ true) × (slice_get e.slots k ≡ Some (slot_with (Some gone))))
      later xs ys (inl refused) = inl (refused_following xs ys refused)
      later xs ys (inr went) = inr went
  pass_goes turn s before changed (q ∷ ps) (suc n) k e none stands is can ready (inr stops) =
      let took : Through moves (Next moves (Turn.Stop stops.0)) s.device stops.1.device =
      slot_through moves turn s stops.1 q stops.2 (Turn.Stop stops.0) stops.3 in
      record {
        all = took.all;
        are = subst (λ (x : D). AreMoves moves took.all s.device x) (sym (ap (λ (x : Passed D). x.sender.device) stops.4)) took.are;
        what = inl (refused stops.0 took.all took.what);
      }
    where
      refused : (b : Bool) (xs : List Move) → (list_any is_refused xs ≡ true) ⊎ ((c : Bool) × (Turn.Stop b ≡ Turn.Next c)) → list_any is_refused xs ≡ true
      refused b xs (inl is) = is
      refused b xs (inr never) = absurd (stops_not b never.0 never.1)

  -- THE STEP

  egress_goes : (s : Sender D) (ps : List Place) (n : ℕ) (e : Passed D) → slice_get ps n ≡ Some ours → Can s.inner → is_waiting s.inner meta ≡ false
      → Egress moves s ps e → Ends n s.device e
  egress_goes s ps n e stands can ready (inl rests) =
      let no : Through moves (false ≡ true) s.device rests.0.device = clears_through moves s.inner.host_requirements s rests.0 false rests.1 in
      record {
        all = no.all;
        are = subst (λ (x : D). AreMoves moves no.all s.device x) (sym (ap (λ (x : Passed D). x.sender.device) rests.2)) no.are;
        what = by no.all no.what;
      }
    where
      by : (xs : List Move) → (list_any is_refused xs ≡ true) ⊎ (false ≡ true)
          → (list_any is_refused xs ≡ true) ⊎ ((e.changed ≡ true) × (slice_get e.slots n ≡ Some (slot_with (Some gone))))
      by xs (inl refused) = inl refused
      by xs (inr is) = clash (sym is)
  egress_goes s ps n e stands can ready (inr goes) =
      let first : Through moves (true ≡ true) s.device goes.0.device = clears_through moves s.inner.host_requirements s goes.0 true goes.1 in
      let same : IsSameHost s.inner goes.0.inner = clears_all_same moves s goes.0 true goes.1 in
      let can_then : Can goes.0.inner = still s.inner goes.0.inner same can in
      let rest : Ends n goes.0.device e =
      pass_goes (turn_of goes.0.inner ps) goes.0 [] false ps n n e (no_turn goes.0.inner ps can_then.many) stands (let none : (m : ℕ) → m ≡ 0 + m = λ m. omega arith in none n)
      can_then (waits_still s.inner goes.0.inner meta same ready) goes.2 in
      record {
        all = first.all ++ rest.all;
        are = joined moves first.all rest.all s.device goes.0.device e.sender.device first.are rest.are;
        what = by first.all rest.all rest.what;
      }
    where
      by : (xs ys : List Move) → (list_any is_refused ys ≡ true) ⊎ ((e.changed ≡ true) × (slice_get e.slots n ≡ Some (slot_with (Some gone))))
          → (list_any is_refused (xs ++ ys) ≡ true) ⊎ ((e.changed ≡ true) × (slice_get e.slots n ≡ Some (slot_with (Some gone))))
      by xs ys (inl refused) = inl (refused_following xs ys refused)
      by xs ys (inr went) = inr went

pub no_segment : (cx : ContextValue) (v : UdpValue) (d : UdpMetadata × List ℕ) (p : PacketValue)
    → TakesDatagram cx v.settings d p → is_segment p.payload ≡ false
no_segment cx v d p takes = ap (λ (q : PacketValue). is_segment q.payload) takes.1

pub step_leaves : {D : Type 0} (moves : D → Move → D → Type 0) (t : ℤ) (s s' : State D) (answer : Option Bool) (n : ℕ) (v : UdpValue)
    (d : UdpMetadata × List ℕ) (more : List (UdpMetadata × List ℕ)) (p : PacketValue) → s.host.inner.host_requirements ≡ true
    → HasTurn (at_instant t s.host.inner) s.slots n v → contents v.queued ≡ d ∷ more → TakesDatagram (context_of (at_instant t s.host.inner)) v.settings d p
    → never_leaves (at_instant t s.host.inner) p.header ≡ false
    → total_len p.header ≤ mtu_to (at_instant t s.host.inner) (destination_of p.header) → EgressStep moves t s answer s'
    → LeavesQueue moves n v s.device s'.device answer s'.slots
step_leaves {D} moves t s s' answer n v d more p many turn queued takes may short step =
    let i : InnerValue = at_instant t s.host.inner in
    let ends : Ends moves (Kind.Udp v) (offering_with p v) false p turn.meta (no_segment (context_of i) v d p takes) n s.device step.0 =
    egress_goes moves (Kind.Udp v) (offering_with p v) false p turn.meta (no_segment (context_of i) v d p takes) (sending t s) s.slots n step.0 turn.stands
    (record { many = many; may = may; short = short; only = offers_it i v d p takes more queued }) turn.ready step.1 in
    record {
      all = ends.all;
      are = subst (λ (x : D). AreMoves moves ends.all s.device x) (sym (ap (λ (x : State D). x.device) step.2)) ends.are;
      what = by ends.all ends.what;
    }
  where
    by : (xs : List Move)
        → (list_any is_refused xs ≡ true) ⊎ ((step.0.changed ≡ true)
        × (slice_get step.0.slots n ≡ Some (slot_with (Some (record { meta = unmarked; socket = Sockets.settled true (offering_with p v) })))))
        → (list_any is_refused xs ≡ true) ⊎ HasLeftQueue n v answer s'.slots
    by xs (inl refused) = inl refused
    by xs (inr went) = inr (record {
      new = Datagrams.settled true (left_with (Some p) v);
      stands = ap (λ (x : State D). slice_get x.slots n) step.2 ∙ went.1;
      settings = refl;
      rest = contents-without_first (unpadded v.queued) ∙ ap (drop 1) (contents-unpadded v.queued);
      told = step.3 ∙ ap if_changed went.0;
    })
