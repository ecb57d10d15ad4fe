-- With host requirements the next hop of a socket's packet is asked for in a step of the egress path, whoever else is.
use Rattle.std.proofs.Common.{◌≡◌, ◌≤◌, ◌<◌, ℕ, zero, suc, ◌+◌, Bool, true, false, not, ◌&&◌, ◌||◌, ◌⊎◌, inl, inr, ℤ, List, [], ◌∷◌, ◌++◌, length, Option, Some, None}
use Rattle.std.proofs.Common.{is_some, refl, sym, ap, ◌∙◌, subst, arith}
use Rattle.std.specs.Prelude.{nat_lt, slice_get}
use Rattle.std.specs.List.{list_any}
use Rattle.net_base.specs.Device.{Move, Allowed, Emitted, Denied}
use Rattle.ip_wire.specs.AddressTests.{is_same_address}
use Rattle.ip_wire.specs.Ip.{destination_of}
use Rattle.ip_wire.specs.IpAddress.{IpAddress}
use Rattle.ip_wire.specs.IpRepr.{IpRepr}
use Rattle.ip_wire.specs.IpRepr.TheVariants as Ip
use Rattle.net_base.specs.Packets.{contents}
use Rattle.socket_datagram.specs.Udp.{UdpValue, TakesDatagram}
use Rattle.socket_datagram.specs.declared.udp.UdpMetadata.{UdpMetadata}
use Rattle.iface_ingress.specs.Offer as Answer
use Rattle.iface_ingress.specs.Offer.TheVariants as Offer
use Rattle.iface_ingress.specs.Packet.{PacketValue}
use Rattle.iface_ingress.specs.Socket.{Socket}
use Rattle.iface_ingress.specs.Socket.TheVariants as Kind
use Rattle.iface_ingress.specs.Sockets.{offered_by}
use Rattle.iface_tables.specs.Inner.{InnerValue, at_instant, context_of, is_crowded, link_address}
use Rattle.iface_tables.specs.Inner.{with_next_ident, with_packet_parked, with_request}
use Rattle.iface_tables.specs.Parking.{ParkedValue, ParkingValue, empty_parking}
use Rattle.iface_tables.specs.declared.link.LinkAddress.TheVariants as Link
use Rattle.iface_egress.specs.Departure as Departures
use Rattle.iface_egress.specs.Departure.{Departure, target_of}
use Rattle.iface_egress.specs.Fragments.{LeftValue, departure_from}
use Rattle.iface_egress.specs.IsTransmitted.{Asked, IsTransmitted, WasCut, WasSent, after_header, cut_of, frame_len_of, frame_of, numbered}
use Rattle.iface_egress.specs.Parked.{GoesOn, ServesEach, ServesParked, lent, packet_in, parks, sender_after}
use Rattle.iface_egress.specs.Plan.{may_solicit, never_leaves, plan_of}
use Rattle.iface_egress.specs.declared.egress_path.Sent.{Sent}
use Rattle.iface_egress.specs.declared.egress_path.Sent.TheVariants as Outcome
use Rattle.iface_egress.specs.declared.frame.NeighborQuery.{NeighborQuery}
use Rattle.iface_egress.specs.declared.plan.Plan.{Plan}
use Rattle.iface_egress.specs.declared.plan.Plan.TheVariants as Way
use Rattle.iface_egress.specs.declared.socket_meta.Meta.{Meta}
use Rattle.iface_egress.specs.declared.socket_set.Item.{Item}
use Rattle.iface_egress.specs.declared.socket_set.SocketStorage.{SocketStorage}
use Rattle.interface.specs.Awaited.{turn_of}
use Rattle.interface.specs.Egress.{EgressStep, sending}
use Rattle.interface.specs.EgressPath.{ClearsIf, Egress}
use Rattle.interface.specs.Host.{Sender}
use Rattle.interface.specs.Pass.{Pass, Passed}
use Rattle.interface.specs.SameHost.{IsSameHost}
use Rattle.interface.specs.Serve.{Answers, ItemTurns, Leaves, LeavesIf, LeavesOrParks, SendsBy, ServesSlot, TurnsIf, held, is_waiting, let_through, outcome_by, plan_at}
use Rattle.interface.specs.State.{State}
use Rattle.interface.specs.declared.serve.Served.{Served}
use Rattle.interface.specs.declared.serve.Served.TheVariants as Turn
use Rattle.interface.proofs.Parked.{HasLeft, left_by}
use Rattle.interface.proofs.SameHost.{clears_all_same, is_transmitted_same, same_flag, same_parked, same_then, same_where, slot_same}
use Rattle.proof_stack.specs.Progress.Exchanged.{AsksFor}
use Rattle.proof_stack.specs.Progress.Moves.{AreMoves, is_refused}
use Rattle.proof_stack.specs.Progress.NeighborResolution.{IsFrom}
use Rattle.proof_stack.specs.Progress.Parked.{IsAskedForAtOnce}
use Rattle.proof_stack.specs.Progress.Queued.{HasTurn}
use Rattle.proof_stack.proofs.Polls.AnyLeave.{OffersOnly}
use Rattle.proof_stack.proofs.Polls.AnyTurn.{Moved, Next, Refused, Through, cleared, clears_through, each_through, pass_through, slot_through}
use Rattle.proof_stack.proofs.Polls.Asks.{held_none, plan_asks, plan_from}
use Rattle.proof_stack.proofs.Polls.First.{same_address}
use Rattle.proof_stack.proofs.Polls.Goes.{only_still}
use Rattle.proof_stack.proofs.Polls.LeavesQueue.{Offered, item_turns, no_turn}
use Rattle.proof_stack.proofs.Polls.OurLeave.{offering_with, offers_it}
use Rattle.proof_stack.proofs.Polls.Passes.{clears_same}
use Rattle.proof_stack.proofs.Polls.Walks.{joined, refused_before, refused_following, sends_before, sends_following}
use Rattle.proof_stack.proofs.Polls.Ways.{waits_still}
use Rattle.proof_stack.proofs.Polls.StillUnknown.{IsUnknown, IsVia, asks_then, link_then, lookup_same, never_then, one_more_asked, source_then, via_of}

abbrev Place : Type 0
Place = SocketStorage Socket

abbrev no_slot : Option Place
no_slot = None

clash : {X : Type 0} → true ≡ false → X
clash {X} e = absurd cc

-- A PACKET GOES ITS WAY

module _ {D : Type 0} (moves : D → Move → D → Type 0) (i : InnerValue) (to hop : IpAddress) (many : i.host_requirements ≡ true)
    (via : IsVia i to hop) where
  -- the hop isn't known, and may be asked for; and no more than so many others are asked for
  record Stays (c : ℕ) (j : InnerValue) : Type 0 where
    same : IsSameHost i j
    unknown : IsUnknown j hop
    few : length j.neighbors.searches ≤ c
    room : c < j.neighbors.search_room

  -- a question for it went, or the device refused
  record Asks (old new : D) : Type 0 where
    all : List Move
    are : AreMoves moves all old new
    what : (list_any is_refused all ≡ true) ⊎ AsksFor i hop all

  -- or all is as it was
  record Goes (c : ℕ) (old new : D) (j : InnerValue) : Type 0 where
    all : List Move
    are : AreMoves moves all old new
    what : ((list_any is_refused all ≡ true) ⊎ AsksFor i hop all) ⊎ Stays c j

  abbrev Unit1 : ℕ → Sender D → Sender D → Type 0
  Unit1 c x y = Goes c x.device y.device y.inner

  flag : (c : ℕ) (j : InnerValue) → Stays c j → j.host_requirements ≡ true
  flag c j stays = same_flag i j stays.same ∙ many

  more : (c m : ℕ) (j : InnerValue) → c ≤ m → m < j.neighbors.search_room → Stays c j → Stays m j
  more c m j up below stays = record { same = stays.same; unknown = stays.unknown; few = let few = stays.few in omega (arith, few, up); room = below }

  numbered_stays : (c ident : ℕ) (j : InnerValue) → IsSameHost i (record j { ident = ident }) → Stays c j → Stays c (record j { ident = ident })
  numbered_stays c ident j same stays = record { same = same; unknown = stays.unknown; few = stays.few; room = stays.room }

  parked_stays : (c : ℕ) (k : ParkingValue) (j : InnerValue) → Stays c j → Stays c (record j { parking = k })
  parked_stays c k j stays = record {
    same = same_then i j (record j { parking = k }) stays.same (same_parked j k (flag c j stays));
    unknown = stays.unknown;
    few = stays.few;
    room = stays.room;
  }

  asked_stays : (c : ℕ) (other : IpAddress) (j : InnerValue) → is_same_address other hop ≡ false → IsSameHost i (with_request j other)
      → c + 1 < j.neighbors.search_room → Stays c j → Stays (c + 1) (with_request j other)
  asked_stays c other j apart same below stays =
      let few : length j.neighbors.searches + 1 < j.neighbors.search_room = (let now = stays.few in omega (arith, now, below)) in record {
        same = same;
        unknown = lookup_same j other hop (flag c j stays) apart few ∙ stays.unknown;
        few = let grew = one_more_asked j.neighbors other j.instant few in let now = stays.few in omega (arith, grew, now);
        room = below;
      }

  -- of moves of others before it, and behind it
  asks_first : (ys : List Move) (old mid new : D) → Asks old mid → AreMoves moves ys mid new → Asks old new
  asks_first ys old mid new first are = record {
    all = first.all ++ ys;
    are = joined moves first.all ys old mid new first.are are;
    what = by first.all first.what;
  }
    where
      by : (xs : List Move) → (list_any is_refused xs ≡ true) ⊎ AsksFor i hop xs → (list_any is_refused (xs ++ ys) ≡ true) ⊎ AsksFor i hop (xs ++ ys)
      by xs (inl refused) = inl (refused_before xs ys refused)
      by xs (inr asks) = inr (record {
        question = asks.question;
        from = asks.from;
        sent = sends_before (frame_of i (Departures.Asks asks.question)) xs ys asks.sent;
        whom = asks.whom;
      })

  asks_later_on : (xs : List Move) (old mid new : D) → AreMoves moves xs old mid → Asks mid new → Asks old new
  asks_later_on xs old mid new are rest = record {
    all = xs ++ rest.all;
    are = joined moves xs rest.all old mid new are rest.are;
    what = by rest.all rest.what;
  }
    where
      by : (ys : List Move) → (list_any is_refused ys ≡ true) ⊎ AsksFor i hop ys → (list_any is_refused (xs ++ ys) ≡ true) ⊎ AsksFor i hop (xs ++ ys)
      by ys (inl refused) = inl (refused_following xs ys refused)
      by ys (inr asks) = inr (record {
        question = asks.question;
        from = asks.from;
        sent = sends_following (frame_of i (Departures.Asks asks.question)) xs ys asks.sent;
        whom = asks.whom;
      })

  goes_later_on : (c : ℕ) (xs : List Move) (old mid new : D) (j : InnerValue) → AreMoves moves xs old mid → Goes c mid new j → Goes c old new j
  goes_later_on c xs old mid new j are rest = by rest.what where
    by : ((list_any is_refused rest.all ≡ true) ⊎ AsksFor i hop rest.all) ⊎ Stays c j → Goes c old new j
    by (inl so) =
        let asks : Asks old new = asks_later_on xs old mid new are (record { all = rest.all; are = rest.are; what = so }) in
        record { all = asks.all; are = asks.are; what = inl asks.what }
    by (inr stays) = record { all = xs ++ rest.all; are = joined moves xs rest.all old mid new are rest.are; what = inr stays }

  -- one thing, and then another
  and_then : (c m : ℕ) (old mid new : D) (j k : InnerValue) → Goes c old mid j → Moved moves mid new → (Stays c j → Goes m mid new k) → Goes m old new k
  and_then c m old mid new j k first rest on = by first.what where
    by : ((list_any is_refused first.all ≡ true) ⊎ AsksFor i hop first.all) ⊎ Stays c j → Goes m old new k
    by (inl so) =
        let asks : Asks old new = asks_first rest.all old mid new (record { all = first.all; are = first.are; what = so }) rest.are in
        record { all = asks.all; are = asks.are; what = inl asks.what }
    by (inr stays) = goes_later_on m first.all old mid new k first.are (on stays)

  module _ (c : ℕ) (x y : Sender D) (now : Stays c x.inner) (below : c + 1 < x.inner.neighbors.search_room) where
    abbrev Ends : Type 0
    Ends = Unit1 (c + 1) x y

    still : Stays (c + 1) x.inner
    still = more c (c + 1) x.inner (omega arith) below now

    still_where : y.inner ≡ x.inner → Stays (c + 1) y.inner
    still_where is = subst (Stays (c + 1)) (sym is) still

    unmoved : y ≡ x → Ends
    unmoved is = record { all = []; are = ap (λ (z : Sender D). z.device) is; what = inr (still_where (ap (λ (z : Sender D). z.inner) is)) }

    no_leave : moves x.device (Allowed x.inner.instant false) y.device → Ends
    no_leave move = record { all = Allowed x.inner.instant false ∷ []; are = (y.device, move, refl); what = inl (inl refl) }

    left_alone : moves x.device (Allowed x.inner.instant true) y.device → y.inner ≡ x.inner → Ends
    left_alone move is = record { all = Allowed x.inner.instant true ∷ []; are = (y.device, move, refl); what = inr (still_where is) }

    module _ (mid : D) (leave : moves x.device (Allowed x.inner.instant true) mid) where
      none_went : y.device ≡ mid → y.inner ≡ x.inner → Ends
      none_went at is = left_alone (subst (λ (d : D). moves x.device (Allowed x.inner.instant true) d) (sym at) leave) is

      denied : (len : ℕ) → moves mid (Denied len) y.device → Ends
      denied len move = record {
        all = Allowed x.inner.instant true ∷ Denied len ∷ [];
        are = (mid, leave, (y.device, move, refl));
        what = inl (inl refl);
      }

      went : (frame : List ℕ) → moves mid (Emitted frame) y.device → Stays (c + 1) y.inner → Ends
      went frame move stays = record {
        all = Allowed x.inner.instant true ∷ Emitted frame ∷ [];
        are = (mid, leave, (y.device, move, refl));
        what = inr stays;
      }

      -- a question for whomever
      asked : (q : NeighborQuery) (sent : Sent) → IsFrom x.inner.hardware x.inner.addresses q → IsSameHost x.inner y.inner
          → Asked moves mid x.inner q sent y.device y.inner → Ends
      asked q Outcome.Waits from same goes = by (is_same_address (target_of q) hop) refl where
        by : (b : Bool) → is_same_address (target_of q) hop ≡ b → Ends
        by true is = record {
          all = Allowed x.inner.instant true ∷ Emitted (frame_of x.inner (Departures.Asks q)) ∷ [];
          are = (mid, leave, (y.device, goes.0.0, refl));
          what = inl (inr (asks_then i x.inner to hop via now.same (Allowed x.inner.instant true ∷ Emitted (frame_of x.inner (Departures.Asks q)) ∷ [])
              (record { question = q; from = from; sent = inr (inl refl); whom = same_address (target_of q) hop is })));
        }
        by false apart =
            went (frame_of x.inner (Departures.Asks q)) goes.0.0
            (subst (Stays (c + 1)) (sym goes.1)
            (asked_stays c (target_of q) x.inner apart (subst (IsSameHost i) goes.1 (same_then i x.inner y.inner now.same same)) below now))
      asked q Outcome.Refused from same goes = denied (frame_len_of x.inner (Departures.Asks q)) goes.0
      asked q Outcome.Gone from same goes = absurd goes
      asked q Outcome.Dropped from same goes = absurd goes
      asked q Outcome.Busy from same goes = absurd goes

      header_stays : (h : IpRepr) → IsSameHost x.inner (after_header h x.inner) → Stays (c + 1) (after_header h x.inner)
      header_stays (Ip.Ipv4 v) same =
          numbered_stays (c + 1) (after_header (Ip.Ipv4 v) x.inner).ident x.inner (same_then i x.inner (after_header (Ip.Ipv4 v) x.inner) now.same same) still
      header_stays (Ip.Ipv6 v) same = still

      whole : (h : IpRepr) (d : Departure) (sent : Sent) → IsSameHost x.inner y.inner → WasSent moves mid x.inner h d sent y.device y.inner → Ends
      whole h d Outcome.Gone same goes =
          went (frame_of x.inner d) goes.0.0 (subst (Stays (c + 1)) (sym goes.1) (header_stays h (subst (IsSameHost x.inner) goes.1 same)))
      whole h d Outcome.Refused same goes = denied (frame_len_of x.inner d) goes.0
      whole h d Outcome.Waits same goes = absurd goes
      whole h d Outcome.Dropped same goes = absurd goes
      whole h d Outcome.Busy same goes = absurd goes

      cut : (l : LeftValue) (sent : Sent) → IsSameHost x.inner y.inner → WasCut moves mid x.inner x.left l sent y.device y.inner y.left → Ends
      cut l Outcome.Gone same goes =
          went (frame_of x.inner (departure_from x.inner l)) goes.0.0
          (subst (Stays (c + 1)) (sym goes.1)
          (numbered_stays (c + 1) (with_next_ident x.inner).ident x.inner
          (subst (IsSameHost i) goes.1 (same_then i x.inner y.inner now.same same)) still))
      cut l Outcome.Refused same goes = denied (frame_len_of x.inner (departure_from x.inner l)) goes.0
      cut l Outcome.Waits same goes = absurd goes
      cut l Outcome.Dropped same goes = absurd goes
      cut l Outcome.Busy same goes = absurd goes

      out_by : (p : PacketValue) (plan : Plan) (sent : Sent) → plan_of x.inner (is_some x.left) p.header ≡ plan → IsSameHost x.inner y.inner
          → IsTransmitted moves mid x.inner x.left p plan sent y.device y.inner y.left → Ends
      out_by p Way.Drop sent is same goes = none_went goes.1.0 goes.1.1
      out_by p Way.NoRoute sent is same goes = none_went goes.1.0 goes.1.1
      out_by p Way.Wait sent is same goes = none_went goes.1.0 goes.1.1
      out_by p Way.Busy sent is same goes = none_went goes.1.0 goes.1.1
      out_by p (Way.Ask q) sent is same goes = asked q sent (plan_from x.inner (is_some x.left) p.header q is) same goes.0
      out_by p (Way.Go at) sent is same goes = whole p.header (Departures.Whole at (numbered x.inner p)) sent same goes.0
      out_by p (Way.Cut at) sent is same goes = cut (cut_of x.inner at p) sent same goes

      out : (p : PacketValue) (sent : Sent) → IsTransmitted moves mid x.inner x.left p (plan_of x.inner (is_some x.left) p.header) sent y.device y.inner y.left
          → Ends
      out p sent goes =
          out_by p (plan_of x.inner (is_some x.left) p.header) sent refl
          (is_transmitted_same moves mid y.device x.inner y.inner x.left y.left p (is_some x.left) sent goes) goes

    -- one of a socket
    leaves : (turn : Option IpAddress) (m : Meta) (p : PacketValue) (sent : Sent) → Leaves moves turn x m p sent y → Ends
    leaves turn m p sent (inl (given, move, is, left, outcome)) = by given move where
      by : (b : Bool) → moves x.device (Allowed x.inner.instant b) y.device → Ends
      by false denies = no_leave denies
      by true gives = left_alone gives is
    leaves turn m p sent (inr goes) = out goes.0 goes.1 p sent goes.2

    -- one that waited
    has_left : (p : PacketValue) (sent : Sent) → HasLeft moves x p sent y → Ends
    has_left p sent (inl is) = unmoved is
    has_left p sent (inr (inl refused)) = no_leave refused.0
    has_left p sent (inr (inr goes)) = out goes.0 goes.1 p sent goes.2

  -- A SOCKET'S TURN

  and_parked : (c : ℕ) (x y z : Sender D) (b : Bool) (p : PacketValue) → z ≡ sender_after b p y → Unit1 c x y → Unit1 c x z
  and_parked c x y z b p is ends = record {
    all = ends.all;
    are = subst (λ (d : D). AreMoves moves ends.all x.device d) (sym (ap (λ (v : Sender D). v.device) is)) ends.are;
    what = by ends.what;
  }
    where
      stays : (b : Bool) → Stays c y.inner → Stays c (sender_after b p y).inner
      stays true so = parked_stays c (with_packet_parked y.inner p).parking y.inner so
      stays false so = so

      by : ((list_any is_refused ends.all ≡ true) ⊎ AsksFor i hop ends.all) ⊎ Stays c y.inner
          → ((list_any is_refused ends.all ≡ true) ⊎ AsksFor i hop ends.all) ⊎ Stays c z.inner
      by (inl so) = inl so
      by (inr so) = inr (subst (λ (v : Sender D). Stays c v.inner) (sym is) (stays b so))

  module _ (turn : Option IpAddress) (c : ℕ) (x y : Sender D) (now : Stays c x.inner) (below : c + 1 < x.inner.neighbors.search_room) where
    leaves_if : (flagged : Bool) (m : Meta) (p : PacketValue) (sent : Sent) → LeavesIf moves turn flagged x m p sent y → Unit1 (c + 1) x y
    leaves_if false m p sent goes = leaves c x y now below turn m p sent goes
    leaves_if true m p sent (came, mid, goes, outcome, after) =
        and_parked (c + 1) x mid y (parks mid.inner p (plan_at x p) came) p after (leaves c x mid now below turn m p came goes)

    sends : (o : Option PacketValue) (item item' : Item Socket) (changed : Bool) (turned : Served) → SendsBy moves turn o x item changed turned y item'
        → Unit1 (c + 1) x y
    sends None item item' changed turned goes = absurd goes
    sends (Some p) item item' changed turned goes = leaves_if x.inner.host_requirements item.meta goes.0 goes.3.0 goes.3.1

    answers : (answer : Answer.Offer) (item item' : Item Socket) (turned : Served) → Answers moves turn answer x item turned y item' → Unit1 (c + 1) x y
    answers (Offer.Silent changed) item item' turned goes = unmoved c x y now below goes.1
    answers (Offer.Packet changed) item item' turned goes = sends (offered_by item.socket) item item' changed turned goes

    turns_if : (waits : Bool) (item item' : Item Socket) (turned : Served) → TurnsIf moves turn waits x item turned y item' → Unit1 (c + 1) x y
    turns_if true item item' turned goes = unmoved c x y now below goes.1
    turns_if false item item' turned goes = answers goes.0 (record item { socket = goes.1 }) item' turned goes.3

    items : (o o' : Option (Item Socket)) (turned : Served) → ItemTurns moves turn o x turned y o' → Unit1 (c + 1) x y
    items None None turned goes = unmoved c x y now below goes.1
    items (Some item) (Some item') turned goes = turns_if (is_waiting x.inner item.meta) (let_through x.inner item) item' turned goes
    items None (Some item') turned goes = absurd goes
    items (Some item) None turned goes = absurd goes

  -- PACKETS THAT WAIT

  each_goes : (rest kept : List ParkedValue) (c : ℕ) (x : Sender D) (all : Bool) (x' : Sender D) (left : List ParkedValue) → Stays c x.inner
      → c + length rest < i.neighbors.search_room → ServesEach moves rest kept x all x' left → Unit1 (c + length rest) x x'
  each_goes [] kept c x all x' left now below serves = record {
    all = [];
    are = ap (λ (y : Sender D). y.device) serves.1;
    what = inr (subst (λ (y : Sender D). Stays (c + 0) y.inner) (sym serves.1)
        (more c (c + 0) x.inner (omega arith) (let room = now.room in omega (arith, room)) now));
  }
  each_goes (k ∷ rest) kept c x all x' left now below serves =
      by serves.0 one serves.3 (λ on stays later. each_goes rest on (c + 1) mid all x' left stays (omega (arith, below)) later)
    where
      mid : Sender D
      mid = serves.1

      room : x.inner.neighbors.search_room ≡ i.neighbors.search_room
      room = ap (λ (j : InnerValue). j.neighbors.search_room) now.same

      one : Unit1 (c + 1) x mid
      one =
          has_left c x mid now (let is = room in omega (arith, is, below)) (packet_in k) serves.0
          (left_by moves (plan_of x.inner (is_some x.left) k.header) x (packet_in k) serves.0 mid serves.2)

      total : Unit1 (c + 1 + length rest) x x' → Unit1 (c + length (k ∷ rest)) x x'
      total ends = subst (λ (m : ℕ). Unit1 m x x') (let same : c + 1 + length rest ≡ c + length (k ∷ rest) = omega arith in same) ends

      by : (sent : Sent) → Unit1 (c + 1) x mid
          → GoesOn moves sent (ServesEach moves rest kept mid all x' left) (ServesEach moves rest (kept ++ k ∷ []) mid all x' left)
          ((all ≡ false) × (x' ≡ mid) × (left ≡ kept ++ k ∷ rest))
          → ((on : List ParkedValue) → Stays (c + 1) mid.inner → ServesEach moves rest on mid all x' left → Unit1 (c + 1 + length rest) mid x')
          → Unit1 (c + length (k ∷ rest)) x x'
      by sent first later further = from sent later where
        on_with : (kept' : List ParkedValue) → ServesEach moves rest kept' mid all x' left → Unit1 (c + length (k ∷ rest)) x x'
        on_with kept' goes =
            let moved : Through moves (all ≡ true) mid.device x'.device = each_through moves rest kept' mid all x' left goes in
            total (and_then (c + 1) (c + 1 + length rest) x.device mid.device x'.device mid.inner x'.inner first
            (record { all = moved.all; are = moved.are; what = inr tt }) (λ stays. further kept' stays goes))

        stops : x' ≡ mid → Unit1 (c + length (k ∷ rest)) x x'
        stops is =
            total (and_then (c + 1) (c + 1 + length rest) x.device mid.device x'.device mid.inner x'.inner first
            (record { all = []; are = ap (λ (y : Sender D). y.device) is; what = inr tt })
            (λ stays. record {
              all = [];
              are = ap (λ (y : Sender D). y.device) is;
              what = inr (subst (λ (y : Sender D). Stays (c + 1 + length rest) y.inner) (sym is)
                  (more (c + 1) (c + 1 + length rest) mid.inner (omega arith)
                  (let is_room = ap (λ (j : InnerValue). j.neighbors.search_room) stays.same in omega (arith, is_room, below)) stays));
            }))

        from : (o : Sent) → GoesOn moves o (ServesEach moves rest kept mid all x' left) (ServesEach moves rest (kept ++ k ∷ []) mid all x' left)
            ((all ≡ false) × (x' ≡ mid) × (left ≡ kept ++ k ∷ rest)) → Unit1 (c + length (k ∷ rest)) x x'
        from Outcome.Gone goes = on_with kept goes
        from Outcome.Dropped goes = on_with kept goes
        from Outcome.Waits goes = on_with (kept ++ k ∷ []) goes
        from Outcome.Busy goes = on_with (kept ++ k ∷ []) goes
        from Outcome.Refused goes = stops goes.1

  parked_goes : (c : ℕ) (x x' : Sender D) (all : Bool) → Stays c x.inner → c + length x.inner.parking.packets < i.neighbors.search_room
      → ServesParked moves x all x' → Unit1 (c + length x.inner.parking.packets) x x'
  parked_goes c x x' all now below serves =
      let most : ℕ = c + length x.inner.parking.packets in
      let each : Unit1 most (lent moves x) serves.0 =
      each_goes x.inner.parking.packets [] c (lent moves x) all serves.0 serves.1 (parked_stays c (empty_parking 0) x.inner now) below serves.2 in
      record {
        all = each.all;
        are = subst (λ (d : D). AreMoves moves each.all x.device d) (sym (ap (λ (y : Sender D). y.device) serves.3)) each.are;
        what = by each.all each.what;
      }
    where
      by : (xs : List Move) → ((list_any is_refused xs ≡ true) ⊎ AsksFor i hop xs) ⊎ Stays (c + length x.inner.parking.packets) serves.0.inner
          → ((list_any is_refused xs ≡ true) ⊎ AsksFor i hop xs) ⊎ Stays (c + length x.inner.parking.packets) x'.inner
      by xs (inl so) = inl so
      by xs (inr stays) = inr (subst (λ (y : Sender D). Stays (c + length x.inner.parking.packets) y.inner) (sym serves.3)
          (parked_stays (c + length x.inner.parking.packets) (record { packets = serves.1; room = x.inner.parking.room }) serves.0.inner stays))

  -- THE TURN OF ITS SOCKET

  module _ (socket offering : Socket) (says : Bool) (p : PacketValue) (meta : Meta) (goes_to : destination_of p.header ≡ to)
      (may : never_leaves i p.header ≡ false) (asks : may_solicit i hop ≡ true) (only : OffersOnly i socket says offering p) where
    abbrev ours : Place
    ours = record { inner = Some (record { meta = meta; socket = socket }) }

    module _ (c : ℕ) (x : Sender D) (now : Stays c x.inner) where
      crowded_not : is_crowded x.inner ≡ false
      crowded_not = ap (λ (b : Bool). not b && not (nat_lt (length x.inner.neighbors.searches) x.inner.neighbors.search_room)) (flag c x.inner now)

      asking : (q : NeighborQuery) × (plan_at x p ≡ Way.Ask q) × (target_of q ≡ hop)
      asking =
          plan_asks x.inner (is_some x.left) p.header hop (never_then i x.inner to hop via now.same p.header may)
          (ap (link_address x.inner) goes_to ∙ link_then i x.inner to hop via now.same now.unknown) (source_then i x.inner to hop via now.same asks)

      abbrev question : NeighborQuery
      question = asking.0

      put : (mid : D) (y : Sender D) (sent : Sent) → moves x.device (Allowed x.inner.instant true) mid
          → Asked moves mid x.inner question sent y.device y.inner → Asks x.device y.device
      put mid y Outcome.Waits leave goes = record {
        all = Allowed x.inner.instant true ∷ Emitted (frame_of x.inner (Departures.Asks question)) ∷ [];
        are = (mid, leave, (y.device, goes.0.0, refl));
        what = inr (asks_then i x.inner to hop via now.same (Allowed x.inner.instant true ∷ Emitted (frame_of x.inner (Departures.Asks question)) ∷ [])
            (record { question = question; from = plan_from x.inner (is_some x.left) p.header question asking.1; sent = inr (inl refl); whom = asking.2 }));
      }
      put mid y Outcome.Refused leave goes = record {
        all = Allowed x.inner.instant true ∷ Denied (frame_len_of x.inner (Departures.Asks question)) ∷ [];
        are = (mid, leave, (y.device, goes.0, refl));
        what = inl refl;
      }
      put mid y Outcome.Gone leave goes = absurd goes
      put mid y Outcome.Dropped leave goes = absurd goes
      put mid y Outcome.Busy leave goes = absurd goes

      held_never : (m : Meta) (given : Bool) (sent : Sent) (y : Sender D) → moves x.device (Allowed x.inner.instant given) y.device
          → outcome_by given (held None m x.inner (destination_of p.header) (plan_at x p)) ≡ Some sent → Asks x.device y.device
      held_never m false sent y move is = record { all = Allowed x.inner.instant false ∷ []; are = (y.device, move, refl); what = inl refl }
      held_never m true sent y move is =
          let none : held None m x.inner (destination_of p.header) (plan_at x p) ≡ None =
          ap (held None m x.inner (destination_of p.header)) asking.1 ∙ held_none None m x.inner (destination_of p.header) question crowded_not refl in
          absurd (let never : (let o : Option Sent = None in o) ≡ Some sent = sym none ∙ is in cc)

      leaves_asks : (m : Meta) (sent : Sent) (y : Sender D) → Leaves moves None x m p sent y → Asks x.device y.device
      leaves_asks m sent y (inl rests) = held_never m rests.0 sent y rests.1 rests.4
      leaves_asks m sent y (inr goes) =
          put goes.0 y sent goes.1
          (subst (λ (plan : Plan). IsTransmitted moves goes.0 x.inner x.left p plan sent y.device y.inner y.left) asking.1 goes.2).0

      leaves_if_asks : (flagged : Bool) (m : Meta) (sent : Sent) (y : Sender D) → LeavesIf moves None flagged x m p sent y → Asks x.device y.device
      leaves_if_asks false m sent y goes = leaves_asks m sent y goes
      leaves_if_asks true m sent y (came, mid, goes, outcome, after) =
          let asked : Asks x.device mid.device = leaves_asks m came mid goes in
          record {
            all = asked.all;
            are = subst (λ (d : D). AreMoves moves asked.all x.device d) (sym (ap (λ (z : Sender D). z.device) after)) asked.are;
            what = asked.what;
          }

      our_turn : (turn : Option IpAddress) (y : Sender D) (slot : Place) (turned : Served) → turn ≡ None → is_waiting x.inner meta ≡ false
          → ServesSlot moves turn x ours turned y slot → Asks x.device y.device
      our_turn turn y slot turned none ready goes =
          let offered : Offered moves turn x y offering p turned slot.inner =
          item_turns moves turn x y offering p socket says (only_still i x.inner socket offering says p now.same only)
          (never_then i x.inner to hop via now.same p.header may) meta slot.inner turned ready goes in
          leaves_if_asks x.inner.host_requirements offered.meta offered.sent y
          (subst (λ (o : Option IpAddress). LeavesOrParks moves o x offered.meta p offered.sent y) none offered.leaves)

    -- THE PASS

    is_ours : (q : Place) → Some q ≡ Some ours → q ≡ ours
    is_ours q stands = cc

    pass_asks : (turn : Option IpAddress) (ps : List Place) (n c : ℕ) (s : Sender D) (before : List Place) (changed : Bool) (e : Passed D) → turn ≡ None
        → slice_get ps n ≡ Some ours → Stays c s.inner → c + n < i.neighbors.search_room → is_waiting s.inner meta ≡ false
        → Pass moves turn s before changed ps e → Asks s.device e.sender.device
    pass_asks turn [] n c s before changed e none stands now below ready goes = absurd (let never : no_slot ≡ Some ours = stands in cc)
    pass_asks turn (q ∷ ps) zero c s before changed e none stands now below ready (inl goes) =
        let rest : Moved moves goes.1.device e.sender.device = pass_through moves turn goes.1 (before ++ goes.2 ∷ []) (changed || goes.0) ps e goes.4 in
        asks_first rest.all s.device goes.1.device e.sender.device
        (our_turn c s now turn goes.1 goes.2 (Turn.Next goes.0) none ready
        (subst (λ (slot : Place). ServesSlot moves turn s slot (Turn.Next goes.0) goes.1 goes.2) (is_ours q stands) goes.3)) rest.are
    pass_asks turn (q ∷ ps) zero c s before changed e none stands now below ready (inr stops) =
        let asked : Asks s.device stops.1.device =
        our_turn c s now turn stops.1 stops.2 (Turn.Stop stops.0) none ready
        (subst (λ (slot : Place). ServesSlot moves turn s slot (Turn.Stop stops.0) stops.1 stops.2) (is_ours q stands) stops.3) in
        record {
          all = asked.all;
          are = subst (λ (d : D). AreMoves moves asked.all s.device d) (sym (ap (λ (x : Passed D). x.sender.device) stops.4)) asked.are;
          what = asked.what;
        }
    pass_asks turn (q ∷ ps) (suc n) c s before changed e none stands now below ready (inl goes) =
        by first.what (λ stays. pass_asks turn ps n (c + 1) mid (before ++ goes.2 ∷ []) (changed || goes.0) e none stands stays (omega (arith, below))
        (waits_still s.inner mid.inner meta (slot_same moves turn s mid q goes.2 (Turn.Next goes.0) goes.3) ready) goes.4)
      where
        mid : Sender D
        mid = goes.1

        first : Unit1 (c + 1) s mid
        first =
            items turn c s mid now (let room = ap (λ (j : InnerValue). j.neighbors.search_room) now.same in omega (arith, room, below)) q.inner goes.2.inner
            (Turn.Next goes.0) goes.3

        by : ((list_any is_refused first.all ≡ true) ⊎ AsksFor i hop first.all) ⊎ Stays (c + 1) mid.inner
            → (Stays (c + 1) mid.inner → Asks mid.device e.sender.device) → Asks s.device e.sender.device
        by (inl so) rest =
            let moved : Moved moves mid.device e.sender.device = pass_through moves turn mid (before ++ goes.2 ∷ []) (changed || goes.0) ps e goes.4 in
            asks_first moved.all s.device mid.device e.sender.device (record { all = first.all; are = first.are; what = so }) moved.are
        by (inr stays) rest = asks_later_on first.all s.device mid.device e.sender.device first.are (rest stays)
    pass_asks turn (q ∷ ps) (suc n) c s before changed e none stands now below ready (inr stops) =
        let took : Through moves (Next moves (Turn.Stop stops.0)) s.device stops.1.device =
        slot_through moves turn s stops.1 q stops.2 (Turn.Stop stops.0) stops.3 in
        record {
          all = took.all;
          are = subst (λ (d : D). AreMoves moves took.all s.device d) (sym (ap (λ (x : Passed D). x.sender.device) stops.4)) took.are;
          what = inl (refused stops.0 took.all took.what);
        }
      where
        refused : (b : Bool) (xs : List Move) → (list_any is_refused xs ≡ true) ⊎ ((d : Bool) × (Turn.Stop b ≡ Turn.Next d)) → list_any is_refused xs ≡ true
        refused b xs (inl is) = is
        refused b xs (inr never) = absurd (let no_next : Turn.Stop b ≡ Turn.Next never.0 = never.1 in cc)

    -- THE STEP

    clears_goes : (s mid : Sender D) (clear : Bool) (c : ℕ) → Stays c s.inner → c + length s.inner.parking.packets < i.neighbors.search_room
        → ClearsIf moves true s clear mid → Unit1 (c + length s.inner.parking.packets) s mid
    clears_goes s mid clear c now below (inl stops) =
        let first : Through moves (false ≡ true) s.device mid.device = cleared moves s.left s mid false stops.0 in
        record { all = first.all; are = first.are; what = inl (inl (refused first.all first.what)) }
      where
        refused : (xs : List Move) → Refused moves xs ⊎ (false ≡ true) → Refused moves xs
        refused xs (inl is) = is
        refused xs (inr is) = clash (sym is)
    clears_goes s mid clear c now below (inr goes) =
        let first : Through moves (true ≡ true) s.device goes.0.device = cleared moves s.left s goes.0 true goes.1 in
        let is : goes.0.inner ≡ s.inner = clears_same moves s.left s goes.0 true goes.1 in
        goes_later_on (c + length s.inner.parking.packets) first.all s.device goes.0.device mid.device mid.inner first.are
        (subst (λ (m : ℕ). Unit1 (c + m) goes.0 mid) (ap (λ (j : InnerValue). length j.parking.packets) is)
        (parked_goes c goes.0 mid clear (subst (Stays c) (sym is) now)
        (subst (λ (m : ℕ). c + m < i.neighbors.search_room) (sym (ap (λ (j : InnerValue). length j.parking.packets) is)) below) goes.2))

    egress_asks : (s : Sender D) (ps : List Place) (n c : ℕ) (e : Passed D) → slice_get ps n ≡ Some ours → Stays c s.inner
        → c + length s.inner.parking.packets + n < i.neighbors.search_room → is_waiting s.inner meta ≡ false → Egress moves s ps e
        → Asks s.device e.sender.device
    egress_asks s ps n c e stands now below ready (inl stops) =
        let none : Through moves (false ≡ true) s.device stops.0.device =
        clears_through moves s.inner.host_requirements s stops.0 false stops.1 in
        record {
          all = none.all;
          are = subst (λ (d : D). AreMoves moves none.all s.device d) (sym (ap (λ (x : Passed D). x.sender.device) stops.2)) none.are;
          what = inl (refused none.all none.what);
        }
      where
        refused : (xs : List Move) → Refused moves xs ⊎ (false ≡ true) → Refused moves xs
        refused xs (inl is) = is
        refused xs (inr is) = clash (sym is)
    egress_asks s ps n c e stands now below ready (inr goes) = by first.what where
      mid : Sender D
      mid = goes.0

      most : ℕ
      most = c + length s.inner.parking.packets

      first : Unit1 (c + length s.inner.parking.packets) s mid
      first =
          clears_goes s mid true c now (omega (arith, below)) (subst (λ (b : Bool). ClearsIf moves b s true mid) (flag c s.inner now) goes.1)

      by : ((list_any is_refused first.all ≡ true) ⊎ AsksFor i hop first.all) ⊎ Stays (c + length s.inner.parking.packets) mid.inner → Asks s.device e.sender.device
      by (inl so) =
          let rest : Moved moves mid.device e.sender.device = pass_through moves (turn_of mid.inner ps) mid [] false ps e goes.2 in
          asks_first rest.all s.device mid.device e.sender.device (record { all = first.all; are = first.are; what = so }) rest.are
      by (inr stays) =
          asks_later_on first.all s.device mid.device e.sender.device first.are
          (pass_asks (turn_of mid.inner ps) ps n (c + length s.inner.parking.packets) mid [] false e (no_turn mid.inner ps (flag (c + length s.inner.parking.packets) mid.inner stays))
          stands stays below (waits_still s.inner mid.inner meta (clears_all_same moves s mid true goes.1) ready) goes.2)

-- the first datagram of a UDP socket
pub step_asks : {D : Type 0} (moves : D → Move → D → Type 0) (t : ℤ) (s s' : State D) (answer : Option Bool) (n : ℕ) (v : UdpValue)
    (d : UdpMetadata × List ℕ) (more : List (UdpMetadata × List ℕ)) (hop : IpAddress) (p : PacketValue) → s.host.inner.host_requirements ≡ true
    → HasTurn (at_instant t s.host.inner) s.slots n v → contents v.queued ≡ d ∷ more → TakesDatagram (context_of (at_instant t s.host.inner)) v.settings d p
    → never_leaves (at_instant t s.host.inner) p.header ≡ false
    → link_address (at_instant t s.host.inner) (destination_of p.header) ≡ Link.Unknown hop → may_solicit (at_instant t s.host.inner) hop ≡ true
    → length s.host.inner.neighbors.searches + length s.host.inner.parking.packets + n < s.host.inner.neighbors.search_room
    → EgressStep moves t s answer s' → IsAskedForAtOnce moves (at_instant t s.host.inner) hop s.device s'.device
step_asks {D} moves t s s' answer n v d more hop p many turn queued takes may unknown asks below step =
    let i : InnerValue = at_instant t s.host.inner in
    let to : IpAddress = destination_of p.header in
    let both : IsVia i to hop × IsUnknown i hop = via_of i to hop unknown in
    let c : ℕ = length s.host.inner.neighbors.searches in
    let now : Stays moves i to hop many both.0 c i =
    record { same = same_where i i refl; unknown = both.1; few = omega arith; room = omega (arith, below) } in
    let asked : Asks moves i to hop many both.0 s.device step.0.sender.device =
    egress_asks moves i to hop many both.0 (Kind.Udp v) (offering_with p v) false p turn.meta refl may asks (offers_it i v d p takes more queued)
    (sending t s) s.slots n c step.0 turn.stands now below turn.ready step.1 in
    record {
      all = asked.all;
      are = subst (λ (x : D). AreMoves moves asked.all s.device x) (sym (ap (λ (x : State D). x.device) step.2)) asked.are;
      what = asked.what;
    }
