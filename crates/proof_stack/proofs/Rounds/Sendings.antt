-- Each frame that a host sends in a poll can be read: it isn't empty, and not too long.
use Rattle.std.proofs.Common.{◌≡◌, ◌≤◌, ◌+◌, ℕ, not, ◌&&◌, ℤ, Bool, true, false, List, [], ◌∷◌, ◌++◌, length, Option, None, Some, is_some, inl, inr, refl, sym, ap, ◌∙◌}
use Rattle.std.proofs.Common.{subst, arith, append_assoc, append-nil}
use Rattle.std.specs.Prelude.{nat_lt}
use Rattle.std.specs.List.{AllByRecursion}
use Rattle.ip_wire.specs.Ip.{header_len_in}
use Rattle.ip_wire.specs.IpAddress.{IpAddress}
use Rattle.ip_wire.specs.IpRepr.{IpRepr}
use Rattle.ip_wire.specs.IpRepr.TheVariants as Ip
use Rattle.ip_wire.specs.HardwareAddress.{HardwareAddress}
use Rattle.ip_wire.specs.HardwareAddress.TheVariants as Hardware
use Rattle.sockets.specs.Packet.{PacketValue}
use Rattle.sockets.specs.Offer as Answer
use Rattle.sockets.specs.Offer.TheVariants as Offer
use Rattle.sockets.specs.Socket.{offered_by}
use Rattle.sockets.specs.declared.socket.Socket.{Socket}
use Rattle.iface_egress.specs.Inner.{InnerValue, at_instant}
use Rattle.iface_tables.specs.Parking.{ParkedValue, ParkingValue}
use Rattle.iface_egress.specs.declared.frame.CutHeader.{CutHeader}
use Rattle.iface_egress.specs.declared.frame.CutHeader.TheVariants as Cut
use Rattle.iface_egress.specs.declared.frame.NeighborQuery.{NeighborQuery}
use Rattle.iface_egress.specs.declared.frame.NeighborQuery.TheVariants as Query
use Rattle.iface_egress.specs.declared.socket_set.Item.{Item}
use Rattle.iface_egress.specs.declared.socket_set.SocketStorage.{SocketStorage}
use Rattle.iface_egress.specs.Departing.{SendsOnce, HasSettingsOf, departure_by, was_taken, link_room}
use Rattle.iface_egress.specs.Departure as Departures
use Rattle.iface_egress.specs.Departure.{Departure, fragment_header_len, solicitation_len}
use Rattle.iface_egress.specs.declared.socket_meta.Meta.{Meta}
use Rattle.iface_egress.specs.Fragments.{LeftValue, departure_from}
use Rattle.iface_egress.specs.IsTransmitted.{IsTransmitted, FragmentIsTransmitted, Departs, frame_of, frame_len_of}
use Rattle.iface_egress.specs.Parked.{GoesOn, ServesEach, ServesParked, inner_after, lent, packet_in, parks, put_back, sender_after}
use Rattle.iface_egress.specs.Plan.{plan_of}
use Rattle.iface_egress.specs.declared.egress_path.Sent.{Sent}
use Rattle.iface_egress.specs.declared.egress_path.Sent.TheVariants as Outcome
use Rattle.iface_egress.proofs.Changes.{changes, fragment_sends, same_settings}
use Rattle.iface_egress.proofs.Short.{planned_short, fragment_short}
use Rattle.iface_ingress.specs.Arrives as Replies
use Rattle.iface_ingress.specs.Arrives.{ReplyValue}
use Rattle.iface_ingress.specs.WellFormed.{IsWellFormed}
use Rattle.iface_ingress.specs.FragmentStored.{HasSameSettings}
use Rattle.interface.specs.Host.{Sender}
use Rattle.interface.specs.Ingress.{AnswerGoes, Takes, Replied, is_awaited, is_read, longest_frame, would_solicit}
use Rattle.interface.specs.State.{State}
use Rattle.interface.specs.Serve.{Answers, ItemTurns, Leaves, LeavesIf, SendsBy, ServesSlot, TurnsIf, is_waiting, let_through, plan_at}
use Rattle.interface.specs.EgressPath.{FragmentLeaves}
use Rattle.interface.specs.declared.serve.Served.{Served}
use Rattle.interface.proofs.Keep.{polls_keep}
use Rattle.interface.proofs.Kept.{IsKept}
use Rattle.interface.proofs.Parked.{HasLeft, left_by}
use Rattle.interface.proofs.Runs.{receives_same}
use Rattle.sim_link.specs.Port.{LinkEnd, PortMove, PortValue}
use Rattle.lan.specs.Worlds.AtLink.Node.{NodeValue, at_port}
use Rattle.lan.specs.Worlds.AtLink.Steps.{PollsAt}
use Rattle.lan.proofs.Worlds.AtLink.Replies.{IsMeasured}
use Rattle.proof_stack.specs.Progress.Parked.{AreWhole, IsWhole, WaitWhole}
use Rattle.proof_stack.proofs.Rounds.Whole.{parked_whole, served_whole}

abbrev Frames : Type 0
Frames = List (List ℕ)

-- HOW LONG A FRAME IS

some_header : (h : IpRepr) → 1 ≤ header_len_in h
some_header (Ip.Ipv4 v) = omega arith
some_header (Ip.Ipv6 v) = omega arith

some_fragment : (h : CutHeader) → 1 ≤ fragment_header_len h
some_fragment (Cut.Ipv4 v) = omega arith
some_fragment (Cut.Ipv6 v number) = omega arith

some_question : (q : NeighborQuery) → 1 ≤ solicitation_len q
some_question (Query.Arp own source target) = omega arith
some_question (Query.Neighbor own source target) = omega arith

some_len : (i : InnerValue) (x : Departure) → 1 ≤ frame_len_of i x
some_len i (Departures.Asks q) = some_question q
some_len i (Departures.Tells packet) = omega arith
some_len i (Departures.Whole to p) = let some = some_header p.header in omega (arith, some)
some_len i (Departures.Part to header fragment) = let some = some_fragment header in omega (arith, some)

room_few : (own : HardwareAddress) → link_room own ≤ 14
room_few Hardware.Ip = omega arith
room_few (Hardware.Ethernet own) = omega arith

both_so : (a b : Bool) → a ≡ true → b ≡ false → (a && not b) ≡ true
both_so true false one two = refl
both_so false b one two = absurd (cc)
both_so true true one two = absurd (cc)

can_be_read : (frame : List ℕ) (len : ℕ) → length frame ≡ len → 1 ≤ len → len ≤ longest_frame → is_read frame ≡ true
can_be_read frame len is some short =
    both_so (nat_lt 0 (length frame)) (nat_lt longest_frame (length frame)) (grind (arith, is, some)) (grind (arith, is, short))

abbrev pub CanBeRead : Frames → Type 0
CanBeRead frames = AllByRecursion (λ frame. is_read frame ≡ true) frames

one_more : (frames : Frames) (frame : List ℕ) → CanBeRead frames → is_read frame ≡ true → CanBeRead (frames ++ frame ∷ [])
one_more [] frame all is = (is, tt)
one_more (f ∷ frames) frame all is = (all.0, one_more frames frame all.1 is)

-- THE PORT

-- these frames were sent at first, and others since that can be read, by a host of such an MTU
record Sends (first : Frames) (d : PortValue) (i : InnerValue) : Type 0 where
  low : 576 ≤ i.mtu
  high : i.mtu ≤ 65_535
  gone : Frames
  are : d.link.sent ≡ first ++ gone
  read : CanBeRead gone

module _ (first : Frames) where
  abbrev So : PortValue → InnerValue → Type 0
  So d i = Sends first d i

  so_port : (d d' : PortValue) (i : InnerValue) → d'.link.sent ≡ d.link.sent → So d i → So d' i
  so_port d d' i same so = record { low = so.low; high = so.high; gone = so.gone; are = same ∙ so.are; read = so.read }

  so_same : (d d' : PortValue) (i : InnerValue) → d' ≡ d → So d i → So d' i
  so_same d d' i is so = subst (λ (x : PortValue). So x i) (sym is) so

  so_host : (d : PortValue) (i i' : InnerValue) → i'.mtu ≡ i.mtu → So d i → So d i'
  so_host d i i' mtu so = record {
    low = let low = so.low in omega (arith, low, mtu);
    high = let high = so.high in omega (arith, high, mtu);
    gone = so.gone;
    are = so.are;
    read = so.read;
  }

  so_sends : (x : Departure) (taken : Bool) (d d' : PortValue) (i : InnerValue) → frame_len_of i x ≤ link_room i.hardware + i.mtu → Departs PortMove d i x taken d'
      → So d i → So d' i
  so_sends x true d d' i short goes so = record {
    low = so.low;
    high = so.high;
    gone = so.gone ++ frame_of i x ∷ [];
    are = ap (λ (p : PortValue). p.link.sent) goes.0 ∙ ap (λ (fs : Frames). fs ++ frame_of i x ∷ []) so.are ∙ append_assoc first so.gone (frame_of i x ∷ []);
    read = one_more so.gone (frame_of i x) so.read
        (can_be_read (frame_of i x) (frame_len_of i x) goes.1 (some_len i x)
        (let high = so.high in let few = room_few i.hardware in omega (arith, high, few, short)));
  }
  so_sends x false d d' i short goes so = so_port d d' i (ap (λ (p : PortValue). p.link.sent) goes.0) so

  -- THE WAY OUT

  so_once : (o : Option Departure) (taken : Bool) (d d' : PortValue) (i : InnerValue) → ((x : Departure) → o ≡ Some x → frame_len_of i x ≤ link_room i.hardware + i.mtu)
      → SendsOnce PortMove d i o taken d' → So d i → So d' i
  so_once None taken d d' i short goes so = so_same d d' i goes so
  so_once (Some x) taken d d' i short goes so = so_sends x taken d d' i (short x refl) goes so

  so_out : (d d' : PortValue) (i i' : InnerValue) (l l' : Option LeftValue) (p : PacketValue) (busy : Bool) (sent : Sent) → IsMeasured p
      → IsTransmitted PortMove d i l p (plan_of i busy p.header) sent d' i' l' → So d i → So d' i'
  so_out d d' i i' l l' p busy sent len goes so =
      let all = changes PortMove d d' i i' l l' p busy sent goes in
      let settings : HasSettingsOf i i' = same_settings i i' (plan_of i busy p.header) sent p.header all.1 in
      so_host d' i i' settings.mtu
      (so_once (departure_by i p (plan_of i busy p.header)) (was_taken sent) d d' i (λ x is. planned_short i busy p x so.low len is) all.0 so)

  so_fragment : (l : LeftValue) (gone : Bool) (d d' : PortValue) (i : InnerValue) (l' : Option LeftValue) → FragmentIsTransmitted PortMove d i l gone d' l' → So d i → So d' i
  so_fragment l gone d d' i l' goes so =
      so_sends (departure_from i l) gone d d' i (fragment_short i l so.low) (fragment_sends PortMove d d' i l l' gone goes) so

  -- ARRIVALS

  so_told : (i : InnerValue) → 576 ≤ i.mtu → 42 ≤ link_room i.hardware + i.mtu
  so_told i low = omega (arith, low)

  -- and what waits has the bytes that its headers say
  abbrev Both : Sender PortValue → Type 0
  Both x = So x.device x.inner × WaitWhole x.inner

  -- the port and the host of a sender
  both_where : (x x' : Sender PortValue) → x' ≡ x → Both x → Both x'
  both_where x x' is both = subst Both (sym is) both

  both_device : (x x' : Sender PortValue) → x'.inner ≡ x.inner → So x'.device x.inner → WaitWhole x.inner → Both x'
  both_device x x' is so waits = (subst (λ (i : InnerValue). So x'.device i) (sym is) so, subst WaitWhole (sym is) waits)

  both_out : (d : PortValue) (x x' : Sender PortValue) (p : PacketValue) (busy : Bool) (sent : Sent) → IsMeasured p
      → IsTransmitted PortMove d x.inner x.left p (plan_of x.inner busy p.header) sent x'.device x'.inner x'.left → So d x.inner → WaitWhole x.inner → Both x'
  both_out d x x' p busy sent len goes so waits = (
    so_out d x'.device x.inner x'.inner x.left x'.left p busy sent len goes so,
    subst WaitWhole (sym (changes PortMove d x'.device x.inner x'.inner x.left x'.left p busy sent goes).1) waits,
  )

  both_parked : (b : Bool) (x : Sender PortValue) (p : PacketValue) → IsWellFormed p → Both x → Both (sender_after b p x)
  both_parked true x p formed both = (so_host x.device x.inner (inner_after true x.inner p) refl both.0, parked_whole true x.inner p formed both.1)
  both_parked false x p formed both = both

  so_answered : (many : Bool) (p : PacketValue) (kept_back : Bool) (x x' : Sender PortValue) → AnswerGoes PortMove many p kept_back x x' → Both x → Both x'
  so_answered false p kept_back x x' goes both =
      both_out x.device x x' p (is_some x.left) goes.0 goes.2.sendable.len goes.1 both.0 both.1
  so_answered true p kept_back x x' goes both =
      both_where (sender_after (parks goes.1.inner p (plan_of x.inner (is_some x.left) p.header) goes.0) p goes.1) x' goes.3
      (both_parked (parks goes.1.inner p (plan_of x.inner (is_some x.left) p.header) goes.0) goes.1 p goes.4
      (both_out x.device x goes.1 p (is_some x.left) goes.0 goes.4.sendable.len goes.2 both.0 both.1))

  so_replied : (awaited : Bool) (reply : Option ReplyValue) (x x' : Sender PortValue) → Replied PortMove awaited reply x x' → Both x → Both x'
  so_replied awaited None x x' is both = both_where x x' is both
  so_replied awaited (Some (Replies.Tells packet)) x x' tells both =
      both_device x x' tells.2 (so_sends (Departures.Tells packet) tells.0 x.device x'.device x.inner (so_told x.inner both.0.low) tells.1 both.0) both.1
  so_replied awaited (Some (Replies.Answers p)) x x' (inl held) both = both_where x x' held.0 both
  so_replied awaited (Some (Replies.Answers p)) x x' (inr goes) both =
      so_answered x.inner.host_requirements p (awaited && would_solicit x p) x x' goes both

  abbrev Whole : State PortValue → Type 0
  Whole s = So s.device s.host.inner × WaitWhole s.host.inner

  whole_where : (s s' : State PortValue) → s'.host.inner ≡ s.host.inner → So s'.device s.host.inner → WaitWhole s.host.inner → Whole s'
  whole_where s s' is so waits = (subst (λ (i : InnerValue). So s'.device i) (sym is) so, subst WaitWhole (sym is) waits)

  whole_arrival : (i j : InnerValue) → HasSameSettings i j → WaitWhole i → WaitWhole j
  whole_arrival i j same waits = λ many.
      subst (λ (k : ParkingValue). AreWhole k.packets) (sym same.parking) (waits (sym same.host_requirements ∙ many))

  so_takes : (s s' : State PortValue) (answer : Option Bool) → Whole s → Takes PortMove s answer s' → Whole s'
  so_takes s s' None so takes =
      whole_where s s' (ap (λ (x : State PortValue). x.host.inner) takes.1) (so_same s.device s'.device s.host.inner takes.0.0 so.0) so.1
  so_takes s s' (Some false) so takes =
      whole_where s s' (ap (λ (x : State PortValue). x.host.inner) takes.3)
      (so_port s.device s'.device s.host.inner (ap (λ (p : PortValue). p.link.sent) (sym takes.1.1)) so.0) so.1
  so_takes s s' (Some true) so takes =
      let reads = takes.4 in
      let i : InnerValue = s.host.inner in
      let j : InnerValue = reads.2.0.inner in
      let same : HasSameSettings i j = (receives_same PortMove reads.0 (record s { device = takes.1 }) s' reads.2).0 in
      let took : So takes.1 i = so_port s.device takes.1 i (ap (λ (p : PortValue). p.link.sent) (sym takes.2.1)) so.0 in
      so_replied (is_awaited reads.2.0) reads.2.0.reply (record { device = takes.1; inner = j; left = s.host.left })
      (record { device = s'.device; inner = s'.host.inner; left = s'.host.left }) reads.2.3
      (so_host takes.1 i j same.mtu took, whole_arrival i j same so.1)

  -- PIECES AND TURNS

  so_fragment_leaves : (l : LeftValue) (x x' : Sender PortValue) (gone : Bool) → FragmentLeaves PortMove l x gone x' → x'.inner ≡ x.inner → Both x → Both x'
  so_fragment_leaves l x x' gone (inl stays) is both = both_device x x' is (so_same x.device x'.device x.inner stays.0.0 both.0) both.1
  so_fragment_leaves l x x' gone (inr goes) is both =
      both_device x x' is (so_fragment l gone goes.0 x'.device x.inner x'.left goes.2 (so_same x.device goes.0 x.inner goes.1.0 both.0)) both.1

  module _ (turn : Option IpAddress) (x : Sender PortValue) (both : Both x) where
    so_leaves : (x' : Sender PortValue) (m : Meta) (p : PacketValue) (sent : Sent) → IsMeasured p → Leaves PortMove turn x m p sent x' → Both x'
    so_leaves x' m p sent len (inl rests) = both_device x x' rests.2 (so_same x.device x'.device x.inner rests.1.0 both.0) both.1
    so_leaves x' m p sent len (inr goes) =
        both_out goes.0 x x' p (is_some x.left) sent len goes.2 (so_same x.device goes.0 x.inner goes.1.0 both.0) both.1

    so_leaves_if : (many : Bool) (x' : Sender PortValue) (m : Meta) (p : PacketValue) (sent : Sent) → IsWellFormed p → LeavesIf PortMove turn many x m p sent x'
        → Both x'
    so_leaves_if false x' m p sent formed goes = so_leaves x' m p sent formed.sendable.len goes
    so_leaves_if true x' m p sent formed goes =
        both_where (sender_after (parks goes.1.inner p (plan_at x p) goes.0) p goes.1) x' goes.4
        (both_parked (parks goes.1.inner p (plan_at x p) goes.0) goes.1 p formed (so_leaves goes.1 m p goes.0 formed.sendable.len goes.2))

  module _ (turn : Option IpAddress) (x x' : Sender PortValue) (both : Both x) where
    so_sent : (o : Option PacketValue) (item item' : Item Socket) (changed : Bool) (turned : Served) → SendsBy PortMove turn o x item changed turned x' item' → Both x'
    so_sent None item item' changed turned sends = absurd sends
    so_sent (Some p) item item' changed turned sends =
        so_leaves_if turn x both x.inner.host_requirements x' item.meta sends.0 sends.3.0 sends.3.4 sends.3.1

    so_answers : (answer : Answer.Offer) (item item' : Item Socket) (turned : Served) → Answers PortMove turn answer x item turned x' item' → Both x'
    so_answers (Offer.Silent changed) item item' turned answers = both_where x x' answers.1 both
    so_answers (Offer.Packet changed) item item' turned answers = so_sent (offered_by item.socket) item item' changed turned answers

    so_turns : (waits : Bool) (item item' : Item Socket) (turned : Served) → TurnsIf PortMove turn waits x item turned x' item' → Both x'
    so_turns true item item' turned turns = both_where x x' turns.1 both
    so_turns false item item' turned turns = so_answers turns.0 (record item { socket = turns.1 }) item' turned turns.3

    so_item : (o o' : Option (Item Socket)) (turned : Served) → ItemTurns PortMove turn o x turned x' o' → Both x'
    so_item None None turned turns = both_where x x' turns.1 both
    so_item (Some item) (Some item') turned turns = so_turns (is_waiting x.inner item.meta) (let_through x.inner item) item' turned turns
    so_item None (Some item') turned turns = absurd turns
    so_item (Some item) None turned turns = absurd turns

    so_slot : (p p' : SocketStorage Socket) (turned : Served) → ServesSlot PortMove turn x p turned x' p' → Both x'
    so_slot p p' turned turns = so_item p.inner p'.inner turned turns

  -- PACKETS THAT WAIT

  so_left : (x x' : Sender PortValue) (k : ParkedValue) (sent : Sent) → IsWhole k → HasLeft PortMove x (packet_in k) sent x' → So x.device x.inner
      → So x'.device x'.inner
  so_left x x' k sent len (inl is) so = subst (λ (y : Sender PortValue). So y.device y.inner) (sym is) so
  so_left x x' k sent len (inr (inl rests)) so =
      subst (λ (i : InnerValue). So x'.device i) (sym rests.1) (so_same x.device x'.device x.inner rests.0.0 so)
  so_left x x' k sent len (inr (inr goes)) so =
      so_out goes.0 x'.device x.inner x'.inner x.left x'.left (packet_in k) (is_some x.left) sent len goes.2 (so_same x.device goes.0 x.inner goes.1.0 so)

  so_each : (rest kept : List ParkedValue) (x : Sender PortValue) (all : Bool) (x' : Sender PortValue) (left : List ParkedValue) → AreWhole rest
      → So x.device x.inner → ServesEach PortMove rest kept x all x' left → So x'.device x'.inner
  so_each [] kept x all x' left whole so serves = subst (λ (y : Sender PortValue). So y.device y.inner) (sym serves.1) so
  so_each (k ∷ rest) kept x all x' left whole so serves =
      by serves.0
      (so_left x serves.1 k serves.0 whole.0
      (left_by PortMove (plan_of x.inner (is_some x.left) k.header) x (packet_in k) serves.0 serves.1 serves.2) so) serves.3
      (λ on now later. so_each rest on serves.1 all x' left whole.1 now later)
    where
      mid : Sender PortValue
      mid = serves.1

      by : (sent : Sent) → So mid.device mid.inner
          → GoesOn PortMove sent (ServesEach PortMove rest kept mid all x' left) (ServesEach PortMove rest (kept ++ k ∷ []) mid all x' left)
          ((all ≡ false) × (x' ≡ mid) × (left ≡ kept ++ k ∷ rest))
          → ((on : List ParkedValue) → So mid.device mid.inner → ServesEach PortMove rest on mid all x' left → So x'.device x'.inner)
          → So x'.device x'.inner
      by Outcome.Gone now later further = further kept now later
      by Outcome.Dropped now later further = further kept now later
      by Outcome.Waits now later further = further (kept ++ k ∷ []) now later
      by Outcome.Busy now later further = further (kept ++ k ∷ []) now later
      by Outcome.Refused now later further = subst (λ (y : Sender PortValue). So y.device y.inner) (sym later.1) now

  so_parked : (x x' : Sender PortValue) (all : Bool) → x.inner.host_requirements ≡ true → ServesParked PortMove x all x' → Both x → Both x'
  so_parked x x' all many serves both = (
    subst (λ (y : Sender PortValue). So y.device y.inner) (sym serves.3)
        (so_host serves.0.device serves.0.inner (put_back PortMove x.inner.parking.room serves.1 serves.0).inner refl
        (so_each x.inner.parking.packets [] (lent PortMove x) all serves.0 serves.1 (both.1 many)
        (so_host x.device x.inner (lent PortMove x).inner refl both.0) serves.2)),
    λ now. served_whole PortMove x x' all (both.1 many) serves,
  )

  kept : (t : ℤ) → IsKept PortMove t Whole
  kept t = record {
    maintenance = λ s so. (so_host s.device s.host.inner (at_instant t s.host.inner) refl so.0, so.1);
    arrivals = λ s s' answer runs so takes. so_takes s s' answer so takes;
    fragments = λ h ps x x' l gone runs is so leaves same. so_fragment_leaves l x x' gone leaves same so;
    parked = λ h ps x x' all runs many so serves. so_parked x x' all many serves so;
    turns = λ turn h before after p p' x x' turned runs so turns. so_slot turn x x' so p p' turned turns;
  }

-- A POLL

-- it sent these frames, each of which can be read
pub record SendsShort (before after : Frames) : Type 0 where
  pub gone : Frames
  pub are : after ≡ before ++ gone
  pub read : CanBeRead gone

module _ (s s' : NodeValue) (t : ℤ) (budget : ℕ) (changed : Bool) (waits : WaitWhole s.host.inner) (low : 576 ≤ s.host.inner.mtu)
    (high : s.host.inner.mtu ≤ 65_535) (at : PollsAt s t budget changed s') where
  ends : Whole at.port.link.sent (at_port at.port_after s')
  ends =
      let begins : Sends at.port.link.sent at.port s.host.inner =
      record { low = low; high = high; gone = []; are = sym (append-nil at.port.link.sent); read = tt } in
      (polls_keep PortMove t (Whole at.port.link.sent) (kept at.port.link.sent t) budget (at_port at.port s) (at_port at.port_after s') changed
      (begins, waits) at.polls).0

  pub sends_short : SendsShort s.link.sent s'.link.sent
  sends_short = record {
    gone = ends.0.gone;
    are = ap (λ (l : LinkEnd). l.sent) (sym at.after) ∙ ends.0.are ∙ ap (λ (l : LinkEnd). l.sent ++ ends.0.gone) at.before;
    read = ends.0.read;
  }

  pub still_whole : WaitWhole s'.host.inner
  still_whole = ends.1

-- where none can wait
pub none_waits : (i : InnerValue) → i.host_requirements ≡ false → WaitWhole i
none_waits i alone = λ many. absurd (let clash : true ≡ false = sym many ∙ alone in cc)
