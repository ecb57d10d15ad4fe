-- A connected socket whose host knows the other one throughout its polls is marked for no neighbor.
use Rattle.std.proofs.Common.{◌≡◌, ◌⊎◌, inl, inr, ℕ, zero, suc, ℤ, Bool, true, false, if◌then◌else◌, List, [], ◌∷◌, ◌++◌, append-nil, Option, Some, None, refl, sym, ap, ◌∙◌, subst}
use Rattle.std.specs.Prelude.{is_some, slice_get, slice_index_or}
use Rattle.wire_ip.specs.Ip.{destination_of}
use Rattle.ip_wire.specs.HardwareAddress.{HardwareAddress}
use Rattle.ip_wire.specs.IpAddress.{IpAddress}
use Rattle.ip_wire.specs.IpRepr.{IpRepr}
use Rattle.ip_wire.specs.TcpHeader.{TcpHeader}
use Rattle.tcp_state.specs.Endpoints.{remote_of}
use Rattle.tcp_state.specs.States.{is_closed}
use Rattle.tcp_state.specs.declared.endpoints.FourTuple.{FourTuple}
use Rattle.tcp_state.specs.declared.offer.OpenOffer.{OpenOffer}
use Rattle.tcp_block.specs.Arrival.{arrives}
use Rattle.tcp_block.specs.Offers.{offer_of, offered_packet, packet_with, payload_of}
use Rattle.tcp_block.specs.Settled as TcpSettled
use Rattle.tcp_block.specs.State as States
use Rattle.tcp_block.specs.Value.{TcpValue}
use Rattle.tcp_liveness.specs.Sent.{is_early}
use Rattle.tcp_refinement.specs.Endpoints.{GoesBetween}
use Rattle.tcp_refinement.proofs.NameLaws.{offer_between_ends}
use Rattle.sockets.proofs.AnyKind.{has_packet}
use Rattle.socket_datagram.specs.Offers.{HasPacket}
use Rattle.iface_ingress.specs.Context.{ContextValue}
use Rattle.iface_ingress.specs.Delivered.{with_segment}
use Rattle.iface_ingress.specs.Offer as Answer
use Rattle.iface_ingress.specs.Offer.TheVariants as Offer
use Rattle.iface_ingress.specs.Packet.{PacketValue, Segment, packet_of}
use Rattle.iface_ingress.specs.Socket.{Socket}
use Rattle.iface_ingress.specs.Socket.TheVariants as Kind
use Rattle.iface_ingress.specs.Sockets.{Offers, offered_by}
use Rattle.iface_tables.specs.Inner.{InnerValue, context_of, link_address}
use Rattle.iface_tables.specs.Source.{source_for}
use Rattle.iface_tables.specs.declared.link.LinkAddress.TheVariants as Link
use Rattle.iface_egress.specs.Fragments.{LeftValue}
use Rattle.iface_egress.specs.Meta.{freed, unmarked}
use Rattle.iface_egress.specs.declared.socket_meta.Meta.{Meta}
use Rattle.iface_egress.specs.declared.socket_set.Item.{Item}
use Rattle.iface_egress.specs.declared.socket_set.SocketStorage.{SocketStorage}
use Rattle.interface.specs.Host.{HostValue, Sender}
use Rattle.interface.specs.Ingress.{Takes}
use Rattle.interface.specs.Polls.{Polls as Polled}
use Rattle.interface.specs.Remote.{context_for}
use Rattle.interface.specs.SameHost.{IsSameHost}
use Rattle.interface.specs.State.{State, at_device, sending_as}
use Rattle.interface.specs.Serve.{Answers, ItemTurns, ServesSlot, SendsBy, TurnsIf, is_done, passes_filter, is_waiting, keeps_source, let_through, plan_at, sourced, waits_until, with_source}
use Rattle.interface.specs.EgressPath.{FragmentLeaves}
use Rattle.interface.specs.declared.serve.Served.{Served}
use Rattle.interface.proofs.Keep.{polls_keep}
use Rattle.interface.proofs.Kept.{IsKept, RunsAt}
use Rattle.interface.proofs.Runs.{receives_same}
use Rattle.iface_egress.specs.Parked.{ServesParked}
use Rattle.interface.proofs.SameHost.{serves_same, slot_same}
use Rattle.sim_link.specs.Device.{Empty, Move}
use Rattle.sim_link.specs.Port.{LinkEnd, PortMove, PortValue}
use Rattle.lan.specs.declared.at_link.history.answer.Answer.{Answer as Answered}
use Rattle.lan.specs.declared.at_link.history.event.Side.{Side}
use Rattle.lan.specs.Worlds.AtLink.Call.{SocketCall}
use Rattle.lan.specs.Worlds.AtLink.Calls.{Did}
use Rattle.lan.specs.Worlds.AtLink.Does.{DidAt, ItemDoes, SlotDoes, does}
use Rattle.lan.specs.Worlds.AtLink.History.{Entry}
use Rattle.lan.specs.Worlds.AtLink.Kinds.{Act, Kind, kind_of, other}
use Rattle.lan.specs.Worlds.AtLink.Kinds.Act.{Asks, Calls, Opens, Polls, Sets}
use Rattle.lan.specs.Worlds.AtLink.Kinds.Kind.{OfHost, OfLink}
use Rattle.lan.specs.Worlds.AtLink.Runs.{Starts}
use Rattle.lan.specs.Worlds.AtLink.Safe.{seen}
use Rattle.lan.specs.Worlds.AtLink.Node.{NodeValue, Nodes, at_port, node}
use Rattle.lan.specs.Worlds.AtLink.Steps.{Acts, Happens}
use Rattle.lan.specs.Worlds.Moves.Follows.{seen_slot, sockets_of}
use Rattle.lan.specs.Worlds.Moves.HopLimit.{KnowsHop}
use Rattle.lan.specs.Worlds.Moves.Link.{brought}
use Rattle.lan.specs.Worlds.Still.{StillRun}
use Rattle.lan.proofs.Worlds.Moves.Devices.{fragment_leaves, parked, slot_turns, reads}
use Rattle.lan.proofs.Worlds.Moves.Frames.{Frames, IsNoTake, Sent, and_gone, and_taken, no_frames, none_sent, sent_on}
use Rattle.lan.proofs.Worlds.Moves.HopLimit.{HopLimit, hop_now, hop_limit_arrival, hop_limit_first, hop_limit_out, hop_limit_skip, knew, knew_before, knew_out}
use Rattle.lan.proofs.Worlds.Moves.Later.{IsSince, brings_later, since_arrival, since_begun, since_itself, since_out}
use Rattle.lan.proofs.Worlds.Moves.Nets.{either_side}
use Rattle.lan.proofs.Worlds.PortMoves.{TookOf, taking_ports}
use Rattle.proof_stack.specs.Progress.Ends.{AreBoth, AreConnected, IsConnected}
use Rattle.proof_stack.specs.Progress.KnownHopLimit.{IsUnmarkedAt, KnowEachOther, KnowsOther, KnowsThroughout}
use Rattle.proof_stack.specs.Progress.Moving.{IsTcp}
use Rattle.proof_stack.specs.Progress.Reach.{hosts_before}
use Rattle.proof_stack.specs.Progress.Serving.{IsAtHost, WaitsForNone}
use Rattle.proof_stack.specs.Progress.Within.{NobodyWaits}
use Rattle.proof_stack.proofs.EventFacts.{both_now}
use Rattle.proof_stack.proofs.EventHeard.{one_pair}
use Rattle.proof_stack.proofs.EventIdle.{link_so}
use Rattle.proof_stack.proofs.EventItems.{AtItem, HasItem, Slots, at_by, at_found, at_so, both_at, brings, exchanged, set_at}
use Rattle.proof_stack.proofs.EventUnmarked.{IsSure, leaves_sure, mark_stays, sure_where_known}
use Rattle.proof_stack.proofs.Polls.Connected.{StaysLate, arrival_late, late_at, not_over, offer_late}
use Rattle.proof_stack.proofs.SentOff.{source_destination}

clash : {X : Type 0} → true ≡ false → X
clash {X} e = absurd cc

-- A SOCKET OF A CONNECTION, which is over, or has no mark where X holds

record Good (pair : FourTuple) (X : Type 0) (item : Item Socket) : Type 0 where
  u : TcpValue
  is : item.socket ≡ Kind.Tcp u
  late : is_early u.tcb.state ≡ false
  so : (is_closed u.tcb.state ≡ true) ⊎ ((u.tcb.names.pair ≡ Some pair) × (X → item.meta ≡ unmarked))

module _ (pair : FourTuple) where
  -- as the socket goes on
  good_on : (X X' : Type 0) (item item' : Item Socket) (g : Good pair X item) (new : TcpValue) → item'.socket ≡ Kind.Tcp new → StaysLate g.u new
      → (g.u.tcb.names.pair ≡ Some pair → (X → item.meta ≡ unmarked) → X' → item'.meta ≡ unmarked) → Good pair X' item'
  good_on X X' item item' g new is stays mark = record { u = new; is = is; late = stays.late; so = by g.so stays.pair } where
    by : (is_closed g.u.tcb.state ≡ true) ⊎ ((g.u.tcb.names.pair ≡ Some pair) × (X → item.meta ≡ unmarked))
        → (is_closed new.tcb.state ≡ true) ⊎ (new.tcb.names.pair ≡ g.u.tcb.names.pair)
        → (is_closed new.tcb.state ≡ true) ⊎ ((new.tcb.names.pair ≡ Some pair) × (X' → item'.meta ≡ unmarked))
    by (inl over) then_ = inl (stays.closed over)
    by (inr named) (inl over) = inl over
    by (inr named) (inr same) = inr (same ∙ named.0, mark named.0 named.1)

  narrower : (X X' : Type 0) → (X' → X) → (item : Item Socket) → Good pair X item → Good pair X' item
  narrower X X' back item g = record { u = g.u; is = g.is; late = g.late; so = by g.so } where
    by : (is_closed g.u.tcb.state ≡ true) ⊎ ((g.u.tcb.names.pair ≡ Some pair) × (X → item.meta ≡ unmarked))
        → (is_closed g.u.tcb.state ≡ true) ⊎ ((g.u.tcb.names.pair ≡ Some pair) × (X' → item.meta ≡ unmarked))
    by (inl over) = inl over
    by (inr named) = inr (named.0, λ x. named.1 (back x))

  quiet : (X : Type 0) (item : Item Socket) (s : Socket) → Good pair X item → ((u : TcpValue) → item.socket ≡ Kind.Tcp u → s ≡ Kind.Tcp u) →
      Good pair X (record item { socket = s })
  quiet X item s g same = record { u = g.u; is = same g.u g.is; late = g.late; so = g.so }

  segment : (X : Type 0) (cx : ContextValue) (ip : IpRepr) (header : TcpHeader) (bytes : List ℕ) (item : Item Socket) → Good pair X item →
      Good pair X (record item { socket = with_segment cx ip header bytes item.socket })
  segment X cx ip header bytes item g =
      good_on X X item (record item { socket = with_segment cx ip header bytes item.socket }) g (arrives cx g.u ip header bytes).socket
      (ap (with_segment cx ip header bytes) g.is) (arrival_late cx g.u ip header bytes g.late) (λ named mark x. mark x)

  -- A TURN

  is_offered : (cx : ContextValue) (u : TcpValue) (offered : Socket) (answer : Answer.Offer) → Offers cx (Kind.Tcp u) answer offered →
      offered ≡ Kind.Tcp (offer_of cx u).socket
  is_offered cx u (Kind.Raw w) answer offers = absurd offers
  is_offered cx u (Kind.Icmp w) answer offers = absurd offers
  is_offered cx u (Kind.Udp w) answer offers = absurd offers
  is_offered cx u (Kind.Dhcpv4 w) answer offers = absurd offers
  is_offered cx u (Kind.Dns w) answer offers = absurd offers
  is_offered cx u (Kind.Tcp w) answer offers = ap Kind.Tcp offers.1

  -- its packet is for the remote address
  for_remote : (cx : ContextValue) (u : TcpValue) (p : PacketValue) (o : Option OpenOffer) → (offer_of cx u).socket.offered ≡ o
      → packet_with o (offer_of cx u).socket.queued.queue ≡ Some p → u.tcb.names.pair ≡ Some pair → destination_of p.header ≡ remote_of pair.addresses
  for_remote cx u p None offered is named = absurd cc
  for_remote cx u p (Some o) offered is named =
      let ends = offer_between_ends cx u o offered in
      let between : GoesBetween pair o = subst (λ (q : FourTuple). GoesBetween q o) (one_pair ends.0 pair (sym ends.1 ∙ named)) ends.2 in
      let one : packet_of o.header (Segment o.segment (payload_of o o.kind (offer_of cx u).socket.queued.queue)) ≡ p = cc in
      ap (λ (q : PacketValue). destination_of q.header) (sym one) ∙ between.destination

  sourced_destination : (i : InnerValue) (p : PacketValue) → destination_of (sourced i p).header ≡ destination_of p.header
  sourced_destination i p = by (keeps_source i p) where
    by : (keeps : Bool) → destination_of (if keeps then p.header else with_source p.header (source_for i.addresses (destination_of p.header)))
        ≡ destination_of p.header
    by true = refl
    by false = source_destination p.header (source_for i.addresses (destination_of p.header))

  -- a socket that offers nothing goes on so, too
  none_offered : (o : Option PacketValue) (changed : Bool) → HasPacket (Offer.Silent changed) o → o ≡ None
  none_offered None changed has = refl
  none_offered (Some p) changed has = absurd has

  none_open : (o : Option OpenOffer) (queue : List ℕ) → packet_with o queue ≡ None → o ≡ None
  none_open None queue is = refl
  none_open (Some o) queue is = absurd cc

  silent_stays : (cx : ContextValue) (u : TcpValue) (changed : Bool) → is_early u.tcb.state ≡ false
      → Offers cx (Kind.Tcp u) (Offer.Silent changed) (Kind.Tcp (offer_of cx u).socket) → StaysLate u (offer_of cx u).socket
  silent_stays cx u changed late offers =
      let w : TcpValue = (offer_of cx u).socket in
      let none : w.offered ≡ None =
      none_open w.offered w.queued.queue
      (none_offered (offered_by (Kind.Tcp w)) changed (has_packet (Kind.Tcp u) (Kind.Tcp w) cx (Offer.Silent changed) offers)) in
      let same : TcpSettled.settled false w ≡ w = λ k. record w { offered = sym none k } in
      subst (StaysLate u) same (offer_late cx u false late)

  freed_so : (m : Meta) (known : Bool) → m ≡ unmarked → freed m known ≡ unmarked
  freed_so m true is = refl
  freed_so m false is = is

  freed_good : (X : Type 0) (i : InnerValue) (item : Item Socket) → Good pair X item → Good pair X (let_through i item)
  freed_good X i item g = record { u = g.u; is = g.is; late = g.late; so = by g.so } where
    by : (is_closed g.u.tcb.state ≡ true) ⊎ ((g.u.tcb.names.pair ≡ Some pair) × (X → item.meta ≡ unmarked))
        → (is_closed g.u.tcb.state ≡ true) ⊎ ((g.u.tcb.names.pair ≡ Some pair) × (X → freed item.meta (passes_filter i item.meta) ≡ unmarked))
    by (inl over) = inl over
    by (inr named) = inr (named.0, λ x. freed_so item.meta (passes_filter i item.meta) (named.1 x))

  module _ {D : Type 0} (moves : D → Move → D → Type 0) (turn : Option IpAddress) (X X' : Type 0) (back : X' → X) (x x' : Sender D) (to : HardwareAddress)
      (knows : X' → link_address x.inner (remote_of pair.addresses) ≡ Link.Known to) where
    sends_good : (item item' : Item Socket) (g : Good pair X item) (cx : ContextValue) (changed : Bool) (turned : Served) (o : Option PacketValue)
        → offered_packet (offer_of cx g.u).socket ≡ o
        → SendsBy moves turn o x (record item { socket = Kind.Tcp (offer_of cx g.u).socket }) changed turned x' item' → Good pair X' item'
    sends_good item item' g cx changed turned None is sends = absurd sends
    sends_good item item' g cx changed turned (Some p) is (leaving, from, formed, (sent, leaves, next, settles, well)) =
        good_on X X' item item' g (TcpSettled.settled (is_done sent) (offer_of cx g.u).socket) (ap (λ (y : Item Socket). y.socket) settles)
        (offer_late cx g.u (is_done sent) g.late)
        (λ named mark k.
        let there : link_address x.inner (destination_of leaving.header) ≡ Link.Known to =
        ap (λ (a : IpAddress). link_address x.inner a)
        (ap (λ (q : PacketValue). destination_of q.header) from ∙ sourced_destination x.inner p
        ∙ for_remote cx g.u p (offer_of cx g.u).socket.offered refl is named)
        ∙ knows k in
        let sure : IsSure (plan_at x leaving) = sure_where_known x.inner (is_some x.left) leaving.header to there in
        ap (λ (y : Item Socket). y.meta) settles
        ∙ mark_stays sent x.inner.instant (waits_until (plan_at x leaving) x'.inner) (destination_of leaving.header) item.meta
        (leaves_sure moves turn x x' item.meta leaving sent sure leaves) (mark (back k)))

    answers_good : (item item' : Item Socket) (g : Good pair X item) (cx : ContextValue) (answer : Answer.Offer) (turned : Served)
        → Offers cx (Kind.Tcp g.u) answer (Kind.Tcp (offer_of cx g.u).socket)
        → Answers moves turn answer x (record item { socket = Kind.Tcp (offer_of cx g.u).socket }) turned x' item' → Good pair X' item'
    answers_good item item' g cx (Offer.Silent changed) turned offers answers =
        good_on X X' item item' g (offer_of cx g.u).socket (ap (λ (y : Item Socket). y.socket) answers.2) (silent_stays cx g.u changed g.late offers)
        (λ named mark k. ap (λ (y : Item Socket). y.meta) answers.2)
    answers_good item item' g cx (Offer.Packet changed) turned offers answers =
        sends_good item item' g cx changed turned (offered_packet (offer_of cx g.u).socket) refl answers

    turns_good : (waits : Bool) (item item' : Item Socket) (turned : Served) → Good pair X item
        → TurnsIf moves turn waits x (let_through x.inner item) turned x' item' → Good pair X' item'
    turns_good true item item' turned g turns =
        subst (Good pair X') (sym turns.2) (narrower X X' back (let_through x.inner item) (freed_good X x.inner item g))
    turns_good false item item' turned g (answer, offered, offers, answers) =
        let through : Item Socket = let_through x.inner item in
        let h : Good pair X through = freed_good X x.inner item g in
        let cx : ContextValue = context_for x.inner through.socket in
        let asked : Offers cx (Kind.Tcp h.u) answer offered = subst (λ (s : Socket). Offers cx s answer offered) h.is offers in
        let is : offered ≡ Kind.Tcp (offer_of cx h.u).socket = is_offered cx h.u offered answer asked in
        answers_good through item' h cx answer turned (subst (λ (s : Socket). Offers cx (Kind.Tcp h.u) answer s) is asked)
        (subst (λ (s : Socket). Answers moves turn answer x (record through { socket = s }) turned x' item') is answers)

    item_good : (o o' : Option (Item Socket)) (turned : Served) → HasItem (Good pair X) o → ItemTurns moves turn o x turned x' o' → HasItem (Good pair X') o'
    item_good None None turned has turns = absurd has
    item_good None (Some item') turned has turns = absurd has
    item_good (Some item) (Some item') turned has turns = turns_good (is_waiting x.inner item.meta) item item' turned has turns
    item_good (Some item) None turned has turns = absurd turns

-- A POLL of a host at a port

module _ (i0 : InnerValue) (t : ℤ) (waits sent : List (List ℕ)) (pair : FourTuple) (to : HardwareAddress) (n : ℕ) where
  abbrev Knows : Frames → InnerValue → Type 0
  Knows F i = KnowsHop i0 t F.taken i (remote_of pair.addresses) to

  abbrev T : Frames → PortValue → Type 0
  T = TookOf waits sent

  record Stays (s : State PortValue) : Type 0 where
    frames : Frames
    taken : T frames s.device
    since : IsSince i0 s.host.inner
    hop_limit : HopLimit i0 t frames.taken s.host.inner
    good : AtItem (Good pair (Knows frames s.host.inner)) s.slots n

  none : (F : Frames) (d : PortValue) → T F d → Sent T F d
  none F d taken = none_sent PortMove T (taking_ports waits sent) F d taken

  on : (F : Frames) (d d' : PortValue) (m : Move) → IsNoTake m → PortMove d m d' → Sent T F d → Sent T F d'
  on F = sent_on PortMove T (taking_ports waits sent) F

  narrowed : (F F' : Frames) (i i' : InnerValue) → (Knows F' i' → Knows F i) → (ps : Slots) → AtItem (Good pair (Knows F i)) ps n
      → AtItem (Good pair (Knows F' i')) ps n
  narrowed F F' i i' back ps good = at_so (Good pair (Knows F i)) (Good pair (Knows F' i')) (narrower pair (Knows F i) (Knows F' i') back) ps n good

  read : (s s' : State PortValue) → RunsAt t s.host.inner → Stays s → (took : Takes PortMove s (Some true) s') → Stays s'
  read s s' runs q (frame, mid, took, is_read, (content, is, receives, hears)) =
      let a = receives.0 in
      let same = receives_same PortMove content (at_device s mid) s' receives in
      let with_it : Frames = and_taken q.frames frame in
      let out : Sent T with_it s'.device =
      reads PortMove (Sent T with_it) (on with_it) s s' (frame, mid, took, is_read, (content, is, receives, hears))
      (none with_it mid ((taking_ports waits sent).takes s.device mid s.host.inner.instant frame q.frames took q.taken)) in
      let F : Frames = and_gone with_it out.more in
      let brings_it = receives.1.1 in
      let later = hop_limit_arrival i0 s.host.inner t frame s.host.timeout s.host.assemblers s.slots content a q.since.0 runs.0 same.0 is brings_it q.frames.taken q.hop_limit in
      let X : Type 0 = Knows q.frames s.host.inner in
      let back : Knows F s'.host.inner → X =
      λ k. knew_before i0 s.host.inner t frame s.host.timeout s.host.assemblers s.slots content a q.since.0 runs.0 same.0 is brings_it q.frames.taken
      (remote_of pair.addresses) to (knew_out i0 t with_it.taken a.inner s'.host.inner same.1 (remote_of pair.addresses) to k) in
      let then_good : AtItem (Good pair X) a.slots n =
      brings (Good pair X) (quiet pair X) (segment pair X) n s.host.inner s.slots (brought s content) a brings_it q.good in
      record {
        frames = F;
        taken = out.taken;
        since = since_out i0 a.inner s'.host.inner same.1 (since_arrival i0 s.host.inner a.inner same.0
            (brings_later s.host.inner s.slots (brought s content) a brings_it) q.since);
        hop_limit = hop_limit_out i0 t with_it.taken a.inner s'.host.inner same.1 later;
        good = subst (λ (ps : Slots). AtItem (Good pair (Knows F s'.host.inner)) ps n) (sym receives.2)
            (narrowed q.frames F s.host.inner s'.host.inner back a.slots then_good);
      }

  arrivals : (s s' : State PortValue) (answer : Option Bool) → RunsAt t s.host.inner → Stays s → Takes PortMove s answer s' → Stays s'
  arrivals s s' None runs q took = subst Stays (sym took.1) (record {
    frames = q.frames;
    taken = (taking_ports waits sent).rests s.device s'.device (Empty s.host.inner.instant) q.frames tt took.0 q.taken;
    since = q.since;
    hop_limit = q.hop_limit;
    good = q.good;
  })
  arrivals s s' (Some false) runs q took = subst Stays (sym took.3) (record {
    frames = and_taken q.frames took.0;
    taken = (taking_ports waits sent).takes s.device s'.device s.host.inner.instant took.0 q.frames took.1 q.taken;
    since = q.since;
    hop_limit = hop_limit_skip i0 t q.frames.taken (took.0 ∷ []) s.host.inner q.hop_limit;
    good = narrowed q.frames (and_taken q.frames took.0) s.host.inner s.host.inner
        (λ k. knew i0 t q.frames.taken (took.0 ∷ []) s.host.inner s.host.inner (remote_of pair.addresses) to (λ room. room) k) s.slots q.good;
  })
  arrivals s s' (Some true) runs q took = read s s' runs q took

  fragments : (h : HostValue) (ps : Slots) (x x' : Sender PortValue) (l : LeftValue) (gone : Bool) → Stays (sending_as h x ps) → FragmentLeaves PortMove l x gone x'
      → x'.inner ≡ x.inner → Stays (sending_as h x' ps)
  fragments h ps x x' l gone q leaves same =
      let out : Sent T q.frames x'.device = fragment_leaves PortMove (Sent T q.frames) (on q.frames) l x x' gone leaves (none q.frames x.device q.taken) in
      let F : Frames = and_gone q.frames out.more in
      record {
        frames = F;
        taken = out.taken;
        since = subst (IsSince i0) (sym same) q.since;
        hop_limit = subst (HopLimit i0 t q.frames.taken) (sym same) q.hop_limit;
        good = narrowed q.frames F x.inner x'.inner (λ k. subst (λ (i : InnerValue). Knows q.frames i) same k) ps q.good;
      }

  parked_so : (h : HostValue) (ps : Slots) (x x' : Sender PortValue) (all : Bool) → x.inner.host_requirements ≡ true → Stays (sending_as h x ps)
      → ServesParked PortMove x all x' → Stays (sending_as h x' ps)
  parked_so h ps x x' all many q serves =
      let same : IsSameHost x.inner x'.inner = serves_same PortMove x x' all many serves in
      let out : Sent T q.frames x'.device = parked PortMove (Sent T q.frames) (on q.frames) x x' all (none q.frames x.device q.taken) serves in
      let F : Frames = and_gone q.frames out.more in
      record {
        frames = F;
        taken = out.taken;
        since = since_out i0 x.inner x'.inner same q.since;
        hop_limit = hop_limit_out i0 t q.frames.taken x.inner x'.inner same q.hop_limit;
        good = narrowed q.frames F x.inner x'.inner (λ k. knew_out i0 t q.frames.taken x.inner x'.inner same (remote_of pair.addresses) to k) ps q.good;
      }

  turns : (turn : Option IpAddress) (h : HostValue) (before after : Slots) (p p' : SocketStorage Socket) (x x' : Sender PortValue) (turned : Served)
      → RunsAt t x.inner → Stays (sending_as h x (before ++ p ∷ after)) → ServesSlot PortMove turn x p turned x' p' → Stays (sending_as h x' (before ++ p' ∷ after))
  turns turn h before after p p' x x' turned runs q took =
      let same : IsSameHost x.inner x'.inner = slot_same PortMove turn x x' p p' turned took in
      let out : Sent T q.frames x'.device =
      slot_turns PortMove (Sent T q.frames) (on q.frames) turn x x' (none q.frames x.device q.taken) p p' turned took in
      let F : Frames = and_gone q.frames out.more in
      let X : Type 0 = Knows q.frames x.inner in
      let X' : Type 0 = Knows F x'.inner in
      let back : X' → X = λ k. knew_out i0 t q.frames.taken x.inner x'.inner same (remote_of pair.addresses) to k in
      let knows : X' → link_address x.inner (remote_of pair.addresses) ≡ Link.Known to =
      λ k. hop_now x.inner t (remote_of pair.addresses) to runs.0 (q.hop_limit (remote_of pair.addresses) to (back k)) in
      record {
        frames = F;
        taken = out.taken;
        since = since_out i0 x.inner x'.inner same q.since;
        hop_limit = hop_limit_out i0 t q.frames.taken x.inner x'.inner same q.hop_limit;
        good = exchanged (Good pair X) (Good pair X') (narrower pair X X' back) before after p p' n
            (λ has. item_good pair PortMove turn X X' back x x' to knows p.inner p'.inner turned has took) q.good;
      }

  kept : IsKept PortMove t Stays
  kept = record {
    maintenance = λ s q. record {
      frames = q.frames;
      taken = q.taken;
      since = since_begun i0 s.host.inner t q.since;
      hop_limit = q.hop_limit;
      good = q.good;
    };
    arrivals = λ s s' answer runs q took. arrivals s s' answer runs q took;
    fragments = λ h ps x x' l gone runs is q leaves same. fragments h ps x x' l gone q leaves same;
    parked = λ h ps x x' all runs many q serves. parked_so h ps x x' all many q serves;
    turns = λ turn h before after p p' x x' turned runs q took. turns turn h before after p p' x x' turned runs q took;
  }

  polled : (budget : ℕ) (s s' : State PortValue) (changed : Bool) → Stays s → Polled PortMove t budget s changed s' → Stays s'
  polled budget s s' changed q polls = (polls_keep PortMove t Stays kept budget s s' changed q polls).0

-- THE SOCKET AT A PLACE OF A HOST

abbrev IsConnectedItem : FourTuple → Item Socket → Type 0
IsConnectedItem pair item = (v : TcpValue) × (item.socket ≡ Kind.Tcp v) × IsConnected pair v

of_item : (pair : FourTuple) (o : Option (Item Socket)) → IsTcp (seen_slot (record { inner = o })) (IsConnected pair) → HasItem (IsConnectedItem pair) o
of_item pair None is = absurd is
of_item pair (Some item) is = by item.socket refl is where
  by : (s : Socket) → item.socket ≡ s → IsTcp (seen s) (IsConnected pair) → IsConnectedItem pair item
  by (Kind.Tcp v) e is = (v, e, is)
  by (Kind.Udp v) e is = absurd is
  by (Kind.Raw v) e is = absurd is
  by (Kind.Icmp v) e is = absurd is
  by (Kind.Dhcpv4 v) e is = absurd is
  by (Kind.Dns v) e is = absurd is

at_item_of : (pair : FourTuple) (ps : Slots) (n : ℕ) → IsTcp (slice_index_or (sockets_of ps) n None) (IsConnected pair) → AtItem (IsConnectedItem pair) ps n
at_item_of pair [] zero is = absurd is
at_item_of pair [] (suc n) is = absurd is
at_item_of pair (p ∷ ps) zero is = of_item pair p.inner is
at_item_of pair (p ∷ ps) (suc n) is = at_item_of pair ps n is

abbrev Unmarked : Item Socket → Type 0
Unmarked item = item.meta ≡ unmarked

same_tcp : (v w : TcpValue) → Kind.Tcp v ≡ Kind.Tcp w → v ≡ w
same_tcp v w e = cc

begins_good : (pair : FourTuple) (X : Type 0) (item : Item Socket) → Unmarked item × IsConnectedItem pair item → Good pair X item
begins_good pair X item (mark, (v, is, there)) = record { u = v; is = is; late = late_at v.tcb.state there.0; so = inr (there.1, λ x. mark) }

ends_good : (pair : FourTuple) (X : Type 0) → X → (item : Item Socket) → Good pair X item × IsConnectedItem pair item → Unmarked item
ends_good pair X x item (g, (v, is, there)) = by g.so where
  same : g.u ≡ v
  same = same_tcp g.u v (sym g.is ∙ is)

  by : (is_closed g.u.tcb.state ≡ true) ⊎ ((g.u.tcb.names.pair ≡ Some pair) × (X → item.meta ≡ unmarked)) → Unmarked item
  by (inl over) =
      clash (sym over ∙ ap (λ (w : TcpValue). is_closed w.tcb.state) same ∙ not_over v.tcb.state there.0)
  by (inr named) = named.1 x

-- ONE EVENT

module _ (pair : FourTuple) (to : HardwareAddress) (n : ℕ) where
  abbrev Free : NodeValue → Type 0
  Free s = AtItem Unmarked s.slots n

  module _ (s s' : NodeValue) (i : ℕ) (call : SocketCall) (answer : Answered) (found_it : Option States.State) (here : Free s) where
    did_so : (slot : SocketStorage Socket) (item : Item Socket) → slice_get s.slots i ≡ Some slot → slot.inner ≡ Some item → (o : Option (Did Socket))
        → DidAt s i item call o answer found_it s' → Free s'
    did_so slot item at is None did = absurd did
    did_so slot item at is (Some d) did =
        subst Free (sym did.2) (set_at Unmarked s.slots i n slot _ at (λ has. subst (HasItem Unmarked) is has) here)

    item_so : (slot : SocketStorage Socket) (o : Option (Item Socket)) → slice_get s.slots i ≡ Some slot → slot.inner ≡ o
        → ItemDoes s i o call answer found_it s' → Free s'
    item_so slot None at is did = absurd did
    item_so slot (Some item) at is did = did_so slot item at is (does (context_of s.host.inner) item.socket call) did

    slot_so : (o : Option (SocketStorage Socket)) → slice_get s.slots i ≡ o → SlotDoes s i o call answer found_it s' → Free s'
    slot_so None at did = absurd did
    slot_so (Some slot) at did = item_so slot slot.inner at refl did

  polls_so : (s s' : NodeValue) (t : ℤ) (budget : ℕ) (answer : Answered) (found_it : Option States.State) → Acts s (Polls t budget) answer found_it s'
      → KnowsThroughout t s s' (remote_of pair.addresses) to → IsAtHost n s (IsConnected pair) → IsAtHost n s' (IsConnected pair) → Free s → Free s'
  polls_so s s' t budget answer found_it (changed, at, told, none_denied) knows connected then_connected here =
      let i0 : InnerValue = s.host.inner in
      let X : Type 0 = KnowsHop i0 t [] i0 (remote_of pair.addresses) to in
      let start : Stays i0 t s.link.waiting s.link.sent pair to n (at_port at.port s) =
      record {
        frames = no_frames;
        taken = (ap (λ (l : LinkEnd). l.waiting) (sym at.before), ap (λ (l : LinkEnd). l.sent) at.before ∙ sym (append-nil s.link.sent));
        since = since_itself i0;
        hop_limit = hop_limit_first i0 t;
        good = at_so (λ item. Unmarked item × IsConnectedItem pair item) (Good pair X) (begins_good pair X) s.slots n
            (both_at Unmarked (IsConnectedItem pair) s.slots n here (at_item_of pair s.slots n connected));
      } in
      let end = polled i0 t s.link.waiting s.link.sent pair to n budget (at_port at.port s) (at_port at.port_after s') changed start at.polls in
      let Y : Type 0 = KnowsHop i0 t end.frames.taken s'.host.inner (remote_of pair.addresses) to in
      let known : Y = knows end.frames.taken (end.taken.0 ∙ ap (λ (l : LinkEnd). end.frames.taken ++ l.waiting) at.after) in
      at_so (λ item. Good pair Y item × IsConnectedItem pair item) Unmarked (ends_good pair Y known) s'.slots n
      (both_at (Good pair Y) (IsConnectedItem pair) s'.slots n end.good (at_item_of pair s'.slots n then_connected))

module _ (own : Side → HardwareAddress) (pairs : Side → FourTuple) (slots : Side → ℕ) (old new : Nodes)
    (connected : AreBoth (λ side. IsConnected (pairs side)) slots old) (then_connected : AreBoth (λ side. IsConnected (pairs side)) slots new) where
  abbrev FreeAt : Nodes → Side → Type 0
  FreeAt hosts side = AtItem Unmarked (node hosts side).slots (slots side)

  acts_so : (host : Side) (act : Act) (answer : Answered) (found_it : Option States.State) → Acts (node old host) act answer found_it (node new host)
      → KnowsOther own pairs (OfHost host act) old new → FreeAt old host → FreeAt new host
  acts_so host (Calls i call) answer found_it acts known here =
      slot_so (pairs host) (own host) (slots host) (node old host) (node new host) i call answer found_it here (slice_get (node old host).slots i) refl acts
  acts_so host (Sets setting) answer found_it acts known here =
      subst (λ (s : NodeValue). AtItem Unmarked s.slots (slots host)) (sym acts.0.3) here
  acts_so host (Opens k) answer found_it acts known here = subst (λ (s : NodeValue). AtItem Unmarked s.slots (slots host)) (sym acts.2) here
  acts_so host (Asks instant) answer found_it acts known here = subst (λ (s : NodeValue). AtItem Unmarked s.slots (slots host)) (sym acts.2) here
  acts_so host (Polls t budget) answer found_it acts known here =
      polls_so (pairs host) (own (other host)) (slots host) (node old host) (node new host) t budget answer found_it acts known.1 (connected host)
      (then_connected host) here

  kind_so : (k : Kind) (answer : Answered) (found_it : Option States.State) → Happens old k answer found_it new → KnowsOther own pairs k old new
      → ((s : Side) → FreeAt old s) → (s : Side) → FreeAt new s
  kind_so (OfHost host act) answer found_it happens known here =
      either_side host (FreeAt new) (acts_so host act answer found_it happens.acts known (here host))
      (subst (λ (s : NodeValue). AtItem Unmarked s.slots (slots (other host))) (sym happens.rests) (here (other host)))
  kind_so (OfLink act) answer found_it happens known here = λ s.
      subst (λ (ps : Slots). AtItem Unmarked ps (slots s))
      (sym (ap (λ (hosts : Nodes). (node hosts s).slots) happens.2 ∙ link_so old act s)) (here s)

-- ALL EVENTS

module _ (starts : Starts) (slots : Side → ℕ) (own : Side → HardwareAddress) (pairs : Side → FourTuple) where
  free_first : (hosts : Nodes) → AreBoth (λ side. IsConnected (pairs side)) slots hosts → ((s : Side) → IsUnmarkedAt (slots s) (node hosts s)) → (s : Side)
      → AtItem Unmarked (node hosts s).slots (slots s)
  free_first hosts connected first s =
      at_by (IsConnectedItem (pairs s)) Unmarked (node hosts s).slots (slots s) (first s) (at_item_of (pairs s) (node hosts s).slots (slots s) (connected s))

  all_free : (past more : List Entry) (hosts : Nodes) (still : StillRun starts (more ++ past) hosts) → AreConnected starts slots pairs past more hosts still
      → KnowEachOther own pairs starts past more hosts still
      → ((s : Side) → IsUnmarkedAt (slots s) (node (hosts_before starts past more hosts still) s)) → (s : Side)
      → AtItem Unmarked (node hosts s).slots (slots s)
  all_free past [] hosts still connected known first = free_first hosts connected first
  all_free past (e ∷ more) hosts still connected known first =
      kind_so own pairs slots still.0 hosts (both_now (λ side. IsConnected (pairs side)) starts slots past more still.0 still.1 connected.0) connected.1
      (kind_of e.event) e.answer e.found still.2.happens known.1 (all_free past more still.0 still.1 connected.0 known.0 first)

pub nobody_waits : (starts : Starts) (past more : List Entry) (hosts : Nodes) (still : StillRun starts (more ++ past) hosts) (slots : Side → ℕ)
    (own : Side → HardwareAddress) (pairs : Side → FourTuple) → AreConnected starts slots pairs past more hosts still
    → KnowEachOther own pairs starts past more hosts still
    → ((side : Side) → IsUnmarkedAt (slots side) (node (hosts_before starts past more hosts still) side)) → (side : Side)
    → WaitsForNone (slots side) (node hosts side)
nobody_waits starts past more hosts still slots own pairs connected known first side at item there is =
    let mark : item.meta ≡ unmarked =
    at_found Unmarked (node hosts side).slots (slots side) at item there is (all_free starts slots own pairs past more hosts still connected known first side) in
    ap (λ (m : Meta). is_waiting (node hosts side).host.inner m) mark

-- after each event
pub nobody_waits_throughout : (starts : Starts) (past more : List Entry) (hosts : Nodes) (still : StillRun starts (more ++ past) hosts) (slots : Side → ℕ)
    (own : Side → HardwareAddress) (pairs : Side → FourTuple) → AreConnected starts slots pairs past more hosts still
    → KnowEachOther own pairs starts past more hosts still
    → ((side : Side) → IsUnmarkedAt (slots side) (node (hosts_before starts past more hosts still) side))
    → NobodyWaits starts slots past more hosts still
nobody_waits_throughout starts past [] hosts still slots own pairs connected known first =
    nobody_waits starts past [] hosts still slots own pairs connected known first
nobody_waits_throughout starts past (e ∷ more) hosts still slots own pairs connected known first = (
  nobody_waits_throughout starts past more still.0 still.1 slots own pairs connected.0 known.0 first,
  nobody_waits starts past (e ∷ more) hosts still slots own pairs connected known first,
)
