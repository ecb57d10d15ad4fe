-- A socket with its connection, and those before it, as the frames of a poll are read: its segments stay for it.
use Rattle.std.proofs.Common.{◌≡◌, ℕ, ◌<◌, ◌&&◌, Bool, true, false, if◌then◌else◌, not, ◌⊎◌, inl, inr, ℤ, List, [], ◌∷◌, get_or, Option, Some, None}
use Rattle.std.proofs.Common.{refl, sym, ap, ◌∙◌, subst, arith}
use Rattle.std.proofs.lemmas.Bool.{cond_both}
use Rattle.std.proofs.lemmas.List.Quantifiers.{position-Some}
use Rattle.net_base.specs.ChecksumCapabilities.{ChecksumCapabilities}
use Rattle.net_base.specs.Device.{Move}
use Rattle.iface_ingress.specs.Icmpv4Header.{Icmpv4Header}
use Rattle.iface_ingress.specs.Icmpv6.{MessageValue}
use Rattle.wire_ip.specs.declared.ip.repr.IpRepr.{IpRepr}
use Rattle.wire_ip.specs.declared.ipv4.repr.Ipv4Repr.{Ipv4Repr}
use Rattle.wire_ip.specs.declared.ipv6.repr.Ipv6Repr.{Ipv6Repr}
use Rattle.wire_ip.specs.declared.udp.repr.UdpRepr.{UdpRepr}
use Rattle.ip_wire.specs.TcpHeader.{TcpHeader}
use Rattle.tcp_state.specs.Endpoints.{is_between, is_connected_by, pair_in}
use Rattle.tcp_state.specs.States.{is_closed, is_listening}
use Rattle.tcp_state.specs.declared.endpoints.FourTuple.{FourTuple}
use Rattle.tcp_state.specs.declared.state.State.{State as TcpState}
use Rattle.tcp_state.specs.declared.state.State.TheVariants as In
use Rattle.tcp_block.specs.Arrival.{arrives, arrives_in, is_void_syn}
use Rattle.tcp_block.specs.Names.{accepts, accepts_in}
use Rattle.tcp_block.specs.Offers.{offer_of}
use Rattle.tcp_block.specs.Opening.{is_first_syn, opens}
use Rattle.tcp_block.specs.Settled.{settled}
use Rattle.tcp_block.specs.Value.{Arrived as TcpArrived, TcpValue, dropped, unoffered}
use Rattle.tcp_block.specs.declared.tcb.Tcb.{Tcb}
use Rattle.tcp_refinement.specs.Endpoints.{IsLeftBy, IsRenamed}
use Rattle.tcp_refinement.specs.Run.Event.{Offers}
use Rattle.tcp_refinement.proofs.NameLaws.{arrival_names, sent_names, withheld_names}
use Rattle.tcp_liveness.specs.Arrivals.{is_synchronized}
use Rattle.tcp_liveness.specs.Sent.{is_early}
use Rattle.tcp_liveness.proofs.Calm.{arrival_calm, offer_calm, refused_calm}
use Rattle.tcp_liveness.proofs.Comes.{closed_stays, early_answering}
use Rattle.iface_ingress.specs.Context.{ContextValue}
use Rattle.iface_ingress.specs.Datagrams.{TakesDatagram}
use Rattle.iface_ingress.specs.Delivered.{Slots, first_slot, is_connected, passes, passes_in, with_icmpv4, with_icmpv6, with_packet}
use Rattle.iface_ingress.specs.Delivered.{with_segment}
use Rattle.iface_ingress.specs.Socket.{Socket}
use Rattle.iface_ingress.specs.Socket.TheVariants as Kind
use Rattle.iface_ingress.specs.UpperLayer.{IsSegment}
use Rattle.iface_ingress.specs.Upper.{upper_header, upper_payload}
use Rattle.iface_egress.specs.Set.{free}
use Rattle.iface_egress.specs.declared.socket_set.Item.{Item}
use Rattle.interface.specs.State.{State}
use Rattle.proof_stack.specs.PeerHost.SocketRun.{Event}
use Rattle.proof_stack.specs.PeerHost.SocketRun.Event.{Comes, Connects, Does, Listens, Sends}
use Rattle.proof_stack.specs.PeerHost.ReachedSocket.{after, after_all}
use Rattle.proof_stack.specs.PeerHost.Streams.{AreOfPoll, IsOfPoll}
use Rattle.proof_stack.proofs.Peers.Arrivals.{IsOfArrivals}
use Rattle.proof_stack.proofs.Peers.Place.{AtOr, HoldsAt, ItemOr}
use Rattle.proof_stack.proofs.Polls.Fills.{Fills, arrival_fills, fills_itself, fills_then, sent_fills, withheld_fills}
use Rattle.proof_stack.proofs.Polls.Stays.{Stands, at_from, from_at, position_is, stands_at}

clash : {X : Type 0} → true ≡ false → X
clash {X} e = absurd cc

-- A CONNECTION THAT IS THERE, OR OVER

listening_early : (state : TcpState) → is_listening state ≡ true → is_early state ≡ true
listening_early In.Listen is = refl
listening_early other is = absurd (cc)

pub late_at : (state : TcpState) → is_synchronized state ≡ true → is_early state ≡ false
late_at In.Closed is = absurd (cc)
late_at In.Listen is = absurd (cc)
late_at In.SynSent is = absurd (cc)
late_at In.SynReceived is = absurd (cc)
late_at other is = refl

pub not_over : (state : TcpState) → is_synchronized state ≡ true → is_closed state ≡ false
not_over In.Closed is = absurd (cc)
not_over other is = refl

pub not_listening : (state : TcpState) → is_early state ≡ false → is_listening state ≡ false
not_listening In.Listen late = absurd (cc)
not_listening other late = refl

-- An event of a poll leaves a socket with its connection, or one whose connection is over: the first has the same endpoints still, or its connection is
-- over; the second stays as it is. Whether timestamps were agreed on stays, too. Its receive buffer fills.
pub record StaysLate (v new : TcpValue) : Type 0 where
  pub late : is_early new.tcb.state ≡ false
  pub closed : is_closed v.tcb.state ≡ true → is_closed new.tcb.state ≡ true
  pub pair : (is_closed new.tcb.state ≡ true) ⊎ (new.tcb.names.pair ≡ v.tcb.names.pair)
  pub stamps : new.tcb.peer.timestamps ≡ v.tcb.peer.timestamps
  pub fills : Fills v.received new.received

left_late : (v new : TcpValue) → is_early v.tcb.state ≡ false → is_early new.tcb.state ≡ false
    → (is_closed v.tcb.state ≡ true → is_closed new.tcb.state ≡ true) → new.tcb.peer.timestamps ≡ v.tcb.peer.timestamps → Fills v.received new.received
    → IsLeftBy v.tcb new.tcb → StaysLate v new
left_late v new late then_late closed stamps fills (inl falls) = clash (sym (early_answering v.tcb.state falls.answering) ∙ late)
left_late v new late then_late closed stamps fills (inr (inl keeps)) =
    record { late = then_late; closed = closed; pair = inr (λ k. (keeps.names k).pair); stamps = stamps; fills = fills }
left_late v new late then_late closed stamps fills (inr (inr forgets)) = record { late = then_late; closed = closed; pair = inl forgets.state; stamps = stamps; fills = fills }

renamed_late : (v new : TcpValue) (ip : IpRepr) (header : TcpHeader) → is_early v.tcb.state ≡ false → is_early new.tcb.state ≡ false
    → (is_closed v.tcb.state ≡ true → is_closed new.tcb.state ≡ true) → new.tcb.peer.timestamps ≡ v.tcb.peer.timestamps
    → Fills v.received new.received → IsRenamed ip header v.tcb new.tcb → StaysLate v new
renamed_late v new ip header late then_late closed stamps fills (inl opened) = clash (sym (listening_early v.tcb.state opened.listening) ∙ late)
renamed_late v new ip header late then_late closed stamps fills (inr left) = left_late v new late then_late closed stamps fills left

pub arrival_late : (cx : ContextValue) (v : TcpValue) (ip : IpRepr) (header : TcpHeader) (bytes : List ℕ) → is_early v.tcb.state ≡ false
    → StaysLate v (arrives cx v ip header bytes).socket
arrival_late cx v ip header bytes late =
    let calm = arrival_calm cx ip header bytes v late in
    renamed_late v (arrives cx v ip header bytes).socket ip header late (calm.early late) calm.closed calm.stamps
    (arrival_fills cx ip header bytes v late) (arrival_names cx v ip header bytes)

pub offer_late : (cx : ContextValue) (v : TcpValue) (sent : Bool) → is_early v.tcb.state ≡ false → StaysLate v (settled sent (offer_of cx v).socket)
offer_late cx v true late = let calm = offer_calm cx v late in left_late v _ late (calm.early late) calm.closed calm.stamps (sent_fills cx v late) (sent_names cx v)
offer_late cx v false late = let calm = refused_calm cx v late in left_late v _ late (calm.early late) calm.closed calm.stamps (withheld_fills cx v late) (withheld_names cx v)

pub then_late : (v mid new : TcpValue) → StaysLate v mid → StaysLate mid new → StaysLate v new
then_late v mid new one two =
    record { late = two.late; closed = λ over. two.closed (one.closed over); pair = by one.pair two.pair; stamps = two.stamps ∙ one.stamps; fills = fills_then v.received mid.received new.received one.fills two.fills }
  where
    by : (is_closed mid.tcb.state ≡ true) ⊎ (mid.tcb.names.pair ≡ v.tcb.names.pair)
        → (is_closed new.tcb.state ≡ true) ⊎ (new.tcb.names.pair ≡ mid.tcb.names.pair)
        → (is_closed new.tcb.state ≡ true) ⊎ (new.tcb.names.pair ≡ v.tcb.names.pair)
    by (inl over) last = inl (two.closed over)
    by (inr same) (inl over) = inl over
    by (inr same) (inr last) = inr (last ∙ same)

module _ {D : Type 0} (moves : D → Move → D → Type 0) (t : ℤ) (from : State D) where
  event_late : (v : TcpValue) (event : Event) → IsOfPoll moves t from v event → is_early v.tcb.state ≡ false → StaysLate v (after v event)
  event_late v (Comes cx ip header bytes) is late = arrival_late cx v ip header bytes late
  event_late v (Does (Offers cx sent)) is late = offer_late cx v sent late
  event_late v (Does other) is late = absurd is
  event_late v (Listens endpoint) is late = absurd is
  event_late v (Connects cx remote local) is late = absurd is
  event_late v (Sends bytes) is late = absurd is

  pub events_late : (v : TcpValue) (events : List Event) → AreOfPoll moves t from v events → is_early v.tcb.state ≡ false
      → StaysLate v (after_all v events)
  events_late v [] are late = record { late = late; closed = λ over. over; pair = inr refl; stamps = refl; fills = fills_itself v.received }
  events_late v (event ∷ events) are late =
      let one = event_late v event are.0 late in
      then_late v (after v event) (after_all (after v event) events) one (events_late (after v event) events are.1 one.late)

-- FOR THE SEGMENTS OF ITS CONNECTION

module _ (ip : IpRepr) (header : TcpHeader) where
  -- the socket has the connection of such a segment
  abbrev pub Has : Socket → Bool
  Has s = is_connected s ip header

  by_pair : (state : TcpState) (b : Tcb) → is_early state ≡ false → is_closed state ≡ false → accepts_in state b ip header ≡ is_connected_by b.names.pair ip header
  by_pair In.Closed b late on = clash on
  by_pair In.Listen b late on = clash late
  by_pair In.SynSent b late on = clash late
  by_pair In.SynReceived b late on = clash late
  by_pair other b late on = refl

  has_by_pair : (v : TcpValue) → is_early v.tcb.state ≡ false → is_closed v.tcb.state ≡ false
      → Has (Kind.Tcp v) ≡ is_connected_by v.tcb.names.pair ip header
  has_by_pair v late on =
      ap (λ (listens : Bool). not listens && accepts v.tcb ip header) (not_listening v.tcb.state late) ∙ by_pair v.tcb.state v.tcb late on

  pub still_has : (v new : TcpValue) → is_early v.tcb.state ≡ false → StaysLate v new → is_closed new.tcb.state ≡ false → Has (Kind.Tcp v) ≡ true
      → Has (Kind.Tcp new) ≡ true
  still_has v new late stays on has = by (is_closed v.tcb.state) refl stays.pair where
    by : (over : Bool) → is_closed v.tcb.state ≡ over → (is_closed new.tcb.state ≡ true) ⊎ (new.tcb.names.pair ≡ v.tcb.names.pair)
        → Has (Kind.Tcp new) ≡ true
    by true is same = clash (sym (stays.closed is) ∙ on)
    by false is (inl over) = clash (sym over ∙ on)
    by false is (inr same) =
        has_by_pair new stays.late on ∙ ap (λ (o : Option FourTuple). is_connected_by o ip header) same ∙ sym (has_by_pair v late is) ∙ has

  -- THE OTHERS don't get the connection of such a segment from another one

  has_not : (state : TcpState) (b : Tcb) → is_connected_by b.names.pair ip header ≡ false → (not (is_listening state) && accepts_in state b ip header) ≡ false
  has_not In.Closed b none = refl
  has_not In.Listen b none = refl
  has_not In.SynSent b none = none
  has_not In.SynReceived b none = none
  has_not In.Established b none = none
  has_not In.FinWait1 b none = none
  has_not In.FinWait2 b none = none
  has_not In.CloseWait b none = none
  has_not In.Closing b none = none
  has_not In.LastAck b none = none
  has_not In.TimeWait b none = none

  pair_not : (state : TcpState) (b : Tcb) → is_closed state ≡ false → is_listening state ≡ false
      → (not (is_listening state) && accepts_in state b ip header) ≡ false → is_connected_by b.names.pair ip header ≡ false
  pair_not In.Closed b on off none = clash on
  pair_not In.Listen b on off none = clash off
  pair_not In.SynSent b on off none = none
  pair_not In.SynReceived b on off none = none
  pair_not In.Established b on off none = none
  pair_not In.FinWait1 b on off none = none
  pair_not In.FinWait2 b on off none = none
  pair_not In.CloseWait b on off none = none
  pair_not In.Closing b on off none = none
  pair_not In.LastAck b on off none = none
  pair_not In.TimeWait b on off none = none

  closed_not : (state : TcpState) (b : Tcb) → is_closed state ≡ true → (not (is_listening state) && accepts_in state b ip header) ≡ false
  closed_not In.Closed b over = refl
  closed_not other b over = absurd (cc)

  listening_not : (state : TcpState) (b : Tcb) → is_listening state ≡ true → (not (is_listening state) && accepts_in state b ip header) ≡ false
  listening_not In.Listen b over = refl
  listening_not other b over = absurd (cc)

  abbrev pub HasNot : Socket → Type 0
  HasNot s = Has s ≡ false

  -- a segment between other endpoints
  module _ (cx : ContextValue) (ip' : IpRepr) (header' : TcpHeader) (bytes : List ℕ) (apart : is_between (pair_in ip' header') ip header ≡ false) where
    none_by : (new : TcpValue) (o : Option FourTuple) → new.tcb.names.pair ≡ o → is_connected_by o ip header ≡ false → HasNot (Kind.Tcp new)
    none_by new o is none =
        has_not new.tcb.state new.tcb (ap (λ (x : Option FourTuple). is_connected_by x ip header) is ∙ none)

    renamed_not : (v new : TcpValue) → is_connected_by v.tcb.names.pair ip header ≡ false → IsRenamed ip' header' v.tcb new.tcb → HasNot (Kind.Tcp new)
    renamed_not v new none (inl opened) = none_by new (Some (pair_in ip' header')) (λ k. (opened.names k).pair) apart
    renamed_not v new none (inr (inl falls)) = listening_not new.tcb.state new.tcb falls.state
    renamed_not v new none (inr (inr (inl keeps))) = none_by new v.tcb.names.pair (λ k. (keeps.names k).pair) none
    renamed_not v new none (inr (inr (inr forgets))) = closed_not new.tcb.state new.tcb forgets.state

    listener_not : (v : TcpValue) → v.tcb.state ≡ In.Listen → HasNot (Kind.Tcp v) → HasNot (Kind.Tcp (arrives cx v ip' header' bytes).socket)
    listener_not v at none =
        cond_both (is_void_syn header') (dropped (unoffered v)) (arrives_in v.tcb.state cx (unoffered v) ip' header' bytes)
        (λ (a : TcpArrived). HasNot (Kind.Tcp a.socket)) (λ _. none)
        (λ _.
        subst (λ (state : TcpState). HasNot (Kind.Tcp (arrives_in state cx (unoffered v) ip' header' bytes).socket)) (sym at) opened)
      where
        opened : HasNot (Kind.Tcp (opens cx (unoffered v) ip' header').socket)
        opened = by (is_first_syn header') where
          by : (first : Bool) → HasNot (Kind.Tcp (if first then record {
            socket = Rattle.tcp_block.specs.Value.with_tcb (unoffered v)
                (Rattle.tcp_block.specs.Timeout.timeout_restarted
                (Rattle.tcp_block.specs.Timestamps.believed
                (Rattle.tcp_block.specs.Opening.answering v.tcb ip' header' (Rattle.tcp_state.specs.Isn.isn cx (pair_in ip' header')))
                cx.instant) cx.instant 0);
            answer = None;
            draws = Rattle.tcp_state.specs.Isn.draws_number cx;
          } else dropped (unoffered v)).socket)
          by true = apart
          by false = none

    arrival_not : (state : TcpState) (v : TcpValue) → v.tcb.state ≡ state → HasNot (Kind.Tcp v) → HasNot (Kind.Tcp (arrives cx v ip' header' bytes).socket)
    arrival_not In.Closed v at none =
        closed_not (arrives cx v ip' header' bytes).socket.tcb.state (arrives cx v ip' header' bytes).socket.tcb
        (closed_stays cx v ip' header' bytes (ap is_closed at))
    arrival_not In.Listen v at none = listener_not v at none
    arrival_not other v at none =
        renamed_not v (arrives cx v ip' header' bytes).socket (pair_not v.tcb.state v.tcb (ap is_closed at) (ap is_listening at) none)
        (arrival_names cx v ip' header' bytes)

    pub segment_not : (s : Socket) → HasNot s → HasNot (with_segment cx ip' header' bytes s)
    segment_not (Kind.Tcp v) none = arrival_not v.tcb.state v refl none
    segment_not (Kind.Raw v) none = none
    segment_not (Kind.Icmp v) none = none
    segment_not (Kind.Udp v) none = none
    segment_not (Kind.Dhcpv4 v) none = none
    segment_not (Kind.Dns v) none = none

  packet_not : (ip' : IpRepr) (payload : List ℕ) (s : Socket) → HasNot s → HasNot (with_packet ip' payload s)
  packet_not ip' payload (Kind.Raw v) none = refl
  packet_not ip' payload (Kind.Icmp v) none = none
  packet_not ip' payload (Kind.Udp v) none = none
  packet_not ip' payload (Kind.Tcp v) none = none
  packet_not ip' payload (Kind.Dhcpv4 v) none = none
  packet_not ip' payload (Kind.Dns v) none = none

  icmpv4_not : (ip' : Ipv4Repr) (message : Icmpv4Header) (bytes : List ℕ) (s : Socket) → HasNot s → HasNot (with_icmpv4 ip' message bytes s)
  icmpv4_not ip' message bytes (Kind.Icmp v) none = refl
  icmpv4_not ip' message bytes (Kind.Raw v) none = none
  icmpv4_not ip' message bytes (Kind.Udp v) none = none
  icmpv4_not ip' message bytes (Kind.Tcp v) none = none
  icmpv4_not ip' message bytes (Kind.Dhcpv4 v) none = none
  icmpv4_not ip' message bytes (Kind.Dns v) none = none

  icmpv6_not : (ip' : Ipv6Repr) (message : MessageValue) (bytes : List ℕ) (s : Socket) → HasNot s → HasNot (with_icmpv6 ip' message bytes s)
  icmpv6_not ip' message bytes (Kind.Icmp v) none = refl
  icmpv6_not ip' message bytes (Kind.Raw v) none = none
  icmpv6_not ip' message bytes (Kind.Udp v) none = none
  icmpv6_not ip' message bytes (Kind.Tcp v) none = none
  icmpv6_not ip' message bytes (Kind.Dhcpv4 v) none = none
  icmpv6_not ip' message bytes (Kind.Dns v) none = none

  datagram_not : (cx : ContextValue) (ip' : IpRepr) (udp : UdpRepr) (bytes : List ℕ) (s s' : Socket) → TakesDatagram cx ip' udp bytes s s' → HasNot s → HasNot s'
  datagram_not cx ip' udp bytes (Kind.Raw v) s' is none = subst HasNot (sym is) none
  datagram_not cx ip' udp bytes (Kind.Icmp v) s' is none = subst HasNot (sym is) none
  datagram_not cx ip' udp bytes (Kind.Tcp v) s' is none = subst HasNot (sym is) none
  datagram_not cx ip' udp bytes (Kind.Udp v) s' is none = subst HasNot (sym is) refl
  datagram_not cx ip' udp bytes (Kind.Dhcpv4 v) s' is none = subst HasNot (sym is.1) refl
  datagram_not cx ip' udp bytes (Kind.Dns v) s' is none = subst HasNot (sym is.1) refl

  -- of a packet each of whose segments goes between other endpoints
  abbrev pub IsApart : ChecksumCapabilities → IpRepr → List ℕ → Type 0
  IsApart caps ip' payload = (header' : TcpHeader) (bytes : List ℕ) → IsSegment caps (upper_header ip' payload) (upper_payload ip' payload) header' bytes
      → is_between (pair_in ip' header') ip header ≡ false

  pub not_law : IsOfArrivals IsApart HasNot HasNot
  not_law = record {
    same = λ s none. none;
    packet = packet_not;
    icmpv4 = icmpv4_not;
    icmpv6 = icmpv6_not;
    datagram = λ caps cx ip' payload udp bytes s s' came is accepts takes none. datagram_not cx ip' udp bytes s s' takes none;
    segment = λ caps cx ip' payload header' bytes s came is accepts none. segment_not cx ip' header' bytes (came header' bytes is) s none;
  }

  -- THE FIRST THAT HAS IT

  -- no socket before this slot has it
  abbrev pub NoneBefore : ℕ → Slots → Type 0
  NoneBefore m slots = (k : ℕ) → k < m → AtOr (Unit {0}) HasNot slots k

  in_item : (o : Option (Item Socket)) → ItemOr (Unit {0}) HasNot o → passes_in Has o ≡ false
  in_item None none = refl
  in_item (Some item) none = none

  of_item : (o : Option (Item Socket)) → passes_in Has o ≡ false → ItemOr (Unit {0}) HasNot o
  of_item None none = tt
  of_item (Some item) none = none

  pub is_first : (slots : Slots) (m : ℕ) (v : TcpValue) → HoldsAt (λ s. s ≡ Kind.Tcp v) slots m → Has (Kind.Tcp v) ≡ true → NoneBefore m slots
      → first_slot Has slots ≡ Some m
  is_first slots m v here has none =
      let there : Stands slots m (Kind.Tcp v) = stands_at slots m (Kind.Tcp v) here in
      position_is (passes Has) free slots m there.within (ap (passes Has) there.here ∙ has)
      (λ k less. in_item (get_or slots k free).inner (from_at (Unit {0}) HasNot slots k (none k less)))

  pub before_first : (slots : Slots) (m : ℕ) → first_slot Has slots ≡ Some m → NoneBefore m slots
  before_first slots m is k less =
      let first = position-Some (passes Has) slots m free is in
      at_from (Unit {0}) HasNot slots k (omega (arith, less, first.0)) (of_item (get_or slots k free).inner (first.2 k less))
