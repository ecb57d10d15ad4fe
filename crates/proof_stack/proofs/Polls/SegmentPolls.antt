-- A poll that comes to a frame which waits among others, and in which a segment comes to the socket of its connection.
use Rattle.std.proofs.Common.{◌≡◌, ℕ, zero, suc, ◌+◌, ◌<◌, ◌≤◌, ◌&&◌, Bool, true, false, not, ◌⊎◌, inl, inr, ℤ, List, [], ◌∷◌, ◌++◌, length, get_or, Option, Some}
use Rattle.std.proofs.Common.{None, IsTrue, refl, sym, ap, ◌∙◌, subst, arith}
use Rattle.std.specs.List.{list_any}
use Rattle.std.proofs.lemmas.List.Quantifiers.{position-Some}
use Rattle.std.proofs.lemmas.Option.{get_or_from_slice_get}
use Rattle.net_base.specs.Device.{Move, Empty}
use Rattle.wire_address.specs.declared.hardware.HardwareAddress.{HardwareAddress}
use Rattle.wire_ip.specs.Ip.{destination_of, source_of}
use Rattle.wire_ip.specs.declared.ip.repr.IpRepr.{IpRepr}
use Rattle.ip_wire.specs.TcpHeader.{TcpHeader}
use Rattle.sockets.specs.Socket.{accepts_segment}
use Rattle.tcp_state.specs.States.{is_closed}
use Rattle.tcp_block.specs.Arrival.{arrives}
use Rattle.tcp_block.specs.Value.{TcpValue}
use Rattle.tcp_liveness.specs.Sent.{is_early}
use Rattle.iface_ingress.specs.Delivered.{Slots, first_slot, is_listener, passes, passes_in}
use Rattle.iface_ingress.specs.Packet.{Segment, packet_of}
use Rattle.iface_ingress.specs.Socket.{Socket}
use Rattle.iface_ingress.specs.Socket.TheVariants as Kind
use Rattle.iface_ingress.specs.WellFormed.{IsWellFormed}
use Rattle.iface_tables.specs.Inner.{InnerValue, at_instant, context_of}
use Rattle.iface_tables.specs.Reassembly.{or_else}
use Rattle.iface_egress.specs.Departing.{HasSettingsOf}
use Rattle.iface_egress.specs.Set.{free, socket_in}
use Rattle.iface_egress.specs.declared.socket_meta.Meta.{Meta}
use Rattle.iface_egress.specs.declared.socket_set.Item.{Item}
use Rattle.interface.specs.Ingress.{IngressStep, is_read}
use Rattle.interface.specs.Polls.{Polls, Repeats, begun}
use Rattle.interface.specs.QuietPoll.{HasNoFrame}
use Rattle.interface.specs.State.{State}
use Rattle.interface.specs.TransmittedFrame.{CanRead, HasWidths}
use Rattle.interface.proofs.Keep.{in_step_keeps}
use Rattle.interface.proofs.Kept.{IsKept, RunsAt}
use Rattle.proof_stack.specs.PeerHost.SocketRun.{Event}
use Rattle.proof_stack.specs.PeerHost.ReachedSocket.{after_all}
use Rattle.lan.specs.Worlds.PollSteps.{Reaches}
use Rattle.proof_stack.specs.PeerHost.Streams.{AreOfPoll, IsTcpAt}
use Rattle.proof_stack.specs.Progress.Delivered.{RefusesNothing, reader_of}
use Rattle.proof_stack.specs.Progress.Inbox.{BringsAmong, WaitsAmong}
use Rattle.proof_stack.specs.Progress.Leave.{IsInboxWhile, LiesAmong}
use Rattle.proof_stack.specs.Progress.Moves.{is_refused}
use Rattle.proof_stack.specs.Progress.Queued.{GoesInTurn, WentOut, frame_under, with_ident}
use Rattle.proof_stack.specs.Progress.Segments.{CanTransmit, ComesAmong, HasComeTo, HasConnection, HasRead, IsAwaited, IsAwaitedAt, IsAwaitedThroughout}
use Rattle.proof_stack.specs.Progress.Segments.{IsAwaitedWhenNext, IsItsTurn, OffersSegment, asked_by, tcp_slot}
use Rattle.proof_stack.proofs.Peers.Place.{Found, HoldsAt, found_holds, holds_found}
use Rattle.proof_stack.proofs.Peers.Taken.{kept}
use Rattle.proof_stack.proofs.Peers.Tcp.{LedTo, led_law}
use Rattle.proof_stack.proofs.Polls.AnyLeave.{OffersOnly}
use Rattle.proof_stack.proofs.Polls.Connected.{Has, NoneBefore, StaysLate, before_first, events_late, is_first, late_at, not_listening, not_over, still_has}
use Rattle.proof_stack.proofs.Peers.Devices.{device_kept}
use Rattle.proof_stack.proofs.Polls.Frames.{Comes, IsInOrder, Waits, comes, ins, one_in, outs}
use Rattle.proof_stack.proofs.Polls.Inbox.{went_as}
use Rattle.proof_stack.proofs.Polls.InTurn.{turn_goes}
use Rattle.proof_stack.proofs.Polls.SegmentSteps.{step_none}
use Rattle.proof_stack.proofs.Polls.Segments.{comes as it_comes, offers_only}
use Rattle.proof_stack.proofs.Polls.Stays.{Stands, astray, for_us, framed, heard, nobody, position_is, reached_same, reads_then, sender, stands_at}

clash : {X : Type 0} → true ≡ false → X
clash {X} e = absurd cc

same_socket : (a b : TcpValue) → Some (Kind.Tcp a) ≡ Some (Kind.Tcp b) → a ≡ b
same_socket a b is = let inside : Kind.Tcp a ≡ Kind.Tcp b = cc in let at : a ≡ b = cc in at

-- WHAT A POLL MAKES OF A TCP SOCKET

module _ {E : Type 0} (moves : E → Move → E → Type 0) (u : ℤ) (from : State E) (v : TcpValue) (m : ℕ) where
  abbrev Led : State E → Type 0
  Led s = Reaches moves u from s × HoldsAt (LedTo moves u from v) s.slots m

  led_kept : IsKept moves u Led
  led_kept = kept moves u from ⊥ (LedTo moves u from v) (led_law moves u from v) m

  led_here : (s : State E) → Reaches moves u from s → HoldsAt (λ x. x ≡ Kind.Tcp v) s.slots m → Led s
  led_here s so here =
      let it : Found (λ x. x ≡ Kind.Tcp v) s.slots m = holds_found (λ x. x ≡ Kind.Tcp v) s.slots m here in
      (so, found_holds (LedTo moves u from v) s.slots m it.socket it.is (record { events = []; are = tt; is = it.holds }))

  -- it is led on by events
  record IsLed (s : State E) : Type 0 where
    events : List Event
    are : AreOfPoll moves u from v events
    here : HoldsAt (λ x. x ≡ Kind.Tcp (after_all v events)) s.slots m

  is_led : (s : State E) → Led s → IsLed s
  is_led s led =
      let it : Found (LedTo moves u from v) s.slots m = holds_found (LedTo moves u from v) s.slots m led.1 in
      record {
        events = it.holds.events;
        are = it.holds.are;
        here = found_holds (λ x. x ≡ Kind.Tcp (after_all v it.holds.events)) s.slots m it.socket it.is it.holds.is;
      }

-- the socket at a slot is one
at_slot_is : (slots : Slots) (m : ℕ) (v : TcpValue) → HoldsAt (λ x. x ≡ Kind.Tcp v) slots m → IsTcpAt slots m v
at_slot_is slots m v here =
    let it : Found (λ x. x ≡ Kind.Tcp v) slots m = holds_found (λ x. x ≡ Kind.Tcp v) slots m here in it.is ∙ ap (λ (s : Socket). Some s) it.holds

same_here : (slots : Slots) (m : ℕ) (a b : TcpValue) → HoldsAt (λ x. x ≡ Kind.Tcp a) slots m → IsTcpAt slots m b → a ≡ b
same_here slots m a b here there = same_socket a b (sym (at_slot_is slots m a here) ∙ there)

reaches_itself : {E : Type 0} (moves : E → Move → E → Type 0) (u : ℤ) (s : State E) → Reaches moves u s s
reaches_itself moves u s = record { count = zero; steps = refl }

-- a TCP socket with its connection is the first that has it, or its connection is over
pub record Holds (m : ℕ) (ip : IpRepr) (header : TcpHeader) {E : Type 0} (s : State E) : Type 0 where
  pub value : TcpValue
  pub here : HoldsAt (λ x. x ≡ Kind.Tcp value) s.slots m
  pub late : is_early value.tcb.state ≡ false
  pub what : (is_closed value.tcb.state ≡ true) ⊎ ((Has ip header (Kind.Tcp value) ≡ true) × NoneBefore ip header m s.slots)

-- a step of the ingress path leads it on
module _ {E : Type 0} (moves : E → Move → E → Type 0) (u : ℤ) (m : ℕ) where
  step_led : (s s' : State E) (answer : Option Bool) (v : TcpValue) → HoldsAt (λ x. x ≡ Kind.Tcp v) s.slots m → IngressStep moves u s answer s'
      → IsLed moves u s v m s'
  step_led s s' answer v here step =
      is_led moves u s v m s'
      (in_step_keeps moves u (Led moves u s v m) (led_kept moves u s v m) s s' answer (led_here moves u s v m s (reaches_itself moves u s) here) step).0

  module _ (ip : IpRepr) (header : TcpHeader) where
    step_holds : (s s' : State E) (answer : Option Bool) → Holds m ip header s → IngressStep moves u s answer s' → Holds m ip header s'
    step_holds s s' answer holds step =
        let led : IsLed moves u s holds.value m s' = step_led s s' answer holds.value holds.here step in
        let stays : StaysLate holds.value (after_all holds.value led.events) = events_late moves u s holds.value led.events led.are holds.late in
        record {
          value = after_all holds.value led.events;
          here = led.here;
          late = stays.late;
          what = by (after_all holds.value led.events) stays holds.what (is_closed (after_all holds.value led.events).tcb.state) refl;
        }
      where
        by : (new : TcpValue) → StaysLate holds.value new
            → (is_closed holds.value.tcb.state ≡ true) ⊎ ((Has ip header (Kind.Tcp holds.value) ≡ true) × NoneBefore ip header m s.slots)
            → (over : Bool) → is_closed new.tcb.state ≡ over
            → (is_closed new.tcb.state ≡ true) ⊎ ((Has ip header (Kind.Tcp new) ≡ true) × NoneBefore ip header m s'.slots)
        by new stays (inl over) test is = inl (stays.closed over)
        by new stays (inr has) true is = inl is
        by new stays (inr has) false is = inr (
          still_has ip header holds.value new holds.late stays is has.0,
          step_none ip header m moves u s s' answer (is_first ip header s.slots m holds.value holds.here has.0 has.1) has.1 step,
        )

-- WHERE A POLL BEGINS

module _ (i : InnerValue) (slots : Slots) (to : HardwareAddress) (ip : IpRepr) (header : TcpHeader) (m : ℕ) (meta : Meta) (w : TcpValue)
    (is : IsAwaitedThroughout i slots to ip header m meta w) where
  late : is_early w.tcb.state ≡ false
  late = late_at w.tcb.state is.connection

  here_first : HoldsAt (λ x. x ≡ Kind.Tcp w) slots m
  here_first = found_holds (λ x. x ≡ Kind.Tcp w) slots m (Kind.Tcp w) (ap socket_in is.awaited.stands) refl

  here_slot : get_or slots m free ≡ tcp_slot meta w
  here_slot = get_or_from_slice_get slots m (tcp_slot meta w) free is.awaited.stands

  has_first : passes (λ s. accepts_segment s ip header) (get_or slots m free) ≡ true → Has ip header (Kind.Tcp w) ≡ true
  has_first ok =
      ap (λ (listens : Bool). not listens && accepts_segment (Kind.Tcp w) ip header) (not_listening w.tcb.state late)
      ∙ sym (ap (passes (λ s. accepts_segment s ip header)) here_slot) ∙ ok

  second_false : (a b : Bool) → b ≡ false → (a && b) ≡ false
  second_false true b none = none
  second_false false b none = refl

  none_first : (o : Option (Item Socket)) → passes_in (λ s. accepts_segment s ip header) o ≡ false → passes_in (Has ip header) o ≡ false
  none_first None none = refl
  none_first (Some item) none = second_false (not (is_listener item.socket)) (accepts_segment item.socket ip header) none

  -- it is found by its connection
  found_first : first_slot (Has ip header) slots ≡ Some m
  found_first = by (first_slot (Has ip header) slots) refl is.awaited.slot where
    by : (o : Option ℕ) → first_slot (Has ip header) slots ≡ o → or_else o (first_slot (λ s. accepts_segment s ip header) slots) ≡ Some m
        → first_slot (Has ip header) slots ≡ Some m
    by (Some k) at found = at ∙ found
    by None at found =
        let first = position-Some (passes (λ s. accepts_segment s ip header)) slots m free found in
        position_is (passes (Has ip header)) free slots m first.0 (ap (passes (Has ip header)) here_slot ∙ has_first first.1)
        (λ k less. none_first (get_or slots k free).inner (first.2 k less))

  accepts_first : Has ip header (Kind.Tcp w) ≡ true
  accepts_first =
      let first = position-Some (passes (Has ip header)) slots m free found_first in sym (ap (passes (Has ip header)) here_slot) ∙ first.1

  pub begins_so : {E : Type 0} (s : State E) → s.slots ≡ slots → Holds m ip header s
  begins_so s same = record {
    value = w;
    here = subst (λ (ps : Slots). HoldsAt (λ x. x ≡ Kind.Tcp w) ps m) (sym same) here_first;
    late = late;
    what = inr (accepts_first, subst (λ (ps : Slots). NoneBefore ip header m ps) (sym same) (before_first ip header slots m found_first));
  }

-- THE SEGMENT COMES

module _ {E : Type 0} (moves : E → Move → E → Type 0) (gives_tx_token : E → Bool) (frames_at : E → List (List ℕ))
    (inbox : IsInboxWhile moves gives_tx_token frames_at) (u : ℤ) (steps : ℕ) (r r' : State E) (changed : Bool) (m : ℕ) (w : TcpValue)
    (is_tcp : IsTcpAt r.slots m w) (polls : Polls moves u steps r changed r') (leave : IsTrue (gives_tx_token r'.device)) where
  order : IsInOrder moves frames_at
  order = record { first = inbox.first; out = inbox.out }

  begins : Led moves u r w m (begun u r) × RunsAt u (begun u r).host.inner
  begins = (
    (led_kept moves u r w m).maintenance r
        (led_here moves u r w m r (reaches_itself moves u r) (found_holds (λ x. x ≡ Kind.Tcp w) r.slots m (Kind.Tcp w) is_tcp refl)),
    (refl, refl),
  )

  runs_mid : RunsAt u polls.0.host.inner
  runs_mid = (ins moves u (Led moves u r w m) (led_kept moves u r w m) steps (begun u r) polls.0 false polls.1 begins polls.2).1

  -- no move gives leave, so there is leave where the egress path begins
  denied : (old new : E) (move : Move) → moves old move new → gives_tx_token old ≡ false → gives_tx_token new ≡ false
  denied old new move goes none = by (gives_tx_token new) refl where
    by : (given : Bool) → gives_tx_token new ≡ given → given ≡ false
    by false is = refl
    by true is = clash (sym (inbox.had old new move goes is) ∙ none)

  leave_mid : gives_tx_token polls.0.device ≡ true
  leave_mid = by (gives_tx_token polls.0.device) refl where
    by : (given : Bool) → gives_tx_token polls.0.device ≡ given → given ≡ true
    by true is = refl
    by false is =
        clash (sym leave
        ∙ (outs moves u (λ (s : State E). gives_tx_token s.device ≡ false) (device_kept moves (λ (d : E). gives_tx_token d ≡ false) denied u) steps polls.0 r' polls.1
        changed (is, runs_mid) polls.3).0)

  proceeds : (s : State E) (frame : List ℕ) (more : List (List ℕ)) → Waits frames_at s.device (frame ∷ more) → IngressStep moves u s None polls.0 → ⊥
  proceeds s frame more waiting step =
      inbox.found s.device polls.0.device u frame more (inbox.had s.device polls.0.device (Empty u) step.0 leave_mid) waiting step.0

  -- a socket after the poll that is led on from where a frame was read
  module _ (x' : State E) (left : ℕ) (c c' : Bool) (rest : Repeats (IngressStep moves u) left x' c polls.0 c') (runs : RunsAt u x'.host.inner)
      (from : State E) (new : TcpValue) (led : Led moves u from new m x') where
    to_end : IsLed moves u from new m r'
    to_end =
        is_led moves u from new m r'
        (outs moves u (Led moves u from new m) (led_kept moves u from new m) steps polls.0 r' polls.1 changed
        (ins moves u (Led moves u from new m) (led_kept moves u from new m) left x' polls.0 c c' (led, runs) rest) polls.3).0

  module _ (i : InnerValue) (v : TcpValue) (ip : IpRepr) (header : TcpHeader) (bytes : List ℕ) (offers : OffersSegment i v ip header bytes)
      (to : HardwareAddress) (can : CanTransmit i to (packet_of ip (Segment header bytes))) (formed : IsWellFormed (packet_of ip (Segment header bytes)))
      (ident : ℕ) (wide : HasWidths (with_ident i ident)) (padding : List ℕ) (before following : List (List ℕ))
      (short : is_read (frame_under i ident to (packet_of ip (Segment header bytes)) ++ padding) ≡ true)
      (wait : Waits frames_at r.device (before ++ (frame_under i ident to (packet_of ip (Segment header bytes)) ++ padding) ∷ following))
      (few : length before < steps) where
    abbrev frame : List ℕ
    frame = frame_under i ident to (packet_of ip (Segment header bytes)) ++ padding

    -- What holds of a state and of the frames that wait before this one is kept as one of them is read.
    module _ (Kept : List (List ℕ) → State E → Type 0)
        (keeps : (f : List ℕ) (front : List (List ℕ)) (s s' : State E) (b : Bool) → Kept (f ∷ front) s → IngressStep moves u s (Some b) s' → Kept front s') where
      keeps_so : (f : List ℕ) (front more : List (List ℕ)) (s s' : State E) (b : Bool) → Waits frames_at s.device (f ∷ more) → Kept (f ∷ front) s
          → IngressStep moves u s (Some b) s' → Kept front s'
      keeps_so f front more s s' b waits holds step = keeps f front s s' b holds step

      abbrev Coming : Type 0
      Coming = Comes moves frames_at order u (Led moves u r w m) (led_kept moves u r w m) Kept keeps_so frame following polls.0

      coming_so : Kept before (begun u r) → Coming
      coming_so holds =
          comes moves frames_at order u (Led moves u r w m) (led_kept moves u r w m) Kept keeps_so steps before (begun u r) polls.0 false polls.1 frame following
          short proceeds wait few begins holds polls.2

      module _ (coming : Coming) where
        following_it : Led moves u r w m coming.x' × RunsAt u coming.x'.host.inner
        following_it = one_in moves u (Led moves u r w m) (led_kept moves u r w m) coming.x coming.x' (Some true) coming.runs coming.reads

        led_there : IsLed moves u r w m coming.x
        led_there = is_led moves u r w m coming.x coming.runs.0

        abbrev then_value : TcpValue
        then_value = after_all w led_there.events

        abbrev then_host : InnerValue
        then_host = at_instant u coming.x.host.inner

        -- the socket awaits the segment when its frame is next
        module _ (at : IsAwaitedAt u coming.x i to ip header m) where
          same_then : at.value ≡ then_value
          same_then =
              sym (same_here coming.x.slots m then_value at.value led_there.here (ap socket_in at.awaited.stands))

          came : HasComeTo then_host coming.x'.slots ip header bytes m at.meta then_value
          came =
              it_comes moves i u coming.x coming.x' m then_value at.meta v ip header bytes offers to can formed at.reads ident wide padding
              (λ other new took. (inbox.first coming.x.device new u frame other following coming.wait took).0) coming.reads
              (subst (λ (y : TcpValue). IsAwaited then_host coming.x.slots to ip header m at.meta y) same_then at.awaited)

          abbrev new_value : TcpValue
          new_value = (arrives (context_of then_host) then_value came.read header bytes).socket

          led_on : IsLed moves u r new_value m r'
          led_on =
              to_end coming.x' coming.left coming.c coming.c' coming.rest following_it.1 r new_value
              (led_here moves u r new_value m coming.x' following_it.0.0
              (found_holds (λ y. y ≡ Kind.Tcp new_value) coming.x'.slots m (Kind.Tcp new_value) (ap socket_in came.stands) refl))

          comes_among : ComesAmong moves u r r' ip header bytes m w
          comes_among = record {
            before = led_there.events;
            led = led_there.are;
            cx = context_of then_host;
            now = refl;
            read = came.read;
            source = came.source;
            destination = came.destination;
            later = led_on.events;
            leads = led_on.are;
            stands = at_slot_is r'.slots m (after_all new_value led_on.events) led_on.here;
          }

    -- WHEREVER IT IS AWAITED

    -- of the frames before as many were read as don't wait any more
    abbrev HaveRead : List (List ℕ) → State E → Type 0
    HaveRead front s = (n : ℕ) × (n + length front ≡ length before) × HasRead moves u r n s

    one_read : (f : List ℕ) (front : List (List ℕ)) (s s' : State E) (b : Bool) → HaveRead (f ∷ front) s → IngressStep moves u s (Some b) s' → HaveRead front s'
    one_read f front s s' b so step = (suc so.0, (let all = so.1 in omega (arith, all)), (s, b, so.2, step))

    comes_awaited : (count : ℕ) → length before < count → IsAwaitedWhenNext moves frames_at u r count i to ip header bytes m
        → ComesAmong moves u r r' ip header bytes m w
    comes_awaited count less awaits =
        let none : (k : ℕ) → 0 + k ≡ k = λ k. omega arith in
        let coming : Coming HaveRead one_read = coming_so HaveRead one_read (0, none (length before), refl) in
        let all = coming.holds.1 in
        comes_among HaveRead one_read coming
        (awaits coming.holds.0 coming.x ident padding following (omega (arith, all, less)) coming.holds.2 coming.wait)

    -- WITH ITS CONNECTION

    module _ (meta : Meta) (reads : CanRead i to (reader_of r.host.inner))
        (is : IsAwaitedThroughout (at_instant u r.host.inner) r.slots to ip header m meta w) (ends : HasConnection r'.slots m) where
      abbrev Has_it : List (List ℕ) → State E → Type 0
      Has_it front s = Holds m ip header s

      keeps_it : (f : List ℕ) (front : List (List ℕ)) (s s' : State E) (b : Bool) → Has_it (f ∷ front) s → IngressStep moves u s (Some b) s' → Has_it front s'
      keeps_it f front s s' b holds step = step_holds moves u m ip header s s' (Some b) holds step

      coming : Coming Has_it keeps_it
      coming = coming_so Has_it keeps_it (begins_so (at_instant u r.host.inner) r.slots to ip header m meta w is (begun u r) refl)

      -- its connection isn't over yet, as it is there after the poll
      not_yet : is_closed coming.holds.value.tcb.state ≡ true → ⊥
      not_yet over =
          let one : IsLed moves u coming.x coming.holds.value m coming.x' =
          step_led moves u m coming.x coming.x' (Some true) coming.holds.value coming.holds.here coming.reads in
          let first : StaysLate coming.holds.value (after_all coming.holds.value one.events) =
          events_late moves u coming.x coming.holds.value one.events one.are coming.holds.late in
          let end : IsLed moves u coming.x' (after_all coming.holds.value one.events) m r' =
          to_end coming.x' coming.left coming.c coming.c' coming.rest (following_it Has_it keeps_it coming).1 coming.x'
          (after_all coming.holds.value one.events)
          (led_here moves u coming.x' (after_all coming.holds.value one.events) m coming.x' (reaches_itself moves u coming.x') one.here) in
          over_at_end (after_all coming.holds.value one.events) end (events_late moves u coming.x' (after_all coming.holds.value one.events) end.events end.are
          first.late) (first.closed over)
        where
          over_at_end : (v' : TcpValue) (end : IsLed moves u coming.x' v' m r') → StaysLate v' (after_all v' end.events) → is_closed v'.tcb.state ≡ true → ⊥
          over_at_end v' end last over_then =
              let same : after_all v' end.events ≡ ends.value = same_here r'.slots m (after_all v' end.events) ends.value end.here ends.stands in
              let over_now : is_closed ends.value.tcb.state ≡ true =
              subst (λ (y : TcpValue). is_closed y.tcb.state ≡ true) same (last.closed over_then) in
              clash (sym over_now ∙ not_over ends.value.tcb.state ends.state)

      has_it : (Has ip header (Kind.Tcp coming.holds.value) ≡ true) × NoneBefore ip header m coming.x.slots
      has_it = by coming.holds.what where
        by : (is_closed coming.holds.value.tcb.state ≡ true)
            ⊎ ((Has ip header (Kind.Tcp coming.holds.value) ≡ true) × NoneBefore ip header m coming.x.slots)
            → (Has ip header (Kind.Tcp coming.holds.value) ≡ true) × NoneBefore ip header m coming.x.slots
        by (inl over) = absurd (not_yet over)
        by (inr has) = has

      stands_there : Stands coming.x.slots m (Kind.Tcp coming.holds.value)
      stands_there = stands_at coming.x.slots m (Kind.Tcp coming.holds.value) coming.holds.here

      abbrev its_host : InnerValue
      its_host = at_instant u coming.x.host.inner

      same_settings : HasSettingsOf (at_instant u r.host.inner) its_host
      same_settings = reached_same moves u r coming.x coming.runs.0.0

      awaited_then : IsAwaitedAt u coming.x i to ip header m
      awaited_then = record {
        meta = stands_there.meta;
        value = coming.holds.value;
        awaited = record {
          heard = heard (at_instant u r.host.inner) its_host same_settings to ∙ is.awaited.heard;
          framed = framed (at_instant u r.host.inner) its_host same_settings to (destination_of ip) ∙ is.awaited.framed;
          sender = sender (at_instant u r.host.inner) its_host same_settings (source_of ip) ∙ is.awaited.sender;
          here = astray (at_instant u r.host.inner) its_host same_settings (source_of ip) (destination_of ip) ∙ is.awaited.here;
          ours = for_us (at_instant u r.host.inner) its_host same_settings (destination_of ip) ∙ is.awaited.ours;
          named = nobody (at_instant u r.host.inner) its_host same_settings ip ∙ is.awaited.named;
          slot = ap (λ (o : Option ℕ). or_else o (first_slot (λ s. accepts_segment s ip header) coming.x.slots))
              (is_first ip header coming.x.slots m coming.holds.value coming.holds.here has_it.0 has_it.1);
          stands = stands_there.stands;
        };
        reads = reads_then moves u r coming.x coming.runs.0.0 i to reads;
      }

      comes_connected : ComesAmong moves u r r' ip header bytes m w
      comes_connected = comes_among Has_it keeps_it coming awaited_then

-- where its frame waits
pub comes_where_it_waits : {E : Type 0} (moves : E → Move → E → Type 0) (gives_tx_token : E → Bool) (frames_at : E → List (List ℕ)) (u : ℤ) (count steps : ℕ)
    (i : InnerValue) (ident : ℕ) (r r' : State E) (changed : Bool) (m : ℕ) (meta : Meta) (v w : TcpValue) (ip : IpRepr) (header : TcpHeader) (bytes : List ℕ)
    (to : HardwareAddress) → IsInboxWhile moves gives_tx_token frames_at → IsTrue (gives_tx_token r'.device) → HasWidths (with_ident i ident)
    → OffersSegment i v ip header bytes → CanTransmit i to (packet_of ip (Segment header bytes)) → IsWellFormed (packet_of ip (Segment header bytes))
    → LiesAmong (frames_at r.device) count (frame_under i ident to (packet_of ip (Segment header bytes))) → count ≤ steps
    → CanRead i to (reader_of r.host.inner) → IsAwaitedThroughout (at_instant u r.host.inner) r.slots to ip header m meta w
    → Polls moves u steps r changed r' → HasConnection r'.slots m → ComesAmong moves u r r' ip header bytes m w
comes_where_it_waits moves gives_tx_token frames_at u count steps i ident r r' changed m meta v w ip header bytes to inbox leave wide offers can formed lies within
    reads is polled ends =
    comes_connected moves gives_tx_token frames_at inbox u steps r r' changed m w (ap socket_in is.awaited.stands) polled leave i v ip header bytes offers to can formed
    ident wide lies.padding lies.before lies.following lies.short lies.frames (omega (arith, lies.few, within)) meta reads is ends

-- and where its socket awaits it whenever it is next
pub comes_when_next : {E : Type 0} (moves : E → Move → E → Type 0) (gives_tx_token : E → Bool) (frames_at : E → List (List ℕ)) (u : ℤ) (count steps : ℕ)
    (i : InnerValue) (ident : ℕ) (r r' : State E) (changed : Bool) (m : ℕ) (v w : TcpValue) (ip : IpRepr) (header : TcpHeader) (bytes : List ℕ)
    (to : HardwareAddress) → IsInboxWhile moves gives_tx_token frames_at → IsTrue (gives_tx_token r'.device) → HasWidths (with_ident i ident)
    → OffersSegment i v ip header bytes → CanTransmit i to (packet_of ip (Segment header bytes)) → IsWellFormed (packet_of ip (Segment header bytes))
    → LiesAmong (frames_at r.device) count (frame_under i ident to (packet_of ip (Segment header bytes))) → count ≤ steps → IsTcpAt r.slots m w
    → IsAwaitedWhenNext moves frames_at u r count i to ip header bytes m → Polls moves u steps r changed r' → ComesAmong moves u r r' ip header bytes m w
comes_when_next moves gives_tx_token frames_at u count steps i ident r r' changed m v w ip header bytes to inbox leave wide offers can formed lies within is_tcp awaits
    polled =
    comes_awaited moves gives_tx_token frames_at inbox u steps r r' changed m w is_tcp polled leave i v ip header bytes offers to can formed ident wide lies.padding
    lies.before lies.following lies.short lies.frames (omega (arith, lies.few, within)) count lies.few awaits

-- ONE POLL SENDS IT, AND ANOTHER READS IT

pub arrives_in_a_poll : {D E : Type 0} (out : D → Move → D → Type 0) (moves : E → Move → E → Type 0) (gives_tx_token : E → Bool)
    (frames_at : E → List (List ℕ)) (t u : ℤ) (budget count steps : ℕ) (s s' : State D) (r r' : State E) (changed changed' : Bool) (n m : ℕ) (meta : Meta)
    (v w : TcpValue) (ip : IpRepr) (header : TcpHeader) (bytes : List ℕ) (to : HardwareAddress) → IsInboxWhile moves gives_tx_token frames_at → IsTrue (gives_tx_token r'.device)
    → HasWidths (at_instant t s.host.inner)
    → IsItsTurn (at_instant t s.host.inner) s.slots n (Kind.Tcp v) → OffersSegment (at_instant t s.host.inner) v ip header bytes
    → CanTransmit (at_instant t s.host.inner) to (packet_of ip (Segment header bytes)) → HasNoFrame out t s.device → Polls out t (suc budget) s changed s'
    → RefusesNothing out s.device s'.device
    → BringsAmong out frames_at (at_instant t s.host.inner) to (packet_of ip (Segment header bytes)) s.device s'.device r.device count → count ≤ steps
    → CanRead (at_instant t s.host.inner) to (reader_of r.host.inner)
    → IsAwaitedThroughout (at_instant u r.host.inner) r.slots to ip header m meta w → Polls moves u steps r changed' r' → HasConnection r'.slots m
    → ComesAmong moves u r r' ip header bytes m w
arrives_in_a_poll {D} {E} out moves gives_tx_token frames_at t u budget count steps s s' r r' changed changed' n m meta v w ip header bytes to inbox leave wide turn
    offers can none polls freely brings within reads is polled ends = by goes.what
  where
    only : (says : Bool) × OffersOnly (at_instant t s.host.inner) (Kind.Tcp v) says (Kind.Tcp (asked_by (at_instant t s.host.inner) v))
        (packet_of ip (Segment header bytes))
    only = offers_only (at_instant t s.host.inner) v ip header bytes offers

    goes : GoesInTurn out (at_instant t s.host.inner) to (packet_of ip (Segment header bytes)) s.device s'.device
    goes =
        turn_goes out t n to (packet_of ip (Segment header bytes)) budget s s' changed (Kind.Tcp v) (Kind.Tcp (asked_by (at_instant t s.host.inner) v)) only.0
        turn only.1 can none polls

    by : (list_any is_refused goes.all ≡ true) ⊎ WentOut (at_instant t s.host.inner) to (packet_of ip (Segment header bytes)) goes.all
        → ComesAmong moves u r r' ip header bytes m w
    by (inl refused) = clash (sym refused ∙ freely goes.all goes.are)
    by (inr went) =
        let it : WaitsAmong frames_at r.device count (at_instant t s.host.inner) to (packet_of ip (Segment header bytes)) goes.all =
        brings goes.all goes.are (went_as (at_instant t s.host.inner) to (packet_of ip (Segment header bytes)) goes.all wide went) in
        comes_connected moves gives_tx_token frames_at inbox u steps r r' changed' m w (ap socket_in is.awaited.stands) polled leave (at_instant t s.host.inner) v ip
        header bytes offers to can went.formed it.went.ident (record { mtu = wide.mtu; ident = it.went.wide }) it.padding it.before it.following it.short it.frames
        (omega (arith, it.few, within)) meta reads is ends
