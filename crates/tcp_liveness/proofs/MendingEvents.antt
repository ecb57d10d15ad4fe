-- With each event before its timer runs out a side begins again at SND.UNA, or fewer positions are left to mend, or nothing mends.
use Rattle.std.proofs.Common.{◌≡◌, ◌⊎◌, inl, inr, ℕ, ◌+◌, ◌-◌, ◌^◌, ◌<◌, ◌≤◌, ◌==◌, ◌&&◌, not, min, ℤ, Bool, true, false, if◌then◌else◌}
use Rattle.std.proofs.Common.{List, length, take, Option, Some, None, is_some, Result, Ok, Err, slice_get, refl, sym, ap, ◌∙◌, subst, arith}
use Rattle.std.proofs.lemmas.Bool.{cond_both}
use Rattle.net_base.specs.Ring.{anchored, enqueued}
use Rattle.ip_wire.specs.Tcp.{header_len}
use Rattle.ip_wire.specs.TcpHeader.{TcpHeader}
use Rattle.tcp_refinement.specs.Context.{ContextValue}
use Rattle.tcp_refinement.specs.Offers.{Offered}
use Rattle.tcp_block.specs.Reno as reno
use Rattle.tcp_block.specs.Reno.{RenoValue}
use Rattle.tcp_block.specs.Settings.{initial_reno}
use Rattle.tcp_block.specs.Undo.{undo_sent}
use Rattle.tcp_block.specs.TcbRules.{initial_window}
use Rattle.tcp_block.specs.declared.tcb.CongestionControl.{CongestionControl}
use Rattle.tcp_block.specs.declared.tcb.Loss.{Loss}
use Rattle.tcp_invariants.specs.FourTuple.{FourTuple}
use Rattle.tcp_invariants.specs.Endpoints.{header_for}
use Rattle.tcp_invariants.specs.Moments.{is_due}
use Rattle.tcp_invariants.specs.OfferKind.{OfferKind}
use Rattle.tcp_invariants.specs.OfferKind.TheVariants as Kind
use Rattle.tcp_invariants.specs.OpenOffer.{OpenOffer}
use Rattle.tcp_invariants.specs.RecvError.{RecvError}
use Rattle.tcp_invariants.specs.State.TheVariants as In
use Rattle.tcp_invariants.specs.States.{is_closed, is_opening, is_time_wait, takes_writes, after_close}
use Rattle.tcp_invariants.proofs.ApartRuns.{Board}
use Rattle.tcp_invariants.proofs.HoleRules.{led_on, nothing_believed}
use Rattle.tcp_invariants.proofs.OfferCases.{FirstRules, by_rules, begun, probing}
use Rattle.tcp_invariants.proofs.OrderSteps.{clash}
use Rattle.tcp_invariants.proofs.RecoveryRules.{led_lasts}
use Rattle.tcp_invariants.proofs.TimingRules.{led_timing}
use Rattle.tcp_block.specs.Arrival.{arrives}
use Rattle.tcp_block.specs.declared.tcb.Tcb.{Tcb}
use Rattle.tcp_block.specs.Calls.{connected_by, listening, four_tuple_for, recv_answer, sent_more}
use Rattle.tcp_block.specs.Isn.{number_for}
use Rattle.tcp_refinement.specs.Pair.History.{side_of}
use Rattle.tcp_block.specs.LossRecovery.{loss_probed}
use Rattle.tcp_block.specs.Names.{accepts}
use Rattle.tcp_block.specs.Offers.{number_at, offer_choice, offer_of, offer_segment}
use Rattle.tcp_block.specs.Rules.{Choice, control_for, probe_choice, resend_choice, resends, payload_choice}
use Rattle.tcp_block.specs.Segments.{ack_segment, hop_limit_of, keep_alive_segment, reset_segment, segment, syn_segment}
use Rattle.tcp_block.specs.Settled.{end_of, nxt_moved, probed, recorded, sent_as, settled, syn_was_sent, timer_started}
use Rattle.tcp_refinement.specs.Pair.Sides.{Both, at, other, put}
use Rattle.tcp_refinement.specs.Pair.Steps.{acting, acts, handed, reads, set_by, taken_at}
use Rattle.tcp_block.specs.Value.{TcpValue, Arrived, with_tcb, unoffered, ended, free_in, new_socket, queued_in, room_of, window_of}
use Rattle.tcp_refinement.specs.Pair.Values.{PairSide, PairValue, context_at}
use Rattle.tcp_refinement.specs.declared.pair.event.PairEvent.{PairEvent}
use Rattle.tcp_refinement.specs.declared.pair.event.PairEvent.TheVariants.{Listen, Connect, Send, Recv, Close, Abort, TcpSetting, Clock, Offer, Deliver}
use Rattle.tcp_refinement.specs.declared.pair.event.SentSegment.{SentSegment}
use Rattle.tcp_refinement.specs.declared.pair.event.Side.{Side}
use Rattle.tcp_refinement.specs.declared.pair.event.Side.TheVariants.{A, B}
use Rattle.tcp_refinement.specs.declared.pair.event.TcpSetting.{TcpSetting as Setting}
use Rattle.tcp_refinement.specs.declared.pair.event.TcpSetting.TheVariants as Set
use Rattle.tcp_liveness.specs.Anew.{BeginsAnew, BeginsAnewIn}
use Rattle.tcp_liveness.specs.Arrivals.{is_synchronized}
use Rattle.tcp_liveness.specs.Pair.{socket_of}
use Rattle.tcp_liveness.specs.PutOff.{IsAskedBefore, Mends, MendsIn, RunsOutAt}
use Rattle.tcp_liveness.specs.Reached.{IsReached}
use Rattle.tcp_liveness.specs.Rounds.{takes}
use Rattle.tcp_liveness.proofs.Kept.{reached_keeps}
use Rattle.tcp_liveness.proofs.Leads.{led_side}
use Rattle.tcp_liveness.proofs.Mending.{Few, IsSure, Mending, arrival_few, armed_few, asked_few, mended, mending_of, probed_few, probed_lasts}
use Rattle.tcp_liveness.proofs.Positions.{IsPlaced, placed}
use Rattle.tcp_liveness.proofs.Ready.{ready_side}

-- WHAT IS SO OF EACH CONNECTION

pub is_sure :
    (p : PairValue) (side : Side) → IsReached p → is_closed (socket_of p side).tcb.state ≡ false
    → is_synchronized (socket_of p side).tcb.state ≡ true → (socket_of p side).tcb.sender.syn_unacked ≡ false
    → IsSure (socket_of p side).tcb (queued_in (socket_of p side))
is_sure p side r alive there syn =
    let order = (ready_side p side r).order in
    let l = led_side p side r in
    let k = reached_keeps p side r in
    let it : IsPlaced (socket_of p side) k.side = placed (socket_of p side) k.side k.fits k.holds.0.well_formed there in
    record {
      small = order.number;
      syn = syn;
      sent = subst (λ (v : TcpValue). v.tcb.sender.flight_size ≤ v.tcb.sender.snd_max) (sym l.is) (led_timing l.room l.ring l.events).sent;
      within = order.within alive;
      few = less (socket_of p side).tcb.sender.snd_max _ it.snd_max it.few;
      board =
          subst (λ (v : TcpValue). Board v.tcb.loss.board.runs) (sym l.is) (led_on (new_socket l.room l.ring) l.events nothing_believed).board;
      lasts =
          subst (λ (v : TcpValue). v.tcb.reno.recovers ≡ true → 1 ≤ v.tcb.sender.recover) (sym l.is) (led_lasts l.room l.ring l.events);
    }
  where
    less : (a b : ℕ) → a ≤ b → b < 2 ^ 30 → a < 2 ^ 30
    less a b e f = omega (arith, e, f)

-- AN OFFER

one_offer : (mine k : OpenOffer) → Some mine ≡ Some k → mine ≡ k
one_offer mine k e = cc

none_offered : {A : Type 0} → (k : OpenOffer) → None ≡ Some k → A
none_offered k e = absurd (cc)

abbrev is_again : OfferKind → Bool
is_again Kind.FastRetransmission = true
is_again other = false

module _ (most n : ℕ) where
  abbrev Has : Tcb → Type 0
  Has b = Few most n (mending_of b)

  -- of a connection that is there
  abbrev Held : TcpValue → Type 0
  Held x = (is_synchronized x.tcb.state ≡ false) ⊎ Has x.tcb

  abbrev FallsTo : TcpValue → Type 0
  FallsTo x = x.tcb.sender.snd_max ≤ most → (1 ≤ n) × Few most (n - 1) (mending_of x.tcb)

  module _ (cx : ContextValue) (v : TcpValue) (when : ℤ) (runs : RunsOutAt when v) (early : is_due cx.instant (Some when) ≡ false) (h : Has v.tcb)
      (sure : IsSure v.tcb (queued_in v)) where
    abbrev Sent : Offered TcpValue → Type 0
    Sent o =
        ((Mends cx.instant o.socket → ⊥) × Held (settled true o.socket))
        ⊎ (BeginsAnew o.socket ⊎ FallsTo (settled true o.socket))

    abbrev Whether : Offered TcpValue → Type 0
    Whether o = Sent o × Held o.socket

    abbrev opened_by : OfferKind → TcpValue → FourTuple → TcpHeader → ℕ → ℕ → OpenOffer
    opened_by kind x pair header offset len = record {
      kind = kind;
      instant = cx.instant;
      header = header_for pair.addresses (hop_limit_of x.tcb.settings.hop_limit) (header_len header + len);
      segment = header;
      offset = offset;
      len = len;
    }

    -- what is no fast retransmission
    abbrev Goes : OfferKind → Type 0
    Goes kind = (b : Tcb) (o : OpenOffer) (queued : ℕ) → Has b → (is_synchronized (sent_as kind b o queued).state ≡ false) ⊎ Has (sent_as kind b o queued)

    abbrev moved : Tcb → OpenOffer → ℕ → Tcb
    moved b o queued = timer_started (nxt_moved b (end_of b o) queued o.instant) o.instant

    abbrev marked : Tcb → OpenOffer → Loss
    marked c o = record c.loss { undo = undo_sent c c.loss.undo o.instant }

    reset_goes : Goes Kind.Reset
    reset_goes b o queued e = inl refl

    syn_goes : Goes Kind.Syn
    syn_goes b o queued e = let c = moved (syn_was_sent b o) o queued in inr (armed_few most n c (marked c o) o.instant e)

    payload_goes : Goes Kind.Payload
    payload_goes b o queued e = let c = moved b o queued in inr (armed_few most n c (marked c o) o.instant e)

    probe_goes : Goes Kind.Probe
    probe_goes b o queued e = inr (asked_few most n (probed b (end_of b o) o.instant) o.instant e)

    keep_alive_goes : Goes Kind.KeepAlive
    keep_alive_goes b o queued e = inr (asked_few most n b o.instant e)

    ack_goes : Goes Kind.Ack
    ack_goes b o queued e = inr e

    update_goes : Goes Kind.WindowUpdate
    update_goes b o queued e = inr e

    by_segment :
        (kind : OfferKind) → Goes kind → is_again kind ≡ false → (x : TcpValue) (pair : FourTuple) (header : TcpHeader) (offset len : ℕ) → Has x.tcb
        → Whether (offer_segment kind cx x pair header offset len)
    by_segment kind goes bare x pair header offset len e =
        let o = opened_by kind x pair header offset len in
        (inl (never, goes (recorded x.tcb o (room_of x.received)) o (queued_in x) e), inr e)
      where
        never : Mends cx.instant (offer_segment kind cx x pair header offset len).socket → ⊥
        never m =
            clash
            (sym (ap is_again m.kind)
            ∙ (sym (ap (λ (o : OpenOffer). is_again o.kind) (one_offer (opened_by kind x pair header offset len) m.o m.offered)) ∙ bare))

    by_choice :
        (kind : OfferKind) → Goes kind → is_again kind ≡ false → (x : TcpValue) (pair : FourTuple) (c : Choice) → Has x.tcb
        → Whether (offer_choice kind cx x pair c)
    by_choice kind goes bare x pair c e =
        by_segment kind goes bare x pair (segment x.tcb pair cx.instant (window_of x) (control_for c (queued_in x)) (number_at x.tcb c.offset)) c.offset c.len e

    -- what is retransmitted
    by_again :
        (pair : FourTuple) (b : Tcb) → Has b → IsSure b (queued_in v) → resends b pair.addresses cx.ip_mtu v.queued ≡ true
        → Whether (offer_choice Kind.FastRetransmission cx (with_tcb (unoffered v) b) pair (resend_choice b pair.addresses cx.ip_mtu v.queued))
    by_again pair b e s does = (by b.reno.recovers refl, inr e) where
      o : Offered TcpValue
      o = offer_choice Kind.FastRetransmission cx (with_tcb (unoffered v) b) pair (resend_choice b pair.addresses cx.ip_mtu v.queued)

      by : (recovers : Bool) → b.reno.recovers ≡ recovers → Sent o
      by true recovers = inr (mended most n cx v pair b e s does recovers)
      by false not = inl ((λ m. clash (sym m.recovers ∙ not)), inr (λ recovers _. clash (sym recovers ∙ not)))

    goes_first : (pair : FourTuple) (b : Tcb) → Has b → IsSure b (queued_in v) → FirstRules cx pair Whether (with_tcb (unoffered v) b)
    goes_first pair b e s = record {
      syn = λ _. by_segment Kind.Syn syn_goes refl w pair (syn_segment b pair cx.instant cx.ip_mtu (room_of v.received) (free_in v)) 0 0 e;
      again = λ _ does. by_again pair b e s does;
      payload = λ _ _. by_choice Kind.Payload payload_goes refl w pair (payload_choice b pair.addresses cx.ip_mtu v.queued) e;
      last = λ _.
          record {
            probe = λ _ _. by_choice Kind.Probe probe_goes refl x pair probe_choice e;
            window_limited = λ _ _. by_choice Kind.Payload payload_goes refl x pair (payload_choice x.tcb pair.addresses cx.ip_mtu v.queued) e;
            ack = λ _. by_segment Kind.Ack ack_goes refl x pair (ack_segment x.tcb pair cx.instant (window_of x)) 0 0 e;
            update = λ _ _. by_segment Kind.WindowUpdate update_goes refl x pair (ack_segment x.tcb pair cx.instant (window_of x)) 0 0 e;
            keep_alive = λ _ _. by_segment Kind.KeepAlive keep_alive_goes refl x pair (keep_alive_segment x.tcb pair cx.instant (window_of x)) 0 1 e;
            quiet = λ _. (inl ((λ m. none_offered m.o m.offered), inr e), inr e);
          };
    }
      where
        w : TcpValue
        w = with_tcb (unoffered v) b

        x : TcpValue
        x = probing cx w

    not_due : is_due cx.instant v.tcb.timers.retransmit_at ≡ false
    not_due = ap (is_due cx.instant) runs ∙ early

    pub offer_few : Whether (offer_of cx v)
    offer_few =
        by_rules cx v Whether
        (record {
          nobody = λ _. (inl ((λ m. none_offered m.o m.offered), inr h), inr h);
          time_wait = λ _. (inl ((λ m. none_offered m.o m.offered), inl refl), inl refl);
          timeout = λ _. (inl ((λ m. none_offered m.o m.offered), inl refl), inl refl);
          closed = λ _. (inl ((λ m. none_offered m.o m.offered), inr h), inr h);
          reset = λ pair _ _.
              by_segment Kind.Reset reset_goes refl (unoffered v) pair (reset_segment v.tcb pair cx.instant (window_of v)) 0 0 h;
          falls = λ _ _ _. (inl ((λ m. none_offered m.o m.offered), inl refl), inl refl);
          over = λ _ _ _. (inl ((λ m. none_offered m.o m.offered), inl refl), inl refl);
          backs = λ _ _ _ due. clash (sym due ∙ not_due);
          probes = λ pair _ _ _ _.
              goes_first pair (loss_probed (begun cx v)) (probed_few most n (begun cx v) sure.lasts h)
              (record {
                small = sure.small;
                syn = sure.syn;
                sent = sure.sent;
                within = sure.within;
                few = sure.few;
                board = sure.board;
                lasts = probed_lasts (begun cx v) sure.lasts;
              });
          goes = λ pair _ _ _.
              goes_first pair (begun cx v) h
              (record {
                small = sure.small;
                syn = sure.syn;
                sent = sure.sent;
                within = sure.within;
                few = sure.few;
                board = sure.board;
                lasts = sure.lasts;
              });
        })

  -- EVENTS

  abbrev MendsBy : PairSide → PairEvent → Type 0
  MendsBy s (Offer side instant true) = Mends instant (offer_of (context_at side (record s { instant = instant })) s.socket).socket
  MendsBy s other = ⊥

  abbrev BeginsBy : PairSide → PairEvent → Type 0
  BeginsBy s (Offer side instant true) = BeginsAnew (offer_of (context_at side (record s { instant = instant })) s.socket).socket
  BeginsBy s other = ⊥

  -- where the connection is there, and SND.UNA is where it was
  abbrev Left : TcpValue → TcpValue → (Type 0) → (Type 0) → Type 0
  Left v new Mending Beginning =
      is_synchronized new.tcb.state ≡ true → new.tcb.sender.una ≡ v.tcb.sender.una
      → ((Mending → ⊥) × Has new.tcb) ⊎ (Beginning ⊎ FallsTo new)

  abbrev LeftTo : TcpValue → Type 0
  LeftTo new = is_synchronized new.tcb.state ≡ true → Has new.tcb

  by_read : (s : PairSide) (r : Result ℕ RecvError) → Has s.socket.tcb → Has (reads s r).side.socket.tcb
  by_read s (Ok k) h = h
  by_read s (Err fault) h = h

  by_control : (control : CongestionControl) (v : TcpValue) → Has v.tcb → Has (set_by (Set.CongestionControl control) v).tcb
  by_control control v h recovers _ = clash (sym recovers ∙ none) where
    none : (initial_reno v.tcb control).recovers ≡ false
    none =
        cond_both (not v.tcb.receiver.took_syn) (initial_window control)
        (if v.tcb.sender.syn_unacked then reno.with_mss (initial_window control) v.tcb.peer.mss
        else reno.started (reno.with_mss (initial_window control) v.tcb.peer.mss) false)
        (λ (r : RenoValue). r.recovers ≡ false) (λ _. refl)
        (λ _.
        cond_both v.tcb.sender.syn_unacked (reno.with_mss (initial_window control) v.tcb.peer.mss)
        (reno.started (reno.with_mss (initial_window control) v.tcb.peer.mss) false) (λ (r : RenoValue). r.recovers ≡ false) (λ _. refl) (λ _. refl))

  by_setting : (setting : Setting) (v : TcpValue) → Has v.tcb → Has (set_by setting v).tcb
  by_setting (Set.Timeout duration) v h = h
  by_setting (Set.AckDelay duration) v h = h
  by_setting (Set.KeepAlive interval) v h = h
  by_setting (Set.NagleEnabled enabled) v h = h
  by_setting (Set.HopLimit limit) v h = h
  by_setting (Set.TsvalGenerator generator) v h = h
  by_setting (Set.CongestionControl control) v h = by_control control v h
  by_setting (Set.PauseSynack paused) v h = h
  by_setting (Set.Retries limit) v h = h
  by_setting (Set.MinRto duration) v h = h
  by_setting (Set.FineTimer fine) v h = h

  by_connect : (v : TcpValue) (names : Option FourTuple) (number : ℕ) → Has v.tcb → LeftTo (connected_by v names number)
  by_connect v None number h there = h
  by_connect v (Some pair) number h there = clash (sym there)

  by_delivery :
      (side : Side) (s : PairSide) (x : Option SentSegment) → Has s.socket.tcb → is_synchronized (handed side s x).socket.tcb.state ≡ true
      → (handed side s x).socket.tcb.sender.una ≡ s.socket.tcb.sender.una → Has (handed side s x).socket.tcb
  by_delivery side s None h there same = h
  by_delivery side s (Some x) h there same =
      cond_both (accepts s.socket.tcb x.header x.segment) (taken_at s a) s
      (λ (new : PairSide). is_synchronized new.socket.tcb.state ≡ true → new.socket.tcb.sender.una ≡ s.socket.tcb.sender.una → Has new.socket.tcb)
      (λ _ there same. by (arrival_few most n (context_at side s) x.header x.segment x.bytes s.socket h) there same) (λ _ _ _. h) there same
    where
      a : Arrived
      a = arrives (context_at side s) s.socket x.header x.segment x.bytes

      by :
          (is_synchronized a.socket.tcb.state ≡ false) ⊎ (a.socket.tcb.sender.una ≡ s.socket.tcb.sender.una → Has a.socket.tcb)
          → is_synchronized a.socket.tcb.state ≡ true → a.socket.tcb.sender.una ≡ s.socket.tcb.sender.una → Has a.socket.tcb
      by (inl over) there same = clash (sym there ∙ over)
      by (inr stays) there same = stays same

  plainly : {X Y Z : Type 0} → (X → ⊥) → Y → ((X → ⊥) × Y) ⊎ Z
  plainly never h = inl (never, h)

  by_act :
      (s : PairSide) (others : List SentSegment) (event : PairEvent) (when : ℤ) → RunsOutAt when s.socket → IsAskedBefore when (side_of event) event
      → Has s.socket.tcb → IsSure s.socket.tcb (queued_in s.socket)
      → Left s.socket (acts s others event).side.socket (MendsBy s event) (BeginsBy s event)
  by_act s others (Listen side endpoint) when runs e h sure there same =
      plainly (λ never. never)
      (cond_both (is_closed s.socket.tcb.state && not (endpoint.port == 0)) (listening s.socket endpoint) (unoffered s.socket) LeftTo
      (λ _ there. clash (sym there)) (λ _ _. h) there)
  by_act s others (Connect side remote local) when runs e h sure there same =
      let cx = context_at side s in
      plainly (λ never. never)
      (cond_both (is_closed s.socket.tcb.state) (connected_by s.socket (four_tuple_for cx remote local) (number_for cx (four_tuple_for cx remote local)))
      (unoffered s.socket) LeftTo
      (λ _. by_connect s.socket (four_tuple_for cx remote local) (number_for cx (four_tuple_for cx remote local)) h) (λ _ _. h) there)
  by_act s others (Send side bytes) when runs e h sure there same =
      let v = s.socket in
      plainly (λ never. never)
      (cond_both (takes_writes v.tcb.state) (sent_more v (enqueued (anchored v.queued) (take (min (length bytes) (length v.queued.free)) bytes)))
      (unoffered v) (λ (w : TcpValue). Has w.tcb) (λ _. h) (λ _. h))
  by_act s others (Recv side count) when runs e h sure there same = plainly (λ never. never) (by_read s (recv_answer s.socket count) h)
  by_act s others (Close side) when runs e h sure there same =
      let v = s.socket in
      plainly (λ never. never)
      (cond_both (is_opening v.tcb.state) (ended (unoffered v)) (with_tcb (unoffered v) (record v.tcb { state = after_close v.tcb.state }))
      (λ (w : TcpValue). Has w.tcb) (λ _. h) (λ _. h))
  by_act s others (Abort side) when runs e h sure there same =
      let v = s.socket in
      plainly (λ never. never)
      (cond_both (is_time_wait v.tcb.state) (ended (unoffered v))
      (with_tcb (unoffered v) (record v.tcb { state = In.Closed; sender = record v.tcb.sender { reset_due = is_some v.tcb.names.pair } }))
      (λ (w : TcpValue). Has w.tcb) (λ _. h) (λ _. h))
  by_act s others (TcpSetting side setting) when runs e h sure there same = plainly (λ never. never) (by_setting setting s.socket h)
  by_act s others (Clock side instant) when runs e h sure there same = plainly (λ never. never) h
  by_act s others (Offer side instant true) when runs e h sure there same =
      by (offer_few (context_at side (record s { instant = instant })) s.socket when runs (e refl) h sure).0 where
        o : Offered TcpValue
        o = offer_of (context_at side (record s { instant = instant })) s.socket

        by :
            ((Mends instant o.socket → ⊥) × Held (settled true o.socket)) ⊎ (BeginsAnew o.socket ⊎ FallsTo (settled true o.socket))
            → ((Mends instant o.socket → ⊥) × Has (settled true o.socket).tcb) ⊎ (BeginsAnew o.socket ⊎ FallsTo (settled true o.socket))
        by (inl (never, inl over)) = clash (sym there ∙ over)
        by (inl (never, inr held)) = inl (never, held)
        by (inr rest) = inr rest
  by_act s others (Offer side instant false) when runs e h sure there same =
      by (offer_few (context_at side (record s { instant = instant })) s.socket when runs (e refl) h sure).1 where
        o : Offered TcpValue
        o = offer_of (context_at side (record s { instant = instant })) s.socket

        by : Held o.socket → ((⊥ → ⊥) × Has o.socket.tcb) ⊎ (⊥ ⊎ FallsTo o.socket)
        by (inl over) = clash (sym there ∙ over)
        by (inr held) = inl ((λ never. never), held)
  by_act s others (Deliver from k) when runs e h sure there same =
      plainly (λ never. never) (by_delivery (other from) s (slice_get others k) h there same)

  -- OF A PAIR

  abbrev LeftIn : PairValue → PairEvent → ℤ → Side → PairSide → Type 0
  LeftIn p event when side new =
      RunsOutAt when (socket_of p side) → IsAskedBefore when side event → Has (socket_of p side).tcb
      → IsSure (socket_of p side).tcb (queued_in (socket_of p side))
      → Left (socket_of p side) new.socket (MendsIn p side event) (BeginsAnewIn p side event)

  begins_in : (p : PairValue) (event : PairEvent) → BeginsBy (at p.sides (side_of event)) event → BeginsAnewIn p (side_of event) event
  begins_in p (Offer side instant true) it = (refl, it)
  begins_in p (Offer side instant false) never = never
  begins_in p (Listen side endpoint) never = never
  begins_in p (Connect side remote local) never = never
  begins_in p (Send side bytes) never = never
  begins_in p (Recv side count) never = never
  begins_in p (Close side) never = never
  begins_in p (Abort side) never = never
  begins_in p (TcpSetting side setting) never = never
  begins_in p (Clock side instant) never = never
  begins_in p (Deliver from k) never = never

  mends_by : (p : PairValue) (event : PairEvent) → MendsIn p (side_of event) event → MendsBy (at p.sides (side_of event)) event
  mends_by p (Offer side instant true) it = it.1
  mends_by p (Offer side instant false) never = never
  mends_by p (Listen side endpoint) never = never
  mends_by p (Connect side remote local) never = never
  mends_by p (Send side bytes) never = never
  mends_by p (Recv side count) never = never
  mends_by p (Close side) never = never
  mends_by p (Abort side) never = never
  mends_by p (TcpSetting side setting) never = never
  mends_by p (Clock side instant) never = never
  mends_by p (Deliver from k) never = never

  by_own : (p : PairValue) (event : PairEvent) (when : ℤ) → LeftIn p event when (side_of event) (acting p event).side
  by_own p event when runs e h sure there same =
      by (by_act (at p.sides (side_of event)) (at p.sides (other (side_of event))).sent event when runs e h sure there same) where
        by :
            ((MendsBy (at p.sides (side_of event)) event → ⊥) × Has (acting p event).side.socket.tcb)
            ⊎ (BeginsBy (at p.sides (side_of event)) event ⊎ FallsTo (acting p event).side.socket)
            → ((MendsIn p (side_of event) event → ⊥) × Has (acting p event).side.socket.tcb)
            ⊎ (BeginsAnewIn p (side_of event) event ⊎ FallsTo (acting p event).side.socket)
        by (inl (never, held)) = inl ((λ mends. never (mends_by p event mends)), held)
        by (inr (inl begins)) = inr (inl (begins_in p event begins))
        by (inr (inr falls)) = inr (inr falls)

  -- an event of the other mends nothing of a side
  not_of : (p : PairValue) (side : Side) (event : PairEvent) → (side_of event ≡ side → ⊥) → MendsIn p side event → ⊥
  not_of p side (Offer of instant true) not it = not it.0
  not_of p side (Offer of instant false) not never = never
  not_of p side (Listen of endpoint) not never = never
  not_of p side (Connect of remote local) not never = never
  not_of p side (Send of bytes) not never = never
  not_of p side (Recv of count) not never = never
  not_of p side (Close of) not never = never
  not_of p side (Abort of) not never = never
  not_of p side (TcpSetting of setting) not never = never
  not_of p side (Clock of instant) not never = never
  not_of p side (Deliver from k) not never = never

  by_two :
      (P : PairSide → Type 0) (both : Both PairSide) (of side : Side) (new : PairSide) → (of ≡ side → P new)
      → ((of ≡ side → ⊥) → P (at both side)) → P (at (put both of new) side)
  by_two P both A A new own not = own refl
  by_two P both A B new own not = not (λ e. absurd (cc))
  by_two P both B A new own not = not (λ e. absurd (cc))
  by_two P both B B new own not = own refl

  pub few_after :
      (p : PairValue) (side : Side) (event : PairEvent) (when : ℤ) → RunsOutAt when (socket_of p side) → IsAskedBefore when side event
      → Has (socket_of p side).tcb → IsSure (socket_of p side).tcb (queued_in (socket_of p side))
      → is_synchronized (socket_of (takes p event) side).tcb.state ≡ true
      → (socket_of (takes p event) side).tcb.sender.una ≡ (socket_of p side).tcb.sender.una
      → ((MendsIn p side event → ⊥) × Has (socket_of (takes p event) side).tcb) ⊎ (BeginsAnewIn p side event ⊎ FallsTo (socket_of (takes p event) side))
  few_after p side event when runs e h sure =
      by_two (λ (new : PairSide). Left (socket_of p side) new.socket (MendsIn p side event) (BeginsAnewIn p side event)) p.sides (side_of event) side
      (acting p event).side
      (λ own. subst (λ (s : Side). LeftIn p event when s (acting p event).side) own (by_own p event when) runs e h sure)
      (λ not _ _. inl (not_of p side event not, h))
