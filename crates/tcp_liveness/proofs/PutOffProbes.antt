-- Only what goes puts a probe off: no window does.
use Rattle.std.proofs.Common.{◌≡◌, ◌⊎◌, inl, inr, ℕ, ◌+◌, ◌==◌, ◌&&◌, not, min, ℤ, Bool, true, false}
use Rattle.std.proofs.Common.{if◌then◌else◌, List, length, take, Option, Some, None, is_none, is_some, Result, Ok, Err, slice_get, refl, sym, ap, ◌∙◌, subst}
use Rattle.std.proofs.lemmas.Bool.{cond_both}
use Rattle.net_base.specs.Ring.{anchored, enqueued}
use Rattle.ip_wire.specs.IpRepr.{IpRepr}
use Rattle.ip_wire.specs.Tcp.{header_len}
use Rattle.ip_wire.specs.TcpHeader.{TcpHeader}
use Rattle.tcp_refinement.specs.Context.{ContextValue}
use Rattle.tcp_refinement.specs.Offers.{Offered}
use Rattle.tcp_invariants.specs.FourTuple.{FourTuple}
use Rattle.tcp_invariants.specs.Endpoints.{header_for}
use Rattle.tcp_invariants.specs.Moments.{is_over, timeout_from}
use Rattle.tcp_invariants.specs.OfferKind.{OfferKind}
use Rattle.tcp_invariants.specs.OfferKind.TheVariants as Kind
use Rattle.tcp_invariants.specs.OpenOffer.{OpenOffer}
use Rattle.tcp_invariants.specs.RecvError.{RecvError}
use Rattle.tcp_invariants.specs.State.TheVariants as In
use Rattle.tcp_invariants.specs.States.{is_closed, is_opening, is_time_wait, takes_writes, after_close}
use Rattle.tcp_invariants.proofs.ArrivalCases.{by_arrival, Received, Opening, Content, Drawing, acked_open, heeded, timed}
use Rattle.tcp_invariants.proofs.OfferCases.{FirstRules, by_rules, begun, probing}
use Rattle.tcp_invariants.proofs.OrderSteps.{clash}
use Rattle.tcp_block.specs.Acknowledged.{windowed}
use Rattle.tcp_block.specs.Arrival.{arrives, waiting_anew}
use Rattle.tcp_block.specs.declared.tcb.Tcb.{Tcb}
use Rattle.tcp_block.specs.Calls.{connected_by, listening, four_tuple_for, recv_answer, sent_more}
use Rattle.tcp_block.specs.Isn.{number_for}
use Rattle.tcp_refinement.specs.Pair.History.{side_of}
use Rattle.tcp_block.specs.LossRecovery.{loss_probed}
use Rattle.tcp_block.specs.Names.{accepts}
use Rattle.tcp_block.specs.Offers.{number_at, offer_choice, offer_of, offer_segment}
use Rattle.tcp_block.specs.Retries.{asked, heard, one_more}
use Rattle.tcp_block.specs.Rules.{Choice, control_for, probe_choice, resend_choice, payload_choice}
use Rattle.tcp_block.specs.Segments.{ack_segment, hop_limit_of, keep_alive_segment, reset_segment, segment, syn_segment}
use Rattle.tcp_block.specs.Settled.{recorded, sent_as, settled}
use Rattle.tcp_refinement.specs.Pair.Sides.{at, other}
use Rattle.tcp_refinement.specs.Pair.Steps.{acting, acts, handed, reads, set_by, taken_at}
use Rattle.tcp_block.specs.Timestamps.{tsval_taken}
use Rattle.tcp_block.specs.Value.{TcpValue, Arrived, with_tcb, unoffered, ended, free_in, queued_in, room_of, window_of}
use Rattle.tcp_refinement.specs.Pair.Values.{PairSide, PairValue, context_at}
use Rattle.tcp_refinement.specs.declared.pair.event.PairEvent.{PairEvent}
use Rattle.tcp_refinement.specs.declared.pair.event.PairEvent.TheVariants.{Listen, Connect, Send, Recv, Close, Abort, TcpSetting, Clock, Offer, Deliver}
use Rattle.tcp_refinement.specs.declared.pair.event.SentSegment.{SentSegment}
use Rattle.tcp_refinement.specs.declared.pair.event.Side.{Side}
use Rattle.tcp_refinement.specs.declared.pair.event.TcpSetting.{TcpSetting as Setting}
use Rattle.tcp_refinement.specs.declared.pair.event.TcpSetting.TheVariants as Set
use Rattle.tcp_liveness.specs.Pair.{socket_of}
use Rattle.tcp_liveness.specs.PutOff.{Carries, CarriesIn, MayProbe, ProbesAt}
use Rattle.tcp_block.specs.Probing.{is_probing, may_probe, probe_kept, probe_started, is_probe_unset}
use Rattle.tcp_block.specs.Rules.{backed_off_now}
use Rattle.tcp_block.specs.Payload.{fin_taken, taken_in_order}
use Rattle.tcp_invariants.specs.Timing.{carries}
use Rattle.tcp_liveness.proofs.PutOff.{by_put}
use Rattle.tcp_liveness.specs.Rounds.{takes}

-- A SEGMENT COMES

-- where bytes are queued and nothing is in flight, its instant stays
kept_probe : (b : Tcb) (queued : ℕ) (timer : Option ℤ) → b.timers.probe_at ≡ timer → may_probe b queued ≡ true →
    (probe_kept b queued).timers.probe_at ≡ timer
kept_probe b queued timer same held = ap (λ (t : Bool). if t then b.timers.probe_at else None) held ∙ same

module _ (cx : ContextValue) (ip : IpRepr) (header : TcpHeader) (bytes : List ℕ) (v : TcpValue) where
  abbrev Since : TcpValue → Type 0
  Since x = x.tcb.timers.probe_at ≡ v.tcb.timers.probe_at

  abbrev Stays : Arrived → Type 0
  Stays a = may_probe a.socket.tcb (queued_in a.socket) ≡ true → a.socket.tcb.timers.probe_at ≡ v.tcb.timers.probe_at

  stays_drawing : (x : TcpValue) → Since x → Drawing cx ip header bytes Stays x
  stays_drawing x h = record { answers = λ _ _. h; at_once = λ _. h; pauses = λ _. h }

  stays_content : (x : TcpValue) → Since x → Content cx ip header bytes Stays x
  stays_content x h = record {
    plain = let it = kept_probe x.tcb (queued_in x) v.tcb.timers.probe_at h in (λ _. it, it);
    fin = λ _ _. let it = kept_probe (fin_taken x.tcb cx.instant) (queued_in x) v.tcb.timers.probe_at h in (λ _. it, it);
    ordered = λ map _ _ _. let it = kept_probe (taken_in_order x map).socket.tcb (queued_in x) v.tcb.timers.probe_at h in (λ _. it, it);
    ordered_fin = λ map _ _ _. let it = kept_probe (fin_taken (taken_in_order x map).socket.tcb cx.instant) (queued_in x) v.tcb.timers.probe_at h in (λ _. it, it);
    early = λ _ _ _ _. kept_probe x.tcb (queued_in x) v.tcb.timers.probe_at h;
  }

  stays_received : Received cx ip header bytes Stays (unoffered v)
  stays_received = record {
    stays = λ _. refl;
    refuses = λ _. refl;
    draws = stays_drawing (unoffered v) refl;
    falls = λ _ _ _ held. clash (sym held);
    ends = λ _ _ _ _. refl;
    closes = λ _ _ _ _. refl;
    taken = λ by _ _.
        stays_content
        (heeded cx.instant header (length bytes) (unoffered v) by (acked_open (timed cx.instant header (unoffered v) by) by cx.instant).tcb) refl;
    taken_window = λ by _ _.
        stays_content
        (heeded cx.instant header (length bytes) (unoffered v) by
        (windowed (acked_open (timed cx.instant header (unoffered v) by) by cx.instant).tcb header))
        refl;
    news = λ by _ _. stays_drawing (waiting_anew (acked_open (timed cx.instant header (unoffered v) by) by cx.instant) header cx.instant) refl;
    outside = stays_drawing (waiting_anew (unoffered v) header cx.instant) refl;
    old = λ _. stays_content (with_tcb (unoffered v) (tsval_taken (heard v.tcb) header cx.instant)) refl;
  }

  stays_opening : Opening cx ip header bytes Stays (unoffered v)
  stays_opening = record {
    opens = λ _ _ _. refl;
    refuses = λ _. refl;
    ends = λ _ _. refl;
    connects = λ _ _ _. refl;
    crosses = λ _ _ _. refl;
  }

  arrival_stays : Stays (arrives cx v ip header bytes)
  arrival_stays = by_arrival cx ip header bytes Stays v (λ _. refl) (λ _. stays_opening) (λ _. stays_received)

-- AN OFFER

module _ (cx : ContextValue) (v : TcpValue) (when : ℤ) (waits : ProbesAt when v) where
  abbrev Waits : Tcb → Type 0
  Waits b = b.timers.probe_at ≡ Some when

  -- it waits still, or it goes
  abbrev Unsent : Offered TcpValue → Type 0
  Unsent o = may_probe o.socket.tcb (queued_in o.socket) ≡ true → ProbesAt when o.socket

  abbrev Sent : Offered TcpValue → Type 0
  Sent o =
      (may_probe (settled true o.socket).tcb (queued_in (settled true o.socket)) ≡ true → ProbesAt when (settled true o.socket)) ⊎ Carries o.socket

  abbrev Whether : Offered TcpValue → Type 0
  Whether o = Sent o × Unsent o

  asked_waits : (b : Tcb) (instant : ℤ) → Waits b → Waits (asked b instant)
  asked_waits b instant e =
      cond_both (is_over instant b.timers.counts_from)
      (record b {
        sender = record b.sender { unanswered = one_more b.sender.unanswered };
        timers = record b.timers { counts_from = Some (timeout_from instant b.round_trip) };
      })
      b Waits (λ _. e) (λ _. e)

  abbrev opened_by : OfferKind → TcpValue → FourTuple → TcpHeader → ℕ → ℕ → OpenOffer
  opened_by kind x pair header offset len = record {
    kind = kind;
    instant = cx.instant;
    header = header_for pair.addresses (hop_limit_of x.tcb.settings.hop_limit) (header_len header + len);
    segment = header;
    offset = offset;
    len = len;
  }

  abbrev Goes : OfferKind → Type 0
  Goes kind = (b : Tcb) (o : OpenOffer) (queued : ℕ) → Waits b → Waits (sent_as kind b o queued)

  reset_goes : Goes Kind.Reset
  reset_goes b o queued e = e

  keep_alive_goes : Goes Kind.KeepAlive
  keep_alive_goes b o queued e = asked_waits b o.instant e

  ack_goes : Goes Kind.Ack
  ack_goes b o queued e = e

  update_goes : Goes Kind.WindowUpdate
  update_goes b o queued e = e

  by_segment :
      (kind : OfferKind) → Goes kind → (x : TcpValue) (pair : FourTuple) (header : TcpHeader) (offset len : ℕ) → Waits x.tcb
      → Whether (offer_segment kind cx x pair header offset len)
  by_segment kind goes x pair header offset len e =
      let o = opened_by kind x pair header offset len in
      (inl (λ _. goes (recorded x.tcb o (room_of x.received)) o (queued_in x) e), λ _. e)

  -- a SYN or a part of the send queue
  by_carried :
      (kind : OfferKind) → carries kind ≡ true → (x : TcpValue) (pair : FourTuple) (header : TcpHeader) (offset len : ℕ) → Waits x.tcb
      → Whether (offer_segment kind cx x pair header offset len)
  by_carried kind some x pair header offset len e =
      (inr (record { o = opened_by kind x pair header offset len; offered = refl; carries_some = some }), λ _. e)

  by_choice : (kind : OfferKind) → carries kind ≡ true → (x : TcpValue) (pair : FourTuple) (c : Choice) → Waits x.tcb → Whether (offer_choice kind cx x pair c)
  by_choice kind some x pair c e =
      by_carried kind some x pair (segment x.tcb pair cx.instant (window_of x) (control_for c (queued_in x)) (number_at x.tcb c.offset)) c.offset c.len e

  -- one that is set already isn't set again
  started_waits : (b : Tcb) → Waits b → Waits (probe_started cx.instant (queued_in v) b)
  started_waits b e =
      cond_both (is_probe_unset b (queued_in v)) (Some (timeout_from cx.instant b.round_trip)) b.timers.probe_at (λ (timer : Option ℤ). timer ≡ Some when)
      (λ unset. clash (sym unset ∙ is_set b e)) (λ _. e)
    where
      second : (x y : Bool) → y ≡ false → (x && y) ≡ false
      second true y f = f
      second false y f = refl

      is_set : (b : Tcb) → Waits b → is_probe_unset b (queued_in v) ≡ false
      is_set b e = second (is_probing b (queued_in v)) (is_none b.timers.probe_at) (ap is_none e)

  goes_first : (pair : FourTuple) (b : Tcb) → Waits b → FirstRules cx pair Whether (with_tcb (unoffered v) b)
  goes_first pair b e = record {
    syn = λ _. by_carried Kind.Syn refl w pair (syn_segment b pair cx.instant cx.ip_mtu (room_of v.received) (free_in v)) 0 0 e;
    again = λ _ _. by_choice Kind.FastRetransmission refl w pair (resend_choice b pair.addresses cx.ip_mtu v.queued) e;
    payload = λ _ _. by_choice Kind.Payload refl w pair (payload_choice b pair.addresses cx.ip_mtu v.queued) e;
    last = λ _.
        record {
          probe = λ _ _. by_choice Kind.Probe refl x pair probe_choice (started_waits b e);
          window_limited = λ _ _. by_choice Kind.Payload refl x pair (payload_choice x.tcb pair.addresses cx.ip_mtu v.queued) (started_waits b e);
          ack = λ _. by_segment Kind.Ack ack_goes x pair (ack_segment x.tcb pair cx.instant (window_of x)) 0 0 (started_waits b e);
          update = λ _ _. by_segment Kind.WindowUpdate update_goes x pair (ack_segment x.tcb pair cx.instant (window_of x)) 0 0 (started_waits b e);
          keep_alive = λ _ _.
              by_segment Kind.KeepAlive keep_alive_goes x pair (keep_alive_segment x.tcb pair cx.instant (window_of x)) 0 1 (started_waits b e);
          quiet = λ _. (inl (λ _. started_waits b e), λ _. started_waits b e);
        };
  }
    where
      w : TcpValue
      w = with_tcb (unoffered v) b

      x : TcpValue
      x = probing cx w

  offer_stays : Whether (offer_of cx v)
  offer_stays =
      by_rules cx v Whether
      (record {
        nobody = λ _. (inl (λ _. waits), λ _. waits);
        time_wait = λ _. (inl (λ _. waits), λ _. waits);
        timeout = λ _. (inl (λ _. waits), λ _. waits);
        closed = λ _. (inl (λ _. waits), λ _. waits);
        reset = λ pair _ _.
            by_segment Kind.Reset reset_goes (unoffered v) pair (reset_segment v.tcb pair cx.instant (window_of v)) 0 0 waits;
        falls = λ _ _ _. (inl (λ held. clash (sym held)), λ held. clash (sym held));
        over = λ _ _ _. (inl (λ _. waits), λ _. waits);
        backs = λ pair _ _ _. goes_first pair (backed_off_now (begun cx v)) waits;
        probes = λ pair _ _ _ _. goes_first pair (loss_probed (begun cx v)) waits;
        goes = λ pair _ _ _. goes_first pair (begun cx v) waits;
      })

-- EVENTS

abbrev CarriesBy : PairSide → PairEvent → Type 0
CarriesBy s (Offer side instant true) = Carries (offer_of (context_at side (record s { instant = instant })) s.socket).socket
CarriesBy s other = ⊥

module _ (when : ℤ) where
  abbrev Left : PairSide → Type 0 → Type 0
  Left new X = MayProbe new.socket → ProbesAt when new.socket ⊎ X

  abbrev LeftTo : TcpValue → Type 0
  LeftTo new = MayProbe new → ProbesAt when new

  by_read : (s : PairSide) (r : Result ℕ RecvError) → ProbesAt when s.socket → ProbesAt when (reads s r).side.socket
  by_read s (Ok n) waits = waits
  by_read s (Err fault) waits = waits

  by_setting : (setting : Setting) (v : TcpValue) → ProbesAt when v → ProbesAt when (set_by setting v)
  by_setting (Set.Timeout duration) v waits = waits
  by_setting (Set.AckDelay duration) v waits = waits
  by_setting (Set.KeepAlive interval) v waits = waits
  by_setting (Set.NagleEnabled enabled) v waits = waits
  by_setting (Set.HopLimit limit) v waits = waits
  by_setting (Set.TsvalGenerator generator) v waits = waits
  by_setting (Set.CongestionControl control) v waits = waits
  by_setting (Set.PauseSynack paused) v waits = waits
  by_setting (Set.Retries limit) v waits = waits
  by_setting (Set.MinRto duration) v waits = waits
  by_setting (Set.FineTimer fine) v waits = waits

  by_connect : (v : TcpValue) (names : Option FourTuple) (number : ℕ) → ProbesAt when v → LeftTo (connected_by v names number)
  by_connect v None number waits held = waits
  by_connect v (Some pair) number waits held = clash (sym held)

  by_delivery : (side : Side) (s : PairSide) (x : Option SentSegment) → ProbesAt when s.socket → LeftTo (handed side s x).socket
  by_delivery side s None waits held = waits
  by_delivery side s (Some x) waits held =
      cond_both (accepts s.socket.tcb x.header x.segment) (taken_at s (arrives (context_at side s) s.socket x.header x.segment x.bytes)) s
      (λ (new : PairSide). LeftTo new.socket) (λ _ held. arrival_stays (context_at side s) x.header x.segment x.bytes s.socket held ∙ waits)
      (λ _ _. waits) held

  by_act : (s : PairSide) (others : List SentSegment) (event : PairEvent) → ProbesAt when s.socket → Left (acts s others event).side (CarriesBy s event)
  by_act s others (Listen side endpoint) waits held =
      inl
      (cond_both (is_closed s.socket.tcb.state && not (endpoint.port == 0)) (listening s.socket endpoint) (unoffered s.socket) LeftTo
      (λ _ held. clash (sym held)) (λ _ _. waits) held)
  by_act s others (Connect side remote local) waits held =
      let cx = context_at side s in
      inl
      (cond_both (is_closed s.socket.tcb.state) (connected_by s.socket (four_tuple_for cx remote local) (number_for cx (four_tuple_for cx remote local)))
      (unoffered s.socket) LeftTo (λ _. by_connect s.socket (four_tuple_for cx remote local) (number_for cx (four_tuple_for cx remote local)) waits)
      (λ _ _. waits) held)
  by_act s others (Send side bytes) waits held =
      let v = s.socket in
      inl
      (cond_both (takes_writes v.tcb.state) (sent_more v (enqueued (anchored v.queued) (take (min (length bytes) (length v.queued.free)) bytes)))
      (unoffered v) (ProbesAt when) (λ _. waits) (λ _. waits))
  by_act s others (Recv side count) waits held = inl (by_read s (recv_answer s.socket count) waits)
  by_act s others (Close side) waits held =
      let v = s.socket in
      inl
      (cond_both (is_opening v.tcb.state) (ended (unoffered v)) (with_tcb (unoffered v) (record v.tcb { state = after_close v.tcb.state }))
      (ProbesAt when) (λ _. waits) (λ _. waits))
  by_act s others (Abort side) waits held =
      let v = s.socket in
      inl
      (cond_both (is_time_wait v.tcb.state) (ended (unoffered v))
      (with_tcb (unoffered v) (record v.tcb { state = In.Closed; sender = record v.tcb.sender { reset_due = is_some v.tcb.names.pair } }))
      (ProbesAt when) (λ _. waits) (λ _. waits))
  by_act s others (TcpSetting side setting) waits held = inl (by_setting setting s.socket waits)
  by_act s others (Clock side instant) waits held = inl waits
  by_act s others (Offer side instant true) waits held =
      by (offer_stays (context_at side (record s { instant = instant })) s.socket when waits).0 where
        o : Offered TcpValue
        o = offer_of (context_at side (record s { instant = instant })) s.socket

        by :
            (may_probe (settled true o.socket).tcb (queued_in (settled true o.socket)) ≡ true → ProbesAt when (settled true o.socket)) ⊎ Carries o.socket
            → ProbesAt when (settled true o.socket) ⊎ Carries o.socket
        by (inl stays) = inl (stays held)
        by (inr some) = inr some
  by_act s others (Offer side instant false) waits held =
      inl ((offer_stays (context_at side (record s { instant = instant })) s.socket when waits).1 held)
  by_act s others (Deliver from k) waits held = inl (by_delivery (other from) s (slice_get others k) waits held)

-- OF A PAIR

carries_in : (p : PairValue) (event : PairEvent) → CarriesBy (at p.sides (side_of event)) event → CarriesIn p (side_of event) event
carries_in p (Offer side instant true) some = (refl, some)
carries_in p (Offer side instant false) never = never
carries_in p (Listen side endpoint) never = never
carries_in p (Connect side remote local) never = never
carries_in p (Send side bytes) never = never
carries_in p (Recv side count) never = never
carries_in p (Close side) never = never
carries_in p (Abort side) never = never
carries_in p (TcpSetting side setting) never = never
carries_in p (Clock side instant) never = never
carries_in p (Deliver from k) never = never

abbrev LeftIn : PairValue → PairEvent → ℤ → Side → PairSide → Type 0
LeftIn p event when side new = ProbesAt when (socket_of p side) → MayProbe new.socket → ProbesAt when new.socket ⊎ CarriesIn p side event

by_own : (p : PairValue) (event : PairEvent) (when : ℤ) → LeftIn p event when (side_of event) (acting p event).side
by_own p event when waits held = by (by_act when (at p.sides (side_of event)) (at p.sides (other (side_of event))).sent event waits held) where
  by :
      ProbesAt when (acting p event).side.socket ⊎ CarriesBy (at p.sides (side_of event)) event
      → ProbesAt when (acting p event).side.socket ⊎ CarriesIn p (side_of event) event
  by (inl waits) = inl waits
  by (inr some) = inr (carries_in p event some)

pub window_limited :
    (p : PairValue) (side : Side) (event : PairEvent) (when : ℤ) → ProbesAt when (socket_of p side) → MayProbe (socket_of (takes p event) side)
    → ProbesAt when (socket_of (takes p event) side) ⊎ CarriesIn p side event
window_limited p side event when waits =
    by_put (LeftIn p event when side) p.sides (side_of event) side (acting p event).side
    (λ own. subst (λ (s : Side). LeftIn p event when s (acting p event).side) own (by_own p event when))
    (λ waits _. inl waits) waits
