-- What leaves SND.UNA leaves the retransmission timer, but for what is retransmitted in a recovery.
use Rattle.std.proofs.Common.{◌≡◌, ◌⊎◌, inl, inr, ℕ, ◌+◌, ◌-◌, ◌%◌, ◌^◌, ◌<◌, ◌==◌, ◌&&◌, nat_le, nat_lt, not, min, ℤ, pos, ◌+ℤ◌, Bool, true, false}
use Rattle.std.proofs.Common.{if◌then◌else◌, List, length, take, Option, Some, None, is_some, Result, Ok, Err, slice_get, refl, sym, ap, ◌∙◌, subst, arith}
use Rattle.std.proofs.lemmas.Bool.{cond_both, eq-eqb, ltb-true}
use Rattle.net_base.specs.Ring.{anchored, enqueued}
use Rattle.ip_wire.specs.IpRepr.{IpRepr}
use Rattle.ip_wire.specs.Seq.{distance_of}
use Rattle.ip_wire.specs.SeqNumber.{SeqNumber}
use Rattle.ip_wire.specs.Tcp.{header_len}
use Rattle.ip_wire.specs.TcpHeader.{TcpHeader}
use Rattle.tcp_refinement.specs.Context.{ContextValue}
use Rattle.tcp_refinement.specs.Offers.{Offered}
use Rattle.tcp_block.specs.RoundTrip as round_trip
use Rattle.tcp_block.specs.RoundTrip.{RoundTripValue}
use Rattle.tcp_block.specs.Opening.{took_syn}
use Rattle.tcp_invariants.specs.FourTuple.{FourTuple}
use Rattle.tcp_invariants.specs.Endpoints.{header_for}
use Rattle.tcp_invariants.specs.Moments.{is_due, is_over, timeout_from}
use Rattle.tcp_invariants.specs.Offsets.{distance_after, distance_before, advanced_by}
use Rattle.tcp_invariants.specs.OfferKind.{OfferKind}
use Rattle.tcp_invariants.specs.OfferKind.TheVariants as Kind
use Rattle.tcp_invariants.specs.OpenOffer.{OpenOffer}
use Rattle.tcp_invariants.specs.RecvError.{RecvError}
use Rattle.tcp_invariants.specs.State.{State}
use Rattle.tcp_invariants.specs.State.TheVariants as In
use Rattle.tcp_invariants.specs.States.{is_answering, is_closed, is_listening, is_opening, is_time_wait, takes_writes, after_close}
use Rattle.tcp_invariants.proofs.ArrivalCases.{by_arrival, Received, Opening, Content, Drawing, acked_open, heeded, timed}
use Rattle.tcp_invariants.proofs.OfferCases.{FirstRules, by_rules, begun, probing}
use Rattle.tcp_invariants.proofs.OrderSteps.{clash}
use Rattle.tcp_block.specs.Acknowledged.{is_blind, round_trip_after, una_moved, windowed}
use Rattle.tcp_block.specs.Arrival.{arrives, waiting_anew}
use Rattle.tcp_block.specs.declared.tcb.Tcb.{Tcb}
use Rattle.tcp_block.specs.Calls.{connected_by, listening, four_tuple_for, recv_answer, sent_more}
use Rattle.tcp_block.specs.Checks.{acknowledgement_check, synchronized_check}
use Rattle.tcp_block.specs.Checks.Check.{Passes, Old, Drops, Draws, Resets}
use Rattle.tcp_block.specs.Isn.{number_for}
use Rattle.tcp_refinement.specs.Pair.History.{side_of}
use Rattle.tcp_block.specs.LossRecovery.{is_first_lost, loss_probed}
use Rattle.tcp_block.specs.Names.{accepts}
use Rattle.tcp_block.specs.Offers.{number_at, offer_choice, offer_of, offer_segment}
use Rattle.tcp_block.specs.Retries.{asked, heard, one_more}
use Rattle.tcp_block.specs.Rules.{Choice, control_for, probe_choice, resend_choice, payload_choice}
use Rattle.tcp_block.specs.Segments.{ack_segment, hop_limit_of, keep_alive_segment, reset_segment, segment, syn_segment}
use Rattle.tcp_block.specs.Settled.{end_of, nxt_moved, probed, recorded, resent, sent_as, settled}
use Rattle.tcp_refinement.specs.Pair.Sides.{Both, at, other, put}
use Rattle.tcp_refinement.specs.Pair.Steps.{acting, acts, handed, reads, set_by, taken_at}
use Rattle.tcp_block.specs.Timestamps.{tsecr_taken, tsval_taken}
use Rattle.tcp_block.specs.Value.{TcpValue, Arrived, with_tcb, unoffered, ended, free_in, queued_in, room_of, window_of}
use Rattle.tcp_refinement.specs.Pair.Values.{PairSide, PairValue, context_at}
use Rattle.tcp_refinement.specs.declared.pair.event.PairEvent.{PairEvent}
use Rattle.tcp_refinement.specs.declared.pair.event.PairEvent.TheVariants.{Listen, Connect, Send, Recv, Close, Abort, TcpSetting, Clock, Offer, Deliver}
use Rattle.tcp_refinement.specs.declared.pair.event.SentSegment.{SentSegment}
use Rattle.tcp_refinement.specs.declared.pair.event.Side.{Side}
use Rattle.tcp_refinement.specs.declared.pair.event.Side.TheVariants.{A, B}
use Rattle.tcp_refinement.specs.declared.pair.event.TcpSetting.{TcpSetting as Setting}
use Rattle.tcp_refinement.specs.declared.pair.event.TcpSetting.TheVariants as Set
use Rattle.tcp_liveness.specs.Arrivals.{is_synchronized}
use Rattle.tcp_liveness.specs.Pair.{socket_of}
use Rattle.tcp_liveness.specs.PutOff.{IsAskedBefore, IsRunning, Mends, MendsIn, RunsOutAt}
use Rattle.tcp_liveness.specs.Reached.{IsReached}
use Rattle.tcp_liveness.specs.Rounds.{takes}
use Rattle.tcp_liveness.proofs.Ready.{ready_side}

-- HOW FAR AN ACKNOWLEDGEMENT REACHES

one_passed : (past by : ℕ) → Passes past ≡ Passes by → past ≡ by
one_passed past by e = cc

past_small : (reference number : SeqNumber) → distance_after reference number < 2 ^ 32
past_small reference number =
    cond_both (nat_lt d (2 ^ 31)) d 0 (λ (n : ℕ). n < 2 ^ 32) (λ e. more d (ltb-true d (2 ^ 31) e)) (λ _. omega arith)
  where
    d : ℕ
    d = distance_of reference number

    more : (n : ℕ) → n < 2 ^ 31 → n < 2 ^ 32
    more n e = omega arith

later_small : (b : Tcb) (past before by : ℕ) → past < 2 ^ 32 → synchronized_check b past before ≡ Passes by → by < 2 ^ 32
later_small b past before by small =
    tested (nat_lt b.sender.snd_max past) ((past == 0) && nat_le b.sender.past_iss before) (before == 0) (nat_lt b.peer.largest_window before)
  where
    tested :
        (more none first far : Bool) → (if more then Draws else if none then Drops else if first then Passes past else if far then Draws else Old) ≡ Passes by
        → by < 2 ^ 32
    tested true none first far e = absurd (cc)
    tested false true first far e = absurd (cc)
    tested false false true far e = subst (λ (n : ℕ). n < 2 ^ 32) (one_passed past by e) small
    tested false false false true e = absurd (cc)
    tested false false false false e = absurd (cc)

pub passes_small : (b : Tcb) (ack : Option SeqNumber) (by : ℕ) → acknowledgement_check b ack ≡ Passes by → by < 2 ^ 32
passes_small b None by e = absurd (cc)
passes_small b (Some n) by e = tested (is_answering b.state) e where
  opened : (test : Bool) → (if test then Passes 1 else Resets) ≡ Passes by → by < 2 ^ 32
  opened true e = subst (λ (n : ℕ). n < 2 ^ 32) (one_passed 1 by e) (omega arith)
  opened false e = absurd (cc)

  tested :
      (first : Bool)
      → (if first then (if distance_of b.sender.una n == 1 then Passes 1 else Resets)
      else synchronized_check b (distance_after b.sender.una n) (distance_before b.sender.una n)) ≡ Passes by
      → by < 2 ^ 32
  tested true e = opened (distance_of b.sender.una n == 1) e
  tested false e = later_small b (distance_after b.sender.una n) (distance_before b.sender.una n) by (past_small b.sender.una n) e

none_moved : (una by : ℕ) → by < 2 ^ 32 → (una + by) % 2 ^ 32 ≡ una → by ≡ 0
none_moved una by a e = omega arith

pub moved_stays :
    (b : Tcb) (by queued : ℕ) (now : ℤ) → by < 2 ^ 32 → advanced_by b.sender.una by ≡ b.sender.una
    → (una_moved b by queued now).timers.retransmit_at ≡ b.timers.retransmit_at
moved_stays b by queued now small same =
    cond_both (by == 0) b.timers.retransmit_at
    (if b.sender.flight_size - by == 0 then None
    else if b.sender.partial && is_blind b by then b.timers.retransmit_at else Some (timeout_from now (round_trip_after b by now)))
    (λ (timer : Option ℤ). timer ≡ b.timers.retransmit_at)
    (λ _. refl)
    (λ some. clash (sym (eq-eqb by 0 (none_moved b.sender.una.0 by small (ap (λ (n : SeqNumber). n.0) same))) ∙ some))

-- A SEGMENT COMES

module _ (cx : ContextValue) (ip : IpRepr) (header : TcpHeader) (bytes : List ℕ) (v : TcpValue) where
  abbrev Since : TcpValue → Type 0
  Since x = x.tcb.sender.una ≡ v.tcb.sender.una → x.tcb.timers.retransmit_at ≡ v.tcb.timers.retransmit_at

  -- it listens again, or the timer stays
  abbrev Stays : Arrived → Type 0
  Stays a = (is_listening a.socket.tcb.state ≡ true) ⊎ Since a.socket

  stays_drawing : (x : TcpValue) → Since x → Drawing cx ip header bytes Stays x
  stays_drawing x h = record { answers = λ _. inr h; at_once = inr h; pauses = inr h }

  stays_content : (x : TcpValue) → Since x → Content cx ip header bytes Stays x
  stays_content x h = record {
    plain = (λ _. inr h, inr h);
    fin = λ _ _. (λ _. inr h, inr h);
    ordered = λ _ _ _ _. (λ _. inr h, inr h);
    ordered_fin = λ _ _ _ _. (λ _. inr h, inr h);
    early = λ _ _ _ _. inr h;
  }

  risen : (by : ℕ) → acknowledgement_check v.tcb header.ack_number ≡ Passes by →
      Since (acked_open (timed cx.instant header (unoffered v) by) by cx.instant)
  risen by passes same =
      moved_stays (timed cx.instant header (unoffered v) by).tcb by (queued_in v) cx.instant (passes_small v.tcb header.ack_number by passes) same

  stays_received : Received cx ip header bytes Stays (unoffered v)
  stays_received = record {
    stays = inr (λ _. refl);
    refuses = inr (λ _. refl);
    draws = stays_drawing (unoffered v) (λ _. refl);
    falls = λ _ _ _. inl refl;
    ends = λ _ _ _. inr (λ _. refl);
    closes = λ by passes _. inr (risen by passes);
    taken = λ by passes _.
        stays_content
        (heeded cx.instant header (length bytes) (unoffered v) by (acked_open (timed cx.instant header (unoffered v) by) by cx.instant).tcb)
        (risen by passes);
    taken_window = λ by passes _.
        stays_content
        (heeded cx.instant header (length bytes) (unoffered v) by
        (windowed (acked_open (timed cx.instant header (unoffered v) by) by cx.instant).tcb header))
        (risen by passes);
    news = λ by passes _.
        stays_drawing (waiting_anew (acked_open (timed cx.instant header (unoffered v) by) by cx.instant) header cx.instant) (risen by passes);
    outside = stays_drawing (waiting_anew (unoffered v) header cx.instant) (λ _. refl);
    old = λ _. stays_content (with_tcb (unoffered v) (tsval_taken (heard v.tcb) header cx.instant)) (λ _. refl);
  }

  stays_opening : Opening cx ip header bytes Stays (unoffered v)
  stays_opening = record {
    opens = λ _ _. inr (λ _. refl);
    refuses = inr (λ _. refl);
    ends = λ _. inr (λ _. refl);
    connects = λ _ _.
        inr (λ same. moved_stays (tsecr_taken (took_syn v.tcb header) header 1 cx.instant) 1 0 cx.instant (omega arith) same);
    crosses = λ _ _. inr (λ _. refl);
  }

  pub arrival_stays : Stays (arrives cx v ip header bytes)
  arrival_stays = by_arrival cx ip header bytes Stays v (inr (λ _. refl)) (λ _. stays_opening) (λ _. stays_received)

-- AN OFFER

and_parts : (a b : Bool) → (a && b) ≡ true → (a ≡ true) × (b ≡ true)
and_parts true b e = (refl, e)
and_parts false b e = clash (sym e)

module _ (cx : ContextValue) (v : TcpValue) (when : ℤ) (runs : RunsOutAt when v) (early : is_due cx.instant (Some when) ≡ false) where
  abbrev Sent : Offered TcpValue → Type 0
  Sent o =
      ((is_listening (settled true o.socket).tcb.state ≡ true) ⊎ RunsOutAt when (settled true o.socket)) ⊎ Mends cx.instant o.socket

  abbrev Unsent : Offered TcpValue → Type 0
  Unsent o = (is_listening o.socket.tcb.state ≡ true) ⊎ RunsOutAt when o.socket

  abbrev Whether : Offered TcpValue → Type 0
  Whether o = Sent o × Unsent o

  abbrev Runs : Tcb → Type 0
  Runs b = b.timers.retransmit_at ≡ Some when

  still : (timer : Option ℤ) (instant : ℤ) → timer ≡ Some when → (if is_some timer then timer else Some instant) ≡ Some when
  still timer instant e = subst (λ (t : Option ℤ). (if is_some t then t else Some instant) ≡ Some when) (sym e) refl

  asked_runs : (b : Tcb) (instant : ℤ) → Runs b → Runs (asked b instant)
  asked_runs b instant e =
      cond_both (is_over instant b.timers.counts_from)
      (record b {
        sender = record b.sender { unanswered = one_more b.sender.unanswered };
        timers = record b.timers { counts_from = Some (timeout_from instant b.round_trip) };
      })
      b Runs (λ _. e) (λ _. e)

  abbrev opened_by : OfferKind → TcpValue → FourTuple → TcpHeader → ℕ → ℕ → OpenOffer
  opened_by kind x pair header offset len = record {
    kind = kind;
    instant = cx.instant;
    header = header_for pair.addresses (hop_limit_of x.tcb.settings.hop_limit) (header_len header + len);
    segment = header;
    offset = offset;
    len = len;
  }

  -- what is no fast retransmission
  abbrev Goes : OfferKind → Type 0
  Goes kind = (b : Tcb) (o : OpenOffer) (queued : ℕ) → Runs b → Runs (sent_as kind b o queued)

  reset_goes : Goes Kind.Reset
  reset_goes b o queued e = e

  syn_goes : Goes Kind.Syn
  syn_goes b o queued e = still b.timers.retransmit_at _ e

  payload_goes : Goes Kind.Payload
  payload_goes b o queued e = still b.timers.retransmit_at _ e

  probe_goes : Goes Kind.Probe
  probe_goes b o queued e = asked_runs (probed b (end_of b o) o.instant) o.instant e

  keep_alive_goes : Goes Kind.KeepAlive
  keep_alive_goes b o queued e = asked_runs b o.instant e

  ack_goes : Goes Kind.Ack
  ack_goes b o queued e = e

  update_goes : Goes Kind.WindowUpdate
  update_goes b o queued e = e

  by_segment :
      (kind : OfferKind) → Goes kind → (x : TcpValue) (pair : FourTuple) (header : TcpHeader) (offset len : ℕ) → Runs x.tcb
      → Whether (offer_segment kind cx x pair header offset len)
  by_segment kind goes x pair header offset len e =
      let o = opened_by kind x pair header offset len in
      (inl (inr (goes (recorded x.tcb o (room_of x.received)) o (queued_in x) e)), inr e)

  by_choice : (kind : OfferKind) → Goes kind → (x : TcpValue) (pair : FourTuple) (c : Choice) → Runs x.tcb → Whether (offer_choice kind cx x pair c)
  by_choice kind goes x pair c e =
      by_segment kind goes x pair (segment x.tcb pair cx.instant (window_of x) (control_for c (queued_in x)) (number_at x.tcb c.offset)) c.offset c.len e

  -- what is retransmitted
  by_again : (x : TcpValue) (pair : FourTuple) (c : Choice) → Runs x.tcb → Whether (offer_choice Kind.FastRetransmission cx x pair c)
  by_again x pair c e = (by (x.tcb.reno.recovers && is_first_lost x.tcb) refl, inr e) where
    o : OpenOffer
    o =
        opened_by Kind.FastRetransmission x pair
        (segment x.tcb pair cx.instant (window_of x) (control_for c (queued_in x)) (number_at x.tcb c.offset)) c.offset c.len

    b : Tcb
    b = recorded x.tcb o (room_of x.received)

    after : RoundTripValue
    after = (nxt_moved (resent b (end_of b o)) (end_of b o) (queued_in x) cx.instant).round_trip

    same : after.timeout ≡ x.tcb.round_trip.timeout
    same =
        cond_both (nat_lt x.tcb.sender.snd_max (end_of b o)) (round_trip.timing (round_trip.untimed x.tcb.round_trip) (end_of b o) cx.instant)
        (round_trip.untimed x.tcb.round_trip) (λ (r : RoundTripValue). r.timeout ≡ x.tcb.round_trip.timeout) (λ _. refl) (λ _. refl)

    -- the timer after it
    started : Bool → Option ℤ
    started test =
        if is_some (if test then None else x.tcb.timers.retransmit_at) then (if test then None else x.tcb.timers.retransmit_at)
        else Some (timeout_from cx.instant after)

    by : (test : Bool) → (x.tcb.reno.recovers && is_first_lost x.tcb) ≡ test → Sent (offer_choice Kind.FastRetransmission cx x pair c)
    by true mends =
        let each = and_parts x.tcb.reno.recovers (is_first_lost x.tcb) mends in
        inr
        (record {
          o = o;
          offered = refl;
          kind = refl;
          recovers = each.0;
          lost = each.1;
          anew = ap started mends ∙ ap (λ (n : ℕ). Some (cx.instant +ℤ pos n)) same;
        })
    by false not = inl (inr (ap started not ∙ still x.tcb.timers.retransmit_at (timeout_from cx.instant after) e))

  goes_first : (pair : FourTuple) (b : Tcb) → Runs b → FirstRules cx pair Whether (with_tcb (unoffered v) b)
  goes_first pair b e = record {
    syn = λ _. by_segment Kind.Syn syn_goes w pair (syn_segment b pair cx.instant cx.ip_mtu (room_of v.received) (free_in v)) 0 0 e;
    again = λ _ _. by_again w pair (resend_choice b pair.addresses cx.ip_mtu v.queued) e;
    payload = λ _ _. by_choice Kind.Payload payload_goes w pair (payload_choice b pair.addresses cx.ip_mtu v.queued) e;
    last = λ _.
        record {
          probe = λ _ _. by_choice Kind.Probe probe_goes x pair probe_choice e;
          window_limited = λ _ _. by_choice Kind.Payload payload_goes x pair (payload_choice x.tcb pair.addresses cx.ip_mtu v.queued) e;
          ack = λ _. by_segment Kind.Ack ack_goes x pair (ack_segment x.tcb pair cx.instant (window_of x)) 0 0 e;
          update = λ _ _. by_segment Kind.WindowUpdate update_goes x pair (ack_segment x.tcb pair cx.instant (window_of x)) 0 0 e;
          keep_alive = λ _ _. by_segment Kind.KeepAlive keep_alive_goes x pair (keep_alive_segment x.tcb pair cx.instant (window_of x)) 0 1 e;
          quiet = λ _. (inl (inr e), inr e);
        };
  }
    where
      w : TcpValue
      w = with_tcb (unoffered v) b

      x : TcpValue
      x = probing cx w

  not_due : is_due cx.instant v.tcb.timers.retransmit_at ≡ false
  not_due = ap (is_due cx.instant) runs ∙ early

  pub offer_stays : Whether (offer_of cx v)
  offer_stays =
      by_rules cx v Whether
      (record {
        nobody = λ _. (inl (inr runs), inr runs);
        time_wait = λ _. (inl (inr runs), inr runs);
        timeout = λ _. (inl (inr runs), inr runs);
        closed = λ _. (inl (inr runs), inr runs);
        reset = λ pair _ _.
            by_segment Kind.Reset reset_goes (unoffered v) pair (reset_segment v.tcb pair cx.instant (window_of v)) 0 0 runs;
        falls = λ _ _ _. (inl (inl refl), inl refl);
        over = λ _ _ _. (inl (inr runs), inr runs);
        backs = λ _ _ _ due. clash (sym due ∙ not_due);
        probes = λ pair _ _ _ _. goes_first pair (loss_probed (begun cx v)) runs;
        goes = λ pair _ _ _. goes_first pair (begun cx v) runs;
      })

-- EVENTS

-- an offer of a side that mends
abbrev MendsBy : PairSide → PairEvent → Type 0
MendsBy s (Offer side instant true) = Mends instant (offer_of (context_at side (record s { instant = instant })) s.socket).socket
MendsBy s other = ⊥

no_listener : {X : Type 0} (state : State) → is_listening state ≡ true → is_synchronized state ≡ true → X
no_listener In.Listen e f = clash (sym f)
no_listener In.Closed e f = clash (sym f)
no_listener In.SynSent e f = clash (sym f)
no_listener In.SynReceived e f = clash (sym f)
no_listener other e f = clash (sym e)

module _ (when : ℤ) where
  -- where the connection is there, and SND.UNA is where it was
  abbrev Left : TcpValue → PairSide → Type 0 → Type 0
  Left v new X =
      is_synchronized new.socket.tcb.state ≡ true → new.socket.tcb.sender.una ≡ v.tcb.sender.una → RunsOutAt when new.socket ⊎ X

  abbrev LeftTo : TcpValue → TcpValue → Type 0
  LeftTo v new = is_synchronized new.tcb.state ≡ true → RunsOutAt when new ⊎ ⊥

  by_read : (s : PairSide) (r : Result ℕ RecvError) → RunsOutAt when s.socket → RunsOutAt when (reads s r).side.socket
  by_read s (Ok n) runs = runs
  by_read s (Err fault) runs = runs

  by_setting : (setting : Setting) (v : TcpValue) → RunsOutAt when v → RunsOutAt when (set_by setting v)
  by_setting (Set.Timeout duration) v runs = runs
  by_setting (Set.AckDelay duration) v runs = runs
  by_setting (Set.KeepAlive interval) v runs = runs
  by_setting (Set.NagleEnabled enabled) v runs = runs
  by_setting (Set.HopLimit limit) v runs = runs
  by_setting (Set.TsvalGenerator generator) v runs = runs
  by_setting (Set.CongestionControl control) v runs = runs
  by_setting (Set.PauseSynack paused) v runs = runs
  by_setting (Set.Retries limit) v runs = runs
  by_setting (Set.MinRto duration) v runs = runs
  by_setting (Set.FineTimer fine) v runs = runs

  by_connect : (v : TcpValue) (names : Option FourTuple) (number : ℕ) → RunsOutAt when v → LeftTo v (connected_by v names number)
  by_connect v None number runs there = inl runs
  by_connect v (Some pair) number runs there = clash (sym there)

  by_delivery : (side : Side) (s : PairSide) (x : Option SentSegment) → RunsOutAt when s.socket → Left s.socket (handed side s x) ⊥
  by_delivery side s None runs there same = inl runs
  by_delivery side s (Some x) runs there same =
      cond_both (accepts s.socket.tcb x.header x.segment) (taken_at s a) s (λ (new : PairSide). Left s.socket new ⊥)
      (λ _ there same. inl (by (arrival_stays (context_at side s) x.header x.segment x.bytes s.socket) there same))
      (λ _ there same. inl runs) there same
    where
      a : Arrived
      a = arrives (context_at side s) s.socket x.header x.segment x.bytes

      by :
          Stays (context_at side s) x.header x.segment x.bytes s.socket a → is_synchronized a.socket.tcb.state ≡ true
          → a.socket.tcb.sender.una ≡ s.socket.tcb.sender.una → RunsOutAt when a.socket
      by (inl listens) there same = no_listener a.socket.tcb.state listens there
      by (inr stays) there same = stays same ∙ runs

  by_act : (s : PairSide) (others : List SentSegment) (event : PairEvent) → RunsOutAt when s.socket → IsAskedBefore when (side_of event) event →
      Left s.socket (acts s others event).side (MendsBy s event)
  by_act s others (Listen side endpoint) runs e there same =
      cond_both (is_closed s.socket.tcb.state && not (endpoint.port == 0)) (listening s.socket endpoint) (unoffered s.socket) (LeftTo s.socket)
      (λ _ there. clash (sym there)) (λ _ _. inl runs) there
  by_act s others (Connect side remote local) runs e there same =
      let cx = context_at side s in
      cond_both (is_closed s.socket.tcb.state) (connected_by s.socket (four_tuple_for cx remote local) (number_for cx (four_tuple_for cx remote local)))
      (unoffered s.socket) (LeftTo s.socket)
      (λ _. by_connect s.socket (four_tuple_for cx remote local) (number_for cx (four_tuple_for cx remote local)) runs) (λ _ _. inl runs) there
  by_act s others (Send side bytes) runs e there same =
      let v = s.socket in
      inl
      (cond_both (takes_writes v.tcb.state) (sent_more v (enqueued (anchored v.queued) (take (min (length bytes) (length v.queued.free)) bytes)))
      (unoffered v) (RunsOutAt when) (λ _. runs) (λ _. runs))
  by_act s others (Recv side count) runs e there same = inl (by_read s (recv_answer s.socket count) runs)
  by_act s others (Close side) runs e there same =
      let v = s.socket in
      inl
      (cond_both (is_opening v.tcb.state) (ended (unoffered v)) (with_tcb (unoffered v) (record v.tcb { state = after_close v.tcb.state }))
      (RunsOutAt when) (λ _. runs) (λ _. runs))
  by_act s others (Abort side) runs e there same =
      let v = s.socket in
      inl
      (cond_both (is_time_wait v.tcb.state) (ended (unoffered v))
      (with_tcb (unoffered v) (record v.tcb { state = In.Closed; sender = record v.tcb.sender { reset_due = is_some v.tcb.names.pair } }))
      (RunsOutAt when) (λ _. runs) (λ _. runs))
  by_act s others (TcpSetting side setting) runs e there same = inl (by_setting setting s.socket runs)
  by_act s others (Clock side instant) runs e there same = inl runs
  by_act s others (Offer side instant true) runs e there same =
      by (offer_stays (context_at side (record s { instant = instant })) s.socket when runs (e refl)).0 there
    where
      o : Offered TcpValue
      o = offer_of (context_at side (record s { instant = instant })) s.socket

      by :
          ((is_listening (settled true o.socket).tcb.state ≡ true) ⊎ RunsOutAt when (settled true o.socket)) ⊎ Mends instant o.socket
          → is_synchronized (settled true o.socket).tcb.state ≡ true → RunsOutAt when (settled true o.socket) ⊎ Mends instant o.socket
      by (inl (inl listens)) there = no_listener (settled true o.socket).tcb.state listens there
      by (inl (inr runs)) there = inl runs
      by (inr mends) there = inr mends
  by_act s others (Offer side instant false) runs e there same =
      by (offer_stays (context_at side (record s { instant = instant })) s.socket when runs (e refl)).1 there
    where
      o : Offered TcpValue
      o = offer_of (context_at side (record s { instant = instant })) s.socket

      by :
          (is_listening o.socket.tcb.state ≡ true) ⊎ RunsOutAt when o.socket → is_synchronized o.socket.tcb.state ≡ true
          → RunsOutAt when o.socket ⊎ ⊥
      by (inl listens) there = no_listener o.socket.tcb.state listens there
      by (inr runs) there = inl runs
  by_act s others (Deliver from k) runs e there same = by_delivery (other from) s (slice_get others k) runs there same

-- OF A PAIR

mends_in : (p : PairValue) (event : PairEvent) → MendsBy (at p.sides (side_of event)) event → MendsIn p (side_of event) event
mends_in p (Offer side instant true) mends = (refl, mends)
mends_in p (Offer side instant false) never = never
mends_in p (Listen side endpoint) never = never
mends_in p (Connect side remote local) never = never
mends_in p (Send side bytes) never = never
mends_in p (Recv side count) never = never
mends_in p (Close side) never = never
mends_in p (Abort side) never = never
mends_in p (TcpSetting side setting) never = never
mends_in p (Clock side instant) never = never
mends_in p (Deliver from k) never = never

-- a side after an event of its own, or of the other
pub by_put : (P : PairSide → Type 0) (both : Both PairSide) (of side : Side) (new : PairSide) → (of ≡ side → P new) → P (at both side) → P (at (put both of new) side)
by_put P both A A new own not = own refl
by_put P both A B new own not = not
by_put P both B A new own not = not
by_put P both B B new own not = own refl

-- what an event leaves of a side
abbrev LeftIn : PairValue → PairEvent → ℤ → Side → PairSide → Type 0
LeftIn p event when side new =
    RunsOutAt when (socket_of p side) → is_synchronized new.socket.tcb.state ≡ true
    → new.socket.tcb.sender.una ≡ (socket_of p side).tcb.sender.una → RunsOutAt when new.socket ⊎ MendsIn p side event

by_own :
    (p : PairValue) (event : PairEvent) (when : ℤ) → IsAskedBefore when (side_of event) event → LeftIn p event when (side_of event) (acting p event).side
by_own p event when e runs there same =
    by (by_act when (at p.sides (side_of event)) (at p.sides (other (side_of event))).sent event runs e there same) where
      by :
          RunsOutAt when (acting p event).side.socket ⊎ MendsBy (at p.sides (side_of event)) event
          → RunsOutAt when (acting p event).side.socket ⊎ MendsIn p (side_of event) event
      by (inl runs) = inl runs
      by (inr mends) = inr (mends_in p event mends)

pub in_time :
    (p : PairValue) (side : Side) (event : PairEvent) (when : ℤ) → RunsOutAt when (socket_of p side) → IsAskedBefore when side event
    → is_synchronized (socket_of (takes p event) side).tcb.state ≡ true
    → (socket_of (takes p event) side).tcb.sender.una ≡ (socket_of p side).tcb.sender.una
    → RunsOutAt when (socket_of (takes p event) side) ⊎ MendsIn p side event
in_time p side event when runs e =
    by_put (LeftIn p event when side) p.sides (side_of event) side (acting p event).side
    (λ own. subst (λ (s : Side). IsAskedBefore when s event → LeftIn p event when s (acting p event).side) own (by_own p event when) e)
    (λ runs _ _. inl runs) runs

running : (timer : Option ℤ) → is_some timer ≡ true → (when : ℤ) × (timer ≡ Some when)
running None e = clash (sym e)
running (Some when) e = (when, refl)

pub is_running : (p : PairValue) (side : Side) → IsReached p → ((socket_of p side).tcb.sender.flight_size == 0) ≡ false → IsRunning (socket_of p side)
is_running p side r some =
    let it = running (socket_of p side).tcb.timers.retransmit_at ((ready_side p side r).armed some) in record { at = it.0; runs = it.1 }
