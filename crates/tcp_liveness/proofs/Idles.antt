-- A side with nothing in flight, and no timer, stays so until it sends, or more is acknowledged.
use Rattle.std.proofs.Common.{◌≡◌, ℕ, ◌+◌, ◌-◌, ◌%◌, ◌^◌, ◌<◌, ◌==◌, ◌&&◌, not, min, max, Bool, true, false}
use Rattle.std.proofs.Common.{if◌then◌else◌, List, length, take, Option, Some, None, is_some, Result, Ok, Err, slice_get, refl, sym, ap, ◌∙◌, subst, arith}
use Rattle.std.proofs.lemmas.Bool.{cond_both, eq-eqb}
use Rattle.net_base.specs.Ring.{anchored, enqueued}
use Rattle.ip_wire.specs.IpRepr.{IpRepr}
use Rattle.ip_wire.specs.SeqNumber.{SeqNumber}
use Rattle.ip_wire.specs.TcpHeader.{TcpHeader}
use Rattle.tcp_refinement.specs.Context.{ContextValue}
use Rattle.tcp_invariants.specs.Offsets.{advanced_by}
use Rattle.tcp_invariants.specs.RecvError.{RecvError}
use Rattle.tcp_invariants.specs.State.{State}
use Rattle.tcp_invariants.specs.State.TheVariants as In
use Rattle.tcp_invariants.specs.States.{after_close, is_answering, is_closed, is_opening, is_time_wait, takes_writes}
use Rattle.tcp_invariants.proofs.ArrivalCases.{by_arrival, Received, Opening, Content, Drawing, acked_open, heeded, timed}
use Rattle.tcp_invariants.proofs.OrderSteps.{clash}
use Rattle.tcp_block.specs.Acknowledged.{freed_by, windowed}
use Rattle.tcp_block.specs.Arrival.{arrives, waiting_anew}
use Rattle.tcp_block.specs.declared.tcb.Tcb.{Tcb}
use Rattle.tcp_block.specs.TcbRules.{one_if}
use Rattle.tcp_block.specs.Calls.{connected_by, listening, four_tuple_for, recv_answer, sent_more}
use Rattle.tcp_block.specs.Checks.{acknowledgement_check}
use Rattle.tcp_block.specs.Checks.Check.{Passes}
use Rattle.tcp_block.specs.Isn.{number_for}
use Rattle.tcp_refinement.specs.Pair.History.{side_of}
use Rattle.tcp_block.specs.Names.{accepts}
use Rattle.tcp_block.specs.Retries.{heard}
use Rattle.tcp_refinement.specs.Pair.Sides.{at, other}
use Rattle.tcp_refinement.specs.Pair.Steps.{acting, acts, handed, reads, set_by, taken_at}
use Rattle.tcp_block.specs.Timestamps.{tsval_taken}
use Rattle.tcp_block.specs.Undone.{is_needless}
use Rattle.tcp_block.specs.Value.{TcpValue, Arrived, ended, queued_in, unoffered, with_tcb}
use Rattle.tcp_refinement.specs.Pair.Values.{PairSide, PairValue, context_at}
use Rattle.tcp_refinement.specs.declared.pair.event.PairEvent.{PairEvent}
use Rattle.tcp_refinement.specs.declared.pair.event.PairEvent.TheVariants.{Listen, Connect, Send, Recv, Close, Abort, TcpSetting, Clock, Offer, Deliver}
use Rattle.tcp_refinement.specs.declared.pair.event.SentSegment.{SentSegment}
use Rattle.tcp_refinement.specs.declared.pair.event.Side.{Side}
use Rattle.tcp_refinement.specs.declared.pair.event.TcpSetting.{TcpSetting as Setting}
use Rattle.tcp_refinement.specs.declared.pair.event.TcpSetting.TheVariants as Set
use Rattle.tcp_liveness.specs.Arrivals.{is_synchronized}
use Rattle.tcp_liveness.specs.Course.{Asks, IsTaken}
use Rattle.tcp_liveness.specs.Pair.{socket_of}
use Rattle.tcp_liveness.specs.Rounds.{takes}
use Rattle.tcp_liveness.specs.Sent.{is_early}
use Rattle.tcp_liveness.proofs.Pair.{late_in, not_closed}
use Rattle.tcp_liveness.proofs.PutOff.{by_put, moved_stays, passes_small}

pub record IsIdle (v : TcpValue) : Type 0 where
  pub none : v.tcb.sender.flight_size ≡ 0
  pub timer : v.tcb.timers.retransmit_at ≡ None

and_first : (a b : Bool) → (a && b) ≡ true → a ≡ true
and_first true b e = refl
and_first false b e = e

early_answering : (state : State) → is_answering state ≡ true → is_early state ≡ true
early_answering In.SynReceived e = refl
early_answering other e = clash (sym e)

-- A SEGMENT COMES

none_moved : (una by : ℕ) → by < 2 ^ 32 → (una + by) % 2 ^ 32 ≡ una → by ≡ 0
none_moved una by a e = omega arith

module _ (cx : ContextValue) (ip : IpRepr) (header : TcpHeader) (bytes : List ℕ) (v : TcpValue) (late : is_early v.tcb.state ≡ false) (idle : IsIdle v) where
  -- where SND.UNA stays
  abbrev Since : Tcb → Type 0
  Since b = b.sender.una ≡ v.tcb.sender.una → (b.sender.flight_size ≡ 0) × (b.timers.retransmit_at ≡ None)

  abbrev Stays : Arrived → Type 0
  Stays a = Since a.socket.tcb

  drawing : (x : TcpValue) → Since x.tcb → Drawing cx ip header bytes Stays x
  drawing x h = record { answers = λ _. h; at_once = h; pauses = h }

  content : (x : TcpValue) → Since x.tcb → Content cx ip header bytes Stays x
  content x h = record {
    plain = (λ _. h, h);
    fin = λ _ _. (λ _. h, h);
    ordered = λ _ _ _ _. (λ _. h, h);
    ordered_fin = λ _ _ _ _. (λ _. h, h);
    early = λ _ _ _ _. h;
  }

  -- nothing new is acknowledged
  none_by : (by : ℕ) → acknowledgement_check v.tcb header.ack_number ≡ Passes by → advanced_by v.tcb.sender.una by ≡ v.tcb.sender.una → by ≡ 0
  none_by by passes same =
      none_moved v.tcb.sender.una.0 by (passes_small v.tcb header.ack_number by passes) (ap (λ (n : SeqNumber). n.0) same)

  -- so nothing is undone
  flight_same : (by : ℕ) → by ≡ 0 → (timed cx.instant header (unoffered v) by).tcb.sender.flight_size ≡ 0
  flight_same by e =
      cond_both (is_needless v.tcb header by (queued_in v))
      (max v.tcb.sender.flight_size (min v.tcb.sender.snd_max (one_if v.tcb.sender.syn_unacked + queued_in v))) v.tcb.sender.flight_size
      (λ (n : ℕ). n ≡ 0)
      (λ needless. clash (sym (and_first (not (freed_by v.tcb by (queued_in v) == 0)) _ needless) ∙ frees_none))
      (λ _. idle.none)
    where
      freed : (by syn queued : ℕ) → by ≡ 0 → min (by - syn) queued ≡ 0
      freed by syn queued e = omega arith

      frees_none : not (freed_by v.tcb by (queued_in v) == 0) ≡ false
      frees_none = ap not (eq-eqb (freed_by v.tcb by (queued_in v)) 0 (freed by (one_if v.tcb.sender.syn_unacked) (queued_in v) e))

  acked : (by : ℕ) → acknowledgement_check v.tcb header.ack_number ≡ Passes by →
      Since (acked_open (timed cx.instant header (unoffered v) by) by cx.instant).tcb
  acked by passes same = (
    less (timed cx.instant header (unoffered v) by).tcb.sender.flight_size by (flight_same by none),
    moved_stays (timed cx.instant header (unoffered v) by).tcb by (queued_in v) cx.instant (passes_small v.tcb header.ack_number by passes) same ∙ idle.timer,
  )
    where
      none : by ≡ 0
      none = none_by by passes same

      less : (flight by : ℕ) → flight ≡ 0 → flight - by ≡ 0
      less flight by e = omega arith

  -- what is held after SND.NXT doesn't move it
  heeds : (b x : Tcb) → x.sender.una ≡ b.sender.una → x.timers.retransmit_at ≡ b.timers.retransmit_at → (more : ℕ) →
      x.sender.flight_size ≡ (if b.sender.flight_size == 0 then 0 else more) → Since b → Since x
  heeds b x una timer more is h same =
      let it = h (sym una ∙ same) in
      (is ∙ ap (λ (t : Bool). if t then 0 else more) (eq-eqb b.sender.flight_size 0 it.0), timer ∙ it.1)

  received : Received cx ip header bytes Stays (unoffered v)
  received = record {
    stays = λ _. (idle.none, idle.timer);
    refuses = λ _. (idle.none, idle.timer);
    draws = drawing (unoffered v) (λ _. (idle.none, idle.timer));
    falls = λ _ _ falls. clash (sym (early_answering v.tcb.state (and_first (is_answering v.tcb.state) _ falls)) ∙ late);
    ends = λ _ _ _ _. (idle.none, idle.timer);
    closes = λ by passes _. acked by passes;
    taken = λ by passes _.
        content (heeded cx.instant header (length bytes) (unoffered v) by (acked_open (timed cx.instant header (unoffered v) by) by cx.instant).tcb)
        (heeds (acked_open (timed cx.instant header (unoffered v) by) by cx.instant).tcb
        (heeded cx.instant header (length bytes) (unoffered v) by (acked_open (timed cx.instant header (unoffered v) by) by cx.instant).tcb).tcb refl refl
        _ refl (acked by passes));
    taken_window = λ by passes _.
        content
        (heeded cx.instant header (length bytes) (unoffered v) by
        (windowed (acked_open (timed cx.instant header (unoffered v) by) by cx.instant).tcb header))
        (heeds (acked_open (timed cx.instant header (unoffered v) by) by cx.instant).tcb
        (heeded cx.instant header (length bytes) (unoffered v) by
        (windowed (acked_open (timed cx.instant header (unoffered v) by) by cx.instant).tcb header)).tcb
        refl refl _ refl (acked by passes));
    news = λ by passes _. drawing (waiting_anew (acked_open (timed cx.instant header (unoffered v) by) by cx.instant) header cx.instant) (acked by passes);
    outside = drawing (waiting_anew (unoffered v) header cx.instant) (λ _. (idle.none, idle.timer));
    old = λ _. content (with_tcb (unoffered v) (tsval_taken (heard v.tcb) header cx.instant)) (λ _. (idle.none, idle.timer));
  }

  opening : Opening cx ip header bytes Stays (unoffered v)
  opening = record {
    opens = λ at _. clash (sym (ap is_early at) ∙ late);
    refuses = λ _. (idle.none, idle.timer);
    ends = λ at. clash (sym (ap is_early at) ∙ late);
    connects = λ at _. clash (sym (ap is_early at) ∙ late);
    crosses = λ at _. clash (sym (ap is_early at) ∙ late);
  }

  arrival_stays : Stays (arrives cx v ip header bytes)
  arrival_stays = by_arrival cx ip header bytes Stays v (λ _. (idle.none, idle.timer)) (λ _. opening) (λ _. received)

-- EVENTS

abbrev StaysTo : TcpValue → TcpValue → Type 0
StaysTo v w = w.tcb.sender.una ≡ v.tcb.sender.una → IsIdle w

idle_of : (v w : TcpValue) → w.tcb.sender.flight_size ≡ v.tcb.sender.flight_size → w.tcb.timers.retransmit_at ≡ v.tcb.timers.retransmit_at → IsIdle v →
    StaysTo v w
idle_of v w flight timer idle _ = record { none = flight ∙ idle.none; timer = timer ∙ idle.timer }

by_delivery :
    (side : Side) (s : PairSide) (x : Option SentSegment) → is_early s.socket.tcb.state ≡ false → IsIdle s.socket
    → StaysTo s.socket (handed side s x).socket
by_delivery side s None late idle = λ _. idle
by_delivery side s (Some x) late idle =
    cond_both (accepts s.socket.tcb x.header x.segment) (taken_at s (arrives (context_at side s) s.socket x.header x.segment x.bytes)) s
    (λ (new : PairSide). StaysTo s.socket new.socket)
    (λ _ same. let it = arrival_stays (context_at side s) x.header x.segment x.bytes s.socket late idle same in record { none = it.0; timer = it.1 })
    (λ _ _. idle)

by_read : (s : PairSide) (r : Result ℕ RecvError) → IsIdle s.socket → IsIdle (reads s r).side.socket
by_read s (Ok n) idle = record { none = idle.none; timer = idle.timer }
by_read s (Err fault) idle = record { none = idle.none; timer = idle.timer }

by_setting : (setting : Setting) (v : TcpValue) → IsIdle v → IsIdle (set_by setting v)
by_setting (Set.Timeout duration) v idle = record { none = idle.none; timer = idle.timer }
by_setting (Set.AckDelay duration) v idle = record { none = idle.none; timer = idle.timer }
by_setting (Set.KeepAlive interval) v idle = record { none = idle.none; timer = idle.timer }
by_setting (Set.NagleEnabled enabled) v idle = record { none = idle.none; timer = idle.timer }
by_setting (Set.HopLimit limit) v idle = record { none = idle.none; timer = idle.timer }
by_setting (Set.TsvalGenerator generator) v idle = record { none = idle.none; timer = idle.timer }
by_setting (Set.CongestionControl control) v idle = record { none = idle.none; timer = idle.timer }
by_setting (Set.PauseSynack paused) v idle = record { none = idle.none; timer = idle.timer }
by_setting (Set.Retries limit) v idle = record { none = idle.none; timer = idle.timer }
by_setting (Set.MinRto duration) v idle = record { none = idle.none; timer = idle.timer }
by_setting (Set.FineTimer fine) v idle = record { none = idle.none; timer = idle.timer }

by_act :
    (s : PairSide) (others : List SentSegment) (event : PairEvent) → IsTaken event → (Asks (side_of event) event → ⊥)
    → is_synchronized s.socket.tcb.state ≡ true → IsIdle s.socket → StaysTo s.socket (acts s others event).side.socket
by_act s others (Listen side endpoint) taken unasked there idle =
    let v = s.socket in
    cond_both (is_closed v.tcb.state && not (endpoint.port == 0)) (listening v endpoint) (unoffered v) (StaysTo v)
    (λ closed. clash (sym (and_first (is_closed v.tcb.state) _ closed) ∙ not_closed v.tcb.state there))
    (λ _ _. record { none = idle.none; timer = idle.timer })
by_act s others (Connect side remote local) taken unasked there idle =
    let v = s.socket in
    let cx = context_at side s in
    cond_both (is_closed v.tcb.state) (connected_by v (four_tuple_for cx remote local) (number_for cx (four_tuple_for cx remote local))) (unoffered v) (StaysTo v)
    (λ closed. clash (sym closed ∙ not_closed v.tcb.state there)) (λ _ _. record { none = idle.none; timer = idle.timer })
by_act s others (Send side bytes) taken unasked there idle =
    let v = s.socket in
    cond_both (takes_writes v.tcb.state) (sent_more v (enqueued (anchored v.queued) (take (min (length bytes) (length v.queued.free)) bytes)))
    (unoffered v) (StaysTo v) (λ _ _. record { none = idle.none; timer = idle.timer }) (λ _ _. record { none = idle.none; timer = idle.timer })
by_act s others (Recv side count) taken unasked there idle = λ _. by_read s (recv_answer s.socket count) idle
by_act s others (Close side) taken unasked there idle =
    let v = s.socket in
    cond_both (is_opening v.tcb.state) (ended (unoffered v)) (with_tcb (unoffered v) (record v.tcb { state = after_close v.tcb.state })) (StaysTo v)
    (λ _ _. record { none = idle.none; timer = idle.timer }) (λ _ _. record { none = idle.none; timer = idle.timer })
by_act s others (Abort side) taken unasked there idle =
    let v = s.socket in
    cond_both (is_time_wait v.tcb.state) (ended (unoffered v))
    (with_tcb (unoffered v) (record v.tcb { state = In.Closed; sender = record v.tcb.sender { reset_due = is_some v.tcb.names.pair } }))
    (StaysTo v) (λ _ _. record { none = idle.none; timer = idle.timer }) (λ _ _. record { none = idle.none; timer = idle.timer })
by_act s others (TcpSetting side setting) taken unasked there idle = λ _. by_setting setting s.socket idle
by_act s others (Clock side instant) taken unasked there idle = λ _. idle
by_act s others (Offer side instant true) taken unasked there idle = absurd (unasked refl)
by_act s others (Offer side instant false) taken unasked there idle = clash (sym taken)
by_act s others (Deliver from k) taken unasked there idle = by_delivery (other from) s (slice_get others k) (late_in s.socket.tcb.state there) idle

abbrev LeftIn : PairValue → Side → PairSide → Type 0
LeftIn p side new = is_synchronized (socket_of p side).tcb.state ≡ true → IsIdle (socket_of p side) → StaysTo (socket_of p side) new.socket

pub idle_on :
    (p : PairValue) (side : Side) (event : PairEvent) → IsTaken event → (Asks side event → ⊥) → is_synchronized (socket_of p side).tcb.state ≡ true
    → IsIdle (socket_of p side) → (socket_of (takes p event) side).tcb.sender.una ≡ (socket_of p side).tcb.sender.una
    → IsIdle (socket_of (takes p event) side)
idle_on p side event taken unasked =
    by_put (LeftIn p side) p.sides (side_of event) side (acting p event).side
    (λ own.
    subst (λ (s : Side). (Asks s event → ⊥) → LeftIn p s (acting p event).side) own
    (λ still. by_act (at p.sides (side_of event)) (at p.sides (other (side_of event))).sent event taken still) unasked)
    (λ _ idle _. idle)
