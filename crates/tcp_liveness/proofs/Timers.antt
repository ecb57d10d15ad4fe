-- The retransmission timer of a socket runs out within a minute, and the pause between drawn answers lasts a second at most.
use Rattle.std.proofs.Common.{◌≡◌, ℕ, ◌+◌, ◌-◌, ◌≤◌, ◌==◌, ◌&&◌, nat_le, nat_lt, not, min, max, ℤ, pos, ◌+ℤ◌, ◌≤ℤ◌, Bool, true, false, if◌then◌else◌}
use Rattle.std.proofs.Common.{List, length, take, Option, Some, None, is_some, is_none, refl, sym, subst, arith}
use Rattle.std.proofs.lemmas.Bool.{cond_both}
use Rattle.std.proofs.lemmas.Int.{ints}
use Rattle.net_base.specs.Ring.{Ring, anchored, enqueued}
use Rattle.ip_wire.specs.IpRepr.{IpRepr}
use Rattle.ip_wire.specs.Tcp.{header_len}
use Rattle.ip_wire.specs.TcpHeader.{TcpHeader}
use Rattle.tcp_refinement.specs.Context.{ContextValue}
use Rattle.tcp_refinement.specs.Offers.{Offered}
use Rattle.tcp_block.specs.RoundTrip as round_trip
use Rattle.tcp_block.specs.RoundTrip.{RoundTripValue, least_of}
use Rattle.tcp_invariants.specs.FourTuple.{FourTuple}
use Rattle.tcp_invariants.specs.Endpoints.{header_for}
use Rattle.tcp_invariants.specs.Moments.{is_over, timeout_from}
use Rattle.tcp_invariants.specs.OfferKind.{OfferKind}
use Rattle.tcp_invariants.specs.OfferKind.TheVariants as Kind
use Rattle.tcp_invariants.specs.OpenOffer.{OpenOffer}
use Rattle.tcp_invariants.specs.State.TheVariants as In
use Rattle.tcp_invariants.specs.States.{is_closed, is_opening, is_time_wait, takes_writes, after_close}
use Rattle.tcp_block.specs.Acknowledged.{round_trip_after, una_moved, windowed, acks_local_syn, is_blind}
use Rattle.tcp_block.specs.Arrival.{arrives, waiting_anew}
use Rattle.tcp_block.specs.declared.tcb.Tcb.{Tcb}
use Rattle.tcp_block.specs.TcbRules.{initial_tcb}
use Rattle.tcp_block.specs.Calls.{listening, connected_by, four_tuple_for, sent_more}
use Rattle.tcp_block.specs.Isn.{number_for}
use Rattle.tcp_block.specs.LossRecovery.{is_first_lost, loss_probed}
use Rattle.tcp_block.specs.Offers.{number_at, offer_choice, offer_of, offer_segment}
use Rattle.tcp_block.specs.Retries.{heard, asked, one_more}
use Rattle.tcp_block.specs.Probing.{is_probe_unset, may_probe, probe_kept, probe_started}
use Rattle.tcp_block.specs.Rules.{Choice, backed_off_now, control_for, probe_choice, resend_choice, payload_choice}
use Rattle.tcp_block.specs.Segments.{ack_segment, hop_limit_of, keep_alive_segment, reset_segment, segment, syn_segment}
use Rattle.tcp_block.specs.Payload.{fin_taken, taken_in_order}
use Rattle.tcp_block.specs.Settled.{end_of, loss_watched, nxt_moved, probed, recorded, resent, sent_as, settled, syn_was_sent, timer_started, was_sent}
use Rattle.tcp_block.specs.Timestamps.{rtt_of_tsecr, tsecr_taken, tsval_taken, timed_by, timed_with}
use Rattle.tcp_block.specs.Undone.{undone}
use Rattle.tcp_block.specs.Value.{TcpValue, Arrived, with_tcb, unoffered, ended, free_in, new_socket, queued_in, room_of, window_of}
use Rattle.tcp_block.specs.Opening.{took_syn}
use Rattle.tcp_invariants.specs.Events.{Event, after}
use Rattle.tcp_invariants.specs.Events.Event.{Comes, Asked, Listens, Connects, Sends, Reads, Closes, Aborts, Sets}
use Rattle.tcp_invariants.specs.Events.Setting.{Timeout, KeepAlive, AckDelay, Nagle, HopLimit, Timestamps, Paused, Retries, Congestion, MinRto, FineTimer}
use Rattle.tcp_invariants.proofs.ArrivalCases.{by_arrival, Received, Opening, Content, Drawing, acked_open, heeded, timed}
use Rattle.tcp_invariants.proofs.OfferCases.{FirstRules, by_rules, begun, probing}
use Rattle.tcp_liveness.specs.Near.{IsNear}

-- THE TIMEOUT

pub record IsGood (r : RoundTripValue) : Type 0 where
  pub least : r.least ≤ 60_000_000
  pub timeout : r.timeout ≤ 60_000_000

measured_good : (fine : Bool) (r : RoundTripValue) (micros : ℕ) → IsGood r → IsGood (round_trip.measured fine r micros)
measured_good fine r micros g = record { least = g.least; timeout = below _ } where
  below : (n : ℕ) → min 60_000_000 n ≤ 60_000_000
  below n = omega arith

advanced_good : (fine : Bool) (r : RoundTripValue) (by : ℕ) (now : ℤ) → IsGood r → IsGood (round_trip.advanced fine r by now)
advanced_good fine r by now g =
    elim r.sample as (λ sample. IsGood (round_trip.advanced_with fine r by now sample)) [
      | None ↦ g
      | Some s ↦
          let micros = round_trip.clocked fine (round_trip.micros_between s.since now) in
          cond_both (nat_le s.ends by) (round_trip.measured fine r micros)
          (record r { sample = Some (record s { ends = s.ends - by }) }) IsGood
          (λ _. measured_good fine r micros g)
          (λ _. record { least = g.least; timeout = g.timeout })
    ]

late_good : (r : RoundTripValue) → IsGood r → IsGood (round_trip.begun_late r)
late_good r g = record { least = g.least; timeout = at (is_none r.estimate) } where
  at : (first : Bool) → (if first then max 3_000_000 r.least else r.timeout) ≤ 60_000_000
  at true = more r.least g.least where
    more : (n : ℕ) → n ≤ 60_000_000 → max 3_000_000 n ≤ 60_000_000
    more n e = omega arith
  at false = g.timeout

after_good : (b : Tcb) (by : ℕ) (now : ℤ) → IsGood b.round_trip → IsGood (round_trip_after b by now)
after_good b by now g =
    let risen = round_trip.advanced b.settings.fine_timer b.round_trip by now in
    let it = advanced_good b.settings.fine_timer b.round_trip by now g in
    cond_both (acks_local_syn b by && b.sender.syn_lost) (round_trip.begun_late risen) risen IsGood (λ _. late_good risen it) (λ _. it)

tsecr_good : (fine : Bool) (r : RoundTripValue) (by : ℕ) (tsecr : Option ℕ) → IsGood r → IsGood (timed_by fine r by tsecr)
tsecr_good fine r by tsecr g = cond_both (by == 0) r (timed_with fine r by tsecr) IsGood (λ _. g) (λ _. at tsecr) where
  at : (tsecr : Option ℕ) → IsGood (timed_with fine r by tsecr)
  at None = g
  at (Some millis) =
      let micros = round_trip.tsecr_micros fine millis in
      cond_both (round_trip.counts_tsecr fine r.sample by) (round_trip.measured fine r micros) r IsGood (λ _. measured_good fine r micros g) (λ _. g)

least_good : (duration : ℕ) → least_of duration ≤ 60_000_000
least_good duration = below _ where
  below : (n : ℕ) → min 60_000_000 n ≤ 60_000_000
  below n = omega arith

set_good : (duration : ℕ) (r : RoundTripValue) → r.timeout ≤ 60_000_000 → IsGood (round_trip.with_least duration r)
set_good duration r e = record { least = least_good duration; timeout = both (least_of duration) r.timeout (least_good duration) e } where
  both : (a b : ℕ) → a ≤ 60_000_000 → b ≤ 60_000_000 → max a b ≤ 60_000_000
  both a b e f = omega arith

-- WHAT IS NEAR

-- of these of a block
pub record IsBounded (now : ℤ) (r : RoundTripValue) (runs_out challenges_from probes_at : Option ℤ) : Type 0 where
  pub good : IsGood r
  pub timer : IsNear now 60_000_000 runs_out
  pub pause : IsNear now 1_000_000 challenges_from
  pub probe : IsNear now 60_000_000 probes_at

abbrev pub Bounded : ℤ → Tcb → Type 0
Bounded now b = IsBounded now b.round_trip b.timers.retransmit_at b.timers.challenges_from b.timers.probe_at

-- the instant of a probe ends where it does
kept_near : (now : ℤ) (b : Tcb) (queued : ℕ) → Bounded now b → Bounded now (probe_kept b queued)
kept_near now b queued h = record {
  good = h.good;
  timer = h.timer;
  pause = h.pause;
  probe = cond_both (may_probe b queued) b.timers.probe_at None (IsNear now 60_000_000) (λ _. h.probe) (λ _. tt);
}

timeout_near : (now : ℤ) (r : RoundTripValue) → IsGood r → IsNear now 60_000_000 (Some (timeout_from now r))
timeout_near now r g = more r.timeout 60_000_000 g.timeout where
  more : (a b : ℕ) → a ≤ b → (now +ℤ pos a) ≤ℤ (now +ℤ pos b)
  more a b e = first_of (omega (arith, ints), grind (arith, ints))

pub later_near : (old now : ℤ) (duration : ℕ) (at : Option ℤ) → old ≤ℤ now → IsNear old duration at → IsNear now duration at
later_near old now duration None e n = tt
later_near old now duration (Some m) e n = by m n where
  by : (m : ℤ) → m ≤ℤ (old +ℤ pos duration) → m ≤ℤ (now +ℤ pos duration)
  by m f = first_of (omega (arith, ints), grind (arith, ints))

initial_near : (now : ℤ) (b : Tcb) → Bounded now (initial_tcb b.settings)
initial_near now b = record { good = set_good b.settings.min_rto round_trip.initial (first 1_000_000 refl); timer = tt; pause = tt; probe = tt } where
  first : (n : ℕ) → n ≡ 1_000_000 → n ≤ 60_000_000
  first n e = omega arith

moved_near : (b : Tcb) (by queued : ℕ) (now : ℤ) → Bounded now b → Bounded now (una_moved b by queued now)
moved_near b by queued now h = record {
  good = good;
  timer =
      cond_both (by == 0) b.timers.retransmit_at
      (if b.sender.flight_size - by == 0 then None
      else if b.sender.partial && is_blind b by then b.timers.retransmit_at else Some (timeout_from now (round_trip_after b by now)))
      (IsNear now 60_000_000)
      (λ _. h.timer)
      (λ _.
      cond_both (b.sender.flight_size - by == 0) None
      (if b.sender.partial && is_blind b by then b.timers.retransmit_at else Some (timeout_from now (round_trip_after b by now)))
      (IsNear now 60_000_000)
      (λ _. tt)
      (λ _.
      cond_both (b.sender.partial && is_blind b by) b.timers.retransmit_at (Some (timeout_from now (round_trip_after b by now)))
      (IsNear now 60_000_000)
      (λ _. h.timer)
      (λ _. timeout_near now (round_trip_after b by now) good)));
  pause = h.pause;
  probe = h.probe;
}
  where
    good : IsGood (round_trip_after b by now)
    good = after_good b by now h.good

echoed_near : (b : Tcb) (header : TcpHeader) (by : ℕ) (now : ℤ) → Bounded now b → Bounded now (tsecr_taken b header by now)
echoed_near b header by now h =
    record { good = tsecr_good b.settings.fine_timer b.round_trip by (rtt_of_tsecr b header now) h.good; timer = h.timer; pause = h.pause; probe = h.probe }

-- A SEGMENT COMES

module _ (cx : ContextValue) (ip : IpRepr) (header : TcpHeader) (bytes : List ℕ) where
  abbrev NearAfter : Arrived → Type 0
  NearAfter a = Bounded cx.instant a.socket.tcb

  same : (now : ℤ) → IsNear now 1_000_000 (Some (now +ℤ pos 1_000_000))
  same now = by (now +ℤ pos 1_000_000) where
    by : (m : ℤ) → m ≤ℤ m
    by m = grind arith

  near_drawing : (x : TcpValue) → Bounded cx.instant x.tcb → Drawing cx ip header bytes NearAfter x
  near_drawing x h =
      record { answers = λ _. record { good = h.good; timer = h.timer; pause = same cx.instant; probe = h.probe }; at_once = h; pauses = h }

  near_content : (x : TcpValue) → Bounded cx.instant x.tcb → Content cx ip header bytes NearAfter x
  near_content x h = record {
    plain = let it = kept_near cx.instant x.tcb (queued_in x) h in (λ _. it, it);
    fin = λ _ _. let it = kept_near cx.instant (fin_taken x.tcb cx.instant) (queued_in x) h in (λ _. it, it);
    ordered = λ map _ _ _. let it = kept_near cx.instant (taken_in_order x map).socket.tcb (queued_in x) h in (λ _. it, it);
    ordered_fin = λ map _ _ _. let it = kept_near cx.instant (fin_taken (taken_in_order x map).socket.tcb cx.instant) (queued_in x) h in (λ _. it, it);
    early = λ _ _ _ _. kept_near cx.instant x.tcb (queued_in x) h;
  }

  risen : (u : TcpValue) (by : ℕ) → Bounded cx.instant u.tcb → Bounded cx.instant (acked_open (timed cx.instant header u by) by cx.instant).tcb
  risen u by h =
      moved_near (timed cx.instant header u by).tcb by (queued_in u) cx.instant
      (echoed_near (undone u.tcb header by (queued_in u)) header by cx.instant
      (record { good = h.good; timer = h.timer; pause = h.pause; probe = h.probe }))

  near_received : (u : TcpValue) → Bounded cx.instant u.tcb → Received cx ip header bytes NearAfter u
  near_received u h = record {
    stays = h;
    refuses = h;
    draws = near_drawing u h;
    falls = λ _ _ _. initial_near cx.instant u.tcb;
    ends = λ _ _ _. h;
    closes = λ by _ _. risen u by h;
    taken = λ by _ _. near_content (heeded cx.instant header (length bytes) u by (acked_open (timed cx.instant header u by) by cx.instant).tcb) (risen u by h);
    taken_window = λ by _ _.
        near_content (heeded cx.instant header (length bytes) u by (windowed (acked_open (timed cx.instant header u by) by cx.instant).tcb header))
        (risen u by h);
    news = λ by _ _. near_drawing (waiting_anew (acked_open (timed cx.instant header u by) by cx.instant) header cx.instant) (risen u by h);
    outside = near_drawing (waiting_anew u header cx.instant) h;
    old = λ _. near_content (with_tcb u (tsval_taken (heard u.tcb) header cx.instant)) h;
  }

  near_opening : (u : TcpValue) → Bounded cx.instant u.tcb → Opening cx ip header bytes NearAfter u
  near_opening u h = record {
    opens = λ _ _. h;
    refuses = h;
    ends = λ _. h;
    connects = λ _ _.
        moved_near (tsecr_taken (took_syn u.tcb header) header 1 cx.instant) 1 0 cx.instant (echoed_near (took_syn u.tcb header) header 1 cx.instant h);
    crosses = λ _ _. h;
  }

  near_arrival : (v : TcpValue) → Bounded cx.instant v.tcb → Bounded cx.instant (arrives cx v ip header bytes).socket.tcb
  near_arrival v h =
      by_arrival cx ip header bytes NearAfter v h (λ _. near_opening (unoffered v) h) (λ _. near_received (unoffered v) h)

-- AN OFFER

timing_good : (r : RoundTripValue) (ends : ℕ) (now : ℤ) → IsGood r → IsGood (round_trip.timing r ends now)
timing_good r ends now g =
    elim r.sample as (λ sample. IsGood (round_trip.timing_with r ends now sample)) [
      | None ↦ record { least = g.least; timeout = g.timeout }
      | Some s ↦ g
    ]

module _ (now : ℤ) (b : Tcb) (o : OpenOffer) (queued : ℕ) (same : o.instant ≡ now) (h : Bounded now b) where
  nxt_good : IsGood (nxt_moved b (end_of b o) queued o.instant).round_trip
  nxt_good =
      cond_both (nat_lt b.sender.snd_max (end_of b o)) (round_trip.timing b.round_trip (end_of b o) o.instant) b.round_trip IsGood
      (λ _. timing_good b.round_trip (end_of b o) o.instant h.good)
      (λ _. h.good)

  went_near : Bounded now (was_sent b o queued)
  went_near = record {
    good = nxt_good;
    timer =
        cond_both (is_some b.timers.retransmit_at) b.timers.retransmit_at
        (Some (timeout_from o.instant (nxt_moved b (end_of b o) queued o.instant).round_trip)) (IsNear now 60_000_000)
        (λ _. h.timer)
        (λ _.
        subst (λ (t : ℤ). IsNear t 60_000_000 (Some (timeout_from o.instant (nxt_moved b (end_of b o) queued o.instant).round_trip))) same
        (timeout_near o.instant (nxt_moved b (end_of b o) queued o.instant).round_trip nxt_good));
    pause = h.pause;
    probe =
        cond_both (may_probe (loss_watched (timer_started (nxt_moved b (end_of b o) queued o.instant) o.instant) o.instant) queued) b.timers.probe_at None
        (IsNear now 60_000_000) (λ _. h.probe) (λ _. tt);
  }

  asked_near : (b : Tcb) → Bounded now b → Bounded now (asked b o.instant)
  asked_near b h =
      cond_both (is_over o.instant b.timers.counts_from)
      (record b {
        sender = record b.sender { unanswered = one_more b.sender.unanswered };
        timers = record b.timers { counts_from = Some (timeout_from o.instant b.round_trip) };
      })
      b (Bounded now) (λ _. h) (λ _. h)

doubled : (r : RoundTripValue) → IsGood r → IsGood (round_trip.backed_off r)
doubled r g = record { least = g.least; timeout = below _ } where
  below : (n : ℕ) → min 60_000_000 n ≤ 60_000_000
  below n = omega arith

untimed_good : (r : RoundTripValue) → IsGood r → IsGood (round_trip.untimed r)
untimed_good r g = record { least = g.least; timeout = g.timeout }

sent_near : (now : ℤ) (kind : OfferKind) (b : Tcb) (o : OpenOffer) (queued : ℕ) → o.instant ≡ now → Bounded now b → Bounded now (sent_as kind b o queued)
sent_near now Kind.Reset b o queued same h = h
sent_near now Kind.Syn b o queued same h = went_near now (syn_was_sent b o) o queued same h
sent_near now Kind.FastRetransmission b o queued same h =
    went_near now (resent b (end_of b o)) o queued same
    (record {
      good = untimed_good b.round_trip h.good;
      timer =
          cond_both (b.reno.recovers && is_first_lost b) None b.timers.retransmit_at (IsNear now 60_000_000) (λ _. tt) (λ _. h.timer);
      pause = h.pause;
      probe = h.probe;
    })
sent_near now Kind.Payload b o queued same h = went_near now b o queued same h
sent_near now Kind.Probe b o queued same h =
    asked_near now b o queued same h (probed b (end_of b o) o.instant)
    (record {
      good = doubled b.round_trip h.good;
      timer = h.timer;
      pause = h.pause;
      probe =
          subst (λ (t : ℤ). IsNear t 60_000_000 (Some (timeout_from o.instant (round_trip.backed_off b.round_trip)))) same
          (timeout_near o.instant (round_trip.backed_off b.round_trip) (doubled b.round_trip h.good));
    })
sent_near now Kind.KeepAlive b o queued same h = asked_near now b o queued same h b h
sent_near now Kind.Ack b o queued same h = h
sent_near now Kind.WindowUpdate b o queued same h = h

module _ (cx : ContextValue) (v : TcpValue) (h : Bounded cx.instant v.tcb) where
  abbrev Both : Offered TcpValue → Type 0
  Both o = Bounded cx.instant (settled true o.socket).tcb × Bounded cx.instant o.socket.tcb

  by_segment :
      (kind : OfferKind) (x : TcpValue) (pair : FourTuple) (header : TcpHeader) (offset len : ℕ) → Bounded cx.instant x.tcb
      → Both (offer_segment kind cx x pair header offset len)
  by_segment kind x pair header offset len g = (sent_near cx.instant kind (recorded x.tcb k (room_of x.received)) k (queued_in x) refl g, g) where
    k : OpenOffer
    k = record {
      kind = kind;
      instant = cx.instant;
      header = header_for pair.addresses (hop_limit_of x.tcb.settings.hop_limit) (header_len header + len);
      segment = header;
      offset = offset;
      len = len;
    }

  by_choice : (kind : OfferKind) (x : TcpValue) (pair : FourTuple) (c : Choice) → Bounded cx.instant x.tcb → Both (offer_choice kind cx x pair c)
  by_choice kind x pair c g =
      by_segment kind x pair (segment x.tcb pair cx.instant (window_of x) (control_for c (queued_in x)) (number_at x.tcb c.offset)) c.offset c.len g

  -- one begins to be waited for
  started_near : (b : Tcb) → Bounded cx.instant b → Bounded cx.instant (probe_started cx.instant (queued_in v) b)
  started_near b g = record {
    good = g.good;
    timer = g.timer;
    pause = g.pause;
    probe =
        cond_both (is_probe_unset b (queued_in v)) (Some (timeout_from cx.instant b.round_trip)) b.timers.probe_at (IsNear cx.instant 60_000_000)
        (λ _. timeout_near cx.instant b.round_trip g.good) (λ _. g.probe);
  }

  near_first : (pair : FourTuple) (b : Tcb) → Bounded cx.instant b → FirstRules cx pair Both (with_tcb (unoffered v) b)
  near_first pair b g = record {
    syn = λ _. by_segment Kind.Syn w pair (syn_segment b pair cx.instant cx.ip_mtu (room_of v.received) (free_in v)) 0 0 g;
    again = λ _ _. by_choice Kind.FastRetransmission w pair (resend_choice b pair.addresses cx.ip_mtu v.queued) g;
    payload = λ _ _. by_choice Kind.Payload w pair (payload_choice b pair.addresses cx.ip_mtu v.queued) g;
    last = λ _.
        record {
          probe = λ _ _. by_choice Kind.Probe x pair probe_choice (started_near b g);
          window_limited = λ _ _. by_choice Kind.Payload x pair (payload_choice x.tcb pair.addresses cx.ip_mtu v.queued) (started_near b g);
          ack = λ _. by_segment Kind.Ack x pair (ack_segment x.tcb pair cx.instant (window_of x)) 0 0 (started_near b g);
          update = λ _ _. by_segment Kind.WindowUpdate x pair (ack_segment x.tcb pair cx.instant (window_of x)) 0 0 (started_near b g);
          keep_alive = λ _ _.
              by_segment Kind.KeepAlive x pair (keep_alive_segment x.tcb pair cx.instant (window_of x)) 0 1 (started_near b g);
          quiet = λ _. (started_near b g, started_near b g);
        };
  }
    where
      w : TcpValue
      w = with_tcb (unoffered v) b

      x : TcpValue
      x = probing cx w

  near_offer : Both (offer_of cx v)
  near_offer =
      by_rules cx v Both
      (record {
        nobody = λ _. (h, h);
        time_wait = λ _. (h, h);
        timeout = λ _. (h, h);
        closed = λ _. (h, h);
        reset = λ pair _ _. by_segment Kind.Reset (unoffered v) pair (reset_segment v.tcb pair cx.instant (window_of v)) 0 0 h;
        falls = λ _ _ _. (initial_near cx.instant v.tcb, initial_near cx.instant v.tcb);
        over = λ _ _ _. (h, h);
        backs = λ pair _ _ _.
            near_first pair (backed_off_now (begun cx v))
            (record {
              good = untimed_good (round_trip.backed_off v.tcb.round_trip) (doubled v.tcb.round_trip h.good);
              timer = tt;
              pause = h.pause;
              probe = h.probe;
            });
        probes = λ pair _ _ _ _. near_first pair (loss_probed (begun cx v)) h;
        goes = λ pair _ _ _. near_first pair (begun cx v) h;
      })

-- EVENTS

connected_near : (now : ℤ) (v : TcpValue) (names : Option FourTuple) (number : ℕ) → Bounded now v.tcb → Bounded now (connected_by v names number).tcb
connected_near now v None number h = h
connected_near now v (Some pair) number h = initial_near now v.tcb

-- the instant of an event, if it has one
abbrev pub IsAt : ℤ → Event → Type 0
IsAt now (Comes cx ip header bytes) = cx.instant ≡ now
IsAt now (Asked cx sent) = cx.instant ≡ now
IsAt now other = Unit {0}

abbrev BoundedIn : ℤ → TcpValue → Type 0
BoundedIn now v = Bounded now v.tcb

pub event_near : (now : ℤ) (v : TcpValue) (it : Event) → IsAt now it → BoundedIn now v → BoundedIn now (after v it)
event_near now v (Comes cx ip header bytes) at h =
    subst (λ (t : ℤ). BoundedIn t (after v (Comes cx ip header bytes))) at
    (near_arrival cx ip header bytes v (subst (λ (t : ℤ). Bounded t v.tcb) (sym at) h))
event_near now v (Asked cx true) at h =
    subst (λ (t : ℤ). BoundedIn t (after v (Asked cx true))) at (near_offer cx v (subst (λ (t : ℤ). Bounded t v.tcb) (sym at) h)).0
event_near now v (Asked cx false) at h =
    subst (λ (t : ℤ). BoundedIn t (after v (Asked cx false))) at (near_offer cx v (subst (λ (t : ℤ). Bounded t v.tcb) (sym at) h)).1
event_near now v (Listens endpoint) at h =
    cond_both (is_closed v.tcb.state && not (endpoint.port == 0)) (listening v endpoint) (unoffered v) (BoundedIn now)
    (λ _. initial_near now v.tcb) (λ _. h)
event_near now v (Connects cx remote local) at h =
    cond_both (is_closed v.tcb.state) (connected_by v (four_tuple_for cx remote local) (number_for cx (four_tuple_for cx remote local))) (unoffered v) (BoundedIn now)
    (λ _. connected_near now v (four_tuple_for cx remote local) (number_for cx (four_tuple_for cx remote local)) h) (λ _. h)
event_near now v (Sends bytes) at h =
    cond_both (takes_writes v.tcb.state) (sent_more v (enqueued (anchored v.queued) (take (min (length bytes) (length v.queued.free)) bytes))) (unoffered v)
    (BoundedIn now) (λ _. h) (λ _. h)
event_near now v (Reads count) at h = h
event_near now v Closes at h =
    cond_both (is_opening v.tcb.state) (ended (unoffered v)) (with_tcb (unoffered v) (record v.tcb { state = after_close v.tcb.state }))
    (BoundedIn now) (λ _. h) (λ _. h)
event_near now v Aborts at h =
    cond_both (is_time_wait v.tcb.state) (ended (unoffered v))
    (with_tcb (unoffered v) (record v.tcb { state = In.Closed; sender = record v.tcb.sender { reset_due = is_some v.tcb.names.pair } }))
    (BoundedIn now) (λ _. h) (λ _. h)
event_near now v (Sets (Timeout duration)) at h = h
event_near now v (Sets (KeepAlive interval)) at h = h
event_near now v (Sets (AckDelay duration)) at h = h
event_near now v (Sets (Nagle enabled)) at h = h
event_near now v (Sets (HopLimit limit)) at h = h
event_near now v (Sets (Timestamps generator)) at h = h
event_near now v (Sets (Paused paused)) at h = h
event_near now v (Sets (Retries limit)) at h = h
event_near now v (Sets (Congestion control)) at h = h
event_near now v (Sets (FineTimer fine)) at h = h
event_near now v (Sets (MinRto duration)) at h =
    record { good = set_good duration v.tcb.round_trip h.good.timeout; timer = h.timer; pause = h.pause; probe = h.probe }

pub new_near : (now : ℤ) (room : ℕ) (ring : Ring ℕ) → Bounded now (new_socket room ring).tcb
new_near now room ring = initial_near now (new_socket room ring).tcb
