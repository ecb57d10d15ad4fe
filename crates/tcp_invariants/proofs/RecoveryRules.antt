-- Fast recovery, what is retransmitted, and the least retransmission timeout.
use Rattle.std.proofs.Common.{◌≡◌, ◌⊎◌, inl, inr, ⊎_elim, ℕ, zero, suc, ◌+◌, ◌-◌, ◌*◌, ◌^◌, ◌<◌, ◌≤◌, ◌==◌, nat_le, nat_lt, ◌&&◌, not, min, max, ℤ, Bool, true}
use Rattle.std.proofs.Common.{false, if◌then◌else◌, List, [], ◌∷◌, length, take, Option, Some, None, is_none, is_some, refl, sym, ap, ◌∙◌, subst, arith}
use Rattle.std.proofs.lemmas.Bool.{cond_both, eqb-true, ltb-true}
use Rattle.ip_wire.specs.Control.{control_len}
use Rattle.ip_wire.specs.IpRepr.{IpRepr}
use Rattle.ip_wire.specs.Seq.{distance_of}
use Rattle.ip_wire.specs.SeqNumber.{SeqNumber}
use Rattle.ip_wire.specs.TcpHeader.{TcpHeader}
use Rattle.net_base.specs.Ring.{Ring, anchored, enqueued}
use Rattle.tcp_block.specs.Context.{ContextValue}
use Rattle.tcp_block.specs.BaseOffers.{Offered}
use Rattle.tcp_state.specs.Moments.{is_over, timeout_from}
use Rattle.tcp_state.specs.Reno as reno
use Rattle.tcp_state.specs.Reno.{RenoValue}
use Rattle.tcp_state.specs.RoundTrip as round_trip
use Rattle.tcp_state.specs.RoundTrip.{RoundTripValue, least_of}
use Rattle.tcp_state.specs.States.{is_closed, is_listening, is_opening, is_time_wait, takes_writes, after_close}
use Rattle.tcp_state.specs.declared.endpoints.AddressPair.{AddressPair}
use Rattle.tcp_state.specs.declared.endpoints.FourTuple.{FourTuple}
use Rattle.tcp_state.specs.declared.offer.OfferKind.{OfferKind}
use Rattle.tcp_state.specs.declared.offer.OfferKind.TheVariants as Kind
use Rattle.tcp_state.specs.declared.offer.OpenOffer.{OpenOffer}
use Rattle.tcp_state.specs.declared.round_trip.Sample.{Sample}
use Rattle.tcp_state.specs.declared.state.State.{State}
use Rattle.tcp_state.specs.declared.state.State.TheVariants as In
use Rattle.tcp_block.specs.Acknowledged.{state_after_ack, acks_local_syn, round_trip_after, reno_after, srtt_after, reno_counted}
use Rattle.tcp_block.specs.Acknowledged.{duplicates_after, begins_recovery}
use Rattle.tcp_block.specs.Acknowledged.{ranges_taken, windowed}
use Rattle.tcp_block.specs.LossRecovery.{hole_len, is_lost_again, is_passed, loss_probed, probes_tail}
use Rattle.tcp_block.proofs.Holes.{again_sent, hole_least}
use Rattle.tcp_block.specs.Arrival.{arrives}
use Rattle.tcp_block.specs.TcbRules.{one_if, initial_window}
use Rattle.tcp_block.specs.declared.tcb.CongestionControl.{CongestionControl}
use Rattle.tcp_block.specs.declared.tcb.CongestionControl.TheVariants as Avoids
use Rattle.tcp_block.specs.Calls.{listening, connected_by, four_tuple_for, sent_more}
use Rattle.tcp_block.specs.Offers.{offer_of, number_at}
use Rattle.tcp_block.specs.Opening.{took_syn}
use Rattle.tcp_block.specs.Retries.{asked, one_more}
use Rattle.tcp_block.specs.Rules.{Choice, backed_off_now, resend_choice, control_for, fin_is_sent, sent_count, size_limit}
use Rattle.tcp_block.specs.Settings.{initial_reno}
use Rattle.tcp_block.specs.Settled.{sent_off, sent_as, recorded, probed, end_of}
use Rattle.tcp_block.specs.Validation.{is_used}
use Rattle.tcp_block.specs.Value.{TcpValue, Arrived, with_tcb, unoffered, ended, new_socket, queued_in, room_of}
use Rattle.tcp_block.specs.declared.tcb.Tcb.{Tcb}
use Rattle.tcp_block.specs.Isn.{number_for}
use Rattle.tcp_block.specs.Timestamps.{tsval_taken, tsecr_taken, rtt_of_tsecr, tsval_taken, timed_by, timed_with}
use Rattle.tcp_block.specs.Undone.{undone}
use Rattle.tcp_block.proofs.Undone.{undone_by, undone_cases}
use Rattle.tcp_invariants.specs.Events.{Event, Setting, after, led, set, is_past}
use Rattle.tcp_invariants.specs.Events.Event.{Comes, Asked, Listens, Connects, Sends, Reads, Closes, Aborts, Sets}
use Rattle.tcp_invariants.specs.Events.Setting.{Timeout, KeepAlive, AckDelay, Nagle, HopLimit, Timestamps, Paused, Retries, MinRto, FineTimer, Congestion}
use Rattle.tcp_invariants.specs.InOrder.{sending_of, IsInOrder}
use Rattle.tcp_invariants.specs.Recovery.{Recovery, recovery_of, IsPaced}
use Rattle.tcp_invariants.proofs.ArrivalCases.{timed, by_arrival, Received, Opening, Content, Drawing, acked_open}
use Rattle.tcp_invariants.proofs.CongestionRules.{acked_reno, fin_on, state_past, close_on, unnamed, left_true}
use Rattle.tcp_invariants.proofs.OfferCases.{Rules, FirstRules, LastRules, by_rules, begun, probing}
use Rattle.tcp_invariants.proofs.OrderRules.{event_order, new_order, control_least}
use Rattle.tcp_invariants.proofs.OrderSteps.{clash, distance_at_most}

-- FAST RECOVERY

abbrev Lasts : RenoValue → ℕ → Type 0
Lasts r recover = r.recovers ≡ true → 1 ≤ recover

right_true : (a b : Bool) → (a && b) ≡ true → b ≡ true
right_true true b e = e
right_true false b e = clash (sym e)

lasts_acked : (r : RenoValue) (sack syn lost : Bool) (by queued recover : ℕ) (now : ℤ) (rtt : ℕ) (used : Bool) → Lasts r recover →
    Lasts (acked_reno r sack syn lost by queued recover now rtt used) (recover - by)
lasts_acked r sack syn lost by queued recover now rtt used lasts =
    cond_both (syn && not (by == 0)) (reno.started r lost)
    (if r.recovers && not (by == 0)
    then (if (r.recovers && not (by == 0)) && nat_lt (by + 1) recover then (if sack then r else reno.partly r (min (by - one_if syn) queued))
    else reno.recovered r)
    else if used then reno.acknowledged r (min (by - one_if syn) queued) now rtt else reno.preserved r (min (by - one_if syn) queued))
    (λ (x : RenoValue). Lasts x (recover - by))
    (λ _ e. clash (sym e))
    (λ _.
    cond_both (r.recovers && not (by == 0))
    (if (r.recovers && not (by == 0)) && nat_lt (by + 1) recover then (if sack then r else reno.partly r (min (by - one_if syn) queued))
    else reno.recovered r)
    (if used then reno.acknowledged r (min (by - one_if syn) queued) now rtt else reno.preserved r (min (by - one_if syn) queued))
    (λ (x : RenoValue). Lasts x (recover - by))
    (λ _.
    cond_both ((r.recovers && not (by == 0)) && nat_lt (by + 1) recover) (if sack then r else reno.partly r (min (by - one_if syn) queued)) (reno.recovered r)
    (λ (x : RenoValue). Lasts x (recover - by))
    (λ part _. more by recover (ltb-true (by + 1) recover (right_true (r.recovers && not (by == 0)) (nat_lt (by + 1) recover) part)))
    (λ _ e. clash (sym e)))
    (λ none.
    cond_both used (reno.acknowledged r (min (by - one_if syn) queued) now rtt) (reno.preserved r (min (by - one_if syn) queued))
    (λ (x : RenoValue). Lasts x (recover - by))
    (λ _.
    cond_both (min (by - one_if syn) queued == 0) r
    (record r {
      cwnd = reno.widened r (min (by - one_if syn) queued) now rtt;
      timed_out = false;
      cubic = reno.counted r (min (by - one_if syn) queued) now;
    })
    (λ (x : RenoValue). Lasts x (recover - by))
    (λ _ e. stays r.recovers none e lasts) (λ _ e. stays r.recovers none e lasts))
    (λ _.
    cond_both (min (by - one_if syn) queued == 0) r (record r { timed_out = false; cubic = reno.stopped r.cubic })
    (λ (x : RenoValue). Lasts x (recover - by))
    (λ _ e. stays r.recovers none e lasts) (λ _ e. stays r.recovers none e lasts))))
  where
    more : (by recover : ℕ) → by + 1 < recover → 1 ≤ recover - by
    more by recover e = omega arith

    same : (by recover : ℕ) → by ≡ 0 → 1 ≤ recover → 1 ≤ recover - by
    same by recover none e = omega arith

    is_none_by : (n : ℕ) → not (n == 0) ≡ false → n ≡ 0
    is_none_by n e = at (n == 0) refl e where
      at : (test : Bool) → (n == 0) ≡ test → not test ≡ false → n ≡ 0
      at true is e = eqb-true n 0 is
      at false is e = clash e

    stays : (recovers : Bool) → (recovers && not (by == 0)) ≡ false → recovers ≡ true → (recovers ≡ true → 1 ≤ recover) → 1 ≤ recover - by
    stays true none e f = same by recover (is_none_by by none) (f e)
    stays false none e f = clash (sym e)

one_past : (snd_max : ℕ) → 1 ≤ min (snd_max + 1) 4_294_967_295
one_past snd_max = omega arith

-- what is retransmitted is lost once more in recovery alone
lasts_counted : (r : RenoValue) (sack begins again : Bool) (count flight snd_max recover : ℕ) → (again ≡ true → r.recovers ≡ true) → Lasts r recover
    → Lasts (reno_counted r sack count flight begins again) (if begins then min (snd_max + 1) 4_294_967_295 else recover)
lasts_counted r sack true again count flight snd_max recover only lasts = λ _. one_past snd_max
lasts_counted r sack false again count flight snd_max recover only lasts =
    cond_both again (reno.reduced r flight) (if not (count == 0) && not sack then reno.inflated r else r) (λ (x : RenoValue). Lasts x recover)
    (λ e _. lasts (only e))
    (λ _.
    cond_both (not (count == 0) && not sack) (reno.inflated r) r (λ (x : RenoValue). Lasts x recover)
    (λ _. cond_both r.recovers (record r { cwnd = min reno.most (r.cwnd + r.mss) }) r (λ (x : RenoValue). Lasts x recover) (λ _. lasts) (λ _. lasts))
    (λ _. lasts))

-- THE LEAST TIMEOUT

record Fine (r : RoundTripValue) (duration : ℕ) : Type 0 where
  least : r.least ≡ least_of duration
  timeout : r.least ≤ r.timeout

not_above : (duration : ℕ) → least_of duration ≤ round_trip.most_timeout
not_above duration = omega arith

within : (least most n : ℕ) → least ≤ most → least ≤ min most (max least n)
within least most n e = omega arith

fine_measured : (clock : Bool) (r : RoundTripValue) (micros duration : ℕ) → Fine r duration → Fine (round_trip.measured clock r micros) duration
fine_measured clock r micros duration f = record {
  least = f.least;
  timeout = within r.least round_trip.most_timeout _ (subst (λ (n : ℕ). n ≤ round_trip.most_timeout) (sym f.least) (not_above duration));
}

fine_advanced : (clock : Bool) (r : RoundTripValue) (by duration : ℕ) (now : ℤ) → Fine r duration → Fine (round_trip.advanced clock r by now) duration
fine_advanced clock r by duration now f = at r.sample where
  at : (sample : Option Sample) → Fine (round_trip.advanced_with clock r by now sample) duration
  at None = f
  at (Some s) =
      let micros = round_trip.clocked clock (round_trip.micros_between s.since now) in
      cond_both (nat_le s.ends by) (round_trip.measured clock r micros)
      (record r { sample = Some (record s { ends = s.ends - by }) })
      (λ (x : RoundTripValue). Fine x duration)
      (λ _. fine_measured clock r micros duration f) (λ _. record { least = f.least; timeout = f.timeout })

fine_tsecr : (clock : Bool) (r : RoundTripValue) (by duration : ℕ) (tsecr : Option ℕ) → Fine r duration → Fine (timed_by clock r by tsecr) duration
fine_tsecr clock r by duration tsecr f =
    cond_both (by == 0) r (timed_with clock r by tsecr) (λ (x : RoundTripValue). Fine x duration) (λ _. f) (λ _. at tsecr)
  where
    at : (tsecr : Option ℕ) → Fine (timed_with clock r by tsecr) duration
    at None = f
    at (Some millis) =
        let micros = round_trip.tsecr_micros clock millis in
        cond_both (round_trip.counts_tsecr clock r.sample by) (round_trip.measured clock r micros) r (λ (x : RoundTripValue). Fine x duration)
        (λ _. fine_measured clock r micros duration f)
        (λ _. f)

past_listening : (state : State) → is_past state ≡ true → is_listening state ≡ false
past_listening In.Listen e = clash (sym e)
past_listening other e = refl

fine_late : (r : RoundTripValue) (duration : ℕ) → Fine r duration → Fine (round_trip.begun_late r) duration
fine_late r duration f = record {
  least = f.least;
  timeout = cond_both (is_none r.estimate) (max 3_000_000 r.least) r.timeout (λ (n : ℕ). r.least ≤ n) (λ _. above 3_000_000 r.least) (λ _. f.timeout);
}
  where
    above : (a b : ℕ) → b ≤ max a b
    above a b = omega arith

fine_acked : (b : Tcb) (by : ℕ) (now : ℤ) → Fine b.round_trip b.settings.min_rto → Fine (round_trip_after b by now) b.settings.min_rto
fine_acked b by now f =
    let risen = round_trip.advanced b.settings.fine_timer b.round_trip by now in
    let it = fine_advanced b.settings.fine_timer b.round_trip by b.settings.min_rto now f in
    cond_both (acks_local_syn b by && b.sender.syn_lost) (round_trip.begun_late risen) risen (λ (x : RoundTripValue). Fine x b.settings.min_rto)
    (λ _. fine_late risen b.settings.min_rto it) (λ _. it)

fine_backed : (r : RoundTripValue) (duration : ℕ) → Fine r duration → Fine (round_trip.backed_off r) duration
fine_backed r duration f = record {
  least = f.least;
  timeout = doubled r.least r.timeout round_trip.most_timeout f.timeout (subst (λ (n : ℕ). n ≤ round_trip.most_timeout) (sym f.least) (not_above duration));
}
  where
    doubled : (least timeout most : ℕ) → least ≤ timeout → least ≤ most → least ≤ min most (2 * timeout)
    doubled least timeout most e f = omega arith

fine_timing : (r : RoundTripValue) (snd_max end duration : ℕ) (now : ℤ) → Fine r duration →
    Fine (if nat_lt snd_max end then round_trip.timing r end now else r) duration
fine_timing r snd_max end duration now f =
    cond_both (nat_lt snd_max end) (round_trip.timing r end now) r (λ (x : RoundTripValue). Fine x duration) (λ _. at r.sample) (λ _. f)
  where
    at : (sample : Option Sample) → Fine (round_trip.timing_with r end now sample) duration
    at None = record { least = f.least; timeout = f.timeout }
    at (Some s) = f

fine_set : (r : RoundTripValue) (duration : ℕ) → Fine (round_trip.with_least duration r) duration
fine_set r duration = record { least = refl; timeout = above (least_of duration) r.timeout } where
  above : (a b : ℕ) → a ≤ max a b
  above a b = omega arith

-- BOTH

fine_of : (r : Recovery) → IsPaced r → Fine r.round_trip r.min_rto
fine_of r p = record { least = p.least; timeout = p.timeout }

paced : (r : Recovery) → Lasts r.reno r.recover → is_listening r.state ≡ false → Fine r.round_trip r.min_rto → IsPaced r
paced r lasts not f = record { lasts = lasts; listens = λ e. clash (sym e ∙ not); least = f.least; timeout = f.timeout }

-- one that begins with nothing in recovery
initial_paced : (state : State) (control : CongestionControl) (recover duration : ℕ) →
    IsPaced (record {
      state = state;
      reno = initial_window control;
      recover = recover;
      round_trip = round_trip.with_least duration round_trip.initial;
      min_rto = duration;
    })
initial_paced state control recover duration =
    let f = fine_set round_trip.initial duration in record { lasts = λ e. clash (sym e); listens = λ _. refl; least = f.least; timeout = f.timeout }

asked_paced : (b : Tcb) (now : ℤ) → IsPaced (recovery_of b) → IsPaced (recovery_of (asked b now))
asked_paced b now p =
    cond_both (is_over now b.timers.counts_from)
    (record b {
      sender = record b.sender { unanswered = one_more b.sender.unanswered };
      timers = record b.timers { counts_from = Some (timeout_from now b.round_trip) };
    })
    b (λ (c : Tcb). IsPaced (recovery_of c)) (λ _. p) (λ _. p)

went_paced : (r : Recovery) (snd_max end : ℕ) (now : ℤ) → IsPaced r → is_listening r.state ≡ false
    → IsPaced (record r { round_trip = if nat_lt snd_max end then round_trip.timing r.round_trip end now else r.round_trip })
went_paced r snd_max end now p not = paced _ p.lasts not (fine_timing r.round_trip snd_max end r.min_rto now (fine_of r p))

sent_paced : (kind : OfferKind) (b : Tcb) (o : OpenOffer) (queued : ℕ) → is_listening b.state ≡ false → IsPaced (recovery_of b) →
    IsPaced (recovery_of (sent_as kind b o queued))
sent_paced Kind.Reset b o queued not p = paced _ p.lasts refl (fine_of (recovery_of b) p)
sent_paced Kind.Syn b o queued not p = went_paced (recovery_of b) b.sender.snd_max (end_of b o) o.instant p not
sent_paced Kind.FastRetransmission b o queued not p =
    paced _ p.lasts not
    (fine_timing (round_trip.untimed b.round_trip) b.sender.snd_max (end_of b o) b.settings.min_rto o.instant (record { least = p.least; timeout = p.timeout }))
sent_paced Kind.Payload b o queued not p =
    paced _ p.lasts not (fine_timing b.round_trip b.sender.snd_max (end_of b o) b.settings.min_rto o.instant (fine_of (recovery_of b) p))
sent_paced Kind.Probe b o queued not p =
    asked_paced (probed b (end_of b o) o.instant) o.instant (paced _ p.lasts not (fine_backed b.round_trip b.settings.min_rto (fine_of (recovery_of b) p)))
sent_paced Kind.KeepAlive b o queued not p = asked_paced b o.instant p
sent_paced other b o queued not p = p

-- A SEGMENT COMES

module _ (cx : ContextValue) (ip : IpRepr) (header : TcpHeader) (bytes : List ℕ) where
  abbrev Paced : Arrived → Type 0
  Paced a = IsPaced (recovery_of a.socket.tcb)

  paced_content : (x : TcpValue) → IsPaced (recovery_of x.tcb) → Content cx ip header bytes Paced x
  paced_content x p = record {
    plain = (λ _. p, p);
    fin = λ _ takes. (λ _. paced _ p.lasts (fin_on x.tcb.state takes) (fine_of _ p), paced _ p.lasts (fin_on x.tcb.state takes) (fine_of _ p));
    ordered = λ _ _ _ _. (λ _. p, p);
    ordered_fin = λ _ _ _ takes. (λ _. paced _ p.lasts (fin_on x.tcb.state takes) (fine_of _ p), paced _ p.lasts (fin_on x.tcb.state takes) (fine_of _ p));
    early = λ _ _ _ _. p;
  }

  paced_drawing : (x : TcpValue) → IsPaced (recovery_of x.tcb) → Drawing cx ip header bytes Paced x
  paced_drawing x p = record { answers = λ _. p; at_once = p; pauses = p }

  closed_paced : (u : TcpValue) → IsPaced (recovery_of u.tcb) → IsPaced (recovery_of (ended u).tcb)
  closed_paced u p = paced _ p.lasts refl (fine_of _ p)

  acked_paced : (b : Tcb) (by queued : ℕ) (state : State) → IsPaced (recovery_of b) → is_listening state ≡ false
      → IsPaced (record {
        state = state;
        reno = reno_after b by queued cx.instant;
        recover = b.sender.recover - by;
        round_trip = round_trip_after b by cx.instant;
        min_rto = b.settings.min_rto;
      })
  acked_paced b by queued state p not =
      paced _
      (lasts_acked b.reno b.peer.sack b.sender.syn_unacked b.sender.syn_lost by queued b.sender.recover cx.instant (srtt_after b by cx.instant)
      (is_used b) p.lasts) not
      (fine_acked b by cx.instant (fine_of (recovery_of b) p))

  tsecr_paced : (b : Tcb) (by : ℕ) → IsPaced (recovery_of b) → is_listening b.state ≡ false → IsPaced (recovery_of (tsecr_taken b header by cx.instant))
  tsecr_paced b by p not =
      paced _ p.lasts not (fine_tsecr b.settings.fine_timer b.round_trip by b.settings.min_rto (rtt_of_tsecr b header cx.instant) (fine_of (recovery_of b) p))

  undone_paced : (b : Tcb) (by queued : ℕ) → IsPaced (recovery_of b) → is_listening b.state ≡ false
      → IsPaced (recovery_of (undone b header by queued))
  undone_paced b by queued p not =
      undone_cases b header by queued (λ (c : Tcb). IsPaced (recovery_of c)) p
      (λ u _ _. paced (recovery_of (undone_by u b queued)) (λ e. clash (sym e)) not (fine_of (recovery_of b) p))

  heeded_paced : (u : TcpValue) (by count : ℕ) (begins again : Bool) → (again ≡ true → (reno_after u.tcb by (queued_in u) cx.instant).recovers ≡ true)
      → IsPaced (recovery_of u.tcb) → is_past u.tcb.state ≡ true
      → IsPaced (record {
        state = state_after_ack u.tcb by (queued_in u);
        reno = reno_counted (reno_after u.tcb by (queued_in u) cx.instant) u.tcb.peer.sack count
            (u.tcb.sender.flight_size - by) begins again;
        recover = if begins then min (u.tcb.sender.snd_max - by + 1) 4_294_967_295 else u.tcb.sender.recover - by;
        round_trip = round_trip_after u.tcb by cx.instant;
        min_rto = u.tcb.settings.min_rto;
      })
  heeded_paced u by count begins again only p past =
      paced _
      (lasts_counted (reno_after u.tcb by (queued_in u) cx.instant) u.tcb.peer.sack begins again count
      (u.tcb.sender.flight_size - by) (u.tcb.sender.snd_max - by) (u.tcb.sender.recover - by) only
      (lasts_acked u.tcb.reno u.tcb.peer.sack u.tcb.sender.syn_unacked u.tcb.sender.syn_lost by (queued_in u)
      u.tcb.sender.recover cx.instant (srtt_after u.tcb by cx.instant) (is_used u.tcb) p.lasts))
      (state_past u by past) (fine_acked u.tcb by cx.instant (fine_of (recovery_of u.tcb) p))

  -- the block as its duplicates are counted
  abbrev noted : Tcb → Tcb
  noted b = ranges_taken (tsval_taken b header cx.instant) header cx.instant

  -- what was retransmitted was lost in recovery
  lost_in : (b : Tcb) → is_lost_again b ≡ true → b.reno.recovers ≡ true
  lost_in b e =
      left_true b.reno.recovers (not (b.loss.resent == 0) && is_passed b b.loss.mark)
      (right_true b.peer.sack (b.reno.recovers && (not (b.loss.resent == 0) && is_passed b b.loss.mark)) e)

  paced_received : (u : TcpValue) → IsPaced (recovery_of u.tcb) → is_past u.tcb.state ≡ true → Received cx ip header bytes Paced u
  paced_received u p past = record {
    stays = p;
    refuses = p;
    draws = paced_drawing u p;
    falls = λ _ _ _. initial_paced In.Listen u.tcb.settings.congestion_control 0 u.tcb.settings.min_rto;
    ends = λ _ _ _. closed_paced u p;
    closes = λ by _ _. acked_paced (timed cx.instant header u by).tcb by (queued_in u) In.Closed (heard_paced by) refl;
    taken = λ by _ _.
        let b : Tcb = noted (acked_open (timed cx.instant header u by) by cx.instant).tcb in
        paced_content _
        (heeded_paced (timed cx.instant header u by) by (duplicates_after u.tcb header (length bytes) by) (begins_recovery b
        (duplicates_after u.tcb header (length bytes) by)) (is_lost_again b) (lost_in b)
        (heard_paced by) past);
    taken_window = λ by _ _.
        let b : Tcb = noted (windowed (acked_open (timed cx.instant header u by) by cx.instant).tcb header) in
        paced_content _
        (heeded_paced (timed cx.instant header u by) by (duplicates_after u.tcb header (length bytes) by) (begins_recovery b
        (duplicates_after u.tcb header (length bytes) by)) (is_lost_again b) (lost_in b)
        (heard_paced by) past);
    news = λ by _ _.
        paced_drawing _
        (acked_paced (timed cx.instant header u by).tcb by (queued_in u)
        (state_after_ack u.tcb by (queued_in u)) (heard_paced by) (state_past u by past));
    outside = paced_drawing _ p;
    old = λ _. paced_content _ p;
  }
    where
      heard_paced : (by : ℕ) → IsPaced (recovery_of (timed cx.instant header u by).tcb)
      heard_paced by =
          let not = past_listening u.tcb.state past in
          tsecr_paced (undone u.tcb header by (queued_in u)) by (undone_paced u.tcb by (queued_in u) p not) not

  paced_opening : (u : TcpValue) → IsPaced (recovery_of u.tcb) → Opening cx ip header bytes Paced u
  paced_opening u p = record {
    opens = λ at _. paced _ (λ e. clash (sym e ∙ p.listens (ap is_listening at))) refl (fine_of _ p);
    refuses = p;
    ends = λ _. closed_paced u p;
    connects = λ at _.
        acked_paced (tsecr_taken (took_syn u.tcb header) header 1 cx.instant) 1 0 In.Established
        (tsecr_paced (took_syn u.tcb header) 1 (paced _ p.lasts (ap is_listening at) (fine_of _ p)) (ap is_listening at)) refl;
    crosses = λ at _. paced _ p.lasts refl (fine_of _ p);
  }

  paced_arrival : (v : TcpValue) → IsPaced (recovery_of v.tcb) → Paced (arrives cx v ip header bytes)
  paced_arrival v p = by_arrival cx ip header bytes Paced v p (λ _. paced_opening (unoffered v) p) (λ past. paced_received (unoffered v) p past)

-- IT IS ASKED

abbrev PacedOffer : Offered TcpValue → Type 0
PacedOffer o = IsPaced (recovery_of o.socket.tcb) × ((is_listening o.socket.tcb.state ≡ false) ⊎ (o.socket.offered ≡ None))

module _ (cx : ContextValue) where
  paced_last : (pair : FourTuple) (x : TcpValue) → IsPaced (recovery_of x.tcb) → is_listening x.tcb.state ≡ false → LastRules cx pair PacedOffer x
  paced_last pair x p not = record {
    probe = λ _ _. (p, inl not);
    window_limited = λ _ _. (p, inl not);
    ack = λ _. (p, inl not);
    update = λ _ _. (p, inl not);
    keep_alive = λ _ _. (p, inl not);
    quiet = λ _. (p, inl not);
  }

  paced_first : (pair : FourTuple) (w : TcpValue) → IsPaced (recovery_of w.tcb) → is_listening w.tcb.state ≡ false → FirstRules cx pair PacedOffer w
  paced_first pair w p not =
      record { syn = λ _. (p, inl not); again = λ _ _. (p, inl not); payload = λ _ _. (p, inl not); last = λ _. paced_last pair (probing cx w) p not }

  -- the timer runs out
  backed_paced : (v : TcpValue) → IsPaced (recovery_of v.tcb) → is_listening v.tcb.state ≡ false → IsPaced (recovery_of (backed_off_now (begun cx v)))
  backed_paced v p not = at v.tcb.sender.syn_unacked where
    at : (syn : Bool)
        → IsPaced (record {
          state = v.tcb.state;
          reno = if syn then v.tcb.reno else reno.timed_out v.tcb.reno v.tcb.sender.flight_size;
          recover = if syn then v.tcb.sender.recover else min (v.tcb.sender.snd_max + 1) 4_294_967_295;
          round_trip = round_trip.untimed (round_trip.backed_off v.tcb.round_trip);
          min_rto = v.tcb.settings.min_rto;
        })
    at true = let f = fine_backed v.tcb.round_trip v.tcb.settings.min_rto (fine_of (recovery_of v.tcb) p) in
        paced _ p.lasts not (record { least = f.least; timeout = f.timeout })
    at false =
        let f = fine_backed v.tcb.round_trip v.tcb.settings.min_rto (fine_of (recovery_of v.tcb) p) in
        paced _ (λ e. clash (sym e)) not (record { least = f.least; timeout = f.timeout })

  -- a loss probe is due
  probed_paced : (v : TcpValue) → IsPaced (recovery_of v.tcb) → is_listening v.tcb.state ≡ false → IsPaced (recovery_of (loss_probed (begun cx v)))
  probed_paced v p open_yet = at (probes_tail (begun cx v)) where
    one_of : (n : ℕ) → (n == 0) ≡ false → 1 ≤ n
    one_of zero e = clash e
    one_of (suc n) e = omega arith

    recovers_on : 1 ≤ (if v.tcb.sender.recover == 0 then min (v.tcb.sender.snd_max + 1) 4_294_967_295 else v.tcb.sender.recover)
    recovers_on =
        cond_both (v.tcb.sender.recover == 0) (min (v.tcb.sender.snd_max + 1) 4_294_967_295) v.tcb.sender.recover (λ (n : ℕ). 1 ≤ n)
        (λ _. one_past v.tcb.sender.snd_max) (λ some. one_of v.tcb.sender.recover some)

    at : (tail : Bool)
        → IsPaced (record {
          state = v.tcb.state;
          reno = if tail then v.tcb.reno else reno.reduced v.tcb.reno v.tcb.sender.flight_size;
          recover = if not tail && (v.tcb.sender.recover == 0) then min (v.tcb.sender.snd_max + 1) 4_294_967_295 else v.tcb.sender.recover;
          round_trip = v.tcb.round_trip;
          min_rto = v.tcb.settings.min_rto;
        })
    at true = p
    at false = paced _ (λ _. recovers_on) open_yet (fine_of _ p)

  paced_rules : (v : TcpValue) → IsInOrder (sending_of v) → IsPaced (recovery_of v.tcb) → Rules cx v PacedOffer
  paced_rules v p k = record {
    nobody = λ _. (k, inr refl);
    time_wait = λ _. (paced _ k.lasts refl (fine_of _ k), inr refl);
    timeout = λ _. (paced _ k.lasts refl (fine_of _ k), inr refl);
    closed = λ _. (k, inr refl);
    reset = λ _ closed _. (k, inl (not_listening v.tcb.state closed));
    falls = λ _ _ _. (initial_paced In.Listen v.tcb.settings.congestion_control 0 v.tcb.settings.min_rto, inr refl);
    over = λ _ _ _. (paced _ k.lasts refl (fine_of _ k), inr refl);
    backs = λ pair named _ _.
        paced_first pair (with_tcb (unoffered v) (backed_off_now (begun cx v))) (backed_paced v k (unnamed v pair p named)) (unnamed v pair p named);
    probes = λ pair named _ _ _.
        paced_first pair (with_tcb (unoffered v) (loss_probed (begun cx v))) (probed_paced v k (unnamed v pair p named)) (unnamed v pair p named);
    goes = λ pair named _ _. paced_first pair (with_tcb (unoffered v) (begun cx v)) k (unnamed v pair p named);
  }
    where
      not_listening : (state : State) → is_closed state ≡ true → is_listening state ≡ false
      not_listening In.Closed e = refl
      not_listening In.Listen e = clash (sym e)
      not_listening other e = refl

  paced_offer : (v : TcpValue) → IsInOrder (sending_of v) → IsPaced (recovery_of v.tcb) → PacedOffer (offer_of cx v)
  paced_offer v p k = by_rules cx v PacedOffer (paced_rules v p k)

settled_paced :
    (offered : Option OpenOffer) (x : TcpValue) → (is_listening x.tcb.state ≡ false) ⊎ (offered ≡ None) → IsPaced (recovery_of x.tcb)
    → IsPaced (recovery_of (sent_off offered x).tcb)
settled_paced None x which p = p
settled_paced (Some o) x which p =
    ⊎_elim (λ not. sent_paced o.kind (recorded x.tcb o (room_of x.received)) o (queued_in x) not p) (λ none. absurd (cc)) which

-- ITS USER CALLS

set_paced : (v : TcpValue) (setting : Setting) → IsPaced (recovery_of v.tcb) → IsPaced (recovery_of (set v setting).tcb)
set_paced v (Timeout duration) p = p
set_paced v (KeepAlive interval) p = p
set_paced v (AckDelay duration) p = p
set_paced v (Nagle enabled) p = p
set_paced v (HopLimit limit) p = p
set_paced v (Timestamps generator) p = p
set_paced v (Paused paused) p = p
set_paced v (Retries limit) p = p
set_paced v (FineTimer fine) p = p
set_paced v (MinRto duration) p =
    let f = fine_set v.tcb.round_trip duration in record { lasts = p.lasts; listens = p.listens; least = f.least; timeout = f.timeout }
set_paced v (Congestion control) p = record { lasts = λ e. clash (sym e ∙ none); listens = λ _. none; least = p.least; timeout = p.timeout } where
  none : (initial_reno v.tcb control).recovers ≡ false
  none =
      cond_both (not v.tcb.receiver.took_syn) (initial_window control)
      (if v.tcb.sender.syn_unacked then reno.with_mss (initial_window control) v.tcb.peer.mss
      else reno.started (reno.with_mss (initial_window control) v.tcb.peer.mss) false)
      (λ (r : RenoValue). r.recovers ≡ false) (λ _. refl)
      (λ _.
      cond_both v.tcb.sender.syn_unacked (reno.with_mss (initial_window control) v.tcb.peer.mss)
      (reno.started (reno.with_mss (initial_window control) v.tcb.peer.mss) false) (λ (r : RenoValue). r.recovers ≡ false) (λ _. refl) (λ _. refl))

connected_paced : (v : TcpValue) (names : Option FourTuple) (number : ℕ) → IsPaced (recovery_of v.tcb) →
    IsPaced (recovery_of (connected_by v names number).tcb)
connected_paced v None number p = p
connected_paced v (Some pair) number p = initial_paced In.SynSent v.tcb.settings.congestion_control 0 v.tcb.settings.min_rto

pub event_paced : (v : TcpValue) (it : Event) → IsInOrder (sending_of v) → IsPaced (recovery_of v.tcb) → IsPaced (recovery_of (after v it).tcb)
event_paced v (Comes cx ip header bytes) p k = paced_arrival cx ip header bytes v k
event_paced v (Asked cx true) p k =
    let it = paced_offer cx v p k in settled_paced (offer_of cx v).socket.offered (unoffered (offer_of cx v).socket) it.1 it.0
event_paced v (Asked cx false) p k = (paced_offer cx v p k).0
event_paced v (Listens endpoint) p k =
    cond_both (is_closed v.tcb.state && not (endpoint.port == 0)) (listening v endpoint) (unoffered v) (λ (w : TcpValue). IsPaced (recovery_of w.tcb))
    (λ _. initial_paced In.Listen v.tcb.settings.congestion_control 0 v.tcb.settings.min_rto) (λ _. k)
event_paced v (Connects cx remote local) p k =
    cond_both (is_closed v.tcb.state) (connected_by v (four_tuple_for cx remote local) (number_for cx (four_tuple_for cx remote local))) (unoffered v)
    (λ (w : TcpValue). IsPaced (recovery_of w.tcb))
    (λ _. connected_paced v (four_tuple_for cx remote local) (number_for cx (four_tuple_for cx remote local)) k) (λ _. k)
event_paced v (Sends bytes) p k =
    cond_both (takes_writes v.tcb.state) (sent_more v (enqueued (anchored v.queued) (take (min (length bytes) (length v.queued.free)) bytes))) (unoffered v)
    (λ (w : TcpValue). IsPaced (recovery_of w.tcb)) (λ _. k) (λ _. k)
event_paced v (Reads count) p k = k
event_paced v Closes p k =
    cond_both (is_opening v.tcb.state) (ended (unoffered v)) (with_tcb (unoffered v) (record v.tcb { state = after_close v.tcb.state }))
    (λ (w : TcpValue). IsPaced (recovery_of w.tcb))
    (λ _. paced _ k.lasts refl (fine_of _ k)) (λ _. paced _ k.lasts (close_on v.tcb.state) (fine_of _ k))
event_paced v Aborts p k =
    cond_both (is_time_wait v.tcb.state) (ended (unoffered v))
    (with_tcb (unoffered v) (record v.tcb { state = In.Closed; sender = record v.tcb.sender { reset_due = is_some v.tcb.names.pair } }))
    (λ (w : TcpValue). IsPaced (recovery_of w.tcb)) (λ _. paced _ k.lasts refl (fine_of _ k)) (λ _. paced _ k.lasts refl (fine_of _ k))
event_paced v (Sets setting) p k = set_paced v setting k

led_paced : (v : TcpValue) (events : List Event) → IsInOrder (sending_of v) → IsPaced (recovery_of v.tcb) → IsPaced (recovery_of (led v events).tcb)
led_paced v [] p k = k
led_paced v (it ∷ more) p k = led_paced (after v it) more (event_order v it p) (event_paced v it p k)

run_paced : (capacity : ℕ) (queued : Ring ℕ) (events : List Event) → IsPaced (recovery_of (led (new_socket capacity queued) events).tcb)
run_paced capacity queued events = led_paced (new_socket capacity queued) events (new_order capacity queued) (initial_paced In.Closed Avoids.Reno 0 1_000_000)

pub new_paced : (capacity : ℕ) (queued : Ring ℕ) → IsPaced (recovery_of (new_socket capacity queued).tcb)
new_paced capacity queued = initial_paced In.Closed Avoids.Reno 0 1_000_000

pub led_lasts : (capacity : ℕ) (queued : Ring ℕ) (events : List Event)
    → (led (new_socket capacity queued) events).tcb.reno.recovers ≡ true → 1 ≤ (led (new_socket capacity queued) events).tcb.sender.recover
led_lasts capacity queued events recovers = (run_paced capacity queued events).lasts recovers

pub led_least : (capacity : ℕ) (queued : Ring ℕ) (events : List Event)
    → least_of (led (new_socket capacity queued) events).tcb.settings.min_rto ≤ (led (new_socket capacity queued) events).tcb.round_trip.timeout
led_least capacity queued events =
    let k = run_paced capacity queued events in subst (λ (n : ℕ). n ≤ (led (new_socket capacity queued) events).tcb.round_trip.timeout) k.least k.timeout

-- WHAT GOES AGAIN

module _ (x : TcpValue) (addresses : AddressPair) (mtu : ℕ) where
  abbrev again : Choice
  again = resend_choice x.tcb addresses mtu x.queued

  again_end : x.tcb.sender.una.0 < 2 ^ 32 → x.tcb.sender.syn_unacked ≡ false
      → distance_of x.tcb.sender.una (number_at x.tcb again.offset) + (again.len + control_len (control_for again (queued_in x))) ≤ x.tcb.sender.snd_max
  again_end small no_syn = at again.fin refl where
    near : distance_of x.tcb.sender.una (number_at x.tcb again.offset) ≤ one_if x.tcb.sender.syn_unacked + again.offset
    near = distance_at_most x.tcb.sender.una (one_if x.tcb.sender.syn_unacked + again.offset) small

    with_fin : (d syn offset len control snd_max : ℕ) → d ≤ syn + offset → syn ≡ 0 → offset + len < snd_max - syn → control ≤ 1 → d + (len + control) ≤ snd_max
    with_fin d syn offset len control snd_max a b c d' = omega arith

    without : (d syn offset len control snd_max : ℕ) → d ≤ syn + offset → syn ≡ 0 → offset ≤ snd_max - syn → len ≤ snd_max - syn - offset → control ≤ 0 →
        d + (len + control) ≤ snd_max
    without d syn offset len control snd_max a b c d' e' = omega arith

    cut : (s m hole : ℕ) → hole ≤ s → min hole m ≤ s
    cut s m hole e = omega arith

    sent : again.offset ≤ sent_count x.tcb
    sent = again_sent x.tcb (size_limit x.tcb addresses mtu) (sent_count x.tcb) (queued_in x)

    at : (fin : Bool) → again.fin ≡ fin →
        distance_of x.tcb.sender.una (number_at x.tcb again.offset) + (again.len + control_len (control_for again (queued_in x))) ≤
        x.tcb.sender.snd_max
    at true e =
        with_fin (distance_of x.tcb.sender.una (number_at x.tcb again.offset)) (one_if x.tcb.sender.syn_unacked) again.offset again.len
        (control_len (control_for again (queued_in x))) x.tcb.sender.snd_max near
        (ap one_if no_syn)
        (ltb-true (again.offset + again.len) (sent_count x.tcb)
        (right_true (fin_is_sent x.tcb (queued_in x) (again.offset + again.len)) (nat_lt (again.offset + again.len) (sent_count x.tcb)) e))
        (subst (λ (t : Bool). control_len (control_for again (queued_in x)) ≤ one_if t) e (control_least again (queued_in x)))
    at false e =
        without (distance_of x.tcb.sender.una (number_at x.tcb again.offset)) (one_if x.tcb.sender.syn_unacked) again.offset again.len
        (control_len (control_for again (queued_in x))) x.tcb.sender.snd_max near
        (ap one_if no_syn)
        sent
        (cut (sent_count x.tcb - again.offset) (min (size_limit x.tcb addresses mtu) (queued_in x - again.offset))
        (hole_len x.tcb again.offset (sent_count x.tcb)) (hole_least x.tcb again.offset (sent_count x.tcb)))
        (subst (λ (t : Bool). control_len (control_for again (queued_in x)) ≤ one_if t) e (control_least again (queued_in x)))

abbrev is_again : OfferKind → Bool
is_again Kind.FastRetransmission = true
is_again other = false

module _ (cx : ContextValue) (v : TcpValue) (p : IsInOrder (sending_of v)) (no_syn : v.tcb.sender.syn_unacked ≡ false) where
  abbrev EndsSent : Offered TcpValue → Type 0
  EndsSent o = (k : OpenOffer) → o.socket.offered ≡ Some k → is_again k.kind ≡ true → end_of o.socket.tcb k ≤ v.tcb.sender.snd_max

  one_offer : (a b : OpenOffer) → Some a ≡ Some b → a ≡ b
  one_offer a b e = cc

  another : {A : Type 0} (a k : OpenOffer) → Some a ≡ Some k → is_again a.kind ≡ false → is_again k.kind ≡ true → A
  another a k e not is = clash (sym is ∙ sym (ap (λ (o : OpenOffer). is_again o.kind) (one_offer a k e)) ∙ not)

  nothing : {A : Type 0} (k : OpenOffer) → None ≡ Some k → A
  nothing k e = absurd (cc)

  ends_last : (pair : FourTuple) (x : TcpValue) → x.offered ≡ None → LastRules cx pair EndsSent x
  ends_last pair x none = record {
    probe = λ _ _ k e is. another _ k e refl is;
    window_limited = λ _ _ k e is. another _ k e refl is;
    ack = λ _ k e is. another _ k e refl is;
    update = λ _ _ k e is. another _ k e refl is;
    keep_alive = λ _ _ k e is. another _ k e refl is;
    quiet = λ _ k e is. nothing k (sym none ∙ e);
  }

  ends_first : (pair : FourTuple) (w : TcpValue) → w.offered ≡ None → w.tcb.sender.una ≡ v.tcb.sender.una →
      w.tcb.sender.syn_unacked ≡ v.tcb.sender.syn_unacked
      → w.tcb.sender.snd_max ≡ v.tcb.sender.snd_max → FirstRules cx pair EndsSent w
  ends_first pair w none una syn snd_max = record {
    syn = λ _ k e is. another _ k e refl is;
    again = λ _ _ k e is.
        subst (λ (o : OpenOffer). end_of w.tcb o ≤ v.tcb.sender.snd_max) (one_offer _ k e)
        (at_snd_max _ (again_end w pair.addresses cx.ip_mtu (subst (λ (n : SeqNumber). n.0 < 2 ^ 32) (sym una) p.number) (syn ∙ no_syn)));
    payload = λ _ _ k e is. another _ k e refl is;
    last = λ _. ends_last pair (probing cx w) none;
  }
    where
      at_snd_max : (n : ℕ) → n ≤ w.tcb.sender.snd_max → n ≤ v.tcb.sender.snd_max
      at_snd_max n below = subst (λ (t : ℕ). n ≤ t) snd_max below

  ends_rules : Rules cx v EndsSent
  ends_rules = record {
    nobody = λ _ k e is. nothing k e;
    time_wait = λ _ k e is. nothing k e;
    timeout = λ _ k e is. nothing k e;
    closed = λ _ k e is. nothing k e;
    reset = λ _ _ _ k e is. another _ k e refl is;
    falls = λ _ _ _ k e is. nothing k e;
    over = λ _ _ _ k e is. nothing k e;
    backs = λ pair _ _ _. ends_first pair (with_tcb (unoffered v) (backed_off_now (begun cx v))) refl refl refl refl;
    probes = λ pair _ _ _ _. ends_first pair (with_tcb (unoffered v) (loss_probed (begun cx v))) refl refl refl refl;
    goes = λ pair _ _ _. ends_first pair (with_tcb (unoffered v) (begun cx v)) refl refl refl refl;
  }

pub again_was_sent :
    (cx : ContextValue) (v : TcpValue) (o : OpenOffer) → IsInOrder (sending_of v) → v.tcb.sender.syn_unacked ≡ false
    → (offer_of cx v).socket.offered ≡ Some o → o.kind ≡ Kind.FastRetransmission → end_of (offer_of cx v).socket.tcb o ≤ v.tcb.sender.snd_max
again_was_sent cx v o p no_syn offered kind = by_rules cx v (EndsSent cx v p no_syn) (ends_rules cx v p no_syn) o offered (ap is_again kind)
