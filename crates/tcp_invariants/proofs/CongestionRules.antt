-- The congestion window after a timeout.
use Rattle.std.proofs.Common.{◌≡◌, ◌⊎◌, inl, inr, ⊎_elim, ℕ, zero, suc, ◌+◌, ◌-◌, ◌*◌, ◌/◌, ◌^◌, ◌<◌, ◌≤◌, ◌==◌, nat_lt, ◌&&◌, ◌||◌, not, min, max, ℤ, Bool, true}
use Rattle.std.proofs.Common.{false}
use Rattle.std.proofs.Common.{if◌then◌else◌, List, [], ◌∷◌, length, take, drop, Option, Some, None, is_some, refl, sym, ap, ◌∙◌, arith}
use Rattle.std.proofs.lemmas.Bool.{cond_both}
use Rattle.std.proofs.lemmas.List.{length-drop}
use Rattle.ip_wire.specs.IpListenEndpoint.{IpListenEndpoint}
use Rattle.ip_wire.specs.IpRepr.{IpRepr}
use Rattle.ip_wire.specs.TcpHeader.{TcpHeader}
use Rattle.net_base.specs.Ring.{Ring, anchored, enqueued}
use Rattle.tcp_block.specs.Context.{ContextValue}
use Rattle.tcp_block.specs.BaseOffers.{Offered}
use Rattle.tcp_state.specs.Moments.{is_due, is_over, timeout_from}
use Rattle.tcp_state.specs.Reno as reno
use Rattle.tcp_state.specs.Reno.{RenoValue}
use Rattle.tcp_state.specs.States.{is_closed, is_listening, is_opening, is_answering, is_time_wait, accepts_data, takes_writes, after_ack, after_ack_of_fin}
use Rattle.tcp_state.specs.States.{after_fin, after_close}
use Rattle.tcp_state.specs.declared.endpoints.FourTuple.{FourTuple}
use Rattle.tcp_state.specs.declared.offer.OfferKind.{OfferKind}
use Rattle.tcp_state.specs.declared.offer.OfferKind.TheVariants as Kind
use Rattle.tcp_state.specs.declared.offer.OpenOffer.{OpenOffer}
use Rattle.tcp_state.specs.declared.state.State.{State}
use Rattle.tcp_state.specs.declared.state.State.TheVariants as In
use Rattle.tcp_block.specs.Acknowledged.{acks_fin, state_after_ack, freed_by, reno_after, srtt_after, reno_counted, duplicates_after, begins_recovery}
use Rattle.tcp_block.specs.Acknowledged.{ranges_taken, windowed}
use Rattle.tcp_block.specs.Arrival.{arrives}
use Rattle.tcp_block.specs.TcbRules.{one_if, initial_window}
use Rattle.tcp_block.specs.Calls.{listening, connected_by, four_tuple_for, sent_more}
use Rattle.tcp_block.specs.Checks.{falls_back}
use Rattle.tcp_block.specs.Offers.{offer_of}
use Rattle.tcp_block.specs.Opening.{send_mss, took_syn}
use Rattle.tcp_block.specs.LossRecovery.{is_lost_again, loss_probed, probes_tail}
use Rattle.tcp_block.specs.Retries.{asked, one_more}
use Rattle.tcp_block.specs.Rules.{backed_off_now}
use Rattle.tcp_block.specs.Timestamps.{tsval_taken, tsecr_taken}
use Rattle.tcp_block.specs.Undone.{is_needless, prior_of}
use Rattle.tcp_block.proofs.Undone.{undone_cases, needless_frees}
use Rattle.tcp_block.specs.Settings.{initial_reno}
use Rattle.tcp_block.specs.Settled.{sent_off, sent_as, recorded, probed, end_of, was_sent}
use Rattle.tcp_block.specs.Validation.{is_used, periods_ended}
use Rattle.tcp_block.specs.Value.{TcpValue, Arrived, with_tcb, unoffered, ended, new_socket, queued_in, room_of}
use Rattle.tcp_block.specs.declared.tcb.Tcb.{Tcb}
use Rattle.tcp_block.specs.Isn.{number_for}
use Rattle.tcp_invariants.specs.Congestion.{control_of, IsHeld, renews, StaysOut}
use Rattle.tcp_invariants.specs.Ends.{Proceeds}
use Rattle.tcp_invariants.specs.Events.{Event, Setting, after, led, set, is_past}
use Rattle.tcp_invariants.specs.Events.Event.{Comes, Asked, Listens, Connects, Sends, Reads, Closes, Aborts, Sets}
use Rattle.tcp_invariants.specs.Events.Setting.{Timeout, KeepAlive, AckDelay, Nagle, HopLimit, Timestamps, Paused, Retries, Congestion, MinRto, FineTimer}
use Rattle.tcp_invariants.specs.InOrder.{sending_of, IsInOrder}
use Rattle.tcp_invariants.proofs.ArrivalCases.{by_arrival, Received, Opening, Content, Drawing, acked_open, timed}
use Rattle.tcp_invariants.proofs.OfferCases.{Rules, FirstRules, LastRules, by_rules, begun, probing}
use Rattle.tcp_invariants.proofs.OrderRules.{event_order, new_order}
use Rattle.tcp_invariants.proofs.OrderSteps.{clash}

-- THE STEPS

abbrev Out : RenoValue → Bool → Type 0
Out r syn = r.timed_out ≡ true → (r.cwnd ≡ r.mss) × (r.recovers ≡ false) × (syn ≡ false)

not_and : (syn : Bool) (t : Bool) → syn ≡ false → (syn && t) ≡ false
not_and syn t e = ap (λ (s : Bool). s && t) e

no_both : (syn : Bool) (t : Bool) → syn ≡ false → (syn && t) ≡ true → true ≡ false
no_both syn t e f = sym f ∙ not_and syn t e

pub left_true : (a b : Bool) → (a && b) ≡ true → a ≡ true
left_true true b e = refl
left_true false b e = clash (sym e)

-- what the loss of a segment makes of it, and the end of a count
counted_both : (P : RenoValue → Type 0) (r : RenoValue) (sack begins again : Bool) (count flight : ℕ)
    → P (reno.reduced r flight) → P (reno.lost r flight) → P (reno.inflated r) → P r → P (reno_counted r sack count flight begins again)
counted_both P r sack begins again count flight reduces loses inflates stays =
    cond_both begins (if sack then reno.reduced r flight else reno.lost r flight)
    (if again then reno.reduced r flight else if not (count == 0) && not sack then reno.inflated r else r) P
    (λ _. cond_both sack (reno.reduced r flight) (reno.lost r flight) P (λ _. reduces) (λ _. loses))
    (λ _.
    cond_both again (reno.reduced r flight) (if not (count == 0) && not sack then reno.inflated r else r) P
    (λ _. reduces)
    (λ _. cond_both (not (count == 0) && not sack) (reno.inflated r) r P (λ _. inflates) (λ _. stays)))

pub out_reduced : (r : RenoValue) (syn : Bool) (flight : ℕ) → Out r syn → Out (reno.reduced r flight) syn
out_reduced r syn flight out =
    cond_both r.timed_out r
    (record r {
      ssthresh = reno.lowered r (min flight r.cwnd);
      cwnd = reno.lowered r (min flight r.cwnd);
      recovers = true;
      cubic = reno.loss_at r.cubic r.cwnd;
    }) (λ (x : RenoValue). Out x syn)
    (λ _. out)
    (λ not e. clash (sym e ∙ not))

out_counted : (r : RenoValue) (syn sack begins again : Bool) (count flight : ℕ) → Out r syn → Out (reno_counted r sack count flight begins again) syn
out_counted r syn sack begins again count flight out =
    counted_both (λ (x : RenoValue). Out x syn) r sack begins again count flight (out_reduced r syn flight out)
    (cond_both r.timed_out r
    (record r {
      ssthresh = reno.lowered r (min flight r.cwnd);
      cwnd = min reno.most (reno.lowered r (min flight r.cwnd) + 3 * r.mss);
      recovers = true;
      cubic = reno.loss_at r.cubic r.cwnd;
    })
    (λ (x : RenoValue). Out x syn)
    (λ _. out)
    (λ not e. clash (sym e ∙ not)))
    (cond_both r.recovers (record r { cwnd = min reno.most (r.cwnd + r.mss) }) r (λ (x : RenoValue). Out x syn)
    (λ recovers e. clash (sym recovers ∙ (out e).1))
    (λ _. out))
    out

-- what an acknowledgement makes of it, where so many bytes are queued, so much is to be acknowledged until it is more than `recover`, and the
-- window is used, or not
abbrev pub acked_reno : RenoValue → Bool → Bool → Bool → ℕ → ℕ → ℕ → ℤ → ℕ → Bool → RenoValue
acked_reno r sack syn lost by queued recover now rtt used =
    if syn && not (by == 0) then reno.started r lost
    else if r.recovers && not (by == 0)
    then (if (r.recovers && not (by == 0)) && nat_lt (by + 1) recover
    then (if sack then r else reno.partly r (min (by - one_if syn) queued)) else reno.recovered r)
    else if used then reno.acknowledged r (min (by - one_if syn) queued) now rtt
    else reno.preserved r (min (by - one_if syn) queued)

-- a part of it, and all: both alike
acked_both : (P : RenoValue → Type 0) (r : RenoValue) (sack syn lost : Bool) (by queued recover : ℕ) (now : ℤ) (rtt : ℕ) (used : Bool)
    → ((syn && not (by == 0)) ≡ true → P (reno.started r lost))
    → (r.recovers ≡ true → P r)
    → (r.recovers ≡ true → P (reno.partly r (min (by - one_if syn) queued)))
    → (r.recovers ≡ true → P (reno.recovered r))
    → P (reno.acknowledged r (min (by - one_if syn) queued) now rtt)
    → P (reno.preserved r (min (by - one_if syn) queued))
    → P (acked_reno r sack syn lost by queued recover now rtt used)
acked_both P r sack syn lost by queued recover now rtt used starts stays part whole grows preserves =
    cond_both (syn && not (by == 0)) (reno.started r lost)
    (if r.recovers && not (by == 0)
    then (if (r.recovers && not (by == 0)) && nat_lt (by + 1) recover
    then (if sack then r else reno.partly r (min (by - one_if syn) queued)) else reno.recovered r)
    else if used then reno.acknowledged r (min (by - one_if syn) queued) now rtt else reno.preserved r (min (by - one_if syn) queued))
    P starts
    (λ _.
    cond_both (r.recovers && not (by == 0))
    (if (r.recovers && not (by == 0)) && nat_lt (by + 1) recover then (if sack then r else reno.partly r (min (by - one_if syn) queued)) else reno.recovered r)
    (if used then reno.acknowledged r (min (by - one_if syn) queued) now rtt else reno.preserved r (min (by - one_if syn) queued)) P
    (λ recovers.
    cond_both ((r.recovers && not (by == 0)) && nat_lt (by + 1) recover) (if sack then r else reno.partly r (min (by - one_if syn) queued)) (reno.recovered r) P
    (λ _.
    cond_both sack r (reno.partly r (min (by - one_if syn) queued)) P
    (λ _. stays (left_true r.recovers (not (by == 0)) recovers)) (λ _. part (left_true r.recovers (not (by == 0)) recovers)))
    (λ _. whole (left_true r.recovers (not (by == 0)) recovers)))
    (λ _.
    cond_both used (reno.acknowledged r (min (by - one_if syn) queued) now rtt) (reno.preserved r (min (by - one_if syn) queued)) P (λ _. grows) (λ _. preserves)))

out_acked : (r : RenoValue) (sack syn lost : Bool) (by queued recover : ℕ) (now : ℤ) (rtt : ℕ) (used : Bool) → Out r syn
    → Out (acked_reno r sack syn lost by queued recover now rtt used) (syn && (by == 0))
out_acked r sack syn lost by queued recover now rtt used out =
    acked_both (λ (x : RenoValue). Out x (syn && (by == 0))) r sack syn lost by queued recover now rtt used
    (λ acks e. clash (no_both syn (not (by == 0)) (out e).2 acks))
    (λ recovers e. clash (sym recovers ∙ (out e).1))
    (λ recovers e. clash (sym recovers ∙ (out e).1))
    (λ _ e. clash (sym e))
    (cond_both (min (by - one_if syn) queued == 0) r
    (record r {
      cwnd = reno.widened r (min (by - one_if syn) queued) now rtt;
      timed_out = false;
      cubic = reno.counted r (min (by - one_if syn) queued) now;
    })
    (λ (x : RenoValue). Out x (syn && (by == 0)))
    (λ _ e. let old = out e in (old.0, old.1, not_and syn (by == 0) old.2))
    (λ _ e. clash (sym e)))
    (cond_both (min (by - one_if syn) queued == 0) r (record r { timed_out = false; cubic = reno.stopped r.cubic })
    (λ (x : RenoValue). Out x (syn && (by == 0)))
    (λ _ e. let old = out e in (old.0, old.1, not_and syn (by == 0) old.2))
    (λ _ e. clash (sym e)))

-- no timeout counts, so none does after it
quiet_acked : (r : RenoValue) (sack syn lost : Bool) (by queued recover : ℕ) (now : ℤ) (rtt : ℕ) (used : Bool) → r.timed_out ≡ false →
    (acked_reno r sack syn lost by queued recover now rtt used).timed_out ≡ false
quiet_acked r sack syn lost by queued recover now rtt used quiet =
    acked_both (λ (x : RenoValue). x.timed_out ≡ false) r sack syn lost by queued recover now rtt used
    (λ _. quiet) (λ _. quiet) (λ _. quiet) (λ _. refl)
    (cond_both (min (by - one_if syn) queued == 0) r
    (record r {
      cwnd = reno.widened r (min (by - one_if syn) queued) now rtt;
      timed_out = false;
      cubic = reno.counted r (min (by - one_if syn) queued) now;
    })
    (λ (x : RenoValue). x.timed_out ≡ false) (λ _. quiet) (λ _. refl))
    (cond_both (min (by - one_if syn) queued == 0) r (record r { timed_out = false; cubic = reno.stopped r.cubic })
    (λ (x : RenoValue). x.timed_out ≡ false) (λ _. quiet) (λ _. refl))

state_on : (state : State) → is_past state ≡ true → (is_listening (after_ack state) ≡ false) × (is_listening (after_ack_of_fin state) ≡ false)
state_on In.Closed e = clash (sym e)
state_on In.Listen e = clash (sym e)
state_on In.SynSent e = clash (sym e)
state_on In.SynReceived e = (refl, refl)
state_on In.FinWait1 e = (refl, refl)
state_on In.Closing e = (refl, refl)
state_on In.LastAck e = (refl, refl)
state_on other e = (refl, refl)

pub fin_on : (state : State) → accepts_data state ≡ true → is_listening (after_fin state) ≡ false
fin_on In.Established e = refl
fin_on In.FinWait1 e = refl
fin_on In.FinWait2 e = refl
fin_on other e = clash (sym e)

pub state_past : (u : TcpValue) (by : ℕ) → is_past u.tcb.state ≡ true → is_listening (state_after_ack u.tcb by (queued_in u)) ≡ false
state_past u by past =
    cond_both (acks_fin u.tcb by (queued_in u)) (after_ack_of_fin u.tcb.state) (after_ack u.tcb.state) (λ (s : State). is_listening s ≡ false)
    (λ _. (state_on u.tcb.state past).1) (λ _. (state_on u.tcb.state past).0)

-- what isn't the listener's
held : (r : RenoValue) (syn : Bool) (state : State) → Out r syn → is_listening state ≡ false → IsHeld (record { reno = r; syn_unacked = syn; state = state })
held r syn state out not = record { window = out; listens = λ e. clash (sym e ∙ not) }

-- before its SYN is acknowledged
is_syn_unacked : (u : TcpValue) → IsInOrder (sending_of u) → (is_opening u.tcb.state || is_answering u.tcb.state) ≡ true → u.tcb.sender.syn_unacked ≡ true
is_syn_unacked u p opening = at u.tcb.sender.syn_unacked refl where
  at : (syn : Bool) → u.tcb.sender.syn_unacked ≡ syn → syn ≡ true
  at true e = refl
  at false e = clash (sym opening ∙ p.opened e)

-- A SEGMENT COMES

module _ (cx : ContextValue) (ip : IpRepr) (header : TcpHeader) (bytes : List ℕ) where
  abbrev Held : Arrived → Type 0
  Held a = IsHeld (control_of a.socket.tcb)

  held_content : (x : TcpValue) → IsHeld (control_of x.tcb) → Content cx ip header bytes Held x
  held_content x h = record {
    plain = (λ _. h, h);
    fin = λ _ takes. (λ _. ended takes, ended takes);
    ordered = λ _ _ _ _. (λ _. h, h);
    ordered_fin = λ _ _ _ takes. (λ _. ended takes, ended takes);
    early = λ _ _ _ _. h;
  }
    where
      ended : accepts_data x.tcb.state ≡ true → IsHeld (record (control_of x.tcb) { state = after_fin x.tcb.state })
      ended takes = held x.tcb.reno x.tcb.sender.syn_unacked (after_fin x.tcb.state) h.window (fin_on x.tcb.state takes)

  held_drawing : (x : TcpValue) → IsHeld (control_of x.tcb) → Drawing cx ip header bytes Held x
  held_drawing x h = record { answers = λ _. h; at_once = h; pauses = h }

  initial_held : (u : TcpValue) (endpoint : IpListenEndpoint) → IsHeld (control_of (listening u endpoint).tcb)
  initial_held u endpoint = record { window = λ e. clash (sym e); listens = λ _. refl }

  closed_held : (u : TcpValue) → IsHeld (control_of u.tcb) → IsHeld (control_of (ended u).tcb)
  closed_held u h = held u.tcb.reno u.tcb.sender.syn_unacked In.Closed h.window refl

  acked_held : (u : TcpValue) (by : ℕ) → IsHeld (control_of u.tcb) → is_past u.tcb.state ≡ true → IsHeld (control_of (acked_open u by cx.instant).tcb)
  acked_held u by h past =
      held (reno_after u.tcb by (queued_in u) cx.instant) (u.tcb.sender.syn_unacked && (by == 0)) (state_after_ack u.tcb by (queued_in u))
      (out_acked u.tcb.reno u.tcb.peer.sack u.tcb.sender.syn_unacked u.tcb.sender.syn_lost by (queued_in u)
      u.tcb.sender.recover cx.instant (srtt_after u.tcb by cx.instant) (is_used u.tcb) h.window) (state_past u by past)

  heeded_held : (u : TcpValue) (by count : ℕ) (begins again : Bool) → IsHeld (control_of u.tcb) → is_past u.tcb.state ≡ true
      → IsHeld (record {
        reno =
            reno_counted (reno_after u.tcb by (queued_in u) cx.instant) u.tcb.peer.sack count
            (u.tcb.sender.flight_size - by) begins again;
        syn_unacked = u.tcb.sender.syn_unacked && (by == 0);
        state = state_after_ack u.tcb by (queued_in u);
      })
  heeded_held u by count begins again h past =
      held
      (reno_counted (reno_after u.tcb by (queued_in u) cx.instant) u.tcb.peer.sack count
      (u.tcb.sender.flight_size - by) begins again)
      (u.tcb.sender.syn_unacked && (by == 0)) (state_after_ack u.tcb by (queued_in u))
      (out_counted (reno_after u.tcb by (queued_in u) cx.instant) (u.tcb.sender.syn_unacked && (by == 0)) u.tcb.peer.sack begins again
      count (u.tcb.sender.flight_size - by)
      (out_acked u.tcb.reno u.tcb.peer.sack u.tcb.sender.syn_unacked u.tcb.sender.syn_lost by (queued_in u)
      u.tcb.sender.recover cx.instant (srtt_after u.tcb by cx.instant) (is_used u.tcb) h.window))
      (state_past u by past)

  -- the block as its duplicates are counted
  abbrev noted : Tcb → Tcb
  noted b = ranges_taken (tsval_taken b header cx.instant) header cx.instant

  -- a loss that is undone is over
  heard_held : (u : TcpValue) (by : ℕ) → IsHeld (control_of u.tcb) → IsHeld (control_of (timed cx.instant header u by).tcb)
  heard_held u by h =
      undone_cases u.tcb header by (queued_in u) (λ (c : Tcb). IsHeld (control_of c)) h
      (λ undo _ _. record { window = λ e. clash (sym e); listens = λ _. refl })

  held_received : (u : TcpValue) → IsHeld (control_of u.tcb) → is_past u.tcb.state ≡ true → Received cx ip header bytes Held u
  held_received u h past = record {
    stays = h;
    refuses = h;
    draws = held_drawing u h;
    falls = λ _ _ _. initial_held u u.tcb.names.listen;
    ends = λ _ _ _. closed_held u h;
    closes = λ by _ _.
        let w = timed cx.instant header u by in
        held (reno_after w.tcb by (queued_in w) cx.instant) (w.tcb.sender.syn_unacked && (by == 0)) In.Closed
        (out_acked w.tcb.reno w.tcb.peer.sack w.tcb.sender.syn_unacked w.tcb.sender.syn_lost by (queued_in w)
        w.tcb.sender.recover cx.instant (srtt_after w.tcb by cx.instant) (is_used w.tcb) (heard_held u by h).window) refl;
    taken = λ by _ _.
        let b : Tcb = noted (acked_open (timed cx.instant header u by) by cx.instant).tcb in
        let count = duplicates_after u.tcb header (length bytes) by in
        held_content _ (heeded_held (timed cx.instant header u by) by count (begins_recovery b count) (is_lost_again b) (heard_held u by h) past);
    taken_window = λ by _ _.
        let b : Tcb = noted (windowed (acked_open (timed cx.instant header u by) by cx.instant).tcb header) in
        let count = duplicates_after u.tcb header (length bytes) by in
        held_content _ (heeded_held (timed cx.instant header u by) by count (begins_recovery b count) (is_lost_again b) (heard_held u by h) past);
    news = λ by _ _. held_drawing _ (acked_held (timed cx.instant header u by) by (heard_held u by h) past);
    outside = held_drawing _ h;
    old = λ _. held_content _ h;
  }

  -- before its SYN is acknowledged no timeout counts
  no_timeout : (u : TcpValue) → IsHeld (control_of u.tcb) → u.tcb.sender.syn_unacked ≡ true → u.tcb.reno.timed_out ≡ false
  no_timeout u h syn = at u.tcb.reno.timed_out refl where
    at : (out : Bool) → u.tcb.reno.timed_out ≡ out → out ≡ false
    at true e = clash (sym syn ∙ (h.window e).2)
    at false e = refl

  held_opening : (u : TcpValue) → IsInOrder (sending_of u) → IsHeld (control_of u.tcb) → Opening cx ip header bytes Held u
  held_opening u p h = record {
    opens = λ at _. record { window = λ e. clash (sym e ∙ h.listens (ap is_listening at)); listens = λ e. clash (sym e) };
    refuses = h;
    ends = λ _. closed_held u h;
    connects = λ at _.
        let quiet = no_timeout u h (is_syn_unacked u p (ap (λ (s : State). is_opening s || is_answering s) at)) in
        record {
          window = λ e.
              clash (sym e ∙ quiet_acked (reno.with_mss u.tcb.reno (send_mss u.tcb.names.pair header.options.max_seg_size))
              (took_syn u.tcb header).peer.sack u.tcb.sender.syn_unacked u.tcb.sender.syn_lost 1
              0 u.tcb.sender.recover cx.instant (srtt_after (tsecr_taken (took_syn u.tcb header) header 1 cx.instant) 1 cx.instant)
              (is_used (took_syn u.tcb header)) quiet);
          listens = λ e. clash (sym e);
        };
    crosses = λ at _.
        let quiet = no_timeout u h (is_syn_unacked u p (ap (λ (s : State). is_opening s || is_answering s) at)) in
        record { window = λ e. clash (sym e ∙ quiet); listens = λ e. clash (sym e) };
  }

  held_arrival : (v : TcpValue) → IsInOrder (sending_of v) → IsHeld (control_of v.tcb) → Held (arrives cx v ip header bytes)
  held_arrival v p h = by_arrival cx ip header bytes Held v h (λ _. held_opening (unoffered v) p h) (λ past. held_received (unoffered v) h past)

-- IT IS ASKED

pub unnamed : (v : TcpValue) (pair : FourTuple) → IsInOrder (sending_of v) → v.tcb.names.pair ≡ Some pair → is_listening v.tcb.state ≡ false
unnamed v pair p named = at (is_listening v.tcb.state) refl where
  at : (listens : Bool) → is_listening v.tcb.state ≡ listens → listens ≡ false
  at true e = clash (sym (ap is_some named) ∙ (p.listens e).0)
  at false e = refl

-- of one segment nothing lapses
out_lapsed : (r : RenoValue) (syn : Bool) (periods : ℕ) → Out r syn → Out (reno.lapsed r periods) syn
out_lapsed r syn periods out e = let old = out e in (one old.0, old.1, old.2) where
  least : (mss half : ℕ) → min mss (max half (min (10 * mss) (max (2 * mss) 14_600))) ≡ mss
  least mss half = omega arith

  one : r.cwnd ≡ r.mss → (if periods == 0 then r.cwnd else min r.cwnd (max (r.cwnd / 2 ^ periods) (reno.first_window r.mss))) ≡ r.mss
  one is =
      cond_both (periods == 0) r.cwnd (min r.cwnd (max (r.cwnd / 2 ^ periods) (reno.first_window r.mss))) (λ (n : ℕ). n ≡ r.mss) (λ _. is)
      (λ _. ap (λ (n : ℕ). min n (max (r.cwnd / 2 ^ periods) (reno.first_window r.mss))) is ∙ least r.mss (r.cwnd / 2 ^ periods))

asked_held : (b : Tcb) (now : ℤ) → IsHeld (control_of b) → IsHeld (control_of (asked b now))
asked_held b now h =
    cond_both (is_over now b.timers.counts_from)
    (record b {
      sender = record b.sender { unanswered = one_more b.sender.unanswered };
      timers = record b.timers { counts_from = Some (timeout_from now b.round_trip) };
    })
    b (λ (c : Tcb). IsHeld (control_of c)) (λ _. h) (λ _. h)

sent_held : (kind : OfferKind) (b : Tcb) (o : OpenOffer) (queued : ℕ) → IsHeld (control_of b) → IsHeld (control_of (sent_as kind b o queued))
sent_held Kind.Reset b o queued h = held b.reno b.sender.syn_unacked In.Closed h.window refl
sent_held Kind.Probe b o queued h = asked_held (probed b (end_of b o) o.instant) o.instant h
sent_held Kind.KeepAlive b o queued h = asked_held b o.instant h
sent_held Kind.Payload b o queued h =
    record { window = out_lapsed b.reno b.sender.syn_unacked (periods_ended (was_sent b o queued) b.sender.snd_max o.instant) h.window; listens = h.listens }
sent_held other b o queued h = h

settled_held : (offered : Option OpenOffer) (x : TcpValue) → IsHeld (control_of x.tcb) → IsHeld (control_of (sent_off offered x).tcb)
settled_held None x h = h
settled_held (Some o) x h = sent_held o.kind (recorded x.tcb o (room_of x.received)) o (queued_in x) h

module _ (cx : ContextValue) where
  abbrev HeldTcb : Offered TcpValue → Type 0
  HeldTcb o = IsHeld (control_of o.socket.tcb)

  held_last : (pair : FourTuple) (x : TcpValue) → IsHeld (control_of x.tcb) → LastRules cx pair HeldTcb x
  held_last pair x h = record { probe = λ _ _. h; window_limited = λ _ _. h; ack = λ _. h; update = λ _ _. h; keep_alive = λ _ _. h; quiet = λ _. h }

  held_first : (pair : FourTuple) (w : TcpValue) → IsHeld (control_of w.tcb) → FirstRules cx pair HeldTcb w
  held_first pair w h = record { syn = λ _. h; again = λ _ _. h; payload = λ _ _. h; last = λ _. held_last pair (probing cx w) h }

  -- the timer runs out
  backed_held : (v : TcpValue) → IsHeld (control_of v.tcb) → is_listening v.tcb.state ≡ false → IsHeld (control_of (backed_off_now (begun cx v)))
  backed_held v h not =
      at v.tcb.sender.syn_unacked refl
    where
      at : (syn : Bool) → v.tcb.sender.syn_unacked ≡ syn
          → IsHeld (record {
            reno = if syn then v.tcb.reno else reno.timed_out v.tcb.reno v.tcb.sender.flight_size;
            syn_unacked =
                v.tcb.sender.syn_unacked;
            state = v.tcb.state;
          })
      at true e = h
      at false e = record { window = λ _. (refl, refl, e); listens = λ f. clash (sym f ∙ not) }

  -- a loss probe is due
  probed_held : (v : TcpValue) → IsHeld (control_of v.tcb) → is_listening v.tcb.state ≡ false → IsHeld (control_of (loss_probed (begun cx v)))
  probed_held v h not =
      cond_both (probes_tail (begun cx v)) v.tcb.reno (reno.reduced v.tcb.reno v.tcb.sender.flight_size)
      (λ (r : RenoValue). IsHeld (record { reno = r; syn_unacked = v.tcb.sender.syn_unacked; state = v.tcb.state }))
      (λ _. h)
      (λ _.
      held (reno.reduced v.tcb.reno v.tcb.sender.flight_size) v.tcb.sender.syn_unacked v.tcb.state
      (out_reduced v.tcb.reno v.tcb.sender.syn_unacked v.tcb.sender.flight_size h.window) not)

  held_rules : (v : TcpValue) → IsInOrder (sending_of v) → IsHeld (control_of v.tcb) → Rules cx v HeldTcb
  held_rules v p h = record {
    nobody = λ _. h;
    time_wait = λ _. held v.tcb.reno v.tcb.sender.syn_unacked In.Closed h.window refl;
    timeout = λ _. held v.tcb.reno v.tcb.sender.syn_unacked In.Closed h.window refl;
    closed = λ _. h;
    reset = λ _ _ _. h;
    falls = λ _ _ _. record { window = λ e. clash (sym e); listens = λ _. refl };
    over = λ _ _ _. held v.tcb.reno v.tcb.sender.syn_unacked In.Closed h.window refl;
    backs = λ pair named _ _. held_first pair (with_tcb (unoffered v) (backed_off_now (begun cx v))) (backed_held v h (unnamed v pair p named));
    probes = λ pair named _ _ _. held_first pair (with_tcb (unoffered v) (loss_probed (begun cx v))) (probed_held v h (unnamed v pair p named));
    goes = λ pair _ _ _. held_first pair (with_tcb (unoffered v) (begun cx v)) h;
  }

  held_offer : (v : TcpValue) → IsInOrder (sending_of v) → IsHeld (control_of v.tcb) → IsHeld (control_of (offer_of cx v).socket.tcb)
  held_offer v p h = by_rules cx v HeldTcb (held_rules v p h)

-- a timeout counts from the poll on at which it is seen
module _ (cx : ContextValue) (v : TcpValue) where
  abbrev Counts : Offered TcpValue → Type 0
  Counts o = o.socket.tcb.reno.timed_out ≡ true

  counts_first : (pair : FourTuple) (w : TcpValue) → w.tcb.reno.timed_out ≡ true → FirstRules cx pair Counts w
  counts_first pair w e = record {
    syn = λ _. e;
    again = λ _ _. e;
    payload = λ _ _. e;
    last = λ _. record { probe = λ _ _. e; window_limited = λ _ _. e; ack = λ _. e; update = λ _ _. e; keep_alive = λ _ _. e; quiet = λ _. e };
  }

  counts_rules :
      (pair : FourTuple) → v.tcb.names.pair ≡ Some pair → Proceeds cx v → is_due cx.instant v.tcb.timers.retransmit_at ≡ true →
      v.tcb.sender.syn_unacked ≡ false
      → Rules cx v Counts
  counts_rules pair named on due no_syn = record {
    nobody = λ none. absurd (let clash = sym none ∙ named in cc);
    time_wait = λ over. clash (sym over ∙ on.lasts);
    timeout = λ over. clash (sym over ∙ on.in_time);
    closed = λ closed. clash (sym closed ∙ on.alive);
    reset = λ _ closed _. clash (sym closed ∙ on.alive);
    falls = λ _ over _. clash (sym over ∙ on.tries);
    over = λ _ over _. clash (sym over ∙ on.tries);
    backs = λ pair _ _ _.
        counts_first pair (with_tcb (unoffered v) (backed_off_now (begun cx v)))
        (ap (λ (syn : Bool). (if syn then v.tcb.reno else reno.timed_out v.tcb.reno v.tcb.sender.flight_size).timed_out) no_syn);
    probes = λ _ _ _ not _. clash (sym due ∙ not);
    goes = λ _ _ _ not. clash (sym due ∙ not);
  }

pub timeout_counts :
    (cx : ContextValue) (v : TcpValue) (pair : FourTuple) → v.tcb.names.pair ≡ Some pair → Proceeds cx v →
    is_due cx.instant v.tcb.timers.retransmit_at ≡ true
    → v.tcb.sender.syn_unacked ≡ false → (offer_of cx v).socket.tcb.reno.timed_out ≡ true
timeout_counts cx v pair named on due no_syn = by_rules cx v (Counts cx v) (counts_rules cx v pair named on due no_syn)

-- ITS USER CALLS

set_held : (v : TcpValue) (setting : Setting) → IsHeld (control_of v.tcb) → IsHeld (control_of (set v setting).tcb)
set_held v (Timeout duration) h = h
set_held v (KeepAlive interval) h = h
set_held v (AckDelay duration) h = h
set_held v (Nagle enabled) h = h
set_held v (HopLimit limit) h = h
set_held v (Timestamps generator) h = h
set_held v (Paused paused) h = h
set_held v (Retries limit) h = h
set_held v (MinRto duration) h = h
set_held v (FineTimer fine) h = h
set_held v (Congestion control) h = record { window = λ e. clash (sym e ∙ initial); listens = λ _. initial } where
  initial : (initial_reno v.tcb control).timed_out ≡ false
  initial =
      cond_both (not v.tcb.receiver.took_syn) (initial_window control)
      (if v.tcb.sender.syn_unacked then reno.with_mss (initial_window control) v.tcb.peer.mss
      else reno.started (reno.with_mss (initial_window control) v.tcb.peer.mss) false)
      (λ (r : RenoValue). r.timed_out ≡ false) (λ _. refl)
      (λ _.
      cond_both v.tcb.sender.syn_unacked (reno.with_mss (initial_window control) v.tcb.peer.mss)
      (reno.started (reno.with_mss (initial_window control) v.tcb.peer.mss) false) (λ (r : RenoValue). r.timed_out ≡ false) (λ _. refl) (λ _. refl))

connected_held : (v : TcpValue) (names : Option FourTuple) (number : ℕ) → IsHeld (control_of v.tcb) →
    IsHeld (control_of (connected_by v names number).tcb)
connected_held v None number h = h
connected_held v (Some pair) number h = record { window = λ e. clash (sym e); listens = λ e. clash (sym e) }

pub close_on : (state : State) → is_listening (after_close state) ≡ false
close_on In.Listen = refl
close_on In.SynSent = refl
close_on In.SynReceived = refl
close_on In.Established = refl
close_on In.CloseWait = refl
close_on other = refl

event_held : (v : TcpValue) (it : Event) → IsInOrder (sending_of v) → IsHeld (control_of v.tcb) → IsHeld (control_of (after v it).tcb)
event_held v (Comes cx ip header bytes) p h = held_arrival cx ip header bytes v p h
event_held v (Asked cx true) p h = settled_held (offer_of cx v).socket.offered (unoffered (offer_of cx v).socket) (held_offer cx v p h)
event_held v (Asked cx false) p h = held_offer cx v p h
event_held v (Listens endpoint) p h =
    cond_both (is_closed v.tcb.state && not (endpoint.port == 0)) (listening v endpoint) (unoffered v) (λ (w : TcpValue). IsHeld (control_of w.tcb))
    (λ _. record { window = λ e. clash (sym e); listens = λ _. refl }) (λ _. h)
event_held v (Connects cx remote local) p h =
    cond_both (is_closed v.tcb.state) (connected_by v (four_tuple_for cx remote local) (number_for cx (four_tuple_for cx remote local))) (unoffered v)
    (λ (w : TcpValue). IsHeld (control_of w.tcb))
    (λ _. connected_held v (four_tuple_for cx remote local) (number_for cx (four_tuple_for cx remote local)) h) (λ _. h)
event_held v (Sends bytes) p h =
    cond_both (takes_writes v.tcb.state) (sent_more v (enqueued (anchored v.queued) (take (min (length bytes) (length v.queued.free)) bytes))) (unoffered v)
    (λ (w : TcpValue). IsHeld (control_of w.tcb)) (λ _. h) (λ _. h)
event_held v (Reads count) p h = h
event_held v Closes p h =
    cond_both (is_opening v.tcb.state) (ended (unoffered v)) (with_tcb (unoffered v) (record v.tcb { state = after_close v.tcb.state }))
    (λ (w : TcpValue). IsHeld (control_of w.tcb))
    (λ _. held v.tcb.reno v.tcb.sender.syn_unacked In.Closed h.window refl)
    (λ _. held v.tcb.reno v.tcb.sender.syn_unacked (after_close v.tcb.state) h.window (close_on v.tcb.state))
event_held v Aborts p h =
    cond_both (is_time_wait v.tcb.state) (ended (unoffered v))
    (with_tcb (unoffered v) (record v.tcb { state = In.Closed; sender = record v.tcb.sender { reset_due = is_some v.tcb.names.pair } }))
    (λ (w : TcpValue). IsHeld (control_of w.tcb))
    (λ _. held v.tcb.reno v.tcb.sender.syn_unacked In.Closed h.window refl) (λ _. held v.tcb.reno v.tcb.sender.syn_unacked In.Closed h.window refl)
event_held v (Sets setting) p h = set_held v setting h

led_held : (v : TcpValue) (events : List Event) → IsInOrder (sending_of v) → IsHeld (control_of v.tcb) → IsHeld (control_of (led v events).tcb)
led_held v [] p h = h
led_held v (it ∷ more) p h = led_held (after v it) more (event_order v it p) (event_held v it p h)

pub led_window :
    (capacity : ℕ) (queued : Ring ℕ) (events : List Event) → (led (new_socket capacity queued) events).tcb.reno.timed_out ≡ true
    → (led (new_socket capacity queued) events).tcb.reno.cwnd ≡ (led (new_socket capacity queued) events).tcb.reno.mss
led_window capacity queued events out =
    ((led_held (new_socket capacity queued) events (new_order capacity queued)
    (record { window = λ e. clash (sym e); listens = λ e. clash (sym e) })).window out).0

-- UNTIL SOMETHING NEW IS ACKNOWLEDGED

-- so many bytes leave the queue
shorter : (queue : List ℕ) (by syn : ℕ) → (min (by - syn) (length queue) == 0) ≡ false → length (drop (min (by - syn) (length queue)) queue) < length queue
shorter queue by syn some =
    rw length-drop (less (min (by - syn) (length queue)) (length queue) (one_of (min (by - syn) (length queue)) some) (least by syn (length queue))) where
      one_of : (n : ℕ) → (n == 0) ≡ false → 1 ≤ n
      one_of zero e = clash e
      one_of (suc n) e = omega arith

      least : (by syn n : ℕ) → min (by - syn) n ≤ n
      least by syn n = omega arith

      less : (a n : ℕ) → 1 ≤ a → a ≤ n → n - a < n
      less a n e f = omega arith

-- what listened isn't there yet: no timeout counts
never_falls : {A : Type 0} (v : TcpValue) → IsHeld (control_of v.tcb) → v.tcb.reno.timed_out ≡ true → IsInOrder (sending_of v) →
    falls_back v.tcb ≡ true → A
never_falls v h out p falls = at v.tcb.sender.syn_unacked refl where
  answers : (a b : Bool) → (a && b) ≡ true → a ≡ true
  answers true b e = refl
  answers false b e = clash (sym e)

  or_right : (a b : Bool) → b ≡ true → (a || b) ≡ true
  or_right true b e = refl
  or_right false b e = e

  at : {A : Type 0} (syn : Bool) → v.tcb.sender.syn_unacked ≡ syn → A
  at true e = clash (sym e ∙ (h.window out).2)
  at false e =
      clash
      (sym (or_right (is_opening v.tcb.state) (is_answering v.tcb.state)
      (answers (is_answering v.tcb.state) (not (v.tcb.names.listen.port == 0)) falls)) ∙ p.opened e)

reduced_stays : (r : RenoValue) (flight : ℕ) → r.timed_out ≡ true → (reno.reduced r flight).timed_out ≡ true
reduced_stays r flight e =
    cond_both r.timed_out r
    (record r {
      ssthresh = reno.lowered r (min flight r.cwnd);
      cwnd = reno.lowered r (min flight r.cwnd);
      recovers = true;
      cubic = reno.loss_at r.cubic r.cwnd;
    })
    (λ (x : RenoValue). x.timed_out ≡ true) (λ _. e) (λ _. e)

module _ (cx : ContextValue) (ip : IpRepr) (header : TcpHeader) (bytes : List ℕ) (v : TcpValue) (h : IsHeld (control_of v.tcb))
    (out : v.tcb.reno.timed_out ≡ true) where
  abbrev StaysBy : Arrived → Type 0
  StaysBy a = (a.socket.tcb.reno.timed_out ≡ true) ⊎ (queued_in a.socket < queued_in v)

  stays_content : (x : TcpValue) → StaysBy (record { socket = x; answer = None; draws = false }) → Content cx ip header bytes StaysBy x
  stays_content x s = record {
    plain = (λ _. s, s);
    fin = λ _ _. (λ _. s, s);
    ordered = λ _ _ _ _. (λ _. s, s);
    ordered_fin = λ _ _ _ _. (λ _. s, s);
    early = λ _ _ _ _. s;
  }

  stays_drawing : (x : TcpValue) → StaysBy (record { socket = x; answer = None; draws = false }) → Drawing cx ip header bytes StaysBy x
  stays_drawing x s = record { answers = λ _. s; at_once = s; pauses = s }

  -- it undoes the timeout, or not
  abbrev window_if : Bool → ℕ → ℕ → Bool → RenoValue
  window_if needless by rtt used =
      acked_reno (if needless then prior_of v.tcb.loss.undo v.tcb.reno else v.tcb.reno) v.tcb.peer.sack v.tcb.sender.syn_unacked
      v.tcb.sender.syn_lost by (queued_in v) (if needless then 0 else v.tcb.sender.recover) cx.instant rtt used

  abbrev window_by : ℕ → ℕ → Bool → RenoValue
  window_by by rtt used = window_if (is_needless v.tcb header by (queued_in v)) by rtt used

  taken_stays : (by rtt : ℕ) (used : Bool)
      → ((window_if false by rtt used).timed_out ≡ true) ⊎ (length (drop (freed_by v.tcb by (queued_in v)) v.queued.queue) < queued_in v)
  taken_stays by rtt used =
      acked_both (λ (r : RenoValue). (r.timed_out ≡ true) ⊎ (length (drop (freed_by v.tcb by (queued_in v)) v.queued.queue) < queued_in v))
      v.tcb.reno v.tcb.peer.sack v.tcb.sender.syn_unacked v.tcb.sender.syn_lost by (queued_in v) v.tcb.sender.recover cx.instant rtt used
      (λ _. inl out) (λ _. inl out) (λ _. inl out) (λ recovers. clash (sym recovers ∙ (h.window out).1))
      (cond_both (freed_by v.tcb by (queued_in v) == 0) v.tcb.reno
      (record v.tcb.reno {
        cwnd = reno.widened v.tcb.reno (freed_by v.tcb by (queued_in v)) cx.instant rtt;
        timed_out = false;
        cubic = reno.counted v.tcb.reno (freed_by v.tcb by (queued_in v)) cx.instant;
      })
      (λ (r : RenoValue). (r.timed_out ≡ true) ⊎ (length (drop (freed_by v.tcb by (queued_in v)) v.queued.queue) < queued_in v))
      (λ _. inl out)
      (λ some. inr (shorter v.queued.queue by (one_if v.tcb.sender.syn_unacked) some)))
      (cond_both (freed_by v.tcb by (queued_in v) == 0) v.tcb.reno (record v.tcb.reno { timed_out = false; cubic = reno.stopped v.tcb.reno.cubic })
      (λ (r : RenoValue). (r.timed_out ≡ true) ⊎ (length (drop (freed_by v.tcb by (queued_in v)) v.queued.queue) < queued_in v))
      (λ _. inl out)
      (λ some. inr (shorter v.queued.queue by (one_if v.tcb.sender.syn_unacked) some)))

  -- the acknowledgement frees nothing, or bytes, as it does where the timeout is undone
  acked_stays : (by rtt : ℕ) (used : Bool)
      → ((window_by by rtt used).timed_out ≡ true) ⊎ (length (drop (freed_by v.tcb by (queued_in v)) v.queued.queue) < queued_in v)
  acked_stays by rtt used = either (is_needless v.tcb header by (queued_in v)) refl where
    either : (needless : Bool) → is_needless v.tcb header by (queued_in v) ≡ needless
        → ((window_if needless by rtt used).timed_out ≡ true) ⊎ (length (drop (freed_by v.tcb by (queued_in v)) v.queued.queue) < queued_in v)
    either true e =
        inr (shorter v.queued.queue by (one_if v.tcb.sender.syn_unacked) (needless_frees v.tcb header by (queued_in v) e))
    either false e = taken_stays by rtt used

  counted_stays : (r : RenoValue) (count flight : ℕ) (sack begins again : Bool) → r.timed_out ≡ true →
      (reno_counted r sack count flight begins again).timed_out ≡ true
  counted_stays r count flight sack begins again e =
      counted_both (λ (x : RenoValue). x.timed_out ≡ true) r sack begins again count flight (reduced_stays r flight e)
      (cond_both r.timed_out r
      (record r {
        ssthresh = reno.lowered r (min flight r.cwnd);
        cwnd = min reno.most (reno.lowered r (min flight r.cwnd) + 3 * r.mss);
        recovers = true;
        cubic = reno.loss_at r.cubic r.cwnd;
      })
      (λ (x : RenoValue). x.timed_out ≡ true) (λ _. e) (λ _. e))
      (cond_both r.recovers (record r { cwnd = min reno.most (r.cwnd + r.mss) }) r (λ (x : RenoValue). x.timed_out ≡ true) (λ _. e) (λ _. e))
      e

  heeded_stays : (by rtt : ℕ) (used begins again : Bool)
      → ((reno_counted (window_by by rtt used) v.tcb.peer.sack (duplicates_after v.tcb header (length bytes) by)
      ((timed cx.instant header v by).tcb.sender.flight_size - by) begins again).timed_out ≡ true)
      ⊎ (length (drop (freed_by v.tcb by (queued_in v)) v.queued.queue) < queued_in v)
  heeded_stays by rtt used begins again =
      ⊎_elim
      (λ e.
      inl (counted_stays (window_by by rtt used) (duplicates_after v.tcb header (length bytes) by)
      ((timed cx.instant header v by).tcb.sender.flight_size - by) v.tcb.peer.sack begins again e))
      (λ less. inr less) (acked_stays by rtt used)

  abbrev heard : ℕ → ℕ
  heard by = srtt_after (timed cx.instant header v by).tcb by cx.instant

  abbrev used : ℕ → Bool
  used by = is_used (timed cx.instant header v by).tcb

  stays_received : IsInOrder (sending_of v) → Received cx ip header bytes StaysBy (unoffered v)
  stays_received p = record {
    stays = inl out;
    refuses = inl out;
    draws = stays_drawing _ (inl out);
    falls = λ _ _ falls. never_falls v h out p falls;
    ends = λ _ _ _. inl out;
    closes = λ by _ _. acked_stays by (heard by) (used by);
    taken = λ by _ _. stays_content _ (heeded_stays by (heard by) (used by) _ _);
    taken_window = λ by _ _. stays_content _ (heeded_stays by (heard by) (used by) _ _);
    news = λ by _ _. stays_drawing _ (acked_stays by (heard by) (used by));
    outside = stays_drawing _ (inl out);
    old = λ _. stays_content _ (inl out);
  }

  -- nor in SYN-SENT
  stays_opening : IsInOrder (sending_of v) → Opening cx ip header bytes StaysBy (unoffered v)
  stays_opening p = record {
    opens = λ at _. clash (sym out ∙ h.listens (ap is_listening at));
    refuses = inl out;
    ends = λ _. inl out;
    connects = λ at _. clash (sym (is_syn_unacked v p (ap (λ (s : State). is_opening s || is_answering s) at)) ∙ (h.window out).2);
    crosses = λ at _. clash (sym (is_syn_unacked v p (ap (λ (s : State). is_opening s || is_answering s) at)) ∙ (h.window out).2);
  }

  stays_arrival : IsInOrder (sending_of v) → StaysBy (arrives cx v ip header bytes)
  stays_arrival p = by_arrival cx ip header bytes StaysBy v (inl out) (λ _. stays_opening p) (λ _. stays_received p)

-- an offer keeps it
offers_on :
    (cx : ContextValue) (v : TcpValue) (h : IsHeld (control_of v.tcb)) (out : v.tcb.reno.timed_out ≡ true) → IsInOrder (sending_of v)
    → Rules cx v (λ (o : Offered TcpValue). o.socket.tcb.reno.timed_out ≡ true)
offers_on cx v h out p = record {
  nobody = λ _. out;
  time_wait = λ _. out;
  timeout = λ _. out;
  closed = λ _. out;
  reset = λ _ _ _. out;
  falls = λ _ _ falls. never_falls v h out p falls;
  over = λ _ _ _. out;
  backs = λ pair _ _ _. counts_first cx v pair (with_tcb (unoffered v) (backed_off_now (begun cx v))) backed;
  probes = λ pair _ _ _ _. counts_first cx v pair (with_tcb (unoffered v) (loss_probed (begun cx v))) probed;
  goes = λ pair _ _ _. counts_first cx v pair (with_tcb (unoffered v) (begun cx v)) out;
}
  where
    probed : (loss_probed (begun cx v)).reno.timed_out ≡ true
    probed =
        cond_both (probes_tail (begun cx v)) v.tcb.reno (reno.reduced v.tcb.reno v.tcb.sender.flight_size) (λ (r : RenoValue). r.timed_out ≡
        true) (λ _. out) (λ _. reduced_stays v.tcb.reno v.tcb.sender.flight_size out)

    backed : (backed_off_now (begun cx v)).reno.timed_out ≡ true
    backed =
        cond_both v.tcb.sender.syn_unacked v.tcb.reno (reno.timed_out v.tcb.reno v.tcb.sender.flight_size) (λ (r : RenoValue). r.timed_out ≡
        true) (λ _. out) (λ _. refl)

asked_reno : (b : Tcb) (now : ℤ) → b.reno.timed_out ≡ true → (asked b now).reno.timed_out ≡ true
asked_reno b now e =
    cond_both (is_over now b.timers.counts_from)
    (record b {
      sender = record b.sender { unanswered = one_more b.sender.unanswered };
      timers = record b.timers { counts_from = Some (timeout_from now b.round_trip) };
    })
    b (λ (c : Tcb). c.reno.timed_out ≡ true) (λ _. e) (λ _. e)

sent_reno : (kind : OfferKind) (b : Tcb) (o : OpenOffer) (queued : ℕ) → b.reno.timed_out ≡ true → (sent_as kind b o queued).reno.timed_out ≡ true
sent_reno Kind.Probe b o queued e = asked_reno (probed b (end_of b o) o.instant) o.instant e
sent_reno Kind.KeepAlive b o queued e = asked_reno b o.instant e
sent_reno other b o queued e = e

settled_reno : (offered : Option OpenOffer) (x : TcpValue) → x.tcb.reno.timed_out ≡ true → (sent_off offered x).tcb.reno.timed_out ≡ true
settled_reno None x e = e
settled_reno (Some o) x e = sent_reno o.kind (recorded x.tcb o (room_of x.received)) o (queued_in x) e

pub stays_out :
    (v : TcpValue) (it : Event) → IsInOrder (sending_of v) → IsHeld (control_of v.tcb) → renews it ≡ false → v.tcb.reno.timed_out ≡ true → StaysOut v it
stays_out v (Comes cx ip header bytes) p h not out = stays_arrival cx ip header bytes v h out p
stays_out v (Asked cx true) p h not out =
    inl (settled_reno (offer_of cx v).socket.offered (unoffered (offer_of cx v).socket)
    (by_rules cx v (λ (o : Offered TcpValue). o.socket.tcb.reno.timed_out ≡ true) (offers_on cx v h out p)))
stays_out v (Asked cx false) p h not out = inl (by_rules cx v (λ (o : Offered TcpValue). o.socket.tcb.reno.timed_out ≡ true) (offers_on cx v h out p))
stays_out v (Listens endpoint) p h not out = clash not
stays_out v (Connects cx remote local) p h not out = clash not
stays_out v (Sends bytes) p h not out =
    cond_both (takes_writes v.tcb.state) (sent_more v (enqueued (anchored v.queued) (take (min (length bytes) (length v.queued.free)) bytes))) (unoffered v)
    (λ (w : TcpValue). (w.tcb.reno.timed_out ≡ true) ⊎ (queued_in w < queued_in v)) (λ _. inl out) (λ _. inl out)
stays_out v (Reads count) p h not out = inl out
stays_out v Closes p h not out =
    cond_both (is_opening v.tcb.state) (ended (unoffered v)) (with_tcb (unoffered v) (record v.tcb { state = after_close v.tcb.state }))
    (λ (w : TcpValue). (w.tcb.reno.timed_out ≡ true) ⊎ (queued_in w < queued_in v)) (λ _. inl out) (λ _. inl out)
stays_out v Aborts p h not out =
    cond_both (is_time_wait v.tcb.state) (ended (unoffered v))
    (with_tcb (unoffered v) (record v.tcb { state = In.Closed; sender = record v.tcb.sender { reset_due = is_some v.tcb.names.pair } }))
    (λ (w : TcpValue). (w.tcb.reno.timed_out ≡ true) ⊎ (queued_in w < queued_in v)) (λ _. inl out) (λ _. inl out)
stays_out v (Sets setting) p h not out = at setting not where
  at : (setting : Setting) → renews (Sets setting) ≡ false → StaysOut v (Sets setting)
  at (Timeout duration) e = inl out
  at (KeepAlive interval) e = inl out
  at (AckDelay duration) e = inl out
  at (Nagle enabled) e = inl out
  at (HopLimit limit) e = inl out
  at (Timestamps generator) e = inl out
  at (Paused paused) e = inl out
  at (Retries limit) e = inl out
  at (MinRto duration) e = inl out
  at (FineTimer fine) e = inl out
  at (Congestion control) e = clash e
