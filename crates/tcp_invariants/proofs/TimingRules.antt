-- Which round trips are taken.
use Rattle.std.proofs.Common.{◌≡◌, ◌⊎◌, inl, inr, ⊎_elim, ℕ, ◌+◌, ◌-◌, ◌<◌, ◌≤◌, ◌==◌, ◌&&◌, nat_le, nat_lt, not, min, max, ℤ, Bool, true}
use Rattle.std.proofs.Common.{false, if◌then◌else◌, List, [], ◌∷◌, length, take, Option, Some, None, is_some, refl, sym, ap, ◌∙◌, subst, arith}
use Rattle.std.proofs.lemmas.Bool.{cond_both, eqb-true, leb-false, ltb-true}
use Rattle.std.specs.Prelude.{IfSome}
use Rattle.ip_wire.specs.Control.{control_len}
use Rattle.ip_wire.specs.IpRepr.{IpRepr}
use Rattle.ip_wire.specs.Seq.{distance_of}
use Rattle.ip_wire.specs.TcpHeader.{TcpHeader}
use Rattle.net_base.specs.Ring.{Ring, anchored, enqueued}
use Rattle.tcp_block.specs.Context.{ContextValue}
use Rattle.tcp_block.specs.BaseOffers.{Offered}
use Rattle.tcp_state.specs.Moments.{is_due, is_over, timeout_from}
use Rattle.tcp_state.specs.RoundTrip as round_trip
use Rattle.tcp_state.specs.RoundTrip.{RoundTripValue}
use Rattle.tcp_state.specs.States.{is_closed, is_listening, is_opening, is_answering, is_time_wait, sends_syn, may_send_data, takes_writes}
use Rattle.tcp_state.specs.States.{after_close}
use Rattle.tcp_state.specs.declared.endpoints.FourTuple.{FourTuple}
use Rattle.tcp_state.specs.declared.offer.OfferKind.{OfferKind}
use Rattle.tcp_state.specs.declared.offer.OfferKind.TheVariants as Kind
use Rattle.tcp_state.specs.declared.offer.OpenOffer.{OpenOffer}
use Rattle.tcp_state.specs.declared.round_trip.Sample.{Sample}
use Rattle.tcp_state.specs.declared.state.State.{State}
use Rattle.tcp_state.specs.declared.state.State.TheVariants as In
use Rattle.tcp_block.specs.Acknowledged.{state_after_ack, acks_local_syn, round_trip_after}
use Rattle.tcp_block.specs.Arrival.{arrives}
use Rattle.tcp_block.specs.TcbRules.{one_if}
use Rattle.tcp_block.specs.Calls.{listening, connected_by, four_tuple_for, sent_more}
use Rattle.tcp_block.specs.Offers.{offer_of, offer_choice, offer_syn, number_at}
use Rattle.tcp_block.specs.Opening.{took_syn}
use Rattle.tcp_block.specs.Probing.{is_window_small, is_probing, probe_deadline}
use Rattle.tcp_state.specs.Scoreboard.{first_missing}
use Rattle.tcp_block.specs.LossRecovery.{loss_probed}
use Rattle.tcp_block.specs.Retries.{asked, one_more}
use Rattle.tcp_block.specs.Rules.{backed_off_now, owes_syn, probe_choice, payload_choice, resend_choice, control_for}
use Rattle.tcp_block.specs.Settled.{settled, sent_off, sent_as, recorded, probed, end_of}
use Rattle.tcp_block.specs.Timeout.{timed_out}
use Rattle.tcp_block.specs.Value.{TcpValue, Arrived, with_tcb, unoffered, ended, new_socket, queued_in, room_of}
use Rattle.tcp_block.specs.declared.tcb.Tcb.{Tcb}
use Rattle.tcp_block.specs.Isn.{number_for}
use Rattle.tcp_block.specs.Timestamps.{tsecr_taken, rtt_of_tsecr, timed_by, timed_with}
use Rattle.tcp_block.specs.Undone.{undone}
use Rattle.tcp_block.proofs.Undone.{undone_cases}
use Rattle.tcp_invariants.specs.Events.{Event, Setting, after, led, set, is_past}
use Rattle.tcp_invariants.specs.Events.Event.{Comes, Asked, Listens, Connects, Sends, Reads, Closes, Aborts, Sets}
use Rattle.tcp_invariants.specs.Events.Setting.{Timeout, KeepAlive, AckDelay, Nagle, HopLimit, Timestamps, Paused, Retries, Congestion, MinRto, FineTimer}
use Rattle.tcp_invariants.specs.InOrder.{sending_of, IsInOrder}
use Rattle.tcp_invariants.specs.Timing.{Timing, timing_of, IsTimedRight, carries, start_of}
use Rattle.tcp_invariants.proofs.ArrivalCases.{timed, by_arrival, Received, Opening, Content, Drawing, acked_open}
use Rattle.tcp_invariants.proofs.CongestionRules.{fin_on, state_past, close_on, unnamed}
use Rattle.tcp_invariants.proofs.OfferCases.{Rules, FirstRules, LastRules, by_rules, begun, probing}
use Rattle.tcp_invariants.proofs.OrderSteps.{clash}
use Rattle.tcp_invariants.proofs.OrderRules.{event_order, new_order}

-- THE STEPS

nothing_sent : (snd_max : ℕ) → 0 ≤ snd_max
nothing_sent snd_max = omega arith

abbrev FlightSize : ℕ → Option Sample → Type 0
FlightSize flight sample = IfSome sample (λ s. (1 ≤ s.ends) × (s.ends ≤ flight))

-- an acknowledgement takes the sample, or brings its end nearer
advanced_by : (fine : Bool) (r : RoundTripValue) (by flight : ℕ) (now : ℤ) (sample : Option Sample) → r.sample ≡ sample → FlightSize flight sample
    → FlightSize (flight - by) (round_trip.advanced_with fine r by now sample).sample
advanced_by fine r by flight now None e t = subst (FlightSize (flight - by)) (sym e) tt
advanced_by fine r by flight now (Some s) e t =
    cond_both (nat_le s.ends by) (round_trip.measured fine r (round_trip.clocked fine (round_trip.micros_between s.since now)))
    (record r { sample = Some (record s { ends = s.ends - by }) })
    (λ (x : RoundTripValue). FlightSize (flight - by) x.sample)
    (λ _. tt)
    (λ not. let less = leb-false s.ends by not in (some_left s.ends by less, nearer s.ends flight by t.1))
  where
    some_left : (a b : ℕ) → b < a → 1 ≤ a - b
    some_left a b e = omega arith

    nearer : (a b c : ℕ) → a ≤ b → a - c ≤ b - c
    nearer a b c e = omega arith

advanced_in : (fine : Bool) (r : RoundTripValue) (by flight : ℕ) (now : ℤ) → FlightSize flight r.sample →
    FlightSize (flight - by) (round_trip.advanced fine r by now).sample
advanced_in fine r by flight now t = advanced_by fine r by flight now r.sample refl t

acked_in : (b : Tcb) (by : ℕ) (now : ℤ) → FlightSize b.sender.flight_size b.round_trip.sample →
    FlightSize (b.sender.flight_size - by) (round_trip_after b by now).sample
acked_in b by now t =
    let risen = round_trip.advanced b.settings.fine_timer b.round_trip by now in
    let it = advanced_in b.settings.fine_timer b.round_trip by b.sender.flight_size now t in
    cond_both (acks_local_syn b by && b.sender.syn_lost) (round_trip.begun_late risen) risen
    (λ (x : RoundTripValue). FlightSize (b.sender.flight_size - by) x.sample) (λ _. it) (λ _. it)

-- an echo ends a timing, or leaves it
tsecr_in : (fine : Bool) (r : RoundTripValue) (by flight : ℕ) (tsecr : Option ℕ) → FlightSize flight r.sample → FlightSize flight (timed_by fine r by tsecr).sample
tsecr_in fine r by flight tsecr t =
    cond_both (by == 0) r (timed_with fine r by tsecr) (λ (x : RoundTripValue). FlightSize flight x.sample) (λ _. t) (λ _. at tsecr)
  where
    at : (tsecr : Option ℕ) → FlightSize flight (timed_with fine r by tsecr).sample
    at None = t
    at (Some millis) =
        cond_both (round_trip.counts_tsecr fine r.sample by) (round_trip.measured fine r (round_trip.tsecr_micros fine millis)) r
        (λ (x : RoundTripValue). FlightSize flight x.sample) (λ _. tt) (λ _. t)

past_listening : (state : State) → is_past state ≡ true → is_listening state ≡ false
past_listening In.Listen e = clash (sym e)
past_listening other e = refl

right : (t : Timing) → FlightSize t.flight_size t.sample → t.flight_size ≤ t.snd_max → is_listening t.state ≡ false → IsTimedRight t
right t timed sent not = record { timed = timed; sent = sent; listens = λ e. clash (sym e ∙ not) }

tsecr_right : (b : Tcb) (header : TcpHeader) (by : ℕ) (now : ℤ) → IsTimedRight (timing_of b) → is_listening b.state ≡ false
    → IsTimedRight (timing_of (tsecr_taken b header by now))
tsecr_right b header by now t not = right _ (tsecr_in b.settings.fine_timer b.round_trip by b.sender.flight_size (rtt_of_tsecr b header now) t.timed) t.sent not

-- a loss that is undone leaves what is timed in flight
undone_right : (b : Tcb) (header : TcpHeader) (by queued : ℕ) → IsTimedRight (timing_of b) →
    IsTimedRight (timing_of (undone b header by queued))
undone_right b header by queued t =
    undone_cases b header by queued (λ (c : Tcb). IsTimedRight (timing_of c)) t
    (λ undo _ _. record {
      timed = longer b.round_trip.sample t.timed;
      sent = upto b.sender.flight_size b.sender.snd_max (one_if b.sender.syn_unacked + queued) t.sent;
      listens = t.listens;
    })
  where
    longer : (sample : Option Sample) → FlightSize b.sender.flight_size sample
        → FlightSize (max b.sender.flight_size (min b.sender.snd_max (one_if b.sender.syn_unacked + queued))) sample
    longer None e = tt
    longer (Some s) e = (e.0, at_most s.ends b.sender.flight_size _ e.1) where
      at_most : (a b c : ℕ) → a ≤ b → a ≤ max b c
      at_most a b c e = omega arith

    upto : (flight snd_max all : ℕ) → flight ≤ snd_max → max flight (min snd_max all) ≤ snd_max
    upto flight snd_max all e = omega arith

less_sent : (flight snd_max by : ℕ) → flight ≤ snd_max → flight - by ≤ snd_max - by
less_sent flight snd_max by e = omega arith

acked_right : (b : Tcb) (by : ℕ) (now : ℤ) (state : State) → IsTimedRight (timing_of b) → is_listening state ≡ false
    → IsTimedRight (record { state = state; sample = (round_trip_after b by now).sample; flight_size = b.sender.flight_size - by; snd_max = b.sender.snd_max - by })
acked_right b by now state t not = right _ (acked_in b by now t.timed) (less_sent b.sender.flight_size b.sender.snd_max by t.sent) not

-- a segment goes that ends there, and SND.NXT reaches no less far
timing_in : (r : RoundTripValue) (flight snd_max end reach : ℕ) (now : ℤ) → end ≤ reach → FlightSize flight r.sample
    → FlightSize (max flight reach) (if nat_lt snd_max end then round_trip.timing r end now else r).sample
timing_in r flight snd_max end reach now near t =
    cond_both (nat_lt snd_max end) (round_trip.timing r end now) r (λ (x : RoundTripValue). FlightSize (max flight reach) x.sample)
    (λ past. begins r.sample refl t (ltb-true snd_max end past))
    (λ _. longer r.sample t)
  where
    longer : (sample : Option Sample) → FlightSize flight sample → FlightSize (max flight reach) sample
    longer None e = tt
    longer (Some s) e = (e.0, at_most s.ends flight reach e.1) where
      at_most : (a b c : ℕ) → a ≤ b → a ≤ max b c
      at_most a b c e = omega arith

    begins : (sample : Option Sample) → r.sample ≡ sample → FlightSize flight sample → snd_max < end →
        FlightSize (max flight reach) (round_trip.timing_with r end now sample).sample
    begins None e t past = (some snd_max end past, own flight end reach near) where
      some : (a b : ℕ) → a < b → 1 ≤ b
      some a b e = omega arith

      own : (a b c : ℕ) → b ≤ c → b ≤ max a c
      own a b c e = omega arith
    begins (Some s) e t past = subst (FlightSize (max flight reach)) (sym e) (longer (Some s) t)

larger_sent : (flight snd_max end reach : ℕ) → flight ≤ snd_max → reach ≤ max snd_max end → max flight reach ≤ max snd_max end
larger_sent flight snd_max end reach e f = omega arith

-- past what is held SND.NXT lies past the segment, and no further than what was sent
reach_low : (end missing snd_max all : ℕ) → end ≤ max end (min missing (min snd_max all))
reach_low end missing snd_max all = omega arith

reach_high : (end missing snd_max all : ℕ) → max end (min missing (min snd_max all)) ≤ max snd_max end
reach_high end missing snd_max all = omega arith

-- SND.NXT moves after what is held there
skipped_right : (state : State) (sample : Option Sample) (flight snd_max missing all : ℕ)
    → IsTimedRight (record { state = state; sample = sample; flight_size = flight; snd_max = snd_max })
    → IsTimedRight (record { state = state; sample = sample; flight_size = if flight == 0 then 0 else max flight (min missing (min snd_max all)); snd_max = snd_max })
skipped_right state sample flight snd_max missing all t = record {
  timed =
      cond_both (flight == 0) 0 (max flight (min missing (min snd_max all))) (λ (n : ℕ). FlightSize n sample)
      (λ none. subst (λ (n : ℕ). FlightSize n sample) (eqb-true flight 0 none) t.timed) (λ _. longer sample t.timed);
  sent =
      cond_both (flight == 0) 0 (max flight (min missing (min snd_max all))) (λ (n : ℕ). n ≤ snd_max) (λ _. nothing_sent snd_max)
      (λ _. upto flight missing snd_max all t.sent);
  listens = t.listens;
}
  where
    longer : (s : Option Sample) → FlightSize flight s → FlightSize (max flight (min missing (min snd_max all))) s
    longer None e = tt
    longer (Some s) e = (e.0, at_most s.ends flight (min missing (min snd_max all)) e.1) where
      at_most : (a b c : ℕ) → a ≤ b → a ≤ max b c
      at_most a b c e = omega arith

    upto : (flight missing snd_max all : ℕ) → flight ≤ snd_max → max flight (min missing (min snd_max all)) ≤ snd_max
    upto flight missing snd_max all e = omega arith

raised : (flight snd_max end : ℕ) → flight ≤ snd_max → flight ≤ max snd_max end
raised flight snd_max end e = omega arith

asked_right : (b : Tcb) (now : ℤ) → IsTimedRight (timing_of b) → IsTimedRight (timing_of (asked b now))
asked_right b now t =
    cond_both (is_over now b.timers.counts_from)
    (record b {
      sender = record b.sender { unanswered = one_more b.sender.unanswered };
      timers = record b.timers { counts_from = Some (timeout_from now b.round_trip) };
    })
    b (λ (c : Tcb). IsTimedRight (timing_of c)) (λ _. t) (λ _. t)

went_right : (r : RoundTripValue) (state : State) (flight snd_max end missing all : ℕ) (now : ℤ) → FlightSize flight r.sample → flight ≤ snd_max →
    (is_listening state ≡ true → r.sample ≡ None)
    → is_listening state ≡ false
    → IsTimedRight (record {
      state = state;
      sample = (if nat_lt snd_max end then round_trip.timing r end now else r).sample;
      flight_size = max flight (max end (min missing (min snd_max all)));
      snd_max =
          max snd_max end;
    })
went_right r state flight snd_max end missing all now t sent listens not =
    right _ (timing_in r flight snd_max end (max end (min missing (min snd_max all))) now (reach_low end missing snd_max all) t)
    (larger_sent flight snd_max end (max end (min missing (min snd_max all))) sent (reach_high end missing snd_max all)) not

sent_right : (kind : OfferKind) (b : Tcb) (o : OpenOffer) (queued : ℕ) → is_listening b.state ≡ false → IsTimedRight (timing_of b) →
    IsTimedRight (timing_of (sent_as kind b o queued))
sent_right Kind.Reset b o queued not t = right _ t.timed t.sent refl
sent_right Kind.Syn b o queued not t =
    went_right b.round_trip b.state b.sender.flight_size b.sender.snd_max (end_of b o) (first_missing b.loss.board.runs (end_of b o))
    (one_if b.sender.syn_unacked + queued) o.instant t.timed t.sent t.listens not
sent_right Kind.FastRetransmission b o queued not t =
    went_right (round_trip.untimed b.round_trip) b.state b.sender.flight_size b.sender.snd_max (end_of b o) (first_missing b.loss.board.runs (end_of b o))
    (one_if b.sender.syn_unacked + queued) o.instant tt t.sent (λ _. refl) not
sent_right Kind.Payload b o queued not t =
    went_right b.round_trip b.state b.sender.flight_size b.sender.snd_max (end_of b o) (first_missing b.loss.board.runs (end_of b o))
    (one_if b.sender.syn_unacked + queued) o.instant t.timed t.sent t.listens not
sent_right Kind.Probe b o queued not t =
    asked_right (probed b (end_of b o) o.instant) o.instant (right _ t.timed (raised b.sender.flight_size b.sender.snd_max (end_of b o) t.sent) not)
sent_right Kind.KeepAlive b o queued not t = asked_right b o.instant t
sent_right other b o queued not t = t

-- A SEGMENT COMES

module _ (cx : ContextValue) (ip : IpRepr) (header : TcpHeader) (bytes : List ℕ) where
  abbrev Right : Arrived → Type 0
  Right a = IsTimedRight (timing_of a.socket.tcb)

  right_content : (x : TcpValue) → IsTimedRight (timing_of x.tcb) → Content cx ip header bytes Right x
  right_content x t = record {
    plain = (λ _. t, t);
    fin = λ _ takes. (λ _. right _ t.timed t.sent (fin_on x.tcb.state takes), right _ t.timed t.sent (fin_on x.tcb.state takes));
    ordered = λ _ _ _ _. (λ _. t, t);
    ordered_fin = λ _ _ _ takes. (λ _. right _ t.timed t.sent (fin_on x.tcb.state takes), right _ t.timed t.sent (fin_on x.tcb.state takes));
    early = λ _ _ _ _. t;
  }

  right_drawing : (x : TcpValue) → IsTimedRight (timing_of x.tcb) → Drawing cx ip header bytes Right x
  right_drawing x t = record { answers = λ _. t; at_once = t; pauses = t }

  right_received : (u : TcpValue) → IsTimedRight (timing_of u.tcb) → is_past u.tcb.state ≡ true → Received cx ip header bytes Right u
  right_received u t past = record {
    stays = t;
    refuses = t;
    draws = right_drawing u t;
    falls = λ _ _ _. record { timed = tt; sent = nothing_sent _; listens = λ _. refl };
    ends = λ _ _ _. right _ t.timed t.sent refl;
    closes = λ by _ _. acked_right (timed cx.instant header u by).tcb by cx.instant In.Closed (heard_right by) refl;
    taken = λ by _ _. right_content _ (skipped_right _ _ _ _ _ _ (left_right by));
    taken_window = λ by _ _. right_content _ (skipped_right _ _ _ _ _ _ (left_right by));
    news = λ by _ _. right_drawing _ (left_right by);
    outside = right_drawing _ t;
    old = λ _. right_content _ t;
  }
    where
      heard_right : (by : ℕ) → IsTimedRight (timing_of (timed cx.instant header u by).tcb)
      heard_right by =
          tsecr_right (undone u.tcb header by (queued_in u)) header by cx.instant (undone_right u.tcb header by (queued_in u) t)
          (past_listening u.tcb.state past)

      left_right : (by : ℕ)
          → IsTimedRight (timing_of (acked_open (timed cx.instant header u by) by cx.instant).tcb)
      left_right by =
          acked_right (timed cx.instant header u by).tcb by cx.instant (state_after_ack u.tcb by (queued_in u)) (heard_right by) (state_past u by past)

  right_opening : (u : TcpValue) → IsTimedRight (timing_of u.tcb) → Opening cx ip header bytes Right u
  right_opening u t = record {
    opens = λ at _. record { timed = subst (FlightSize 0) (sym (t.listens (ap is_listening at))) tt; sent = nothing_sent _; listens = λ e. clash (sym e) };
    refuses = t;
    ends = λ _. right _ t.timed t.sent refl;
    connects = λ at _.
        let heard_syn = took_syn u.tcb header in
        acked_right (tsecr_taken heard_syn header 1 cx.instant) 1 cx.instant In.Established
        (tsecr_right heard_syn header 1 cx.instant (right _ t.timed t.sent (ap is_listening at)) (ap is_listening at)) refl;
    crosses = λ at _. right _ t.timed t.sent refl;
  }

  right_arrival : (v : TcpValue) → IsTimedRight (timing_of v.tcb) → Right (arrives cx v ip header bytes)
  right_arrival v t = by_arrival cx ip header bytes Right v t (λ _. right_opening (unoffered v) t) (λ past. right_received (unoffered v) t past)

-- IT IS ASKED

abbrev RightOffer : Offered TcpValue → Type 0
RightOffer o = IsTimedRight (timing_of o.socket.tcb) × ((is_listening o.socket.tcb.state ≡ false) ⊎ (o.socket.offered ≡ None))

module _ (cx : ContextValue) where
  right_last : (pair : FourTuple) (x : TcpValue) → IsTimedRight (timing_of x.tcb) → is_listening x.tcb.state ≡ false → LastRules cx pair RightOffer x
  right_last pair x t not = record {
    probe = λ _ _. (t, inl not);
    window_limited = λ _ _. (t, inl not);
    ack = λ _. (t, inl not);
    update = λ _ _. (t, inl not);
    keep_alive = λ _ _. (t, inl not);
    quiet = λ _. (t, inl not);
  }

  right_first : (pair : FourTuple) (w : TcpValue) → IsTimedRight (timing_of w.tcb) → is_listening w.tcb.state ≡ false → FirstRules cx pair RightOffer w
  right_first pair w t not =
      record { syn = λ _. (t, inl not); again = λ _ _. (t, inl not); payload = λ _ _. (t, inl not); last = λ _. right_last pair (probing cx w) t not }

  -- one that is between its endpoints, or silent
  right_rules : (v : TcpValue) → IsInOrder (sending_of v) → IsTimedRight (timing_of v.tcb) → Rules cx v RightOffer
  right_rules v p t = record {
    nobody = λ _. (t, inr refl);
    time_wait = λ _. (right _ t.timed t.sent refl, inr refl);
    timeout = λ _. (right _ t.timed t.sent refl, inr refl);
    closed = λ _. (t, inr refl);
    reset = λ _ closed _. (t, inl (not_listening v.tcb.state closed));
    falls = λ _ _ _. (record { timed = tt; sent = nothing_sent _; listens = λ _. refl }, inr refl);
    over = λ _ _ _. (right _ t.timed t.sent refl, inr refl);
    backs = λ pair named _ _.
        right_first pair (with_tcb (unoffered v) (backed_off_now (begun cx v))) (record {
          timed = tt;
          sent = nothing_sent v.tcb.sender.snd_max;
          listens =
              λ _. refl;
        })
        (unnamed v pair p named);
    probes = λ pair named _ _ _. right_first pair (with_tcb (unoffered v) (loss_probed (begun cx v))) t (unnamed v pair p named);
    goes = λ pair named _ _. right_first pair (with_tcb (unoffered v) (begun cx v)) t (unnamed v pair p named);
  }
    where
      not_listening : (state : State) → is_closed state ≡ true → is_listening state ≡ false
      not_listening In.Closed e = refl
      not_listening In.Listen e = clash (sym e)
      not_listening other e = refl

  right_offer : (v : TcpValue) → IsInOrder (sending_of v) → IsTimedRight (timing_of v.tcb) → RightOffer (offer_of cx v)
  right_offer v p t = by_rules cx v RightOffer (right_rules v p t)

settled_right :
    (offered : Option OpenOffer) (x : TcpValue) → (is_listening x.tcb.state ≡ false) ⊎ (offered ≡ None) → IsTimedRight (timing_of x.tcb)
    → IsTimedRight (timing_of (sent_off offered x).tcb)
settled_right None x which t = t
settled_right (Some o) x which t =
    ⊎_elim (λ not. sent_right o.kind (recorded x.tcb o (room_of x.received)) o (queued_in x) not t) (λ none. absurd (cc)) which

-- ITS USER CALLS

set_right : (v : TcpValue) (setting : Setting) → IsTimedRight (timing_of v.tcb) → IsTimedRight (timing_of (set v setting).tcb)
set_right v (Timeout duration) t = t
set_right v (KeepAlive interval) t = t
set_right v (AckDelay duration) t = t
set_right v (Nagle enabled) t = t
set_right v (HopLimit limit) t = t
set_right v (Timestamps generator) t = t
set_right v (Paused paused) t = t
set_right v (Retries limit) t = t
set_right v (MinRto duration) t = t
set_right v (FineTimer fine) t = t
set_right v (Congestion control) t = t

connected_right : (v : TcpValue) (names : Option FourTuple) (number : ℕ) → IsTimedRight (timing_of v.tcb) →
    IsTimedRight (timing_of (connected_by v names number).tcb)
connected_right v None number t = t
connected_right v (Some pair) number t = record { timed = tt; sent = nothing_sent _; listens = λ _. refl }

pub event_right : (v : TcpValue) (it : Event) → IsInOrder (sending_of v) → IsTimedRight (timing_of v.tcb) → IsTimedRight (timing_of (after v it).tcb)
event_right v (Comes cx ip header bytes) p t = right_arrival cx ip header bytes v t
event_right v (Asked cx true) p t =
    let it = right_offer cx v p t in settled_right (offer_of cx v).socket.offered (unoffered (offer_of cx v).socket) it.1 it.0
event_right v (Asked cx false) p t = (right_offer cx v p t).0
event_right v (Listens endpoint) p t =
    cond_both (is_closed v.tcb.state && not (endpoint.port == 0)) (listening v endpoint) (unoffered v) (λ (w : TcpValue). IsTimedRight (timing_of w.tcb))
    (λ _. record { timed = tt; sent = nothing_sent _; listens = λ _. refl }) (λ _. t)
event_right v (Connects cx remote local) p t =
    cond_both (is_closed v.tcb.state) (connected_by v (four_tuple_for cx remote local) (number_for cx (four_tuple_for cx remote local))) (unoffered v)
    (λ (w : TcpValue). IsTimedRight (timing_of w.tcb))
    (λ _. connected_right v (four_tuple_for cx remote local) (number_for cx (four_tuple_for cx remote local)) t) (λ _. t)
event_right v (Sends bytes) p t =
    cond_both (takes_writes v.tcb.state) (sent_more v (enqueued (anchored v.queued) (take (min (length bytes) (length v.queued.free)) bytes))) (unoffered v)
    (λ (w : TcpValue). IsTimedRight (timing_of w.tcb)) (λ _. t) (λ _. t)
event_right v (Reads count) p t = t
event_right v Closes p t =
    cond_both (is_opening v.tcb.state) (ended (unoffered v)) (with_tcb (unoffered v) (record v.tcb { state = after_close v.tcb.state }))
    (λ (w : TcpValue). IsTimedRight (timing_of w.tcb))
    (λ _. right _ t.timed t.sent refl) (λ _. right _ t.timed t.sent (close_on v.tcb.state))
event_right v Aborts p t =
    cond_both (is_time_wait v.tcb.state) (ended (unoffered v))
    (with_tcb (unoffered v) (record v.tcb { state = In.Closed; sender = record v.tcb.sender { reset_due = is_some v.tcb.names.pair } }))
    (λ (w : TcpValue). IsTimedRight (timing_of w.tcb)) (λ _. right _ t.timed t.sent refl) (λ _. right _ t.timed t.sent refl)
event_right v (Sets setting) p t = set_right v setting t

led_right : (v : TcpValue) (events : List Event) → IsInOrder (sending_of v) → IsTimedRight (timing_of v.tcb) → IsTimedRight (timing_of (led v events).tcb)
led_right v [] p t = t
led_right v (it ∷ more) p t = led_right (after v it) more (event_order v it p) (event_right v it p t)

pub led_timing : (capacity : ℕ) (queued : Ring ℕ) (events : List Event) → IsTimedRight (timing_of (led (new_socket capacity queued) events).tcb)
led_timing capacity queued events =
    led_right (new_socket capacity queued) events (new_order capacity queued) (record { timed = tt; sent = nothing_sent _; listens = λ _. refl })

-- A TIMING BEGINS

no_sample : {A : Type 0} (s : Sample) → None ≡ Some s → A
no_sample s e = absurd (cc)

-- where none ran, one runs only if the segment reaches past all
starts : (r : RoundTripValue) (snd_max end : ℕ) (now : ℤ) (s : Sample) → r.sample ≡ None →
    (if nat_lt snd_max end then round_trip.timing r end now else r).sample ≡ Some s → snd_max < end
starts r snd_max end now s none =
    cond_both (nat_lt snd_max end) (round_trip.timing r end now) r (λ (x : RoundTripValue). x.sample ≡ Some s → snd_max < end)
    (λ past _. ltb-true snd_max end past)
    (λ _ e. no_sample s (sym none ∙ e))

asked_sample : (b : Tcb) (now : ℤ) → (asked b now).round_trip.sample ≡ b.round_trip.sample
asked_sample b now =
    cond_both (is_over now b.timers.counts_from)
    (record b {
      sender = record b.sender { unanswered = one_more b.sender.unanswered };
      timers = record b.timers { counts_from = Some (timeout_from now b.round_trip) };
    })
    b (λ (c : Tcb). c.round_trip.sample ≡ b.round_trip.sample) (λ _. refl) (λ _. refl)

sent_starts : (kind : OfferKind) (b : Tcb) (o : OpenOffer) (queued : ℕ) (s : Sample) → b.round_trip.sample ≡ None →
    (sent_as kind b o queued).round_trip.sample ≡ Some s → b.sender.snd_max < end_of b o
sent_starts Kind.Reset b o queued s none e = no_sample s (sym none ∙ e)
sent_starts Kind.Syn b o queued s none e = starts b.round_trip b.sender.snd_max (end_of b o) o.instant s none e
sent_starts Kind.FastRetransmission b o queued s none e = starts (round_trip.untimed b.round_trip) b.sender.snd_max (end_of b o) o.instant s refl e
sent_starts Kind.Payload b o queued s none e = starts b.round_trip b.sender.snd_max (end_of b o) o.instant s none e
sent_starts Kind.Probe b o queued s none e = no_sample s (sym none ∙ (sym (asked_sample (probed b (end_of b o) o.instant) o.instant) ∙ e))
sent_starts Kind.KeepAlive b o queued s none e = no_sample s (sym none ∙ (sym (asked_sample b o.instant) ∙ e))
sent_starts other b o queued s none e = no_sample s (sym none ∙ e)

pub begins_past_all :
    (cx : ContextValue) (v : TcpValue) (o : OpenOffer) (s : Sample) → (offer_of cx v).socket.offered ≡ Some o →
    (offer_of cx v).socket.tcb.round_trip.sample ≡ None
    → (settled true (offer_of cx v).socket).tcb.round_trip.sample ≡ Some s → (offer_of cx v).socket.tcb.sender.snd_max < end_of (offer_of cx v).socket.tcb o
begins_past_all cx v o s offered none =
    subst (λ (x : Option OpenOffer). (sent_off x (unoffered (offer_of cx v).socket)).tcb.round_trip.sample ≡ Some s →
    (offer_of cx v).socket.tcb.sender.snd_max < end_of (offer_of cx v).socket.tcb o)
    (sym offered)
    (λ e. sent_starts o.kind (recorded (offer_of cx v).socket.tcb o (room_of (offer_of cx v).socket.received)) o (queued_in (offer_of cx v).socket) s none e)

-- WHAT GOES WHILE ONE RUNS

-- of an offer: what carries payload or the SYN begins at the timed position or past it, unless it ends the timing
abbrev GoesPast : TcpValue → Type 0
GoesPast x =
    (o : OpenOffer) (s : Sample) → x.offered ≡ Some o → carries o.kind ≡ true → x.tcb.round_trip.sample ≡ Some s
    → (settled true x).tcb.round_trip.sample ≡ Some s → s.ends ≤ start_of x.tcb o

same_offer : (a b : OpenOffer) → Some a ≡ Some b → a ≡ b
same_offer a b e = cc

module _ (cx : ContextValue) (pair : FourTuple) where
  abbrev Past : Offered TcpValue → Type 0
  Past o = GoesPast o.socket

  in_time : (flight : ℕ) (sample : Option Sample) (s : Sample) → sample ≡ Some s → FlightSize flight sample → (1 ≤ s.ends) × (s.ends ≤ flight)
  in_time flight sample s e t = subst (FlightSize flight) e t

  -- nothing is in flight, so nothing is timed
  none_timed : {A : Type 0} (x : TcpValue) (s : Sample) → IsTimedRight (timing_of x.tcb) → (x.tcb.sender.flight_size == 0) ≡ true →
      x.tcb.round_trip.sample ≡ Some s → A
  none_timed x s t none e =
      let it = in_time x.tcb.sender.flight_size x.tcb.round_trip.sample s e t.timed in
      let idle = eqb-true x.tcb.sender.flight_size 0 none in absurd (nothing s.ends x.tcb.sender.flight_size it.0 it.1 idle)
    where
      nothing : (a b : ℕ) → 1 ≤ a → a ≤ b → b ≡ 0 → ⊥
      nothing a b e f g = absurd (omega arith)

  silent_past : (x : TcpValue) → x.offered ≡ None → GoesPast x
  silent_past x none o s e = absurd (let clash : None ≡ Some o = sym none ∙ e in cc)

  unset : (test : Bool) (at : Option ℤ) → is_due cx.instant (if test then at else None) ≡ true → test ≡ true
  unset true at e = refl
  unset false at e = clash (sym e)

  parts : (a b : Bool) → (a && b) ≡ true → (a ≡ true) × (b ≡ true)
  parts true b e = (refl, e)
  parts false b e = clash (sym e)

  past_syn : (w : TcpValue) → IsTimedRight (timing_of w.tcb) → owes_syn w.tcb ≡ true → GoesPast (offer_syn cx w pair).socket
  past_syn w t owes o s _ _ e _ =
      none_timed w s t
      (parts w.tcb.sender.syn_unacked (w.tcb.sender.flight_size == 0)
      (parts (sends_syn w.tcb.state && not (is_answering w.tcb.state && w.tcb.settings.synack_paused))
      (w.tcb.sender.syn_unacked && (w.tcb.sender.flight_size == 0)) owes).1).1
      e

  past_probe : (x : TcpValue) → IsTimedRight (timing_of x.tcb) → is_due cx.instant (probe_deadline x.tcb (queued_in x)) ≡ true →
      GoesPast (offer_choice Kind.Probe cx x pair probe_choice).socket
  past_probe x t due o s _ _ e _ =
      none_timed x s t
      (parts (is_window_small x.tcb (queued_in x)) (x.tcb.sender.flight_size == 0)
      (parts (may_send_data x.tcb.state) (is_window_small x.tcb (queued_in x) && (x.tcb.sender.flight_size == 0))
      (unset (is_probing x.tcb (queued_in x)) x.tcb.timers.probe_at due)).1).1
      e

  -- payload goes from SND.NXT on
  past_payload : (x : TcpValue) → IsTimedRight (timing_of x.tcb) →
      GoesPast (offer_choice Kind.Payload cx x pair (payload_choice x.tcb pair.addresses cx.ip_mtu x.queued)).socket
  past_payload x t o s offered _ e _ =
      let it = in_time x.tcb.sender.flight_size x.tcb.round_trip.sample s e t.timed in
      subst (λ (k : OpenOffer). s.ends ≤ one_if x.tcb.sender.syn_unacked + k.offset) (same_offer _ o offered)
      (following s.ends x.tcb.sender.flight_size (one_if x.tcb.sender.syn_unacked) it.1)
    where
      following : (a flight syn : ℕ) → a ≤ flight → a ≤ syn + (flight - syn)
      following a flight syn e = omega arith

  -- the segment at SND.UNA ends the timing
  past_again : (x : TcpValue) → IsTimedRight (timing_of x.tcb) →
      GoesPast (offer_choice Kind.FastRetransmission cx x pair (resend_choice x.tcb pair.addresses cx.ip_mtu x.queued)).socket
  past_again x t o s offered _ e sent =
      let it = in_time x.tcb.sender.flight_size x.tcb.round_trip.sample s e t.timed in
      let c = resend_choice x.tcb pair.addresses cx.ip_mtu x.queued in
      let end = distance_of x.tcb.sender.una (number_at x.tcb c.offset) + (c.len + control_len (control_for c (queued_in x))) in
      absurd (again_ends (round_trip.untimed x.tcb.round_trip) x.tcb.sender.snd_max end s refl sent
      (reached s.ends x.tcb.sender.flight_size x.tcb.sender.snd_max it.1 t.sent))
    where
      reached : (a flight snd_max : ℕ) → a ≤ flight → flight ≤ snd_max → a ≤ snd_max
      reached a flight snd_max e f = omega arith

      too_far : (a snd_max end : ℕ) → a ≡ end → a ≤ snd_max → snd_max < end → ⊥
      too_far a snd_max end e f g = absurd (omega arith)

      timed_end : (a b : Sample) → Some a ≡ Some b → a.ends ≡ b.ends
      timed_end a b e = cc

      again_ends :
          (r : RoundTripValue) (snd_max end : ℕ) (s : Sample) → r.sample ≡ None → (if nat_lt snd_max end then round_trip.timing r end cx.instant else r).sample ≡
          Some s → s.ends ≤ snd_max → ⊥
      again_ends r snd_max end s none =
          cond_both (nat_lt snd_max end) (round_trip.timing r end cx.instant) r (λ (x : RoundTripValue). x.sample ≡ Some s → s.ends ≤ snd_max → ⊥)
          (λ past e small.
          (too_far s.ends snd_max end (sym (timed_end (record { ends = end; since = cx.instant }) s (sym (begun_by r.sample none) ∙ e))) small
          (ltb-true snd_max end past)))
          (λ _ e _. no_sample s (sym none ∙ e))
        where
          begun_by : (sample : Option Sample) → sample ≡ None →
              (round_trip.timing_with r end cx.instant sample).sample ≡ Some (record { ends = end; since = cx.instant })
          begun_by None e = refl
          begun_by (Some s) e = absurd (cc)

  past_last : (x : TcpValue) → x.offered ≡ None → IsTimedRight (timing_of x.tcb) → LastRules cx pair Past x
  past_last x none t = record {
    probe = λ due _. past_probe x t due;
    window_limited = λ _ _. past_payload x t;
    ack = λ _ o s offered carrying. clash (sym (ap (λ (k : OpenOffer). carries k.kind) (same_offer _ o offered) ∙ carrying));
    update = λ _ _ o s offered carrying. clash (sym (ap (λ (k : OpenOffer). carries k.kind) (same_offer _ o offered) ∙ carrying));
    keep_alive = λ _ _ o s offered carrying. clash (sym (ap (λ (k : OpenOffer). carries k.kind) (same_offer _ o offered) ∙ carrying));
    quiet = λ _. silent_past x none;
  }

  past_first : (w : TcpValue) → w.offered ≡ None → IsTimedRight (timing_of w.tcb) → FirstRules cx pair Past w
  past_first w none t = record {
    syn = λ owes. past_syn w t owes;
    again = λ _ _. past_again w t;
    payload = λ _ _. past_payload w t;
    last = λ _. past_last (probing cx w) none t;
  }

past_rules : (cx : ContextValue) (v : TcpValue) → IsTimedRight (timing_of v.tcb) → Rules cx v (λ (o : Offered TcpValue). GoesPast o.socket)
past_rules cx v t = record {
  nobody = λ _. silent_past_of (unoffered v) refl;
  time_wait = λ _. silent_past_of (ended (unoffered v)) refl;
  timeout = λ _. silent_past_of (with_tcb (unoffered v) (timed_out v.tcb)) refl;
  closed = λ _. silent_past_of (unoffered v) refl;
  reset = λ pair _ _ o s offered carrying. clash (sym (ap (λ (k : OpenOffer). carries k.kind) (same_offer _ o offered) ∙ carrying));
  falls = λ _ _ _. silent_past_of (listening (unoffered v) v.tcb.names.listen) refl;
  over = λ _ _ _. silent_past_of (with_tcb (unoffered v) (timed_out v.tcb)) refl;
  backs = λ pair _ _ _.
      past_first cx pair (with_tcb (unoffered v) (backed_off_now (begun cx v))) refl (record {
        timed = tt;
        sent = nothing_sent v.tcb.sender.snd_max;
        listens =
            λ _. refl;
      });
  probes = λ pair _ _ _ _. past_first cx pair (with_tcb (unoffered v) (loss_probed (begun cx v))) refl t;
  goes = λ pair _ _ _. past_first cx pair (with_tcb (unoffered v) (begun cx v)) refl t;
}
  where
    silent_past_of : (x : TcpValue) → x.offered ≡ None → GoesPast x
    silent_past_of x none o s e = absurd (let clash : None ≡ Some o = sym none ∙ e in cc)

pub goes_past_timed :
    (cx : ContextValue) (v : TcpValue) (o : OpenOffer) (s : Sample) → IsTimedRight (timing_of v.tcb) → (offer_of cx v).socket.offered ≡ Some o →
    carries o.kind ≡ true
    → (offer_of cx v).socket.tcb.round_trip.sample ≡ Some s → (settled true (offer_of cx v).socket).tcb.round_trip.sample ≡ Some s
    → s.ends ≤ start_of (offer_of cx v).socket.tcb o
goes_past_timed cx v o s t = by_rules cx v (λ (x : Offered TcpValue). GoesPast x.socket) (past_rules cx v t) o s
