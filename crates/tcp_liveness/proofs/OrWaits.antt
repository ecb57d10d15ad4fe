-- A side that starts over sends, whatever its windows are; or it sets the instant of a probe, if it waits for none yet, and waits for it.
use Rattle.std.proofs.Common.{◌≡◌, ◌⊎◌, inl, inr, ℕ, ◌+◌, ◌≤◌, ◌&&◌, ℤ, Bool, true, false}
use Rattle.std.proofs.Common.{if◌then◌else◌, Option, Some, None, is_none, is_some, refl, sym, ap, ◌∙◌, subst}
use Rattle.std.proofs.lemmas.Bool.{cond_both}
use Rattle.ip_wire.specs.Tcp.{header_len}
use Rattle.ip_wire.specs.TcpHeader.{TcpHeader}
use Rattle.tcp_refinement.specs.Context.{ContextValue}
use Rattle.tcp_refinement.specs.Offers.{Offered}
use Rattle.tcp_refinement.proofs.Tied.{if_so, if_not}
use Rattle.tcp_state.specs.Reno as reno
use Rattle.tcp_state.specs.Reno.{RenoValue}
use Rattle.tcp_invariants.specs.FourTuple.{FourTuple}
use Rattle.tcp_invariants.specs.Endpoints.{header_for}
use Rattle.tcp_invariants.specs.Moments.{is_due, is_over, timeout_from}
use Rattle.tcp_invariants.specs.OfferKind.{OfferKind}
use Rattle.tcp_invariants.specs.OfferKind.TheVariants as Kind
use Rattle.tcp_invariants.specs.OpenOffer.{OpenOffer}
use Rattle.tcp_invariants.specs.States.{may_send_data}
use Rattle.tcp_invariants.specs.Timing.{carries}
use Rattle.tcp_invariants.proofs.OfferCases.{FirstRules, begun, by_first, probing}
use Rattle.tcp_invariants.proofs.OrderSteps.{clash}
use Rattle.tcp_block.specs.declared.tcb.Tcb.{Tcb}
use Rattle.tcp_block.specs.LossRecovery.{loss_probe_deadline, loss_probed, loss_probed_by}
use Rattle.tcp_block.specs.Offers.{backed_off, first_rules, last_rules, offer_ack, offer_choice, offer_window_limited, offer_of, offer_segment}
use Rattle.tcp_block.specs.Offers.{offer_syn}
use Rattle.tcp_block.specs.Probing.{is_probe_unset, is_probing, probe_deadline, probe_started}
use Rattle.tcp_block.specs.Retries.{asked, one_more}
use Rattle.tcp_block.specs.Rules.{backed_off_now, has_payload, owes_syn, resend_choice, resends, payload_choice}
use Rattle.tcp_block.specs.Segments.{ack_segment, hop_limit_of, keep_alive_segment}
use Rattle.tcp_block.specs.Settled.{recorded, settled}
use Rattle.tcp_refinement.specs.Pair.Sides.{at}
use Rattle.tcp_block.specs.Value.{TcpValue, queued_in, room_of, unoffered, window_of, with_tcb}
use Rattle.tcp_refinement.specs.Pair.Values.{PairValue}
use Rattle.tcp_refinement.specs.declared.pair.event.PairEvent.TheVariants.{Offer}
use Rattle.tcp_refinement.specs.declared.pair.event.Side.{Side}
use Rattle.tcp_refinement.specs.declared.pair.event.Side.TheVariants.{A, B}
use Rattle.tcp_liveness.specs.StartsOver.{StartsOver}
use Rattle.tcp_liveness.specs.Arrivals.{is_synchronized}
use Rattle.tcp_liveness.specs.Exchange.{IsOpen}
use Rattle.tcp_liveness.specs.DelayedSegment.{sent_by}
use Rattle.tcp_liveness.specs.Pair.{context_of, left_in, mtu_of, socket_of}
use Rattle.tcp_liveness.specs.PutOff.{ProbesAt}
use Rattle.tcp_liveness.specs.Reached.{IsReached}
use Rattle.tcp_liveness.specs.Rounds.{takes}
use Rattle.tcp_liveness.proofs.AgainGoes.{survives}
use Rattle.tcp_liveness.proofs.CourseGoes.{Goes, offered_there}
use Rattle.tcp_liveness.proofs.Held.{goes_payload, held_goes, holds_back, set_probe}
use Rattle.tcp_liveness.proofs.LateExchange.{goes_last, goes_now}
use Rattle.tcp_liveness.proofs.Mirrored.{named_in}
use Rattle.tcp_liveness.proofs.OfItself.{sends_there}
use Rattle.tcp_liveness.proofs.Resent.{again_sent}
use Rattle.tcp_liveness.proofs.Resumes.{SendsOut, Starts, StartsWith, is_retransmitted, idles, no_probe, no_syn, ran_out, to_rules}
use Rattle.tcp_liveness.proofs.Wide.{reached_cwnd, reached_mss}

-- what an offer that isn't carried leaves, where the instant of a probe was `old`, and the timer is this one
pub record Waits (old timer : Option ℤ) (b : Tcb) : Type 0 where
  pub none : b.sender.flight_size ≡ 0
  pub timer_is : b.timers.retransmit_at ≡ timer
  pub some : is_some b.timers.probe_at ≡ true
  pub kept : (at : ℤ) → old ≡ Some at → b.timers.probe_at ≡ Some at

none_offered : {A : Type 0} → (k : OpenOffer) → None ≡ Some k → A
none_offered k e = absurd (cc)

one_offer : (mine k : OpenOffer) → Some mine ≡ Some k → mine ≡ k
one_offer mine k e = cc

-- it carries neither a SYN nor a part of the send queue
abbrev pub IsBare : Option OpenOffer → Type 0
IsBare o = (k : OpenOffer) → o ≡ Some k → carries k.kind ≡ false

module _ (cx : ContextValue) (v : TcpValue) (pair : FourTuple) (b : Tcb) (s : StartsWith cx v pair b)
    (probe : b.timers.probe_at ≡ v.tcb.timers.probe_at) (cwnd : 1 ≤ b.reno.cwnd) where
  abbrev w : TcpValue
  w = with_tcb (unoffered v) b

  abbrev c : Tcb
  c = probe_started cx.instant (queued_in v) b

  abbrev x : TcpValue
  x = probing cx w

  later : StartsWith cx v pair c
  later = record { sends = s.sends; syn = s.syn; none = s.none; owes = s.owes; mss = s.mss; tsval = s.tsval; again = s.again }

  -- The instant is set, and it wasn't due.
  pub record Left (o : Offered TcpValue) : Type 0 where
    pub waits : Waits v.tcb.timers.probe_at b.timers.retransmit_at (settled true o.socket).tcb
    pub early : (at : ℤ) → v.tcb.timers.probe_at ≡ Some at → is_due cx.instant (Some at) ≡ false
    pub held : is_probing b (queued_in v) ≡ true
    pub bare : IsBare o.socket.offered

  abbrev Out : Offered TcpValue → Type 0
  Out o = SendsOut cx v o ⊎ Left o

  -- one that is set already isn't set again
  started_kept : (at : ℤ) → v.tcb.timers.probe_at ≡ Some at → c.timers.probe_at ≡ Some at
  started_kept at e =
      cond_both (is_probe_unset b (queued_in v)) (Some (timeout_from cx.instant b.round_trip)) b.timers.probe_at (λ (timer : Option ℤ). timer ≡ Some at)
      (λ unset. clash (sym unset ∙ second (is_probing b (queued_in v)) (is_none b.timers.probe_at) (ap is_none (probe ∙ e)))) (λ _. probe ∙ e)
    where
      second : (x y : Bool) → y ≡ false → (x && y) ≡ false
      second true y f = f
      second false y f = refl

  module _ (no_more : resends b pair.addresses cx.ip_mtu v.queued ≡ false) (no_payload : has_payload b pair.addresses cx.ip_mtu v.queued ≡ false)
      (not_yet : is_due cx.instant (probe_deadline c (queued_in v)) ≡ false) where
    held : is_probing b (queued_in v) ≡ true
    held = holds_back cx v pair b s no_payload

    started : Waits v.tcb.timers.probe_at b.timers.retransmit_at c
    started = record { none = s.none; timer_is = refl; some = set_probe cx.instant (queued_in v) b held; kept = started_kept }

    early : (at : ℤ) → v.tcb.timers.probe_at ≡ Some at → is_due cx.instant (Some at) ≡ false
    early at e =
        sym (ap (is_due cx.instant) (started_kept at e))
        ∙ (sym (ap (λ (t : Bool). is_due cx.instant (if t then c.timers.probe_at else None)) held) ∙ not_yet)

    abbrev opened_by : OfferKind → TcpHeader → ℕ → ℕ → OpenOffer
    opened_by kind header offset len = record {
      kind = kind;
      instant = cx.instant;
      header = header_for pair.addresses (hop_limit_of x.tcb.settings.hop_limit) (header_len header + len);
      segment = header;
      offset = offset;
      len = len;
    }

    bare_of : (kind : OfferKind) (header : TcpHeader) (offset len : ℕ) → carries kind ≡ false →
        IsBare (offer_segment kind cx x pair header offset len).socket.offered
    bare_of kind header offset len bare k e = ap (λ (o : OpenOffer). carries o.kind) (sym (one_offer (opened_by kind header offset len) k e)) ∙ bare

    -- a question counts
    asked_waits : (y : Tcb) → Waits v.tcb.timers.probe_at b.timers.retransmit_at y → Waits v.tcb.timers.probe_at b.timers.retransmit_at (asked y cx.instant)
    asked_waits y h =
        cond_both (is_over cx.instant y.timers.counts_from)
        (record y {
          sender = record y.sender { unanswered = one_more y.sender.unanswered };
          timers = record y.timers { counts_from = Some (timeout_from cx.instant y.round_trip) };
        })
        y (Waits v.tcb.timers.probe_at b.timers.retransmit_at) (λ _. record { none = h.none; timer_is = h.timer_is; some = h.some; kept = h.kept })
        (λ _. h)

    as_recorded : (o : OpenOffer) → Waits v.tcb.timers.probe_at b.timers.retransmit_at (recorded c o (room_of v.received))
    as_recorded o = record { none = started.none; timer_is = started.timer_is; some = started.some; kept = started.kept }

    left_ack : (kind : OfferKind) → carries kind ≡ false →
        Waits v.tcb.timers.probe_at b.timers.retransmit_at (settled true (offer_ack kind cx x pair).socket).tcb → Left (offer_ack kind cx x pair)
    left_ack kind bare h = record { waits = h; early = early; held = held; bare = bare_of kind (ack_segment c pair cx.instant (window_of x)) 0 0 bare }

    not_sent : FirstRules cx pair Left w
    not_sent = record {
      syn = λ e. clash (sym e ∙ no_syn cx v pair b s);
      again = λ _ e. clash (sym e ∙ no_more);
      payload = λ _ e. clash (sym e ∙ no_payload);
      last = λ _.
          record {
            probe = λ due _. clash (sym due ∙ not_yet);
            window_limited = λ due _. clash (sym due ∙ not_yet);
            ack = λ _. left_ack Kind.Ack refl (as_recorded (opened_by Kind.Ack (ack_segment c pair cx.instant (window_of x)) 0 0));
            update = λ _ _. left_ack Kind.WindowUpdate refl (as_recorded (opened_by Kind.WindowUpdate (ack_segment c pair cx.instant (window_of x)) 0 0));
            keep_alive = λ _ _.
                let o = opened_by Kind.KeepAlive (keep_alive_segment c pair cx.instant (window_of x)) 0 1 in
                record {
                  waits = asked_waits (recorded c o (room_of v.received)) (as_recorded o);
                  early = early;
                  held = held;
                  bare = bare_of Kind.KeepAlive (keep_alive_segment c pair cx.instant (window_of x)) 0 1 refl;
                };
            quiet = λ _. record { waits = started; early = early; held = held; bare = λ k e. none_offered k e };
          };
    }

    not_sent_out : Left (first_rules cx w pair)
    not_sent_out = by_first cx pair Left w not_sent

  abbrev fast : Offered TcpValue
  fast = offer_choice Kind.FastRetransmission cx w pair (resend_choice b pair.addresses cx.ip_mtu v.queued)

  abbrev plain : Offered TcpValue
  plain = offer_choice Kind.Payload cx w pair (payload_choice b pair.addresses cx.ip_mtu v.queued)

  abbrev last : Offered TcpValue
  last = last_rules cx x pair

  abbrev payload_first : Offered TcpValue
  payload_first = if has_payload b pair.addresses cx.ip_mtu v.queued then plain else last

  abbrev again_first : Offered TcpValue
  again_first = if resends b pair.addresses cx.ip_mtu v.queued then fast else payload_first

  rules_are : first_rules cx w pair ≡ again_first
  rules_are = if_not (owes_syn b) (offer_syn cx w pair) again_first (no_syn cx v pair b s)

  -- a probe is due
  probe_is : is_due cx.instant (probe_deadline c (queued_in v)) ≡ true → SendsOut cx v last
  probe_is due =
      subst (SendsOut cx v) (sym (if_so (is_due cx.instant (probe_deadline c (queued_in v))) (offer_window_limited cx x pair) _ due))
      (held_goes cx v pair c later (probes (is_probing c (queued_in v)) refl) cwnd)
    where
      probes : (t : Bool) → is_probing c (queued_in v) ≡ t → t ≡ true
      probes true e = refl
      probes false e = clash (sym due ∙ ap (λ (t : Bool). is_due cx.instant (if t then c.timers.probe_at else None)) e)

  pub either_out : Out (first_rules cx w pair)
  either_out = by_again (resends b pair.addresses cx.ip_mtu v.queued) refl where
    by_due :
        resends b pair.addresses cx.ip_mtu v.queued ≡ false → has_payload b pair.addresses cx.ip_mtu v.queued ≡ false → (t : Bool)
        → is_due cx.instant (probe_deadline c (queued_in v)) ≡ t → Out (first_rules cx w pair)
    by_due no_more no_payload true due =
        inl
        (subst (SendsOut cx v)
        (sym
        (rules_are
        ∙ (if_not (resends b pair.addresses cx.ip_mtu v.queued) fast payload_first no_more
        ∙ if_not (has_payload b pair.addresses cx.ip_mtu v.queued) plain last no_payload)))
        (probe_is due))
    by_due no_more no_payload false not_yet = inr (not_sent_out no_more no_payload not_yet)

    by_payload : resends b pair.addresses cx.ip_mtu v.queued ≡ false → (t : Bool) → has_payload b pair.addresses cx.ip_mtu v.queued ≡ t → Out (first_rules cx w pair)
    by_payload no_more true e =
        inl
        (subst (SendsOut cx v)
        (sym
        (rules_are
        ∙ (if_not (resends b pair.addresses cx.ip_mtu v.queued) fast payload_first no_more
        ∙ if_so (has_payload b pair.addresses cx.ip_mtu v.queued) plain last e)))
        (goes_payload cx v pair b s e))
    by_payload no_more false e = by_due no_more e (is_due cx.instant (probe_deadline c (queued_in v))) refl

    by_again : (t : Bool) → resends b pair.addresses cx.ip_mtu v.queued ≡ t → Out (first_rules cx w pair)
    by_again true e =
        inl
        (subst (SendsOut cx v) (sym (rules_are ∙ if_so (resends b pair.addresses cx.ip_mtu v.queued) fast payload_first e))
        (is_retransmitted cx v pair b s (s.again e)))
    by_again false e = by_payload e (has_payload b pair.addresses cx.ip_mtu v.queued) refl

-- A SOCKET

-- what an offer leaves that isn't sent: no timer, if it had run out, or else the same; then a window holds the payload back
pub record WaitsThen (cx : ContextValue) (v : TcpValue) (o : Offered TcpValue) : Type 0 where
  pub timer : Option ℤ
  pub waits : Waits v.tcb.timers.probe_at timer (settled true o.socket).tcb
  pub out : is_due cx.instant v.tcb.timers.retransmit_at ≡ true → timer ≡ None
  pub runs : is_due cx.instant v.tcb.timers.retransmit_at ≡ false → (timer ≡ v.tcb.timers.retransmit_at) × (is_probing v.tcb (queued_in v) ≡ true)
  pub early : (at : ℤ) → ProbesAt at v → is_due cx.instant (Some at) ≡ false
  pub bare : IsBare o.socket.offered

module _ (cx : ContextValue) (v : TcpValue) (pair : FourTuple) (named : v.tcb.names.pair ≡ Some pair) (m : Starts cx v)
    (sends : may_send_data v.tcb.state ≡ true) (sent : resends v.tcb pair.addresses cx.ip_mtu v.queued ≡ true → 1 ≤ v.tcb.sender.snd_max)
    (cwnd : 1 ≤ v.tcb.reno.cwnd) (mss : 1 ≤ v.tcb.reno.mss) where
  abbrev Then : Offered TcpValue → Type 0
  Then o = SendsOut cx v o ⊎ WaitsThen cx v o

  abbrev gone : Tcb
  gone = backed_off_now (begun cx v)

  one_left : 1 ≤ gone.reno.cwnd
  one_left =
      subst (λ (r : RenoValue). 1 ≤ r.cwnd)
      (sym (if_not v.tcb.sender.syn_unacked v.tcb.reno (reno.timed_out v.tcb.reno v.tcb.sender.flight_size) m.own.acknowledged)) mss

  by_out : is_due cx.instant v.tcb.timers.retransmit_at ≡ true → Then (first_rules cx (with_tcb (unoffered v) gone) pair)
  by_out due =
      by (either_out cx v pair gone (ran_out cx v pair named m sends sent due) refl one_left) where
        by : Out cx v pair gone (ran_out cx v pair named m sends sent due) refl one_left (first_rules cx (with_tcb (unoffered v) gone) pair) →
            Then (first_rules cx (with_tcb (unoffered v) gone) pair)
        by (inl it) = inl it
        by (inr it) =
            inr
            (record {
              timer = None;
              waits = it.waits;
              out = λ _. refl;
              runs = λ not. clash (sym due ∙ not);
              early = it.early;
              bare = it.bare;
            })

  by_idle : is_due cx.instant v.tcb.timers.retransmit_at ≡ false → v.tcb.sender.flight_size ≡ 0 →
      Then (first_rules cx (with_tcb (unoffered v) (begun cx v)) pair)
  by_idle not none =
      by (either_out cx v pair (begun cx v) (idles cx v pair named m sends sent not none) refl cwnd) where
        by : Out cx v pair (begun cx v) (idles cx v pair named m sends sent not none) refl cwnd (first_rules cx (with_tcb (unoffered v) (begun cx v)) pair) →
            Then (first_rules cx (with_tcb (unoffered v) (begun cx v)) pair)
        by (inl it) = inl it
        by (inr it) =
            inr
            (record {
              timer = v.tcb.timers.retransmit_at;
              waits = it.waits;
              out = λ due. clash (sym due ∙ not);
              runs = λ _. (refl, it.held);
              early = it.early;
              bare = it.bare;
            })

  pub sends_or_waits : Then (offer_of cx v)
  sends_or_waits =
      subst Then (sym (to_rules cx v pair named m sends sent)) (at (is_due cx.instant v.tcb.timers.retransmit_at) refl)
    where
      at : (due : Bool) → is_due cx.instant v.tcb.timers.retransmit_at ≡ due →
          Then (first_rules cx (with_tcb (unoffered v) (backed_off cx.instant (begun cx v))) pair)
      at true e =
          subst (λ (b : Tcb). Then (first_rules cx (with_tcb (unoffered v) b) pair))
          (sym (if_so (is_due cx.instant v.tcb.timers.retransmit_at) (backed_off_now (begun cx v)) (loss_probed_by cx.instant (begun cx v)) e)) (by_out e)
      at false e = by m.over where
        by : (v.tcb.sender.flight_size ≡ 0) ⊎ (is_due cx.instant v.tcb.timers.retransmit_at ≡ true) →
            Then (first_rules cx (with_tcb (unoffered v) (backed_off cx.instant (begun cx v))) pair)
        by (inr out) = clash (sym out ∙ e)
        by (inl idle) =
            subst (λ (b : Tcb). Then (first_rules cx (with_tcb (unoffered v) b) pair))
            (sym
            (if_not (is_due cx.instant v.tcb.timers.retransmit_at) (backed_off_now (begun cx v)) (loss_probed_by cx.instant (begun cx v)) e
            ∙ if_not (is_due cx.instant (loss_probe_deadline (begun cx v))) (loss_probed (begun cx v)) (begun cx v)
            (no_probe cx v pair named m sends sent idle)))
            (by_idle e idle)

-- OF A PAIR

-- what is so when the side was asked, and didn't send
pub record WaitsIn (p : PairValue) (side : Side) (instant : ℤ) : Type 0 where
  pub timer : Option ℤ
  pub waits : Waits (socket_of p side).tcb.timers.probe_at timer (socket_of (takes p (Offer side instant true)) side).tcb
  pub out : is_due instant (socket_of p side).tcb.timers.retransmit_at ≡ true → timer ≡ None
  pub runs :
      is_due instant (socket_of p side).tcb.timers.retransmit_at ≡ false
      → (timer ≡ (socket_of p side).tcb.timers.retransmit_at) × (is_probing (socket_of p side).tcb (queued_in (socket_of p side)) ≡ true)
  pub early : (at : ℤ) → ProbesAt at (socket_of p side) → is_due instant (Some at) ≡ false

waits_in :
    (p : PairValue) (side : Side) (instant : ℤ)
    → WaitsThen (context_of p side instant) (socket_of p side) (offer_of (context_of p side instant) (socket_of p side)) → WaitsIn p side instant
waits_in p A instant w = record { timer = w.timer; waits = w.waits; out = w.out; runs = w.runs; early = w.early }
waits_in p B instant w = record { timer = w.timer; waits = w.waits; out = w.out; runs = w.runs; early = w.early }

pub goes_or_waits :
    (p : PairValue) (side : Side) (instant : ℤ) → IsReached p → IsOpen (socket_of p side).tcb → 1 ≤ left_in p side
    → StartsOver (context_of p side instant) (socket_of p side) → is_synchronized (socket_of (takes p (Offer side instant true)) side).tcb.state ≡ true
    → Goes p side (Offer side instant true) ⊎ (WaitsIn p side instant × IsBare (offer_of (context_of p side instant) (socket_of p side)).socket.offered)
goes_or_waits p side instant r mine owes over stays =
    by
    (sends_or_waits cx v named.0 named.1
    (record { own = mine; owes = owes; over = over; goes = survives cx v mine.synchronized named.0 named.1 (offered_there p side instant stays) })
    (sends_there p side r mine.synchronized mine.acknowledged owes) (again_sent p side r mine.acknowledged named.0.addresses (mtu_of p side) v.queued)
    (reached_cwnd p side r) (reached_mss p side r))
  where
    cx : ContextValue
    cx = context_of p side instant

    v : TcpValue
    v = socket_of p side

    named : (pair : FourTuple) × (v.tcb.names.pair ≡ Some pair)
    named = named_in p side r mine.synchronized

    by : SendsOut cx v (offer_of cx v) ⊎ WaitsThen cx v (offer_of cx v) →
        Goes p side (Offer side instant true) ⊎ (WaitsIn p side instant × IsBare (offer_of cx v).socket.offered)
    by (inl s) =
        inl
        (record {
          x = sent_by p side s.k;
          goes = goes_now p side instant s.k r mine over s.offered s.kind s.some;
          sent = goes_last p side instant s.k r mine over s.offered s.kind;
        })
    by (inr w) = inr (waits_in p side instant w, w.bare)
