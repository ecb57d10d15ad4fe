-- How TIME-WAIT ends.
use Rattle.std.proofs.Common.{◌≡◌, ℕ, ◌+◌, ◌==◌, ◌&&◌, ◌||◌, not, min, ℤ, Bool, true, false, if◌then◌else◌, List, length, take, Option, Some, None, is_some}
use Rattle.std.proofs.Common.{refl, sym, ap, ◌∙◌, subst}
use Rattle.std.proofs.lemmas.Bool.{cond_both}
use Rattle.ip_wire.specs.IpRepr.{IpRepr}
use Rattle.ip_wire.specs.TcpHeader.{TcpHeader}
use Rattle.net_base.specs.Ring.{anchored, enqueued}
use Rattle.tcp_block.specs.Context.{ContextValue}
use Rattle.tcp_block.specs.BaseOffers.{Offered, offered_as}
use Rattle.tcp_block.specs.Offer.TheVariants as Answer
use Rattle.tcp_state.specs.Moments.{is_due, is_over, timeout_from}
use Rattle.tcp_state.specs.States.{is_closed, is_listening, is_opening, is_answering, is_time_wait, sends_syn, may_send_data, accepts_data, takes_writes}
use Rattle.tcp_state.specs.States.{keeps_alive, after_ack, after_ack_of_fin, after_close}
use Rattle.tcp_state.specs.declared.endpoints.FourTuple.{FourTuple}
use Rattle.tcp_state.specs.declared.offer.OpenOffer.{OpenOffer}
use Rattle.tcp_state.specs.declared.state.State.{State}
use Rattle.tcp_state.specs.declared.state.State.TheVariants as In
use Rattle.tcp_block.specs.Acknowledged.{acks_fin, state_after_ack}
use Rattle.tcp_block.specs.Arrival.{arrives}
use Rattle.tcp_block.specs.Calls.{listening, connected_by, four_tuple_for, sent_more}
use Rattle.tcp_block.specs.Offers.{offer_of, offer_with, offer_reset, first_rules, backed_off, silent}
use Rattle.tcp_block.specs.Probing.{probe_deadline, is_probing, is_window_small}
use Rattle.tcp_block.specs.LossRecovery.{loss_probed}
use Rattle.tcp_block.specs.Retries.{asked, one_more, reaches, retries_of, is_last_timeout, is_last_probe, gives_up, given_up}
use Rattle.tcp_block.specs.Rules.{time_wait_end, keep_alive_deadline}
use Rattle.tcp_block.specs.Settled.{settled, sent_off}
use Rattle.tcp_block.specs.Timeout.{timeout_end, timeout_runs, waits_for_remote, end_by, timed_out}
use Rattle.tcp_block.specs.Value.{TcpValue, Arrived, with_tcb, unoffered, ended, queued_in}
use Rattle.tcp_block.specs.declared.tcb.Tcb.{Tcb}
use Rattle.tcp_block.specs.Isn.{number_for}
use Rattle.tcp_invariants.specs.Events.{Event, Setting, after, set}
use Rattle.tcp_invariants.specs.Events.Event.{Comes, Asked, Listens, Connects, Sends, Reads, Closes, Aborts, Sets}
use Rattle.tcp_invariants.specs.Events.Setting.{Timeout, KeepAlive, AckDelay, Nagle, HopLimit, Timestamps, Paused, Retries, Congestion, MinRto, FineTimer}
use Rattle.tcp_invariants.specs.InOrder.{has_all, sending_of, IsInOrder}
use Rattle.tcp_invariants.specs.TimeWait.{ends_wait}
use Rattle.tcp_invariants.proofs.ArrivalCases.{by_arrival, Received, Opening, Content, Drawing}
use Rattle.tcp_invariants.proofs.OfferCases.{Rules, FirstRules, LastRules, by_rules, begun, probing}
use Rattle.tcp_invariants.proofs.OrderSteps.{clash}

first_of_both : (a b : Bool) → (a && b) ≡ true → a ≡ true
first_of_both true b e = refl
first_of_both false b e = clash (sym e)

-- a test that asks for another state fails
elsewhere : {A : Type 0} (state : State) (test : State → Bool) (rest : Bool) → state ≡ In.TimeWait → test In.TimeWait ≡ false → (test state && rest) ≡ true → A
elsewhere state test rest at not e = clash (sym (first_of_both (test state) rest e) ∙ (ap test at ∙ not))

-- A SEGMENT COMES

module _ (cx : ContextValue) (ip : IpRepr) (header : TcpHeader) (bytes : List ℕ) where
  abbrev Waits : Arrived → Type 0
  Waits a = a.socket.tcb.state ≡ In.TimeWait

  waits_content : (x : TcpValue) → x.tcb.state ≡ In.TimeWait → Content cx ip header bytes Waits x
  waits_content x at = record {
    plain = (λ _. at, at);
    fin = λ _ takes. clash (sym takes ∙ ap accepts_data at);
    ordered = λ _ _ takes _. clash (sym takes ∙ ap accepts_data at);
    ordered_fin = λ _ _ _ takes. clash (sym takes ∙ ap accepts_data at);
    early = λ _ _ _ takes. clash (sym takes ∙ ap accepts_data at);
  }

  waits_drawing : (x : TcpValue) → x.tcb.state ≡ In.TimeWait → Drawing cx ip header bytes Waits x
  waits_drawing x at = record { answers = λ _. at; at_once = at; pauses = at }

  state_waits : (u : TcpValue) (by : ℕ) → u.tcb.state ≡ In.TimeWait → state_after_ack u.tcb by (queued_in u) ≡ In.TimeWait
  state_waits u by at =
      cond_both (acks_fin u.tcb by (queued_in u)) (after_ack_of_fin u.tcb.state) (after_ack u.tcb.state) (λ (s : State). s ≡
      In.TimeWait) (λ _. ap after_ack_of_fin at) (λ _. ap after_ack at)

  not_reset : (state : State) (same : Bool) → state ≡ In.TimeWait → (not (is_time_wait state) && same) ≡ true → ⊥
  not_reset state same at e = elsewhere state (λ (s : State). not (is_time_wait s)) same at refl e

  waits_received : (u : TcpValue) → u.tcb.state ≡ In.TimeWait → Received cx ip header bytes Waits u
  waits_received u at = record {
    stays = at;
    refuses = at;
    draws = waits_drawing u at;
    falls = λ _ takes _. absurd (not_reset u.tcb.state (u.tcb.receiver.next.0 == header.seq_number.0) at takes);
    ends = λ _ takes _. absurd (not_reset u.tcb.state (u.tcb.receiver.next.0 == header.seq_number.0) at takes);
    closes = λ by _ closed. clash (sym closed ∙ ap is_closed (state_waits u by at));
    taken = λ by _ _. waits_content _ (state_waits u by at);
    taken_window = λ by _ _. waits_content _ (state_waits u by at);
    news = λ by _ _. waits_drawing _ (state_waits u by at);
    outside = waits_drawing _ at;
    old = λ _. waits_content _ at;
  }

  waits_opening : (u : TcpValue) → u.tcb.state ≡ In.TimeWait → Opening cx ip header bytes Waits u
  waits_opening u at = record {
    opens = λ listens _. clash (sym (ap is_listening listens) ∙ ap is_listening at);
    refuses = at;
    ends = λ opening. clash (sym (ap is_opening opening) ∙ ap is_opening at);
    connects = λ opening _. clash (sym (ap is_opening opening) ∙ ap is_opening at);
    crosses = λ opening _. clash (sym (ap is_opening opening) ∙ ap is_opening at);
  }

  waits_arrival : (v : TcpValue) → v.tcb.state ≡ In.TimeWait → Waits (arrives cx v ip header bytes)
  waits_arrival v at = by_arrival cx ip header bytes Waits v at (λ _. waits_opening (unoffered v) at) (λ _. waits_received (unoffered v) at)

-- IT IS ASKED

asked_waits : (b : Tcb) (now : ℤ) → b.state ≡ In.TimeWait → (asked b now).state ≡ In.TimeWait
asked_waits b now at =
    cond_both (is_over now b.timers.counts_from)
    (record b {
      sender = record b.sender { unanswered = one_more b.sender.unanswered };
      timers = record b.timers { counts_from = Some (timeout_from now b.round_trip) };
    })
    b (λ (c : Tcb). c.state ≡ In.TimeWait) (λ _. at) (λ _. at)

module _ (cx : ContextValue) where
  abbrev WaitsOn : Offered TcpValue → Type 0
  WaitsOn o = (o.socket.tcb.state ≡ In.TimeWait) × ((settled true o.socket).tcb.state ≡ In.TimeWait)

  unset : (test : Bool) (at : Option ℤ) → is_due cx.instant (if test then at else None) ≡ true → test ≡ true
  unset true at e = refl
  unset false at e = clash (sym e)

  waits_last : (pair : FourTuple) (x : TcpValue) → x.offered ≡ None → x.tcb.state ≡ In.TimeWait → LastRules cx pair WaitsOn x
  waits_last pair x none at = record {
    probe = λ due _. elsewhere x.tcb.state may_send_data _ at refl (unset (is_probing x.tcb (queued_in x)) x.tcb.timers.probe_at due);
    window_limited = λ due _. elsewhere x.tcb.state may_send_data _ at refl (unset (is_probing x.tcb (queued_in x)) x.tcb.timers.probe_at due);
    ack = λ _. (at, at);
    update = λ _ worth. elsewhere x.tcb.state accepts_data _ at refl worth;
    keep_alive = λ _ due. elsewhere x.tcb.state keeps_alive _ at refl
        (unset (keeps_alive x.tcb.state && (x.tcb.sender.flight_size == 0)) x.tcb.settings.keep_alive_at due);
    quiet = λ _. (at, subst (λ (o : Option OpenOffer). (sent_off o (unoffered x)).tcb.state ≡ In.TimeWait) (sym none) at);
  }

  waits_first : (pair : FourTuple) (w : TcpValue) → w.offered ≡ None → w.tcb.state ≡ In.TimeWait → FirstRules cx pair WaitsOn w
  waits_first pair w none at = record {
    syn = λ owes.
        elsewhere w.tcb.state sends_syn (not (is_answering w.tcb.state && w.tcb.settings.synack_paused)) at refl
        (first_of_both (sends_syn w.tcb.state && not (is_answering w.tcb.state && w.tcb.settings.synack_paused))
        (w.tcb.sender.syn_unacked && (w.tcb.sender.flight_size == 0)) owes);
    again = λ _ again. elsewhere w.tcb.state may_send_data _ at refl again;
    payload = λ _ payload. elsewhere w.tcb.state may_send_data _ at refl payload;
    last = λ _. waits_last pair (probing cx w) none at;
  }

  -- neither the user timeout nor giving up
  no_timeout : {A : Type 0} (v : TcpValue) → v.tcb.state ≡ In.TimeWait → is_due cx.instant (timeout_end v.tcb (queued_in v)) ≡ true → A
  no_timeout v at due =
      let runs = unset (timeout_runs v.tcb (queued_in v)) (end_by v.tcb.timers.timeout_since v.tcb.settings.timeout) due in
      let rest = second (is_some v.tcb.settings.timeout)
      (not (is_closed v.tcb.state || is_time_wait v.tcb.state) && waits_for_remote v.tcb (queued_in v)) runs in
      elsewhere v.tcb.state (λ (s : State). not (is_closed s || is_time_wait s)) (waits_for_remote v.tcb (queued_in v)) at refl rest
    where
      second : (a b : Bool) → (a && b) ≡ true → b ≡ true
      second true b e = e
      second false b e = clash (sym e)

  no_giving : {A : Type 0} (v : TcpValue) → v.tcb.state ≡ In.TimeWait → v.tcb.timers.retransmit_at ≡ None →
      gives_up cx.instant v.tcb (queued_in v) ≡ true → A
  no_giving v at none gives = by_last (is_last_timeout cx.instant v.tcb) refl gives where
    no_timer : is_last_timeout cx.instant v.tcb ≡ true → true ≡ false
    no_timer last =
        sym (first_of_both (is_due cx.instant v.tcb.timers.retransmit_at) (reaches (retries_of v.tcb) (v.tcb.sender.timeouts + 1)) last) ∙
        ap (is_due cx.instant) none

    no_probe : is_due cx.instant (probe_deadline v.tcb (queued_in v)) ≡ false
    no_probe = ap (λ (s : State).
        is_due cx.instant (if may_send_data s && (is_window_small v.tcb (queued_in v) && (v.tcb.sender.flight_size == 0)) then v.tcb.timers.probe_at
        else None)) at

    no_keep_alive : is_due cx.instant (keep_alive_deadline v.tcb) ≡ false
    no_keep_alive = ap (λ (s : State). is_due cx.instant (if keeps_alive s && (v.tcb.sender.flight_size == 0) then v.tcb.settings.keep_alive_at else None)) at

    neither : (a b : Bool) → a ≡ false → b ≡ false → (a || b) ≡ false
    neither a b e f = ap (λ (x : Bool). x || b) e ∙ f

    by_last : {A : Type 0} (last : Bool) → is_last_timeout cx.instant v.tcb ≡ last → (last || is_last_probe cx.instant v.tcb (queued_in v)) ≡ true → A
    by_last true e _ = clash (no_timer e)
    by_last false e question =
        clash
        (sym
        (first_of_both (is_due cx.instant (probe_deadline v.tcb (queued_in v)) || is_due cx.instant (keep_alive_deadline v.tcb))
        (is_due cx.instant v.tcb.timers.counts_from && reaches v.tcb.settings.retries v.tcb.sender.unanswered) question)
        ∙ neither (is_due cx.instant (probe_deadline v.tcb (queued_in v))) (is_due cx.instant (keep_alive_deadline v.tcb)) no_probe no_keep_alive)

  waits_rules : (v : TcpValue) → IsInOrder (sending_of v) → v.tcb.state ≡ In.TimeWait → is_due cx.instant v.tcb.timers.time_wait_ends ≡ false →
      Rules cx v WaitsOn
  waits_rules v p at not = record {
    nobody = λ _. (at, at);
    time_wait = λ due. clash (sym due ∙ later);
    timeout = λ due. no_timeout v at due;
    closed = λ closed. clash (sym closed ∙ ap is_closed at);
    reset = λ _ closed _. clash (sym closed ∙ ap is_closed at);
    falls = λ _ gives _. no_giving v at none gives;
    over = λ _ gives _. no_giving v at none gives;
    backs = λ _ _ _ due. clash (sym due ∙ ap (is_due cx.instant) none);
    probes = λ pair _ _ _ _. waits_first pair (with_tcb (unoffered v) (loss_probed (begun cx v))) refl at;
    goes = λ pair _ _ _. waits_first pair (with_tcb (unoffered v) (begun cx v)) refl at;
  }
    where
      none : v.tcb.timers.retransmit_at ≡ None
      none = (p.acked (ap has_all at)).1

      later : is_due cx.instant (time_wait_end v.tcb) ≡ false
      later = ap (λ (s : State). is_due cx.instant (if is_time_wait s then v.tcb.timers.time_wait_ends else None)) at ∙ not

  waits_offer : (v : TcpValue) → IsInOrder (sending_of v) → v.tcb.state ≡ In.TimeWait → is_due cx.instant v.tcb.timers.time_wait_ends ≡ false →
      WaitsOn (offer_of cx v)
  waits_offer v p at not = by_rules cx v WaitsOn (waits_rules v p at not)

pub ends_by_instant :
    (cx : ContextValue) (v : TcpValue) (pair : FourTuple) → v.tcb.names.pair ≡ Some pair → v.tcb.state ≡ In.TimeWait
    → is_due cx.instant v.tcb.timers.time_wait_ends ≡ true → offer_of cx v ≡ offered_as (Answer.Silent true) (ended (unoffered v))
ends_by_instant cx v pair named at due =
    ap (λ (names : Option FourTuple). offer_with names cx (unoffered v)) named
    ∙ ap (λ (over : Bool). if over then silent true (ended (unoffered v)) else rest) now
  where
    now : is_due cx.instant (time_wait_end v.tcb) ≡ true
    now = ap (λ (s : State). is_due cx.instant (if is_time_wait s then v.tcb.timers.time_wait_ends else None)) at ∙ due

    -- what goes on where it isn't over
    rest : Offered TcpValue
    rest =
        if is_due cx.instant (timeout_end v.tcb (queued_in v)) then silent true (with_tcb (unoffered v) (timed_out v.tcb))
        else if is_closed v.tcb.state then (if v.tcb.sender.reset_due then offer_reset cx (unoffered v) pair else silent false (unoffered v))
        else if gives_up cx.instant v.tcb (queued_in v) then silent true (given_up (unoffered v))
        else first_rules cx (with_tcb (unoffered v) (backed_off cx.instant (begun cx v))) pair

-- ITS USER CALLS

set_waits : (v : TcpValue) (setting : Setting) → v.tcb.state ≡ In.TimeWait → (set v setting).tcb.state ≡ In.TimeWait
set_waits v (Timeout duration) at = at
set_waits v (KeepAlive interval) at = at
set_waits v (AckDelay duration) at = at
set_waits v (Nagle enabled) at = at
set_waits v (HopLimit limit) at = at
set_waits v (Timestamps generator) at = at
set_waits v (Paused paused) at = at
set_waits v (Retries limit) at = at
set_waits v (MinRto duration) at = at
set_waits v (FineTimer fine) at = at
set_waits v (Congestion control) at = at

pub stays_in_wait :
    (v : TcpValue) (it : Event) → IsInOrder (sending_of v) → v.tcb.state ≡ In.TimeWait → ends_wait v it ≡ false → (after v it).tcb.state ≡ In.TimeWait
stays_in_wait v (Comes cx ip header bytes) p at stays = waits_arrival cx ip header bytes v at
stays_in_wait v (Asked cx true) p at stays = (waits_offer cx v p at stays).1
stays_in_wait v (Asked cx false) p at stays = (waits_offer cx v p at stays).0
stays_in_wait v (Listens endpoint) p at stays =
    cond_both (is_closed v.tcb.state && not (endpoint.port == 0)) (listening v endpoint) (unoffered v) (λ (w : TcpValue). w.tcb.state ≡ In.TimeWait)
    (λ closed. elsewhere v.tcb.state is_closed _ at refl closed) (λ _. at)
stays_in_wait v (Connects cx remote local) p at stays =
    cond_both (is_closed v.tcb.state) (connected_by v (four_tuple_for cx remote local) (number_for cx (four_tuple_for cx remote local))) (unoffered v)
    (λ (w : TcpValue). w.tcb.state ≡ In.TimeWait)
    (λ closed. clash (sym closed ∙ ap is_closed at)) (λ _. at)
stays_in_wait v (Sends bytes) p at stays =
    cond_both (takes_writes v.tcb.state) (sent_more v (enqueued (anchored v.queued) (take (min (length bytes) (length v.queued.free)) bytes))) (unoffered v)
    (λ (w : TcpValue). w.tcb.state ≡ In.TimeWait) (λ _. at) (λ _. at)
stays_in_wait v (Reads count) p at stays = at
stays_in_wait v Closes p at stays =
    cond_both (is_opening v.tcb.state) (ended (unoffered v)) (with_tcb (unoffered v) (record v.tcb { state = after_close v.tcb.state }))
    (λ (w : TcpValue). w.tcb.state ≡ In.TimeWait)
    (λ opening. clash (sym opening ∙ ap is_opening at)) (λ _. ap after_close at)
stays_in_wait v Aborts p at stays = clash stays
stays_in_wait v (Sets setting) p at stays = set_waits v setting at
