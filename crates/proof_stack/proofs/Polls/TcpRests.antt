-- A TCP socket that was silent isn't due any more.
use Rattle.std.proofs.Common.{◌≡◌, ℕ, zero, suc, ◌≤◌, ◌==◌, min, Bool, true, false, ◌||◌, ◌&&◌, not, is_none, if◌then◌else◌, ℤ, pos, ◌+ℤ◌, ◌<ℤ◌}
use Rattle.std.proofs.Common.{int_lt, int_le, Option, Some, None, List, [], ◌∷◌, refl, sym, ap, ◌∙◌, subst, arith}
use Rattle.std.proofs.lemmas.Bool.{cond_both}
use Rattle.net_base.specs.Time.{last_instant}
use Rattle.tcp_state.specs.Offers.{IsBefore, Offered, offered_as}
use Rattle.tcp_state.specs.Context.{ContextValue}
use Rattle.tcp_state.specs.Offer.TheVariants as Answer
use Rattle.tcp_state.specs.PollAt.{PollAt}
use Rattle.tcp_state.specs.PollAt.TheVariants as At
use Rattle.tcp_state.specs.declared.endpoints.FourTuple.{FourTuple}
use Rattle.tcp_state.specs.declared.offer.OfferKind.TheVariants as Kind
use Rattle.tcp_state.specs.Moments.{is_due, later, timeout_from}
use Rattle.tcp_state.specs.States.{is_closed, may_send_data}
use Rattle.tcp_block.specs.declared.tcb.Tcb.{Tcb}
use Rattle.tcp_block.specs.declared.tcb.Settings.{Settings}
use Rattle.tcp_block.specs.Due.{wishes, instants, any, earlier_of, earliest, at_instant, poll_open, poll_with, poll_of}
use Rattle.tcp_block.specs.LossRecovery.{loss_probe_deadline, loss_probed, loss_probed_by}
use Rattle.tcp_block.specs.Offers.{silent, offer_syn, offer_choice, offer_ack, offer_keep_alive, offer_window_limited, offer_reset, first_rules, last_rules}
use Rattle.tcp_block.specs.Offers.{backed_off, offer_between, offer_with, offer_of}
use Rattle.tcp_block.specs.Probing.{probe_started, probe_deadline, is_probe_unset, is_probing}
use Rattle.tcp_block.specs.Quiet.{IsQuiet}
use Rattle.tcp_block.specs.Retries.{gives_up, given_up}
use Rattle.tcp_block.specs.Rules.{time_wait_end, owes_syn, resends, ack_deadline, has_payload, payload_choice, resend_choice, probe_choice, updates_window}
use Rattle.tcp_block.specs.Rules.{keep_alive_deadline, backed_off_now}
use Rattle.tcp_block.specs.Timeout.{timeout_end, timeout_started, timeout_runs, is_timeout_unset, timed_out, end_by}
use Rattle.tcp_block.specs.Value.{TcpValue, with_tcb, unoffered, ended, queued_in, free_in, room_of}
use Rattle.tcp_block.proofs.Later.{AreLater}

-- WHERE NO RULE APPLIES, THE MOMENT IS STILL TO COME

not_come : (now m : ℤ) → int_le m now ≡ false → now <ℤ m
not_come now m e = grind (arith)

both_before : (now : ℤ) (instant other : Option ℤ) → is_due now instant ≡ false → IsBefore now (at_instant other) →
    IsBefore now (at_instant (earlier_of instant other))
both_before now None other e h = h
both_before now (Some m) None e h = not_come now m e
both_before now (Some m) (Some o) e h = by (int_lt o m) where
  by : (test : Bool) → now <ℤ (if test then o else m)
  by true = h
  by false = not_come now m e

all_before : (now : ℤ) (ms : List (Option ℤ)) → AreLater now ms → IsBefore now (at_instant (earliest ms))
all_before now [] later = tt
all_before now (m ∷ ms) later = both_before now m (earliest ms) later.0 (all_before now ms later.1)

neither : (a b : Bool) → a ≡ false → b ≡ false → (a || b) ≡ false
neither true b e f = absurd (cc)
neither false b e f = f

if_not : {A : Type 0} (t : Bool) (x y : A) → t ≡ false → (if t then x else y) ≡ y
if_not t x y e = ap (λ (test : Bool). if test then x else y) e

quiet_before : (cx : ContextValue) (v : TcpValue) (pair : FourTuple) → IsQuiet cx v pair → IsBefore cx.instant (poll_open cx.ip_mtu v pair)
quiet_before cx v pair q =
    let none : any (wishes v.tcb pair.addresses cx.ip_mtu v.queued (queued_in v) (room_of v.received) (free_in v)) ≡ false =
    neither _ _ q.syn (neither _ _ q.again
    (neither _ _ q.payload (neither _ _ q.window_update (neither _ _ q.timeout_set (neither _ _ q.probe_set refl))))) in
    let later : AreLater cx.instant (instants v.tcb (queued_in v)) =
    (q.time_wait, (q.timeout, (q.retransmission, (q.loss_probe, (q.probe, (q.ack, (q.keep_alive, tt))))))) in
    subst (λ (at : PollAt). IsBefore cx.instant at)
    (sym (if_not (any (wishes v.tcb pair.addresses cx.ip_mtu v.queued (queued_in v) (room_of v.received) (free_in v))) At.Now
    (at_instant (earliest (instants v.tcb (queued_in v)))) none))
    (all_before cx.instant (instants v.tcb (queued_in v)) later)

-- WHAT WAS SET ISN'T UNSET, AND LIES AHEAD

set_now : (counts : Bool) (instant : ℤ) (old : Option ℤ) → (counts && is_none (if counts && is_none old then Some instant else old)) ≡ false
set_now true instant None = refl
set_now true instant (Some m) = refl
set_now false instant old = refl

ahead : (now : ℤ) (d : ℕ) → 1 ≤ d → int_le (now +ℤ pos d) now ≡ false
ahead now d some = grind (arith)

some_length : (n : ℕ) → (let o : Option ℕ = Some n in o ≡ Some 0 → ⊥) → 1 ≤ min n last_instant
some_length zero never = absurd (never refl)
some_length (suc n) never = omega arith

ends_later : (now : ℤ) (runs : Bool) (since : Option ℤ) (timeout : Option ℕ) → (timeout ≡ Some 0 → ⊥)
    → is_due now (if runs then end_by since timeout else None) ≡ false
    → is_due now (if runs then end_by (if runs && is_none since then Some now else since) timeout else None) ≡ false
ends_later now false since timeout patient e = refl
ends_later now true (Some m) timeout patient e = e
ends_later now true None None patient e = refl
ends_later now true None (Some n) patient e = ahead now (min n last_instant) (some_length n patient)

never_in : (now : ℤ) (sends counts : Bool) (instant : Option ℤ) → is_due now (if sends && (counts && false) then instant else None) ≡ false
never_in now true true instant = refl
never_in now true false instant = refl
never_in now false counts instant = refl

abbrev no_instant : Option ℤ
no_instant = None

never : (now : ℤ) (test : Bool) → is_due now (if test then no_instant else None) ≡ false
never now true = refl
never now false = refl

-- THE OFFER

module _ (cx : ContextValue) (pair : FourTuple) where
  abbrev Rests : Offered TcpValue → Type 0
  Rests o = o.answer ≡ Answer.Silent false → IsBefore cx.instant (poll_of cx.ip_mtu o.socket)

  told : (w : TcpValue) → Rests (silent true w)
  told w e = absurd (let is : Answer.Silent true ≡ Answer.Silent false = e in cc)

  packet : (w : TcpValue) → Rests (offered_as (Answer.Packet false) w)
  packet w e = absurd (let is : Answer.Packet false ≡ Answer.Silent false = e in cc)

  module _ (v : TcpValue) (named : v.tcb.names.pair ≡ Some pair) (patient : v.tcb.settings.timeout ≡ Some 0 → ⊥)
      (no_end : is_due cx.instant (time_wait_end v.tcb) ≡ false) (no_timeout : is_due cx.instant (timeout_end v.tcb (queued_in v)) ≡ false)
      (alive : is_closed v.tcb.state ≡ false) where
    abbrev started : Tcb
    started = timeout_started cx.instant (queued_in v) v.tcb

    abbrev retried : Tcb
    retried = backed_off cx.instant started

    abbrev set : Tcb
    set = probe_started cx.instant (queued_in v) retried

    -- a fact of the block that holds whichever timer ran out
    of_each : (P : Tcb → Type 0) → P (backed_off_now started) → P (loss_probed started)
        → (is_due cx.instant started.timers.retransmit_at ≡ false → is_due cx.instant (loss_probe_deadline started) ≡ false → P started) → P retried
    of_each P again probed neither =
        cond_both (is_due cx.instant started.timers.retransmit_at) (backed_off_now started) (loss_probed_by cx.instant started) P (λ _. again)
        (λ no. cond_both (is_due cx.instant (loss_probe_deadline started)) (loss_probed started) started P (λ _. probed) (neither no))

    same_runs : timeout_runs retried (queued_in v) ≡ timeout_runs v.tcb (queued_in v)
    same_runs = of_each (λ (b : Tcb). timeout_runs b (queued_in v) ≡ timeout_runs v.tcb (queued_in v)) refl refl (λ _ _. refl)

    same_since : retried.timers.timeout_since ≡ started.timers.timeout_since
    same_since = of_each (λ (b : Tcb). b.timers.timeout_since ≡ started.timers.timeout_since) refl refl (λ _ _. refl)

    same_settings : retried.settings ≡ v.tcb.settings
    same_settings = of_each (λ (b : Tcb). b.settings ≡ v.tcb.settings) refl refl (λ _ _. refl)

    same_names : retried.names.pair ≡ Some pair
    same_names = of_each (λ (b : Tcb). b.names.pair ≡ Some pair) named named (λ _ _. named)

    still_alive : is_closed retried.state ≡ false
    still_alive = of_each (λ (b : Tcb). is_closed b.state ≡ false) alive alive (λ _ _. alive)

    waits_on : is_due cx.instant (time_wait_end retried) ≡ false
    waits_on = of_each (λ (b : Tcb). is_due cx.instant (time_wait_end b) ≡ false) no_end no_end (λ _ _. no_end)

    no_timer : is_due cx.instant retried.timers.retransmit_at ≡ false
    no_timer =
        cond_both (is_due cx.instant started.timers.retransmit_at) (backed_off_now started) (loss_probed_by cx.instant started)
        (λ (b : Tcb). is_due cx.instant b.timers.retransmit_at ≡ false) (λ _. refl)
        (λ no. cond_both (is_due cx.instant (loss_probe_deadline started)) (loss_probed started) started
        (λ (b : Tcb). is_due cx.instant b.timers.retransmit_at ≡ false) (λ _. no) (λ _. no))

    no_loss_probe : is_due cx.instant (loss_probe_deadline retried) ≡ false
    no_loss_probe =
        of_each (λ (b : Tcb). is_due cx.instant (loss_probe_deadline b) ≡ false)
        (never_in cx.instant (may_send_data v.tcb.state) (not v.tcb.sender.syn_unacked) None)
        (never cx.instant (may_send_data v.tcb.state && (not v.tcb.sender.syn_unacked && not (v.tcb.sender.flight_size == 0))))
        (λ _ no. no)

    timeout_set : is_timeout_unset set (queued_in v) ≡ false
    timeout_set =
        ap (λ (runs : Bool). runs && is_none retried.timers.timeout_since) same_runs
        ∙ ap (λ (since : Option ℤ). timeout_runs v.tcb (queued_in v) && is_none since) same_since
        ∙ set_now (timeout_runs v.tcb (queued_in v)) cx.instant v.tcb.timers.timeout_since

    timeout_later : is_due cx.instant (timeout_end set (queued_in v)) ≡ false
    timeout_later =
        ap (λ (runs : Bool). is_due cx.instant (if runs then end_by retried.timers.timeout_since retried.settings.timeout else None)) same_runs
        ∙ ap (λ (since : Option ℤ). is_due cx.instant (if timeout_runs v.tcb (queued_in v) then end_by since retried.settings.timeout else None)) same_since
        ∙ ap (λ (s : Settings). is_due cx.instant
        (if timeout_runs v.tcb (queued_in v) then end_by started.timers.timeout_since s.timeout else None)) same_settings
        ∙ ends_later cx.instant (timeout_runs v.tcb (queued_in v)) v.tcb.timers.timeout_since v.tcb.settings.timeout patient no_timeout

    probe_set : is_probe_unset set (queued_in v) ≡ false
    probe_set = set_now (is_probing retried (queued_in v)) (timeout_from cx.instant retried.round_trip) retried.timers.probe_at

    is_open : poll_of cx.ip_mtu (with_tcb v set) ≡ poll_open cx.ip_mtu (with_tcb v set) pair
    is_open =
        ap (λ (names : Option FourTuple). poll_with names cx.ip_mtu (with_tcb v set)) same_names
        ∙ ap (λ (closed : Bool). if closed then (if set.sender.reset_due then At.Now else At.Ingress) else poll_open cx.ip_mtu
        (with_tcb v set) pair) still_alive

    module _ (syn : owes_syn retried ≡ false) (again : resends retried pair.addresses cx.ip_mtu v.queued ≡ false)
        (text : has_payload retried pair.addresses cx.ip_mtu v.queued ≡ false) where
      done : is_due cx.instant (probe_deadline set (queued_in v)) ≡ false → is_due cx.instant (ack_deadline set) ≡ false
          → updates_window set (room_of v.received) (free_in v) ≡ false → is_due cx.instant (keep_alive_deadline set) ≡ false
          → IsBefore cx.instant (poll_of cx.ip_mtu (with_tcb v set))
      done probe ack update keep_alive =
          subst (λ (at : PollAt). IsBefore cx.instant at) (sym is_open)
          (quiet_before cx (with_tcb v set) pair
          (record {
            time_wait = waits_on;
            timeout = timeout_later;
            timeout_set = timeout_set;
            retransmission = no_timer;
            loss_probe = no_loss_probe;
            syn = syn;
            again = again;
            payload = text;
            probe_set = probe_set;
            probe = probe;
            ack = ack;
            window_update = update;
            keep_alive = keep_alive;
          }))

      window_limited : (w : TcpValue) → Rests (offer_window_limited cx w pair)
      window_limited w =
          cond_both (w.tcb.peer.window == 0) (offer_choice Kind.Probe cx w pair probe_choice)
          (offer_choice Kind.Payload cx w pair (payload_choice w.tcb pair.addresses cx.ip_mtu w.queued)) Rests
          (λ _. packet (offer_choice Kind.Probe cx w pair probe_choice).socket)
          (λ _. packet (offer_choice Kind.Payload cx w pair (payload_choice w.tcb pair.addresses cx.ip_mtu w.queued)).socket)

      last_rest : Rests (last_rules cx (with_tcb v set) pair)
      last_rest =
          let w : TcpValue = with_tcb v set in
          cond_both (is_due cx.instant (probe_deadline set (queued_in v))) (offer_window_limited cx w pair)
          (if is_due cx.instant (ack_deadline set) then offer_ack Kind.Ack cx w pair
          else if updates_window set (room_of v.received) (free_in v) then offer_ack Kind.WindowUpdate cx w pair
          else if is_due cx.instant (keep_alive_deadline set) then offer_keep_alive cx w pair
          else silent false w) Rests
          (λ _. window_limited w)
          (λ probe. cond_both (is_due cx.instant (ack_deadline set)) (offer_ack Kind.Ack cx w pair)
          (if updates_window set (room_of v.received) (free_in v) then offer_ack Kind.WindowUpdate cx w pair
          else if is_due cx.instant (keep_alive_deadline set) then offer_keep_alive cx w pair
          else silent false w) Rests
          (λ _. packet (offer_ack Kind.Ack cx w pair).socket)
          (λ ack. cond_both (updates_window set (room_of v.received) (free_in v)) (offer_ack Kind.WindowUpdate cx w pair)
          (if is_due cx.instant (keep_alive_deadline set) then offer_keep_alive cx w pair else silent false w) Rests
          (λ _. packet (offer_ack Kind.WindowUpdate cx w pair).socket)
          (λ update. cond_both (is_due cx.instant (keep_alive_deadline set)) (offer_keep_alive cx w pair) (silent false w) Rests
          (λ _. packet (offer_keep_alive cx w pair).socket)
          (λ keep_alive _. done probe ack update keep_alive))))

    first_rest : Rests (first_rules cx (with_tcb v retried) pair)
    first_rest =
        let w : TcpValue = with_tcb v retried in
        cond_both (owes_syn retried) (offer_syn cx w pair)
        (if resends retried pair.addresses cx.ip_mtu v.queued
        then offer_choice Kind.FastRetransmission cx w pair (resend_choice retried pair.addresses cx.ip_mtu v.queued)
        else if has_payload retried pair.addresses cx.ip_mtu v.queued then offer_choice Kind.Payload cx w pair (payload_choice retried pair.addresses cx.ip_mtu v.queued)
        else last_rules cx (with_tcb v set) pair) Rests
        (λ _. packet (offer_syn cx w pair).socket)
        (λ syn. cond_both (resends retried pair.addresses cx.ip_mtu v.queued)
        (offer_choice Kind.FastRetransmission cx w pair (resend_choice retried pair.addresses cx.ip_mtu v.queued))
        (if has_payload retried pair.addresses cx.ip_mtu v.queued then offer_choice Kind.Payload cx w pair (payload_choice retried pair.addresses cx.ip_mtu v.queued)
        else last_rules cx (with_tcb v set) pair) Rests
        (λ _. packet (offer_choice Kind.FastRetransmission cx w pair (resend_choice retried pair.addresses cx.ip_mtu v.queued)).socket)
        (λ again. cond_both (has_payload retried pair.addresses cx.ip_mtu v.queued)
        (offer_choice Kind.Payload cx w pair (payload_choice retried pair.addresses cx.ip_mtu v.queued)) (last_rules cx (with_tcb v set) pair) Rests
        (λ _. packet (offer_choice Kind.Payload cx w pair (payload_choice retried pair.addresses cx.ip_mtu v.queued)).socket)
        (λ text. last_rest syn again text)))

  -- CLOSED has a reset to send, or nothing
  closed_rest : (v : TcpValue) → v.tcb.names.pair ≡ Some pair → is_closed v.tcb.state ≡ true
      → (due : Bool) → v.tcb.sender.reset_due ≡ due → Rests (if due then offer_reset cx v pair else silent false v)
  closed_rest v named closed true is = packet (offer_reset cx v pair).socket
  closed_rest v named closed false is =
      let none : poll_of cx.ip_mtu v ≡ At.Ingress =
      ap (λ (names : Option FourTuple). poll_with names cx.ip_mtu v) named
      ∙ ap (λ (shut : Bool). if shut then (if v.tcb.sender.reset_due then At.Now else At.Ingress) else poll_open cx.ip_mtu v pair) closed
      ∙ ap (λ (due : Bool). if due then At.Now else At.Ingress) is in
      λ _. subst (λ (at : PollAt). IsBefore cx.instant at) (sym none) tt

  between_rest : (v : TcpValue) → v.tcb.names.pair ≡ Some pair → (v.tcb.settings.timeout ≡ Some 0 → ⊥) → Rests (offer_between cx v pair)
  between_rest v named patient =
      let b : Tcb = v.tcb in
      cond_both (is_due cx.instant (time_wait_end v.tcb)) (silent true (ended v))
      (if is_due cx.instant (timeout_end v.tcb (queued_in v)) then silent true (with_tcb v (timed_out v.tcb))
      else if is_closed v.tcb.state then (if v.tcb.sender.reset_due then offer_reset cx v pair else silent false v)
      else if gives_up cx.instant v.tcb (queued_in v) then silent true (given_up v)
      else first_rules cx (with_tcb v (backed_off cx.instant (timeout_started cx.instant (queued_in v) v.tcb))) pair) Rests
      (λ _. told (ended v))
      (λ no_end. cond_both (is_due cx.instant (timeout_end v.tcb (queued_in v))) (silent true (with_tcb v (timed_out v.tcb)))
      (if is_closed v.tcb.state then (if v.tcb.sender.reset_due then offer_reset cx v pair else silent false v)
      else if gives_up cx.instant v.tcb (queued_in v) then silent true (given_up v)
      else first_rules cx (with_tcb v (backed_off cx.instant (timeout_started cx.instant (queued_in v) v.tcb))) pair) Rests
      (λ _. told (with_tcb v (timed_out v.tcb)))
      (λ no_timeout. cond_both (is_closed v.tcb.state) (if v.tcb.sender.reset_due then offer_reset cx v pair else silent false v)
      (if gives_up cx.instant v.tcb (queued_in v) then silent true (given_up v)
      else first_rules cx (with_tcb v (backed_off cx.instant (timeout_started cx.instant (queued_in v) v.tcb))) pair) Rests
      (λ closed. closed_rest v named closed v.tcb.sender.reset_due refl)
      (λ alive. cond_both (gives_up cx.instant v.tcb (queued_in v)) (silent true (given_up v))
      (first_rules cx (with_tcb v (backed_off cx.instant (timeout_started cx.instant (queued_in v) v.tcb))) pair) Rests
      (λ _. told (given_up v))
      (λ _. first_rest v named patient no_end no_timeout alive))))

with_rest : (names : Option FourTuple) (cx : ContextValue) (v : TcpValue) → v.tcb.names.pair ≡ names → (v.tcb.settings.timeout ≡ Some 0 → ⊥)
    → (offer_with names cx v).answer ≡ Answer.Silent false → IsBefore cx.instant (poll_of cx.ip_mtu (offer_with names cx v).socket)
with_rest None cx v named patient e =
    subst (λ (names : Option FourTuple). IsBefore cx.instant (poll_with names cx.ip_mtu v)) (sym named) tt
with_rest (Some pair) cx v named patient e = between_rest cx pair v named patient e

pub tcp_rests : (cx : ContextValue) (v : TcpValue) → (v.tcb.settings.timeout ≡ Some 0 → ⊥) → (offer_of cx v).answer ≡ Answer.Silent false
    → IsBefore cx.instant (poll_of cx.ip_mtu (offer_of cx v).socket)
tcp_rests cx v patient e = with_rest v.tcb.names.pair cx (unoffered v) refl patient e
