-- An offer that does nothing comes before the due instant.
use Rattle.std.proofs.Common.{◌≡◌, Bool, true, false, ◌||◌, ◌&&◌, not, ◌==◌, is_none, if◌then◌else◌, ℤ, ◌<ℤ◌, int_lt, int_le, Option, Some, None, List, [], ◌∷◌}
use Rattle.std.proofs.Common.{refl, sym, ap, ◌∙◌, subst, arith}
use Rattle.std.proofs.lemmas.Bool.{cond_both}
use Rattle.tcp_state.specs.Offers.{IsBefore, Offered, offered_as}
use Rattle.tcp_state.specs.Context.{ContextValue}
use Rattle.tcp_state.specs.Offer.TheVariants as Answer
use Rattle.tcp_state.specs.PollAt.{PollAt}
use Rattle.tcp_state.specs.PollAt.TheVariants as At
use Rattle.tcp_block.specs.declared.tcb.Tcb.{Tcb}
use Rattle.tcp_state.specs.declared.endpoints.FourTuple.{FourTuple}
use Rattle.tcp_state.specs.declared.offer.OfferKind.TheVariants as Kind
use Rattle.tcp_block.specs.Due.{wishes, instants, any, earlier_of, earliest, at_instant, poll_open, poll_between, poll_with, poll_of}
use Rattle.tcp_state.specs.Moments.{is_due, timeout_from}
use Rattle.tcp_block.specs.Offers.{silent, offer_syn, offer_choice, offer_ack, offer_keep_alive, offer_window_limited, offer_reset, first_rules, last_rules}
use Rattle.tcp_block.specs.Offers.{backed_off, offer_between, offer_with, offer_of}
use Rattle.tcp_block.specs.LossRecovery.{loss_deadline, loss_probe_deadline, loss_probed, loss_probed_by}
use Rattle.tcp_block.specs.Probing.{probe_started, probe_deadline, is_probe_unset, is_probing}
use Rattle.tcp_block.specs.Quiet.{IsQuiet}
use Rattle.tcp_block.proofs.Later.{AreLater}
use Rattle.tcp_block.specs.Retries.{gives_up, given_up}
use Rattle.tcp_block.specs.Rules.{time_wait_end, owes_syn, resends, ack_deadline, has_payload, payload_choice, resend_choice, probe_choice, updates_window}
use Rattle.tcp_block.specs.Rules.{keep_alive_deadline, backed_off_now}
use Rattle.tcp_block.specs.Settled.{settled}
use Rattle.tcp_state.specs.States.{is_closed, may_send_data}
use Rattle.tcp_block.specs.Timeout.{timeout_end, timeout_started, timeout_runs, is_timeout_unset, with_timeout_since, timed_out}
use Rattle.tcp_block.specs.Value.{TcpValue, with_tcb, unoffered, ended, queued_in, free_in, room_of}
use Rattle.tcp_block.proofs.Waits.{same_poll}

-- an answer that isn't silence, or a change that is told
abbrev IsSilent : Offered TcpValue → TcpValue → Type 0
IsSilent o v = o ≡ silent false v

told : (v w : TcpValue) → IsSilent (silent true w) v → ⊥
told v w e = let same = ap (λ (o : Offered TcpValue). o.answer) e in absurd (cc)

left : (v w : TcpValue) → IsSilent (silent false w) v → w ≡ v
left v w e = ap (λ (o : Offered TcpValue). o.socket) e

packet : (v w : TcpValue) → IsSilent (offered_as (Answer.Packet false) w) v → ⊥
packet v w e = let same = ap (λ (o : Offered TcpValue). o.answer) e in absurd (cc)

-- the tests of the last rules
record IsQuietLast (cx : ContextValue) (v : TcpValue) : Type 0 where
  probe : is_due cx.instant (probe_deadline v.tcb (queued_in v)) ≡ false
  ack : is_due cx.instant (ack_deadline v.tcb) ≡ false
  window_update : updates_window v.tcb (room_of v.received) (free_in v) ≡ false
  keep_alive : is_due cx.instant (keep_alive_deadline v.tcb) ≡ false

module _ (cx : ContextValue) (pair : FourTuple) (v : TcpValue) where
  window_limited : (w : TcpValue) → IsSilent (offer_window_limited cx w pair) v → ⊥
  window_limited w =
      cond_both (w.tcb.peer.window == 0) (offer_choice Kind.Probe cx w pair probe_choice)
      (offer_choice Kind.Payload cx w pair (payload_choice w.tcb pair.addresses cx.ip_mtu w.queued))
      (λ (o : Offered TcpValue). IsSilent o v → ⊥)
      (λ _ e. packet v (offer_choice Kind.Probe cx w pair probe_choice).socket e)
      (λ _ e. packet v (offer_choice Kind.Payload cx w pair (payload_choice w.tcb pair.addresses cx.ip_mtu w.queued)).socket e)

  idle_last : (w : TcpValue) → IsSilent (last_rules cx w pair) v → (w ≡ v) × IsQuietLast cx w
  idle_last w =
      cond_both (is_due cx.instant (probe_deadline w.tcb (queued_in w))) (offer_window_limited cx w pair)
      (if is_due cx.instant (ack_deadline w.tcb) then offer_ack Kind.Ack cx w pair
      else if updates_window w.tcb (room_of w.received) (free_in w) then offer_ack Kind.WindowUpdate cx w pair
      else if is_due cx.instant (keep_alive_deadline w.tcb) then offer_keep_alive cx w pair
      else silent false w)
      (λ (o : Offered TcpValue). IsSilent o v → (w ≡ v) × IsQuietLast cx w)
      (λ _ e. absurd (window_limited w e))
      (λ no_probe.
      cond_both (is_due cx.instant (ack_deadline w.tcb)) (offer_ack Kind.Ack cx w pair)
      (if updates_window w.tcb (room_of w.received) (free_in w) then offer_ack Kind.WindowUpdate cx w pair
      else if is_due cx.instant (keep_alive_deadline w.tcb) then offer_keep_alive cx w pair
      else silent false w)
      (λ (o : Offered TcpValue). IsSilent o v → (w ≡ v) × IsQuietLast cx w)
      (λ _ e. absurd (packet v (offer_ack Kind.Ack cx w pair).socket e))
      (λ no_ack.
      cond_both (updates_window w.tcb (room_of w.received) (free_in w)) (offer_ack Kind.WindowUpdate cx w pair)
      (if is_due cx.instant (keep_alive_deadline w.tcb) then offer_keep_alive cx w pair else silent false w)
      (λ (o : Offered TcpValue). IsSilent o v → (w ≡ v) × IsQuietLast cx w)
      (λ _ e. absurd (packet v (offer_ack Kind.WindowUpdate cx w pair).socket e))
      (λ no_update.
      cond_both (is_due cx.instant (keep_alive_deadline w.tcb)) (offer_keep_alive cx w pair) (silent false w)
      (λ (o : Offered TcpValue). IsSilent o v → (w ≡ v) × IsQuietLast cx w)
      (λ _ e. absurd (packet v (offer_keep_alive cx w pair).socket e))
      (λ no_keep_alive e. (left v w e, record { probe = no_probe; ack = no_ack; window_update = no_update; keep_alive = no_keep_alive })))))

  -- the tests of the first rules, and what is left to the last ones
  record IsQuietFirst (w : TcpValue) : Type 0 where
    syn : owes_syn w.tcb ≡ false
    again : resends w.tcb pair.addresses cx.ip_mtu w.queued ≡ false
    payload : has_payload w.tcb pair.addresses cx.ip_mtu w.queued ≡ false
    same : with_tcb w (probe_started cx.instant (queued_in w) w.tcb) ≡ v
    last : IsQuietLast cx (with_tcb w (probe_started cx.instant (queued_in w) w.tcb))

  idle_first : (w : TcpValue) → IsSilent (first_rules cx w pair) v → IsQuietFirst w
  idle_first w =
      cond_both (owes_syn w.tcb) (offer_syn cx w pair)
      (if resends w.tcb pair.addresses cx.ip_mtu w.queued
      then offer_choice Kind.FastRetransmission cx w pair (resend_choice w.tcb pair.addresses cx.ip_mtu w.queued)
      else if has_payload w.tcb pair.addresses cx.ip_mtu w.queued then offer_choice Kind.Payload cx w pair (payload_choice w.tcb pair.addresses cx.ip_mtu w.queued)
      else last_rules cx (with_tcb w (probe_started cx.instant (queued_in w) w.tcb)) pair)
      (λ (o : Offered TcpValue). IsSilent o v → IsQuietFirst w)
      (λ _ e. absurd (packet v (offer_syn cx w pair).socket e))
      (λ no_syn.
      cond_both (resends w.tcb pair.addresses cx.ip_mtu w.queued)
      (offer_choice Kind.FastRetransmission cx w pair (resend_choice w.tcb pair.addresses cx.ip_mtu w.queued))
      (if has_payload w.tcb pair.addresses cx.ip_mtu w.queued then offer_choice Kind.Payload cx w pair (payload_choice w.tcb pair.addresses cx.ip_mtu w.queued)
      else last_rules cx (with_tcb w (probe_started cx.instant (queued_in w) w.tcb)) pair)
      (λ (o : Offered TcpValue). IsSilent o v → IsQuietFirst w)
      (λ _ e. absurd (packet v (offer_choice Kind.FastRetransmission cx w pair (resend_choice w.tcb pair.addresses cx.ip_mtu w.queued)).socket e))
      (λ no_resend.
      cond_both (has_payload w.tcb pair.addresses cx.ip_mtu w.queued) (offer_choice Kind.Payload cx w pair (payload_choice w.tcb pair.addresses cx.ip_mtu w.queued))
      (last_rules cx (with_tcb w (probe_started cx.instant (queued_in w) w.tcb)) pair)
      (λ (o : Offered TcpValue). IsSilent o v → IsQuietFirst w)
      (λ _ e. absurd (packet v (offer_choice Kind.Payload cx w pair (payload_choice w.tcb pair.addresses cx.ip_mtu w.queued)).socket e))
      (λ no_payload e.
      let last = idle_last (with_tcb w (probe_started cx.instant (queued_in w) w.tcb)) e in
      record { syn = no_syn; again = no_resend; payload = no_payload; same = last.0; last = last.1 })))

-- an instant that was to be set would have been
unset_not : (counts : Bool) (instant : ℤ) (old : Option ℤ) → (if counts && is_none old then Some instant else old) ≡ old → (counts && is_none old) ≡ false
unset_not true instant None e = absurd (cc)
unset_not true instant (Some m) e = refl
unset_not false instant old e = refl

if_not : {A : Type 0} (t : Bool) (x y : A) → t ≡ false → (if t then x else y) ≡ y
if_not t x y e = ap (λ (test : Bool). if test then x else y) e

never_due : (now : ℤ) (instant : Option ℤ) → None ≡ instant → is_due now instant ≡ false
never_due now instant e = ap (is_due now) (sym e)

module _ (cx : ContextValue) (pair : FourTuple) (v : TcpValue) where
  abbrev started : Tcb
  started = timeout_started cx.instant (queued_in v) v.tcb

  abbrev retried : Tcb
  retried = backed_off cx.instant started

  since_kept : retried.timers.timeout_since ≡ started.timers.timeout_since
  since_kept =
      cond_both (is_due cx.instant started.timers.retransmit_at) (backed_off_now started) (loss_probed_by cx.instant started)
      (λ (b : Tcb). b.timers.timeout_since ≡ started.timers.timeout_since)
      (λ _. refl)
      (λ _. cond_both (is_due cx.instant (loss_probe_deadline started)) (loss_probed started) started
      (λ (b : Tcb). b.timers.timeout_since ≡ started.timers.timeout_since) (λ _. refl) (λ _. refl))

  not_retried : retried.timers.retransmit_at ≡ v.tcb.timers.retransmit_at → is_due cx.instant v.tcb.timers.retransmit_at ≡ false
  not_retried =
      cond_both (is_due cx.instant started.timers.retransmit_at) (backed_off_now started) (loss_probed_by cx.instant started)
      (λ (b : Tcb). b.timers.retransmit_at ≡ v.tcb.timers.retransmit_at → is_due cx.instant v.tcb.timers.retransmit_at ≡ false)
      (λ _ e. never_due cx.instant v.tcb.timers.retransmit_at e)
      (λ later _. later)

  -- a probe that is due takes its instant away
  never_in : (sends : Bool) (instant : Option ℤ) → None ≡ instant → is_due cx.instant (if sends then instant else None) ≡ false
  never_in true instant e = never_due cx.instant instant e
  never_in false instant e = refl

  not_probed : loss_deadline (loss_probed_by cx.instant started).loss ≡ loss_deadline v.tcb.loss → is_due cx.instant (loss_probe_deadline v.tcb) ≡ false
  not_probed =
      cond_both (is_due cx.instant (loss_probe_deadline started)) (loss_probed started) started
      (λ (b : Tcb). loss_deadline b.loss ≡ loss_deadline v.tcb.loss → is_due cx.instant (loss_probe_deadline v.tcb) ≡ false)
      (λ _ e. never_in (may_send_data v.tcb.state && (not v.tcb.sender.syn_unacked && not (v.tcb.sender.flight_size == 0))) (loss_deadline v.tcb.loss) e)
      (λ later _. later)

  module _ (no_end : is_due cx.instant (time_wait_end v.tcb) ≡ false) (no_timeout : is_due cx.instant (timeout_end v.tcb (queued_in v)) ≡ false)
      (q : IsQuietFirst cx pair v (with_tcb v retried)) where
    same_timers : (probe_started cx.instant (queued_in v) retried).timers ≡ v.tcb.timers
    same_timers = ap (λ (w : TcpValue). w.tcb.timers) q.same

    no_start : is_timeout_unset v.tcb (queued_in v) ≡ false
    no_start =
        unset_not (timeout_runs v.tcb (queued_in v)) cx.instant v.tcb.timers.timeout_since
        (sym since_kept ∙ ap (λ t. t.timeout_since) same_timers)

    no_retry : is_due cx.instant v.tcb.timers.retransmit_at ≡ false
    no_retry = not_retried (ap (λ t. t.retransmit_at) same_timers)

    proceeds : retried ≡ loss_probed_by cx.instant started
    proceeds = if_not (is_due cx.instant v.tcb.timers.retransmit_at) (backed_off_now started) (loss_probed_by cx.instant started) no_retry

    no_loss_probe : is_due cx.instant (loss_probe_deadline v.tcb) ≡ false
    no_loss_probe =
        not_probed (sym (ap (λ (b : Tcb). loss_deadline b.loss) proceeds) ∙ ap (λ (w : TcpValue). loss_deadline w.tcb.loss) q.same)

    same_tcb : retried ≡ v.tcb
    same_tcb =
        proceeds ∙ if_not (is_due cx.instant (loss_probe_deadline v.tcb)) (loss_probed started) started no_loss_probe
        ∙ ap (λ (unset : Bool). with_timeout_since v.tcb (if unset then Some cx.instant else v.tcb.timers.timeout_since)) no_start

    at_tcb : IsQuietFirst cx pair v (with_tcb v v.tcb)
    at_tcb = subst (λ (b : Tcb). IsQuietFirst cx pair v (with_tcb v b)) same_tcb q

    no_probe_set : is_probe_unset v.tcb (queued_in v) ≡ false
    no_probe_set =
        unset_not (is_probing v.tcb (queued_in v)) (timeout_from cx.instant v.tcb.round_trip) v.tcb.timers.probe_at
        (ap (λ (w : TcpValue). w.tcb.timers.probe_at) at_tcb.same)

    last : IsQuietLast cx v
    last = subst (λ (w : TcpValue). IsQuietLast cx w) at_tcb.same at_tcb.last

    quiet : IsQuiet cx v pair
    quiet = record {
      time_wait = no_end;
      timeout = no_timeout;
      timeout_set = no_start;
      retransmission = no_retry;
      loss_probe = no_loss_probe;
      syn = at_tcb.syn;
      again = at_tcb.again;
      payload = at_tcb.payload;
      probe_set = no_probe_set;
      probe = last.probe;
      ack = last.ack;
      window_update = last.window_update;
      keep_alive = last.keep_alive;
    }

-- BEFORE THE DUE MOMENT

neither : (a b : Bool) → a ≡ false → b ≡ false → (a || b) ≡ false
neither true b e f = absurd (cc)
neither false b e f = f

both_before : (now : ℤ) (instant other : Option ℤ) → is_due now instant ≡ false → IsBefore now (at_instant other) →
    IsBefore now (at_instant (earlier_of instant other))
both_before now None other e h = h
both_before now (Some m) None e h = later now m e where
  later : (now m : ℤ) → int_le m now ≡ false → now <ℤ m
  later now m e = grind (arith)
both_before now (Some m) (Some o) e h = by (int_lt o m) where
  later : (now m : ℤ) → int_le m now ≡ false → now <ℤ m
  later now m e = grind (arith)

  by : (test : Bool) → now <ℤ (if test then o else m)
  by true = h
  by false = later now m e

all_before : (now : ℤ) (ms : List (Option ℤ)) → AreLater now ms → IsBefore now (at_instant (earliest ms))
all_before now [] later = tt
all_before now (m ∷ ms) later = both_before now m (earliest ms) later.0 (all_before now ms later.1)

quiet_before : (cx : ContextValue) (v : TcpValue) (pair : FourTuple) → IsQuiet cx v pair → IsBefore cx.instant (poll_open cx.ip_mtu v pair)
quiet_before cx v pair q =
    let none : any (wishes v.tcb pair.addresses cx.ip_mtu v.queued (queued_in v) (room_of v.received) (free_in v)) ≡ false =
    neither _ _ q.syn (neither _ _ q.again
    (neither _ _ q.payload (neither _ _ q.window_update (neither _ _ q.timeout_set (neither _ _ q.probe_set refl))))) in
    let later : AreLater cx.instant (instants v.tcb (queued_in v)) =
    (q.time_wait, (q.timeout, (q.retransmission, (q.loss_probe, (q.probe, (q.ack, (q.keep_alive, tt))))))) in
    subst (λ (at : PollAt). IsBefore cx.instant at)
    (sym (if_not (any (wishes v.tcb pair.addresses cx.ip_mtu v.queued (queued_in v) (room_of v.received) (free_in v))) At.Now
    (at_instant (earliest (instants v.tcb (queued_in v)))) none))
    (all_before cx.instant (instants v.tcb (queued_in v)) later)

idle_closed : (cx : ContextValue) (v : TcpValue) (pair : FourTuple) →
    IsSilent (if v.tcb.sender.reset_due then offer_reset cx v pair else silent false v) v →
    IsBefore cx.instant (if v.tcb.sender.reset_due then At.Now else At.Ingress)
idle_closed cx v pair = by v.tcb.sender.reset_due where
  by : (due : Bool) → IsSilent (if due then offer_reset cx v pair else silent false v) v → IsBefore cx.instant (if due then At.Now else At.Ingress)
  by true e = packet v (offer_reset cx v pair).socket e
  by false e = tt

idle_between : (cx : ContextValue) (v : TcpValue) (pair : FourTuple) → IsSilent (offer_between cx v pair) v →
    IsBefore cx.instant (poll_between cx.ip_mtu v pair)
idle_between cx v pair =
    cond_both (is_due cx.instant (time_wait_end v.tcb)) (silent true (ended v))
    (if is_due cx.instant (timeout_end v.tcb (queued_in v)) then silent true (with_tcb v (timed_out v.tcb))
    else if is_closed v.tcb.state then (if v.tcb.sender.reset_due then offer_reset cx v pair else silent false v)
    else if gives_up cx.instant v.tcb (queued_in v) then silent true (given_up v)
    else first_rules cx (with_tcb v (retried cx pair v)) pair)
    (λ (o : Offered TcpValue). IsSilent o v → IsBefore cx.instant (poll_between cx.ip_mtu v pair))
    (λ _ e. absurd (told v (ended v) e))
    (λ no_end.
    cond_both (is_due cx.instant (timeout_end v.tcb (queued_in v))) (silent true (with_tcb v (timed_out v.tcb)))
    (if is_closed v.tcb.state then (if v.tcb.sender.reset_due then offer_reset cx v pair else silent false v)
    else if gives_up cx.instant v.tcb (queued_in v) then silent true (given_up v)
    else first_rules cx (with_tcb v (retried cx pair v)) pair)
    (λ (o : Offered TcpValue). IsSilent o v → IsBefore cx.instant (poll_between cx.ip_mtu v pair))
    (λ _ e. absurd (told v (with_tcb v (timed_out v.tcb)) e))
    (λ no_timeout. by no_end no_timeout (is_closed v.tcb.state)))
  where
    by :
        is_due cx.instant (time_wait_end v.tcb) ≡ false → is_due cx.instant (timeout_end v.tcb (queued_in v)) ≡ false → (closed : Bool)
        → IsSilent (if closed then (if v.tcb.sender.reset_due then offer_reset cx v pair else silent false v) else if gives_up cx.instant v.tcb (queued_in v)
        then silent true (given_up v) else first_rules cx (with_tcb v (retried cx pair v)) pair) v
        → IsBefore cx.instant (if closed then (if v.tcb.sender.reset_due then At.Now else At.Ingress) else poll_open cx.ip_mtu v pair)
    by no_end no_timeout true e = idle_closed cx v pair e
    by no_end no_timeout false e = still (gives_up cx.instant v.tcb (queued_in v)) e where
      still : (ends : Bool) → IsSilent (if ends then silent true (given_up v) else first_rules cx (with_tcb v (retried cx pair v)) pair) v →
          IsBefore cx.instant (poll_open cx.ip_mtu v pair)
      still true told_so = absurd (told v (given_up v) told_so)
      still false silence =
          quiet_before cx v pair (quiet cx pair v no_end no_timeout (idle_first cx pair v (with_tcb v (retried cx pair v)) silence))

idle_with : (names : Option FourTuple) (cx : ContextValue) (v : TcpValue) → IsSilent (offer_with names cx v) v →
    IsBefore cx.instant (poll_with names cx.ip_mtu v)
idle_with None cx v e = tt
idle_with (Some pair) cx v e = idle_between cx v pair e

pub idle : (cx : ContextValue) (v : TcpValue) → offer_of cx v ≡ offered_as (Answer.Silent false) (settled false v) → IsBefore cx.instant (poll_of cx.ip_mtu v)
idle cx v e =
    subst (λ (at : PollAt). IsBefore cx.instant at) (same_poll v.tcb.names.pair cx.ip_mtu v) (idle_with v.tcb.names.pair cx (unoffered v) e)
