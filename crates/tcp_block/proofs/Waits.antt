-- Before the due instant no rule applies.
use Rattle.std.proofs.Common.{◌≡◌, ℕ, ◌+◌, Bool, true, false, ◌||◌, ◌&&◌, not, is_some, if◌then◌else◌, ℤ, ◌<ℤ◌, int_lt, int_le, Option, Some, None, List, []}
use Rattle.std.proofs.Common.{◌∷◌, refl, sym, ap, ◌∙◌, subst, arith}
use Rattle.tcp_state.specs.Offers.{IsBefore, Offered, offered_as}
use Rattle.tcp_state.specs.Context.{ContextValue}
use Rattle.tcp_state.specs.Offer.TheVariants as Answer
use Rattle.tcp_state.specs.PollAt.{PollAt}
use Rattle.tcp_state.specs.PollAt.TheVariants as At
use Rattle.tcp_block.specs.declared.tcb.Tcb.{Tcb}
use Rattle.tcp_state.specs.declared.endpoints.FourTuple.{FourTuple}
use Rattle.tcp_block.specs.Due.{wishes, instants, any, earlier_of, earliest, at_instant, poll_open, poll_between, poll_with, poll_of}
use Rattle.tcp_state.specs.Moments.{is_due, earlier, timeout_from}
use Rattle.tcp_block.specs.Offers.{silent, first_rules, last_rules, backed_off, offer_between, offer_with, offer_of}
use Rattle.tcp_block.specs.Quiet.{IsQuiet}
use Rattle.tcp_block.proofs.Later.{AreLater}
use Rattle.tcp_state.specs.declared.state.State.{State}
use Rattle.tcp_state.specs.declared.state.State.TheVariants as In
use Rattle.tcp_block.specs.Probing.{probe_started, probe_deadline, with_probe_at}
use Rattle.tcp_block.specs.Retries.{gives_up, is_last_timeout, is_last_probe, reaches, retries_of}
use Rattle.tcp_block.specs.Rules.{time_wait_end, keep_alive_deadline}
use Rattle.tcp_state.specs.States.{is_closed, is_time_wait}
use Rattle.tcp_block.specs.Settled.{settled}
use Rattle.tcp_block.specs.Timeout.{timeout_started, with_timeout_since, timeout_end, end_by, waits_for_remote}
use Rattle.tcp_block.specs.Value.{TcpValue, with_tcb, unoffered, queued_in, free_in, room_of}

not_due : (now instant : ℤ) → now <ℤ instant → int_le instant now ≡ false
not_due now instant h = grind (arith)

both_later : (now a b : ℤ) → now <ℤ earlier a b → (now <ℤ a) × (now <ℤ b)
both_later now a b h = by (int_lt b a) refl where
  by : (t : Bool) → int_lt b a ≡ t → (now <ℤ a) × (now <ℤ b)
  by true e = let below = subst (λ (t : Bool). now <ℤ (if t then b else a)) e h in (grind (arith), below)
  by false e = let below = subst (λ (t : Bool). now <ℤ (if t then b else a)) e h in (below, grind (arith))

first_later : (now : ℤ) (instant other : Option ℤ) → IsBefore now (at_instant (earlier_of instant other)) → (is_due now instant ≡ false) ×
    IsBefore now (at_instant other)
first_later now None other h = (refl, h)
first_later now (Some m) None h = (not_due now m h, tt)
first_later now (Some m) (Some o) h = let both = both_later now m o h in (not_due now m both.0, both.1)

all_later : (now : ℤ) (ms : List (Option ℤ)) → IsBefore now (at_instant (earliest ms)) → AreLater now ms
all_later now [] h = tt
all_later now (m ∷ ms) h = let first = first_later now m (earliest ms) h in (first.0, all_later now ms first.1)

no_first : (a b : Bool) → (a || b) ≡ false → (a ≡ false) × (b ≡ false)
no_first true b e = absurd (cc)
no_first false b e = (refl, e)

not_now : (now : ℤ) (wish : Bool) (instant : Option ℤ) → IsBefore now (if wish then At.Now else at_instant instant) → (wish ≡ false) ×
    IsBefore now (at_instant instant)
not_now now true instant h = absurd h
not_now now false instant h = (refl, h)

-- what the answer of an open socket says of each rule
pub is_quiet : (cx : ContextValue) (v : TcpValue) (pair : FourTuple) → IsBefore cx.instant (poll_open cx.ip_mtu v pair) → IsQuiet cx v pair
is_quiet cx v pair h =
    let waits = not_now cx.instant (any (wishes v.tcb pair.addresses cx.ip_mtu v.queued (queued_in v) (room_of v.received) (free_in v)))
    (earliest (instants v.tcb (queued_in v))) h in
    let w1 = no_first _ _ waits.0 in
    let w2 = no_first _ _ w1.1 in
    let w3 = no_first _ _ w2.1 in
    let w4 = no_first _ _ w3.1 in
    let w5 = no_first _ _ w4.1 in
    let w6 = no_first _ _ w5.1 in
    let later = all_later cx.instant (instants v.tcb (queued_in v)) waits.1 in
    record {
      time_wait = later.0;
      timeout = later.1.0;
      timeout_set = w5.0;
      retransmission = later.1.1.0;
      syn = w1.0;
      again = w2.0;
      payload = w3.0;
      probe_set = w6.0;
      loss_probe = later.1.1.1.0;
      probe = later.1.1.1.1.0;
      ack = later.1.1.1.1.1.0;
      window_update = w4.0;
      keep_alive = later.1.1.1.1.1.1.0;
    }

if_not : {A : Type 0} (t : Bool) (x y : A) → t ≡ false → (if t then x else y) ≡ y
if_not t x y e = ap (λ (test : Bool). if test then x else y) e

quiet_last : (cx : ContextValue) (v : TcpValue) (pair : FourTuple) → IsQuiet cx v pair → last_rules cx v pair ≡ silent false v
quiet_last cx v pair q =
    if_not _ _ _ q.probe ∙ (if_not _ _ _ q.ack ∙ (if_not _ _ _ q.window_update ∙ if_not _ _ _ q.keep_alive))

no_probe_set : (cx : ContextValue) (v : TcpValue) (pair : FourTuple) → IsQuiet cx v pair → probe_started cx.instant (queued_in v) v.tcb ≡ v.tcb
no_probe_set cx v pair q =
    ap (λ (unset : Bool). with_probe_at v.tcb (if unset then Some (timeout_from cx.instant v.tcb.round_trip) else v.tcb.timers.probe_at)) q.probe_set

quiet_first : (cx : ContextValue) (v : TcpValue) (pair : FourTuple) → IsQuiet cx v pair → first_rules cx v pair ≡ silent false v
quiet_first cx v pair q =
    if_not _ _ _ q.syn ∙ (if_not _ _ _ q.again ∙ (if_not _ _ _ q.payload
    ∙ (ap (λ (b : Tcb). last_rules cx (with_tcb v b) pair) (no_probe_set cx v pair q) ∙ quiet_last cx v pair q)))

no_instant_set : (cx : ContextValue) (v : TcpValue) (pair : FourTuple) → IsQuiet cx v pair →
    backed_off cx.instant (timeout_started cx.instant (queued_in v) v.tcb) ≡ v.tcb
no_instant_set cx v pair q =
    ap (λ (unset : Bool). backed_off cx.instant (with_timeout_since v.tcb (if unset then Some cx.instant else v.tcb.timers.timeout_since))) q.timeout_set
    ∙ (if_not _ _ _ q.retransmission ∙ if_not _ _ _ q.loss_probe)

neither : (a b : Bool) → a ≡ false → b ≡ false → (a || b) ≡ false
neither true b e f = absurd (cc)
neither false b e f = f

not_both : (a b : Bool) → a ≡ false → (a && b) ≡ false
not_both true b e = absurd (cc)
not_both false b e = refl

no_end : (cx : ContextValue) (v : TcpValue) (pair : FourTuple) → IsQuiet cx v pair → gives_up cx.instant v.tcb (queued_in v) ≡ false
no_end cx v pair q =
    neither (is_last_timeout cx.instant v.tcb) (is_last_probe cx.instant v.tcb (queued_in v))
    (not_both (is_due cx.instant v.tcb.timers.retransmit_at) (reaches (retries_of v.tcb) (v.tcb.sender.timeouts + 1)) q.retransmission)
    (not_both _ _ (neither (is_due cx.instant (probe_deadline v.tcb (queued_in v))) (is_due cx.instant (keep_alive_deadline v.tcb)) q.probe q.keep_alive))

quiet_open : (cx : ContextValue) (v : TcpValue) (pair : FourTuple) → is_closed v.tcb.state ≡ false → IsQuiet cx v pair →
    offer_between cx v pair ≡ silent false v
quiet_open cx v pair e q =
    if_not _ _ _ q.time_wait ∙ (if_not _ _ _ q.timeout ∙ (if_not _ _ _ e ∙ (if_not _ _ _ (no_end cx v pair q)
    ∙ (ap (λ (b : Tcb). first_rules cx (with_tcb v b) pair) (no_instant_set cx v pair q) ∙ quiet_first cx v pair q))))

-- in CLOSED no instant counts
no_time_wait : (now : ℤ) (b : Tcb) → is_closed b.state ≡ true → is_due now (time_wait_end b) ≡ false
no_time_wait now b e = by b.state refl where
  by : (state : State) → b.state ≡ state → is_due now (if is_time_wait state then b.timers.time_wait_ends else None) ≡ false
  by In.TimeWait at = absurd (let clash : false ≡ true = sym (ap is_closed at) ∙ e in cc)
  by other at = refl

closed_runs_not : (set closed ends waits : Bool) → closed ≡ true → (set && (not (closed || ends) && waits)) ≡ false
closed_runs_not true true ends waits e = refl
closed_runs_not true false ends waits e = absurd (cc)
closed_runs_not false closed ends waits e = refl

no_timeout : (now : ℤ) (b : Tcb) (queued : ℕ) → is_closed b.state ≡ true → is_due now (timeout_end b queued) ≡ false
no_timeout now b queued e =
    ap (λ (runs : Bool). is_due now (if runs then end_by b.timers.timeout_since b.settings.timeout else None))
    (closed_runs_not (is_some b.settings.timeout) (is_closed b.state) (is_time_wait b.state) (waits_for_remote b queued) e)

no_reset : (now : ℤ) (due : Bool) → IsBefore now (if due then At.Now else At.Ingress) → due ≡ false
no_reset now true h = absurd h
no_reset now false h = refl

if_so : {A : Type 0} (t : Bool) (x y : A) → t ≡ true → (if t then x else y) ≡ x
if_so t x y e = ap (λ (test : Bool). if test then x else y) e

quiet_closed : (cx : ContextValue) (v : TcpValue) (pair : FourTuple) → is_closed v.tcb.state ≡ true → v.tcb.sender.reset_due ≡ false →
    offer_between cx v pair ≡ silent false v
quiet_closed cx v pair e none =
    if_not _ _ _ (no_time_wait cx.instant v.tcb e) ∙ (if_not _ _ _ (no_timeout cx.instant v.tcb (queued_in v) e) ∙ (if_so _ _ _ e ∙ if_not _ _ _ none))

quiet_between : (cx : ContextValue) (v : TcpValue) (pair : FourTuple) → IsBefore cx.instant (poll_between cx.ip_mtu v pair) →
    offer_between cx v pair ≡ silent false v
quiet_between cx v pair h = by (is_closed v.tcb.state) refl h where
  by : (closed : Bool) → is_closed v.tcb.state ≡ closed →
      IsBefore cx.instant (if closed then (if v.tcb.sender.reset_due then At.Now else At.Ingress) else poll_open cx.ip_mtu v pair) →
      offer_between cx v pair ≡ silent false v
  by true e before = quiet_closed cx v pair e (no_reset cx.instant v.tcb.sender.reset_due before)
  by false e before = quiet_open cx v pair e (is_quiet cx v pair before)

quiet_with : (pair : Option FourTuple) (cx : ContextValue) (v : TcpValue) → IsBefore cx.instant (poll_with pair cx.ip_mtu v) →
    offer_with pair cx v ≡ silent false v
quiet_with None cx v h = refl
quiet_with (Some pair) cx v h = quiet_between cx v pair h

pub same_poll : (pair : Option FourTuple) (ip_mtu : ℕ) (v : TcpValue) → poll_with pair ip_mtu (unoffered v) ≡ poll_with pair ip_mtu v
same_poll None ip_mtu v = refl
same_poll (Some pair) ip_mtu v = refl

pub silence : (cx : ContextValue) (v : TcpValue) → IsBefore cx.instant (poll_of cx.ip_mtu v) → offer_of cx v ≡ offered_as (Answer.Silent false) (settled false v)
silence cx v h =
    quiet_with v.tcb.names.pair cx (unoffered v) (subst (λ (at : PollAt). IsBefore cx.instant at) (sym (same_poll v.tcb.names.pair cx.ip_mtu v)) h)

pub silence_stays : (cx : ContextValue) (v : TcpValue) → IsBefore cx.instant (poll_of cx.ip_mtu v) →
    poll_of cx.ip_mtu (offer_of cx v).socket ≡ poll_of cx.ip_mtu v
silence_stays cx v h =
    ap (λ (o : Offered TcpValue). poll_of cx.ip_mtu o.socket) (silence cx v h) ∙ same_poll v.tcb.names.pair cx.ip_mtu v
