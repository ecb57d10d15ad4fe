-- The reset that a socket owes.
use Rattle.std.proofs.Common.{◌≡◌, ℕ, ◌&&◌, ◌||◌, not, Bool, true, false, if◌then◌else◌, List, Option, Some, None, IfSome, is_some, ℤ, refl, sym, ap, ◌∙◌}
use Rattle.std.proofs.Common.{subst}
use Rattle.std.proofs.lemmas.Bool.{cond_both}
use Rattle.ip_wire.specs.IpRepr.{IpRepr}
use Rattle.ip_wire.specs.TcpHeader.{TcpHeader}
use Rattle.tcp_state.specs.Context.{ContextValue}
use Rattle.tcp_state.specs.Offers.{Offered}
use Rattle.tcp_state.specs.Offer.TheVariants as Answer
use Rattle.tcp_state.specs.PollAt.TheVariants as At
use Rattle.tcp_state.specs.Moments.{is_due}
use Rattle.tcp_state.specs.States.{is_time_wait, is_closed, is_opening, takes_writes, after_close}
use Rattle.tcp_state.specs.declared.endpoints.FourTuple.{FourTuple}
use Rattle.tcp_state.specs.declared.state.State.{State}
use Rattle.tcp_state.specs.declared.state.State.TheVariants as In
use Rattle.tcp_block.specs.Aborts.{OwesReset, IsResetOf}
use Rattle.tcp_block.specs.Arrival.{arrives, arrives_in, is_void_syn}
use Rattle.tcp_block.specs.Calls.{listening, send_after, recv_after, close_after, abort_after}
use Rattle.tcp_block.specs.Checks.{falls_back}
use Rattle.tcp_block.specs.Due.{poll_of, poll_with}
use Rattle.tcp_block.specs.Names.{accepts, accepts_in}
use Rattle.tcp_block.specs.Offers.{silent, offer_of, offer_with, offer_reset}
use Rattle.tcp_block.specs.Retries.{gives_up}
use Rattle.tcp_block.specs.Rules.{time_wait_end}
use Rattle.tcp_block.specs.Settings.{with_settings}
use Rattle.tcp_block.specs.Settled.{settled}
use Rattle.tcp_block.specs.Timeout.{timeout_end, end_by, waits_for_remote, timed_out}
use Rattle.tcp_block.specs.Value.{TcpValue, Arrived, with_tcb, dropped, unoffered, ended, queued_in}
use Rattle.tcp_block.specs.declared.tcb.Tcb.{Tcb}
use Rattle.tcp_block.specs.declared.tcb.Settings.{Settings}

if_so : {A : Type 0} (t : Bool) (x y : A) → t ≡ true → (if t then x else y) ≡ x
if_so t x y e = ap (λ (test : Bool). if test then x else y) e

if_not : {A : Type 0} (t : Bool) (x y : A) → t ≡ false → (if t then x else y) ≡ y
if_not t x y e = ap (λ (test : Bool). if test then x else y) e

-- an abort outside TIME-WAIT
abbrev down : TcpValue → TcpValue
down v = with_tcb (unoffered v) (record v.tcb { state = In.Closed; sender = record v.tcb.sender { reset_due = is_some v.tcb.names.pair } })

pub aborted : (v : TcpValue) (pair : FourTuple) → v.tcb.names.pair ≡ Some pair → is_time_wait v.tcb.state ≡ false → OwesReset (abort_after v) pair
aborted v pair e stays =
    subst (λ (after : TcpValue). OwesReset after pair) (sym (if_not (is_time_wait v.tcb.state) (ended (unoffered v)) (down v) stays))
    (record { state = refl; endpoints = e; due = ap is_some e })

pub owes_nothing : (ip_mtu : ℕ) (v : TcpValue) → v.tcb.names.pair ≡ None → poll_of ip_mtu (abort_after v) ≡ At.Ingress
owes_nothing ip_mtu v e =
    cond_both (is_time_wait v.tcb.state) (ended (unoffered v)) (down v) (λ (after : TcpValue). poll_of ip_mtu after ≡ At.Ingress) (λ _. refl)
    (λ _. ap (λ (p : Option FourTuple). poll_with p ip_mtu (down v)) e)

pub waited : (ip_mtu : ℕ) (v : TcpValue) → is_time_wait v.tcb.state ≡ true → poll_of ip_mtu (abort_after v) ≡ At.Ingress
waited ip_mtu v e = ap (poll_of ip_mtu) (if_so (is_time_wait v.tcb.state) (ended (unoffered v)) (down v) e)

pub ran_out :
    (cx : ContextValue) (v : TcpValue) (pair : FourTuple) → v.tcb.names.pair ≡ Some pair → is_due cx.instant (time_wait_end v.tcb) ≡ false
    → is_due cx.instant (timeout_end v.tcb (queued_in v)) ≡ true → OwesReset (offer_of cx v).socket pair
ran_out cx v pair e no_wait out =
    subst (λ (o : Offered TcpValue). OwesReset o.socket pair)
    (sym
    (ap (λ (p : Option FourTuple). offer_with p cx (unoffered v)) e
    ∙ (if_not (is_due cx.instant (time_wait_end v.tcb)) _ _ no_wait ∙ if_so (is_due cx.instant (timeout_end v.tcb (queued_in v))) _ _ out)))
    (record { state = refl; endpoints = e; due = refl })

pub gave_up :
    (cx : ContextValue) (v : TcpValue) (pair : FourTuple) → v.tcb.names.pair ≡ Some pair → is_due cx.instant (time_wait_end v.tcb) ≡ false
    → is_due cx.instant (timeout_end v.tcb (queued_in v)) ≡ false → is_closed v.tcb.state ≡ false → gives_up cx.instant v.tcb (queued_in v) ≡ true
    → falls_back v.tcb ≡ false → OwesReset (offer_of cx v).socket pair
gave_up cx v pair e no_wait no_timeout opened ends stays =
    subst (λ (o : Offered TcpValue). OwesReset o.socket pair)
    (sym
    (ap (λ (p : Option FourTuple). offer_with p cx (unoffered v)) e
    ∙ (if_not (is_due cx.instant (time_wait_end v.tcb)) _ _ no_wait ∙ (if_not (is_due cx.instant (timeout_end v.tcb (queued_in v))) _ _ no_timeout
    ∙ (if_not (is_closed v.tcb.state) _ _ opened ∙ (if_so (gives_up cx.instant v.tcb (queued_in v)) _ _ ends
    ∙ ap (silent true) (if_not (falls_back v.tcb) (listening (unoffered v) v.tcb.names.listen) (with_tcb (unoffered v) (timed_out v.tcb)) stays)))))))
    (record { state = refl; endpoints = e; due = refl })

-- in CLOSED no instant counts
no_time_wait : (now : ℤ) (b : Tcb) → b.state ≡ In.Closed → is_due now (time_wait_end b) ≡ false
no_time_wait now b e = ap (λ (state : State). is_due now (if is_time_wait state then b.timers.time_wait_ends else None)) e

closed_runs_not : (set waits : Bool) → (set && (false && waits)) ≡ false
closed_runs_not true waits = refl
closed_runs_not false waits = refl

no_timeout : (now : ℤ) (b : Tcb) (queued : ℕ) → b.state ≡ In.Closed → is_due now (timeout_end b queued) ≡ false
no_timeout now b queued e =
    ap (λ (runs : Bool). is_due now (if runs then end_by b.timers.timeout_since b.settings.timeout else None))
    (ap (λ (state : State). is_some b.settings.timeout && (not (is_closed state || is_time_wait state) && waits_for_remote b queued)) e
    ∙ closed_runs_not (is_some b.settings.timeout) (waits_for_remote b queued))

offers_reset : (cx : ContextValue) (v : TcpValue) (pair : FourTuple) → OwesReset v pair → offer_of cx v ≡ offer_reset cx (unoffered v) pair
offers_reset cx v pair owes =
    ap (λ (p : Option FourTuple). offer_with p cx (unoffered v)) owes.endpoints
    ∙ (if_not (is_due cx.instant (time_wait_end v.tcb)) _ _ (no_time_wait cx.instant v.tcb owes.state)
    ∙ (if_not (is_due cx.instant (timeout_end v.tcb (queued_in v))) _ _ (no_timeout cx.instant v.tcb (queued_in v) owes.state)
    ∙ (if_so (is_closed v.tcb.state) _ _ (ap is_closed owes.state) ∙ if_so v.tcb.sender.reset_due _ _ owes.due)))

pub due_now : (ip_mtu : ℕ) (v : TcpValue) (pair : FourTuple) → OwesReset v pair → poll_of ip_mtu v ≡ At.Now
due_now ip_mtu v pair owes =
    ap (λ (p : Option FourTuple). poll_with p ip_mtu v) owes.endpoints
    ∙ (if_so (is_closed v.tcb.state) _ _ (ap is_closed owes.state) ∙ if_so v.tcb.sender.reset_due _ _ owes.due)

pub is_offered :
    (cx : ContextValue) (v : TcpValue) (pair : FourTuple) → OwesReset v pair
    → ((offer_of cx v).answer ≡ Answer.Packet false) × (is_some (offer_of cx v).socket.offered ≡ true)
is_offered cx v pair owes =
    let same = offers_reset cx v pair owes in
    (ap (λ (o : Offered TcpValue). o.answer) same, ap (λ (o : Offered TcpValue). is_some o.socket.offered) same)

pub is_reset :
    (cx : ContextValue) (v : TcpValue) (pair : FourTuple) → OwesReset v pair → IfSome (offer_of cx v).socket.offered (IsResetOf v.tcb pair)
is_reset cx v pair owes =
    subst (λ (o : Offered TcpValue). IfSome o.socket.offered (IsResetOf v.tcb pair)) (sym (offers_reset cx v pair owes))
    (record { kind = refl; control = refl; number = refl; acknowledgement = refl; from = refl; to = refl; empty = refl })

-- UNTIL IT IS SENT

pub is_deaf : (v : TcpValue) (pair : FourTuple) (ip : IpRepr) (header : TcpHeader) → OwesReset v pair → accepts v.tcb ip header ≡ false
is_deaf v pair ip header owes = ap (λ (state : State). accepts_in state v.tcb ip header) owes.state

still : (v : TcpValue) (pair : FourTuple) → OwesReset v pair → OwesReset (unoffered v) pair
still v pair owes = record { state = owes.state; endpoints = owes.endpoints; due = owes.due }

pub arrival_waits :
    (cx : ContextValue) (v : TcpValue) (pair : FourTuple) (ip : IpRepr) (header : TcpHeader) (bytes : List ℕ) → OwesReset v pair
    → OwesReset (arrives cx v ip header bytes).socket pair
arrival_waits cx v pair ip header bytes owes =
    subst (λ (a : Arrived). OwesReset a.socket pair) (sym (none_comes (is_void_syn header))) (still v pair owes)
  where
    none_comes : (void : Bool) → (if void then dropped (unoffered v) else arrives_in v.tcb.state cx (unoffered v) ip header bytes) ≡ dropped (unoffered v)
    none_comes true = refl
    none_comes false = ap (λ (state : State). arrives_in state cx (unoffered v) ip header bytes) owes.state

pub close_waits : (v : TcpValue) (pair : FourTuple) → OwesReset v pair → OwesReset (close_after v) pair
close_waits v pair owes =
    subst (λ (state : State).
    OwesReset (if is_opening state then ended (unoffered v) else with_tcb (unoffered v) (record v.tcb { state = after_close state })) pair)
    (sym owes.state)
    (record { state = refl; endpoints = owes.endpoints; due = owes.due })

pub abort_waits : (v : TcpValue) (pair : FourTuple) → OwesReset v pair → OwesReset (abort_after v) pair
abort_waits v pair owes = aborted v pair owes.endpoints (ap is_time_wait owes.state)

pub send_waits : (v : TcpValue) (pair : FourTuple) (bytes : List ℕ) → OwesReset v pair → OwesReset (send_after v bytes) pair
send_waits v pair bytes owes =
    subst (λ (after : TcpValue). OwesReset after pair)
    (sym (if_not (takes_writes v.tcb.state) _ (unoffered v) (ap takes_writes owes.state)))
    (still v pair owes)

pub recv_waits : (v : TcpValue) (pair : FourTuple) (count : ℕ) → OwesReset v pair → OwesReset (recv_after v count) pair
recv_waits v pair count owes = record { state = owes.state; endpoints = owes.endpoints; due = owes.due }

pub setting_waits : (v : TcpValue) (pair : FourTuple) (settings : Settings) → OwesReset v pair → OwesReset (with_settings v settings) pair
setting_waits v pair settings owes = record { state = owes.state; endpoints = owes.endpoints; due = owes.due }

pub unsent : (cx : ContextValue) (v : TcpValue) (pair : FourTuple) → OwesReset v pair → OwesReset (settled false (offer_of cx v).socket) pair
unsent cx v pair owes =
    subst (λ (o : Offered TcpValue). OwesReset (settled false o.socket) pair) (sym (offers_reset cx v pair owes))
    (record { state = owes.state; endpoints = owes.endpoints; due = owes.due })

pub sent :
    (cx : ContextValue) (v : TcpValue) (pair : FourTuple) (ip_mtu : ℕ) → OwesReset v pair
    → (poll_of ip_mtu (settled true (offer_of cx v).socket) ≡ At.Ingress) × ((settled true (offer_of cx v).socket).tcb.names.pair ≡ None)
sent cx v pair ip_mtu owes =
    let same = offers_reset cx v pair owes in
    (ap (λ (o : Offered TcpValue). poll_of ip_mtu (settled true o.socket)) same, ap (λ (o : Offered TcpValue). (settled true o.socket).tcb.names.pair) same)

pub ruleset owing = (aborted, ran_out, gave_up, owes_nothing, waited)

pub ruleset owed_on = (arrival_waits, is_deaf, unsent, sent, close_waits, abort_waits, send_waits, recv_waits, setting_waits)
