-- What each step keeps of a socket's invariant.
use Rattle.std.proofs.Common.{◌≡◌, ℕ, ◌-◌, ◌==◌, ◌≤◌, min, Bool, true, false, List, ◌++◌, length, take, Option, Some, None, Ok, if◌then◌else◌, refl, ap, arith}
use Rattle.std.proofs.Common.{length-append, length-drop}
use Rattle.std.specs.Prelude.{IfSome, ℤ}
use Rattle.std.proofs.lemmas.List.{length-take-le, length-take}
use Rattle.net_base.specs.Ring.{Ring, capacity, rotated, cleared, anchored, overwritten, extended, enqueued, released, contiguous}
use Rattle.net_base.specs.Time.{IsMoment}
use Rattle.tcp_block.specs.Calls.{or_count}
use Rattle.tcp_block.specs.Moments.{is_due}
use Rattle.tcp_block.specs.LossRecovery.{loss_probe_deadline, loss_probed, loss_probed_by}
use Rattle.tcp_block.specs.Offers.{backed_off}
use Rattle.tcp_block.specs.Rules.{backed_off_now}
use Rattle.tcp_block.specs.declared.tcb.Tcb.{Tcb}
use Rattle.tcp_block.specs.RecvError.{RecvError}
use Rattle.tcp_block.specs.Timeout.{timeout_runs, timeout_kept, is_timeout_unset, timeout_started}
use Rattle.tcp_socket.specs.Receive.{FitsBuffer, or_done}
use Rattle.tcp_socket.specs.Socket.{IsTcb, if_open}

length-rotated : (n : ℕ) (xs : List ℕ) → length (rotated n xs) ≡ length xs
length-rotated n xs = rw (length-append, length-drop, length-take) (omega arith)

-- THE SEND RING

pub fits_cleared : (r : Ring ℕ) → FitsBuffer r → FitsBuffer (cleared r)
fits_cleared r fits = rw (length-rotated (capacity r - r.start) (r.queue ++ r.free), length-append) (omega (arith, fits))

pub fits_anchored : (r : Ring ℕ) → FitsBuffer r → FitsBuffer (anchored r)
fits_anchored r fits =
    elim (length r.queue == 0) as (λ v. FitsBuffer (if v then cleared r else r)) [ true ↦ fits_cleared r fits | false ↦ fits ]

pub fits_released : (r : Ring ℕ) (n : ℕ) → n ≤ length r.queue → FitsBuffer r → FitsBuffer (released r n)
fits_released r n within fits = rw (length-append, length-drop, length-take-le n r.queue within) (omega (arith, fits))

pub fits_enqueued : (r : Ring ℕ) (ws : List ℕ) → length ws ≤ length r.free → FitsBuffer r → FitsBuffer (enqueued r ws)
fits_enqueued r ws within fits = rw (length-append, length-drop) (omega (arith, fits, within))

pub fits_overwritten : (r : Ring ℕ) (ws : List ℕ) → length ws ≤ length r.free → FitsBuffer r → FitsBuffer (overwritten r 0 ws)
fits_overwritten r ws within fits = simp (length-append, length-drop, length-take) (omega (arith, fits, within))

pub fits_extended : (r : Ring ℕ) (n : ℕ) → FitsBuffer r → FitsBuffer (extended r n)
fits_extended r n fits = rw (length-append, length-drop, length-take) (omega (arith, fits))

free_anchored : (r : Ring ℕ) → length r.free ≤ length (anchored r).free
free_anchored r =
    elim (length r.queue == 0) as (λ v. length r.free ≤ length (if v then cleared r else r).free) [
      | true ↦ rw (length-rotated (capacity r - r.start) (r.queue ++ r.free), length-append) (omega arith)
      | false ↦ omega arith
    ]

-- as many bytes queued as there is room for
pub fits_queued : (r : Ring ℕ) (n : ℕ) (bytes : List ℕ) → n ≡ min (length bytes) (length r.free) → FitsBuffer r →
    FitsBuffer (enqueued (anchored r) (take n bytes))
fits_queued r n bytes size fits =
    let room = free_anchored r in
    fits_enqueued (anchored r) (take n bytes) (rw length-take (omega (arith, size, room))) (fits_anchored r fits)

-- bytes that were written to what `send` lends, of which so many are queued
pub fits_sent : (r : Ring ℕ) (left : List ℕ) (n : ℕ) → length left ≡ contiguous (anchored r) → FitsBuffer r →
    FitsBuffer (extended (overwritten (anchored r) 0 left) n)
fits_sent r left n size fits =
    let within : length left ≤ length (anchored r).free = omega (arith, size) in
    fits_extended (overwritten (anchored r) 0 left) n (fits_overwritten (anchored r) left within (fits_anchored r fits))

-- THE CONTROL BLOCK

-- a start that is kept or forgotten is an instant where it was one
pub start_kept : (test : Bool) (since : Option ℤ) → IfSome since IsMoment → IfSome (if test then since else None) IsMoment
start_kept true since is = is
start_kept false since is = tt

pub start_set : (test : Bool) (now : ℤ) → IsMoment now → IfSome (if test then Some now else None) IsMoment
start_set true now is = is
start_set false now is = tt

pub start_made : (test : Bool) (now : ℤ) (since : Option ℤ) → IsMoment now → IfSome since IsMoment → IfSome (if test then Some now else since) IsMoment
start_made true now since is old = is
start_made false now since is old = old

pub kept_timeout : (b : Tcb) (queued : ℕ) → IsTcb b → IsTcb (timeout_kept b queued)
kept_timeout b queued is = record { start = start_kept (timeout_runs b queued) b.timers.timeout_since is.start; mss = is.mss }

kept_if : (test : Bool) (a b : Tcb) → IsTcb a → IsTcb b → IsTcb (if test then a else b)
kept_if true a b is other = is
kept_if false a b is other = other

-- the user timeout starts, and the retransmission timer may have run out, or a loss probe be due
pub kept_going : (b : Tcb) (now : ℤ) (queued : ℕ) → IsMoment now → IsTcb b → IsTcb (backed_off now (timeout_started now queued b))
kept_going b now queued instant is =
    let started : IsTcb (timeout_started now queued b) =
    record { start = start_made (is_timeout_unset b queued) now b.timers.timeout_since instant is.start; mss = is.mss } in
    let was_sent : IsTcb (backed_off_now (timeout_started now queued b)) = record { start = started.start; mss = is.mss } in
    let probed : IsTcb (loss_probed (timeout_started now queued b)) = record { start = started.start; mss = is.mss } in
    kept_if (is_due now b.timers.retransmit_at) (backed_off_now (timeout_started now queued b)) (loss_probed_by now (timeout_started now queued b)) was_sent
    (kept_if (is_due now (loss_probe_deadline b)) (loss_probed (timeout_started now queued b)) (timeout_started now queued b) probed started)

-- ANSWERS

-- what isn't refused
pub is_allowed : (test : Bool) → if_open test ≡ Ok tt → test ≡ true
is_allowed true same = refl
is_allowed false same = absurd (cc)

pub none_refuses : (refusal : Option RecvError) → or_done refusal ≡ Ok tt → refusal ≡ None
none_refuses None same = refl
none_refuses (Some e) same = absurd (cc)

pub read_answer : (refusal : Option RecvError) (count most : ℕ) → refusal ≡ None → count ≡ most → Ok count ≡ or_count refusal most
read_answer None count most is same = ap (λ (n : ℕ). or_count None n) same
read_answer (Some e) count most is same = absurd (cc)
