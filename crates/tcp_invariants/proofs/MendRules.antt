-- What is retransmitted for a partial acknowledgement, when it counts as lost once more, and whether a loss is undone then.
use Rattle.std.proofs.Common.{◌≡◌, ℕ, ◌+◌, ◌-◌, ◌*◌, ◌/◌, ◌<◌, ◌≤◌, ◌==◌, nat_le, nat_lt, not, ◌&&◌, ◌||◌, min, max, ℤ, Bool, true, false, if◌then◌else◌}
use Rattle.std.proofs.Common.{None, refl, sym, ap, ◌∙◌, arith}
use Rattle.std.proofs.lemmas.Bool.{cond_both, le-leb, lt-ltb}
use Rattle.tcp_state.specs.Scoreboard.{sacked_from, missing}
use Rattle.tcp_state.specs.declared.offer.OfferKind.TheVariants as Kind
use Rattle.tcp_state.specs.declared.offer.OpenOffer.{OpenOffer}
use Rattle.tcp_block.specs.Acknowledged.{begins_recovery, counted, is_lost_since, is_missed, is_partial, una_moved, una_risen}
use Rattle.tcp_block.specs.LossRecovery.{credited_window, fills_hole, is_lost_again, is_passed, loss_lowered, may_be_late, mends_credited}
use Rattle.tcp_block.specs.LossRecovery.{mends_lost}
use Rattle.tcp_block.specs.LossRecovery.{is_rescue, loss_probed, next_hole, probe_armed, probe_begins, probe_from, probes_losses}
use Rattle.tcp_block.specs.Rules.{backed_off_now}
use Rattle.tcp_block.specs.Settled.{end_of, nxt_moved, resent, sent_as, timer_started}
use Rattle.tcp_block.specs.Undo.{undo_begun, undo_sent, window_kept}
use Rattle.tcp_block.specs.declared.tcb.Tcb.{Tcb}
use Rattle.tcp_block.specs.declared.tcb.Loss.{Loss}
use Rattle.tcp_invariants.proofs.BlindRules.{both, or_right}
use Rattle.tcp_invariants.proofs.OrderSteps.{clash}

-- TWO SEGMENTS FOR EACH PARTIAL ACKNOWLEDGEMENT

-- a probe changes nothing of it
armed_credit : (b : Tcb) (l : Loss) (now : ℤ) → (probe_armed b l now).credit ≡ l.credit
armed_credit b l now =
    cond_both (probes_losses b && not l.probed) (record l { probe_at = probe_from b now }) l (λ (m : Loss). m.credit ≡ l.credit) (λ _. refl) (λ _. refl)

left_true : (a b : Bool) → (a && b) ≡ true → a ≡ true
left_true true b e = refl
left_true false b e = clash (sym e)

right_true : (a b : Bool) → (a && b) ≡ true → b ≡ true
right_true true b e = e
right_true false b e = clash (sym e)

not_true : (a : Bool) → not a ≡ true → a ≡ false
not_true true e = clash (sym e)
not_true false e = refl

-- a partial acknowledgement is of something
some_partial : (b : Tcb) (by : ℕ) → is_partial b by ≡ true → (by == 0) ≡ false
some_partial b by e =
    not_true (by == 0)
    (right_true b.reno.recovers (not (by == 0)) (left_true (b.reno.recovers && not (by == 0)) (nat_lt (by + 1) b.sender.recover) e))

lowered_credit : (l : Loss) (by : ℕ) (partial : Bool) (amount : ℕ) → (if partial && not (l.resent == 0) then 2 else 0) ≡ amount
    → (loss_lowered l by partial).credit ≡ amount
lowered_credit l by partial amount e = e

acked_credit : (b : Tcb) (by queued amount : ℕ) (now : ℤ) → (by == 0) ≡ false
    → (loss_lowered b.loss by (is_partial b by)).credit ≡ amount → (una_moved b by queued now).loss.credit ≡ amount
acked_credit b by queued amount now some e =
    cond_both (by == 0) b.loss (probe_armed (una_risen b by queued now) (loss_lowered b.loss by (is_partial b by)) now)
    (λ (l : Loss). l.credit ≡ amount)
    (λ zero. clash (sym zero ∙ some))
    (λ _. armed_credit (una_risen b by queued now) (loss_lowered b.loss by (is_partial b by)) now ∙ e)

pub two_let : (b : Tcb) (by queued : ℕ) (now : ℤ) → is_partial b by ≡ true → (b.loss.resent == 0) ≡ false
    → (una_moved b by queued now).loss.credit ≡ 2
two_let b by queued now partial again =
    acked_credit b by queued 2 now (some_partial b by partial)
    (ap (λ (t : Bool). if t && not (b.loss.resent == 0) then 2 else 0) partial ∙ ap (λ (t : Bool). if not t then 2 else 0) again)

pub none_let : (b : Tcb) (by queued : ℕ) (now : ℤ) → (by == 0) ≡ false → is_partial b by ≡ false → (una_moved b by queued now).loss.credit ≡ 0
none_let b by queued now some whole =
    acked_credit b by queued 0 now some (ap (λ (t : Bool). if t && not (b.loss.resent == 0) then 2 else 0) whole)

pub one_taken : (b : Tcb) (o : OpenOffer) (queued : ℕ) → (sent_as Kind.FastRetransmission b o queued).loss.credit ≡ b.loss.credit - 1
one_taken b o queued = armed_credit c (record c.loss { undo = undo_sent c c.loss.undo o.instant }) o.instant where
  c : Tcb
  c = timer_started (nxt_moved (resent b (end_of b o)) (end_of b o) queued o.instant) o.instant

-- half of the window at least
half_credited : (b : Tcb) (n : ℕ) → n ≤ b.reno.cwnd / 2 → n ≤ credited_window b
half_credited b n e =
    cond_both (b.loss.credit == 1) (b.reno.cwnd / 2) b.reno.cwnd (λ (m : ℕ). n ≤ m) (λ _. e) (λ _. whole b.reno.cwnd n e)
  where
    whole : (window n : ℕ) → n ≤ window / 2 → n ≤ window
    whole window n e = omega arith

pub credited_goes : (b : Tcb) → b.peer.sack ≡ true → b.reno.recovers ≡ true → b.sender.syn_unacked ≡ false → next_hole b < b.sender.flight_size
    → (b.loss.credit == 0) ≡ false → next_hole b + 1 < b.sender.recover
    → missing b.loss.board.runs (min b.loss.resent b.sender.flight_size) + b.reno.mss ≤ b.reno.cwnd / 2 → fills_hole b ≡ true
credited_goes b sack recovers syn flies credit before room =
    both b.peer.sack _ sack
    (both b.reno.recovers _ recovers
    (both (not b.sender.syn_unacked) _ (ap not syn)
    (both (nat_lt (next_hole b) b.sender.flight_size) (mends_lost b || mends_credited b) (lt-ltb (next_hole b) b.sender.flight_size flies)
    (or_right (mends_lost b) (mends_credited b) credited))))
  where
    again : ℕ
    again = missing b.loss.board.runs (min b.loss.resent b.sender.flight_size) + b.reno.mss

    credited : mends_credited b ≡ true
    credited =
        both (not (b.loss.credit == 0)) _ (ap not credit)
        (both (nat_lt (next_hole b + 1) b.sender.recover) (nat_le again (credited_window b)) (lt-ltb (next_hole b + 1) b.sender.recover before)
        (le-leb again (credited_window b) (half_credited b again room)))

-- LOST ONCE MORE

-- so much is held of what went later
passed : (b : Tcb) (offset : ℕ) → 2 * b.reno.mss < sacked_from b.loss.board.runs offset → is_passed b offset ≡ true
passed b offset more =
    cond_both b.loss.dupthresh_one 1 3 (λ (n : ℕ). nat_lt ((n - 1) * b.reno.mss) (sacked_from b.loss.board.runs offset) ≡ true)
    (λ _. lt-ltb ((1 - 1) * b.reno.mss) (sacked_from b.loss.board.runs offset) (none b.reno.mss (sacked_from b.loss.board.runs offset) more))
    (λ _. lt-ltb ((3 - 1) * b.reno.mss) (sacked_from b.loss.board.runs offset) (two b.reno.mss (sacked_from b.loss.board.runs offset) more))
  where
    none : (mss n : ℕ) → 2 * mss < n → (1 - 1) * mss < n
    none mss n e = omega arith

    two : (mss n : ℕ) → 2 * mss < n → (3 - 1) * mss < n
    two mss n e = omega arith

pub lost_once_more : (b : Tcb) → b.peer.sack ≡ true → b.reno.recovers ≡ true → (b.loss.resent == 0) ≡ false
    → 2 * b.reno.mss < sacked_from b.loss.board.runs b.loss.mark → is_lost_again b ≡ true
lost_once_more b sack recovers again more =
    both b.peer.sack _ sack
    (both b.reno.recovers _ recovers
    (both (not (b.loss.resent == 0)) (is_passed b b.loss.mark) (ap not again) (passed b b.loss.mark more)))

pub lost_since : (b : Tcb) (count : ℕ) → b.peer.sack ≡ true → b.reno.recovers ≡ false → (b.sender.recover == 0) ≡ false
    → 2 * b.reno.mss < sacked_from b.loss.board.runs b.sender.recover → begins_recovery b count ≡ true
lost_since b count sack recovers out more =
    or_right (is_missed b count && not (may_be_late b)) (is_lost_since b)
    (both (not (b.sender.recover == 0)) _ (ap not out)
    (both b.peer.sack _ sack (both (not b.reno.recovers) (is_passed b b.sender.recover) (ap not recovers) (passed b b.sender.recover more))))

-- NO UNDO

not_kept : (b : Tcb) → (b.reno.recovers || b.reno.timed_out) ≡ false → (b.loss.resent == 0) ≡ false → undo_begun b ≡ None
not_kept b calm again =
    ap (λ (t : Bool). if t then b.loss.undo else if b.loss.resent == 0 then window_kept b else None) calm
    ∙ ap (λ (t : Bool). if t then window_kept b else None) again

pub recovery_stays : (b : Tcb) (count : ℕ) (now : ℤ) → (b.reno.recovers || b.reno.timed_out) ≡ false → (b.loss.resent == 0) ≡ false
    → begins_recovery b count ≡ true → (counted b count now).loss.undo ≡ None
recovery_stays b count now calm again begins = ap (λ (t : Bool). if t then undo_begun b else b.loss.undo) begins ∙ not_kept b calm again

pub timeout_stays : (b : Tcb) → b.sender.syn_unacked ≡ false → (b.reno.recovers || b.reno.timed_out) ≡ false → (b.loss.resent == 0) ≡ false
    → (backed_off_now b).loss.undo ≡ None
timeout_stays b syn calm again = ap (λ (t : Bool). if t then None else undo_begun b) syn ∙ not_kept b calm again

pub probe_stays : (b : Tcb) → (b.reno.recovers || b.reno.timed_out) ≡ false → (b.loss.resent == 0) ≡ false → probe_begins b ≡ true
    → (loss_probed b).loss.undo ≡ None
probe_stays b calm again begins = ap (λ (t : Bool). if t then undo_begun b else b.loss.undo) begins ∙ not_kept b calm again

armed_resent : (b : Tcb) (l : Loss) (now : ℤ) → (probe_armed b l now).resent ≡ l.resent
armed_resent b l now =
    cond_both (probes_losses b && not l.probed) (record l { probe_at = probe_from b now }) l (λ (m : Loss). m.resent ≡ l.resent) (λ _. refl) (λ _. refl)

pub first_noted : (b : Tcb) (o : OpenOffer) (queued : ℕ) → b.sender.resend ≡ true
    → (sent_as Kind.FastRetransmission b o queued).loss.resent ≡ max b.loss.resent (end_of b o)
first_noted b o queued first =
    armed_resent c (record c.loss { undo = undo_sent c c.loss.undo o.instant }) o.instant
    ∙ ap (λ (t : Bool). if t || (b.reno.recovers && not (b.loss.probes || is_rescue b)) then max b.loss.resent (end_of b o) else b.loss.resent) first
  where
    c : Tcb
    c = timer_started (nxt_moved (resent b (end_of b o)) (end_of b o) queued o.instant) o.instant
