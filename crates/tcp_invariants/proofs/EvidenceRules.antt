-- A loss is undone on evidence alone.
use Rattle.std.proofs.Common.{◌≡◌, ◌≤◌, ◌<◌, ℕ, ◌-◌, ◌+◌, ◌==◌, ◌&&◌, not, nat_lt, min, ℤ, Bool, true, false, if◌then◌else◌, Option, Some, None, is_some}
use Rattle.std.proofs.Common.{refl, sym, ap, ◌∙◌, subst, arith}
use Rattle.std.proofs.lemmas.Bool.{cond_both, ltb-false}
use Rattle.ip_wire.specs.TcpHeader.{TcpHeader}
use Rattle.ip_wire.specs.TcpTimestampRepr.{TcpTimestampRepr}
use Rattle.tcp_state.specs.Reno as reno
use Rattle.tcp_state.specs.Reno.{RenoValue, most}
use Rattle.tcp_block.specs.Acknowledged.{acks_in_recovery, freed_by, recovery_after, una_moved, srtt_after}
use Rattle.tcp_block.specs.Timestamps.{uses_stamps}
use Rattle.tcp_block.specs.Undone.{answers_first, answers_undo, is_tsecr_before, is_needless, undone, undone_if}
use Rattle.tcp_block.specs.Validation.{grown_if_used, is_used}
use Rattle.tcp_block.specs.declared.tcb.Tcb.{Tcb}
use Rattle.tcp_block.specs.declared.tcb.Undo.{Undo}
use Rattle.tcp_invariants.proofs.OrderSteps.{clash}

and_false : (a b : Bool) → b ≡ false → (a && b) ≡ false
and_false true b e = e
and_false false b e = refl

unstamped : (b : Tcb) (header : TcpHeader) (tsval : Option ℕ) → is_some tsval ≡ true → header.options.timestamp ≡ None
    → answers_first tsval b header ≡ false
unstamped b header None some none = clash (sym some)
unstamped b header (Some tsval) some none =
    and_false (uses_stamps b) (is_tsecr_before header.options.timestamp tsval)
    (ap (λ (t : Option TcpTimestampRepr). is_tsecr_before t tsval) none)

without : (b : Tcb) (header : TcpHeader) (by queued : ℕ) (u : Undo) → b.loss.undo ≡ Some u → is_some u.tsval ≡ true
    → header.options.timestamp ≡ None → is_needless b header by queued ≡ false
without b header by queued u kept was_sent none =
    and_false (not (freed_by b by queued == 0)) (answers_undo b.loss.undo b header)
    (ap (λ (o : Option Undo). answers_undo o b header) kept ∙ unstamped b header u.tsval was_sent none)

pub silent : (b : Tcb) (header : TcpHeader) (by queued : ℕ) (u : Undo) → b.loss.undo ≡ Some u → is_some u.tsval ≡ true
    → header.options.timestamp ≡ None → undone b header by queued ≡ b
silent b header by queued u kept was_sent none = ap (λ (t : Bool). undone_if t b queued) (without b header by queued u kept was_sent none)

pub flight_left : (b : Tcb) (header : TcpHeader) (by queued : ℕ) (now : ℤ) (u : Undo) → b.loss.undo ≡ Some u → is_some u.tsval ≡ true
    → header.options.timestamp ≡ None → (una_moved (undone b header by queued) by queued now).sender.flight_size ≡ b.sender.flight_size - by
flight_left b header by queued now u kept was_sent none =
    ap (λ (c : Tcb). (una_moved c by queued now).sender.flight_size) (silent b header by queued u kept was_sent none)

-- in slow start
wider : (r : RenoValue) (count : ℕ) (now : ℤ) (rtt : ℕ) → r.cwnd < r.ssthresh → r.ssthresh ≤ most
    → r.cwnd ≤ (reno.acknowledged r count now rtt).cwnd
wider r count now rtt slow high =
    cond_both (count == 0) r (record r { cwnd = reno.widened r count now rtt; timed_out = false; cubic = reno.counted r count now })
    (λ (s : RenoValue). r.cwnd ≤ s.cwnd) (λ _. omega arith)
    (λ _. cond_both (nat_lt r.cwnd r.ssthresh) (min most (r.cwnd + reno.growth r count)) (reno.grown (reno.counted r count now) r count now rtt)
    (λ (w : ℕ). r.cwnd ≤ w) (λ _. up r.cwnd (reno.growth r count) r.ssthresh slow high) (λ not_slow. never r.cwnd r.ssthresh slow not_slow))
  where
    up : (w more high : ℕ) → w < high → high ≤ most → w ≤ min most (w + more)
    up w more high slow within = omega arith

    never : (w high : ℕ) → w < high → nat_lt w high ≡ false → w ≤ (reno.grown (reno.counted r count now) r count now rtt)
    never w high slow not_slow = let over : high ≤ w = ltb-false w high not_slow in absurd (omega (arith, slow, over))

grows : (b : Tcb) (count : ℕ) (now : ℤ) (rtt : ℕ) → b.reno.cwnd < b.reno.ssthresh → b.reno.ssthresh ≤ most
    → b.reno.cwnd ≤ (grown_if_used b count now rtt).cwnd
grows b count now rtt slow high =
    cond_both (is_used b) (reno.acknowledged b.reno count now rtt) (reno.preserved b.reno count) (λ (s : RenoValue). b.reno.cwnd ≤ s.cwnd)
    (λ _. wider b.reno count now rtt slow high)
    (λ _. cond_both (count == 0) b.reno (record b.reno { timed_out = false; cubic = reno.stopped b.reno.cubic })
    (λ (s : RenoValue). b.reno.cwnd ≤ s.cwnd) (λ _. omega arith) (λ _. omega arith))

risen : (b : Tcb) (by queued : ℕ) (now : ℤ) → b.sender.syn_unacked ≡ false → b.reno.recovers ≡ false
    → (una_moved b by queued now).reno ≡ grown_if_used b (freed_by b by queued) now (srtt_after b by now)
risen b by queued now acked outside =
    ap (λ (t : Bool). if t && not (by == 0) then reno.started b.reno b.sender.syn_lost
    else if acks_in_recovery b by then recovery_after b by queued
    else grown_if_used b (freed_by b by queued) now (srtt_after b by now)) acked
    ∙ ap (λ (t : Bool). if t && not (by == 0) then recovery_after b by queued
    else grown_if_used b (freed_by b by queued) now (srtt_after b by now)) outside

pub window_wide : (b : Tcb) (header : TcpHeader) (by queued : ℕ) (now : ℤ) (u : Undo) → b.loss.undo ≡ Some u → is_some u.tsval ≡ true
    → header.options.timestamp ≡ None → b.sender.syn_unacked ≡ false → b.reno.recovers ≡ false → b.reno.cwnd < b.reno.ssthresh
    → b.reno.ssthresh ≤ most → b.reno.cwnd ≤ (una_moved (undone b header by queued) by queued now).reno.cwnd
window_wide b header by queued now u kept was_sent none acked outside slow high =
    subst (λ (c : Tcb). b.reno.cwnd ≤ (una_moved c by queued now).reno.cwnd) (sym (silent b header by queued u kept was_sent none))
    (subst (λ (r : RenoValue). b.reno.cwnd ≤ r.cwnd) (sym (risen b by queued now acked outside))
    (grows b (freed_by b by queued) now (srtt_after b by now) slow high))
