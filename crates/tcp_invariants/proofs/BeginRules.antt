-- Where no recovery begins again, where the wait for what may be late stays, and the window that a connection begins with.
use Rattle.std.proofs.Common.{◌≡◌, ℕ, ◌+◌, ◌==◌, not, ◌&&◌, ◌||◌, min, ℤ, Bool, true, false, if◌then◌else◌, Some, is_none}
use Rattle.std.proofs.Common.{refl, sym, ap, ◌∙◌}
use Rattle.ip_wire.specs.TcpHeader.{TcpHeader}
use Rattle.tcp_state.specs.Moments.{later}
use Rattle.tcp_state.specs.Reno as reno
use Rattle.tcp_state.specs.Reno.{RenoValue, first_window}
use Rattle.tcp_state.specs.RoundTrip.{late_wait}
use Rattle.tcp_state.specs.Scoreboard.{is_empty}
use Rattle.tcp_block.specs.Acknowledged.{acks_local_syn, acks_in_recovery, recovery_after, freed_by, srtt_after, una_moved}
use Rattle.tcp_block.specs.Acknowledged.{begins_recovery, counted, is_lost_since, is_missed, is_third}
use Rattle.tcp_block.specs.LossRecovery.{is_first_lost, is_passed, may_be_late}
use Rattle.tcp_block.specs.Rules.{backed_off_now}
use Rattle.tcp_block.specs.Undone.{is_needless, reo_wnd_raised, undone}
use Rattle.tcp_block.specs.Validation.{grown_if_used}
use Rattle.tcp_block.specs.declared.tcb.Tcb.{Tcb}
use Rattle.tcp_invariants.proofs.OrderSteps.{clash}

-- NO RECOVERY BEGINS AGAIN

module _ (b : Tcb) (count : ℕ) (over : b.sender.recover ≡ 0) (again : (b.loss.resent == 0) ≡ false) (passed : is_passed b b.loss.mark ≡ false) where
  missed_not : is_missed b count ≡ false
  missed_not =
      none (b.sender.recover == 0) (b.loss.resent == 0) (is_passed b b.loss.mark) ((count == 3) || is_first_lost b) again passed
    where
      none : (zero same passed rest : Bool) → same ≡ false → passed ≡ false → ((zero && (same || passed)) && rest) ≡ false
      none false same passed rest e f = refl
      none true false false rest e f = refl
      none true false true rest e f = clash f
      none true true passed rest e f = clash e

  since_not : is_lost_since b ≡ false
  since_not = ap (λ (n : ℕ). not (n == 0) && (b.peer.sack && (not b.reno.recovers && is_passed b n))) over

  third_not : is_third b count ≡ false
  third_not = ap (λ (n : ℕ). (count == 3) && (not b.reno.recovers && not (n == 0))) over ∙ never (count == 3) (not b.reno.recovers) where
    never : (a c : Bool) → (a && (c && false)) ≡ false
    never true true = refl
    never true false = refl
    never false c = refl

  pub begins_not : begins_recovery b count ≡ false
  begins_not = none (is_missed b count) (may_be_late b) (is_lost_since b) missed_not since_not where
    none : (missed late since : Bool) → missed ≡ false → since ≡ false → ((missed && not late) || since) ≡ false
    none false late false e f = refl
    none false late true e f = clash f
    none true late since e f = clash e

  pub again_not : (now : ℤ) → (counted b count now).sender.resend ≡ b.sender.resend
  again_not now = none b.sender.resend (is_third b count) (begins_recovery b count) third_not begins_not where
    none : (resend third begins : Bool) → third ≡ false → begins ≡ false → (resend || (third || begins)) ≡ resend
    none true false false e f = refl
    none false false false e f = refl
    none resend true begins e f = clash e
    none resend false true e f = clash f

  pub waits_not : (now : ℤ) → (counted b count now).loss.reorder_until ≡ b.loss.reorder_until
  waits_not now = none (is_none b.loss.reorder_until) (is_missed b count) (may_be_late b) missed_not where
    none : (unset missed late : Bool) → missed ≡ false
        → (if unset && (missed && late) then Some (later now (late_wait b.round_trip b.loss.reo_wnd_mult)) else b.loss.reorder_until) ≡ b.loss.reorder_until
    none true false late e = refl
    none false missed late e = refl
    none true true late e = clash e

pub not_begun : (b : Tcb) (count : ℕ) → b.sender.recover ≡ 0 → (b.loss.resent == 0) ≡ false → is_passed b b.loss.mark ≡ false
    → begins_recovery b count ≡ false
not_begun b count over again passed = begins_not b count over again passed

pub not_again : (b : Tcb) (count : ℕ) (now : ℤ) → b.sender.recover ≡ 0 → (b.loss.resent == 0) ≡ false → is_passed b b.loss.mark ≡ false
    → (counted b count now).sender.resend ≡ b.sender.resend
not_again b count now over again passed = again_not b count over again passed now

pub not_waited : (b : Tcb) (count : ℕ) (now : ℤ) → b.sender.recover ≡ 0 → (b.loss.resent == 0) ≡ false → is_passed b b.loss.mark ≡ false
    → (counted b count now).loss.reorder_until ≡ b.loss.reorder_until
not_waited b count now over again passed = waits_not b count over again passed now

-- PATIENCE

patient : (b : Tcb) (needless early : Bool) → early ≡ false → (if needless && early then reo_wnd_raised b.loss else b.loss.reo_wnd_mult) ≡ b.loss.reo_wnd_mult
patient b true false e = refl
patient b false early e = refl
patient b true true e = clash e

pub patience_empty : (b : Tcb) (header : TcpHeader) (by queued : ℕ) → is_empty b.loss.board.runs ≡ true
    → (undone b header by queued).loss.reo_wnd_mult ≡ b.loss.reo_wnd_mult
patience_empty b header by queued empty =
    patient b (is_needless b header by queued) (b.reno.recovers && not (is_empty b.loss.board.runs))
    (none b.reno.recovers (is_empty b.loss.board.runs) empty)
  where
    none : (a e : Bool) → e ≡ true → (a && not e) ≡ false
    none true true e = refl
    none false x e = refl
    none true false e = clash (sym e)

pub patience_outside : (b : Tcb) (header : TcpHeader) (by queued : ℕ) → b.reno.recovers ≡ false
    → (undone b header by queued).loss.reo_wnd_mult ≡ b.loss.reo_wnd_mult
patience_outside b header by queued outside =
    patient b (is_needless b header by queued) (b.reno.recovers && not (is_empty b.loss.board.runs))
    (ap (λ (t : Bool). t && not (is_empty b.loss.board.runs)) outside)

-- THE FIRST WINDOW

started : (b : Tcb) (by queued : ℕ) (now : ℤ) → acks_local_syn b by ≡ true
    → (una_moved b by queued now).reno.cwnd ≡ (if b.sender.syn_lost then b.reno.mss else first_window b.reno.mss)
started b by queued now acks = ap (λ (t : Bool). (if t then reno.started b.reno b.sender.syn_lost else others).cwnd) acks where
  others : RenoValue
  others = if acks_in_recovery b by then recovery_after b by queued else grown_if_used b (freed_by b by queued) now (srtt_after b by now)

pub begins_wide : (b : Tcb) (by queued : ℕ) (now : ℤ) → acks_local_syn b by ≡ true → b.sender.syn_lost ≡ false
    → (una_moved b by queued now).reno.cwnd ≡ first_window b.reno.mss
begins_wide b by queued now acks none =
    started b by queued now acks ∙ ap (λ (t : Bool). if t then b.reno.mss else first_window b.reno.mss) none

pub begins_small : (b : Tcb) (by queued : ℕ) (now : ℤ) → acks_local_syn b by ≡ true → b.sender.syn_lost ≡ true
    → (una_moved b by queued now).reno.cwnd ≡ b.reno.mss
begins_small b by queued now acks lost =
    started b by queued now acks ∙ ap (λ (t : Bool). if t then b.reno.mss else first_window b.reno.mss) lost

pub notes_lost : (b : Tcb) → b.sender.syn_unacked ≡ true → (backed_off_now b).sender.syn_lost ≡ true
notes_lost b unacked = ap (λ (t : Bool). b.sender.syn_lost || t) unacked ∙ or_true b.sender.syn_lost where
  or_true : (t : Bool) → (t || true) ≡ true
  or_true true = refl
  or_true false = refl
