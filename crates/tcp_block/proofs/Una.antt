-- SND.UNA rises, step by step.
use Rattle.std.proofs.Common.{◌≡◌, ℕ, ◌-◌, ◌/◌, ◌==◌, ◌&&◌, ◌||◌, ℤ, Bool, true, false, if◌then◌else◌, Option, refl, sym, ap, ◌∙◌}
use Rattle.tcp_state.specs.Reno as reno
use Rattle.tcp_state.specs.Reno.{RenoValue}
use Rattle.tcp_state.specs.RoundTrip as round_trip
use Rattle.tcp_state.specs.RoundTrip.{RoundTripValue, srtt}
use Rattle.tcp_block.specs.Acknowledged.{freed_by, sender_moved, retransmit_after, acks_local_syn, round_trip_after, srtt_after, acks_in_recovery, is_partial}
use Rattle.tcp_block.specs.Acknowledged.{is_blind, recovery_after, reno_after, una_risen, una_moved}
use Rattle.tcp_block.specs.LossRecovery.{loss_acked}
use Rattle.tcp_block.specs.Validation.{is_used, grown_if_used, validation_after}
use Rattle.tcp_block.specs.declared.tcb.Tcb.{Tcb}
use Rattle.tcp_block.specs.declared.tcb.Validation.{Validation}

-- of two windows the first, or the second
first_of : (t : Bool) (x y : RenoValue) → t ≡ true → x ≡ (if t then x else y)
first_of true x y is = refl
first_of false x y is = absurd (cc)

second_of : (t : Bool) (x y : RenoValue) → t ≡ false → y ≡ (if t then x else y)
second_of true x y is = absurd (cc)
second_of false x y is = refl

-- THE WINDOW GROWS IF IT IS USED

pub grows : (b : Tcb) (w : RenoValue) (count rtt : ℕ) (now : ℤ) → is_used b ≡ true → w ≡ reno.acknowledged b.reno count now rtt
    → rtt ≡ srtt b.round_trip / 1000 → w ≡ grown_if_used b count now (srtt b.round_trip / 1000)
grows b w count rtt now used w_is rtt_is =
    w_is ∙ ap (λ (n : ℕ). reno.acknowledged b.reno count now n) rtt_is
    ∙ first_of (is_used b) (reno.acknowledged b.reno count now (srtt b.round_trip / 1000)) (reno.preserved b.reno count) used

pub stays : (b : Tcb) (w : RenoValue) (count rtt : ℕ) (now : ℤ) → is_used b ≡ false → w ≡ reno.preserved b.reno count → w ≡ grown_if_used b count now rtt
stays b w count rtt now unused w_is =
    w_is ∙ second_of (is_used b) (reno.acknowledged b.reno count now rtt) (reno.preserved b.reno count) unused

-- WHAT ROUND TRIP AND CONGESTION CONTROL LEARN

abbrev learnt : Tcb → RoundTripValue → RenoValue → Tcb
learnt b r w = record b { round_trip = r; reno = w }

abbrev pub una_timed : Tcb → ℕ → ℕ → ℤ → Tcb
una_timed b by queued now = learnt b (round_trip_after b by now) (reno_after b by queued now)

abbrev advanced : Tcb → ℕ → ℤ → RoundTripValue
advanced b by now = round_trip.advanced b.settings.fine_timer b.round_trip by now

abbrev in_recovery_or_not : Tcb → ℕ → ℕ → ℤ → RenoValue
in_recovery_or_not b by queued now =
    if acks_in_recovery b by then recovery_after b by queued else grown_if_used b (freed_by b by queued) now (srtt_after b by now)

begins : (t lost : Bool) (b : Tcb) (late r : RoundTripValue) (first other : RenoValue) → t ≡ true
    → learnt b (if lost then late else r) first ≡ learnt b (if t && lost then late else r) (if t then first else other)
begins true lost b late r first other is = refl
begins false lost b late r first other is = absurd (cc)

proceeds : (t lost : Bool) (b : Tcb) (late r : RoundTripValue) (first other : RenoValue) → t ≡ false
    → learnt b r other ≡ learnt b (if t && lost then late else r) (if t then first else other)
proceeds true lost b late r first other is = absurd (cc)
proceeds false lost b late r first other is = refl

-- the connection begins
pub timed_first : (b w : Tcb) (r : RoundTripValue) (by queued : ℕ) (now : ℤ) → acks_local_syn b by ≡ true → r ≡ advanced b by now
    → w ≡ learnt b (if b.sender.syn_lost then round_trip.begun_late r else r) (reno.started b.reno b.sender.syn_lost) → w ≡ una_timed b by queued now
timed_first b w r by queued now first r_is w_is =
    w_is
    ∙ ap (λ (x : RoundTripValue). learnt b (if b.sender.syn_lost then round_trip.begun_late x else x) (reno.started b.reno b.sender.syn_lost)) r_is
    ∙ begins (acks_local_syn b by) b.sender.syn_lost b (round_trip.begun_late (advanced b by now)) (advanced b by now)
    (reno.started b.reno b.sender.syn_lost) (in_recovery_or_not b by queued now) first

further : (b : Tcb) (by queued : ℕ) (now : ℤ) → acks_local_syn b by ≡ false
    → learnt b (advanced b by now) (in_recovery_or_not b by queued now) ≡ una_timed b by queued now
further b by queued now no_syn =
    proceeds (acks_local_syn b by) b.sender.syn_lost b (round_trip.begun_late (advanced b by now)) (advanced b by now)
    (reno.started b.reno b.sender.syn_lost) (in_recovery_or_not b by queued now) no_syn

-- recovery goes on, or ends
pub timed_in_recovery : (b w : Tcb) (r : RoundTripValue) (by queued : ℕ) (now : ℤ) → acks_local_syn b by ≡ false → acks_in_recovery b by ≡ true
    → r ≡ advanced b by now → w ≡ learnt b r (recovery_after b by queued) → w ≡ una_timed b by queued now
timed_in_recovery b w r by queued now no_syn recovers r_is w_is =
    w_is ∙ ap (λ (x : RoundTripValue). learnt b x (recovery_after b by queued)) r_is
    ∙ ap (λ (x : RenoValue). learnt b (advanced b by now) x)
    (first_of (acks_in_recovery b by) (recovery_after b by queued) (grown_if_used b (freed_by b by queued) now (srtt_after b by now)) recovers)
    ∙ further b by queued now no_syn

-- no recovery is
pub timed_grown : (b w : Tcb) (r : RoundTripValue) (by queued freed : ℕ) (now : ℤ) → acks_local_syn b by ≡ false → acks_in_recovery b by ≡ false
    → r ≡ advanced b by now → freed ≡ freed_by b by queued → w ≡ learnt b r (grown_if_used b freed now (srtt r / 1000)) → w ≡ una_timed b by queued now
timed_grown b w r by queued freed now no_syn no_recovery r_is freed_is w_is =
    w_is ∙ ap (λ (x : RoundTripValue). learnt b x (grown_if_used b freed now (srtt x / 1000))) r_is
    ∙ ap (λ (n : ℕ). learnt b (advanced b by now) (grown_if_used b n now (srtt_after b by now))) freed_is
    ∙ ap (λ (x : RenoValue). learnt b (advanced b by now) x)
    (second_of (acks_in_recovery b by) (recovery_after b by queued) (grown_if_used b (freed_by b by queued) now (srtt_after b by now)) no_recovery)
    ∙ further b by queued now no_syn

-- SND.UNA RISES

abbrev with_flags : Tcb → Bool → Bool → Option ℤ → Tcb
with_flags b first blind instant = record b {
  sender = record b.sender { resend = b.sender.resend || first; partial = b.sender.partial || blind };
  timers = record b.timers { retransmit_at = instant };
}

abbrev moved_on : Tcb → Validation → ℕ → Tcb
moved_on b validation by = record b { validation = validation; sender = sender_moved b.sender by }

abbrev rises : Tcb → Validation → Bool → Bool → Bool → ℕ → ℤ → Tcb
rises b validation first blind again by now =
    with_flags (moved_on b validation by) first blind (retransmit_after b.timers by (b.sender.flight_size - by) again now b.round_trip)

pub raised : (b timed moved : Tcb) (validation : Validation) (instant : Option ℤ) (blind again first : Bool) (by queued : ℕ) (now : ℤ)
    → blind ≡ is_blind b by → again ≡ (b.sender.partial && blind) → first ≡ (is_partial b by && (b.loss.resent - by == 0))
    → validation ≡ validation_after b by now → timed ≡ una_timed b by queued now → moved ≡ moved_on timed validation by
    → instant ≡ retransmit_after moved.timers by moved.sender.flight_size again now moved.round_trip
    → with_flags moved first blind instant ≡ una_risen b by queued now
raised b timed moved validation instant blind again first by queued now blind_is again_is first_is validation_is timed_is moved_is instant_is =
    ap (λ (m : Option ℤ). with_flags moved first blind m) instant_is
    ∙ ap (λ (x : Tcb). with_flags x first blind (retransmit_after x.timers by x.sender.flight_size again now x.round_trip)) moved_is
    ∙ ap (λ (x : Tcb). rises x validation first blind again by now) timed_is
    ∙ ap (λ (v : Validation). rises (una_timed b by queued now) v first blind again by now) validation_is
    ∙ ap (λ (t : Bool). rises (una_timed b by queued now) (validation_after b by now) t blind again by now) first_is
    ∙ ap (λ (t : Bool). rises (una_timed b by queued now) (validation_after b by now) (is_partial b by && (b.loss.resent - by == 0)) blind t by now) again_is
    ∙ ap (λ (t : Bool). rises (una_timed b by queued now) (validation_after b by now) (is_partial b by && (b.loss.resent - by == 0)) t
    (b.sender.partial && t) by now) blind_is

-- it stays
pub kept : (b w : Tcb) (by queued : ℕ) (now : ℤ) → by ≡ 0 → w ≡ una_moved b 0 queued now → w ≡ una_moved b by queued now
kept b w by queued now none w_is = w_is ∙ ap (λ (n : ℕ). una_moved b n queued now) (sym none)

-- and what is known of losses follows
pub lowered : (b risen w : Tcb) (partial : Bool) (by queued : ℕ) (now : ℤ) → partial ≡ is_partial b by → risen ≡ una_risen b by queued now
    → w ≡ record risen { loss = loss_acked risen by partial now } → w ≡ una_moved b by queued now
lowered b risen w partial by queued now partial_is risen_is w_is =
    w_is ∙ ap (λ (x : Tcb). record x { loss = loss_acked x by partial now }) risen_is
    ∙ ap (λ (t : Bool). record (una_risen b by queued now) { loss = loss_acked (una_risen b by queued now) by t now }) partial_is
