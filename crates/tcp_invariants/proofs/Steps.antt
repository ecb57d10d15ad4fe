-- What each step of a rule does to what is in flight.
use Rattle.std.proofs.Common.{◌≡◌, ℕ, ◌+◌, ◌-◌, ◌<◌, ◌≤◌, ◌==◌, min, max, ℤ, Bool, true, false, if◌then◌else◌, Option, Some, None, is_some, refl, sym, ap, ◌∙◌}
use Rattle.std.proofs.Common.{subst, arith}
use Rattle.std.proofs.lemmas.Bool.{cond_both, eqb-true}
use Rattle.tcp_state.specs.States.{is_closed, is_listening}
use Rattle.tcp_block.specs.Acknowledged.{tcb_acknowledged, ended_if, in_state, una_moved, state_after_ack}
use Rattle.tcp_block.specs.declared.tcb.Tcb.{Tcb}
use Rattle.tcp_invariants.specs.Flight.{Flight, flight_of, IsArmed, Rises}
use Rattle.tcp_invariants.proofs.Going.{Goes}

rises_not : (f : Flight) → Rises f f
rises_not f = λ _. (omega arith, omega arith)

-- nothing of it changes
pub same : (old new : Tcb) → flight_of new ≡ flight_of old → Goes old new
same old new e = record {
  armed = λ a. subst IsArmed (sym e) a;
  rises = λ _ _. subst (λ (f : Flight). Rises (flight_of old) f) (sym e) (rises_not (flight_of old));
}

-- and then nothing more
pub proceeds : (old mid new : Tcb) → Goes old mid → flight_of new ≡ flight_of mid → is_listening new.state ≡ is_listening mid.state → Goes old new
proceeds old mid new goes e listens = record {
  armed = λ a. subst IsArmed (sym e) (goes.armed a);
  rises = λ before after. subst (λ (f : Flight). Rises (flight_of old) f) (sym e) (goes.rises before (sym listens ∙ after));
}

-- and then SND.NXT moves further, if something is in flight
pub skips :
    (old mid new : Tcb) (further : ℕ) → Goes old mid → new.sender.flight_size ≡ (if mid.sender.flight_size == 0 then 0 else further)
    → new.sender.past_iss ≡ mid.sender.past_iss → new.sender.snd_max ≡ mid.sender.snd_max → new.timers.retransmit_at ≡ mid.timers.retransmit_at
    → is_listening new.state ≡ is_listening mid.state → Goes old new
skips old mid new further goes flight iss snd_max timer listens = record {
  armed = λ a some. ap is_some timer ∙ goes.armed a (before (mid.sender.flight_size == 0) refl some);
  rises = λ on after.
      subst (λ (p : ℕ). Far p new.sender.snd_max) (sym iss)
      (subst (λ (t : ℕ). Far mid.sender.past_iss t) (sym snd_max) (goes.rises on (sym listens ∙ after)));
}
  where
    Far : ℕ → ℕ → Type 0
    Far p t = p < 4_294_967_295 → (old.sender.past_iss ≤ p) × (old.sender.past_iss + old.sender.snd_max ≤ p + t)

    before : (t : Bool) → (mid.sender.flight_size == 0) ≡ t → (new.sender.flight_size == 0) ≡ false → (mid.sender.flight_size == 0) ≡ false
    before false e some = e
    before true e some =
        absurd (let none = flight ∙ ap (λ (t : Bool). if t then 0 else further) e in
        let clash : true ≡ false = sym (ap (λ (n : ℕ). n == 0) none) ∙ some in cc)

-- a step before which nothing changed
pub goes_from : (old mid new : Tcb) → flight_of mid ≡ flight_of old → is_listening mid.state ≡ is_listening old.state → Goes mid new → Goes old new
goes_from old mid new e listens goes = record {
  armed = λ a. goes.armed (subst IsArmed (sym e) a);
  rises = λ before after. subst (λ (f : Flight). Rises f (flight_of new)) e (goes.rises (listens ∙ before) after);
}

-- a listener begins again, with nothing in flight
pub anew : (old new : Tcb) → new.sender.flight_size ≡ 0 → is_listening new.state ≡ true → Goes old new
anew old new none listens = record {
  armed = λ _ some. absurd (let zero : (new.sender.flight_size == 0) ≡ true = ap (λ (n : ℕ). n == 0) none in let clash : true ≡ false = sym zero ∙ some in cc);
  rises = λ _ after. absurd (let clash : true ≡ false = sym listens ∙ after in cc);
}

-- AN ACKNOWLEDGEMENT

abbrev pub acked_flight : Flight → ℕ → Option ℤ → Flight
acked_flight f by instant = record {
  past_iss = min (f.past_iss + by) 4_294_967_295;
  flight_size = f.flight_size - by;
  snd_max = f.snd_max - by;
  retransmit_at = instant;
}

acked_rises : (f : Flight) (by : ℕ) (instant : Option ℤ) → Rises f (acked_flight f by instant)
acked_rises f by instant = λ counted. (omega (arith, counted), omega (arith, counted))

acked_armed :
    (f : Flight) (by : ℕ) (stays : Bool) (instant : ℤ) → IsArmed f
    → IsArmed (acked_flight f by (if by == 0 then f.retransmit_at else if f.flight_size - by == 0 then None else if stays then f.retransmit_at else Some instant))
acked_armed f by stays instant armed =
    cond_both (by == 0) f.retransmit_at (if f.flight_size - by == 0 then None else if stays then f.retransmit_at else Some instant)
    (λ (at : Option ℤ). (f.flight_size - by == 0) ≡ false → is_some at ≡ true)
    (λ none some. armed (sym (ap (λ (n : ℕ). n == 0) (left f.flight_size by (eqb-true by 0 none))) ∙ some))
    (λ _.
    cond_both (f.flight_size - by == 0) None (if stays then f.retransmit_at else Some instant) (λ (at : Option ℤ). (f.flight_size - by == 0) ≡ false →
    is_some at ≡ true)
    (λ none some. absurd (let clash : true ≡ false = sym none ∙ some in cc))
    (λ _ some.
    cond_both stays f.retransmit_at (Some instant) (λ (at : Option ℤ). is_some at ≡ true)
    (λ _. armed (before (f.flight_size == 0) refl some))
    (λ _. refl)))
  where
    left : (flight by : ℕ) → by ≡ 0 → flight - by ≡ flight
    left flight by e = omega arith

    none_left : (flight by : ℕ) → flight ≡ 0 → flight - by ≡ 0
    none_left flight by e = omega arith

    before : (test : Bool) → (f.flight_size == 0) ≡ test → (f.flight_size - by == 0) ≡ false → (f.flight_size == 0) ≡ false
    before false e some = e
    before true e some =
        absurd (let clash : true ≡ false = sym (ap (λ (n : ℕ). n == 0) (none_left f.flight_size by (eqb-true f.flight_size 0 e))) ∙ some in cc)

pub una_goes : (b : Tcb) (by queued : ℕ) (now : ℤ) (new : Tcb) → flight_of new ≡ flight_of (una_moved b by queued now) → Goes b new
una_goes b by queued now new e = record {
  armed = λ a. subst IsArmed (sym e) (acked_armed (flight_of b) by _ _ a);
  rises = λ _ _. subst (λ (f : Flight). Rises (flight_of b) f) (sym e) (acked_rises (flight_of b) by None);
}

pub acked_goes : (b : Tcb) (by queued : ℕ) (now : ℤ) → Goes b (tcb_acknowledged b by queued now)
acked_goes b by queued now = at (is_closed (state_after_ack b by queued)) where
  at : (test : Bool) → Goes b (ended_if test (in_state (una_moved b by queued now) (state_after_ack b by queued) now))
  at true = una_goes b by queued now (ended_if true (in_state (una_moved b by queued now) (state_after_ack b by queued) now)) refl
  at false = una_goes b by queued now (ended_if false (in_state (una_moved b by queued now) (state_after_ack b by queued) now)) refl

-- SENDING

-- the timer ran out
pub backs_off : (old new : Tcb) → new.sender.past_iss ≡ old.sender.past_iss → new.sender.flight_size ≡ 0 → new.sender.snd_max ≡ old.sender.snd_max → Goes old new
backs_off old new iss none snd_max = record {
  armed = λ _ some. absurd (let zero : (new.sender.flight_size == 0) ≡ true = ap (λ (n : ℕ). n == 0) none in let clash : true ≡ false = sym zero ∙ some in cc);
  rises = λ _ _ _. (omega arith, omega arith);
}

-- a segment goes that ends there, and the timer runs
pub sends : (old new : Tcb) (end : ℕ) → new.sender.past_iss ≡ old.sender.past_iss → new.sender.snd_max ≡ max old.sender.snd_max end →
    is_some new.timers.retransmit_at ≡ true → Goes old new
sends old new end iss snd_max runs = record {
  armed = λ _ _. runs;
  rises = λ _ _ _. (omega arith, omega arith);
}

-- a probe goes, and SND.NXT stays
pub probes :
    (old new : Tcb) (end : ℕ) → new.sender.past_iss ≡ old.sender.past_iss → new.sender.flight_size ≡ old.sender.flight_size →
    new.sender.snd_max ≡ max old.sender.snd_max end
    → new.timers.retransmit_at ≡ old.timers.retransmit_at → Goes old new
probes old new end iss flight snd_max timer = record {
  armed = λ armed some. ap is_some timer ∙ armed (sym (ap (λ (n : ℕ). n == 0) flight) ∙ some);
  rises = λ _ _ _. (omega arith, omega arith);
}

pub timer_runs : (at : Option ℤ) (instant : ℤ) → is_some (if is_some at then at else Some instant) ≡ true
timer_runs None instant = refl
timer_runs (Some m) instant = refl
