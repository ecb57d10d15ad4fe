-- Blind acknowledgements leave the retransmission timer as it runs, and so does what is retransmitted between them.
use Rattle.std.proofs.Common.{◌≡◌, ℕ, ◌-◌, ◌==◌, ◌&&◌, ◌||◌, ℤ, Bool, true, false, if◌then◌else◌, Option, Some, None, is_some, List, [], ◌∷◌}
use Rattle.std.proofs.Common.{refl, ◌∙◌}
use Rattle.tcp_state.specs.declared.offer.OfferKind.TheVariants as Kind
use Rattle.tcp_state.specs.declared.offer.OpenOffer.{OpenOffer}
use Rattle.tcp_block.specs.Acknowledged.{is_blind, una_moved}
use Rattle.tcp_block.specs.LossRecovery.{is_first_lost}
use Rattle.tcp_block.specs.Settled.{sent_as, timer_rearmed}
use Rattle.tcp_block.specs.declared.tcb.Tcb.{Tcb}
use Rattle.tcp_invariants.specs.Blind.{Acked, after_all, AreBlind}

pub both : (a b : Bool) → a ≡ true → b ≡ true → (a && b) ≡ true
both true true p q = refl
both true false p q = q
both false b p q = p

or_left : (a b : Bool) → a ≡ true → (a || b) ≡ true
or_left true b p = refl
or_left false true p = refl
or_left false false p = p

pub or_right : (a b : Bool) → b ≡ true → (a || b) ≡ true
or_right true b p = refl
or_right false true p = refl
or_right false false p = p

-- a timer that isn't ended and stays
chosen : (zero none stays : Bool) (old new : Option ℤ) → none ≡ false → stays ≡ true
    → (if zero then old else if none then None else if stays then old else new) ≡ old
chosen true none stays old new p q = refl
chosen false true stays old new p q = let no = p in absurd (cc)
chosen false false true old new p q = refl
chosen false false false old new p q = let no = q in absurd (cc)

-- the first blind one is on record
pub first_kept : (b : Tcb) (ack : Acked) → is_blind b ack.by ≡ true → (una_moved b ack.by ack.queued ack.instant).sender.partial ≡ true
first_kept b ack blind = or_right b.sender.partial (is_blind b ack.by) blind

one_left : (b : Tcb) (ack : Acked) → b.sender.partial ≡ true → is_blind b ack.by ≡ true → (b.sender.flight_size - ack.by == 0) ≡ false
    → (una_moved b ack.by ack.queued ack.instant).timers.retransmit_at ≡ b.timers.retransmit_at
one_left b ack partial blind flies =
    chosen (ack.by == 0) (b.sender.flight_size - ack.by == 0) (b.sender.partial && is_blind b ack.by) b.timers.retransmit_at _ flies
    (both b.sender.partial (is_blind b ack.by) partial blind)

pub all_left : (b : Tcb) (acks : List Acked) → b.sender.partial ≡ true → AreBlind acks b
    → (after_all acks b).timers.retransmit_at ≡ b.timers.retransmit_at
all_left b [] partial are = refl
all_left b (ack ∷ more) partial are =
    all_left (una_moved b ack.by ack.queued ack.instant) more (or_left b.sender.partial (is_blind b ack.by) partial) are.2
    ∙ one_left b ack partial are.0 are.1

kept_unless : (recovers lost : Bool) (old : Option ℤ) → lost ≡ false → (if recovers && lost then None else old) ≡ old
kept_unless true true old p = let no = p in absurd (cc)
kept_unless true false old p = refl
kept_unless false lost old p = refl

runs_on : (timer : Option ℤ) (instant other : ℤ) → timer ≡ Some instant → (if is_some timer then timer else Some other) ≡ Some instant
runs_on (Some t) instant other p = p
runs_on None instant other p = let no = p in absurd (cc)

pub again_left : (b : Tcb) (o : OpenOffer) (queued : ℕ) (instant : ℤ) → is_first_lost b ≡ false → b.timers.retransmit_at ≡ Some instant
    → (sent_as Kind.FastRetransmission b o queued).timers.retransmit_at ≡ Some instant
again_left b o queued instant unknown runs =
    runs_on (timer_rearmed b) instant _ (kept_unless b.reno.recovers (is_first_lost b) b.timers.retransmit_at unknown ∙ runs)
