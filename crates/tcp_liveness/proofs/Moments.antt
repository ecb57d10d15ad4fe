-- Instants of a pair: what its events make of the clocks, and of what their history tells.
use Rattle.std.proofs.Common.{◌≡◌, ℕ, zero, suc, ◌-◌, ◌&&◌, not, ℤ, pos, ◌≤ℤ◌, int_le, Bool, true, false, Option, Some, None, refl, sym, ◌∙◌, subst}
use Rattle.std.proofs.Common.{slice_get, arith}
use Rattle.std.proofs.lemmas.Bool.{cond_both}
use Rattle.net_base.specs.Time.{last_instant}
use Rattle.tcp_invariants.specs.Moments.{is_due}
use Rattle.tcp_invariants.proofs.OrderSteps.{clash}
use Rattle.tcp_block.specs.Arrival.{arrives}
use Rattle.tcp_refinement.specs.Pair.History.{side_of}
use Rattle.tcp_block.specs.Names.{accepts}
use Rattle.tcp_refinement.specs.Pair.Sides.{at, other}
use Rattle.tcp_refinement.specs.Pair.Steps.{handed, if_so as refused_if, may_come, refusal, taken_at}
use Rattle.tcp_refinement.specs.Pair.Values.{PairSide, PairValue, context_at}
use Rattle.tcp_refinement.specs.declared.pair.event.PairEvent.{PairEvent}
use Rattle.tcp_refinement.specs.declared.pair.event.PairEvent.TheVariants.{Listen, Connect, Send, Recv, Close, Abort, TcpSetting, Clock, Offer, Deliver}
use Rattle.tcp_refinement.specs.declared.pair.event.PairRefused.TheVariants.{Moment}
use Rattle.tcp_refinement.specs.declared.pair.event.SentSegment.{SentSegment}
use Rattle.tcp_refinement.specs.declared.pair.event.Side.{Side}
use Rattle.tcp_refinement.specs.declared.pair.event.Side.TheVariants.{A, B}
use Rattle.tcp_liveness.specs.Clocks.{HasDays, IsTimed}
use Rattle.tcp_liveness.specs.Pair.{exchanged_in, next_sent, offered_in}
use Rattle.tcp_liveness.specs.Rounds.{comes, takes}

-- EVENTS THAT ARE TAKEN

-- an instant that may come isn't before the last one
pub comes_later : (last instant : ℤ) → refused_if (not (may_come last instant)) Moment ≡ None → is_due instant (Some last) ≡ true
comes_later last instant e = third (int_le (pos 0) instant) (int_le instant (pos last_instant)) (int_le last instant) (so (may_come last instant) e) where
  so : (t : Bool) → refused_if (not t) Moment ≡ None → t ≡ true
  so true e = refl
  so false e = absurd (cc)

  third : (a b c : Bool) → (a && (b && c)) ≡ true → c ≡ true
  third true true c e = e
  third true false c e = clash (sym e)
  third false b c e = clash (sym e)

pub le_of : (a b : ℤ) → int_le a b ≡ true → a ≤ℤ b
le_of a b e = grind arith

-- the clock of the side doesn't go back
abbrev pub Proceeds : PairSide → PairEvent → Type 0
Proceeds s (Clock side instant) = s.instant ≤ℤ instant
Proceeds s (Offer side instant sent) = s.instant ≤ℤ instant
Proceeds s other = Unit {0}

-- an event that is taken
pub proceeds : (p : PairValue) (event : PairEvent) → refusal p event ≡ None → Proceeds (at p.sides (side_of event)) event
proceeds p (Offer side instant sent) e =
    le_of (at p.sides side).instant instant (comes_later (at p.sides side).instant instant e)
proceeds p (Listen side endpoint) e = tt
proceeds p (Connect side remote local) e = tt
proceeds p (Send side bytes) e = tt
proceeds p (Recv side count) e = tt
proceeds p (Close side) e = tt
proceeds p (Abort side) e = tt
proceeds p (TcpSetting side setting) e = tt
proceeds p (Clock side instant) e = le_of (at p.sides side).instant instant (comes_later (at p.sides side).instant instant e)
proceeds p (Deliver from k) e = tt

-- THE CLOCKS

pub handed_instant : (side : Side) (s : PairSide) (x : Option SentSegment) → (handed side s x).instant ≡ s.instant
handed_instant side s None = refl
handed_instant side s (Some x) =
    cond_both (accepts s.socket.tcb x.header x.segment) (taken_at s (arrives (context_at side s) s.socket x.header x.segment x.bytes)) s
    (λ (new : PairSide). new.instant ≡ s.instant) (λ _. refl) (λ _. refl)

abbrev pub clock : PairValue → Side → ℤ
clock p side = (at p.sides side).instant

come_clock : (p : PairValue) (from : Side) (k : ℕ) (side : Side) → clock (takes p (Deliver from k)) side ≡ clock p side
come_clock p A k A = refl
come_clock p A k B = handed_instant B p.sides.b (slice_get p.sides.a.sent k)
come_clock p B k A = handed_instant A p.sides.a (slice_get p.sides.b.sent k)
come_clock p B k B = refl

all_clock : (n : ℕ) (from : Side) (k : ℕ) (p : PairValue) (side : Side) → clock (comes n from k p) side ≡ clock p side
all_clock zero from k p side = refl
all_clock (suc n) from k p side = all_clock n from (suc k) (takes p (Deliver from k)) side ∙ come_clock p from k side

pub offer_clock : (p : PairValue) (side : Side) (instant : ℤ) →
    (clock (takes p (Offer side instant true)) side ≡ instant) × (clock (takes p (Offer side instant true)) (other side) ≡ clock p (other side))
offer_clock p A instant = (refl, refl)
offer_clock p B instant = (refl, refl)

pub exchange_clock : (p : PairValue) (side : Side) (instant : ℤ) (of : Side) → clock (exchanged_in p side instant) of ≡ clock (takes p (Offer side instant true)) of
exchange_clock p side instant of =
    all_clock (next_sent (offered_in p side instant) (other side) - next_sent p (other side)) (other side) (next_sent p (other side))
    (offered_in p side instant) of
    ∙ come_clock (takes p (Offer side instant true)) side (next_sent p side) of

-- THE HISTORY

pub apart : {A : Type 0} → (side : Side) → side ≡ other side → A
apart A e = absurd (cc)
apart B e = absurd (cc)

come_timed : (since : ℤ) (of : Side) (n : ℕ) (from : Side) (k : ℕ) (p : PairValue) → IsTimed since of p.history → IsTimed since of (comes n from k p).history
come_timed since of zero from k p t = t
come_timed since of (suc n) from k p t = come_timed since of n from (suc k) (takes p (Deliver from k)) (λ _. tt, t)

-- an exchange asks its side alone
pub exchange_timed :
    (since : ℤ) (of : Side) (p : PairValue) (side : Side) (instant : ℤ) → (side ≡ of → since ≤ℤ instant) → IsTimed since of p.history
    → IsTimed since of (exchanged_in p side instant).history
exchange_timed since of p side instant asked t =
    come_timed since of (next_sent (offered_in p side instant) (other side) - next_sent p (other side)) (other side) (next_sent p (other side))
    (offered_in p side instant) (λ _. tt, (asked, t))

-- an event of the other side leaves what this one's history says of its time
pub asked_days : (p : PairValue) (side : Side) (instant last : ℤ) → HasDays p side last → HasDays (takes p (Offer (other side) instant true)) side last
asked_days p A instant last d = record {
  since = d.since;
  begun = d.begun;
  asked = d.asked;
  timed = (λ e. apart A (sym e), d.timed);
  within = d.within;
}
asked_days p B instant last d = record {
  since = d.since;
  begun = d.begun;
  asked = d.asked;
  timed = (λ e. apart B (sym e), d.timed);
  within = d.within;
}

-- nor does what comes
come_days : (p : PairValue) (from : Side) (k : ℕ) (side : Side) (last : ℤ) → HasDays p side last → HasDays (takes p (Deliver from k)) side last
come_days p from k side last d = record {
  since = d.since;
  begun = d.begun;
  asked = subst (λ (t : ℤ). d.since ≤ℤ t) (sym (come_clock p from k side)) d.asked;
  timed = (λ _. tt, d.timed);
  within = d.within;
}

pub offered_days : (p : PairValue) (side : Side) (instant last : ℤ) → HasDays p side last → HasDays (offered_in p (other side) instant) side last
offered_days p side instant last d =
    come_days (takes p (Offer (other side) instant true)) (other side) (next_sent p (other side)) side last (asked_days p side instant last d)
