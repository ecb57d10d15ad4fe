-- What an event does, by the calls of the side that it is for.
use Rattle.std.proofs.Common.{◌≡◌, ℕ, ◌+◌, ℤ, Bool, List, Result, Ok, Err, IfOk, OnOk, sym, ap, ◌∙◌, subst, arith}
use Rattle.tcp_refinement.specs.declared.pair.event.PairAnswer.{PairAnswer}
use Rattle.tcp_refinement.specs.declared.pair.event.PairAnswer.TheVariants.{Done}
use Rattle.tcp_refinement.specs.declared.pair.event.PairEvent.{PairEvent}
use Rattle.tcp_refinement.specs.declared.pair.event.PairEvent.TheVariants.{Offer}
use Rattle.tcp_refinement.specs.declared.pair.event.SentSegment.{SentSegment}
use Rattle.tcp_refinement.specs.declared.pair.event.Side.{Side}
use Rattle.tcp_refinement.specs.declared.pair.event.Side.TheVariants.{A, B}
use Rattle.tcp_refinement.specs.Pair.History.{side_of}
use Rattle.tcp_refinement.specs.Pair.Sides.{Both, at, put, other}
use Rattle.tcp_refinement.specs.Pair.Steps.{acts, offered_at}
use Rattle.tcp_pair.specs.Ends.{EndValue, after_event, ends_after, on_host, with_own}

-- a side is asked
pub asked :
    (e new : EndValue) (others : List SentSegment) (event : PairEvent) (side : Side) (instant : ℤ) (sent : Bool) → event ≡ Offer side instant sent
    → side_of event ≡ e.side → new ≡ with_own e (offered_at e.side (record (on_host e) { instant = instant }) sent)
    → new ≡ after_event e others event Done
asked e new others event side instant sent is at after =
    subst (λ (x : PairEvent). new ≡ after_event e others x Done) (sym is)
    (after
    ∙ (ap (λ (s : Side). with_own e (offered_at s (record (on_host e) { instant = instant }) sent)) (sym (sym (ap side_of is) ∙ at))
    ∙ ap (λ (n : ℕ). record (with_own e (offered_at side (record (on_host e) { instant = instant }) sent)) { accepted = n }) (none_more e.accepted)))
  where
    none_more : (n : ℕ) → n ≡ n + 0
    none_more n = omega arith

-- both sides, where the event is for this one
abbrev ends_at : Both EndValue → PairEvent → Side → Both EndValue
ends_at ends event s =
    put ends s
    (after_event (at ends s) (at ends (other s)).own.sent event (acts (on_host (at ends s)) (at ends (other s)).own.sent event).answer)

module _ {E : Type 0} (r : Result (PairAnswer × PairAnswer) E) (a b new : EndValue) (others : List SentSegment) (event : PairEvent) where
  abbrev ends : Both EndValue
  ends = record { a = a; b = b }

  as_told : (e f : EndValue) (answer : PairAnswer) → others ≡ f.own.sent → new ≡ after_event e others event answer →
      answer ≡ (acts (on_host e) others event).answer → new ≡ after_event e f.own.sent event (acts (on_host e) f.own.sent event).answer
  as_told e f answer sent after told =
      after
      ∙ (ap (after_event e others event) told
      ∙ ap (λ (xs : List SentSegment). after_event e xs event (acts (on_host e) xs event).answer) sent)

  pub after_a : side_of event ≡ A → others ≡ b.own.sent → IfOk r (λ x. new ≡ after_event a others event x.0) →
      IfOk r (λ x. x.0 ≡ (acts (on_host a) others event).answer) → OnOk r (record ends { a = new } ≡ ends_after ends event)
  after_a on sent after told = by r after told where
    by : (r : Result (PairAnswer × PairAnswer) E) → IfOk r (λ x. new ≡ after_event a others event x.0) →
        IfOk r (λ x. x.0 ≡ (acts (on_host a) others event).answer) → OnOk r (record ends { a = new } ≡ ends_after ends event)
    by (Ok x) after told = ap (λ (e : EndValue). record ends { a = e }) (as_told a b x.0 sent after told) ∙ sym (ap (ends_at ends event) on)
    by (Err e) after told = tt

  pub after_b : side_of event ≡ B → others ≡ a.own.sent → IfOk r (λ x. new ≡ after_event b others event x.0) →
      IfOk r (λ x. x.0 ≡ (acts (on_host b) others event).answer) → OnOk r (record ends { b = new } ≡ ends_after ends event)
  after_b on sent after told = by r after told where
    by : (r : Result (PairAnswer × PairAnswer) E) → IfOk r (λ x. new ≡ after_event b others event x.0) →
        IfOk r (λ x. x.0 ≡ (acts (on_host b) others event).answer) → OnOk r (record ends { b = new } ≡ ends_after ends event)
    by (Ok x) after told = ap (λ (e : EndValue). record ends { b = e }) (as_told b a x.0 sent after told) ∙ sym (ap (ends_at ends event) on)
    by (Err e) after told = tt
