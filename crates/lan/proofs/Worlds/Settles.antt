-- Worlds that go on by what a good link and served hosts do, round by round.
use Rattle.std.proofs.Common.{◌≡◌, ℕ, zero, suc, ◌+◌, ◌-◌, ◌<◌, ℤ, List, [], ◌∷◌, ◌++◌, refl, sym, subst, ap, ◌∙◌, inl, inr, ◌≤◌, add-one, arith, Option, Some, None, Result, Ok, Err, IfErr, IfOk, OnErr, option_map}
use Rattle.std.specs.List.{AllByRecursion}
use Rattle.std.specs.Int.{int_max}
use Rattle.interface.specs.Instant.{earlier}
use Rattle.lan.specs.declared.at_link.history.answer.Answer.{Answer}
use Rattle.lan.specs.declared.at_link.history.answer.Answer.TheVariants as To
use Rattle.lan.specs.declared.at_link.history.answer.Refused.{Refused}
use Rattle.lan.specs.declared.at_link.history.event.Event.{Event}
use Rattle.lan.specs.declared.at_link.history.event.Event.TheVariants as E
use Rattle.lan.specs.declared.at_link.history.event.Side.{Side}
use Rattle.lan.specs.Worlds.AtLink.Runs.{Step, Steps, WorldValue}
use Rattle.lan.specs.Worlds.Settling.{AreIdle, AreServed, Goes, Handed, IsService, NextRound, Rounds, Settles, Stops, deliveries}

pub goes_not : (w : WorldValue) → Goes w w
goes_not w = ([], tt, refl)

pub served : (old new : WorldValue) (event : Event) (answer : Answer) → IsService event → Step old event answer new → Goes old new
served old new event answer is step = (event ∷ [], (is, tt), (answer, new, step, refl))

all_of_both : (xs ys : List Event) → AllByRecursion IsService xs → AllByRecursion IsService ys → AllByRecursion IsService (xs ++ ys)
all_of_both [] ys one two = two
all_of_both (x ∷ xs) ys one two = (one.0, all_of_both xs ys one.1 two)

steps_of_both : (old mid new : WorldValue) (xs ys : List Event) → Steps old xs mid → Steps mid ys new → Steps old (xs ++ ys) new
steps_of_both old mid new [] ys is steps = subst (λ (w : WorldValue). Steps w ys new) is steps
steps_of_both old mid new (x ∷ xs) ys before steps = (before.0, before.1, before.2, steps_of_both before.1 mid new xs ys before.3 steps)

pub proceeds : (old mid new : WorldValue) → Goes old mid → Goes mid new → Goes old new
proceeds old mid new (xs, are, steps) (ys, are_too, more) = (xs ++ ys, all_of_both xs ys are are_too, steps_of_both old mid new xs ys steps more)

-- an event that isn't taken leaves all as it was
pub served_or_not : (old new : WorldValue) (event : Event) (r : Result Answer Refused) → IsService event
    → IfOk r (λ answer. Step old event answer new) → OnErr r (new ≡ old) → Goes old new
served_or_not old new event (Ok answer) is step same = served old new event answer is step
served_or_not old new event (Err refused) is step same = subst (λ (w : WorldValue). Goes old w) (sym same) (goes_not old)

-- FRAMES THAT ARE HANDED OVER

one_more : (side : Side) (k n : ℕ) → deliveries side k (suc n) ≡ deliveries side k n ++ E.Deliver side (k + n) [] ∷ []
one_more side k zero = ap (λ (m : ℕ). E.Deliver side m [] ∷ []) (omega arith)
one_more side k (suc n) =
    let moved : suc k + n ≡ k + suc n = omega arith in
    ap (λ (events : List Event). E.Deliver side k [] ∷ events)
    (subst (λ (m : ℕ). deliveries side (suc k) (suc n) ≡ deliveries side (suc k) n ++ E.Deliver side m [] ∷ []) moved (one_more side (suc k) n))

-- the next one after those of a host from one number up to another
pub handed_on : (old mid new : WorldValue) (side : Side) (from frame : ℕ) (padding : List ℕ) (answer : Answer) → from ≤ frame → padding ≡ []
    → Steps old (deliveries side from (frame - from)) mid → Step mid (E.Deliver side frame padding) answer new
    → Steps old (deliveries side from (frame + 1 - from)) new
handed_on old mid new side from frame padding answer below bare before step =
    let counted : frame + 1 - from ≡ suc (frame - from) = omega arith in
    let slot : frame ≡ from + (frame - from) = omega arith in
    let first : List Event = deliveries side from (frame - from) in
    let plain : Step mid (E.Deliver side frame []) answer new = subst (λ (p : List ℕ). Step mid (E.Deliver side frame p) answer new) bare step in
    let both : Steps old (first ++ E.Deliver side frame [] ∷ []) new =
    steps_of_both old mid new first (E.Deliver side frame [] ∷ []) before (answer, new, plain, refl) in
    let all : Steps old (first ++ E.Deliver side (from + (frame - from)) [] ∷ []) new =
    subst (λ (m : ℕ). Steps old (first ++ E.Deliver side m [] ∷ []) new) slot both in
    subst (λ (n : ℕ). Steps old (deliveries side from n) new) (sym counted)
    (subst (λ (events : List Event). Steps old events new) (sym (one_more side from (frame - from))) all)

-- ROUNDS

neither : (a b : Option ℤ) (instant : ℤ) → None ≡ option_map (int_max instant) (earlier a b) → (a ≡ None) × (b ≡ None)
neither None None instant is = (refl, refl)
neither None (Some b) instant is = absurd cc
neither (Some a) None instant is = absurd cc
neither (Some a) (Some b) instant is = absurd cc

-- after a round after which there is none both are at rest
pub rests : (instant : ℤ) (handed : Handed) (old new : WorldValue) → NextRound instant handed None old new → AreIdle instant new.history
rests instant handed old new (inl (under_way, at, same)) = absurd cc
rests instant handed old new (inr (calm, a, b, (between, one, two), is)) =
    let none : (a ≡ None) × (b ≡ None) = neither a b instant is in (
      old.history,
      between.history,
      (one.entry, one.history, one.event_kept, one.answer_kept ∙ ap To.At none.0),
      (two.entry, two.history, two.event_kept, two.answer_kept ∙ ap To.At none.1),
    )

pub one_round_more : (budget : ℕ) (from instant next : ℤ) (handed now : Handed) (n : ℕ) (first old served new : WorldValue)
    → Rounds budget from first n instant handed old → AreServed instant budget handed now old served → NextRound instant handed (Some next) served new
    → Rounds budget from first (n + 1) next now new
one_round_more budget from instant next handed now n first old served new before are goes =
    subst (λ (m : ℕ). Rounds budget from first m next now new) (sym (add-one n)) (instant, handed, old, before, (served, are, goes))

pub the_last_round : (budget : ℕ) (from instant : ℤ) (handed now : Handed) (n rounds : ℕ) (first old served new : WorldValue) → n < rounds
    → Rounds budget from first n instant handed old → AreServed instant budget handed now old served → NextRound instant handed None served new
    → Settles budget from rounds (Some instant) first new
the_last_round budget from instant handed now n rounds first old served new below before are goes =
    (n, below, handed, now, old, before, (served, are, goes))

-- REFUSALS

pub stops : (old new : WorldValue) (event : Event) (r : Result Answer Refused) → OnErr r (new ≡ old) → IfErr r (Stops old event) → IfErr r (Stops new event)
stops old new event (Ok answer) same is = tt
stops old new event (Err refused) same is = subst (λ (w : WorldValue). Stops w event refused) (sym same) is
