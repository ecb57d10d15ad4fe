use Rattle.std.proofs.Common.{◌≡◌, inl, inr, ℕ, suc, ◌<◌, ◌≤◌, ℤ, pos, ◌+ℤ◌, ◌≤ℤ◌, ◌<ℤ◌, int_le, int_lt, Bool, true, false, List, [], ◌∷◌, Option, Some, None, refl, sym, ap, ◌∙◌, subst, arith}
use Rattle.std.proofs.lemmas.Bool.{leb-true, ltb-true}
use Rattle.std.proofs.lemmas.Int.{ints}
use Rattle.std.specs.Prelude.{IfSome, slice_get}
use Rattle.tcp_refinement.specs.Offers.{IsBefore}
use Rattle.tcp_refinement.specs.PollAt.{PollAt}
use Rattle.tcp_refinement.specs.PollAt.TheVariants as At
use Rattle.tcp_block.specs.Due.{poll_of}
use Rattle.tcp_refinement.specs.Pair.Sides.{at}
use Rattle.tcp_refinement.specs.Pair.Values.{PairValue}
use Rattle.tcp_refinement.specs.declared.pair.event.PairEvent.{PairEvent}
use Rattle.tcp_refinement.specs.declared.pair.event.PairEvent.TheVariants.{Deliver, Offer, Recv}
use Rattle.tcp_refinement.specs.declared.pair.event.SentSegment.{SentSegment}
use Rattle.tcp_refinement.specs.declared.pair.event.Side.{Side}
use Rattle.tcp_refinement.specs.declared.pair.event.Side.TheVariants.{A, B}
use Rattle.tcp_liveness.specs.Course.{IsAskedBy, IsHeard, IsHeardBy, Wants}
use Rattle.tcp_liveness.specs.Met.{gone, mending}
use Rattle.tcp_liveness.specs.Pair.{mtu_of, next_sent, socket_of}
use Rattle.tcp_liveness.specs.Rounds.{takes}
use Rattle.tcp_liveness.proofs.CourseExchange.{as_itself}
use Rattle.tcp_liveness.proofs.Moments.{le_of}
use Rattle.tcp_liveness.proofs.met.what_a_course_asks_for_is_met.Goals as goal

-- THE PAIRS

abbrev asked : PairValue
asked = takes gone (Offer A (pos 1_000_000) true)

abbrev came : PairValue
came = takes asked (Deliver A 3)

abbrev told : PairValue
told = takes came (Offer B (pos 1_000_500) true)

abbrev known : PairValue
known = takes told (Deliver B 1)

-- MOMENTS

-- a side that waits for nothing doesn't want to be asked
quiet : {X : Type 0} (p : PairValue) (side : Side) (due : ℤ) → poll_of (mtu_of p side) (socket_of p side) ≡ At.Ingress → Wants due p side → X
quiet p side due e wants = absurd (wants (subst (λ (at : PollAt). IsBefore due at) (sym e) tt))

not_before : (due t : ℤ) → int_lt due t ≡ false → t ≤ℤ due
not_before due t e = first_of (omega (arith, ints), grind (arith, ints))

before : (due t : ℤ) → int_lt due t ≡ true → due <ℤ t
before due t e = first_of (omega (arith, ints), grind (arith, ints))

-- one that waits for an instant does so then, and later
waits : (p : PairValue) (side : Side) (t due : ℤ) → poll_of (mtu_of p side) (socket_of p side) ≡ At.Time t → Wants due p side → t ≤ℤ due
waits p side t due e wants = by (int_lt due t) refl where
  by : (early : Bool) → int_lt due t ≡ early → t ≤ℤ due
  by true f = absurd (wants (subst (λ (at : PollAt). IsBefore due at) (sym e) (before due t f)))
  by false f = not_before due t f

within : (a t due : ℤ) (n : ℕ) → int_le a t ≡ true → t ≤ℤ due → a ≤ℤ (due +ℤ pos n)
within a t due n e f = first_of (omega (arith, ints), grind (arith, ints))

-- WHAT IS SENT, AND HEARD

none_new : {X : Type 0} (n k : ℕ) → n ≤ k → k < n → X
none_new n k e f = absurd (never n k e f) where
  never : (n k : ℕ) → n ≤ k → k < n → ⊥
  never n k e f = absurd (omega arith)

one_new : (n k : ℕ) → n ≤ k → k < suc n → n ≡ k
one_new n k e f = omega arith

by_found : (P : SentSegment → Type 0) (found : Option SentSegment) → IfSome found P → (x : SentSegment) → found ≡ Some x → P x
by_found P None holds x e = absurd (cc)
by_found P (Some y) holds x e = subst P (one y x e) holds where
  one : (y x : SentSegment) → Some y ≡ Some x → y ≡ x
  one y x e = cc

heard_payload : (x : SentSegment) → slice_get (at asked.sides A).sent 3 ≡ Some x → IsHeard asked A x
heard_payload = by_found (IsHeard asked A) (slice_get (at asked.sides A).sent 3) (record { initial = refl; inside = λ none. absurd (cc) })

heard_ack : (x : SentSegment) → slice_get (at told.sides B).sent 1 ≡ Some x → IsHeard told B x
heard_ack = by_found (IsHeard told B) (slice_get (at told.sides B).sent 1) (record { initial = refl; inside = λ _. ltb-true _ _ refl })

-- WHAT IS LEFT OF THE COURSE

abbrev last_one : List (ℤ × PairEvent)
last_one = (pos 1_000_000_000_000, Recv B 3) ∷ []

abbrev from_told : List (ℤ × PairEvent)
from_told = (pos 1_001_000, Deliver B 1) ∷ last_one

abbrev from_came : List (ℤ × PairEvent)
from_came = (pos 1_000_500, Offer B (pos 1_000_500) true) ∷ from_told

abbrev from_asked : List (ℤ × PairEvent)
from_asked = (pos 1_000_500, Deliver A 3) ∷ from_came

-- EACH SIDE IS ASKED

abbrev Asked : PairValue → ℤ → List (ℤ × PairEvent) → Type 0
Asked p now course = (side : Side) (due : ℤ) → now ≤ℤ due → Wants due p side → IsAskedBy due (due +ℤ pos 1_000) side p course

first : Asked gone (pos 0) mending
first A due late wants = (within (pos 1_000_000) (pos 1_000_000) due 1_000 refl (waits gone A (pos 1_000_000) due refl wants), inl refl)
first B due late wants = quiet gone B due refl wants

-- the timer of A runs twice as long
second : Asked asked (pos 1_000_000) from_asked
second A due late wants =
    let then : pos 3_000_000 ≤ℤ due = waits asked A (pos 3_000_000) due refl wants in (
      within (pos 1_000_500) (pos 3_000_000) due 1_000 refl then,
      inr
          (inr (
            within (pos 1_000_500) (pos 3_000_000) due 1_000 refl then,
            inr (inr (within (pos 1_001_000) (pos 3_000_000) due 1_000 refl then, inr (inl (λ wants. quiet known A due refl wants)))),
          )),
    )
second B due late wants = quiet asked B due refl wants

-- the acknowledgement of B is due
third : Asked came (pos 1_000_500) from_came
third A due late wants =
    let then : pos 3_000_000 ≤ℤ due = waits came A (pos 3_000_000) due refl wants in (
      within (pos 1_000_500) (pos 3_000_000) due 1_000 refl then,
      inr (inr (within (pos 1_001_000) (pos 3_000_000) due 1_000 refl then, inr (inl (λ wants. quiet known A due refl wants)))),
    )
third B due late wants = (within (pos 1_000_500) (pos 1_000_500) due 1_000 refl late, inl refl)

fourth : Asked told (pos 1_000_500) from_told
fourth A due late wants =
    let then : pos 3_000_000 ≤ℤ due = waits told A (pos 3_000_000) due refl wants in
    (within (pos 1_001_000) (pos 3_000_000) due 1_000 refl then, inr (inl (λ wants. quiet known A due refl wants)))
fourth B due late wants = quiet told B due refl wants

fifth : Asked known (pos 1_001_000) last_one
fifth A due late wants = quiet known A due refl wants
fifth B due late wants = quiet known B due refl wants

-- EACH SEGMENT COMES

abbrev Sent : PairValue → ℤ × PairEvent → List (ℤ × PairEvent) → Type 0
Sent p x course = (side : Side) (k : ℕ) → next_sent p side ≤ k → k < next_sent (takes p x.1) side →
    IsHeardBy (x.0 +ℤ pos 1_000) side k (takes p x.1) course

sends : Sent gone (pos 1_000_000, Offer A (pos 1_000_000) true) from_asked
sends A k old new =
    let is = one_new 3 k old new in
    (le_of _ _ refl, inl (as_itself asked A k (Deliver A 3) (ap (λ (n : ℕ). Deliver A n) is), λ x found. heard_payload x (ap (slice_get asked.sides.a.sent) is ∙ found)))
sends B k old new = none_new 1 k old new

comes : Sent asked (pos 1_000_500, Deliver A 3) from_came
comes A k old new = none_new 4 k old new
comes B k old new = none_new 1 k old new

acks : Sent came (pos 1_000_500, Offer B (pos 1_000_500) true) from_told
acks A k old new = none_new 4 k old new
acks B k old new =
    let is = one_new 1 k old new in
    (le_of _ _ refl, inl (as_itself told B k (Deliver B 1) (ap (λ (n : ℕ). Deliver B n) is), λ x found. heard_ack x (ap (slice_get told.sides.b.sent) is ∙ found)))

hears : Sent told (pos 1_001_000, Deliver B 1) last_one
hears A k old new = none_new 4 k old new
hears B k old new = none_new 2 k old new

reads : Sent known (pos 1_000_000_000_000, Recv B 3) []
reads A k old new = none_new 4 k old new
reads B k old new = none_new 2 k old new

pub returns-clause-course : goal.returns-clause-course
returns-clause-course c = record {
  clock = le_of _ _ refl;
  clocked = (le_of _ _ refl, (refl, (le_of _ _ refl, (tt, (le_of _ _ refl, (refl, (le_of _ _ refl, (tt, (le_of _ _ refl, (tt, tt))))))))));
  asks = (first, (second, (third, (fourth, (fifth, tt)))));
  taken = (refl, (tt, (refl, (tt, (tt, tt)))));
  delivers = (sends, (comes, (acks, (hears, (reads, tt)))));
  stream = inl refl;
  room = leb-true _ _ refl;
}

-- a buffer of 64 bytes with three is never full
pub returns-clause-reads : goal.returns-clause-reads
returns-clause-reads c = ((λ full. absurd (cc)), ((λ full. absurd (cc)), ((λ full. absurd (cc)), ((λ full. absurd (cc)), ((λ full. absurd (cc)), tt)))))

pub returns-clause-takes : goal.returns-clause-takes
returns-clause-takes c = (refl, (refl, (refl, (refl, (refl, refl)))))

pub returns-clause-long : goal.returns-clause-long
returns-clause-long c = before _ _ refl

pub returns-clause-some : goal.returns-clause-some
returns-clause-some c = refl

pub returns-clause-none : goal.returns-clause-none
returns-clause-none c = refl
