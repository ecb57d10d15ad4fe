-- Several steps, one after the other.
use Rattle.std.proofs.Common.{◌≡◌, ℕ, zero, suc, ◌+◌, ◌<◌, List, [], ◌∷◌, ◌++◌, length, take, drop, Some, refl, ◌∙◌, ap, subst, add-one, arith}
use Rattle.std.specs.Prelude.{slice_get}
use Rattle.lan.specs.declared.at_link.history.event.Event.{Event}
use Rattle.lan.specs.declared.at_link.history.answer.Answer.{Answer}
use Rattle.lan.specs.Worlds.AtLink.Runs.{WorldValue, Step, Steps}
use Rattle.std.specs.Prelude.{◌≤◌}

-- so many of the events have been taken, and these are left
pub record HasRun (old : WorldValue) (events : List Event) (slot : ℕ) (left : List Event) (now : WorldValue) : Type 0 where
  pub steps : Steps old (take slot events) now
  pub left_over : drop slot events ≡ left
  pub bound : slot ≤ length events

-- where something is left of a list, its first comes next
record IsNext {X : Type 0} (n : ℕ) (xs : List X) (x : X) (rest : List X) : Type 0 where
  below : n < length xs
  here : slice_get xs n ≡ Some x
  taken : take (suc n) xs ≡ take n xs ++ x ∷ []
  left : drop (suc n) xs ≡ rest

next_of_drop : {X : Type 0} (n : ℕ) (xs : List X) (x : X) (rest : List X) → drop n xs ≡ x ∷ rest → IsNext n xs x rest
next_of_drop zero [] x rest is = cc
next_of_drop zero (y ∷ ys) x rest is =
    let head : y ≡ x = cc in
    let tail : ys ≡ rest = cc in
    record { below = omega arith; here = ap Some head; taken = ap (λ z. z ∷ []) head; left = tail }
next_of_drop (suc n) [] x rest is = cc
next_of_drop (suc n) (y ∷ ys) x rest is =
    let later : IsNext n ys x rest = next_of_drop n ys x rest is in
    record { below = omega arith; here = later.here; taken = ap (λ zs. y ∷ zs) later.taken; left = later.left }

Steps-push : (old mid new : WorldValue) (events : List Event) (event : Event) (answer : Answer) → Steps old events mid → Step mid event answer new →
    Steps old (events ++ event ∷ []) new
Steps-push old mid new [] event answer is step = (answer, new, subst (λ (w : WorldValue). Step w event answer new) is step, refl)
Steps-push old mid new (e ∷ events) event answer before step = (before.0, before.1, before.2, Steps-push before.1 mid new events event answer before.3 step)

-- what the hosts were at first stays
pub starts_stay : (old new : WorldValue) (events : List Event) → Steps old events new → new.starts ≡ old.starts
starts_stay old new [] is = ap (λ (w : WorldValue). w.starts) is
starts_stay old new (e ∷ events) steps = starts_stay steps.1 new events steps.3 ∙ steps.2.starts

module _ (old : WorldValue) (events : List Event) (slot : ℕ) (event : Event) (left : List Event) (now : WorldValue)
    (run : HasRun old events slot (event ∷ left) now) where
  pub next_is : slice_get events slot ≡ Some event
  next_is = (next_of_drop slot events event left run.left_over).here

  pub one_more : (answer : Answer) (new : WorldValue) → Step now event answer new → HasRun old events (slot + 1) left new
  one_more answer new step =
      let next : IsNext slot events event left = next_of_drop slot events event left run.left_over in
      rw add-one (record {
        steps = rw next.taken (Steps-push old now new (take slot events) event answer run.steps step);
        left_over = next.left;
        bound = omega arith;
      })
