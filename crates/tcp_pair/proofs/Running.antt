-- Several steps, one after the other.
use Rattle.std.proofs.Common.{◌≡◌, ℕ, zero, suc, ◌+◌, ◌<◌, List, [], ◌∷◌, ◌++◌, length, take, drop, None, Some, sym, ◌∙◌, ap, subst, add-one, arith}
use Rattle.std.specs.Prelude.{slice_get}
use Rattle.tcp_refinement.specs.declared.pair.event.PairEvent.{PairEvent}
use Rattle.tcp_refinement.specs.declared.pair.event.PairAnswer.{PairAnswer}
use Rattle.tcp_refinement.specs.Pair.Safe.{IsKept}
use Rattle.tcp_refinement.specs.Pair.Steps.{Happened, Steps, refusal, happens}
use Rattle.tcp_refinement.specs.Pair.Values.{PairValue}
use Rattle.tcp_pair.specs.Invariant.{HasRun}

-- where something is left of a list, its first comes next
record IsNext {X : Type 0} (n : ℕ) (xs : List X) (x : X) (rest : List X) : Type 0 where
  below : n < length xs
  here : slice_get xs n ≡ Some x
  taken : take (suc n) xs ≡ take n xs ++ x ∷ []
  left : drop (suc n) xs ≡ rest

next_of_drop : {X : Type 0} (n : ℕ) (xs : List X) (x : X) (rest : List X) → drop n xs ≡ x ∷ rest → IsNext n xs x rest
next_of_drop zero [] x rest is = cc
next_of_drop zero (y ∷ ys) x rest is =
    let head : y ≡ x = cc in
    let tail : ys ≡ rest = cc in
    record { below = omega arith; here = ap Some head; taken = ap (λ z. z ∷ []) head; left = tail }
next_of_drop (suc n) [] x rest is = cc
next_of_drop (suc n) (y ∷ ys) x rest is =
    let later : IsNext n ys x rest = next_of_drop n ys x rest is in
    record { below = omega arith; here = later.here; taken = ap (λ zs. y ∷ zs) later.taken; left = later.left }

Steps-push :
    (old mid new : PairValue) (events : List PairEvent) (event : PairEvent) → Steps old events mid → refusal mid event ≡ None → (happens mid event).pair ≡ new
    → Steps old (events ++ event ∷ []) new
Steps-push old mid new [] event is allowed step =
    (subst (λ (p : PairValue). refusal p event ≡ None) is allowed, sym (sym (ap (λ (p : PairValue). (happens p event).pair) is) ∙ step))
Steps-push old mid new (e ∷ events) event before allowed step = (before.0, Steps-push (happens old e).pair mid new events event before.1 allowed step)

module _ (old : PairValue) (events : List PairEvent) (offset : ℕ) (event : PairEvent) (left : List PairEvent) (now : PairValue)
    (run : HasRun old events offset (event ∷ left) now) where
  pub next_is : slice_get events offset ≡ Some event
  next_is = (next_of_drop offset events event left run.left_over).here

  pub one_more : (answer : PairAnswer) (new : PairValue) → refusal now event ≡ None → happens now event ≡ record { answer = answer; pair = new } → IsKept new →
      HasRun old events (offset + 1) left new
  one_more answer new allowed step kept =
      let next : IsNext offset events event left = next_of_drop offset events event left run.left_over in
      rw add-one (record {
        steps = rw next.taken (Steps-push old now new (take offset events) event run.steps allowed (ap (λ (h : Happened). h.pair) step));
        left_over = next.left;
        bound = omega arith;
        kept = kept;
      })
