-- A list of events has one outcome, and may be taken in pieces.
use Rattle.std.proofs.Common.{◌≡◌, List, [], ◌∷◌, ◌++◌, sym, ◌∙◌, subst}
use Rattle.tcp_refinement.specs.declared.pair.event.PairEvent.{PairEvent}
use Rattle.tcp_refinement.specs.Pair.Steps.{Steps, happens}
use Rattle.tcp_refinement.specs.Pair.Values.{PairValue}

pub one_outcome : (old p q : PairValue) (events : List PairEvent) → Steps old events p → Steps old events q → p ≡ q
one_outcome old p q [] one another = one ∙ sym another
one_outcome old p q (event ∷ events) one another = one_outcome (happens old event).pair p q events one.1 another.1

pub proceeds : (old mid new : PairValue) (events more : List PairEvent) → Steps old events mid → Steps mid more new → Steps old (events ++ more) new
proceeds old mid new [] more before following = subst (λ (p : PairValue). Steps p more new) before following
proceeds old mid new (event ∷ events) more before following = (before.0, proceeds (happens old event).pair mid new events more before.1 following)
