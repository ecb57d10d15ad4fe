use Rattle.std.proofs.Common.{inl, inr, refl}
use Rattle.std.proofs.lemmas.Bool.{leb-true, ltb-true}
use Rattle.std.specs.Prelude.{[], ◌∷◌, ◌++◌}
use Rattle.tcp_refinement.specs.declared.pair.event.PairEvent.TheVariants.{Deliver}
use Rattle.tcp_refinement.specs.declared.pair.event.Side.TheVariants.{A}
use Rattle.tcp_liveness.specs.Met.{events}
use Rattle.tcp_liveness.proofs.MetStarts.{start_a, start_b}
use Rattle.tcp_liveness.proofs.met.what_an_exchange_asks_for_is_met.Goals as goal

pub returns-clause-reached : goal.returns-clause-reached
returns-clause-reached c = record {
  a = start_a;
  b = start_b;
  events = events ++ Deliver A 2 ∷ [];
  steps = (refl, (refl, (refl, (refl, (refl, (refl, (refl, (refl, (refl, (refl, (refl, refl)))))))))));
}

pub returns-clause-stream : goal.returns-clause-stream
returns-clause-stream c = inl refl

pub returns-clause-lost : goal.returns-clause-lost
returns-clause-lost c = record {
  own = record { synchronized = refl; acknowledged = refl; opened = leb-true _ _ refl };
  theirs = record { synchronized = refl; acknowledged = refl; opened = leb-true _ _ refl };
  over = inr refl;
  offered = refl;
  kind = refl;
  some = leb-true _ _ refl;
  room = leb-true _ _ refl;
  space = inl (inl refl);
  initial = refl;
  answer_initial = λ _ _. refl;
}

pub returns-clause-untold : goal.returns-clause-untold
returns-clause-untold c = record {
  own = record { synchronized = refl; acknowledged = refl; opened = leb-true _ _ refl };
  theirs = record { synchronized = refl; acknowledged = refl; opened = leb-true _ _ refl };
  over = inr refl;
  offered = refl;
  kind = refl;
  some = leb-true _ _ refl;
  room = leb-true _ _ refl;
  space = inl (inl refl);
  initial = refl;
  answer_initial = λ _ _. refl;
}

pub returns-clause-moves : goal.returns-clause-moves
returns-clause-moves c = inl (record { by = 3; some = leb-true _ _ refl; few = ltb-true _ _ refl; moved = refl })

pub returns-clause-tells : goal.returns-clause-tells
returns-clause-tells c = inr (inl (record { by = 3; some = leb-true _ _ refl; few = ltb-true _ _ refl; moved = refl }))
