use Rattle.std.proofs.Common.{inl, inr, refl}
use Rattle.std.proofs.lemmas.Bool.{leb-true}
use Rattle.std.specs.Prelude.{[], ◌∷◌, ◌++◌, pos, true}
use Rattle.tcp_refinement.specs.declared.pair.event.PairEvent.TheVariants.{Deliver, Offer}
use Rattle.tcp_refinement.specs.declared.pair.event.Side.TheVariants.{A, B}
use Rattle.tcp_liveness.specs.Met.{calling}
use Rattle.tcp_liveness.proofs.MetStarts.{start_a, start_b}
use Rattle.tcp_liveness.proofs.met.what_a_lost_acknowledgement_asks_for_is_met.Goals as goal

pub returns-clause-reached : goal.returns-clause-reached
returns-clause-reached c = record {
  a = start_a;
  b = start_b;
  events = calling ++ Offer A (pos 0) true ∷ Deliver A 0 ∷ Offer B (pos 0) true ∷ Deliver B 0 ∷ Offer A (pos 0) true ∷ [];
  steps = (refl, (refl, (refl, (refl, (refl, (refl, (refl, refl)))))));
}

pub returns-clause-confirms : goal.returns-clause-confirms
returns-clause-confirms c = record {
  unconfirmed =
      record {
        opened = refl;
        una = refl;
        took = refl;
        answerer = record { answers = refl; timeout = refl; unpaused = refl; tries = refl };
      };
  over = inr refl;
  draws = refl;
  space = inl refl;
  at_instant = refl;
  stamps = inl refl;
}

pub returns-clause-tells : goal.returns-clause-tells
returns-clause-tells c = record {
  unconfirmed =
      record {
        opened = refl;
        una = refl;
        took = refl;
        answerer = record { answers = refl; timeout = refl; unpaused = refl; tries = refl };
      };
  over = inl refl;
  offered = refl;
  kind = refl;
  some = leb-true _ _ refl;
  was_sent = leb-true _ _ refl;
  room = leb-true _ _ refl;
  at_instant = refl;
  stamps = inl refl;
}
