use Rattle.std.proofs.Common.{inl, inr, refl}
use Rattle.std.specs.Prelude.{[], ◌∷◌, ◌++◌, pos, true}
use Rattle.tcp_refinement.specs.declared.pair.event.PairEvent.TheVariants.{Deliver, Offer}
use Rattle.tcp_refinement.specs.declared.pair.event.Side.TheVariants.{A, B}
use Rattle.tcp_liveness.specs.HandshakeOn.{IsUnanswered}
use Rattle.tcp_liveness.specs.Met.{calling, unanswered}
use Rattle.tcp_liveness.proofs.MetStarts.{start_a, start_b}
use Rattle.tcp_liveness.proofs.met.what_a_lost_answer_asks_for_is_met.Goals as goal

pub returns-clause-reached : goal.returns-clause-reached
returns-clause-reached c = record {
  a = start_a;
  b = start_b;
  events = calling ++ Offer A (pos 0) true ∷ Deliver A 0 ∷ Offer B (pos 0) true ∷ [];
  steps = (refl, (refl, (refl, (refl, (refl, refl)))));
}

stands : IsUnanswered unanswered A
stands = record {
  calls = refl;
  caller = record { timeout = refl; tries = refl };
  answerer = record { answers = refl; timeout = refl; unpaused = refl; tries = refl };
  took = refl;
}

pub returns-clause-answers : goal.returns-clause-answers
returns-clause-answers c = record { unanswered = stands; over = inr refl; at_second = refl; at_third = refl; stamps = inl refl }

pub returns-clause-calls : goal.returns-clause-calls
returns-clause-calls c = record {
  unanswered = stands;
  over = inr refl;
  goes = record { lasts = refl; in_time = refl; alive = refl; tries = refl };
  answer_over = inr refl;
  at_first = refl;
  at_second = refl;
  at_third = refl;
  stamps = inl refl;
}
