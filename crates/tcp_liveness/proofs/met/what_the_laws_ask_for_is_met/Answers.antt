use Rattle.std.proofs.Common.{refl}
use Rattle.std.proofs.lemmas.Bool.{leb-true, ltb-true}
use Rattle.tcp_liveness.specs.Met.{events}
use Rattle.tcp_liveness.proofs.MetStarts.{start_a, start_b}
use Rattle.tcp_liveness.proofs.met.what_the_laws_ask_for_is_met.Goals as goal

pub returns-clause-reached : goal.returns-clause-reached
returns-clause-reached c = record {
  a = start_a;
  b = start_b;
  events = events;
  steps = (refl, (refl, (refl, (refl, (refl, (refl, (refl, (refl, (refl, (refl, refl))))))))));
}

pub returns-clause-owes : goal.returns-clause-owes
returns-clause-owes c = record { alive = refl; connected = refl; owes = leb-true _ _ refl; unpaused = refl }

pub returns-clause-counts : goal.returns-clause-counts
returns-clause-counts c = record {
  synchronized = refl;
  opened = leb-true _ _ refl;
  no_syn = refl;
  no_reset = refl;
  initial = refl;
  acknowledges = refl;
  sent = leb-true _ _ refl;
  few = ltb-true _ _ refl;
  number_small = ltb-true _ _ refl;
  una_small = ltb-true _ _ refl;
}

pub returns-clause-new : goal.returns-clause-new
returns-clause-new c = record {
  takes = refl;
  room = leb-true _ _ refl;
  begins = ltb-true _ _ refl;
  ends = ltb-true _ _ refl;
  seq_small = ltb-true _ _ refl;
  next_small = ltb-true _ _ refl;
}

pub returns-clause-again : goal.returns-clause-again
returns-clause-again c = record {
  some = leb-true _ _ refl;
  begins = ltb-true _ _ refl;
  ends = leb-true _ _ refl;
  near = leb-true _ _ refl;
  seq_small = ltb-true _ _ refl;
  next_small = ltb-true _ _ refl;
}
