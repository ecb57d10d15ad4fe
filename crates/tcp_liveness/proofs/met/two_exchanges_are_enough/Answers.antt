use Rattle.std.proofs.Common.{inl, inr, refl}
use Rattle.std.proofs.lemmas.Bool.{leb-true}
use Rattle.tcp_liveness.specs.Met.{events}
use Rattle.tcp_liveness.proofs.MetStarts.{start_a, start_b}
use Rattle.tcp_liveness.proofs.met.two_exchanges_are_enough.Goals as goal

pub returns-clause-one : goal.returns-clause-one
returns-clause-one c = (
  record {
    a = start_a;
    b = start_b;
    events = events;
    steps = (refl, (refl, (refl, (refl, (refl, (refl, (refl, (refl, (refl, (refl, refl))))))))));
  },
  inl refl,
  record {
    own = record { synchronized = refl; acknowledged = refl; opened = leb-true _ _ refl };
    theirs = record { synchronized = refl; acknowledged = refl; opened = leb-true _ _ refl };
    over = inr refl;
    offered = refl;
    kind = refl;
    some = leb-true _ _ refl;
    room = leb-true _ _ refl;
    space = inl (inl refl);
    initial = refl;
    answer_initial = λ _ _. refl;
  },
  tt,
)

pub returns-clause-some : goal.returns-clause-some
returns-clause-some c = refl

pub returns-clause-none : goal.returns-clause-none
returns-clause-none c = refl
