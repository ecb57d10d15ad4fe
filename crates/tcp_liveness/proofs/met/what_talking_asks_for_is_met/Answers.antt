use Rattle.std.proofs.Common.{◌≡◌, inl, true, false, refl, sym}
use Rattle.std.proofs.lemmas.Bool.{leb-true}
use Rattle.tcp_invariants.proofs.OrderSteps.{clash}
use Rattle.tcp_refinement.specs.declared.pair.event.Side.TheVariants.{A, B}
use Rattle.tcp_liveness.specs.BothWays.{round_in, turn_in}
use Rattle.tcp_liveness.specs.Met.{both_gone}
use Rattle.tcp_liveness.specs.Talking.{MaySpeak}
use Rattle.tcp_liveness.proofs.Moments.{le_of}
use Rattle.tcp_liveness.proofs.Talks.{done_talks}
use Rattle.tcp_liveness.proofs.met.what_talking_asks_for_is_met.Goals as goal

never : {X : Type 0} → false ≡ true → X
never e = clash (sym e)

first : MaySpeak both_gone A
first = record {
  tries = refl;
  tries_on = refl;
}

second : MaySpeak (turn_in both_gone A) B
second = record {
  tries = refl;
  tries_on = refl;
}

third : MaySpeak (turn_in (round_in both_gone) A) B
third = record {
  tries = refl;
  tries_on = refl;
}

pub returns : goal.returns
returns c = record {
  enough = refl;
  talking =
      record {
        a =
            record {
              own = record { synchronized = refl; acknowledged = refl; opened = leb-true _ _ refl };
              stream = inl refl;
              room = leb-true _ _ refl;
              timeout = refl;
            };
        b =
            record {
              own = record { synchronized = refl; acknowledged = refl; opened = leb-true _ _ refl };
              stream = inl refl;
              room = leb-true _ _ refl;
              timeout = refl;
            };
        minutes_a = record { begun = le_of _ _ refl; left = le_of _ _ refl };
        minutes_b = record { begun = le_of _ _ refl; left = le_of _ _ refl };
        stamps_a = inl refl;
        stamps_b = inl refl;
      };
  tries = (record { timeouts = refl; questions = refl }, record { timeouts = refl; questions = refl });
  turns = (λ _. first, λ _. second, (λ e. never e, λ _. third, done_talks 10 (round_in (round_in both_gone)) refl refl));
}
