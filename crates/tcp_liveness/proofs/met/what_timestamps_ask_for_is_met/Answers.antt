use Rattle.std.proofs.Common.{inl, inr, pos, refl}
use Rattle.std.proofs.lemmas.Bool.{leb-true}
use Rattle.std.specs.Prelude.{◌++◌}
use Rattle.tcp_refinement.specs.declared.pair.event.Side.TheVariants.{A, B}
use Rattle.tcp_liveness.specs.Clocks.{HasStamps}
use Rattle.tcp_liveness.specs.Met.{both_timed, clocks, losing}
use Rattle.tcp_liveness.proofs.Moments.{le_of}
use Rattle.tcp_liveness.proofs.MetStarts.{start_a, start_b}
use Rattle.tcp_liveness.proofs.met.what_timestamps_ask_for_is_met.Goals as goal

pub returns-clause-reached : goal.returns-clause-reached
returns-clause-reached c = record {
  a = start_a;
  b = start_b;
  events = clocks ++ losing;
  steps = (refl, (refl, (refl, (refl, (refl, (refl, (refl, (refl, (refl, (refl, (refl, (refl, (refl, (refl, refl))))))))))))));
}

pub returns-clause-agreed : goal.returns-clause-agreed
returns-clause-agreed c = refl

pub returns-clause-peer_side_agreed : goal.returns-clause-peer_side_agreed
returns-clause-peer_side_agreed c = refl

pub returns-clause-enough : goal.returns-clause-enough
returns-clause-enough c = refl

-- the last event first
stamps_a : HasStamps 12 both_timed A
stamps_a = inr (record {
  since = pos 0;
  begun = le_of _ _ refl;
  asked = le_of _ _ refl;
  timed = (
    λ _. le_of _ _ refl,
    (
      λ _. le_of _ _ refl,
      (
        λ _. tt,
        (
          λ _. tt,
          (
            λ _. tt,
            (
              λ _. le_of _ _ refl,
              (
                λ _. tt,
                (
                  λ _. le_of _ _ refl,
                  (
                    λ _. tt,
                    (λ _. le_of _ _ refl, (λ _. tt, (λ _. tt, (λ _. refl, (λ _. refl, tt))))),
                  ),
                ),
              ),
            ),
          ),
        ),
      ),
    ),
  );
  within = le_of _ _ refl;
})

stamps_b : HasStamps 12 both_timed B
stamps_b = inr (record {
  since = pos 0;
  begun = le_of _ _ refl;
  asked = le_of _ _ refl;
  timed = (
    λ _. le_of _ _ refl,
    (
      λ _. le_of _ _ refl,
      (
        λ _. tt,
        (
          λ _. tt,
          (
            λ _. tt,
            (
              λ _. le_of _ _ refl,
              (
                λ _. tt,
                (
                  λ _. le_of _ _ refl,
                  (
                    λ _. tt,
                    (λ _. le_of _ _ refl, (λ _. tt, (λ _. tt, (λ _. refl, (λ _. refl, tt))))),
                  ),
                ),
              ),
            ),
          ),
        ),
      ),
    ),
  );
  within = le_of _ _ refl;
})

pub returns-clause-talking : goal.returns-clause-talking
returns-clause-talking c = record {
  a =
      record {
        own = record { synchronized = refl; acknowledged = refl; opened = leb-true _ _ refl };
        stream = inl refl;
        room = leb-true _ _ refl;
        timeout = refl;
      };
  b =
      record {
        own = record { synchronized = refl; acknowledged = refl; opened = leb-true _ _ refl };
        stream = inl refl;
        room = leb-true _ _ refl;
        timeout = refl;
      };
  minutes_a = record { begun = le_of _ _ refl; left = le_of _ _ refl };
  minutes_b = record { begun = le_of _ _ refl; left = le_of _ _ refl };
  stamps_a = stamps_a;
  stamps_b = stamps_b;
}

pub returns-clause-tries : goal.returns-clause-tries
returns-clause-tries c = (record { timeouts = refl; questions = refl }, record { timeouts = refl; questions = refl })
