use Rattle.std.proofs.Common.{◌≡◌, inl, inr, true, false, Some, None, refl, arith}
use Rattle.tcp_theory.specs.Segment.Control.{Plain, Fin}
use Rattle.tcp_theory.specs.Side.Phase.{SynReceived, Synchronized}
use Rattle.tcp_theory.specs.Examples.{at, bare_ack}
use Rattle.tcp_peer.proofs.examples.a_peer_may_be_honest.Goals as goal

pub returns-clause-syn : goal.returns-clause-syn
returns-clause-syn c =
    inr (
      inr (inr (inr (record { syn = refl; number = omega arith; bare = λ (e : Some 101 ≡ None). absurd (cc) }))),
      inr (101, refl, record { at = at 101; same = refl; so_far = inl refl }),
    )

pub returns-clause-payload : goal.returns-clause-payload
returns-clause-payload c =
    inr (
      inl (record {
        kind = tt;
        at = at 302;
        number = refl;
        after_syn = omega arith;
        bytes = (refl, (refl, tt));
        fin = λ (e : Plain ≡ Fin). absurd (cc);
        heard = inl refl;
      }),
      inr (103, refl, record { at = at 103; same = refl; so_far = inr (refl, omega arith, omega arith) }),
    )

pub returns-clause-end : goal.returns-clause-end
returns-clause-end c =
    inr (
      inl (record {
        kind = tt;
        at = at 303;
        number = refl;
        after_syn = omega arith;
        bytes = (refl, tt);
        fin = λ _. (refl, refl);
        heard = inl refl;
      }),
      inr (101, refl, record { at = at 101; same = refl; so_far = inl refl }),
    )

pub returns-clause-keep_alive : goal.returns-clause-keep_alive
returns-clause-keep_alive c =
    inr (
      inr (inr (inl (record {
        plain = refl;
        at = at 302;
        number = refl;
        heard = omega arith;
        low = omega arith;
        high =
            inr (record {
              number = 303;
              acknowledged = record { offset = 0; segment = bare_ack 101 303; among = refl; no_reset = tt; acks = refl };
              far = omega arith;
            });
      }))),
      inr (101, refl, record { at = at 101; same = refl; so_far = inl refl }),
    )

pub returns-clause-reset : goal.returns-clause-reset
returns-clause-reset c = inl refl

-- event by event
pub returns-clause-exchange : goal.returns-clause-exchange
returns-clause-exchange c = (
  (refl, (omega arith, omega arith)),
  (
    refl,
    (
      inr (
        inr (inr (inr (record { syn = refl; number = omega arith; bare = λ (e : Some 101 ≡ None). absurd (cc) }))),
        inr (101, refl, record { at = at 101; same = refl; so_far = inl refl }),
      ),
      (
        record { asking = refl; comes = (0, refl); syn = refl; acks_syn = refl },
        (
          tt,
          (
            record { running = refl; unclosed = refl; short = omega arith },
            (
              record { running = refl; after_syn = omega arith; within = omega arith; last = λ (e : false ≡ true). absurd (cc) },
              (
                inr (
                  inl (record {
                    kind = tt;
                    at = at 303;
                    number = refl;
                    after_syn = omega arith;
                    bytes = (refl, tt);
                    fin = λ _. (refl, refl);
                    heard = inl refl;
                  }),
                  inr (103, refl, record { at = at 103; same = refl; so_far = inr (refl, omega arith, omega arith) }),
                ),
                (
                  record {
                    connected = tt;
                    comes = (1, refl);
                    no_reset = tt;
                    number = refl;
                    opens = λ (e : Synchronized ≡ SynReceived). absurd (cc);
                    low = omega arith;
                    high = omega arith;
                  },
                  (
                    record {
                      running = refl;
                      unfinished = refl;
                      comes = (1, refl);
                      kind = tt;
                      number = refl;
                      near = (omega arith, omega arith);
                    },
                    (
                      inr (
                        inl (record {
                          kind = tt;
                          at = at 301;
                          number = refl;
                          after_syn = omega arith;
                          bytes = (refl, (refl, tt));
                          fin = λ (e : Plain ≡ Fin). absurd (cc);
                          heard = inl refl;
                        }),
                        inr (101, refl, record { at = at 101; same = refl; so_far = inl refl }),
                      ),
                      (
                        record {
                          running = refl;
                          unfinished = refl;
                          comes = (2, refl);
                          kind = tt;
                          number = refl;
                          near = (omega arith, omega arith);
                        },
                        (record { running = refl; unfinished = refl; comes = (1, refl); fin = refl; next = refl }, (tt, tt)),
                      ),
                    ),
                  ),
                ),
              ),
            ),
          ),
        ),
      ),
    ),
  ),
)

pub returns-clause-outcome : goal.returns-clause-outcome
returns-clause-outcome c = (refl, refl, refl, refl)
