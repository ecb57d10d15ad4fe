use Rattle.std.proofs.Common.{◌≡◌, inl, inr, true, false, refl, arith}
use Rattle.tcp_net.proofs.examples.two_clients_are_served.Goals as goal

pub returns-clause-happens : goal.returns-clause-happens
returns-clause-happens c = (
  refl,
  (
    (refl, (omega arith, omega arith)),
    (
      refl,
      (
        (refl, (omega arith, omega arith)),
        (
          refl,
          (
            inr (0, refl),
            (
              record { listening = refl; comes = (0, refl); syn = refl; bare = refl; first = (omega arith, omega arith) },
              (
                tt,
                (
                  inl refl,
                  (
                    (refl, refl),
                    (
                      refl,
                      (
                        inr (0, refl),
                        (
                          record { listening = refl; comes = (0, refl); syn = refl; bare = refl; first = (omega arith, omega arith) },
                          (
                            tt,
                            (
                              inr (0, refl),
                              (
                                record { asking = refl; comes = (0, refl); syn = refl; acks_syn = refl },
                                (
                                  record { running = refl; unclosed = refl; short = omega arith },
                                  (
                                    record { running = refl; after_syn = omega arith; within = omega arith; last = λ (e : false ≡ true). absurd (cc) },
                                    (
                                      inr (1, refl),
                                      (
                                        record { connected = tt; comes = (1, refl); no_reset = tt; number = refl; opens = λ _. refl; low = omega arith; high = omega arith },
                                        (
                                          record { running = refl; unfinished = refl; comes = (1, refl); kind = tt; number = refl; near = (omega arith, omega arith) },
                                          tt,
                                        ),
                                      ),
                                    ),
                                  ),
                                ),
                              ),
                            ),
                          ),
                        ),
                      ),
                    ),
                  ),
                ),
              ),
            ),
          ),
        ),
      ),
    ),
  ),
)

pub returns-clause-outcome : goal.returns-clause-outcome
returns-clause-outcome c = refl
