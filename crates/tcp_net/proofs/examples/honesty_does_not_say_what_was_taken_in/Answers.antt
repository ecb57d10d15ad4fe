use Rattle.std.proofs.Common.{◌≡◌, inl, inr, true, false, [], ◌∷◌, refl, arith}
use Rattle.tcp_theory.specs.Examples.{at, bare_ack}
use Rattle.tcp_net.proofs.examples.honesty_does_not_say_what_was_taken_in.Goals as goal

pub returns-clause-one : goal.returns-clause-one
returns-clause-one c = record {
  prefix = ([], refl);
  finished = λ (e : false ≡ true). absurd (cc);
  freed =
      inr (
        refl,
        record {
          number = 103;
          acknowledged = record { offset = 0; segment = bare_ack 301 103; among = refl; no_reset = tt; acks = refl };
          far = omega arith;
        },
      );
  honest = tt;
}

pub returns-clause-other : goal.returns-clause-other
returns-clause-other c = record {
  prefix = (7 ∷ 8 ∷ [], refl);
  finished = λ (e : false ≡ true). absurd (cc);
  freed = inl refl;
  honest = (inr (inr (inl (refl, refl)), inr (103, refl, record { at = at 103; same = refl; so_far = inr (refl, omega arith, omega arith) })), tt);
}

pub returns-clause-breaks : goal.returns-clause-breaks
returns-clause-breaks c = λ safe. let freed = safe.0.freed in absurd (omega arith)
