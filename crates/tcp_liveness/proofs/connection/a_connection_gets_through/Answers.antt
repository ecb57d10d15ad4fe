use Rattle.tcp_liveness.specs.BothWays.{bound}
use Rattle.tcp_liveness.proofs.EndsTold.{end_told}
use Rattle.tcp_liveness.proofs.Joins.{leads_to, talking_in, tries_in}
use Rattle.tcp_liveness.proofs.Patient.{talk_on}
use Rattle.tcp_liveness.proofs.Talks.{talks, there}
use Rattle.tcp_liveness.proofs.Turns.{all_read_in, through}
use Rattle.tcp_liveness.proofs.connection.a_connection_gets_through.Goals as goal

pub returns : goal.returns
returns c = record {
  talking = λ p q side course calls r m. talking_in p q side course calls r m;
  tries = λ p q side course calls r m. tries_in p q side course calls r m;
  through = λ p q side course calls r m.
      let on = leads_to p q side course calls r m in
      let s = talking_in p q side course calls r m in
      through q on (there (bound q) q s) (talks (bound q) q on s (talk_on (bound q) q on s (tries_in p q side course calls r m)));
  read = λ p q side course calls r m.
      let on = leads_to p q side course calls r m in
      let s = talking_in p q side course calls r m in
      all_read_in q on (there (bound q) q s) (talks (bound q) q on s (talk_on (bound q) q on s (tries_in p q side course calls r m)));
  ends = λ p q side course calls r m.
      let on = leads_to p q side course calls r m in
      let s = talking_in p q side course calls r m in
      end_told q on s (talk_on (bound q) q on s (tries_in p q side course calls r m));
}
