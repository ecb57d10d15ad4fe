use Rattle.tcp_liveness.proofs.Shaken.{answers_on, syn_came}
use Rattle.tcp_liveness.proofs.ShakenOn.{calls_on}
use Rattle.tcp_liveness.proofs.handshake.an_answer_that_was_lost_goes_again.Goals as goal

pub returns : goal.returns
returns c = record {
  answered = answers_on;
  called = calls_on;
  begins = λ p side first second third r m. (syn_came p side first second third r m).may.unanswered;
}
