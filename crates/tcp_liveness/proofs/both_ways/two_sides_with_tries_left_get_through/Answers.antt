use Rattle.tcp_liveness.specs.BothWays.{bound}
use Rattle.tcp_liveness.proofs.EndsTold.{end_told}
use Rattle.tcp_liveness.proofs.Patient.{never_ends, talk_on}
use Rattle.tcp_liveness.proofs.Talks.{talks, there}
use Rattle.tcp_liveness.proofs.Turns.{all_read_in, through}
use Rattle.tcp_liveness.proofs.both_ways.two_sides_with_tries_left_get_through.Goals as goal

pub returns : goal.returns
returns c = record {
  talk = talk_on;
  patient = never_ends;
  through = λ p r s t. through p r (there (bound p) p s) (talks (bound p) p r s (talk_on (bound p) p r s t));
  read = λ p r s t. all_read_in p r (there (bound p) p s) (talks (bound p) p r s (talk_on (bound p) p r s t));
  ends = λ p r s t. end_told p r s (talk_on (bound p) p r s t);
}
