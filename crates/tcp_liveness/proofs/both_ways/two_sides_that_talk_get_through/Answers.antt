use Rattle.tcp_liveness.specs.BothWays.{bound}
use Rattle.tcp_liveness.proofs.EndsTold.{end_told}
use Rattle.tcp_liveness.proofs.Talks.{talks, there}
use Rattle.tcp_liveness.proofs.Turns.{all_read_in, through}
use Rattle.tcp_liveness.proofs.both_ways.two_sides_that_talk_get_through.Goals as goal

pub returns : goal.returns
returns c = record {
  may = talks;
  through = λ p r s m. through p r (there (bound p) p s) (talks (bound p) p r s m);
  read = λ p r s m. all_read_in p r (there (bound p) p s) (talks (bound p) p r s m);
  ends = end_told;
}
