use Rattle.tcp_liveness.proofs.ShakenAcross.{crossing, meets_on}
use Rattle.tcp_liveness.proofs.handshake.syns_that_cross_open_a_connection.Goals as goal

pub returns : goal.returns
returns c = record {
  leads = λ p side first second r m. (crossing p side first second r m).leads;
  own = λ p side first second r m. (crossing p side first second r m).own;
  theirs = λ p side first second r m. (crossing p side first second r m).theirs;
  met = meets_on;
}
