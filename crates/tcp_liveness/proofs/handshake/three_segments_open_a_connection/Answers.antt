use Rattle.tcp_liveness.proofs.Shaken.{shake}
use Rattle.tcp_liveness.proofs.handshake.three_segments_open_a_connection.Goals as goal

pub returns : goal.returns
returns c = record {
  opened = λ p side first second third r m. (shake p side first second third r m).opened;
  leads = λ p side first second third r m. (shake p side first second third r m).leads;
  own = λ p side first second third r m. (shake p side first second third r m).own;
  theirs = λ p side first second third r m. (shake p side first second third r m).theirs;
  mirrored = λ p side first second third r m. (shake p side first second third r m).mirrored;
}
