use Rattle.tcp_liveness.proofs.Settles.{all_read, done}
use Rattle.tcp_liveness.proofs.settle.one_way_gets_through.Goals as goal

pub returns : goal.returns
returns c = record {
  acknowledged = λ p side r m. (done p side r m).none;
  read = all_read;
  leads = λ p side r m. (done p side r m).reached;
}
