use Rattle.tcp_liveness.proofs.Pair.{exchanges_few}
use Rattle.tcp_liveness.proofs.laws.exchanges_come_to_an_end.Goals as goal

pub returns : goal.returns
returns c = record { few = exchanges_few }
