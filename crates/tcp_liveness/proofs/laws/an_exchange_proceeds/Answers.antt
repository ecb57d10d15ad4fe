use Rattle.tcp_liveness.proofs.Exchange.{proceeds}
use Rattle.tcp_liveness.proofs.laws.an_exchange_proceeds.Goals as goal

pub returns : goal.returns
returns c = record { moved = proceeds }
