use Rattle.tcp_net.proofs.NetTaken.{taken_net_safe}
use Rattle.tcp_net.proofs.connections_are_safe_where_it_counts.Goals as goal

pub returns : goal.returns
returns c = record { safe = taken_net_safe }
