use Rattle.tcp_net.proofs.Nets.{net_peers}
use Rattle.tcp_net.proofs.connections_are_safe.Goals as goal

pub returns : goal.returns
returns c = record { peers = λ rooms resets history all is l r. net_peers rooms resets all history is l r }
