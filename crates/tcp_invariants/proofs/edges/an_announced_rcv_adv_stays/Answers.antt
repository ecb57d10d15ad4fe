use Rattle.tcp_invariants.proofs.RcvAdvRules.{new_edges}
use Rattle.tcp_invariants.proofs.edges.an_announced_rcv_adv_stays.Goals as goal

pub returns : goal.returns
returns c = record { edges = new_edges }
