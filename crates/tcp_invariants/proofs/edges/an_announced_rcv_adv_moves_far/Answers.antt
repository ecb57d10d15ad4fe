use Rattle.tcp_invariants.proofs.RcvAdvMoves.{new_moves}
use Rattle.tcp_invariants.proofs.edges.an_announced_rcv_adv_moves_far.Goals as goal

pub returns : goal.returns
returns c = record { moves = new_moves }
