use Rattle.proof_stack.proofs.Polls.First.{step_asks_for_it}
use Rattle.proof_stack.proofs.progress.neighbors.a_datagram_waits_for_its_neighbor.Goals as goal

pub returns : goal.returns
returns g c = step_asks_for_it g.D.Device.moves
