use Rattle.proof_stack.proofs.Polls.Exchanged.{exchanged_with}
use Rattle.proof_stack.proofs.progress.delivered.a_datagram_to_an_unknown_neighbor_arrives.Goals as goal

pub returns : goal.returns
returns g c = exchanged_with g.D.Device.moves g.E.Device.moves
