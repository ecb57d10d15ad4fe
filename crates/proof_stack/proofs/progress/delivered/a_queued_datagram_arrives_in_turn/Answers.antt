use Rattle.proof_stack.proofs.Polls.Delivered.{arrives_in_turn}
use Rattle.proof_stack.proofs.progress.delivered.a_queued_datagram_arrives_in_turn.Goals as goal

pub returns : goal.returns
returns g c = arrives_in_turn g.D.Device.moves g.E.Device.moves
