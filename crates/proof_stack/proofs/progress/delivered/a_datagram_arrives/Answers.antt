use Rattle.proof_stack.proofs.Polls.Delivered.{arrives}
use Rattle.proof_stack.proofs.progress.delivered.a_datagram_arrives.Goals as goal

pub returns : goal.returns
returns g c = arrives g.D.Device.moves g.E.Device.moves
