use Rattle.proof_stack.proofs.Polls.Leave.{arrives_with_leave}
use Rattle.proof_stack.proofs.progress.inboxes.a_queued_datagram_arrives_while_there_is_leave.Goals as goal

pub returns : goal.returns
returns g c gives_tx_token frames_at = arrives_with_leave g.D.Device.moves g.E.Device.moves gives_tx_token frames_at
