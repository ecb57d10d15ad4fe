use Rattle.proof_stack.proofs.Polls.Inbox.{arrives_in_a_poll}
use Rattle.proof_stack.proofs.progress.delivered.a_queued_datagram_arrives_within_a_poll.Goals as goal

pub returns : goal.returns
returns g c frames_at = arrives_in_a_poll g.D.Device.moves g.E.Device.moves frames_at
