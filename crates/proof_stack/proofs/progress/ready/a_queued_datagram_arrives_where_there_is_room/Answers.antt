use Rattle.proof_stack.proofs.Polls.Ready.{arrives_with_room}
use Rattle.proof_stack.proofs.progress.ready.a_queued_datagram_arrives_where_there_is_room.Goals as goal

pub returns : goal.returns
returns g c frames_at = arrives_with_room g.D.Device.moves g.E.Device.moves frames_at
