use Rattle.proof_stack.proofs.Polls.Served.{arrives_once}
use Rattle.proof_stack.proofs.progress.served.a_waiting_datagram_arrives.Goals as goal

pub returns : goal.returns
returns g c hops n v d own node a asked p steps order waits ours enough some =
    arrives_once g.D.Device.moves g.E.Device.moves hops n v d own node a asked p some steps order waits ours enough
