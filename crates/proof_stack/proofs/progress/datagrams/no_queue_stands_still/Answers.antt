use Rattle.proof_stack.proofs.Polls.LeavesQueue.{step_leaves}
use Rattle.proof_stack.proofs.progress.datagrams.no_queue_stands_still.Goals as goal

pub returns : goal.returns
returns g c = step_leaves g.D.Device.moves
