use Rattle.proof_stack.proofs.Peers.Going.{abort_proceeds}
use Rattle.proof_stack.proofs.peer_host.calls.abort.Goals as goal

pub returns-clause-proceeds : goal.returns-clause-proceeds
returns-clause-proceeds c = abort_proceeds _ _ c.abort.ensures
