use Rattle.proof_stack.proofs.Peers.Going.{close_proceeds}
use Rattle.proof_stack.proofs.peer_host.calls.close.Goals as goal

pub returns-clause-proceeds : goal.returns-clause-proceeds
returns-clause-proceeds c = close_proceeds _ _ c.close.ensures
