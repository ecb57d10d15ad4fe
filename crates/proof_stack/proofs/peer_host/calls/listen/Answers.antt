use Rattle.proof_stack.proofs.Peers.Going.{listen_proceeds}
use Rattle.proof_stack.proofs.peer_host.calls.listen.Goals as goal

pub returns-clause-proceeds : goal.returns-clause-proceeds
returns-clause-proceeds c = listen_proceeds _ _ c.args.endpoint c.listen_to.ensures.after
