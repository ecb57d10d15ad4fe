use Rattle.proof_stack.proofs.Peers.Going.{arrival_proceeds}
use Rattle.proof_stack.proofs.peer_host.calls.process.Goals as goal

pub returns-clause-proceeds : goal.returns-clause-proceeds
returns-clause-proceeds g c = arrival_proceeds (g.C.Context.context c.args.cx.now) _ _ _ _ _ c.process.ensures.socket
