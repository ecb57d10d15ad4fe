use Rattle.proof_stack.proofs.Peers.Going.{offer_proceeds}
use Rattle.proof_stack.proofs.peer_host.calls.dispatch.Goals as goal

pub returns-clause-proceeds : goal.returns-clause-proceeds
returns-clause-proceeds g c = offer_proceeds g.F.FnOnce c.args.emit (g.C.Context.context c.args.cx.now) _ _ c.dispatch.result c.dispatch.ensures
