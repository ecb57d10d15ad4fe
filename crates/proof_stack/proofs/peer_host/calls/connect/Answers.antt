use Rattle.proof_stack.proofs.Peers.Going.{connect_proceeds}
use Rattle.proof_stack.proofs.peer_host.calls.connect.Goals as goal

pub returns-clause-proceeds : goal.returns-clause-proceeds
returns-clause-proceeds g c = connect_proceeds (g.C.Context.context c.args.cx.now) _ _ c.args.remote c.args.local c.connect_to.ensures.after
