use Rattle.proof_stack.proofs.Peers.Going.{send_proceeds}
use Rattle.proof_stack.proofs.peer_host.calls.send_slice.Goals as goal

pub returns-clause-proceeds : goal.returns-clause-proceeds
returns-clause-proceeds c = send_proceeds _ _ c.args.bytes.now c.send_slice.ensures.state
