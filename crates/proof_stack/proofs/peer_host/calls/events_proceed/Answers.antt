use Rattle.proof_stack.proofs.Peers.Going.{one_proceeds, more_proceed, none_proceeds}
use Rattle.proof_stack.proofs.peer_host.calls.events_proceed.Goals as goal

pub returns : goal.returns
returns c = record { one = one_proceeds; more = more_proceed; none = none_proceeds }
