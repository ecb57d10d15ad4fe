use Rattle.proof_stack.proofs.AtEdges.Whole.{arrives_within, proceeds}
use Rattle.proof_stack.proofs.progress.edges.a_connection_proceeds_wherever_acknowledgements_come.Goals as goal

pub returns : goal.returns
returns c = record { owes = proceeds; weaker = arrives_within }
