use Rattle.proof_stack.proofs.AtEdges.Spans.{reached_at_edges, through_at_edges}
use Rattle.proof_stack.proofs.progress.edges.all_is_acknowledged_wherever_acknowledgements_come.Goals as goal

pub returns : goal.returns
returns c = record { reached = reached_at_edges; through = through_at_edges }
