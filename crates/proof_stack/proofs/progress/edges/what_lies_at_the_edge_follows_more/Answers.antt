use Rattle.proof_stack.proofs.AtEdges.Sent.{follows_more}
use Rattle.proof_stack.proofs.progress.edges.what_lies_at_the_edge_follows_more.Goals as goal

pub returns : goal.returns
returns c = follows_more
