use Rattle.proof_stack.proofs.Partnered.{proceeds}
use Rattle.proof_stack.proofs.progress.peer_sides.peer_sides_proceed.Goals as goal

pub returns : goal.returns
returns c = proceeds
