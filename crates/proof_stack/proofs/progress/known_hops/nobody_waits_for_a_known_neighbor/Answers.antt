use Rattle.proof_stack.proofs.EventHopLimit.{waits_for_none_known}
use Rattle.proof_stack.proofs.progress.known_hops.nobody_waits_for_a_known_neighbor.Goals as goal

pub returns : goal.returns
returns c = waits_for_none_known
