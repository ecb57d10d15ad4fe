use Rattle.proof_stack.proofs.EventAtOnce.{are_asked_at_once}
use Rattle.proof_stack.proofs.progress.at_once.sockets_that_are_served_at_once_are_asked.Goals as goal

pub returns : goal.returns
returns c = are_asked_at_once
