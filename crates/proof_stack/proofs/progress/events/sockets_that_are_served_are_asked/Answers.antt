use Rattle.proof_stack.proofs.EventAsked.{are_asked}
use Rattle.proof_stack.proofs.progress.events.sockets_that_are_served_are_asked.Goals as goal

pub returns : goal.returns
returns c = are_asked
