use Rattle.proof_stack.proofs.Polls.BetweenPorts.{brought}
use Rattle.proof_stack.proofs.progress.inboxes.what_went_is_brought.Goals as goal

pub returns : goal.returns
returns c = brought
