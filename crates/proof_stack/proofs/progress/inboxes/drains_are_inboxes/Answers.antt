use Rattle.proof_stack.proofs.Polls.Inboxes.{drains}
use Rattle.proof_stack.proofs.progress.inboxes.drains_are_inboxes.Goals as goal

pub returns : goal.returns
returns c = drains
