use Rattle.proof_stack.proofs.Polls.Inboxes.{queue_is}
use Rattle.proof_stack.proofs.progress.inboxes.a_queue_is_an_inbox.Goals as goal

pub returns : goal.returns
returns c = queue_is
