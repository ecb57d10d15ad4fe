use Rattle.proof_stack.proofs.Polls.Inboxes.{no_loopback}
use Rattle.proof_stack.proofs.progress.inboxes.a_loopback_is_no_inbox.Goals as goal

pub returns : goal.returns
returns c = no_loopback
