use Rattle.proof_stack.proofs.Polls.Inboxes.{ports}
use Rattle.proof_stack.proofs.progress.inboxes.ports_are_inboxes.Goals as goal

pub returns : goal.returns
returns c = ports
