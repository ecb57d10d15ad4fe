use Rattle.proof_stack.proofs.EventComes.{heard_over}
use Rattle.proof_stack.proofs.progress.received.what_links_hand_over_is_heard.Goals as goal

pub returns : goal.returns
returns c = heard_over
