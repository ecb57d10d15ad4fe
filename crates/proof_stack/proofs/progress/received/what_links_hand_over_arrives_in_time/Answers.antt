use Rattle.proof_stack.proofs.EventComes.{come_over}
use Rattle.proof_stack.proofs.progress.received.what_links_hand_over_arrives_in_time.Goals as goal

pub returns : goal.returns
returns c = come_over
