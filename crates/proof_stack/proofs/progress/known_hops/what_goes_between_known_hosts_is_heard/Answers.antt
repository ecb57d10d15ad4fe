use Rattle.proof_stack.proofs.EventComes.{heard_there}
use Rattle.proof_stack.proofs.progress.known_hops.what_goes_between_known_hosts_is_heard.Goals as goal

pub returns : goal.returns
returns c = heard_there
