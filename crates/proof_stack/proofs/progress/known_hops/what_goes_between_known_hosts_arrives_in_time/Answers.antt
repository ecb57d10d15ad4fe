use Rattle.proof_stack.proofs.EventComes.{come_there}
use Rattle.proof_stack.proofs.progress.known_hops.what_goes_between_known_hosts_arrives_in_time.Goals as goal

pub returns : goal.returns
returns c = come_there
