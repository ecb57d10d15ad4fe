use Rattle.proof_stack.proofs.EventWaitless.{nobody_waits}
use Rattle.proof_stack.proofs.progress.known_hops.nobody_waits_where_hosts_know_each_other.Goals as goal

pub returns : goal.returns
returns c = nobody_waits
