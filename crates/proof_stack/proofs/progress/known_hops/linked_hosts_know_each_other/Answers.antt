use Rattle.proof_stack.proofs.EventHopLimit.{acquainted}
use Rattle.proof_stack.proofs.progress.known_hops.linked_hosts_know_each_other.Goals as goal

pub returns : goal.returns
returns c = acquainted
