use Rattle.proof_stack.proofs.EventHopLimit.{are_let_go_there}
use Rattle.proof_stack.proofs.progress.known_hops.offers_go_where_hosts_know_each_other.Goals as goal

pub returns : goal.returns
returns c = λ starts net past more hosts still slots own pairs moves by leave connected known.
    are_let_go_there starts slots own pairs net past more hosts still moves by leave connected known
