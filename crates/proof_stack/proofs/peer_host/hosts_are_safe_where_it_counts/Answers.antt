use Rattle.proof_stack.proofs.Peers.HostRuns.{run_is_safe_where_taken}
use Rattle.proof_stack.proofs.peer_host.hosts_are_safe_where_it_counts.Goals as goal

pub returns : goal.returns
returns g c = record { safe = λ acts s s' i v is at. run_is_safe_where_taken g.D.Device.moves i acts s s' v is at }
