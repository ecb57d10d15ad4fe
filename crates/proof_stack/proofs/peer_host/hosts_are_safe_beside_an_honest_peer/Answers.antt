use Rattle.proof_stack.proofs.Peers.HostRuns.{run_is_safe}
use Rattle.proof_stack.proofs.peer_host.hosts_are_safe_beside_an_honest_peer.Goals as goal

pub returns : goal.returns
returns g c = record { safe = λ acts s s' i v is at. run_is_safe g.D.Device.moves i acts s s' v is at }
