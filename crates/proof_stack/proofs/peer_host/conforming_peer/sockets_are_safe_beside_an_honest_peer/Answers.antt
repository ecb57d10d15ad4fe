use Rattle.proof_stack.proofs.Peers.Socket.Runs.{runs_safe}
use Rattle.proof_stack.proofs.peer_host.conforming_peer.sockets_are_safe_beside_an_honest_peer.Goals as goal

pub returns : goal.returns
returns c = record { safe = runs_safe }
