use Rattle.proof_stack.proofs.Peers.Socket.Runs.{read_to_the_end}
use Rattle.proof_stack.proofs.peer_host.conforming_peer.the_end_of_the_peers_stream_is_complete.Goals as goal

pub returns : goal.returns
returns c = record { finished = read_to_the_end }
