use Rattle.tcp_net.proofs.Knot.{peers_play}
use Rattle.tcp_net.proofs.peers_are_honest.Goals as goal

pub returns : goal.returns
returns c = record { peers = λ room_a room_b resets_a resets_b history are_a are_b is. peers_play room_a room_b resets_a resets_b are_a are_b history is }
