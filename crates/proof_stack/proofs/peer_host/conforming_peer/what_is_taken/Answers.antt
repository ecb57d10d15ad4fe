use Rattle.proof_stack.proofs.Peers.Socket.WhatIsTaken.{taken_asking, taken_answering, taken_syn}
use Rattle.proof_stack.proofs.peer_host.conforming_peer.what_is_taken.Goals as goal

pub returns : goal.returns
returns c = record { syn_sent = taken_asking; syn_received = taken_answering; syn = taken_syn }
