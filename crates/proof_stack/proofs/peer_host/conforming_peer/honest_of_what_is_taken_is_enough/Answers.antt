use Rattle.proof_stack.proofs.Peers.Socket.TakenRuns.{taken_safe}
use Rattle.proof_stack.proofs.peer_host.conforming_peer.honest_of_what_is_taken_is_enough.Goals as goal

pub returns : goal.returns
returns c = record { safe = λ peer v resets events e initial are_resets is_run. taken_safe peer v resets events e are_resets initial is_run }
