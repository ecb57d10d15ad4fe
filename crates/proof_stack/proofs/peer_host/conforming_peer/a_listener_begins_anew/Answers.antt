use Rattle.proof_stack.proofs.Peers.Socket.TakenRuns.{anew_safe, listens_again, listens_again_anew}
use Rattle.proof_stack.proofs.peer_host.conforming_peer.a_listener_begins_anew.Goals as goal

pub returns : goal.returns
returns c = record {
  safe = λ peer v resets events e listener are_resets is_run. anew_safe peer v resets events e are_resets listener is_run;
  fell_back = listens_again;
  fell_back_again = listens_again_anew;
}
