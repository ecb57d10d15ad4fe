use Rattle.tcp_peer.proofs.Safety.{runs_safe}
use Rattle.tcp_peer.proofs.streams_are_safe_beside_an_honest_peer.Goals as goal

pub returns : goal.returns
returns c = record { safe = runs_safe }
