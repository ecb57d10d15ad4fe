use Rattle.tcp_liveness.proofs.Exchange.{peer_sides_word}
use Rattle.tcp_liveness.proofs.laws.what_a_peer_side_says_raises_snd_una.Goals as goal

pub returns : goal.returns
returns c = record { rises = peer_sides_word }
