use Rattle.tcp_net.proofs.Replayed.{streams_again}
use Rattle.tcp_net.proofs.streams_are_safe_again.Goals as goal

pub returns : goal.returns
returns c = record { safe = streams_again }
