use Rattle.tcp_peer.proofs.Taken.{taken_safe}
use Rattle.tcp_peer.proofs.honest_where_it_counts_is_enough.Goals as goal

pub returns : goal.returns
returns c = record { safe = taken_safe }
