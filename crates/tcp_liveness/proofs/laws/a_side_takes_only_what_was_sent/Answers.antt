use Rattle.tcp_liveness.proofs.SentPairs.{reached_sends, reached_taken, reached_sent, reached_near}
use Rattle.tcp_liveness.proofs.laws.a_side_takes_only_what_was_sent.Goals as goal

pub returns : goal.returns
returns c = record { invariant = reached_sends; taken = reached_taken; sent = reached_sent; near = reached_near }
