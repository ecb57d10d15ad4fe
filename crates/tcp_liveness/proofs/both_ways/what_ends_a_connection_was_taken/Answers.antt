use Rattle.tcp_liveness.proofs.LastAcked.{ends_last, ends_taken}
use Rattle.tcp_liveness.proofs.both_ways.what_ends_a_connection_was_taken.Goals as goal

pub returns : goal.returns
returns c = record { last = λ p side k x r e. ends_last p k x r side e; taken = λ p side k x r e. ends_taken p k x r side e }
