use Rattle.tcp_liveness.proofs.Positions.{lies_within}
use Rattle.tcp_liveness.proofs.laws.rcv_nxt_lies_in_what_was_written.Goals as goal

pub returns : goal.returns
returns c = record { within = lies_within }
