use Rattle.tcp_liveness.proofs.OnwardPairs.{acked_stays, taken_stays}
use Rattle.tcp_liveness.proofs.delayed_segment.what_was_reached_stays_so.Goals as goal

pub returns : goal.returns
returns c = record { acknowledged = acked_stays; taken = taken_stays }
