use Rattle.tcp_liveness.proofs.MendingRuns.{begins_in_time}
use Rattle.tcp_liveness.proofs.latency.a_side_begins_at_snd_una_in_time.Goals as goal

pub returns : goal.returns
returns c = record { minutes = begins_in_time }
