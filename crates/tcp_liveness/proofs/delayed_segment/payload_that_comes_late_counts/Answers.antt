use Rattle.tcp_liveness.proofs.LatePayload.{late_payload}
use Rattle.tcp_liveness.proofs.delayed_segment.payload_that_comes_late_counts.Goals as goal

pub returns : goal.returns
returns c = record { counts = late_payload }
