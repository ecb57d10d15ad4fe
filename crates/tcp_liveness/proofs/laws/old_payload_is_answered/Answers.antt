use Rattle.tcp_liveness.proofs.Taken.{again_answered}
use Rattle.tcp_liveness.proofs.laws.old_payload_is_answered.Goals as goal

pub returns : goal.returns
returns c = record { answered = again_answered }
