use Rattle.tcp_liveness.proofs.Pair.{in_step}
use Rattle.tcp_liveness.proofs.laws.a_side_with_a_stream_is_in_step.Goals as goal

pub returns : goal.returns
returns c = record { step = in_step }
