use Rattle.tcp_liveness.proofs.Overtaken.{initial_unless_overtaken}
use Rattle.tcp_liveness.proofs.timestamps.what_nothing_overtook_is_initial.Goals as goal

pub returns : goal.returns
returns c = record { initial = initial_unless_overtaken }
