use Rattle.tcp_liveness.proofs.Opened.{is_open}
use Rattle.tcp_liveness.proofs.laws.a_side_of_a_pair_is_open.Goals as goal

pub returns : goal.returns
returns c = record { counts = is_open }
