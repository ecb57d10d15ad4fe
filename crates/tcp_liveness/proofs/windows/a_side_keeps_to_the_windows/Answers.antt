use Rattle.tcp_liveness.proofs.WindowPairs.{near_in, reached_told, reached_windows}
use Rattle.tcp_liveness.proofs.windows.a_side_keeps_to_the_windows.Goals as goal

pub returns : goal.returns
returns c = record { told = reached_told; keeps = reached_windows; near = near_in }
