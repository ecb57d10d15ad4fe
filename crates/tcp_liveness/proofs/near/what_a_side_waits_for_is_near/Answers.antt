use Rattle.tcp_liveness.proofs.PairTimers.{pause_near, probe_near, restart_soon, timer_near}
use Rattle.tcp_liveness.proofs.near.what_a_side_waits_for_is_near.Goals as goal

pub returns : goal.returns
returns c = record { timer = timer_near; probe = probe_near; pause = pause_near; restart = restart_soon }
