use Rattle.tcp_liveness.proofs.PutOffProbes.{window_limited}
use Rattle.tcp_liveness.proofs.timer.no_window_puts_a_probe_off.Goals as goal

pub returns : goal.returns
returns c = record { stays = window_limited }
