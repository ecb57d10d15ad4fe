use Rattle.tcp_liveness.proofs.PutOff.{in_time, is_running}
use Rattle.tcp_liveness.proofs.PutOffRuns.{runs_through}
use Rattle.tcp_liveness.proofs.timer.only_news_puts_the_timer_off.Goals as goal

pub returns : goal.returns
returns c = record { runs = is_running; stays = in_time; through = runs_through }
