use Rattle.tcp_liveness.proofs.PutOffRuns.{minute_passes}
use Rattle.tcp_liveness.proofs.timer.a_minute_brings_news_or_runs_the_timer_out.Goals as goal

pub returns : goal.returns
returns c = record { minute = minute_passes }
