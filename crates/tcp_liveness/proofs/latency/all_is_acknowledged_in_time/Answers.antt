use Rattle.tcp_liveness.proofs.CourseSpans.{reached_in_spans, through_in_spans}
use Rattle.tcp_liveness.proofs.latency.all_is_acknowledged_in_time.Goals as goal

pub returns : goal.returns
returns c = record { reached = reached_in_spans; through = through_in_spans }
