use Rattle.tcp_liveness.proofs.CourseRuns.{begins_in_course}
use Rattle.tcp_liveness.proofs.latency.a_side_that_is_asked_in_time_begins_at_snd_una.Goals as goal

pub returns : goal.returns
returns c = record { span = begins_in_course }
