use Rattle.tcp_liveness.proofs.CourseGoes.{proceeds_in_time}
use Rattle.tcp_liveness.proofs.CourseOwes.{owed_in_time}
use Rattle.tcp_liveness.proofs.latency.a_connection_proceeds_in_time.Goals as goal

pub returns : goal.returns
returns c = record { goes = proceeds_in_time; owes = owed_in_time }
