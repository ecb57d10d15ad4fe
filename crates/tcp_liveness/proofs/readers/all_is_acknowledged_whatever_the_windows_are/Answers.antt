use Rattle.tcp_liveness.proofs.CourseThrough.{reached_whatever, through_whatever}
use Rattle.tcp_liveness.proofs.readers.all_is_acknowledged_whatever_the_windows_are.Goals as goal

pub returns : goal.returns
returns c = record { reached = reached_whatever; through = through_whatever }
