use Rattle.tcp_liveness.proofs.CourseWindows.{gets_on}
use Rattle.tcp_liveness.proofs.readers.a_connection_proceeds_whatever_its_windows_are.Goals as goal

pub returns : goal.returns
returns c = record { owes = gets_on }
