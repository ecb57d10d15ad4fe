use Rattle.wire_tcp.proofs.Borrowed.{Decides-value, Decides-segment}
use Rattle.wire_tcp.proofs.laws.tcp_borrowed_equal.Goals as goal

pub returns-clause-option : goal.returns-clause-option
returns-clause-option c = Decides-value

pub returns-clause-segment : goal.returns-clause-segment
returns-clause-segment c = Decides-segment
