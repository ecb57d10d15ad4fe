use Rattle.wire_tcp.proofs.Equal.{Decides-options, Decides-header}
use Rattle.wire_tcp.proofs.laws.tcp_equal.Goals as goal

pub returns-clause-options : goal.returns-clause-options
returns-clause-options c = Decides-options

pub returns-clause-header : goal.returns-clause-header
returns-clause-header c = Decides-header
