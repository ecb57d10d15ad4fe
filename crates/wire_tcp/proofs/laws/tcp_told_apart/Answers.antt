use Rattle.wire_tcp.proofs.Told.{written-same}
use Rattle.wire_tcp.proofs.laws.tcp_told_apart.Goals as goal

pub returns : goal.returns
returns c = written-same
