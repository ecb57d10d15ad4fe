use Rattle.wire_tcp.proofs.Read.{IsTcp-one}
use Rattle.wire_tcp.proofs.laws.tcp_one_value.Goals as goal

pub returns : goal.returns
returns c = IsTcp-one
