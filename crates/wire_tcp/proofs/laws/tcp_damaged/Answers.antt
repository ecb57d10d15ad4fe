use Rattle.wire_tcp.proofs.Sealed.{IsTcp-put16}
use Rattle.wire_tcp.proofs.laws.tcp_damaged.Goals as goal

pub returns : goal.returns
returns c = IsTcp-put16
