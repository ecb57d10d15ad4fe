use Rattle.wire_tcp.proofs.Spelled.{bytes-spelled}
use Rattle.wire_tcp.proofs.laws.tcp_spelled.Goals as goal

pub returns : goal.returns
returns c = bytes-spelled
