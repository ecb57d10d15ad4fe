use Rattle.wire_tcp.proofs.Lengths.{length-segment}
use Rattle.wire_tcp.proofs.laws.tcp_written_len.Goals as goal

pub returns : goal.returns
returns c = length-segment
