use Rattle.wire_tcp.proofs.Read.{Fits-read}
use Rattle.wire_tcp.proofs.Widths.{IsValue-read}
use Rattle.wire_tcp.proofs.laws.tcp_written_again.Goals as goal

pub returns : goal.returns
returns c = record { value = IsValue-read; fits = Fits-read }
