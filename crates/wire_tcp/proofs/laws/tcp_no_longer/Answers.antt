use Rattle.wire_tcp.proofs.Read.{header-no_longer, segment-no_longer}
use Rattle.wire_tcp.proofs.laws.tcp_no_longer.Goals as goal

pub returns : goal.returns
returns c = record { header = header-no_longer; segment = segment-no_longer }
