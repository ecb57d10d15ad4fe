use Rattle.wire_ip.proofs.Ipv4Laws.{header-spelling}
use Rattle.wire_ip.proofs.ipv4.laws.ipv4_quoted_spelled.Goals as goal

pub returns : goal.returns
returns c = header-spelling
