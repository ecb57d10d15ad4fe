use Rattle.wire_ip.proofs.Ipv6Laws.{header-spelling}
use Rattle.wire_ip.proofs.ipv6.laws.ipv6_quoted_spelled.Goals as goal

pub returns : goal.returns
returns c = header-spelling
