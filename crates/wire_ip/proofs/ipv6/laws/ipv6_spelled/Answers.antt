use Rattle.wire_ip.proofs.Ipv6Laws.{bytes-spelling}
use Rattle.wire_ip.proofs.ipv6.laws.ipv6_spelled.Goals as goal

pub returns : goal.returns
returns c = bytes-spelling
