use Rattle.wire_ip.proofs.IpLaws.{read-v6}
use Rattle.wire_ip.proofs.ipv6.laws.ipv6_normal.Goals as goal

pub returns : goal.returns
returns c = read-v6
