use Rattle.wire_ip.proofs.IpLaws.{normal-v6}
use Rattle.wire_ip.proofs.ipv6.laws.ipv6_normal_again.Goals as goal

pub returns : goal.returns
returns c = normal-v6
