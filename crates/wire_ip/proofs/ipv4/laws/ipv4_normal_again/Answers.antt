use Rattle.wire_ip.proofs.IpLaws.{normal-v4}
use Rattle.wire_ip.proofs.ipv4.laws.ipv4_normal_again.Goals as goal

pub returns : goal.returns
returns c = normal-v4
