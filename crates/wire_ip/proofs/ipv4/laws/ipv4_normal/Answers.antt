use Rattle.wire_ip.proofs.IpLaws.{read-v4}
use Rattle.wire_ip.proofs.ipv4.laws.ipv4_normal.Goals as goal

pub returns : goal.returns
returns c = read-v4
