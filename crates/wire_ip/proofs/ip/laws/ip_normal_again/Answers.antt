use Rattle.wire_ip.proofs.IpLaws.{normal-ip}
use Rattle.wire_ip.proofs.ip.laws.ip_normal_again.Goals as goal

pub returns : goal.returns
returns c = normal-ip
