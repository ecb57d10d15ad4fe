use Rattle.wire_ip.proofs.IpLaws.{read-ip}
use Rattle.wire_ip.proofs.ip.laws.ip_normal.Goals as goal

pub returns : goal.returns
returns c = read-ip
