use Rattle.wire_ip.proofs.IpLaws.{within}
use Rattle.wire_ip.proofs.ip.laws.ip_no_longer.Goals as goal

pub returns : goal.returns
returns c = within
