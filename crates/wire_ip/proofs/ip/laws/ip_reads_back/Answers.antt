use Rattle.wire_ip.proofs.IpLaws.{IsIp-written}
use Rattle.wire_ip.proofs.ip.laws.ip_reads_back.Goals as goal

pub returns : goal.returns
returns c = IsIp-written
