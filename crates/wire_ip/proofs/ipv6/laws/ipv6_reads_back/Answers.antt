use Rattle.wire_ip.proofs.Ipv6Laws.{IsIpv6-written, payload_of-written}
use Rattle.wire_ip.proofs.ipv6.laws.ipv6_reads_back.Goals as goal

pub returns-clause-header : goal.returns-clause-header
returns-clause-header c = IsIpv6-written

pub returns-clause-payload : goal.returns-clause-payload
returns-clause-payload c = payload_of-written
