use Rattle.wire_ip.proofs.Ipv4Laws.{IsIpv4-written, payload_of-written}
use Rattle.wire_ip.proofs.ipv4.laws.ipv4_reads_back.Goals as goal

pub returns-clause-header : goal.returns-clause-header
returns-clause-header c = IsIpv4-written

pub returns-clause-payload : goal.returns-clause-payload
returns-clause-payload c = payload_of-written
