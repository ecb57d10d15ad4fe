use Rattle.wire_ip.proofs.UdpLaws.{IsUdp-written, payload_of-written}
use Rattle.wire_ip.proofs.udp.laws.udp_reads_back.Goals as goal

pub returns-clause-header : goal.returns-clause-header
returns-clause-header c = IsUdp-written

pub returns-clause-payload : goal.returns-clause-payload
returns-clause-payload c = payload_of-written
