use Rattle.wire_ip.proofs.UdpLaws.{within}
use Rattle.wire_ip.proofs.udp.laws.udp_no_longer.Goals as goal

pub returns : goal.returns
returns c = within
