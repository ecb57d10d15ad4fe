use Rattle.wire_ip.proofs.UdpLaws.{bytes-spelling}
use Rattle.wire_ip.proofs.udp.laws.udp_spelled.Goals as goal

pub returns : goal.returns
returns c = bytes-spelling
