use Rattle.wire_ip.proofs.Ipv4Laws.{bytes-spelling}
use Rattle.wire_ip.proofs.ipv4.laws.ipv4_spelled.Goals as goal

pub returns : goal.returns
returns c = bytes-spelling
