use Rattle.wire_ip.proofs.Ipv4Laws.{key-read}
use Rattle.wire_ip.proofs.ipv4.laws.ipv4_key.Goals as goal

pub returns : goal.returns
returns c = key-read
