use Rattle.ip_wire.proofs.ArpLaws.{read}
use Rattle.ip_wire.proofs.arp.laws.arp_normal.Goals as goal

pub returns : goal.returns
returns c = read
