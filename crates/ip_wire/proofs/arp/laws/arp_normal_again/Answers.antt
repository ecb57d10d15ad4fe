use Rattle.ip_wire.proofs.ArpLaws.{normal-again}
use Rattle.ip_wire.proofs.arp.laws.arp_normal_again.Goals as goal

pub returns : goal.returns
returns c = normal-again
