use Rattle.ip_wire.proofs.ArpLaws.{within}
use Rattle.ip_wire.proofs.arp.laws.arp_no_longer.Goals as goal

pub returns : goal.returns
returns c = within
