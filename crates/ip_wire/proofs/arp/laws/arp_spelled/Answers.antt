use Rattle.ip_wire.proofs.ArpLaws.{bytes-written}
use Rattle.ip_wire.proofs.arp.laws.arp_spelled.Goals as goal

pub returns : goal.returns
returns c = bytes-written
