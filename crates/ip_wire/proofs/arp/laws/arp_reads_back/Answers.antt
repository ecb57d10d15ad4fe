use Rattle.ip_wire.proofs.ArpLaws.{IsArp-written}
use Rattle.ip_wire.proofs.arp.laws.arp_reads_back.Goals as goal

pub returns : goal.returns
returns c = IsArp-written
