use Rattle.ip_wire.proofs.EthernetLaws.{IsEthernet-written}
use Rattle.ip_wire.proofs.ethernet.laws.ethernet_reads_back.Goals as goal

pub returns : goal.returns
returns c = IsEthernet-written
