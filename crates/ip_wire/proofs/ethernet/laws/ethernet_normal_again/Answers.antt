use Rattle.ip_wire.proofs.EthernetLaws.{normal-again}
use Rattle.ip_wire.proofs.ethernet.laws.ethernet_normal_again.Goals as goal

pub returns : goal.returns
returns c = normal-again
