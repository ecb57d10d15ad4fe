use Rattle.ip_wire.proofs.EthernetLaws.{read}
use Rattle.ip_wire.proofs.ethernet.laws.ethernet_normal.Goals as goal

pub returns : goal.returns
returns c = read
