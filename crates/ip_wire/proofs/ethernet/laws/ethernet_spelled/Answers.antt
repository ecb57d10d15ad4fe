use Rattle.ip_wire.proofs.EthernetLaws.{bytes-written}
use Rattle.ip_wire.proofs.ethernet.laws.ethernet_spelled.Goals as goal

pub returns : goal.returns
returns c = bytes-written
