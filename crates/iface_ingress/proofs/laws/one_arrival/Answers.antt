use Rattle.iface_ingress.proofs.OneArrival.{one_arrives_as, one_arrives}
use Rattle.iface_ingress.proofs.laws.one_arrival.Goals as goal

pub returns-clause-content : goal.returns-clause-content
returns-clause-content c = one_arrives_as

pub returns-clause-frame : goal.returns-clause-frame
returns-clause-frame c = one_arrives
