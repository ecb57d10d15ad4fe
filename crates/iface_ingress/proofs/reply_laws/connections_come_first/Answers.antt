use Rattle.iface_ingress.proofs.Answering.{connected_first}
use Rattle.iface_ingress.proofs.Segments.{accepted_there}
use Rattle.iface_ingress.proofs.reply_laws.connections_come_first.Goals as goal

pub returns-clause-accepted : goal.returns-clause-accepted
returns-clause-accepted c = accepted_there

pub returns-clause-connected : goal.returns-clause-connected
returns-clause-connected c = connected_first
