use Rattle.iface_egress.proofs.Short.{planned_short, fragment_short, arp_short}
use Rattle.iface_egress.proofs.laws.frames_are_short.Goals as goal

pub returns-clause-planned : goal.returns-clause-planned
returns-clause-planned c = planned_short

pub returns-clause-fragment : goal.returns-clause-fragment
returns-clause-fragment c = fragment_short

pub returns-clause-arp : goal.returns-clause-arp
returns-clause-arp c = arp_short
