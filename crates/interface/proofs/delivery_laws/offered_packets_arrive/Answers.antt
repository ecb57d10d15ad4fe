use Rattle.interface.proofs.Offered.{whole, carried}
use Rattle.interface.proofs.delivery_laws.offered_packets_arrive.Goals as goal

pub returns-clause-whole : goal.returns-clause-whole
returns-clause-whole g c = whole g.D.Device.moves

pub returns-clause-carried : goal.returns-clause-carried
returns-clause-carried g c = carried
