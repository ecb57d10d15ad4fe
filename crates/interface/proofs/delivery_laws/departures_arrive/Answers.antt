use Rattle.interface.proofs.Arrives.{arrives}
use Rattle.interface.proofs.delivery_laws.departures_arrive.Goals as goal

pub returns : goal.returns
returns c = arrives
