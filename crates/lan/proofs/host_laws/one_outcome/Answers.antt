use Rattle.lan.proofs.Worlds.Hosts.OneWorld.{steps_once}
use Rattle.lan.proofs.host_laws.one_outcome.Goals as goal

pub returns : goal.returns
returns c = steps_once c.one_offer.ensures
