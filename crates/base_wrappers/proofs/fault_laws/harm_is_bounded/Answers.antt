use Rattle.base_wrappers.proofs.Harm.{bounded}
use Rattle.base_wrappers.proofs.fault_laws.harm_is_bounded.Goals as goal

pub returns : goal.returns
returns g c moves old new run = bounded g.D.Device.moves moves old new run
