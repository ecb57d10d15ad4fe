use Rattle.base_wrappers.proofs.Waited.{waited_for}
use Rattle.base_wrappers.proofs.fault_laws.rates_are_waited_for.Goals as goal

pub returns : goal.returns
returns c = waited_for
