use Rattle.iface_ingress.proofs.Hearing.{entries-alone}
use Rattle.iface_ingress.proofs.control_laws.entries_alone.Goals as goal

pub returns : goal.returns
returns c = entries-alone
