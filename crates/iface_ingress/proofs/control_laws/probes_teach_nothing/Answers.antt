use Rattle.iface_ingress.proofs.Taught.{untaught}
use Rattle.iface_ingress.proofs.control_laws.probes_teach_nothing.Goals as goal

pub returns : goal.returns
returns c = untaught
