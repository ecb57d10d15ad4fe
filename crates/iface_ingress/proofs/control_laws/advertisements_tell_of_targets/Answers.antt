use Rattle.iface_ingress.proofs.Taught.{told}
use Rattle.iface_ingress.proofs.control_laws.advertisements_tell_of_targets.Goals as goal

pub returns : goal.returns
returns c = told
