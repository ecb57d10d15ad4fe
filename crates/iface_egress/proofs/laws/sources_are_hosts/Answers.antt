use Rattle.iface_egress.proofs.Leaving.{leaves}
use Rattle.iface_egress.proofs.laws.sources_are_hosts.Goals as goal

pub returns : goal.returns
returns c = λ i busy p d is. leaves i busy p d is
