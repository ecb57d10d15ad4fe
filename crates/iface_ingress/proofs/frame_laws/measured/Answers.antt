use Rattle.iface_ingress.proofs.Measured.{measured}
use Rattle.iface_ingress.proofs.frame_laws.measured.Goals as goal

pub returns : goal.returns
returns c = measured
