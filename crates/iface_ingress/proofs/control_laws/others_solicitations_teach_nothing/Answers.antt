use Rattle.iface_ingress.proofs.Hearing as Hearing
use Rattle.iface_ingress.proofs.control_laws.others_solicitations_teach_nothing.Goals as goal

pub returns : goal.returns
returns c = Hearing.for-other
