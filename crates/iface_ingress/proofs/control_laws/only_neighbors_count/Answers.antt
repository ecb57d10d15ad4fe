use Rattle.iface_ingress.proofs.Hearing as Hearing
use Rattle.iface_ingress.proofs.control_laws.only_neighbors_count.Goals as goal

pub returns : goal.returns
returns c = record { passed_on = Hearing.passed-on; medium = Hearing.medium }
