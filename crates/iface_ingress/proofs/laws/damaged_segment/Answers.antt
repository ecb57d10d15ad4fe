use Rattle.iface_ingress.proofs.Kept.{brings_damaged_v4, brings_damaged_v6}
use Rattle.iface_ingress.proofs.laws.damaged_segment.Goals as goal

pub returns-clause-ipv4 : goal.returns-clause-ipv4
returns-clause-ipv4 c = λ i slots link header fragment payload a h is. brings_damaged_v4 i slots link header fragment payload a h is

pub returns-clause-ipv6 : goal.returns-clause-ipv6
returns-clause-ipv6 c = λ i slots link header payload a h is. brings_damaged_v6 i slots link header payload a h is
