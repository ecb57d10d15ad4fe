use Rattle.iface_ingress.proofs.Kept.{brings_kept, arrives_kept}
use Rattle.iface_ingress.proofs.laws.other_protocols.Goals as goal

pub returns-clause-whole : goal.returns-clause-whole
returns-clause-whole c = λ i slots content a h bare. brings_kept i slots content a h bare

pub returns-clause-any : goal.returns-clause-any
returns-clause-any c = λ i timeout assemblers slots content after a h bare whole. arrives_kept i timeout assemblers slots content after a h bare whole
