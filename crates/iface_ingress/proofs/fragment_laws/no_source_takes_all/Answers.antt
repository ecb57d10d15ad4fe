use Rattle.iface_ingress.proofs.Roomed.{others_stay}
use Rattle.iface_ingress.proofs.fragment_laws.no_source_takes_all.Goals as goal

pub returns : goal.returns
returns c i timeout assemblers content p other is has not_alike = others_stay i timeout assemblers content p other is has not_alike
