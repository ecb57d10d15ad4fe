use Rattle.iface_ingress.proofs.FragmentAssemblers.{assemblers_stay, whole_stays}
use Rattle.iface_ingress.proofs.fragment_laws.wholes_go_by_themselves.Goals as goal

pub returns : goal.returns
returns c i timeout assemblers content none = (assemblers_stay i timeout assemblers content none, whole_stays i timeout assemblers content none)
