use Rattle.iface_ingress.proofs.Roomed.{finds_slot}
use Rattle.iface_ingress.proofs.fragment_laws.fragments_find_room.Goals as goal

pub returns : goal.returns
returns c i assemblers content p on some is fit = finds_slot i assemblers content p on some is fit
