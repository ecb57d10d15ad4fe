use Rattle.iface_egress.proofs.Changes.{next_number}
use Rattle.iface_egress.proofs.laws.next_number_goes.Goals as goal

pub returns : goal.returns
returns c = next_number
