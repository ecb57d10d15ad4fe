use Rattle.iface_egress.proofs.Stepping.{numbers-differ}
use Rattle.iface_egress.proofs.laws.numbers_differ.Goals as goal

pub returns : goal.returns
returns c = numbers-differ
