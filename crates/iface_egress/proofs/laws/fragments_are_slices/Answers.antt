use Rattle.iface_egress.proofs.InTurn.{slices, units, in_turn}
use Rattle.iface_egress.proofs.laws.fragments_are_slices.Goals as goal

pub returns-clause-slices : goal.returns-clause-slices
returns-clause-slices c = slices

pub returns-clause-units : goal.returns-clause-units
returns-clause-units c = units

pub returns-clause-in_turn : goal.returns-clause-in_turn
returns-clause-in_turn c = in_turn
