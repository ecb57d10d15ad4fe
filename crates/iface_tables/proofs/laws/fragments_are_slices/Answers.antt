use Rattle.iface_tables.proofs.ReassembledDatagram.{IsSliceOf-fragment_at, fragment_at-then}
use Rattle.iface_tables.proofs.laws.fragments_are_slices.Goals as goal

pub returns-clause-slice : goal.returns-clause-slice
returns-clause-slice c = IsSliceOf-fragment_at

pub returns-clause-in_turn : goal.returns-clause-in_turn
returns-clause-in_turn c = fragment_at-then
