use Rattle.interface.proofs.BlackHoleLaws.{five_enough}
use Rattle.interface.proofs.black_hole_laws.five_lengths_are_enough.Goals as goal

pub returns : goal.returns
returns c = five_enough
