use Rattle.interface.proofs.BlackHoles.{quiet_paths}
use Rattle.interface.proofs.black_hole_laws.nothing_is_told_early.Goals as goal

pub returns : goal.returns
returns c = quiet_paths
