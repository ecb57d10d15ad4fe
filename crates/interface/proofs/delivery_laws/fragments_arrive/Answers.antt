use Rattle.interface.proofs.Offered.{first, later, begun_half, left_half}
use Rattle.interface.proofs.delivery_laws.fragments_arrive.Goals as goal

pub returns-clause-first : goal.returns-clause-first
returns-clause-first g c = first g.D.Device.moves

pub returns-clause-later : goal.returns-clause-later
returns-clause-later g c = later g.D.Device.moves

pub returns-clause-begun : goal.returns-clause-begun
returns-clause-begun g c = begun_half

pub returns-clause-left : goal.returns-clause-left
returns-clause-left g c = left_half
