use Rattle.lan.proofs.Worlds.PortMoves.{determined, takes, ready}
use Rattle.lan.proofs.port_laws.ports_are_determined.Goals as goal

pub returns-clause-determined : goal.returns-clause-determined
returns-clause-determined c = determined

pub returns-clause-takes : goal.returns-clause-takes
returns-clause-takes c = takes

pub returns-clause-ready : goal.returns-clause-ready
returns-clause-ready c = ready
