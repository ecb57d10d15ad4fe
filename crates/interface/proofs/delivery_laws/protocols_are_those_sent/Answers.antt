use Rattle.interface.proofs.Named.{names-same, names-none}
use Rattle.interface.proofs.delivery_laws.protocols_are_those_sent.Goals as goal

pub returns-clause-same : goal.returns-clause-same
returns-clause-same c = names-same

pub returns-clause-no_ports : goal.returns-clause-no_ports
returns-clause-no_ports c = names-none
