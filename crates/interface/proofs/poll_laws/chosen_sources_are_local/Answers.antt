use Rattle.interface.proofs.Chosen.{chosen_local, packet_local}
use Rattle.interface.proofs.poll_laws.chosen_sources_are_local.Goals as goal

pub returns-clause-chosen : goal.returns-clause-chosen
returns-clause-chosen c = chosen_local

pub returns-clause-packet : goal.returns-clause-packet
returns-clause-packet c = packet_local
