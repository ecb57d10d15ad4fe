use Rattle.lan.proofs.Worlds.Moves.Protocols.{offered_names, replied_names}
use Rattle.lan.proofs.move_laws.packets_name_what_they_carry.Goals as goal

pub returns-clause-offered : goal.returns-clause-offered
returns-clause-offered c = offered_names

pub returns-clause-answered : goal.returns-clause-answered
returns-clause-answered c = replied_names
