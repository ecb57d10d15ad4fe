use Rattle.interface.proofs.AtOnce.{left_turns, refused_turns, turns_back}
use Rattle.interface.proofs.poll_laws.sending_is_queueing_and_a_turn.Goals as goal

pub returns-clause-left : goal.returns-clause-left
returns-clause-left g c = left_turns g.D.Device.moves

pub returns-clause-refused : goal.returns-clause-refused
returns-clause-refused g c = refused_turns g.D.Device.moves

pub returns-clause-turn : goal.returns-clause-turn
returns-clause-turn g c = turns_back g.D.Device.moves
