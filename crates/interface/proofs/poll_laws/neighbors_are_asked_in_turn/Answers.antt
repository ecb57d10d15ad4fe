use Rattle.interface.proofs.Waiting.{none_before, asked_in_turn}
use Rattle.interface.proofs.poll_laws.neighbors_are_asked_in_turn.Goals as goal

pub returns-clause-first : goal.returns-clause-first
returns-clause-first c = none_before

pub returns-clause-in_turn : goal.returns-clause-in_turn
returns-clause-in_turn c = asked_in_turn
