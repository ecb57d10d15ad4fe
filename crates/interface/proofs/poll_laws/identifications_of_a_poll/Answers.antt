use Rattle.interface.proofs.Idents.{polls_take, polls_take_alone}
use Rattle.interface.proofs.poll_laws.identifications_of_a_poll.Goals as goal

pub returns-clause-taken : goal.returns-clause-taken
returns-clause-taken g c = polls_take g.D.Device.moves

pub returns-clause-few : goal.returns-clause-few
returns-clause-few g c = polls_take_alone g.D.Device.moves
