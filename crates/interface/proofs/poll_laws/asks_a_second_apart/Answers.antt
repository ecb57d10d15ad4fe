use Rattle.interface.proofs.Trace.{polls_traced, polls_traced_alone}
use Rattle.interface.proofs.poll_laws.asks_a_second_apart.Goals as goal

pub returns-clause-traced : goal.returns-clause-traced
returns-clause-traced g c = polls_traced g.D.Device.moves

pub returns-clause-few : goal.returns-clause-few
returns-clause-few g c = polls_traced_alone g.D.Device.moves
