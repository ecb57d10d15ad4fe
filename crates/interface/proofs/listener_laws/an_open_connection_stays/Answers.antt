use Rattle.interface.proofs.Backlog.Gives.{open_stays, accepted_stays}
use Rattle.interface.proofs.listener_laws.an_open_connection_stays.Goals as goal

pub returns-clause-open : goal.returns-clause-open
returns-clause-open c = open_stays

pub returns-clause-accepted : goal.returns-clause-accepted
returns-clause-accepted c = accepted_stays
