use Rattle.interface.proofs.Sourced.{sourced_same, sourced_stays, sourced_chosen, sourced_none}
use Rattle.interface.proofs.poll_laws.sources_are_chosen.Goals as goal

pub returns-clause-same : goal.returns-clause-same
returns-clause-same c = sourced_same

pub returns-clause-stays : goal.returns-clause-stays
returns-clause-stays c = sourced_stays

pub returns-clause-chosen : goal.returns-clause-chosen
returns-clause-chosen c = sourced_chosen

pub returns-clause-none : goal.returns-clause-none
returns-clause-none c = sourced_none
