use Rattle.tcp_invariants.proofs.ValidationRules.{stays, counts, flight}
use Rattle.tcp_invariants.proofs.validation.a_window_that_is_not_used_does_not_grow.Goals as goal

pub returns-clause-stays : goal.returns-clause-stays
returns-clause-stays c = stays

pub returns-clause-counts : goal.returns-clause-counts
returns-clause-counts c = counts

pub returns-clause-flight : goal.returns-clause-flight
returns-clause-flight c = flight
