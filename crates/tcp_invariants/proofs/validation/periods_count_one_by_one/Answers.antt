use Rattle.tcp_invariants.proofs.ValidationRules.{one_more}
use Rattle.tcp_invariants.proofs.validation.periods_count_one_by_one.Goals as goal

pub returns-clause-one : goal.returns-clause-one
returns-clause-one c = one_more
