use Rattle.tcp_invariants.proofs.GivingUpRules.{ends_by_timeouts, ends_by_questions}
use Rattle.tcp_invariants.proofs.giving_up.a_connection_that_nobody_answers_ends.Goals as goal

pub returns-clause-timeouts : goal.returns-clause-timeouts
returns-clause-timeouts c = ends_by_timeouts

pub returns-clause-questions : goal.returns-clause-questions
returns-clause-questions c = ends_by_questions
