use Rattle.proof_stack.proofs.Polls.NeverRests.{always_now, as_polled}
use Rattle.proof_stack.proofs.progress.excluded.rules_that_never_rest_are_refused.Goals as goal

pub returns-clause-always_now : goal.returns-clause-always_now
returns-clause-always_now c = always_now

pub returns-clause-as_polled : goal.returns-clause-as_polled
returns-clause-as_polled c = as_polled
