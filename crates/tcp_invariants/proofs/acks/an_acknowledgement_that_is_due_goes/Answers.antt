use Rattle.tcp_invariants.proofs.AckRules.{due_after_payload, twice_after_payload, stays_due, goes_when_due}
use Rattle.tcp_invariants.proofs.acks.an_acknowledgement_that_is_due_goes.Goals as goal

pub returns-clause-due : goal.returns-clause-due
returns-clause-due c = due_after_payload

pub returns-clause-twice : goal.returns-clause-twice
returns-clause-twice c = twice_after_payload

pub returns-clause-stays : goal.returns-clause-stays
returns-clause-stays c = stays_due

pub returns-clause-goes : goal.returns-clause-goes
returns-clause-goes c = goes_when_due
