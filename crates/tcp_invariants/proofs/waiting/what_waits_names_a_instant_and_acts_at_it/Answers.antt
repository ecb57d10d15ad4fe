use Rattle.tcp_invariants.proofs.WaitingRules.{names_instant, acts_then}
use Rattle.tcp_invariants.proofs.waiting.what_waits_names_a_instant_and_acts_at_it.Goals as goal

pub returns-clause-names : goal.returns-clause-names
returns-clause-names c = names_instant

pub returns-clause-acts : goal.returns-clause-acts
returns-clause-acts c = acts_then
