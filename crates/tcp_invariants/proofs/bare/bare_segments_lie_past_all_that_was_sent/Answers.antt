use Rattle.tcp_invariants.proofs.ArrivalRules.{answers_past_all}
use Rattle.tcp_invariants.proofs.bare.bare_segments_lie_past_all_that_was_sent.Goals as goal

pub returns-clause-answers : goal.returns-clause-answers
returns-clause-answers c = answers_past_all
