use Rattle.tcp_invariants.proofs.ValidationRules.{halves, hour, least, most, keeps}
use Rattle.tcp_invariants.proofs.validation.a_window_that_is_not_used_lapses.Goals as goal

pub returns-clause-halves : goal.returns-clause-halves
returns-clause-halves c = halves

pub returns-clause-hour : goal.returns-clause-hour
returns-clause-hour c = hour

pub returns-clause-least : goal.returns-clause-least
returns-clause-least c = least

pub returns-clause-most : goal.returns-clause-most
returns-clause-most c = most

pub returns-clause-keeps : goal.returns-clause-keeps
returns-clause-keeps c = keeps
