use Rattle.std.proofs.Common.{negsuc}
use Rattle.sim_link.specs.declared.line.Line.TheVariants.{Poll, PollAt}
use Rattle.sim_link.proofs.Moments.{words_timely}
use Rattle.sim_link.proofs.line_laws.no_line_names_a_instant_before_the_start.Goals as goal

pub returns-clause-poll : goal.returns-clause-poll
returns-clause-poll c text side back budget says = words_timely _ (Poll side (negsuc back) budget) says.1

pub returns-clause-poll_at : goal.returns-clause-poll_at
returns-clause-poll_at c text side back says = words_timely _ (PollAt side (negsuc back)) says.1
