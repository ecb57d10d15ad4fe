use Rattle.tcp_refinement.proofs.AnsweredLaws.{keeps_listen, keeps_connect}
use Rattle.tcp_refinement.proofs.answered.answered_calls_keep_the_invariant.Goals as goal

pub returns-clause-listen : goal.returns-clause-listen
returns-clause-listen c = keeps_listen

pub returns-clause-connect : goal.returns-clause-connect
returns-clause-connect c = keeps_connect
