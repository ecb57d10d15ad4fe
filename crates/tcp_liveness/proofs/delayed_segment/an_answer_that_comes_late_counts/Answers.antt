use Rattle.tcp_liveness.proofs.LateAnswers.{late_answer}
use Rattle.tcp_liveness.proofs.delayed_segment.an_answer_that_comes_late_counts.Goals as goal

pub returns : goal.returns
returns c = record { counts = late_answer }
